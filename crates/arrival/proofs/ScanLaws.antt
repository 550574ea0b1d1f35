-- Where the scan starts, how it goes on past a stretch, and what holds at its end. Assumes nothing.
use Prim.Native.Nat.{ℕ, zero, suc, ◌+◌, ◌-◌, ◌*◌, ◌≤◌, ◌<◌}
use native.Mathlib.Nat.{eq-or-lt_of_le, zero-lt-suc, mul-le-mul_right}
use native.Mathlib.Omega.{arith}
use mathlib.Core.Path.{◌≡◌, refl, sym, ◌∙◌, subst}
use mathlib.Core.Bool.{Bool, true, false, cond, not, ◌&&◌, ◌||◌, true≢false}
use mathlib.Core.Logic.{◌⊎◌, inl, inr, ⊎_elim}
use mathlib.Core.List.{List}
use Rattle.std.specs.Prelude.{Some, None, MatchOption}
use Rattle.std.specs.Bool.{then_some}
use Rattle.std.specs.Option.{option_or}
use borrow.Author.Tests.{ltb-false, eqb-true, eqb-false, eq-eqb, not-false}
use lib.Dec.{eqb, ltb}
use lib.ListN.{length}
use lib.Ieee.{Float, nan, inf, fin, lt, is_nan, of_bits}
use Rattle.doubles.specs.Value.{Fits, Finite}
use lib.Ieee.Bits.{is_true}
use lib.Ieee.Scale.{finite}
use Rattle.doubles.specs.Operators.{◌<ᶠ◌, ◌≤ᶠ◌, ◌==ᶠ◌, at}
use Rattle.doubles.specs.Constants.{0ᶠ}
use Rattle.doubles.proofs.CondLaws.{by_cases, cond_by}
use Rattle.doubles.proofs.FunctionLaws.{holds}
use Rattle.doubles.proofs.ComparisonLaws.{lt_irreflexive, lt_transitive, not_through, lt_eq, lt_le, not_below}
use Rattle.doubles.proofs.UnsignedLaws.{left_number, right_number, finite_number, equals_itself, equal_of_neither}
use Rattle.doubles.proofs.UnsignedLaws.{zero_unsigned, unsigned_not_negative, above_unsigned}
use Rattle.arrival.specs.Axes.{axis_of, missing, blocks, free, ends_at, has, wrong_axis}
use Rattle.arrival.specs.Arrivals.{wrong_count, WellFormed, FreeForAll, Earliest}
use Rattle.arrival.specs.Steps.{past, above, Time, Among, Latest, Reached, Passed}
use Rattle.arrival.specs.Steps.{Found, NeverFound, NoneHas, Lowest}
use Rattle.arrival.specs.declared.axis.Axis.{Axis}

pub clash : {X : Type 0} {b : Bool} → b ≡ true → b ≡ false → X
clash t f = absurd (true≢false (sym t ∙ f))

or_left : (a b : Bool) → a ≡ true → (a || b) ≡ true
or_left a b h = rw h

or_right : (a b : Bool) → b ≡ true → (a || b) ≡ true
or_right true b h = refl
or_right false b h = h

and_false : (a : Bool) → (a && false) ≡ false
and_false true = refl
and_false false = refl

-- a fact of the numbers below n, and one of n
pub below_next : (P : ℕ → Type 0) (n : ℕ) → ((i : ℕ) → i < n → P i) → P n → (i : ℕ) → i < n + 1 → P i
below_next P n f p i h =
    ⊎_elim (λ e. subst P (sym e) p) (λ l. f i l) (split i n h)
  where
    split : (i n : ℕ) → i < n + 1 → (i ≡ n) ⊎ (i < n)
    split i n h = eq-or-lt_of_le (omega arith)

-- ---- the largest duration
time_above : (x y : Float) → Time x → (x <ᶠ y) ≡ true → Time y
time_above x y h l = record { number = right_number x y l; unsigned = above_unsigned x y h.unsigned l }

zero_time : Time 0ᶠ
zero_time = record { number = unfold is_nan of_bits in refl; unsigned = zero_unsigned }

wider : (l : List Float) (n : ℕ) (t : Float) → (t ≡ 0ᶠ) ⊎ Among l n t → (t ≡ 0ᶠ) ⊎ Among l (n + 1) t
wider l n t (inl e) = inl e
wider l n t (inr h) = inr (record { index = h.index; below = omega (arith, h.below); is = h.is })

module _ (durations : List Float) where
  pub latest_of_none : Latest durations 0 0ᶠ
  latest_of_none =
      record { time = zero_time; among = inl refl; none_later = λ i h. absurd (let z : ⊥ = omega arith in z) }

  pub latest_kept : (n : ℕ) (t : Float) → Latest durations n t → (t <ᶠ at durations n) ≡ false
      → Latest durations (n + 1) t
  latest_kept n t h l =
      record {
        time = h.time;
        among = wider durations n t h.among;
        none_later = below_next (λ i. (t <ᶠ at durations i) ≡ false) n h.none_later l;
      }

  pub latest_taken : (n : ℕ) (t : Float) → Latest durations n t → (t <ᶠ at durations n) ≡ true
      → Latest durations (n + 1) (at durations n)
  latest_taken n t h l =
      let d = at durations n in
      record {
        time = time_above t d h.time l;
        among = inr (record { index = n; below = omega arith; is = refl });
        none_later = below_next (λ i. (d <ᶠ at durations i) ≡ false) n
            (λ i k. not_later i (h.none_later i k))
            (lt_irreflexive d);
      }
    where
      not_later : (i : ℕ) → (t <ᶠ at durations i) ≡ false → (at durations n <ᶠ at durations i) ≡ false
      not_later i e =
          by_cases (at durations n <ᶠ at durations i)
          (λ g. clash l (not_through t (at durations n) (at durations i) g e)) (λ g. g)

  pub latest_of_all : {n : ℕ} {t : Float} → Latest durations n t → n ≡ length durations
      → Latest durations (length durations) t
  latest_of_all {n} {t} h e = subst (λ (m : ℕ). Latest durations m t) e h

-- ---- an axis
module _ (x : Axis) (t : Float) where
  below_not_free : (t <ᶠ x.duration) ≡ true → free x t ≡ true → ⊥
  unfolding free
  below_not_free l h = true≢false (sym (rw l at h))

  inside_not_free : blocks x.a.left x.a.right t || blocks x.b.left x.b.right t ≡ true
      → free x t ≡ true → ⊥
  unfolding free
  inside_not_free h f =
      go (not (t <ᶠ x.duration)) (blocks x.a.left x.a.right t) (blocks x.b.left x.b.right t) h f
    where
      go : (a b c : Bool) → (b || c) ≡ true → (a && not b && not c) ≡ true → ⊥
      go false b c h f = true≢false (sym f)
      go true true c h f = true≢false (sym f)
      go true false c h f = true≢false (sym f ∙ (rw h))

-- ---- a stretch that t is inside, for a time t
module _ (left right t : Float) (time : Time t) (l : (left <ᶠ t) ≡ true) (r : (t <ᶠ right) ≡ true) where
  -- it is there: its right end is above 0
  right_not_zero : (right ==ᶠ 0ᶠ) ≡ false
  right_not_zero =
      by_cases (right ==ᶠ 0ᶠ)
      (λ e. clash
      (is_true (t <ᶠ 0ᶠ) (lt_eq t right 0ᶠ (holds (t <ᶠ right) r) (holds (right ==ᶠ 0ᶠ) e)))
      (unsigned_not_negative t time.unsigned))
      (λ e. e)

  is_there : missing left right ≡ false
  is_there = rw right_not_zero (and_false (left ==ᶠ 0ᶠ))

  pub ends_there : ends_at left right right ≡ true
  ends_there = rw (is_there, equals_itself right (right_number t right r))

  -- and from t up to its right end no time is free
  pub blocks_from : (s : Float) → (s <ᶠ t) ≡ false → (s <ᶠ right) ≡ true → blocks left right s ≡ true
  blocks_from s h g =
      let after = is_true (t ≤ᶠ s) (not_below s t (left_number s right g) time.number h) in
      rw (is_there, lt_le left t s l after, g)

-- ---- past a stretch
pub record Pushed (x : Axis) (t r : Float) : Type 0 where
  pub later : (t <ᶠ r) ≡ true
  pub has_it : has x r ≡ true
  pub none_between : (s : Float) → (s <ᶠ t) ≡ false → (s <ᶠ r) ≡ true → free x s ≡ true → ⊥
  pub end_of : (r ≡ x.a.right) ⊎ (r ≡ x.b.right)

module _ (x : Axis) (t : Float) (time : Time t) where
  past_a : (x.a.left <ᶠ t) ≡ true → (t <ᶠ x.a.right) ≡ true → Pushed x t x.a.right
  unfolding has
  past_a l r =
      record {
        later = r;
        has_it = or_left _ _
            (or_right (x.duration ==ᶠ x.a.right) _ (ends_there x.a.left x.a.right t time l r));
        none_between = λ s h g. inside_not_free x s
            (or_left _ _ (blocks_from x.a.left x.a.right t time l r s h g));
        end_of = inl refl;
      }

  past_b : (x.b.left <ᶠ t) ≡ true → (t <ᶠ x.b.right) ≡ true → Pushed x t x.b.right
  unfolding has
  past_b l r =
      record {
        later = r;
        has_it = or_right ((x.duration ==ᶠ x.b.right) || ends_at x.a.left x.a.right x.b.right) _
            (ends_there x.b.left x.b.right t time l r);
        none_between = λ s h g. inside_not_free x s
            (or_right (blocks x.a.left x.a.right s) _
            (blocks_from x.b.left x.b.right t time l r s h g));
        end_of = inr refl;
      }

  -- a right end is given where t is inside
  pub pushed : (r : Float) → past x t ≡ Some r → Pushed x t r
  unfolding past
  pushed r = go ((x.a.left <ᶠ t) && (t <ᶠ x.a.right)) refl ((x.b.left <ᶠ t) && (t <ᶠ x.b.right)) refl
    where
      both : (a b : Bool) → (a && b) ≡ true → (a ≡ true) × (b ≡ true)
      both true b h = (refl, h)
      both false b h = absurd (true≢false (sym h))

      some_same : {u v : Float} → Some u ≡ Some v → u ≡ v
      some_same h = cc

      go : (a : Bool) → ((x.a.left <ᶠ t) && (t <ᶠ x.a.right)) ≡ a
          → (b : Bool) → ((x.b.left <ᶠ t) && (t <ᶠ x.b.right)) ≡ b
          → option_or (cond a (Some x.a.right) None) (cond b (Some x.b.right) None) ≡ Some r
          → Pushed x t r
      go true e b f h =
          let k = both _ _ e in
          let g : x.a.right ≡ r = some_same h in
          subst (λ (s : Float). Pushed x t s) g (past_a k.0 k.1)
      go false e true f h =
          let k = both _ _ f in
          let g : x.b.right ≡ r = some_same h in
          subst (λ (s : Float). Pushed x t s) g (past_b k.0 k.1)
      go false e false f h = absurd (let z : ⊥ = cc in z)

  -- and none where it is outside
  pub outside_free : (t <ᶠ x.duration) ≡ false → past x t ≡ None → free x t ≡ true
  unfolding past free
  outside_free d =
      go ((x.a.left <ᶠ t) && (t <ᶠ x.a.right)) ((x.b.left <ᶠ t) && (t <ᶠ x.b.right))
      (missing x.a.left x.a.right) (missing x.b.left x.b.right)
    where
      outside : (m n : Bool) → (not (not m && false) && not (not n && false)) ≡ true
      outside m n = rw (and_false (not m), and_false (not n))

      go : (a b m n : Bool) → option_or (cond a (Some x.a.right) None) (cond b (Some x.b.right) None) ≡ None
          → (not (t <ᶠ x.duration) && not (not m && a) && not (not n && b)) ≡ true
      go true b m n h = absurd (let z : ⊥ = cc in z)
      go false true m n h = absurd (let z : ⊥ = cc in z)
      go false false m n h = rw d (outside m n)

-- ---- the right ends above a time
fewer : (r t x : Float) → (t <ᶠ r) ≡ true → cond (r <ᶠ x) 1 0 ≤ cond (t <ᶠ x) 1 0
fewer r t x l = go (r <ᶠ x) (t <ᶠ x) (λ h. is_true (t <ᶠ x) (lt_transitive t r x (holds (t <ᶠ r) l) (holds (r <ᶠ x) h)))
  where
    go : (a b : Bool) → (a ≡ true → b ≡ true) → cond a 1 0 ≤ cond b 1 0
    go true true h = omega arith
    go false b h = cond_by (λ (n : ℕ). 0 ≤ n) b (λ _. omega arith) (λ _. omega arith)
    go true false h = clash (h refl) refl

module _ (f : ℕ → Axis) (t r : Float) (l : (t <ᶠ r) ≡ true) where
  one_fewer : (x : Float) → r ≡ x → cond (r <ᶠ x) 1 0 < cond (t <ᶠ x) 1 0
  one_fewer x e = rw (← e, lt_irreflexive r, l) (omega arith)

  above_fewer : (n : ℕ) → above f n r ≤ above f n t
  unfolding above
  above_fewer zero = omega arith
  above_fewer (suc n) = omega (arith, above_fewer n, fewer r t (f n).a.right l, fewer r t (f n).b.right l)

  pub above_less : (n k : ℕ) → k < n → (r ≡ (f k).a.right) ⊎ (r ≡ (f k).b.right) → above f n r < above f n t
  unfolding above
  above_less zero k h e = absurd (let z : ⊥ = omega arith in z)
  above_less (suc n) k h e = ⊎_elim
      (λ (i : k ≡ n). at_last (subst (λ (j : ℕ). (r ≡ (f j).a.right) ⊎ (r ≡ (f j).b.right)) i e))
      (λ (i : k < n). omega (
        arith,
        above_less n k i e,
        fewer r t (f n).a.right l,
        fewer r t (f n).b.right l,
      ))
      (eq-or-lt_of_le (omega arith))
    where
      at_last : (r ≡ (f n).a.right) ⊎ (r ≡ (f n).b.right) → above f (suc n) r < above f (suc n) t
      at_last (inl i) = omega (arith, above_fewer n, one_fewer (f n).a.right i, fewer r t (f n).b.right l)
      at_last (inr i) = omega (arith, above_fewer n, fewer r t (f n).a.right l, one_fewer (f n).b.right i)

-- ---- what number 9 leaves
neither : (a b : Bool) → (a || b) ≡ false → (a ≡ false) × (b ≡ false)
neither true b e = absurd (true≢false e)
neither false b e = (refl, e)

pub few_of : (n : ℕ) → (eqb n 0 || ltb 8 n) ≡ false → n ≤ 8
few_of n h = ltb-false 8 n (neither (eqb n 0) _ h).1

module _ (durations ends : List Float) (h : wrong_count durations ends ≡ false) where
  count_right : (eqb (length durations) 0 || ltb 8 (length durations)) ≡ false
  unfolding wrong_count
  count_right = (neither _ _ h).0

  pub some_axis : 0 < length durations
  some_axis = positive (length durations) (eqb-false (length durations) 0 (neither _ _ count_right).0)
    where
      positive : (n : ℕ) → (n ≡ 0 → ⊥) → 0 < n
      positive zero f = absurd (f refl)
      positive (suc n) f = zero-lt-suc n

  pub few_axes : length durations ≤ 8
  few_axes = few_of (length durations) count_right

  pub four_ends : length ends ≡ 4 * length durations
  unfolding wrong_count
  four_ends =
      eqb-true (length ends) (4 * length durations)
      (not-false _ (neither (eqb (length durations) 0 || ltb 8 (length durations)) _ h).1)

module _ (x : Axis) (h : wrong_axis x ≡ false) where
  duration_right : ((x.duration <ᶠ 0ᶠ) || not (finite x.duration)) ≡ false
  unfolding wrong_axis
  duration_right = (neither _ _ (neither _ _ h).0).0

  duration_not_negative : (x.duration <ᶠ 0ᶠ) ≡ false
  duration_not_negative = (neither _ _ duration_right).0

  duration_number : is_nan x.duration ≡ false
  duration_number =
      finite_number x.duration
      (holds (finite x.duration) (not-false _ (neither (x.duration <ᶠ 0ᶠ) _ duration_right).1))

-- ---- all axes
module _ (durations ends : List Float) where
  abbrev axis_at : ℕ → Axis
  axis_at = axis_of durations ends

  duration_is : (i : ℕ) → (axis_at i).duration ≡ at durations i
  unfolding axis_of
  duration_is i = refl

  -- the scan starts at the largest duration
  starts_at : (t : Float) (k : ℕ) → k < length durations → (t ==ᶠ at durations k) ≡ true → (at durations k ==ᶠ t) ≡ true
      → Latest durations (length durations) t → Reached durations ends t
  unfolding has
  starts_at t k there e g h =
      record {
        time = h.time;
        no_smaller = λ s l all. below_not_free (axis_at k) s
            (rw (duration_is k) (is_true (s <ᶠ at durations k)
            (lt_eq s t (at durations k) (holds (s <ᶠ t) l) (holds (t ==ᶠ at durations k) e))))
            (all k there);
        none_later = h.none_later;
        axis = k;
        there = there;
        has_it = or_left _ _ (or_left ((axis_at k).duration ==ᶠ t) _ (rw (duration_is k) g));
      }

  pub starts : (t : Float) → WellFormed durations ends → Latest durations (length durations) t
      → Reached durations ends t
  starts t w h = go h.among
    where
      go : (t ≡ 0ᶠ) ⊎ Among durations (length durations) t → Reached durations ends t
      go (inr k) =
          let e : (t ==ᶠ t) ≡ true = equals_itself t h.time.number in
          starts_at t k.index k.below (rw (← k.is) e) (rw (← k.is) e) h
      go (inl z) =
          let there = some_axis durations ends w.count in
          let number : is_nan (at durations 0) ≡ false =
          rw (duration_is 0) at (duration_number (axis_at 0) (w.axes 0 there)) in
          let not-below-t : (at durations 0 <ᶠ t) ≡ false =
          rw z (rw (duration_is 0) at (duration_not_negative (axis_at 0) (w.axes 0 there))) in
          starts_at t 0 there
          (equal_of_neither t (at durations 0) h.time.number number (h.none_later 0 there) not-below-t)
          (equal_of_neither (at durations 0) t number h.time.number not-below-t (h.none_later 0 there)) h

  -- and goes on past a stretch
  pub goes_on : (t : Float) (k : ℕ) → Reached durations ends t → k < length durations
      → (r : Float) → past (axis_at k) t ≡ Some r → Reached durations ends r
  goes_on t k h there r e =
      let p = pushed (axis_at k) t h.time r e in
      record {
        time = time_above t r h.time p.later;
        no_smaller = λ s g all. by_cases (s <ᶠ t)
            (λ i. h.no_smaller s i all)
            (λ i. p.none_between s i g (all k there));
        none_later = λ i g. by_cases (r <ᶠ at durations i)
            (λ e. clash p.later (not_through t r (at durations i) e (h.none_later i g)))
            (λ e. e);
        axis = k;
        there = there;
        has_it = p.has_it;
      }

  -- ---- the loop: past the axes, and again from the first wherever the time is inside a stretch
  pub none_passed : {t : Float} → WellFormed durations ends → Latest durations (length durations) t
      → Passed durations ends 0 t
  none_passed w h = record { reached = starts _ w h; outside = λ i l. absurd (let z : ⊥ = omega arith in z) }

  pub one_passed : (n : ℕ) (t : Float) → Passed durations ends n t → past (axis_at n) t ≡ None
      → Passed durations ends (n + 1) t
  one_passed n t h e =
      record {
        reached = h.reached;
        outside = below_next (λ i. past (axis_at i) t ≡ None) n h.outside e;
      }

  pub all_passed : {n : ℕ} {t : Float} → Passed durations ends n t → n ≡ length durations
      → Passed durations ends (length durations) t
  all_passed {n} {t} h e = subst (λ (m : ℕ). Passed durations ends m t) e h

  module _ (k : ℕ) (t r : Float) (h : Passed durations ends k t) (there : k < length durations)
      (e : past (axis_at k) t ≡ Some r) where
    pub again : Passed durations ends 0 r
    again =
        record {
          reached = goes_on t k h.reached there r e;
          outside = λ i l. absurd (let z : ⊥ = omega arith in z);
        }

    -- each time with fewer right ends above
    fewer_above : above axis_at (length durations) r < above axis_at (length durations) t
    fewer_above =
        let p = pushed (axis_at k) t h.reached.time r e in
        above_less axis_at t r p.later (length durations) k there p.end_of

    pub fewer_turns : (i j : ℕ)
        → above axis_at (length durations) r * suc (length durations) + (length durations - j)
        < above axis_at (length durations) t * suc (length durations) + (length durations - i)
    fewer_turns i j = omega (arith, mul-le-mul_right (suc (length durations)) fewer_above)

  -- at its end the time is free for all
  pub ends_free : (t : Float) → Passed durations ends (length durations) t → FreeForAll durations ends t
  ends_free t h i l =
      outside_free (axis_at i) t h.reached.time (rw (duration_is i) (h.reached.none_later i l)) (h.outside i l)

  -- ---- number 9
  pub refused_by_count : (eqb (length durations) 0 || ltb 8 (length durations)) ≡ true
      → WellFormed durations ends → ⊥
  refused_by_count h w = clash h (count_right durations ends w.count)

  pub refused_by_length : (length ends ≡ 4 * length durations → ⊥) → WellFormed durations ends → ⊥
  refused_by_length h w = h (four_ends durations ends w.count)

  pub admitted : (n : ℕ) → n ≡ length durations → (eqb (length durations) 0 || ltb 8 (length durations)) ≡ false
      → length ends ≡ 4 * length durations → ((i : ℕ) → i < n → wrong_axis (axis_at i) ≡ false)
      → WellFormed durations ends
  unfolding wrong_count
  admitted n e h m f =
      record {
        count = rw (h, eq-eqb (length ends) (4 * length durations) m);
        axes = λ i l. f i (rw (← e) at l);
      }

  -- ---- the end of the scan

  -- every finite number is below a time that isn't finite
  finite_below : (t s : Float) → Time t → finite t ≡ false → Finite s → (s <ᶠ t) ≡ true
  unfolding lt is_nan of_bits
  finite_below nan s h e i = absurd (true≢false h.number)
  finite_below (inf false) nan h e i = absurd i
  finite_below (inf false) (inf u) h e i = absurd i
  finite_below (inf false) (fin u m k) h e i = refl
  finite_below (inf true) s h e i = absurd (true≢false (unsigned_not_negative (inf true) h.unsigned))
  finite_below (fin u m k) s h e i = clash refl e

  pub never : {t : Float} → Passed durations ends (length durations) t → finite t ≡ false
      → (s : Float) → Finite s → FreeForAll durations ends s → ⊥
  never {t} h e s i = h.reached.no_smaller s (finite_below t s h.reached.time e i)

  -- so it is the earliest if it is finite, else there is none
  pub found : {t : Float} → Passed durations ends (length durations) t
      → MatchOption (then_some (finite t) t) (NeverFound durations ends) (λ s. Found durations ends s)
  found {t} h = go (finite t) refl
    where
      go : (b : Bool) → finite t ≡ b
          → MatchOption (then_some b t) (NeverFound durations ends) (λ s. Found durations ends s)
      go true e = record { finite = holds (finite t) e; passed = h }
      go false e = never h e

  -- ---- the lowest axis

  -- an axis has the time, so it isn't so that none has
  pub some_has : {t : Float} → Reached durations ends t → NoneHas durations ends t (length durations) → ⊥
  some_has h none = clash h.has_it (none h.axis h.there)

  pub earliest : {t : Float} {k : ℕ} → Fits t → Found durations ends t → Lowest durations ends t k
      → Earliest durations ends t k
  earliest {t} {k} d f l =
      let h = f.passed in
      record {
        double = d;
        finite = f.finite;
        not_minus_zero = h.reached.time.unsigned;
        free = ends_free t h;
        no_smaller = h.reached.no_smaller;
        there = l.there;
        has_it = l.has_it;
        lowest = l.lowest;
      }

-- whether two slices are those of `Axes`
pub ruleset judged = (refused_by_count, refused_by_length, admitted)
