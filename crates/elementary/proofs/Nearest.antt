-- The definition's number is the nearest one, for any number of digits p above 0
-- (`nearest_any_width`), and there is no other (`nearest_unique`). Assumes nothing.
use mathlib.Core.Path.{◌≡◌, refl, sym, ap, ◌∙◌, subst}
use mathlib.Core.Logic.{◌⊎◌, inl, inr}
use Prim.Native.Nat.{ℕ, zero, suc, ◌+◌, ◌-◌, ◌*◌, ◌/◌, ◌%◌, ◌^◌, ◌≤◌, ◌<◌, Ordering}
use native.Mathlib.Nat.{eq-or-lt_of_le, lt_of_not-le, lt_of_le_of_lt, le_trans, le_of_eq, le_antisymm, le_of_suc-le-suc}
use native.Mathlib.Nat.{add-zero, add_comm, one-mul, mul_assoc, pow-succ', mul-le-mul_right, mul-lt-mul_of_pos_right}
use native.Mathlib.Nat.{lt_of_mul-lt-mul_right, eq_of_mul-eq-mul_right}
use native.Mathlib.Numerals.{add-one}
use native.Mathlib.Decide.{dec_le}
use native.Mathlib.Omega.{arith}
use mathlib.Core.Bool.{Bool}
use lib.Dec.{T, is_le}
use lib.Pow.{pow_pos, pow-add, pow_mono, pow-lt}
use lib.Ieee.{Format, prec, low, emax, nearest}
use lib.Ieee.Exact.{HasValue, units_val}
use lib.Ieee.Fits.{nearest-le, two, two-le_pos}
use Rattle.elementary.specs.Nearest.{Real, is_ge, AtMost, Above, Monotone, Bounded, Representable, EvenBeside}
use Rattle.elementary.specs.Nearest.{Nearest, floor_of, exponent_of, significand_of, nearest_units, nearest_to}
use Rattle.elementary.proofs.Order.{gt→ge, lt→le, eq→ge, ge_or_lt, at_most_lt_above, at_most_le, above_le}
use Rattle.elementary.proofs.Bracket.{Bracket, own_bracket}

-- ---- the nearer of the two neighbours is the nearest number of p digits

module _ (p : ℕ) (some : 0 < p) (real : Real) (mono : Monotone real) (q k : ℕ) (bracket : Bracket p real q k) where
  twice_unit : 2 ^ suc k ≡ 2 * 2 ^ k
  twice_unit = pow-succ' 2 k

  -- no number of p digits lies strictly between the two
  apart : (w : ℕ) → Representable p w → (w ≤ q * 2 ^ k) ⊎ (suc q * 2 ^ k ≤ w)
  apart w (m, j, few, e) = elim (dec_le w (q * 2 ^ k)) [
    | yes h ↦ inl h
    | no f ↦ inr (step (lt_of_not-le f) (dec_le k j))
  ]
    where
      step : q * 2 ^ k < w → Dec (k ≤ j) → suc q * 2 ^ k ≤ w
      step h (yes g) =
          let split : w ≡ m * 2 ^ (j - k) * 2 ^ k =
          e ∙ ap (λ (x : ℕ). m * x)
          (ap (λ (x : ℕ). 2 ^ x) (let z : j ≡ j - k + k = omega arith in z) ∙ pow-add 2 (j - k) k)
          ∙ sym (mul_assoc m (2 ^ (j - k)) (2 ^ k)) in
          subst (λ (x : ℕ). suc q * 2 ^ k ≤ x) (sym split)
          (mul-le-mul_right (2 ^ k) (lt_of_mul-lt-mul_right (2 ^ k) (subst (λ (x : ℕ). q * 2 ^ k < x) split h)))
      step h (no g) =
          let l : suc j ≤ k = lt_of_not-le g in
          elim bracket.normal [
            | inl z ↦ absurd (nothing j k l z)
            | inr f ↦
                let a : w < 2 ^ (p + j) =
                subst (λ (x : ℕ). x < 2 ^ (p + j)) (sym e)
                (subst (λ (x : ℕ). m * 2 ^ j < x) (sym (pow-add 2 p j))
                (mul-lt-mul_of_pos_right few (pow_pos j))) in
                let b : 2 ^ (p - 1 + k) ≤ q * 2 ^ k =
                le_trans (le_of_eq (pow-add 2 (p - 1) k)) (mul-le-mul_right (2 ^ k) f) in
                let c : 2 ^ (p + j) ≤ 2 ^ (p - 1 + k) = pow_mono (shift p j k some l) in
                absurd (around (q * 2 ^ k) w (2 ^ (p + j)) (2 ^ (p - 1 + k)) h a b c)
          ]
        where
          nothing : (j k : ℕ) → suc j ≤ k → k ≡ 0 → ⊥
          nothing j k l z = omega arith

          shift : (p j k : ℕ) → 0 < p → suc j ≤ k → p + j ≤ p - 1 + k
          shift p j k s l = omega arith

          around : (a w x y : ℕ) → a < w → w < x → y ≤ a → x ≤ y → ⊥
          around a w x y h g l m = omega arith

  lower_representable : Representable p (q * 2 ^ k)
  lower_representable = (q, k, bracket.fits, refl)

  upper_representable : Representable p (suc q * 2 ^ k)
  upper_representable = elim (eq-or-lt_of_le bracket.fits) [
    | inl e ↦ (1, p + k, pow-lt some, ap (λ (x : ℕ). x * 2 ^ k) e ∙ sym (one-mul (2 ^ (p + k)) ∙ pow-add 2 p k))
    | inr h ↦ (suc q, k, h, refl)
  ]

  lower_at : (n : ℕ) → n ≤ 2 * (q * 2 ^ k) → AtMost n real
  lower_at n h =
      at_most_le real mono n (q * 2 ^ suc k)
      (le_trans h (le_of_eq
      (let e = twice_unit in let z : 2 * (q * 2 ^ k) ≡ q * 2 ^ suc k = rw twice_unit (omega arith) in z)))
      bracket.lower

  upper_at : (n : ℕ) → 2 * (suc q * 2 ^ k) ≤ n → Above n real
  upper_at n h =
      above_le real mono (suc q * 2 ^ suc k) n
      (le_trans (le_of_eq (let z : suc q * 2 ^ suc k ≡ 2 * (suc q * 2 ^ k) = rw twice_unit (omega arith) in z)) h)
      bracket.upper

  -- the lower one, where the real is at most the midpoint
  down : T (is_le (real ((2 * q + 1) * 2 ^ k)))
      → ((w : ℕ) → Representable p w → (w ≡ q * 2 ^ k → ⊥) → real (w + q * 2 ^ k) ≡ Ordering.eq
      → EvenBeside w (q * 2 ^ k))
      → Nearest p real (q * 2 ^ k)
  down m tie = record {
    representable = lower_representable;
    below = λ w _ l. lower_at (w + q * 2 ^ k) (omega arith);
    above = λ w dw l. elim (apart w dw) [
      | inl g ↦ absurd (let z : ⊥ = omega arith in z)
      | inr g ↦ rest (w + q * 2 ^ k) (omega arith)
    ];
    tie = tie;
  }
    where
      rest : (n : ℕ) → (2 * q + 1) * 2 ^ k ≤ n → T (is_le (real n))
      rest n h = elim (eq-or-lt_of_le h) [
        | inl e ↦ subst (λ (x : ℕ). T (is_le (real x))) e m
        | inr l ↦ elim (ge_or_lt (real n)) [
          | inl y ↦ absurd (subst (λ (o : Ordering). T (is_le o)) (mono ((2 * q + 1) * 2 ^ k) n l y) m)
          | inr y ↦ lt→le (real n) y
        ]
      ]

  -- the upper one, where the real is at least the midpoint
  up : T (is_ge (real ((2 * q + 1) * 2 ^ k)))
      → ((w : ℕ) → Representable p w → (w ≡ suc q * 2 ^ k → ⊥) → real (w + suc q * 2 ^ k) ≡ Ordering.eq
      → EvenBeside w (suc q * 2 ^ k))
      → Nearest p real (suc q * 2 ^ k)
  up m tie = record {
    representable = upper_representable;
    below = λ w dw l. elim (apart w dw) [
      | inl g ↦ at_most_le real mono (w + suc q * 2 ^ k) ((2 * q + 1) * 2 ^ k) (omega arith) m
      | inr g ↦ absurd (let z : ⊥ = omega arith in z)
    ];
    above = λ w dw l. lt→le (real (w + suc q * 2 ^ k)) (upper_at (w + suc q * 2 ^ k) (omega arith));
    tie = tie;
  }

  eq_not_gt : (o : Ordering) → o ≡ Ordering.eq → o ≡ Ordering.gt → ⊥
  eq_not_gt o e g = subst (λ (x : Ordering). T (is_le x)) (sym e ∙ g) tt

  eq_not_lt : (o : Ordering) → o ≡ Ordering.eq → o ≡ Ordering.lt → ⊥
  eq_not_lt o e g = subst (λ (x : Ordering). T (is_ge x)) (sym e ∙ g) tt

  -- the one number that the real is
  one_equal : (a b : ℕ) → real a ≡ Ordering.eq → real b ≡ Ordering.eq → a ≡ b
  one_equal a b e g = le_antisymm (side a b e g) (side b a g e)
    where
      side : (a b : ℕ) → real a ≡ Ordering.eq → real b ≡ Ordering.eq → a ≤ b
      side a b e g =
          le_of_suc-le-suc (lt_of_not-le (λ (h : b < a). eq_not_gt (real b) g (mono b a h (eq→ge (real a) e))))

  -- where the midpoint is not the real, no other number is as near
  alone_down : real ((2 * q + 1) * 2 ^ k) ≡ Ordering.lt → (w : ℕ) → Representable p w → (w ≡ q * 2 ^ k → ⊥)
      → real (w + q * 2 ^ k) ≡ Ordering.eq → ⊥
  alone_down m w dw n e = elim (apart w dw) [
    | inl g ↦ eq_not_gt (real (w + q * 2 ^ k)) e
        (mono (w + q * 2 ^ k) (2 * (q * 2 ^ k)) (strict (w) (q * 2 ^ k) g n)
        (lower_at (2 * (q * 2 ^ k)) (le_of_eq refl)))
    | inr g ↦ eq_not_lt (real (w + q * 2 ^ k)) e
        (above_le real mono ((2 * q + 1) * 2 ^ k) (w + q * 2 ^ k) (omega arith) m)
  ]
    where
      strict : (w r : ℕ) → w ≤ r → (w ≡ r → ⊥) → w + r < 2 * r
      strict w r g n = elim (eq-or-lt_of_le g) [
        | inl z ↦ absurd (n z)
        | inr z ↦ omega arith
      ]

  alone_up : real ((2 * q + 1) * 2 ^ k) ≡ Ordering.gt → (w : ℕ) → Representable p w → (w ≡ suc q * 2 ^ k → ⊥)
      → real (w + suc q * 2 ^ k) ≡ Ordering.eq → ⊥
  alone_up m w dw n e = elim (apart w dw) [
    | inl g ↦ eq_not_gt (real (w + suc q * 2 ^ k)) e (down_to (w + suc q * 2 ^ k) (omega arith))
    | inr g ↦ eq_not_lt (real (w + suc q * 2 ^ k)) e (upper_at (w + suc q * 2 ^ k) (omega arith))
  ]
    where
      down_to : (n : ℕ) → n ≤ (2 * q + 1) * 2 ^ k → real n ≡ Ordering.gt
      down_to n h = elim (eq-or-lt_of_le h) [
        | inl z ↦ ap real z ∙ m
        | inr z ↦ mono n ((2 * q + 1) * 2 ^ k) z (gt→ge (real ((2 * q + 1) * 2 ^ k)) m)
      ]

  pub nearer : (o : Ordering) → real ((2 * q + 1) * 2 ^ k) ≡ o → Nearest p real (nearest q o * 2 ^ k)
  nearer Ordering.lt m = down (lt→le (real ((2 * q + 1) * 2 ^ k)) m) (λ w dw n e. absurd (alone_down m w dw n e))
  nearer Ordering.gt m = up (gt→ge (real ((2 * q + 1) * 2 ^ k)) m) (λ w dw n e. absurd (alone_up m w dw n e))
  nearer Ordering.eq m = parity (q % 2) refl (let z : q % 2 < 2 = omega arith in z)
    where
      at_least : T (is_le (real ((2 * q + 1) * 2 ^ k)))
      at_least = subst (λ (o : Ordering). T (is_le o)) (sym m) tt

      parity : (r : ℕ) → q % 2 ≡ r → r < 2 → Nearest p real ((q + r) * 2 ^ k)
      parity zero e l =
          subst (λ (x : ℕ). Nearest p real (x * 2 ^ k)) (sym (add-zero q))
          (down at_least (λ w dw n g.
          let z : w + q * 2 ^ k ≡ (2 * q + 1) * 2 ^ k = one_equal (w + q * 2 ^ k) ((2 * q + 1) * 2 ^ k) g m in (
            q / 2,
            k,
            ap (λ (x : ℕ). x * 2 ^ k) (let y : q ≡ 2 * (q / 2) = omega arith in y),
            inl (let y : w ≡ q * 2 ^ k + 2 ^ k = omega arith in y),
          )))
      parity (suc zero) e l =
          subst (λ (x : ℕ). Nearest p real (x * 2 ^ k)) (sym (add-one q))
          (up (eq→ge (real ((2 * q + 1) * 2 ^ k)) m) (λ w dw n g.
          let z : w + suc q * 2 ^ k ≡ (2 * q + 1) * 2 ^ k = one_equal (w + suc q * 2 ^ k) ((2 * q + 1) * 2 ^ k) g m in (
            suc q / 2,
            k,
            ap (λ (x : ℕ). x * 2 ^ k) (let y : suc q ≡ 2 * (suc q / 2) = omega arith in y),
            inr (let y : w + 2 ^ k ≡ suc q * 2 ^ k = omega arith in y),
          )))
      parity (suc (suc r)) e l = absurd (let z : ⊥ = omega arith in z)

-- ---- the theorem: for any number of digits p above 0, the definition gives the nearest number of p digits

pub nearest_any_width : (p : ℕ) → 0 < p → (real : Real) (d : ℕ) → Bounded real d
    → Nearest p real (nearest_units p real d)
unfolding significand_of
nearest_any_width p some real d b =
    let k = exponent_of p real d in
    let q = floor_of real d / 2 ^ suc k in
    nearer p some real b.monotone q k (own_bracket real d b p some) (real ((2 * q + 1) * 2 ^ k)) refl

-- there is no other
pub nearest_unique : (p : ℕ) (real : Real) (r t : ℕ) → Nearest p real r → Nearest p real t → r ≡ t
nearest_unique p real r t h g = elim (dec_le r t) [
  | yes l ↦ elim (eq-or-lt_of_le l) [
    | inl e ↦ e
    | inr k ↦ absurd (apart_never r t h g k)
  ]
  | no f ↦ absurd (apart_never t r g h (lt_of_not-le f))
]
  where
    both : (o : Ordering) → T (is_ge o) → T (is_le o) → o ≡ Ordering.eq
    both Ordering.lt a b = absurd a
    both Ordering.eq a b = refl
    both Ordering.gt a b = absurd b

    differ : (r t : ℕ) → r < t → r ≡ t → ⊥
    differ r t h e = omega arith

    -- two neighbours are not both even multiples of their distance
    odd_step : (r t : ℕ) → r < t → EvenBeside t r → EvenBeside r t → ⊥
    odd_step r t l (h, j, er, inr a) y = let z : ⊥ = omega (arith, pow_pos j) in z
    odd_step r t l (h, j, er, inl a) (i, k, et, inl b) = let z : ⊥ = omega (arith, pow_pos k) in z
    odd_step r t l (h, j, er, inl a) (i, k, et, inr b) =
        let same : 2 ^ k ≡ 2 ^ j = omega arith in
        parity h i (2 ^ j) (pow_pos j)
        (sym (ap (λ (x : ℕ). x + 2 ^ j) er) ∙ sym a ∙ et ∙ ap (λ (x : ℕ). 2 * i * x) same)
      where
        parity : (h i u : ℕ) → 0 < u → 2 * h * u + u ≡ 2 * i * u → ⊥
        parity h i u p e =
            let z : 2 * h + 1 ≡ 2 * i =
            eq_of_mul-eq-mul_right u p (2 * h + 1) (2 * i) (let y : (2 * h + 1) * u ≡ 2 * i * u = omega arith in y) in
            let y : ⊥ = omega arith in y

    apart_never : (r t : ℕ) → Nearest p real r → Nearest p real t → r < t → ⊥
    apart_never r t h g l =
        let over : T (is_le (real (t + r))) = h.above t g.representable l in
        let under : T (is_ge (real (r + t))) = g.below r h.representable l in
        let mid : real (r + t) ≡ Ordering.eq =
        both (real (r + t)) under (subst (λ (n : ℕ). T (is_le (real n))) (add_comm t r) over) in
        odd_step r t l (h.tie t g.representable (λ e. differ r t l (sym e)) (ap real (add_comm t r) ∙ mid))
        (g.tie r h.representable (differ r t l) mid)

-- ---- the same of a format's value

nearest_most : (p : ℕ) (some : 0 < p) (real : Real) (d : ℕ) → Bounded real d → nearest_units p real d ≤ 2 ^ d
unfolding significand_of
nearest_most p some real d b =
    let k = exponent_of p real d in
    let q = floor_of real d / 2 ^ suc k in
    let bracket = own_bracket real d b p some in
    let l : q * 2 ^ suc k < 2 ^ d =
    at_most_lt_above real b.monotone (q * 2 ^ suc k) (2 ^ d) bracket.lower b.bound in
    le_trans (mul-le-mul_right (2 ^ k) (nearest-le q (real ((2 * q + 1) * 2 ^ k)))) (go q k bracket.normal l)
  where
    none : (p q : ℕ) → q ≡ 0 → 2 ^ (p - 1) ≤ q → ⊥
    none p q e h = let z = pow_pos (p - 1) in omega arith

    go : (q k : ℕ) → (k ≡ 0) ⊎ (2 ^ (p - 1) ≤ q) → q * 2 ^ suc k < 2 ^ d → suc q * 2 ^ k ≤ 2 ^ d
    go zero k (inl e) l = subst (λ (x : ℕ). 1 * 2 ^ x ≤ 2 ^ d) (sym e) (let z = pow_pos d in omega arith)
    go zero k (inr g) l = absurd (none p zero refl g)
    go (suc q) k f l =
        let u = pow-succ' 2 k in let m : suc q * 2 ^ suc k ≡ suc q * (2 * 2 ^ k) = ap (λ (x : ℕ). suc q * x) u in
        omega arith

-- The format's value is finite, has the sign s and the size r units, and r is the nearest
-- number of the format's digits.
pub nearest_value : (f : Format) (s : Bool) (real : Real) (d : ℕ) → Bounded real d → d < low f + suc (emax f)
    → (r : ℕ) × HasValue (nearest_to f s real d) s r (2 ^ low f) × Nearest (prec f) real r
unfolding nearest_to
nearest_value f s real d b fits =
    let some = two-le_pos (prec f) (two f) in (
      nearest_units (prec f) real d,
      units_val f s (significand_of (prec f) real d) (exponent_of (prec f) real d)
          (lt_of_le_of_lt (nearest_most (prec f) some real d b) (pow-lt fits)),
      nearest_any_width (prec f) some real d b,
    )
