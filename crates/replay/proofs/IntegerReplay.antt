-- The replay and the allowance's sums, which are stated over integers, are those over pairs, where no time is negative.
-- Assumes nothing.
use mathlib.Core.Path.{◌≡◌, refl, ap, ◌∙◌, subst}
use Prim.Native.Nat.{ℕ, zero, suc, ◌+◌, ◌-◌, ◌*◌, ◌≤◌, ◌<◌}
use native.Mathlib.Nat.{le_refl, le_of_lt, le_step}
use native.Mathlib.Omega.{arith}
use mathlib.Core.Bool.{Bool, true, false, ◌&&◌, ◌||◌, cond}
use lib.IntN.{ℤ, pos, ◌+ℤ◌, ◌*ℤ◌, *ℤ_comm}
use lib.Dec.{eqb}
use lib.Ieee.{Float, binary64}
use Rattle.doubles.specs.Operators.{◌<ᶠ◌, at}
use Rattle.doubles.specs.Constants.{0ᶠ}
use Rattle.doubles.specs.Exact.{exact, exact_size}
use Rattle.doubles.specs.Signed.{Signed, ◌⊕◌, ◌⊙◌, size}
use Rattle.doubles.specs.Value.{val}
use Rattle.doubles.proofs.ValueLaws.{zero_value}
use Rattle.doubles.proofs.IntegerLaws.{Same, same_add, same_by, same_times, same_size, exact_same}
use Rattle.profile.specs.Names.{clears_row3}
use Rattle.profile.specs.Boundary.{start_of}
use Rattle.profile.specs.declared.Profile.{Profile}
use Rattle.profile_check.specs.Accepted.{row_at}
use Rattle.replay.specs.Replay.{U, State, at_start, phase, zeroed_if, replaced_if, 1e50ᶠ, replayed}
use Rattle.replay.specs.Allowance.{T, Sa, Sv, Sp}
use Rattle.replay.proofs.ExactMotion.{Phase, Stateˢ, row_state, time, jerk, moved, set_ifˢ, state_at, sum_to, time_to}
use Rattle.replay.proofs.ExactMotion.{sum_a, sum_v, sum_p}
use Rattle.replay.proofs.PhaseErrors.{zero_is}

-- ---- a profile's phases, and the rows whose accelerations are taken from the profile

-- those that the replay takes
abbrev pub taken_by : Float → (ℕ → Bool) → ℕ → Bool
taken_by j-max stored i = (1e50ᶠ <ᶠ j-max) && stored i

-- phase i: row i + 1's acceleration is the profile's where it is taken, and else 0 where it is set to 0
abbrev pub phase_at : Profile → (taken : ℕ → Bool) → ℕ → Phase
phase_at q taken i =
    record {
      t = at q.t i;
      j = at q.j i;
      sets = taken (suc i) || eqb i 2 && clears_row3 q.limits;
      a = cond (taken (suc i)) (at q.a (suc i)) 0ᶠ;
    }

-- ---- products by a number that is not negative, on the right
same_by_right : (k l : ℤ) (x y : Signed) → Same k x → Same l y → y.less ≡ 0 → Same (k *ℤ l) (y.plus ⊙ x)
same_by_right k l x y p q n = subst (λ (m : ℤ). Same m (y.plus ⊙ x)) (*ℤ_comm l k) (same_by l k y x q n p)

same_multiple : (c : ℕ) (k l : ℤ) (x y : Signed) → Same k x → Same l y → y.less ≡ 0
    → Same (pos c *ℤ k *ℤ l) ((c * y.plus) ⊙ x)
same_multiple c k l x y p q n = omega (arith, same_by_right (pos c *ℤ k) l (c ⊙ x) y (same_times c k x p) q n)

no_less : (c l : ℕ) → l ≡ 0 → c * l ≡ 0
no_less c l e = omega (arith, ap (λ (n : ℕ). c * n) e)

-- ---- states
pub record SameState (s : State) (u : Stateˢ) : Type 0 where
  pub x : Same s.x u.x
  pub y : Same s.y u.y
  pub z : Same s.z u.z

module _ (h : Phase) (n : (val h.t).less ≡ 0) (s : State) (u : Stateˢ) (o : SameState s u) where
  same_phase : SameState (phase (exact h.t) (exact h.j) s) (moved h u)
  unfolding phase
  same_phase =
      let t = exact h.t in
      let j = exact h.j in
      let τ = time h in
      let w = val h.t in
      let w² = τ ⊙ w in
      let w³ = (τ * τ) ⊙ w in
      let st = exact_same h.t in
      let sj = exact_same h.j in
      let n² = no_less τ w.less n in
      let n³ = no_less (τ * τ) w.less n in
      let st² : Same (t *ℤ t) w² = same_by t t w w st n st in
      let st³ : Same (t *ℤ t *ℤ t) w³ = same_by (t *ℤ t) t w² w st² n² st in
      let yt = same_multiple 3 s.y t u.y w o.y st n in
      let zt² = same_multiple 3 s.z (t *ℤ t) u.z w² o.z st² n² in
      let zt = same_multiple 2 s.z t u.z w o.z st n in
      let jt³ = same_by_right j (t *ℤ t *ℤ t) (jerk h) w³ sj st³ n³ in
      let jt² = same_by_right j (t *ℤ t) (jerk h) w² sj st² n² in
      let jt = same_by_right j t (jerk h) w sj st n in
      record {
        x =
            same_add (s.x +ℤ pos 3 *ℤ s.y *ℤ t +ℤ pos 3 *ℤ s.z *ℤ (t *ℤ t)) (j *ℤ (t *ℤ t *ℤ t))
            (u.x ⊕ (3 * τ) ⊙ u.y ⊕ (3 * (τ * τ)) ⊙ u.z) ((τ * τ * τ) ⊙ jerk h)
            (same_add (s.x +ℤ pos 3 *ℤ s.y *ℤ t) (pos 3 *ℤ s.z *ℤ (t *ℤ t)) (u.x ⊕ (3 * τ) ⊙ u.y)
            ((3 * (τ * τ)) ⊙ u.z)
            (same_add s.x (pos 3 *ℤ s.y *ℤ t) u.x ((3 * τ) ⊙ u.y) o.x yt) zt²) jt³;
        y =
            same_add (s.y +ℤ pos 2 *ℤ s.z *ℤ t) (j *ℤ (t *ℤ t)) (u.y ⊕ (2 * τ) ⊙ u.z) ((τ * τ) ⊙ jerk h)
            (same_add s.y (pos 2 *ℤ s.z *ℤ t) u.y ((2 * τ) ⊙ u.z) o.y zt) jt²;
        z = same_add s.z (j *ℤ t) u.z (τ ⊙ jerk h) o.z jt;
      }

module _ (s : State) (u : Stateˢ) (o : SameState s u) where
  -- first zeroed, then replaced
  same_set : (taken zeroed : Bool) (a : Float)
      → SameState (replaced_if taken a (zeroed_if zeroed s)) (set_ifˢ (taken || zeroed) (cond taken a 0ᶠ) u)
  unfolding replaced_if zeroed_if
  same_set true zeroed a = record { x = o.x; y = o.y; z = same_times U (exact a) (val a) (exact_same a) }
  same_set false true a = record { x = o.x; y = o.y; z = rw (zero_is, zero_value binary64 false) (omega arith) }
  same_set false false a = record { x = o.x; y = o.y; z = o.z }

module _ (j-max : Float) (q : Profile) (stored : ℕ → Bool) (N : ℕ)
    (n : (i : ℕ) → i < N → (val (at q.t i)).less ≡ 0) where
  abbrev h : ℕ → Phase
  h = phase_at q (taken_by j-max stored)

  pub same_replay : (i : ℕ) → i ≤ N
      → SameState (replayed (start_of q) j-max q stored i) (state_at h (row_state (row_at q 0)) i)
  unfolding replayed at_start state_at
  same_replay zero l =
      record {
        x = same_times (6 * (U * U * U)) (exact (at q.p 0)) (val (at q.p 0)) (exact_same (at q.p 0));
        y = same_times (2 * (U * U)) (exact (at q.v 0)) (val (at q.v 0)) (exact_same (at q.v 0));
        z = same_times U (exact (at q.a 0)) (val (at q.a 0)) (exact_same (at q.a 0));
      }
  same_replay (suc i) l =
      let s = replayed (start_of q) j-max q stored i in
      let u = state_at h (row_state (row_at q 0)) i in
      same_set _ _ (same_phase (h i) (n i l) s u (same_replay i (le_of_lt l))) (taken_by j-max stored (suc i))
      (eqb i 2 && clears_row3 q.limits) (at q.a (suc i))

-- ---- the sums
pub exact_size_law : (x : Float) → exact_size x ≡ size (val x)
exact_size_law x = same_size (exact x) (val x) (exact_same x)

exact_time : (t : Float) → (val t).less ≡ 0 → exact_size t ≡ (val t).plus
exact_time t n = exact_size_law t ∙ whole (val t).plus (val t).less n
  where
    whole : (a b : ℕ) → b ≡ 0 → (a - b) + (b - a) ≡ a
    whole a b e = omega arith

sum_same : (n : ℕ) (f g : ℕ → ℕ) → ((i : ℕ) → i < n → f i ≡ g i) → sum_to n f ≡ sum_to n g
unfolding sum_to
sum_same zero f g e = refl
sum_same (suc n) f g e = let a = sum_same n f g (λ i l. e i (le_step l)) in let b = e n (le_refl (suc n)) in omega arith

module _ (q : Profile) (taken : ℕ → Bool) (n : (i : ℕ) → i < 7 → (val (at q.t i)).less ≡ 0) where
  pub T-is : T q ≡ time_to (phase_at q taken) 7
  unfolding T time_to
  T-is = sum_same 7 _ _ (λ i l. exact_time (at q.t i) (n i l))

  pub Sa-is : Sa q ≡ sum_a (row_at q) (phase_at q taken) 7
  unfolding Sa sum_a
  Sa-is =
      sum_same 7 _ _ (λ i l. rw (exact_time (at q.t i) (n i l), exact_size_law (at q.a i), exact_size_law (at q.j i))
      (omega arith))

  pub Sv-is : Sv q ≡ sum_v (row_at q) (phase_at q taken) 7
  unfolding Sv sum_v
  Sv-is =
      sum_same 7 _ _ (λ i l. rw (
        exact_time (at q.t i) (n i l),
        exact_size_law (at q.v i),
        exact_size_law (at q.a i),
        exact_size_law (at q.j i),
      ) (omega arith))

  pub Sp-is : Sp q ≡ sum_p (row_at q) (phase_at q taken) 7
  unfolding Sp sum_p
  Sp-is =
      sum_same 7 _ _
      (λ i l. rw (
        exact_time (at q.t i) (n i l),
        exact_size_law (at q.p i),
        exact_size_law (at q.v i),
        exact_size_law (at q.a i),
        exact_size_law (at q.j i),
      ) (omega arith))
