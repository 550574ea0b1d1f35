-- Which moves are refused, and by which number: those of document 01's table, and no others. Assumes nothing.
use Prim.Native.Nat.{ℕ, ◌<◌}
use mathlib.Core.Path.{◌≡◌, refl}
use mathlib.Core.Bool.{Bool, true, false, cond, not, true≢false, false≢true}
use mathlib.Core.Logic.{inl, inr, ◌↔◌}
use native.Mathlib.Omega.{arith}
use Rattle.std.proofs.Common.{Err}
use Rattle.refusals.specs.declared.Refusal.TheVariants.{NotFinite, WrongSign, WrongDuration}
use Rattle.refusals.specs.Numbers.{number_of}
use Rattle.block.specs.Blocks.{empty_block, Answer, plan_in}
use Rattle.get_profile.specs.GetProfile.{get_profile_answer, NoneAccepted, EachRefused, FourStay}
use Rattle.get_profile.proofs.AnswerLaws.{answered}
use Rattle.get_profile.proofs.RefusalLaws.{refused_4 as answered-4, refused_4_each as answered-4-each}
use Rattle.get_profile.proofs.RefusalLaws.{refused_5 as answered-5}
use Rattle.planner.specs.Answers.{finite_move, wrong_sign, wrong_duration, input_of, answer_of, Admitted, Tried}
use Rattle.planner.specs.declared.Move.{Move}

-- ---- by the three conditions, and the answer a where all are passed
abbrev by_tests : (finite-move wrong-sign wrong-duration : Bool) → Answer → Answer
by_tests f s d a = cond (not f) (Err NotFinite) (cond s (Err WrongSign) (cond d (Err WrongDuration) a))

module _ (a : Answer) (t : Tried a) where
  not_tested : (n : ℕ) → 0 < n → n < 4 → number_of a ≡ n → ⊥
  not_tested n l m e = elim t [ inl z ↦ omega arith | inr u ↦ elim u [ inl z ↦ omega arith | inr z ↦ omega arith ] ]

  by_1 : (f s d : Bool) → (number_of (by_tests f s d a) ≡ 1) ↔ (f ≡ false)
  by_1 false s d = (λ e. refl, λ e. refl)
  by_1 true true d = (λ e. absurd (let z : ⊥ = omega arith in z), λ e. absurd (true≢false e))
  by_1 true false true = (λ e. absurd (let z : ⊥ = omega arith in z), λ e. absurd (true≢false e))
  by_1 true false false = (λ e. absurd (not_tested 1 (omega arith) (omega arith) e), λ e. absurd (true≢false e))

  by_2 : (f s d : Bool) → (number_of (by_tests f s d a) ≡ 2) ↔ ((f ≡ true) × (s ≡ true))
  by_2 false s d = (λ e. absurd (let z : ⊥ = omega arith in z), λ e. absurd (false≢true e.0))
  by_2 true true d = (λ e. (refl, refl), λ e. refl)
  by_2 true false true = (λ e. absurd (let z : ⊥ = omega arith in z), λ e. absurd (false≢true e.1))
  by_2 true false false = (λ e. absurd (not_tested 2 (omega arith) (omega arith) e), λ e. absurd (false≢true e.1))

  by_3 : (f s d : Bool) → (number_of (by_tests f s d a) ≡ 3) ↔ ((f ≡ true) × (s ≡ false) × (d ≡ true))
  by_3 false s d = (λ e. absurd (let z : ⊥ = omega arith in z), λ e. absurd (false≢true e.0))
  by_3 true true d = (λ e. absurd (let z : ⊥ = omega arith in z), λ e. absurd (true≢false e.1))
  by_3 true false true = (λ e. (refl, refl, refl), λ e. refl)
  by_3 true false false = (λ e. absurd (not_tested 3 (omega arith) (omega arith) e), λ e. absurd (false≢true e.2))

by_none : (f s d : Bool) (a : Answer) → Tried (by_tests f s d a) → (f ≡ true) × (s ≡ false) × (d ≡ false)
by_none false s d a t = absurd (not_tested (Err NotFinite) t 1 (omega arith) (omega arith) refl)
by_none true true d a t = absurd (not_tested (Err WrongSign) t 2 (omega arith) (omega arith) refl)
by_none true false true a t = absurd (not_tested (Err WrongDuration) t 3 (omega arith) (omega arith) refl)
by_none true false false a t = (refl, refl, refl)

by_empty : (f s d : Bool) (a : Answer) → ((number_of a ≡ 0 → ⊥) → plan_in a ≡ empty_block)
    → (number_of (by_tests f s d a) ≡ 0 → ⊥) → plan_in (by_tests f s d a) ≡ empty_block
by_empty false s d a g h = refl
by_empty true true d a g h = refl
by_empty true false true a g h = refl
by_empty true false false a g h = g h

-- ---- of every move
module _ (x : Move) where
  -- one of the 13 numbers is NaN or infinite
  pub refused_1 : (number_of (answer_of x) ≡ 1) ↔ (finite_move x ≡ false)
  unfolding answer_of
  refused_1 =
      by_1 (get_profile_answer (input_of x) x.limits) (answered (input_of x) x.limits).number (finite_move x)
      (wrong_sign x.limits) (wrong_duration x)

  -- none is, and a limit has the wrong sign
  pub refused_2 : (number_of (answer_of x) ≡ 2) ↔ ((finite_move x ≡ true) × (wrong_sign x.limits ≡ true))
  unfolding answer_of
  refused_2 =
      by_2 (get_profile_answer (input_of x) x.limits) (answered (input_of x) x.limits).number (finite_move x)
      (wrong_sign x.limits) (wrong_duration x)

  -- none has, and a duration is below 0 or above 1e12
  pub refused_3 : (number_of (answer_of x) ≡ 3)
      ↔ ((finite_move x ≡ true) × (wrong_sign x.limits ≡ false) × (wrong_duration x ≡ true))
  unfolding answer_of
  refused_3 =
      by_3 (get_profile_answer (input_of x) x.limits) (answered (input_of x) x.limits).number (finite_move x)
      (wrong_sign x.limits) (wrong_duration x)

  -- and else the answer is `get_profile`'s: a plan, or refusal 4 or 5
  pub admitted_answer : Admitted x → answer_of x ≡ get_profile_answer (input_of x) x.limits
  unfolding answer_of
  admitted_answer j = rw (j.finite, j.signs, j.durations)

  tried_admitted : Tried (answer_of x) → Admitted x
  unfolding answer_of
  tried_admitted t =
      let k = by_none (finite_move x) (wrong_sign x.limits) (wrong_duration x)
      (get_profile_answer (input_of x) x.limits) t in
      record { finite = k.0; signs = k.1; durations = k.2 }

  -- an answer by the number n is `get_profile`'s, where that is one of its numbers
  by_answer : (n : ℕ) (P : Type 0) → (number_of (answer_of x) ≡ n → Tried (answer_of x))
      → ((number_of (get_profile_answer (input_of x) x.limits) ≡ n) ↔ P) → (number_of (answer_of x) ≡ n) ↔ (Admitted x × P)
  by_answer n P tried h = (
    λ e. let j = tried_admitted (tried e) in (j, h.0 (rw (admitted_answer j) at e)),
    λ z. rw (admitted_answer z.0) (h.1 z.1),
  )

  pub admitted : Tried (answer_of x) ↔ Admitted x
  admitted = (tried_admitted, λ j. rw (admitted_answer j) (answered (input_of x) x.limits).number)

  -- of those, 4 exactly where no try that is asked is accepted
  pub refused_4 : (number_of (answer_of x) ≡ 4) ↔ (Admitted x × NoneAccepted (input_of x) x.limits)
  refused_4 = by_answer 4 (NoneAccepted (input_of x) x.limits) (λ e. inr (inl e)) (answered-4 (input_of x) x.limits)

  -- which is where each of all tries is refused
  pub refused_4_each : (number_of (answer_of x) ≡ 4) ↔ (Admitted x × EachRefused (input_of x) x.limits)
  refused_4_each =
      by_answer 4 (EachRefused (input_of x) x.limits) (λ e. inr (inl e)) (answered-4-each (input_of x) x.limits)

  -- 5 exactly where the families are tried, four profiles count and no removal rule applies
  pub refused_5 : (number_of (answer_of x) ≡ 5) ↔ (Admitted x × FourStay (input_of x) x.limits)
  refused_5 = by_answer 5 (FourStay (input_of x) x.limits) (λ e. inr (inr e)) (answered-5 (input_of x) x.limits)

  -- and a plan exactly where neither is so
  pub accepted : (number_of (answer_of x) ≡ 0)
      ↔ (Admitted x × (NoneAccepted (input_of x) x.limits → ⊥) × (FourStay (input_of x) x.limits → ⊥))
  accepted = (
    λ e. let j = tried_admitted (inl e) in (
      j,
      λ n. other 4 (omega arith) e (refused_4.1 (j, n)),
      λ f. other 5 (omega arith) e (refused_5.1 (j, f)),
    ),
    λ z. elim (admitted.1 z.0) [
      | inl e ↦ e
      | inr t ↦ elim t [
        | inl e ↦ absurd (z.1 (refused_4.0 e).1)
        | inr e ↦ absurd (z.2 (refused_5.0 e).1)
      ]
    ],
  )
    where
      other : (n : ℕ) → 0 < n → number_of (answer_of x) ≡ 0 → number_of (answer_of x) ≡ n → ⊥
      other n l e f = omega arith

  -- a refused move has the empty plan
  pub refused_plan : (number_of (answer_of x) ≡ 0 → ⊥) → plan_in (answer_of x) ≡ empty_block
  unfolding answer_of
  refused_plan =
      by_empty (finite_move x) (wrong_sign x.limits) (wrong_duration x) (get_profile_answer (input_of x) x.limits)
      (answered (input_of x) x.limits).empty
