-- The bytes of a record as the code reads them, and which number a record has. Assumes nothing.
use Prim.Native.Nat.{ℕ, ◌≤◌}
use mathlib.Core.Path.{◌≡◌, refl}
use mathlib.Core.Bool.{Bool, true, false, cond, ◌||◌, true≢false, false≢true}
use mathlib.Core.List.{List}
use mathlib.Core.Logic.{inl, inr, ◌↔◌}
use native.Mathlib.Omega.{arith}
use borrow.Author.Tests.{ltb-false}
use lib.Dec.{eqb, ltb}
use lib.ListN.{length}
use Rattle.refusals.specs.Numbers.{number_of as answer_number}
use Rattle.planner.specs.Answers.{finite_move, wrong_sign, wrong_duration, answer_of}
use Rattle.planner.specs.declared.Move.{Move}
use Rattle.planner.proofs.RefusalLaws.{refused_1, refused_2, refused_3, admitted}
use Rattle.moves.specs.Records.{record_length, record_move, is_malformed, record_of, answer_to, number_of, Reads}
use Rattle.std.specs.Prelude.{Option, None, Some, Result, Ok, Err}
use Rattle.refusals.specs.declared.Refusal.{Refusal}
use Rattle.refusals.specs.declared.Refusal.TheVariants.{WrongRecord}

first_false : (x y z : Bool) → x || y || z ≡ false → x ≡ false
first_false false y z h = refl
first_false true y z h = h

-- a record that isn't malformed is there in full
pub is_long : (b : List ℕ) → is_malformed b ≡ false → record_length ≤ length b
unfolding is_malformed
is_long b h = ltb-false (length b) record_length (first_false (ltb (length b) record_length) _ _ h)

-- ---- 8 is a record's number: no answer to a move has it
module _ (x : Move) (e : answer_number (answer_of x) ≡ 8) where
  by_duration : (d : Bool) → wrong_duration x ≡ d → finite_move x ≡ true → wrong_sign x.limits ≡ false → ⊥
  by_duration true hd hf hs = let z : answer_number (answer_of x) ≡ 3 = (refused_3 x).1 (hf, hs, hd) in omega arith
  by_duration false hd hf hs =
      elim ((admitted x).1 (record { finite = hf; signs = hs; durations = hd }))
      [ inl z ↦ omega arith | inr u ↦ elim u [ inl z ↦ omega arith | inr z ↦ omega arith ] ]

  by_sign : (s : Bool) → wrong_sign x.limits ≡ s → finite_move x ≡ true → ⊥
  by_sign true hs hf = let z : answer_number (answer_of x) ≡ 2 = (refused_2 x).1 (hf, hs) in omega arith
  by_sign false hs hf = by_duration (wrong_duration x) refl hf hs

  by_finite : (f : Bool) → finite_move x ≡ f → ⊥
  by_finite false hf = let z : answer_number (answer_of x) ≡ 1 = (refused_1 x).1 hf in omega arith
  by_finite true hf = by_sign (wrong_sign x.limits) refl hf

by_case : (e m : Bool) (x : Move) → (number_of (answer_to (cond e None (Some (cond m (Err WrongRecord) (Ok x))))) ≡ Some 8) ↔
    ((e ≡ false) × (m ≡ true))
by_case true m x =
    (λ h. absurd (let z : ◌≡◌ {A = ℕ} 0 1 = cc in let none : ⊥ = omega arith in none), λ h. absurd (true≢false h.0))
by_case false true x = (λ h. (refl, refl), λ h. refl)
by_case false false x = (
  λ h. absurd (let z : answer_number (answer_of x) ≡ 8 = cc in by_finite x z (finite_move x) refl),
  λ h. absurd (false≢true h.1),
)

pub reads : (b : List ℕ) (r : Option (Result Move Refusal)) → r ≡ record_of b → Reads b r
unfolding record_of
reads b r e = record { record_is = e; eight = rw e (by_case (eqb (length b) 0) (is_malformed b) (record_move b)) }

-- how a record is read, for the proofs
pub ruleset reading = (reads, is_long)
