-- Which lists are refused, and by which number. Assumes nothing.
use Prim.Native.Nat.{ℕ, suc, ◌≤◌}
use mathlib.Core.Path.{◌≡◌, refl}
use mathlib.Core.Bool.{false, cond}
use native.Mathlib.Omega.{arith}
use borrow.Author.Tests.{eqb-true, eqb-false, lt-ltb}
use lib.Dec.{eqb}
use Rattle.std.proofs.Common.{Option, Some, None, is_none}
use Rattle.profile.specs.declared.Profile.{Profile}
use Rattle.refusals.specs.Numbers.{number_of}
use Rattle.block.specs.Blocks.{Answer}
use Rattle.block.specs.Selection.{removal, of_others, of_four, selected}
use Rattle.block.specs.Plans.{refusal_of}
use Rattle.doubles.proofs.CondLaws.{cond_by}

-- ---- which counts are refused
pub selected_refusal : (s : ℕ → Profile) (n : ℕ) → number_of (selected s n) ≡ refusal_of s n
unfolding selected
selected_refusal s n =
    cond_by (λ (r : Answer). number_of r ≡ refusal_of s n) (eqb n 1) (λ e. rw (eqb-true n 1 e) refl)
    (λ h1. cond_by (λ (r : Answer). number_of r ≡ refusal_of s n) (eqb n 2) (λ e. rw (eqb-true n 2 e) refl)
    (λ h2. cond_by (λ (r : Answer). number_of r ≡ refusal_of s n) (eqb n 3) (λ e. rw (eqb-true n 3 e) refl)
    (λ h3. cond_by (λ (r : Answer). number_of r ≡ refusal_of s n) (eqb n 4) (λ e. rw (eqb-true n 4 e) four)
    (λ h4. cond_by (λ (r : Answer). number_of r ≡ refusal_of s n) (eqb n 5) (λ e. rw (eqb-true n 5 e) refl)
    (λ h5. cond_by (λ (r : Answer). number_of r ≡ refusal_of s n) (eqb n 0) (λ e. rw e refl)
    (λ h0. rw (h0, lt-ltb 5 n (past 5 (past 4 (past 3 (past 2 (past 1 (past 0 (omega arith) h0) h1) h2) h3) h4) h5))
    refl))))))
  where
    by_removal : (k : Option ℕ) → number_of (of_others s k) ≡ cond (is_none k) 5 0
    by_removal (Some index) = refl
    by_removal None = refl

    four : number_of (of_four s) ≡ cond (is_none (removal s)) 5 0
    four = unfold of_four in (by_removal (removal s))

    past : (k : ℕ) → k ≤ n → eqb n k ≡ false → suc k ≤ n
    past k l h = let other : n ≡ k → ⊥ = eqb-false n k h in omega arith
