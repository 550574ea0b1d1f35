-- What `is_blocked` says has document 01's number. Assumes nothing.
use mathlib.Core.Path.{◌≡◌, refl}
use mathlib.Core.Bool.{Bool, true, false, cond, true≢false}
use mathlib.Core.Logic.{◌↔◌}
use native.Mathlib.Omega.{arith}
use lib.Ieee.{Float}
use lib.Ieee.Scale.{finite}
use Rattle.std.proofs.Common.{Result, Ok, Err}
use Rattle.refusals.specs.declared.Refusal.{Refusal}
use Rattle.refusals.specs.declared.Refusal.TheVariants.{TimeNotFinite}
use Rattle.block.specs.Blocks.{is_blocked, blocking_of, blocking_number, Says}
use Rattle.block.specs.declared.Block.{Block}

by_number : (f q : Bool) → (blocking_number (cond f (Ok q) (Err TimeNotFinite)) ≡ 6) ↔ (f ≡ false)
by_number false q = (λ e. refl, λ e. refl)
by_number true false = (λ e. absurd (let z : ⊥ = omega arith in z), λ e. absurd (true≢false e))
by_number true true = (λ e. absurd (let z : ⊥ = omega arith in z), λ e. absurd (true≢false e))

pub says : (b : Block) (t : Float) (r : Result Bool Refusal) → r ≡ blocking_of b t → Says b t r
unfolding blocking_of
says b t r e = record { answer = e; six = rw e (by_number (finite t) (is_blocked b t)) }
