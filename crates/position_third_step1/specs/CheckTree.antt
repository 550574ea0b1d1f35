-- Trees of checks: tries put to the check one after the other. Definitions only.
-- No try of step 1 depends on the answer to another, so a family is the list of its tries. What is left to do from a
-- try on is the list from there on.
use Rattle.std.specs.Prelude.{◌≡◌, Bool, true, false, List, ◌∷◌, Float}
use Rattle.profile.specs.declared.Start.{Start}
use Rattle.profile.specs.declared.Target.{Target}
use Rattle.profile.specs.declared.Limits.{Limits}
use Rattle.profile.specs.declared.ReachedLimits.{ReachedLimits}
use Rattle.trees.specs.Tree.{Tree, run}
use Rattle.trees.specs.InTurn.{in_turn}
use Rattle.candidates.specs.Try.{passes}
use Rattle.candidates.specs.declared.Try.{Try}
use Rattle.candidates.specs.List.{added}
use Rattle.candidates.specs.declared.Candidates.{Candidates}

-- it asks whether tries pass the check, and ends in a list of accepted profiles
abbrev pub CheckTree : Type 0
CheckTree = Tree Try Bool Candidates

-- the list at the end, where the check answers
abbrev pub found : CheckTree → Candidates
found p = run passes p

-- the tries in turn, each accepted one added to the list; with `return_after_found`, up to the first
abbrev pub tries : (return-after-found : Bool) → Candidates → List Try → CheckTree
tries return-after-found c xs = in_turn added return-after-found c xs

-- a try of a family: the jerk is the limits'
abbrev pub try_of : Start → Target → Limits → ReachedLimits → List Float → Try
try_of start target m reached t = record {
  start = start;
  target = target;
  t = t;
  reached = reached;
  jf = m.j_max;
  limits = m;
}

-- what every try of a family shares
pub record TryWith (start : Start) (target : Target) (jf : Float) (m : Limits) (x : Try) : Type 0 where
  pub start_is : x.start ≡ start
  pub target_is : x.target ≡ target
  pub jerk_is : x.jf ≡ jf
  pub limits_is : x.limits ≡ m

-- a try that is made only under a condition
unfoldable pub only_if : Bool → Try → List Try → List Try
only_if true x xs = x ∷ xs
only_if false x xs = xs
