-- What is said of the profiles and the stretches of a plan. Definitions only.
use Rattle.std.specs.Prelude.{ℕ, ◌<◌, ◌≡◌, Bool, true, false, not, cond, ◌&&◌, is_none, Ok, Err, eqb, ltb}
use Rattle.doubles.specs.Operators.{◌<ᶠ◌}
use Rattle.profile.specs.Boundary.{empty_profile}
use Rattle.profile.specs.declared.Profile.{Profile}
use Rattle.block.specs.Blocks.{total, duration, no_interval, interval_between, block_of, Answer}
use Rattle.block.specs.Selection.{removal}
use Rattle.block.specs.declared.Stretch.{Stretch}
use Rattle.block.specs.declared.Stretch.TheVariants.{Nothing, Between, From}
use Rattle.block.specs.declared.Interval.{Interval}
use Rattle.block.specs.declared.Block.{Block}
use Rattle.refusals.specs.declared.Refusal.{Refusal}

-- P holds of the profile beside a stretch between two times; beside any other lies the empty profile
abbrev pub Beside : (Profile → Type 0) → Stretch → Profile → Type 0
Beside P Nothing q = q ≡ empty_profile
Beside P (Between left right) q = P q
Beside P (From left) q = q ≡ empty_profile

-- P holds of the shortest profile and of each far profile
pub record Each (P : Profile → Type 0) (b : Block) : Type 0 where
  pub shortest : P b.p_min
  pub beside_a : Beside P b.a.stretch b.a.profile
  pub beside_b : Beside P b.b.stretch b.b.profile

-- the right end is not below the left one
abbrev pub in_order : Stretch → Bool
in_order Nothing = true
in_order (Between left right) = not (right <ᶠ left)
in_order (From left) = true

-- a stretch that doesn't begin before the profile q ends: nothing; between the durations of two profiles that P holds
-- of, in order, the left of which isn't faster than q; or from q's own duration on
pub data After (P : Profile → Type 0) (q : Profile) : Stretch → Type 0 where
  nothing : After P q Nothing
  between : (l r : Profile) → P l → P r → (total l <ᶠ total q) ≡ false → (duration r <ᶠ duration l) ≡ false
      → After P q (Between (duration l) (duration r))
  from : After P q (From (duration q))

-- both stretches of a plan are such, for its profile
pub record EachAfter (P : Profile → Type 0) (b : Block) : Type 0 where
  pub stretch_a : After P b.p_min b.a.stretch
  pub stretch_b : After P b.p_min b.b.stretch

-- nothing, or between the durations of two of the first n profiles
pub data IntervalOf (s : ℕ → Profile) (n : ℕ) : Interval → Type 0 where
  none : IntervalOf s n no_interval
  some : (i j : ℕ) → i < n → j < n → IntervalOf s n (interval_between (s i) (s j))

-- one of the first n profiles, with two such stretches
pub data BlockOf (s : ℕ → Profile) (n : ℕ) : Block → Type 0 where
  chosen : (i : ℕ) {a b : Interval} → i < n → IntervalOf s n a → IntervalOf s n b → BlockOf s n (block_of (s i) a b)

-- such a plan, or a refusal
pub data AnswerOf (s : ℕ → Profile) (n : ℕ) : Answer → Type 0 where
  plan : {b : Block} → BlockOf s n b → AnswerOf s n (Ok b)
  refusal : (k : Refusal) → AnswerOf s n (Err k)

-- the number of the refusal: 4 for count 0, 7 for a count above 5, 5 where four count and no removal rule applies; 0
-- for a plan
abbrev pub refusal_of : (ℕ → Profile) → ℕ → ℕ
refusal_of s n = cond (eqb n 0) 4 (cond (ltb 5 n) 7 (cond (eqb n 4 && is_none (removal s)) 5 0))
