-- What the bytes of a record mean: a count, six profiles, a block, and four times. Definitions only.
use Rattle.std.specs.Prelude.{ℕ, ◌+◌, ◌*◌, cond, List, [], ◌∷◌, eqb, get_or, set, Float}
use Rattle.doubles.specs.Constants.{1ᶠ, 2ᶠ, 3ᶠ, 4ᶠ, 5ᶠ, 6ᶠ}
use Rattle.encoding.specs.Encoding.{double_at}
use Rattle.profile.specs.Boundary.{empty_profile, start_of, with_boundary}
use Rattle.profile.specs.With.{with_sums, with_names}
use Rattle.profile.specs.declared.Profile.{Profile}
use Rattle.profile.specs.declared.Target.{Target}
use Rattle.profile.specs.declared.Direction.{Direction}
use Rattle.profile.specs.declared.Direction.TheVariants.{UP, DOWN}
use Rattle.block.specs.Selection.{slot, selected}
use Rattle.block.specs.declared.Stretch.{Stretch}
use Rattle.block.specs.declared.Stretch.TheVariants.{Nothing, Between, From}
use Rattle.block.specs.declared.Interval.{Interval}
use Rattle.block.specs.declared.Block.{Block}
use Rattle.block.specs.Blocks.{Answer}

-- how long a record is: a count, six profiles, a double and two stretches, and four times
abbrev pub record_length : ℕ
record_length = 1 + 6 * 25 + 8 + 2 * 17 + 4 * 8

-- ---- names by their numbers

unfoldable pub direction_of : ℕ → Direction
direction_of n = cond (eqb n 0) UP DOWN

unfoldable pub stretch_of : ℕ → (left right : Float) → Stretch
stretch_of n left right = cond (eqb n 0) Nothing (cond (eqb n 1) (Between left right) (From left))

-- ---- the selection: a count at 0, six profiles from 1 on

-- the profile of the 25 bytes from `at` on, total, brake, accel and direction: an empty one with these, and a mark as
-- its pf
unfoldable pub profile_at : List ℕ → ℕ → Float → Profile
profile_at b at mark =
    let q = with_sums empty_profile (set empty_profile.t_sum 6 (double_at b at)) in
    let target : Target = record { pf = mark; vf = q.vf; af = q.af } in
    with_names (with_boundary q (start_of q) target (double_at b (at + 8)) (double_at b (at + 16)))
    q.limits (direction_of (get_or b (at + 24) 0)) q.control_signs

unfoldable pub profiles_of : List ℕ → List Profile
profiles_of b =
    profile_at b 1 1ᶠ
    ∷ profile_at b 26 2ᶠ
    ∷ profile_at b 51 3ᶠ
    ∷ profile_at b 76 4ᶠ
    ∷ profile_at b 101 5ᶠ
    ∷ profile_at b 126 6ᶠ
    ∷ []

unfoldable pub selected_of : List ℕ → Answer
selected_of b = selected (slot (profiles_of b)) (get_or b 0 0)

-- ---- the block: t_min at 151, then for each of two stretches its kind, left end and right end; its profiles are empty
unfoldable pub interval_at : List ℕ → ℕ → Interval
interval_at b at =
    record {
      stretch = stretch_of (get_or b at 0) (double_at b (at + 1)) (double_at b (at + 9));
      profile = empty_profile;
    }

unfoldable pub given_of : List ℕ → Block
given_of b = record { t_min = double_at b 151; p_min = empty_profile; a = interval_at b 159; b = interval_at b 176 }

-- ---- four times that a block is asked about
abbrev pub times_of : List ℕ → List Float
times_of b = double_at b 193 ∷ double_at b 201 ∷ double_at b 209 ∷ double_at b 217 ∷ []
