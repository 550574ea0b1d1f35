-- Selection among the profiles of a list, `calculate_block`: the profile i of the list is s i, and n of them count.
-- Definitions only.
-- Every comparison stands with the Rust's sides: with a NaN it is false, so it may not be turned round.
use Rattle.std.specs.Prelude.{ℕ, zero, suc, ◌+◌, ◌%◌, Bool, true, false, cond, not, ◌&&◌, List, eqb, ltb, get_or, Float}
use Rattle.std.specs.Prelude.{Option, Some, None, Ok, Err}
use Rattle.std.specs.Float.{binary64}
use Rattle.std.specs.Float.Ieee.{of_bits}
use Rattle.doubles.specs.Operators.{◌+ᶠ◌, ◌-ᶠ◌, ◌*ᶠ◌, ◌<ᶠ◌}
use Rattle.doubles.specs.Constants.{1ᶠ, 8ᶠ, eps}
use Rattle.doubles.specs.Functions.{absᶠ}
use Rattle.profile.specs.Boundary.{empty_profile}
use Rattle.profile.specs.declared.Profile.{Profile}
use Rattle.profile.specs.declared.Direction.{Direction}
use Rattle.profile.specs.declared.Direction.TheVariants.{UP, DOWN}
use Rattle.refusals.specs.declared.Refusal.TheVariants.{NoProfile, NoRemoval, TooManyProfiles}
use Rattle.block.specs.Blocks.{total, no_interval, interval_between, block_of, Answer}
use Rattle.block.specs.declared.Block.{Block}

-- the numbers of the removal rules
abbrev pub 32ᶠ : Float
32ᶠ = of_bits binary64 0x4040_0000_0000_0000

abbrev pub 256ᶠ : Float
256ᶠ = of_bits binary64 0x4070_0000_0000_0000

abbrev pub 1e-12ᶠ : Float
1e-12ᶠ = of_bits binary64 0x3d71_9799_812d_ea11

-- the profile i of an array
abbrev pub slot : List Profile → ℕ → Profile
slot l i = get_or l i empty_profile

abbrev pub same_direction : Direction → Direction → Bool
same_direction UP UP = true
same_direction UP DOWN = false
same_direction DOWN UP = false
same_direction DOWN DOWN = true

-- two totals are under e apart
unfoldable pub near : (e t u : Float) → Bool
near e t u = absᶠ (t -ᶠ u) <ᶠ e

-- ---- count 2

-- under 8 EPS apart: the first, no stretch; else the first if its total is less, else the second, blocked up to the
-- other
unfoldable pub of_two : Profile → Profile → Block
of_two p q =
    cond (near (8ᶠ *ᶠ eps) (total p) (total q)) (block_of p no_interval no_interval)
    (cond (total p <ᶠ total q)
    (block_of p (interval_between p q) no_interval)
    (block_of q (interval_between q p) no_interval))

-- ---- counts 3 and 5

-- of i and the later j the one with the least total. A comparison with NaN counts as equality, and at equality it is
-- the earlier
unfoldable pub faster : (ℕ → Profile) → (i j : ℕ) → ℕ
faster s i j = cond (total (s j) <ᶠ total (s i)) j i

-- the index of the least total of the profiles 0 to n, found from the front
unfoldable pub fastest : (ℕ → Profile) → ℕ → ℕ
fastest s zero = 0
fastest s (suc n) = faster s (fastest s n) (suc n)

-- the stretch is between the other two
unfoldable pub of_three : (ℕ → Profile) → Block
of_three s =
    let i = fastest s 2 in
    block_of (s i) (interval_between (s ((i + 1) % 3)) (s ((i + 2) % 3))) no_interval

-- the shortest p and four others, in the order in which they follow it: the stretches are between the first two and
-- between the last two if the first two have the same direction, else between the outer two and between the inner two
unfoldable pub with_two : (p q1 q2 q3 q4 : Profile) → Block
with_two p q1 q2 q3 q4 =
    cond (same_direction q1.direction q2.direction)
    (block_of p (interval_between q1 q2) (interval_between q3 q4))
    (block_of p (interval_between q1 q4) (interval_between q2 q3))

-- the others follow the fastest round the end
unfoldable pub of_five : (ℕ → Profile) → Block
of_five s =
    let i = fastest s 4 in
    with_two (s i) (s ((i + 1) % 5)) (s ((i + 2) % 5)) (s ((i + 3) % 5)) (s ((i + 4) % 5))

-- ---- count 4

-- the totals t and u are as good as one
unfoldable pub alike : Float → Float → Bool
alike t u = near (1e-12ᶠ *ᶠ (1ᶠ +ᶠ absᶠ t)) t u

-- the last rule: the index of the later of the first two totals that are alike; none if no two are
unfoldable pub alike_removal : (t0 t1 t2 t3 : Float) → Option ℕ
alike_removal t0 t1 t2 t3 =
    cond (alike t0 t1) (Some 1)
    (cond (alike t0 t2) (Some 2)
    (cond (alike t0 t3) (Some 3)
    (cond (alike t1 t2) (Some 2)
    (cond (alike t1 t3) (Some 3)
    (cond (alike t2 t3) (Some 3) None)))))

-- the index of the profile that goes, by the four rules in turn; none if none applies. No rule removes the first
unfoldable pub removal : (ℕ → Profile) → Option ℕ
removal s =
    let t : ℕ → Float = λ i. total (s i) in
    cond (near (32ᶠ *ᶠ eps) (t 0) (t 1) && not (same_direction (s 0).direction (s 1).direction)) (Some 1)
    (cond (near (256ᶠ *ᶠ eps) (t 2) (t 3) && not (same_direction (s 2).direction (s 3).direction)) (Some 3)
    (cond (near (256ᶠ *ᶠ eps) (t 0) (t 3)) (Some 3)
    (alike_removal (t 0) (t 1) (t 2) (t 3))))

-- `remove_profile`: those after the index move up
unfoldable pub moved_up : ℕ → ℕ → ℕ
moved_up index i = cond (ltb i index) i (i + 1)

abbrev pub without : ℕ → (ℕ → Profile) → (ℕ → Profile)
without index s i = s (moved_up index i)

-- as for three, without the profile that goes
abbrev pub of_others : (ℕ → Profile) → Option ℕ → Answer
of_others s (Some index) = Ok (of_three (without index s))
of_others s None = Err NoRemoval

unfoldable pub of_four : (ℕ → Profile) → Answer
of_four s = of_others s (removal s)

-- ---- any count
unfoldable pub selected : (ℕ → Profile) → ℕ → Answer
selected s n =
    cond (eqb n 1) (Ok (block_of (s 0) no_interval no_interval))
    (cond (eqb n 2) (Ok (of_two (s 0) (s 1)))
    (cond (eqb n 3) (Ok (of_three s))
    (cond (eqb n 4) (of_four s)
    (cond (eqb n 5) (Ok (of_five s))
    (cond (eqb n 0) (Err NoProfile) (Err TooManyProfiles))))))
