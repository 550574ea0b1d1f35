-- What a NaN does to the least total, and which times two plans block, by computation. Assumes nothing.
use Prim.Native.Nat.{ℕ}
use mathlib.Core.Path.{◌≡◌, refl}
use mathlib.Core.Bool.{false, true}
use mathlib.Core.List.{List, [], ◌∷◌}
use lib.Ieee.{Float, nan, inf, binary64, of_bits, add, lt}
use Rattle.doubles.specs.Constants.{1ᶠ, 2ᶠ, 3ᶠ, 4ᶠ, 5ᶠ, 6ᶠ}
use Rattle.profile.specs.Boundary.{empty_profile}
use Rattle.profile.specs.With.{with_phases}
use Rattle.block.specs.Blocks.{total, duration, no_interval, interval_from, interval_between, block_of}
use Rattle.block.specs.Blocks.{is_blocked, blocking_of, blocking_number}
use Rattle.block.specs.Selection.{slot, faster, fastest}
use Rattle.block.specs.Examples.{taking}
use Rattle.block.specs.declared.Block.{Block}

-- a NaN that comes first stays, and one between others is passed over
pub nan_first : fastest (slot (taking nan ∷ taking 2ᶠ ∷ taking 1ᶠ ∷ [])) 2 ≡ 0
unfolding fastest faster total with_phases lt of_bits
nan_first = refl

pub nan_between : fastest (slot (taking 2ᶠ ∷ taking nan ∷ taking 1ᶠ ∷ [])) 2 ≡ 2
unfolding fastest faster total with_phases lt of_bits
nan_between = refl

-- ---- is_blocked: 0 free, 1 blocked, 6 refused

-- the numbers of what is said of the times 2½, 3, 4, 5, 6 and of infinity, -infinity and NaN
abbrev numbers : Block → List ℕ
numbers b =
    let said : Float → ℕ = λ t. blocking_number (blocking_of b t) in
    said (of_bits binary64 0x4004_0000_0000_0000)
    ∷ said 3ᶠ
    ∷ said 4ᶠ
    ∷ said 5ᶠ
    ∷ said 6ᶠ
    ∷ said (inf false)
    ∷ said (inf true)
    ∷ said nan
    ∷ []

-- 3 s, blocked from 3 s on
pub blocked_from : numbers (block_of (taking 3ᶠ) (interval_from 3ᶠ) no_interval) ≡ 1 ∷ 0 ∷ 1 ∷ 1 ∷ 1 ∷ 6 ∷ 6 ∷ 6 ∷ []
unfolding blocking_of is_blocked block_of interval_from no_interval duration total with_phases empty_profile add lt of_bits
blocked_from = refl

-- 3 s, blocked between 3 s and 5 s as stretch a, and as stretch b
pub blocked_between : numbers (block_of (taking 3ᶠ) (interval_between (taking 3ᶠ) (taking 5ᶠ)) no_interval)
    ≡ 1 ∷ 0 ∷ 1 ∷ 0 ∷ 0 ∷ 6 ∷ 6 ∷ 6 ∷ []
unfolding blocking_of is_blocked block_of interval_between no_interval duration total with_phases empty_profile add lt of_bits
blocked_between = refl

pub blocked_b : numbers (block_of (taking 3ᶠ) no_interval (interval_between (taking 3ᶠ) (taking 5ᶠ)))
    ≡ 1 ∷ 0 ∷ 1 ∷ 0 ∷ 0 ∷ 6 ∷ 6 ∷ 6 ∷ []
unfolding blocking_of is_blocked block_of interval_between no_interval duration total with_phases empty_profile add lt of_bits
blocked_b = refl
