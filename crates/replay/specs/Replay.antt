-- The replay of document 01: a profile's phases, run exactly from the move's start. Definitions only.
-- The three exact fractions of the paper's state are kept as whole numbers. Every double is a whole multiple of 1 / U,
-- for U = 2 ^ 1074, so with `exact` for U times a double, and
--   x for 6 U⁴ times the position,
--   y for 2 U³ times the velocity,
--   z for U² times the acceleration,
-- a phase makes whole numbers of whole numbers, and nothing is rounded.
use Rattle.std.specs.Prelude.{ℕ, zero, suc, ◌*◌, Bool, ◌&&◌, ◌||◌, cond, ℤ, pos, ◌+ℤ◌, ◌*ℤ◌, eqb, Float}
use Rattle.std.specs.Float.{binary64}
use Rattle.std.specs.Float.Ieee.{of_bits}
use Rattle.doubles.specs.Operators.{◌<ᶠ◌, at}
use Rattle.doubles.specs.Exact.{scale, exact}
use Rattle.profile.specs.Names.{is_acc1, is_acc0_acc1, clears_row3}
use Rattle.profile.specs.declared.Profile.{Profile}
use Rattle.profile.specs.declared.Start.{Start}
use Rattle.profile.specs.declared.ReachedLimits.{ReachedLimits}

-- 2 ^ 1074
abbrev pub U : ℕ
U = scale

pub record State : Type 0 where
  pub x : ℤ
  pub y : ℤ
  pub z : ℤ

-- at first p0, v0, a0
unfoldable pub at_start : Start → State
at_start start =
    record {
      x = pos (6 * (U * U * U)) *ℤ exact start.p0;
      y = pos (2 * (U * U)) *ℤ exact start.v0;
      z = pos U *ℤ exact start.a0;
    }

-- a phase makes x + y·t + z·t²/2 + j·t³/6, y + z·t + j·t²/2 and z + j·t, which times 6 U⁴, 2 U³ and U² are these, with
-- t and j for U times the phase's
unfoldable pub phase : (t j : ℤ) → State → State
phase t j s =
    record {
      x = s.x +ℤ pos 3 *ℤ s.y *ℤ t +ℤ pos 3 *ℤ s.z *ℤ (t *ℤ t) +ℤ j *ℤ (t *ℤ t *ℤ t);
      y = s.y +ℤ pos 2 *ℤ s.z *ℤ t +ℤ j *ℤ (t *ℤ t);
      z = s.z +ℤ j *ℤ t;
    }

-- z becomes 0, if so said
unfoldable pub zeroed_if : Bool → State → State
zeroed_if b s = record { x = s.x; y = s.y; z = cond b (pos 0) s.z }

-- z becomes the acceleration a, if so said
unfoldable pub replaced_if : Bool → Float → State → State
replaced_if b a s = record { x = s.x; y = s.y; z = cond b (pos U *ℤ exact a) s.z }

-- 1e50
abbrev pub 1e50ᶠ : Float
1e50ᶠ = of_bits binary64 0x4a51_1b0e_c57e_649a

-- which rows' accelerations a check stored, by `set_limits` and the name of the limits: those of rows 1 and 5 for
-- Acc0Acc1, that of row 3 for Acc1
unfoldable pub stored_rows : Bool → ReachedLimits → ℕ → Bool
stored_rows set-limits reached i =
    set-limits && (is_acc0_acc1 reached && (eqb i 1 || eqb i 5) || is_acc1 reached && eqb i 3)

-- the replay is fed the move's start and j_max, a profile, and which rows' accelerations `set_limits` stored. This is
-- its state before phase i, so after phase 6 for i = 7. After phase 2 only, z becomes 0 if the profile's limits are
-- Acc0Acc1 or a Vel name; then, for j_max above 1e50 only, z becomes the acceleration of row i + 1 if a limit was
-- stored there
unfoldable pub replayed : Start → (j-max : Float) → Profile → (stored : ℕ → Bool) → ℕ → State
replayed start j-max q stored zero = at_start start
replayed start j-max q stored (suc i) =
    replaced_if ((1e50ᶠ <ᶠ j-max) && stored (suc i)) (at q.a (suc i))
    (zeroed_if (eqb i 2 && clears_row3 q.limits)
    (phase (exact (at q.t i)) (exact (at q.j i)) (replayed start j-max q stored i)))
