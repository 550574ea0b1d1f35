-- What is promised of the replay's end: how far it is from the target. Every whole number here is 6 × 2 ^ 4346 times
-- what it stands for. Definitions only.
use Rattle.std.specs.Prelude.{ℕ, ◌+◌, ◌*◌, ◌^◌, ◌≤◌, ◌<◌, ◌≡◌, Bool, true, ℤ, pos, nat_abs, ◌-ℤ◌, ◌*ℤ◌, T, Float}
use Rattle.doubles.specs.Operators.{◌<ᶠ◌, at}
use Rattle.doubles.specs.Exact.{exact, exact_size}
use Rattle.doubles.specs.Value.{Finite}
use Rattle.profile.specs.Tolerances.{p_precision, v_precision, a_precision}
use Rattle.profile.specs.Boundary.{start_of, target_of}
use Rattle.profile_check.specs.Check.{checked}
use Rattle.profile.specs.declared.Profile.{Profile}
use Rattle.profile.specs.declared.Start.{Start}
use Rattle.profile.specs.declared.Target.{Target}
use Rattle.profile.specs.declared.Limits.{Limits}
use Rattle.profile.specs.declared.ControlSigns.{ControlSigns}
use Rattle.profile.specs.declared.ReachedLimits.{ReachedLimits}
use Rattle.replay.specs.Replay.{U, State, 1e50ᶠ, stored_rows, replayed}
use Rattle.replay.specs.Allowance.{position_allowance, velocity_allowance, acceleration_allowance}

-- ---- from the scales of `exact` and of a state to 6 × 2 ^ 4346, which is 2 ^ 50 × 6 U⁴
abbrev pub from_exact : ℕ
from_exact = 2 ^ 50 * (6 * (U * U * U))

abbrev pub position_of : State → ℤ
position_of s = pos (2 ^ 50) *ℤ s.x

abbrev pub velocity_of : State → ℤ
velocity_of s = pos (2 ^ 50 * (3 * U)) *ℤ s.y

abbrev pub acceleration_of : State → ℤ
acceleration_of s = pos (2 ^ 50 * (6 * (U * U))) *ℤ s.z

-- e is at most a tolerance plus an allowance from the double d
abbrev pub AtMostFrom : (d tolerance : Float) (allowance : ℕ) (e : ℤ) → Type 0
AtMostFrom d tolerance allowance e =
    nat_abs (e -ℤ pos from_exact *ℤ exact d) ≤ from_exact * exact_size tolerance + allowance

-- ---- what is read of a profile and a target is finite: `exact` takes other numbers for 0

-- the first n numbers
abbrev pub FiniteTo : ℕ → (ℕ → Float) → Type 0
FiniteTo n f = (i : ℕ) → i < n → Finite (f i)

pub record FiniteMotion (target : Target) (q : Profile) : Type 0 where
  pub t : FiniteTo 7 (λ i. at q.t i)
  pub j : FiniteTo 7 (λ i. at q.j i)
  pub a : FiniteTo 8 (λ i. at q.a i)
  pub v : FiniteTo 8 (λ i. at q.v i)
  pub vf : Finite target.vf
  pub af : Finite target.af

pub record FinitePosition (target : Target) (q : Profile) : Type 0 where
  pub p : FiniteTo 8 (λ i. at q.p i)
  pub pf : Finite target.pf

-- ---- the claim, after phase 6
module _ (start : Start) (target : Target) (j-max : Float) (q : Profile) (stored : ℕ → Bool) where
  abbrev end : State
  end = replayed start j-max q stored 7

  -- y is at most 1e-8 plus the velocity allowance from vf, z at most 1e-10 plus the acceleration allowance from af: all
  -- that is said of a move to no position
  pub record EndsMoving : Type 0 where
    pub velocity : AtMostFrom target.vf v_precision (velocity_allowance q) (velocity_of end)
    pub acceleration : AtMostFrom target.af a_precision (acceleration_allowance q) (acceleration_of end)
    pub finite : FiniteMotion target q

  -- and x is at most 1e-8 plus the position allowance from pf
  pub record EndsAt : Type 0 where
    pub position : AtMostFrom target.pf p_precision (position_allowance q) (position_of end)
    pub moving : EndsMoving
    pub finite : FinitePosition target q

-- ---- what is promised of a check

-- each limit that was stored is one that the replay takes: j_max is above 1e50, or none was stored
abbrev pub Taken : (j-max : Float) (stored : ℕ → Bool) → Type 0
Taken j-max stored = (i : ℕ) → T (stored i) → T (1e50ᶠ <ᶠ j-max)

-- what it accepts ends at its target, whatever the replay's j_max, if the replay takes what it stored
abbrev pub CheckEndsAt : Profile → ControlSigns → ReachedLimits → (set-limits : Bool) (jf : Float) → Limits → Type 0
CheckEndsAt q signs reached set-limits jf m =
    let c = checked q signs reached set-limits jf m in
    let stored = stored_rows set-limits reached in
    c.ok ≡ true → (j-max : Float) → Taken j-max stored → EndsAt (start_of q) (target_of q) j-max c.profile stored
