-- A profile that a check with `set_limits` true accepts, and where its replay ends on both sides of a j_max of 1e50.
-- Definitions only.
use Rattle.std.specs.Prelude.{◌≡◌, true, false, pos, T, Float}
use Rattle.std.specs.Float.{binary64}
use Rattle.std.specs.Float.Ieee.{neg, of_bits}
use Rattle.doubles.specs.Operators.{◌<ᶠ◌}
use Rattle.doubles.specs.Constants.{1ᶠ, 3ᶠ, 4ᶠ}
use Rattle.profile.specs.Boundary.{start_of, target_of}
use Rattle.profile.specs.declared.Profile.{Profile}
use Rattle.profile.specs.declared.Limits.{Limits}
use Rattle.profile.specs.declared.ControlSigns.TheVariants.{UDDU}
use Rattle.profile.specs.declared.ReachedLimits.{ReachedLimits}
use Rattle.profile_check.specs.Check.{checked}
use Rattle.replay.specs.Replay.{State, 1e50ᶠ, stored_rows, replayed}
use Rattle.replay.specs.Promise.{EndsAt}

-- the double nearest to 10 ^ 50, and the next one
abbrev pub at1e50 : Float
at1e50 = of_bits binary64 0x4a51_1b0e_c57e_649a

abbrev pub past1e50 : Float
past1e50 = of_bits binary64 0x4a51_1b0e_c57e_649b

-- the limits of the check
unfoldable pub wide_limits : Limits
wide_limits = record { v_max = 4ᶠ; v_min = neg 4ᶠ; a_max = 3ᶠ; a_min = neg 1ᶠ; j_max = 1ᶠ }

-- where a move from rest at 0 starts
abbrev pub nowhere : State
nowhere = record { x = pos 0; y = pos 0; z = pos 0 }

-- q is what is put to the check, r what it fills in
module _ (q : Profile) (reached : ReachedLimits) (r : Profile) where
  abbrev pub IsAccepted : Type 0
  IsAccepted = checked q UDDU reached true 1ᶠ wide_limits ≡ record { ok = true; profile = r }

  abbrev pub Replayed : (j-max : Float) → State → Type 0
  Replayed j-max s = replayed (start_of q) j-max r (stored_rows true reached) 7 ≡ s

  abbrev pub Ends : (j-max : Float) → Type 0
  Ends j-max = EndsAt (start_of q) (target_of q) j-max r (stored_rows true reached)

  -- the replay ends at the target for each j_max above 1e50, and for no other, where it ends where it started
  pub record StoredIn (end : State) : Type 0 where
    pub is_accepted : IsAccepted
    pub at_1e50 : Replayed at1e50 nowhere
    pub past_1e50 : Replayed past1e50 end
    pub ends_at : (j-max : Float) → T (1e50ᶠ <ᶠ j-max) → Ends j-max
    pub ends_elsewhere : (j-max : Float) → (1e50ᶠ <ᶠ j-max) ≡ false → Ends j-max → ⊥
