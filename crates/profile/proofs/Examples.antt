-- What `set_boundary` and `set_boundary_from_profile` change of a profile, and what they leave: worked on profiles
-- whose numbers are all different. Assumes nothing.
use mathlib.Core.Path.{◌≡◌, refl}
use Prim.Native.Nat.{ℕ}
use mathlib.Core.List.{[], ◌∷◌}
use lib.ListN.{replicate}
use lib.IntN.{pos}
use lib.Ieee.{Float, binary64, of_int}
use Rattle.profile.specs.Boundary.{with_boundary, boundary_set, boundary_from}
use Rattle.profile.specs.declared.Profile.{Profile}
use Rattle.profile.specs.declared.Direction.TheVariants.{DOWN}
use Rattle.profile.specs.declared.ControlSigns.TheVariants.{UDUD}
use Rattle.profile.specs.declared.ReachedLimits.TheVariants.{Acc0}

abbrev n : ℕ → Float
n k = of_int binary64 (pos k)

-- of row 0, the target and the durations these numbers; of the rest always the same
abbrev profile_of : (a v p pf vf af brake accel : ℕ) → Profile
profile_of a v p pf vf af brake accel =
    record {
      t = n 1 ∷ n 2 ∷ n 3 ∷ n 4 ∷ n 5 ∷ n 6 ∷ n 7 ∷ [];
      t_sum = n 11 ∷ n 12 ∷ n 13 ∷ n 14 ∷ n 15 ∷ n 16 ∷ n 17 ∷ [];
      j = n 21 ∷ n 22 ∷ n 23 ∷ n 24 ∷ n 25 ∷ n 26 ∷ n 27 ∷ [];
      a = n a ∷ n 31 ∷ n 32 ∷ n 33 ∷ n 34 ∷ n 35 ∷ n 36 ∷ n 37 ∷ [];
      v = n v ∷ n 41 ∷ n 42 ∷ n 43 ∷ n 44 ∷ n 45 ∷ n 46 ∷ n 47 ∷ [];
      p = n p ∷ n 51 ∷ n 52 ∷ n 53 ∷ n 54 ∷ n 55 ∷ n 56 ∷ n 57 ∷ [];
      brake = n brake;
      accel = n accel;
      pf = n pf;
      vf = n vf;
      af = n af;
      limits = Acc0;
      direction = DOWN;
      control_signs = UDUD;
    }

-- start and target are new, the durations stay
pub set_boundary_changes : boundary_set (profile_of 61 62 63 64 65 66 67 68) (record { p0 = n 71; v0 = n 72; a0 = n 73 })
    (record { pf = n 74; vf = n 75; af = n 76 })
    ≡ profile_of 73 72 71 74 75 76 67 68
unfolding with_boundary
set_boundary_changes = refl

-- start, target and durations are the other's, and nothing else of it
pub set_boundary_from_profile_changes : (other : Profile) → other.a ≡ n 81 ∷ replicate 7 (n 91) → other.v
    ≡ n 82 ∷ replicate 7 (n 92) → other.p ≡ n 83 ∷ replicate 7 (n 93)
    → other.pf ≡ n 84 → other.vf ≡ n 85 → other.af ≡ n 86 → other.brake ≡ n 87 → other.accel ≡ n 88
    → boundary_from (profile_of 61 62 63 64 65 66 67 68) other ≡ profile_of 81 82 83 84 85 86 87 88
unfolding with_boundary
set_boundary_from_profile_changes other a v p pf vf af brake accel = rw (a, v, p, pf, vf, af, brake, accel)
