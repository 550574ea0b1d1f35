-- What is said of the profiles that count. Definitions only.
use Rattle.std.specs.Prelude.{ℕ, ◌<◌, ◌≤◌, ◌≡◌, true, length, Float}
use Rattle.profile.specs.Boundary.{start_of, target_of}
use Rattle.profile.specs.declared.Profile.{Profile}
use Rattle.profile.specs.declared.Start.{Start}
use Rattle.profile.specs.declared.Target.{Target}
use Rattle.candidates.specs.Try.{passes, profile_of}
use Rattle.candidates.specs.declared.Try.{Try}
use Rattle.candidates.specs.List.{slot}
use Rattle.candidates.specs.declared.Candidates.{Candidates}

-- P holds of every profile that counts
abbrev pub Counted : (Profile → Type 0) → Candidates → Type 0
Counted P c = (i : ℕ) → i < c.current_index → P (slot c i)

-- q is what the check made of a try that it accepted, a try of which G holds
pub record AcceptedOf (G : Try → Type 0) (brake accel : Float) (q : Profile) : Type 0 where
  pub x : Try
  pub is_of : G x
  pub passed : passes x ≡ true
  pub profile_is : q ≡ profile_of brake accel x

-- six slots, of which at most five count
pub record Sized (c : Candidates) : Type 0 where
  pub six : length c.valid_profiles ≡ 6
  pub at_most_five : c.current_index ≤ 5

-- the same profiles count, and the next one would have the same durations. What else the slots hold that don't count
-- may differ, as it does in the Rust after tries that failed
pub record SameCounted (c d : Candidates) : Type 0 where
  pub sized : Sized c
  pub sized' : Sized d
  pub index : c.current_index ≡ d.current_index
  pub counted : (i : ℕ) → i < c.current_index → slot c i ≡ slot d i
  pub brake : (slot c c.current_index).brake ≡ (slot d d.current_index).brake
  pub accel : (slot c c.current_index).accel ≡ (slot d d.current_index).accel

-- a profile has eight rows
pub record EightRows (q : Profile) : Type 0 where
  pub a : length q.a ≡ 8
  pub v : length q.v ≡ 8
  pub p : length q.p ≡ 8

-- the current slot holds this boundary
pub record Ready (start : Start) (target : Target) (brake accel : Float) (c : Candidates) : Type 0 where
  pub sized : Sized c
  pub rows : (i : ℕ) → i < 6 → EightRows (slot c i)
  pub start_is : start_of (slot c c.current_index) ≡ start
  pub target_is : target_of (slot c c.current_index) ≡ target
  pub brake_is : (slot c c.current_index).brake ≡ brake
  pub accel_is : (slot c c.current_index).accel ≡ accel

-- and every profile that counts was accepted with that boundary
pub record Sound (G : Try → Type 0) (start : Start) (target : Target) (brake accel : Float) (c : Candidates) : Type 0 where
  pub ready : Ready start target brake accel c
  pub counted : Counted (AcceptedOf G brake accel) c
