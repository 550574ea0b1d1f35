-- The list of accepted profiles: six slots, of which the first `current_index` count. Definitions only.
-- The slot at the index is where the next try is made. It holds a boundary, and in the Rust the times of the tries that
-- failed there; here a try that fails leaves the list as it is, since no family reads a slot's times and no plan shows
-- a slot that doesn't count.
use Rattle.std.specs.Prelude.{ℕ, ◌+◌, cond, ltb, get_or, set, replicate}
use Rattle.profile.specs.Boundary.{empty_profile, boundary_from}
use Rattle.profile.specs.declared.Profile.{Profile}
use Rattle.candidates.specs.Try.{profile_of}
use Rattle.candidates.specs.declared.Try.{Try}
use Rattle.candidates.specs.declared.Candidates.{Candidates}

-- what the slot i holds
abbrev pub slot : Candidates → ℕ → Profile
slot c i = get_or c.valid_profiles i empty_profile

-- a profile put into the current slot: it counts, and its boundary goes to the next slot. At index 5 the sixth slot is
-- written and doesn't count; past the sixth there is no slot, and nothing is written
unfoldable pub stored : Candidates → Profile → Candidates
stored c q =
    let i = c.current_index in
    let slots = set c.valid_profiles i q in
    cond (ltb i 5)
    (record { valid_profiles = set slots (i + 1) (boundary_from (get_or slots (i + 1) empty_profile) q); current_index = i + 1 })
    (record { valid_profiles = slots; current_index = i })

-- the profile that an accepted try makes: its own start and target, the durations of the current slot
abbrev pub profile_in : Candidates → Try → Profile
profile_in c x = profile_of (slot c c.current_index).brake (slot c c.current_index).accel x

-- `add_profile`, where the check accepts the try
unfoldable pub added : Candidates → Try → Candidates
added c x = stored c (profile_in c x)

-- a fresh planner's list: empty profiles, the first with the boundary of the input
unfoldable pub fresh_list : Profile → Candidates
fresh_list input = record {
  valid_profiles = set (replicate 6 empty_profile) 0 (boundary_from empty_profile input);
  current_index = 0;
}
