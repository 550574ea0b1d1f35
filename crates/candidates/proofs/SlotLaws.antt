-- What an accepted try does to the slots. Assumes nothing.
use Prim.Native.Nat.{ℕ, ◌+◌, ◌<◌, ◌≤◌}
use mathlib.Core.Path.{◌≡◌, sym, ap, ◌∙◌}
use mathlib.Core.List.{List}
use native.Mathlib.Omega.{arith}
use lib.ListN.{length, get_or, set, length-set}
use lib.Seq.{get_or-set_same, set-get_or, set_out}
use borrow.Author.Tests.{lt-ltb, le-ltb}
use mir.Val.{Val}
use denote.Shadow.{shadow}
use Rattle.profile.specs.Boundary.{empty_profile, boundary_from}
use Rattle.profile.specs.declared.Profile.{Profile}
use Rattle.candidates.specs.contracts.Candidates as list
use Rattle.candidates.specs.Try.{profile_of}
use Rattle.candidates.specs.declared.Try.{Try}
use Rattle.candidates.specs.List.{profile_in, stored, added}
use Rattle.candidates.specs.declared.Candidates.{Candidates}

-- within a list, it doesn't matter what lies past its end
pub get_d_within : {A : Type 0} (l : List A) (i : ℕ) (d e : A) → i < length l → get_or l i d ≡ get_or l i e
get_d_within {A} l i d e h = ap (λ (z : List A). get_or z i d) (sym (set-get_or l i e)) ∙ get_or-set_same l i (get_or l i e) d h

-- what the machine holds as a list has six slots: the generated fact says of an array how many elements it has
pub six_slots : (c : Candidates) (vs : List Val) → shadow ((list.the_field).row.own_val ((list.the_type).to c) vs)
    → length c.valid_profiles ≡ 6
six_slots c vs g = g.1.1.0.1.0.1

-- these slots, of which the first n count
abbrev counting : List Profile → ℕ → Candidates
counting slots n = record { valid_profiles = slots; current_index = n }

module _ (c : Candidates) (q : Profile) where
  pub stored_below : {r : Profile} → c.current_index < 5
      → r ≡ boundary_from (get_or (set c.valid_profiles c.current_index q) (c.current_index + 1) empty_profile) q
      → counting (set (set c.valid_profiles c.current_index q) (c.current_index + 1) r) (c.current_index + 1)
      ≡ stored c q
  unfolding stored
  stored_below h e = rw (e, lt-ltb _ _ h)

  pub stored_above : 5 ≤ c.current_index
      → counting (set c.valid_profiles c.current_index q) c.current_index ≡ stored c q
  unfolding stored
  stored_above h = rw (le-ltb _ _ h)

  pub stored_out : length c.valid_profiles ≡ 6 → 5 < c.current_index → c ≡ stored c q
  unfolding stored
  stored_out six h =
      let below : 5 ≤ c.current_index = omega arith in
      let out : length c.valid_profiles ≤ c.current_index = omega arith in
      rw (le-ltb _ _ below, set_out c.valid_profiles c.current_index q out)

-- the same for the slots as the code reads them: d is what it takes to lie past the end
abbrev read : Candidates → Profile → Profile
read c d = get_or c.valid_profiles c.current_index d

module _ (c : Candidates) (x : Try) (holds-six : length c.valid_profiles ≡ 6) where
  pub added_out : 5 < c.current_index → c ≡ added c x
  unfolding added
  added_out h = stored_out c (profile_in c x) holds-six h

  profile_is : (d : Profile) {q : Profile} → c.current_index < 6
      → q ≡ profile_of (read c d).brake (read c d).accel x
      → q ≡ profile_in c x
  profile_is d h e =
      let within : c.current_index < length c.valid_profiles = omega arith in
      e ∙ rw (get_d_within c.valid_profiles c.current_index d empty_profile within)

  pub added_below : (d : Profile) {q r : Profile} → c.current_index < 5
      → q ≡ profile_of (read c d).brake (read c d).accel x
      → r ≡ boundary_from (get_or (set c.valid_profiles c.current_index q) (c.current_index + 1) d) q
      → counting (set (set c.valid_profiles c.current_index q) (c.current_index + 1) r) (c.current_index + 1)
      ≡ added c x
  unfolding added
  added_below d {q} h e f =
      let below : c.current_index < 6 = omega arith in
      let within : c.current_index + 1 < length (set c.valid_profiles c.current_index q) = simp length-set (omega arith) in
      let beyond = get_d_within (set c.valid_profiles c.current_index q) (c.current_index + 1) d empty_profile within in
      stored_below c q h (f ∙ ap (λ (z : Profile). boundary_from z q) beyond)
      ∙ ap (λ (z : Profile). stored c z) (profile_is d below e)

  pub added_last : (d : Profile) {q : Profile} → c.current_index ≤ 5 → 5 ≤ c.current_index
      → q ≡ profile_of (read c d).brake (read c d).accel x
      → counting (set c.valid_profiles c.current_index q) c.current_index ≡ added c x
  unfolding added
  added_last d {q} h g e =
      let below : c.current_index < 6 = omega arith in
      stored_above c q g ∙ ap (λ (z : Profile). stored c z) (profile_is d below e)
