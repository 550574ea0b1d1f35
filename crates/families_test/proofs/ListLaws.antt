-- The list of profiles as the code makes and reads it. Assumes nothing.
use Prim.Native.Nat.{ℕ, ◌<◌}
use mathlib.Core.Path.{◌≡◌, ap, ◌∙◌}
use mathlib.Core.List.{List}
use native.Mathlib.Omega.{arith}
use lib.ListN.{length, get_or, take, drop}
use Rattle.std.proofs.Common.{◌+◌, ◌-◌, min, sym}
use Rattle.std.proofs.lemmas.List.{drop-take, take_min, length-take, drop_min}
use Rattle.profile.specs.Boundary.{empty_profile}
use Rattle.profile.specs.declared.Profile.{Profile}
use Rattle.candidates.specs.List.{slot}
use Rattle.candidates.specs.declared.Candidates.{Candidates}
use Rattle.candidates.proofs.SlotLaws.{get_d_within}

-- the elements from n on of the first i, taken as a part of the list
pub part_taken : {A : Type 0} (l : List A) (i n : ℕ)
    → take (min i (length l) - min n (min i (length l))) (drop (min n (min i (length l))) l) ≡ drop n (take i l)
part_taken l i n =
    let e = min i (length l) in
    let a = min n e in
    let all : a + (e - a) ≡ e = omega arith in
    sym (drop-take a (e - a) l)
    ∙ ap (λ (z : ℕ). drop a (take z l)) all
    ∙ rw (take_min i l, ← length-take i l) (drop_min n (take i l))

pub first_slot : (c : Candidates) (d : Profile) → length c.valid_profiles ≡ 6
    → get_or c.valid_profiles 0 d ≡ slot c 0
first_slot c d six =
    let within : 0 < length c.valid_profiles = omega arith in
    get_d_within c.valid_profiles 0 d empty_profile within
