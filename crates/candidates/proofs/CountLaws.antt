-- What an accepted try keeps. Assumes nothing.
use Prim.Native.Nat.{ℕ, ◌+◌, ◌<◌, ◌≤◌}
use mathlib.Core.Path.{◌≡◌, refl, sym, ap, ◌∙◌, subst}
use mathlib.Core.Bool.{Bool, true, false}
use mathlib.Core.Logic.{◌⊎◌, inl, inr, ⊎_elim, ◌≢◌}
use native.Mathlib.Nat.{eq-or-lt_of_le, le_of_eq}
use native.Mathlib.Omega.{arith}
use borrow.Author.Tests.{ltb-true, ltb-false}
use lib.Dec.{ltb}
use lib.ListN.{length, set, length-set}
use lib.Seq.{get_or-set_same, get_or-set_other}
use Rattle.profile.specs.Boundary.{empty_profile, with_boundary, boundary_from}
use Rattle.profile.specs.declared.Profile.{Profile}
use Rattle.candidates.specs.declared.Try.{Try}
use Rattle.candidates.specs.List.{slot, profile_in, stored, added}
use Rattle.candidates.specs.Counted.{Counted, Sized, SameCounted}
use Rattle.candidates.specs.declared.Candidates.{Candidates}
use Rattle.candidates.proofs.SlotLaws.{stored_below, stored_above}

pub from_brake : (q r : Profile) → (boundary_from q r).brake ≡ r.brake
unfolding with_boundary
from_brake q r = refl

pub from_accel : (q r : Profile) → (boundary_from q r).accel ≡ r.accel
unfolding with_boundary
from_accel q r = refl

-- ---- a profile that is stored: the index, the slot it lies in, the next one, and the others
module _ (c : Candidates) (q : Profile) where
  pub index_below : c.current_index < 5 → (stored c q).current_index ≡ c.current_index + 1
  index_below h = ap (λ (z : Candidates). z.current_index) (sym (stored_below c q h refl))

  pub index_above : 5 ≤ c.current_index → (stored c q).current_index ≡ c.current_index
  index_above h = ap (λ (z : Candidates). z.current_index) (sym (stored_above c q h))

  module _ (s : Sized c) where
    pub five_or_below : (5 ≤ c.current_index) ⊎ (c.current_index < 5)
    five_or_below = ⊎_elim (λ e. inl (le_of_eq (sym e))) (λ h. inr h) (eq-or-lt_of_le s.at_most_five)

    pub slot_other : (i : ℕ) → i ≢ c.current_index → i ≢ (c.current_index + 1) → slot (stored c q) i ≡ slot c i
    slot_other i h g =
        ⊎_elim
        (λ above.
        ap (λ (z : Candidates). slot z i) (sym (stored_above c q above))
        ∙ get_or-set_other c.valid_profiles c.current_index i q empty_profile h)
        (λ below.
        ap (λ (z : Candidates). slot z i) (sym (stored_below c q below refl))
        ∙ get_or-set_other (set c.valid_profiles c.current_index q) (c.current_index + 1) i _ empty_profile g
        ∙ get_or-set_other c.valid_profiles c.current_index i q empty_profile h)
        five_or_below

    pub slot_stored : slot (stored c q) c.current_index ≡ q
    slot_stored =
        let here : c.current_index < length c.valid_profiles = omega (arith, s.six, s.at_most_five) in
        ⊎_elim
        (λ above.
        ap (λ (z : Candidates). slot z c.current_index) (sym (stored_above c q above))
        ∙ get_or-set_same c.valid_profiles c.current_index q empty_profile here)
        (λ below.
        ap (λ (z : Candidates). slot z c.current_index) (sym (stored_below c q below refl))
        ∙ get_or-set_other (set c.valid_profiles c.current_index q) (c.current_index + 1) c.current_index _ empty_profile (λ e. omega arith)
        ∙ get_or-set_same c.valid_profiles c.current_index q empty_profile here)
        five_or_below

    pub slot_next : c.current_index < 5
        → slot (stored c q) (c.current_index + 1) ≡ boundary_from (slot c (c.current_index + 1)) q
    slot_next below =
        let within : c.current_index + 1 < length (set c.valid_profiles c.current_index q) = simp length-set (omega (arith, s.six)) in
        ap (λ (z : Candidates). slot z (c.current_index + 1)) (sym (stored_below c q below refl))
        ∙ get_or-set_same (set c.valid_profiles c.current_index q) (c.current_index + 1) _ empty_profile within
        ∙ ap (λ (z : Profile). boundary_from z q) (get_or-set_other c.valid_profiles c.current_index (c.current_index + 1) q empty_profile (λ e. omega arith))

    pub stored_sized : Sized (stored c q)
    stored_sized =
        ⊎_elim
        (λ above.
        subst (λ (z : Candidates). Sized z) (stored_above c q above)
        (record { six = simp length-set s.six; at_most_five = s.at_most_five }))
        (λ below.
        subst (λ (z : Candidates). Sized z) (stored_below c q below refl)
        (record { six = simp length-set s.six; at_most_five = omega arith }))
        five_or_below

    -- a slot that counts then counted before, or is the one that was stored to
    pub counts_then : (i : ℕ) → i < (stored c q).current_index → (i ≡ c.current_index) ⊎ (i < c.current_index)
    counts_then i l =
        eq-or-lt_of_le
        (⊎_elim (λ above. omega (arith, index_above above)) (λ below. omega (arith, index_below below)) five_or_below)

    -- the durations of the slot that is current then are q's
    pub brake_then : (slot (stored c q) (stored c q).current_index).brake ≡ q.brake
    brake_then =
        ⊎_elim
        (λ above. rw (index_above above) (ap (λ (z : Profile). z.brake) slot_stored))
        (λ below.
        rw (index_below below)
        (ap (λ (z : Profile). z.brake) (slot_next below) ∙ from_brake (slot c (c.current_index + 1)) q))
        five_or_below

    pub accel_then : (slot (stored c q) (stored c q).current_index).accel ≡ q.accel
    accel_then =
        ⊎_elim
        (λ above. rw (index_above above) (ap (λ (z : Profile). z.accel) slot_stored))
        (λ below.
        rw (index_below below)
        (ap (λ (z : Profile). z.accel) (slot_next below) ∙ from_accel (slot c (c.current_index + 1)) q))
        five_or_below

-- ---- at most five count
pub added_sized : (c : Candidates) (x : Try) → Sized c → Sized (added c x)
unfolding added
added_sized c x s = stored_sized c (profile_in c x) s

-- ---- and at least one
pub added_counts : (c : Candidates) (x : Try) → 0 < (added c x).current_index
unfolding added
added_counts c x = by (ltb c.current_index 5) refl
  where
    by : (b : Bool) → ltb c.current_index 5 ≡ b → 0 < (stored c (profile_in c x)).current_index
    by true e = omega (arith, index_below c (profile_in c x) (ltb-true c.current_index 5 e))
    by false e = omega (arith, ltb-false c.current_index 5 e, index_above c (profile_in c x) (ltb-false c.current_index 5 e))

-- ---- what holds of each profile that counts, and of the one that is added, holds of each that counts then
pub added_counted : (P : Profile → Type 0) (c : Candidates) (x : Try) → Sized c → Counted P c → P (profile_in c x)
    → Counted P (added c x)
unfolding added
added_counted P c x s h p i l =
    let q = profile_in c x in
    ⊎_elim
    (λ e. subst P (sym (ap (λ (k : ℕ). slot (stored c q) k) e ∙ slot_stored c q s)) p)
    (λ below. subst P (sym (slot_other c q s i (λ e. omega arith) (λ e. omega arith))) (h i below))
    (counts_then c q s i l)

-- ---- nothing that counts depends on a slot that doesn't
pub added_same : (c d : Candidates) (x : Try) → SameCounted c d → SameCounted (added c x) (added d x)
unfolding added
added_same c d x h =
    let sc = h.sized in
    let sd = h.sized' in
    let q = profile_in c x in
    let e : profile_in c x ≡ profile_in d x = rw (h.brake, h.accel) in
    rw (← e)
    (record {
      sized = stored_sized c q sc;
      sized' = stored_sized d q sd;
      index = ⊎_elim
          (λ above. index_above c q above ∙ h.index ∙ sym (index_above d q (omega (arith, h.index))))
          (λ below. index_below c q below ∙ ap (λ (k : ℕ). k + 1) h.index ∙ sym (index_below d q (omega (arith, h.index))))
          (five_or_below c q sc);
      counted = λ i l. ⊎_elim
          (λ z. ap (λ (k : ℕ). slot (stored c q) k) z ∙ slot_stored c q sc ∙ sym (slot_stored d q sd) ∙ ap (λ (k : ℕ). slot (stored d q) k) (sym h.index ∙ sym z))
          (λ below. slot_other c q sc i (λ z. omega arith) (λ z. omega arith) ∙ h.counted i below ∙ sym (slot_other d q sd i (λ z. omega (arith, h.index)) (λ z. omega (arith, h.index))))
          (counts_then c q sc i l);
      brake = brake_then c q sc ∙ sym (brake_then d q sd);
      accel = accel_then c q sc ∙ sym (accel_then d q sd);
    })
