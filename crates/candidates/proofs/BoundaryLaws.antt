-- The current slot holds the move's boundary, and what counts was accepted with it. Assumes nothing.
use Prim.Native.Nat.{ℕ, ◌+◌, ◌<◌, ◌≤◌}
use mathlib.Core.Path.{◌≡◌, refl, sym, ap, ◌∙◌, subst}
use mathlib.Core.Bool.{true, false}
use mathlib.Core.Logic.{⊎_elim, ◌≢◌}
use native.Mathlib.Nat.{eq-or-lt_of_le, eq-zero-or-pos}
use native.Mathlib.Decide.{dec_le}
use native.Mathlib.Omega.{arith}
use lib.Ieee.{Float, nan}
use lib.ListN.{get_or, set, replicate, length-set, get_or-replicate}
use lib.Seq.{get_or-set_same, get_or-set_other}
use Rattle.profile.specs.Boundary.{start_of, target_of, empty_profile, with_boundary, boundary_from}
use Rattle.profile_rows.specs.Rows.{rows_of}
use Rattle.profile_check.specs.Check.{filled, checked}
use Rattle.profile.specs.declared.Profile.{Profile}
use Rattle.profile.specs.declared.Start.{Start}
use Rattle.profile.specs.declared.Target.{Target}
use Rattle.profile.specs.declared.ControlSigns.TheVariants.{UDDU}
use Rattle.candidates.specs.Try.{passes, profile_of}
use Rattle.candidates.specs.declared.Try.{Try}
use Rattle.candidates.specs.List.{slot, profile_in, stored, added, fresh_list}
use Rattle.candidates.specs.Counted.{Counted, AcceptedOf, EightRows, Ready, Sound}
use Rattle.candidates.specs.declared.Candidates.{Candidates}
use Rattle.candidates.proofs.CheckLaws.{checked_yes, start_of_law, target_of_law, brake_of, accel_of}
use Rattle.candidates.proofs.CountLaws.{from_brake, from_accel, five_or_below, index_above, index_below}
use Rattle.candidates.proofs.CountLaws.{slot_stored, slot_next, slot_other, stored_sized}
use Rattle.candidates.proofs.CountLaws.{brake_then, accel_then, added_counted}

-- ---- eight rows
empty_rows : EightRows empty_profile
unfolding empty_profile
empty_rows = record { a = refl; v = refl; p = refl }

profile_rows : (brake accel : Float) (x : Try) → EightRows (profile_of brake accel x)
unfolding profile_of filled rows_of
profile_rows brake accel x = record { a = refl; v = refl; p = refl }

module _ (q r : Profile) (h : EightRows q) where
  from_rows : EightRows (boundary_from q r)
  unfolding with_boundary
  from_rows = record { a = simp length-set h.a; v = simp length-set h.v; p = simp length-set h.p }

  start_from : start_of (boundary_from q r) ≡ start_of r
  unfolding with_boundary
  start_from =
      let a : get_or (set q.a 0 (get_or r.a 0 nan)) 0 nan ≡ get_or r.a 0 nan = get_or-set_same q.a 0 _ nan (omega (arith, h.a)) in
      let v : get_or (set q.v 0 (get_or r.v 0 nan)) 0 nan ≡ get_or r.v 0 nan = get_or-set_same q.v 0 _ nan (omega (arith, h.v)) in
      let p : get_or (set q.p 0 (get_or r.p 0 nan)) 0 nan ≡ get_or r.p 0 nan = get_or-set_same q.p 0 _ nan (omega (arith, h.p)) in
      rw (a, v, p)

  target_from : target_of (boundary_from q r) ≡ target_of r
  unfolding with_boundary
  target_from = refl

-- ---- a fresh list
module _ (input : Profile) where
  fresh_rows : (i : ℕ) → i < 6 → EightRows (slot (fresh_list input) i)
  unfolding fresh_list
  fresh_rows i l =
      ⊎_elim
      (λ e.
      subst (λ (k : ℕ). EightRows (get_or (set (replicate 6 empty_profile) 0 (boundary_from empty_profile input)) k empty_profile))
      (sym e)
      (from_rows empty_profile input empty_rows))
      (λ h.
      subst EightRows
      (sym
      (get_or-set_other (replicate 6 empty_profile) 0 i (boundary_from empty_profile input) empty_profile (λ e. omega arith)
      ∙ get_or-replicate 6 i empty_profile empty_profile l))
      empty_rows)
      (eq-zero-or-pos i)

  pub fresh_ready : Ready (start_of input) (target_of input) input.brake input.accel (fresh_list input)
  unfolding fresh_list
  fresh_ready =
      record {
        sized = record { six = refl; at_most_five = omega arith };
        rows = fresh_rows;
        start_is = start_from empty_profile input empty_rows;
        target_is = target_from empty_profile input empty_rows;
        brake_is = from_brake empty_profile input;
        accel_is = from_accel empty_profile input;
      }

  pub fresh_sound : (G : Try → Type 0)
      → Sound G (start_of input) (target_of input) input.brake input.accel (fresh_list input)
  unfolding fresh_list
  fresh_sound G = record { ready = fresh_ready; counted = λ i l. absurd (let none : ⊥ = omega arith in none) }

-- ---- an accepted try is added
module _ {start : Start} {target : Target} {brake accel : Float} (c : Candidates) (x : Try)
    (r : Ready start target brake accel c) (es : x.start ≡ start) (et : x.target ≡ target) where
  profile_own : profile_in c x ≡ profile_of brake accel x
  profile_own = rw (r.brake_is, r.accel_is)

  -- the slot then current holds the same boundary
  start_then : start_of (slot (stored c (profile_in c x)) (stored c (profile_in c x)).current_index) ≡ start
  start_then =
      let profile-start : start_of (profile_in c x) ≡ start = start_of_law _ _ x ∙ es in
      ⊎_elim
      (λ above. rw (index_above c (profile_in c x) above) (ap start_of (slot_stored c (profile_in c x) r.sized) ∙ profile-start))
      (λ below.
      rw (index_below c (profile_in c x) below)
      (ap start_of (slot_next c (profile_in c x) r.sized below)
      ∙ start_from _ (profile_in c x) (r.rows (c.current_index + 1) (omega arith))
      ∙ profile-start))
      (five_or_below c (profile_in c x) r.sized)

  target_then : target_of (slot (stored c (profile_in c x)) (stored c (profile_in c x)).current_index) ≡ target
  target_then =
      let profile-target : target_of (profile_in c x) ≡ target = target_of_law _ _ x ∙ et in
      ⊎_elim
      (λ above. rw (index_above c (profile_in c x) above) (ap target_of (slot_stored c (profile_in c x) r.sized) ∙ profile-target))
      (λ below.
      rw (index_below c (profile_in c x) below)
      (ap target_of (slot_next c (profile_in c x) r.sized below)
      ∙ target_from _ (profile_in c x) (r.rows (c.current_index + 1) (omega arith))
      ∙ profile-target))
      (five_or_below c (profile_in c x) r.sized)

  rows_then : (i : ℕ) → i < 6 → EightRows (slot (stored c (profile_in c x)) i)
  rows_then i l =
      let other : i ≢ c.current_index → i ≢ (c.current_index + 1) → EightRows (slot (stored c (profile_in c x)) i) =
      λ g h. subst EightRows (sym (slot_other c (profile_in c x) r.sized i g h)) (r.rows i l) in
      elim (dec_le i c.current_index) [
        | yes a ↦ ⊎_elim
            (λ e.
            subst EightRows
            (sym (ap (λ (k : ℕ). slot (stored c (profile_in c x)) k) e ∙ slot_stored c (profile_in c x) r.sized))
            (profile_rows _ _ x))
            (λ below. other (λ e. omega arith) (λ e. omega arith))
            (eq-or-lt_of_le a)
        | no a ↦ ⊎_elim
            (λ e.
            subst EightRows
            (sym
            (ap (λ (k : ℕ). slot (stored c (profile_in c x)) k) (sym e)
            ∙ slot_next c (profile_in c x) r.sized (omega arith)))
            (from_rows _ (profile_in c x) (r.rows (c.current_index + 1) (omega arith))))
            (λ above. other (λ e. omega arith) (λ e. omega arith))
            (eq-or-lt_of_le (let next : c.current_index + 1 ≤ i = omega arith in next))
      ]

  pub added_ready : Ready start target brake accel (added c x)
  unfolding added
  added_ready =
      record {
        sized = stored_sized c (profile_in c x) r.sized;
        rows = rows_then;
        start_is = start_then;
        target_is = target_then;
        brake_is = brake_then c (profile_in c x) r.sized ∙ brake_of _ _ x ∙ r.brake_is;
        accel_is = accel_then c (profile_in c x) r.sized ∙ accel_of _ _ x ∙ r.accel_is;
      }

  -- the check of the slot's own profile at the try's times, as the Rust has it, says yes and gives what is added
  pub slot_checked : (g : Profile) → start_of g ≡ start_of (slot c c.current_index)
      → target_of g ≡ target_of (slot c c.current_index) → g.brake ≡ (slot c c.current_index).brake
      → g.accel ≡ (slot c c.current_index).accel → g.t ≡ x.t
      → passes x ≡ true → checked g UDDU x.reached false x.jf x.limits ≡ record { ok = true; profile = profile_in c x }
  slot_checked g gs gt gb ga e p = rw (← gb, ← ga) (checked_yes x g (gs ∙ r.start_is ∙ sym es) (gt ∙ r.target_is ∙ sym et) e p)

  -- and what counts then was accepted
  pub added_sound : {G : Try → Type 0} → Counted (AcceptedOf G brake accel) c → G x → passes x ≡ true
      → Sound G start target brake accel (added c x)
  added_sound {G} h g p =
      record {
        ready = added_ready;
        counted = added_counted (AcceptedOf G brake accel) c x r.sized h (record { x = x; is_of = g; passed = p; profile_is = profile_own });
      }
