-- What a check fills in: sums, jerks and the eight rows. Phases and rows count from 0: row i + 1 comes after phase i.
-- Definitions only.
use Rattle.std.specs.Prelude.{Bool, cond, ◌&&◌, List, [], ◌∷◌, Float}
use Rattle.doubles.specs.Operators.{◌+ᶠ◌, ◌*ᶠ◌, ◌/ᶠ◌, -ᶠ◌, ◌<ᶠ◌, at}
use Rattle.doubles.specs.Constants.{0ᶠ, 2ᶠ, 6ᶠ}
use Rattle.profile.specs.Names.{is_acc1, is_acc0_acc1, clears_row3}
use Rattle.profile.specs.declared.Start.{Start}
use Rattle.profile.specs.declared.Limits.{Limits}
use Rattle.profile_rows.specs.declared.Row.{Row}
use Rattle.profile_rows.specs.declared.Rows.{Rows}
use Rattle.profile.specs.declared.ReachedLimits.{ReachedLimits}
use Rattle.profile.specs.declared.ControlSigns.{ControlSigns}
use Rattle.profile.specs.declared.ControlSigns.TheVariants.{UDDU, UDUD}

-- t_sum: the time up to the end of each phase
unfoldable pub sums : List Float → List Float
sums t =
    let s1 = at t 0 +ᶠ at t 1 in
    let s2 = s1 +ᶠ at t 2 in
    let s3 = s2 +ᶠ at t 3 in
    let s4 = s3 +ᶠ at t 4 in
    let s5 = s4 +ᶠ at t 5 in
    let s6 = s5 +ᶠ at t 6 in
    at t 0 ∷ s1 ∷ s2 ∷ s3 ∷ s4 ∷ s5 ∷ s6 ∷ []

-- j in a phase whose time is above 0, else 0
unfoldable pub jerk_if : Float → Float → Float
jerk_if t j = cond (0ᶠ <ᶠ t) j 0ᶠ

unfoldable pub jerks : ControlSigns → List Float → Float → List Float
jerks UDDU t jf = jerk_if (at t 0) jf ∷ 0ᶠ ∷ jerk_if (at t 2) (-ᶠ jf) ∷ 0ᶠ ∷ jerk_if (at t 4) (-ᶠ jf) ∷ 0ᶠ ∷ jerk_if (at t 6) jf ∷ []
jerks UDUD t jf = jerk_if (at t 0) jf ∷ 0ᶠ ∷ jerk_if (at t 2) (-ᶠ jf) ∷ 0ᶠ ∷ jerk_if (at t 4) jf ∷ 0ᶠ ∷ jerk_if (at t 6) (-ᶠ jf) ∷ []

-- the row after a phase of t seconds at the jerk j, from the row r
unfoldable pub row_after : Row → Float → Float → Row
row_after r t j =
    record {
      a = r.a +ᶠ t *ᶠ j;
      v = r.v +ᶠ t *ᶠ (r.a +ᶠ t *ᶠ j /ᶠ 2ᶠ);
      p = r.p +ᶠ t *ᶠ (r.v +ᶠ t *ᶠ (r.a /ᶠ 2ᶠ +ᶠ t *ᶠ j /ᶠ 6ᶠ));
    }

-- the row r, with x stored as its acceleration if so said
unfoldable pub stored_if : Bool → Float → Row → Row
stored_if b x r = record { a = cond b x r.a; v = r.v; p = r.p }

-- row 1 or 5: for Acc0Acc1 `set_limits` stores the limit there
unfoldable pub outer_row : ReachedLimits → Bool → Float → Row → Row
outer_row reached set-limits limit r = stored_if (set-limits && is_acc0_acc1 reached) limit r

-- row 3: 0 for some names, and for Acc1 `set_limits` stores a_min there
unfoldable pub middle_row : ReachedLimits → Bool → Float → Row → Row
middle_row reached set-limits a-min r = stored_if (set-limits && is_acc1 reached) a-min (stored_if (clears_row3 reached) 0ᶠ r)

unfoldable pub rows_of : Start → List Float → List Float → ReachedLimits → Bool → Limits → Rows
rows_of start t j reached set-limits m =
    let r0 : Row = record { a = start.a0; v = start.v0; p = start.p0 } in
    let r1 = outer_row reached set-limits m.a_max (row_after r0 (at t 0) (at j 0)) in
    let r2 = row_after r1 (at t 1) (at j 1) in
    let r3 = middle_row reached set-limits m.a_min (row_after r2 (at t 2) (at j 2)) in
    let r4 = row_after r3 (at t 3) (at j 3) in
    let r5 = outer_row reached set-limits m.a_min (row_after r4 (at t 4) (at j 4)) in
    let r6 = row_after r5 (at t 5) (at j 5) in
    let r7 = row_after r6 (at t 6) (at j 6) in
    record {
      a = r0.a ∷ r1.a ∷ r2.a ∷ r3.a ∷ r4.a ∷ r5.a ∷ r6.a ∷ r7.a ∷ [];
      v = r0.v ∷ r1.v ∷ r2.v ∷ r3.v ∷ r4.v ∷ r5.v ∷ r6.v ∷ r7.v ∷ [];
      p = r0.p ∷ r1.p ∷ r2.p ∷ r3.p ∷ r4.p ∷ r5.p ∷ r6.p ∷ r7.p ∷ [];
    }
