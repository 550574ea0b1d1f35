-- What is left of a search from a place on: the tries of a stage from a slot on, and the stages after it. Assumes
-- nothing.
use Prim.Native.Nat.{ℕ, suc, ◌+◌, ◌-◌, ◌≤◌, ◌<◌}
use mathlib.Core.Path.{◌≡◌, refl, sym, ap, ◌∙◌}
use mathlib.Core.Bool.{Bool, true, false, cond, not, ◌&&◌, ◌||◌, true≢false}
use mathlib.Core.List.{List, [], ◌∷◌}
use native.Mathlib.Numerals.{add-one}
use native.Mathlib.Omega.{arith}
use borrow.Author.Tests.{ltb-true, ltb-false, le-ltb, not-true, not-false}
use lib.Dec.{ltb}
use lib.Ieee.{Float}
use lib.ListN.{length, drop, get_or, set, length-set, drop_of_length-le}
use lib.Seq.{drop-cons}
use Rattle.doubles.specs.Constants.{0ᶠ}
use Rattle.profile.specs.Boundary.{empty_profile, boundary_from}
use Rattle.profile.specs.declared.Profile.{Profile}
use Rattle.profile.specs.declared.Start.{Start}
use Rattle.profile.specs.declared.Target.{Target}
use Rattle.profile.specs.declared.Limits.{Limits}
use Rattle.phase_times.specs.declared.constants.Constants.{Constants}
use Rattle.trees.specs.Tree.{run}
use Rattle.trees.specs.InTurn.{in_turn}
use Rattle.trees.specs.Stages.{in_stages}
use Rattle.trees.proofs.TreeLaws.{run_bind}
use Rattle.trees.proofs.InTurnLaws.{run_no, run_yes, run_stop}
use Rattle.candidates.specs.Try.{passes}
use Rattle.candidates.specs.declared.Try.{Try}
use Rattle.candidates.specs.List.{profile_in, stored, added}
use Rattle.candidates.specs.declared.Candidates.{Candidates}
use Rattle.position_third_step1.specs.CheckTree.{found, tries, only_if}
use Rattle.position_third_step1.specs.Slots.{Slot, slot_at, held, numbers}
use Rattle.position_third_step1.specs.Families.{shared_of, slots_of, try_by, tries_of}
use Rattle.position_third_step1.specs.TimeAllNoneAcc0Acc1.{root_slots}
use Rattle.position_third_step1.specs.declared.families.Family.{Family}
use Rattle.position_third_step1.specs.declared.families.Family.TheVariants.{None}
use Rattle.position_third_step1.specs.declared.families.Shared.{Shared}
use Rattle.position_third_step1.proofs.CountLaws.{four_slots}
use Rattle.search.specs.Stages.{limits_for, stage_at, stages_from, is_found, search_of}
use Rattle.search.specs.declared.stages.Kind.{Kind}
use Rattle.search.specs.declared.stages.Stage.{Stage}

-- ---- a row of slots from one on
module _ (of : List Float → Try) (stops : Bool) (slots : List Slot) where
  -- the list after the tries from the slot i on
  abbrev pub from : ℕ → Candidates → Candidates
  from i d = found (tries stops d (held of (drop i slots)))

  pub past : (i : ℕ) (d : Candidates) → length slots ≤ i → from i d ≡ d
  unfolding held run in_turn
  past i d h = rw (drop_of_length-le slots h)

  module _ (i : ℕ) (d : Candidates) (h : i < length slots) where
    from_slot : from i d
        ≡ found (tries stops d (only_if (slot_at slots i).0 (of (slot_at slots i).1) (held of (drop (i + 1) slots))))
    unfolding held
    from_slot = rw (drop-cons slots i (false, []) h, add-one)

    pub empty : (slot_at slots i).0 ≡ false → from (i + 1) d ≡ from i d
    unfolding only_if
    empty e = sym (from_slot ∙ rw e)

    -- the try x of a slot
    module _ (e : (slot_at slots i).0 ≡ true) {x : Try} (ex : x ≡ of (slot_at slots i).1) where
      from_try : from i d ≡ found (tries stops d (x ∷ held of (drop (i + 1) slots)))
      unfolding only_if
      from_try = from_slot ∙ rw (e, ← ex)

      pub refused : passes x ≡ false → from (i + 1) d ≡ from i d
      refused n = sym (from_try ∙ run_no passes added stops d x _ n)

      pub accepted : passes x ≡ true → from (cond stops (length slots) (i + 1)) (added d x) ≡ from i d
      accepted y = go stops refl
        where
          go : (b : Bool) → stops ≡ b → from (cond b (length slots) (i + 1)) (added d x) ≡ from i d
          go true b =
              past (length slots) (added d x) (omega arith) ∙ sym (from_try ∙ rw b (run_stop passes added d x _ y))
          go false b = sym (from_try ∙ rw b (run_yes passes added d x _ y))

-- ---- the stages from one on
module _ (start : Start) (target : Target) (k : Constants) (m : Limits) (kind : Kind) (to : ℕ) where
  abbrev pub later : ℕ → Candidates → Candidates
  later n d = found (search_of start target k m (stages_from kind n (to - n)) d)

  pub over : (n : ℕ) (d : Candidates) → to ≤ n → d ≡ later n d
  unfolding stages_from in_stages run
  over n d h = let e : to - n ≡ 0 = omega arith in rw e

  module _ (n : ℕ) (d : Candidates) (h : n < to) {s : Stage} (e : s ≡ stage_at kind n) where
    stage_first : later n d ≡ found (search_of start target k m (s ∷ stages_from kind (n + 1) (to - (n + 1))) d)
    unfolding stages_from
    stage_first = let f : to - n ≡ suc (to - (n + 1)) = omega arith in rw (f, ← e)

    pub ended : (s.guarded && is_found d) ≡ true → d ≡ later n d
    unfolding in_stages run
    ended g = sym (stage_first ∙ rw g)

    pub entered : (s.guarded && is_found d) ≡ false → {w : Limits} → w ≡ limits_for k m s.way → {h : Shared}
        → h ≡ shared_of start target k w s.family
        → later (n + 1)
        (from (try_by start target w s.family) s.stops (slots_of start target k w s.family h) 0 d)
        ≡ later n d
    unfolding in_stages tries_of
    entered g ew eh = sym (stage_first ∙ rw (g, ← ew, ← eh) (run_bind passes _ _))

-- an accepted try leaves six slots
added_six : (d : Candidates) (x : Try) → length d.valid_profiles ≡ 6 → length (added d x).valid_profiles ≡ 6
unfolding added stored
added_six d x h = go (ltb d.current_index 5)
  where
    slots : List Profile
    slots = set d.valid_profiles d.current_index (profile_in d x)

    below : Candidates
    below =
        record {
          valid_profiles =
              set slots (d.current_index + 1)
              (boundary_from (get_or slots (d.current_index + 1) empty_profile) (profile_in d x));
          current_index = d.current_index + 1;
        }

    above : Candidates
    above = record { valid_profiles = slots; current_index = d.current_index }

    go : (b : Bool) → length (cond {A = Candidates} b below above).valid_profiles ≡ 6
    go true = simp length-set h
    go false = simp length-set h

-- ---- a place in a search: d is the list so far; f, w, stops and s are of the present stage, which has `count` slots;
-- i is the next of them, and n the next stage. What is left leads to the list at the end
module _ (start : Start) (target : Target) (k : Constants) (m : Limits) (kind : Kind) (to : ℕ) where
  pub record Place (end d : Candidates) (n : ℕ) (f : Family) (w : Limits) (stops : Bool) (s : Shared) (count i : ℕ) : Type 0
    where
      pub left : later start target k m kind to n
          (from (try_by start target w f) stops (slots_of start target k w f s) i d)
          ≡ end
      pub counted : count ≡ length (slots_of start target k w f s)
      pub four : count ≤ 4
      pub six : length d.valid_profiles ≡ 6

  -- before the first stage
  pub outset : (n : ℕ) (d : Candidates) → length d.valid_profiles ≡ 6 → (stops : Bool) (w : Limits) {s : Shared}
      → s ≡ numbers 0ᶠ 0ᶠ 0ᶠ 0ᶠ → Place (later start target k m kind to n d) d n None w stops s 0 0
  unfolding slots_of numbers root_slots held run in_turn
  outset n d h stops w e = rw e (record { left = refl; counted = refl; four = omega arith; six = h })

  module _ {end d : Candidates} {n : ℕ} {f : Family} {w : Limits} {stops : Bool} {s : Shared} {count i : ℕ}
      (p : Place end d n f w stops s count i) where
    -- ---- with no slot left
    module _ (h : count ≤ i) where
      next_stage : later start target k m kind to n d ≡ end
      next_stage =
          ap (λ (z : Candidates). later start target k m kind to n z)
          (sym (past _ stops _ i d (omega (arith, p.counted))))
          ∙ p.left

      pub at_end : to ≤ n → d ≡ end
      at_end g = over start target k m kind to n d g ∙ next_stage

      module _ (g : n < to) {x : Stage} (e : x ≡ stage_at kind n) where
        pub at_guard : (x.guarded && is_found d) ≡ true → d ≡ end
        at_guard b = ended start target k m kind to n d g e b ∙ next_stage

        at_most_four : (w' : Limits) {s' : Shared} → s' ≡ shared_of start target k w' x.family → {count' : ℕ}
            → count' ≡ length (slots_of start target k w' x.family s') → count' ≤ 4
        at_most_four w' es ec = rw (ec, es) (four_slots start target k w' x.family)

        pub enter : (x.guarded && is_found d) ≡ false → {w' : Limits} → w' ≡ limits_for k m x.way → {s' : Shared}
            → s' ≡ shared_of start target k w' x.family → {count' : ℕ}
            → count' ≡ length (slots_of start target k w' x.family s')
            → Place end d (n + 1) x.family w' x.stops s' count' 0
        enter b ew es ec =
            record {
              left = entered start target k m kind to n d g e b ew es ∙ next_stage;
              counted = ec;
              four = at_most_four _ es ec;
              six = p.six;
            }

    -- ---- at a slot: what is read of it
    module _ (h : i < count) {b : Bool}
        (eb : i < length (slots_of start target k w f s) → b ≡ (slot_at (slots_of start target k w f s) i).0) where
      within : i < length (slots_of start target k w f s)
      within = omega (arith, p.counted)

      goes_on : {d' : Candidates} {i' : ℕ} → length d'.valid_profiles ≡ 6
          → from (try_by start target w f) stops (slots_of start target k w f s) i' d'
          ≡ from (try_by start target w f) stops (slots_of start target k w f s) i d
          → Place end d' n f w stops s count i'
      goes_on six e =
          record {
            left = ap (λ (z : Candidates). later start target k m kind to n z) e ∙ p.left;
            counted = p.counted;
            four = p.four;
            six = six;
          }

      pub skip : not b ≡ true → Place end d n f w stops s count (i + 1)
      skip e = goes_on p.six (empty _ stops _ i d within (sym (eb within) ∙ not-true b e))

      module _ (holds : not b ≡ false) {t : List Float}
          (et : i < length (slots_of start target k w f s) → t ≡ (slot_at (slots_of start target k w f s) i).1) {x : Try}
          (ex : x ≡ try_by start target w f t) {ok : Bool} (answer : ok ≡ passes x) where
        try_is : x ≡ try_by start target w f (slot_at (slots_of start target k w f s) i).1
        try_is = ex ∙ ap (λ (z : List Float). try_by start target w f z) (et within)

        pub refuse : not ok ≡ true → Place end d n f w stops s count (i + 1)
        refuse r =
            goes_on p.six
            (refused _ stops _ i d within (sym (eb within) ∙ not-false b holds) try_is (sym answer ∙ not-true ok r))

        pub accept : not ok ≡ false → {i' : ℕ} → i' ≡ cond stops count (i + 1) → {d' : Candidates} → d' ≡ added d x
            → Place end d' n f w stops s count i'
        accept r ei ed =
            goes_on (rw ed (added_six d x p.six))
            (rw (ei, ed, p.counted)
            (accepted _ stops _ i d within (sym (eb within) ∙ not-false b holds) try_is (sym answer ∙ not-false ok r)))

-- ---- the tests of a turn
pub stage_left : (i count n to : ℕ) → (ltb i count || ltb n to) ≡ true → count ≤ i → n < to
stage_left i count n to h g = ltb-true n to (sym (ap (λ (b : Bool). b || ltb n to) (le-ltb i count g)) ∙ h)

pub none_left : (i count n to : ℕ) → (ltb i count || ltb n to) ≡ false → (count ≤ i) × (to ≤ n)
none_left i count n to h = go (ltb i count) (ltb n to) refl refl h
  where
    go : (a b : Bool) → ltb i count ≡ a → ltb n to ≡ b → (a || b) ≡ false → (count ≤ i) × (to ≤ n)
    go true b ea eb e = absurd (true≢false e)
    go false true ea eb e = absurd (true≢false e)
    go false false ea eb e = (ltb-false i count ea, ltb-false n to eb)

-- ---- how much is left: a turn for each stage and for each of its slots
module _ (start : Start) (target : Target) (k : Constants) (m : Limits) where
  abbrev pub slots_in : Stage → List Slot
  slots_in s =
      let w = limits_for k m s.way in
      slots_of start target k w s.family (shared_of start target k w s.family)

  unfoldable pub turns : List Stage → ℕ
  turns [] = 0
  turns (s ∷ ss) = suc (length (slots_in s) + turns ss)

  module _ (kind : Kind) (to : ℕ) where
    -- from the stage n on, with `count` slots of the one before it, i of them behind
    abbrev pub turns_from : (n count i : ℕ) → ℕ
    turns_from n count i = turns (stages_from kind n (to - n)) + (count - i)

    module _ (n : ℕ) (h : n < to) {x : Stage} (e : x ≡ stage_at kind n) where
      turns_of : turns (stages_from kind n (to - n))
          ≡ suc (length (slots_in x) + turns (stages_from kind (n + 1) (to - (n + 1))))
      unfolding turns stages_from
      turns_of = let f : to - n ≡ suc (to - (n + 1)) = omega arith in rw (f, ← e)

      pub fewer : (count i : ℕ) {w : Limits} → w ≡ limits_for k m x.way → {s : Shared}
          → s ≡ shared_of start target k w x.family → {count' : ℕ}
          → count' ≡ length (slots_of start target k w x.family s) → turns_from (n + 1) count' 0 < turns_from n count i
      fewer count i ew es {count'} ec =
          let all : count' ≡ length (slots_in x) = rw (ec, es, ew) in
          omega (arith, all, turns_of)
