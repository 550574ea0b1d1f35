-- Text that is appended piece by piece is appended whole. Assumes nothing.
use Rattle.std.proofs.Common.{◌≡◌, ℕ, ◌+◌, ◌≤◌, ◌<◌, refl, sym, arith, add-one}
use Rattle.std.proofs.Common.{List, [], ◌∷◌, ◌++◌, append_assoc, append-nil, take, get_or, length}
use Rattle.std.proofs.Math.Seq.{take-suc}
use Rattle.std.proofs.lemmas.Grind.{flat_map-append}
use Rattle.std.specs.List.{flat_map}
use Rattle.std.specs.Float.Ieee.{Float}
use Rattle.arrayvec.specs.ArrayVec.{ArrayVec}
use Rattle.profile_lines.specs.Text.{Appends}
use Rattle.profile_lines.specs.Fields.{field, hex, double_fields}

-- no text
pub nothing : {line : ArrayVec ℕ} → Appends line line [] 0
nothing {line} = record { items = sym (append-nil line.items); within = omega arith }

-- one text and another behind it
pub then : {old mid new : ArrayVec ℕ} {s t : List ℕ} {m k : ℕ} → Appends old mid s m → Appends mid new t k → Appends old new (s ++ t) (m + k)
then {old} {mid} {new} {s} {t} p q =
    record { items = rw (q.items, p.items) (append_assoc old.items s t); within = omega (arith, p.within, q.within) }

-- a higher bound
pub within : {old new : ArrayVec ℕ} {text : List ℕ} {m k : ℕ} → m ≤ k → Appends old new text m → Appends old new text k
within h p = record { items = p.items; within = omega (arith, p.within) }

-- texts of elements, one behind the other: one more
pub one_more_text : {A : Type 0} (f : A → List ℕ) (xs : List A) (i : ℕ) (d : A) → i < length xs
    → flat_map f (take i xs) ++ f (get_or xs i d) ≡ flat_map f (take (i + 1) xs)
one_more_text f xs i d h =
    rw (add-one, take-suc xs i d, flat_map-append f (take i xs) (get_or xs i d ∷ []), append-nil (f (get_or xs i d)))

-- a turn of the loop over doubles
double_fields_append : (xs ys : List Float) → double_fields (xs ++ ys) ≡ double_fields xs ++ double_fields ys
unfolding double_fields
double_fields_append [] ys = refl
double_fields_append (x ∷ xs) ys =
    rw (double_fields_append xs ys, append_assoc (field (hex x)) (double_fields xs) (double_fields ys))

pub one_more_double : (xs : List Float) (i : ℕ) (d : Float) → i < length xs
    → double_fields (take i xs) ++ field (hex (get_or xs i d)) ≡ double_fields (take (i + 1) xs)
unfolding double_fields
one_more_double xs i d h =
    rw (add-one, take-suc xs i d, double_fields_append (take i xs) (get_or xs i d ∷ []), append-nil (hex (get_or xs i d)))
