-- The slots of a family: which of its tries are made, and their times, in the Rust's order. Definitions only.
use Rattle.std.specs.Prelude.{◌≡◌, ℕ, ◌<◌, Bool, true, false, List, [], ◌∷◌, Float, get_or, length}
use Rattle.doubles.specs.Constants.{0ᶠ}
use Rattle.roots.specs.List.{no_roots}
use Rattle.candidates.specs.declared.Try.{Try}
use Rattle.position_third_step1.specs.CheckTree.{only_if}
use Rattle.position_third_step1.specs.declared.families.Shared.{Shared}

-- whether it holds a try, and the times
abbrev pub Slot : Type 0
Slot = Bool × List Float

-- the slot i
abbrev pub slot_at : List Slot → ℕ → Slot
slot_at slots i = get_or slots i (false, [])

-- what is said of it is said where there is one: whether it holds a try, and which times
abbrev pub HoldsAt : List Slot → ℕ → Bool → Type 0
HoldsAt slots i holds = i < length slots → holds ≡ (slot_at slots i).0

abbrev pub TimesAt : List Slot → ℕ → List Float → Type 0
TimesAt slots i t = i < length slots → t ≡ (slot_at slots i).1

-- times that are always tried
unfoldable pub always : List (List Float) → List Slot
always [] = []
always (t ∷ ts) = (true, t) ∷ always ts

-- the tries that slots hold; `of` makes a try of times
unfoldable pub held : (of : List Float → Try) → List Slot → List Try
held of [] = []
held of (s ∷ ss) = only_if s.0 (of s.1) (held of ss)

-- shared numbers alone
unfoldable pub numbers : (h0 h1 h2 h3 : Float) → Shared
numbers h0 h1 h2 h3 =
    record { roots = no_roots; range = record { t_min = 0ᶠ; t_max = 0ᶠ }; h0 = h0; h1 = h1; h2 = h2; h3 = h3 }
