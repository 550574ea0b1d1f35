-- Text as bytes, and what a function that writes text behind a line leaves there. Definitions only.
use Rattle.std.specs.Prelude.{ℕ, ◌+◌, ◌≤◌, ◌≡◌, List, [] as nil, ◌∷◌ as cons, ◌++◌}
use Prim.Native.Char.{code}
use Prim.Native.String.{String, [], ◌∷◌}
use Rattle.arrayvec.specs.ArrayVec.{ArrayVec, array_vec_len}

-- the codes of a text's characters
abbrev pub ascii : String → List ℕ
ascii [] = nil
ascii (c ∷ s) = cons (code c) (ascii s)

-- old becomes new: the text, of at most `most` bytes, stands behind what was there
pub record Appends (old new : ArrayVec ℕ) (text : List ℕ) (most : ℕ) : Type 0 where
  pub items : new.items ≡ old.items ++ text
  pub within : array_vec_len new ≤ array_vec_len old + most
