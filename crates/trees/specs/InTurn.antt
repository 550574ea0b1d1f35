-- Questions asked in turn, each answered yes or no. A yes changes the state. Definitions only.
use Rattle.std.specs.Prelude.{ℕ, suc, ◌≡◌, Bool, true, false, cond, ◌&&◌, List, [], ◌∷◌}
use Rattle.trees.specs.Tree.{Tree, done, ask}

-- what follows the answer to q: a no leaves the state as it is, a yes adds q to it, and ends the tree if `stop`.
-- `rest` is a function, and nothing of it is computed where the tree ends.
unfoldable pub answered : {Q S : Type 0} → (S → Q → S) → (stop yes : Bool) → S → Q → (S → Tree Q Bool S) → Tree Q Bool S
answered add stop false s q rest = rest s
answered add false true s q rest = rest (add s q)
answered add true true s q rest = done (add s q)

-- the questions in their order; with `stop`, up to the first yes
unfoldable pub in_turn : {Q S : Type 0} → (S → Q → S) → (stop : Bool) → S → List Q → Tree Q Bool S
in_turn add stop s [] = done s
in_turn add stop s (q ∷ qs) = ask q (λ yes. answered add stop yes s q (λ s'. in_turn add stop s' qs))

-- those that are asked: all, or with `stop` those up to the first yes
unfoldable pub up_to : {Q : Type 0} → (stop : Bool) → (Q → Bool) → List Q → List Q
up_to stop answer [] = []
up_to stop answer (q ∷ qs) = q ∷ cond (stop && answer q) [] (up_to stop answer qs)

-- at most n questions, and G holds of each
pub data Bounded {Q : Type 0} (G : Q → Type 0) : ℕ → List Q → Type 0 where
  none : {n : ℕ} → Bounded G n []
  one : {n : ℕ} {q : Q} {qs : List Q} → G q → Bounded G n qs → Bounded G (suc n) (q ∷ qs)

-- each is answered no
abbrev pub EachNo : {Q : Type 0} → (Q → Bool) → List Q → Type 0
EachNo answer [] = Unit {0}
EachNo answer (q ∷ qs) = (answer q ≡ false) × EachNo answer qs
