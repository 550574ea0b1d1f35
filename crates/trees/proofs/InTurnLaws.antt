-- Laws of questions asked in turn. Assumes nothing.
use Prim.Native.Nat.{ℕ, zero, suc, ◌≤◌}
use mathlib.Core.Path.{◌≡◌, refl, sym, ap, ◌∙◌}
use mathlib.Core.Bool.{Bool, true, false, cond, ◌&&◌, true≢false}
use mathlib.Core.List.{List, [], ◌∷◌}
use mathlib.Core.Logic.{◌↔◌}
use native.Mathlib.Omega.{arith}
use Rattle.trees.specs.Tree.{Tree, done, run, after, questions, AtMost, ended, asking, AllNo, StopsAtYes}
use Rattle.trees.proofs.TreeLaws.{run_after}
use Rattle.trees.specs.InTurn.{answered, in_turn, up_to, Bounded, none, one}

module _ {Q S : Type 0} (answer : Q → Bool) (add : S → Q → S) where
  -- the end of the questions in turn, from the state s
  abbrev pub finish : Bool → S → List Q → S
  finish stop s qs = run answer (in_turn add stop s qs)

  -- what is left after the first answer: after a no the other questions, from the same state; after a yes those, from
  -- the state with it; with `stop` none
  told : (stop : Bool) (s : S) (q : Q) (qs : List Q) {yes : Bool} → answer q ≡ yes
      → after answer 1 (in_turn add stop s (q ∷ qs)) ≡ answered add stop yes s q (λ s'. in_turn add stop s' qs)
  unfolding after in_turn
  told stop s q qs h = ap (λ (yes : Bool). answered add stop yes s q (λ s'. in_turn add stop s' qs)) h

  pub after_no : (stop : Bool) (s : S) (q : Q) (qs : List Q) → answer q ≡ false
      → after answer 1 (in_turn add stop s (q ∷ qs)) ≡ in_turn add stop s qs
  unfolding answered
  after_no stop s q qs h = told stop s q qs h

  pub after_yes : (s : S) (q : Q) (qs : List Q) → answer q ≡ true
      → after answer 1 (in_turn add false s (q ∷ qs)) ≡ in_turn add false (add s q) qs
  unfolding answered
  after_yes s q qs h = told false s q qs h

  pub after_stop : (s : S) (q : Q) (qs : List Q) → answer q ≡ true
      → after answer 1 (in_turn add true s (q ∷ qs)) ≡ done (add s q)
  unfolding answered
  after_stop s q qs h = told true s q qs h

  -- and so the end
  ends : (t : Tree Q Bool S) {u : Tree Q Bool S} → after answer 1 t ≡ u → run answer t ≡ run answer u
  ends t h = sym (run_after answer 1 t) ∙ ap (λ (z : Tree Q Bool S). run answer z) h

  pub run_no : (stop : Bool) (s : S) (q : Q) (qs : List Q) → answer q ≡ false
      → finish stop s (q ∷ qs) ≡ finish stop s qs
  run_no stop s q qs h = ends _ (after_no stop s q qs h)

  pub run_yes : (s : S) (q : Q) (qs : List Q) → answer q ≡ true → finish false s (q ∷ qs) ≡ finish false (add s q) qs
  run_yes s q qs h = ends _ (after_yes s q qs h)

  pub run_stop : (s : S) (q : Q) (qs : List Q) → answer q ≡ true → finish true s (q ∷ qs) ≡ add s q
  unfolding run
  run_stop s q qs h = ends _ (after_stop s q qs h)

  answered_keeps : {P : S → Type 0} (stop yes : Bool) (s : S) (q : Q) (rest : S → Tree Q Bool S) → P s
      → (yes ≡ true → P (add s q)) → ((s' : S) → P s' → P (run answer (rest s')))
      → P (run answer (answered add stop yes s q rest))
  unfolding answered run
  answered_keeps stop false s q rest p keeps h = h s p
  answered_keeps false true s q rest p keeps h = h (add s q) (keeps refl)
  answered_keeps true true s q rest p keeps h = keeps refl

  -- what each yes keeps is kept to the end
  pub finish_keeps : {G : Q → Type 0} {P : S → Type 0} → ((s : S) (q : Q) → G q → answer q ≡ true → P s → P (add s q))
      → (stop : Bool) (s : S) {n : ℕ} {qs : List Q} → Bounded G n qs → P s → P (finish stop s qs)
  unfolding run in_turn
  finish_keeps keeps stop s none p = p
  finish_keeps keeps stop s (one {q} {qs} g gs) p =
      answered_keeps stop (answer q) s q _ p (λ h. keeps s q g h p) (λ s' p'. finish_keeps keeps stop s' gs p')

  -- P holds of no state to which a yes has added
  module _ (P : S → Type 0) (never : (s : S) (q : Q) → P (add s q) → ⊥) where
    answered_ends : (stop yes : Bool) (s : S) (q : Q) (rest : S → Tree Q Bool S)
        → ((s' : S) → P (run answer (rest s')) ↔ (P s' × AllNo answer (rest s')))
        → P (run answer (answered add stop yes s q rest)) ↔ (P s × (yes ≡ false) × AllNo answer (answered add stop yes s q rest))
    unfolding answered run
    answered_ends stop false s q rest h = (λ p. (((h s).0 p).0, refl, ((h s).0 p).1), λ z. (h s).1 (z.0, z.2))
    answered_ends false true s q rest h = (λ p. absurd (never s q ((h (add s q)).0 p).0), λ z. absurd (true≢false z.1))
    answered_ends true true s q rest h = (λ p. absurd (never s q p), λ z. absurd (true≢false z.1))

    -- it holds at the end exactly where it does at first and every answer is no
    pub holds_after_no : (stop : Bool) (s : S) (qs : List Q)
        → P (finish stop s qs) ↔ (P s × AllNo answer (in_turn add stop s qs))
    unfolding run in_turn
    holds_after_no stop s [] = (λ p. (p, tt), λ z. z.0)
    holds_after_no stop s (q ∷ qs) =
        let e = answered_ends stop (answer q) s q _ (λ s'. holds_after_no stop s' qs) in
        (λ p. ((e.0 p).0, ((e.0 p).1, (e.0 p).2)), λ z. e.1 (z.0, z.1.0, z.1.1))

  answered_related : (R : S → S → Type 0) → ((s s' : S) (q : Q) → R s s' → R (add s q) (add s' q))
      → (stop yes : Bool) (s s' : S) (q : Q) (rest : S → Tree Q Bool S) → R s s'
      → ((z z' : S) → R z z' → R (run answer (rest z)) (run answer (rest z')))
      → R (run answer (answered add stop yes s q rest)) (run answer (answered add stop yes s' q rest))
  unfolding answered run
  answered_related R keeps stop false s s' q rest r h = h s s' r
  answered_related R keeps false true s s' q rest r h = h (add s q) (add s' q) (keeps s s' q r)
  answered_related R keeps true true s s' q rest r h = keeps s s' q r

  -- states that every yes keeps alike are alike at the end
  pub finish_related : (R : S → S → Type 0) → ((s s' : S) (q : Q) → R s s' → R (add s q) (add s' q))
      → (stop : Bool) (s s' : S) (qs : List Q) → R s s' → R (finish stop s qs) (finish stop s' qs)
  unfolding run in_turn
  finish_related R keeps stop s s' [] r = r
  finish_related R keeps stop s s' (q ∷ qs) r =
      answered_related R keeps stop (answer q) s s' q _ r (λ z z' r'. finish_related R keeps stop z z' qs r')

module _ {Q S : Type 0} (add : S → Q → S) where
  answered_at_most : {n : ℕ} (stop yes : Bool) (s : S) (q : Q) (rest : S → Tree Q Bool S)
      → ((s' : S) → AtMost n (rest s')) → AtMost n (answered add stop yes s q rest)
  unfolding answered
  answered_at_most stop false s q rest h = h s
  answered_at_most false true s q rest h = h (add s q)
  answered_at_most true true s q rest h = ended

  -- no more questions are asked than there are
  pub in_turn_at_most : {G : Q → Type 0} (stop : Bool) (s : S) {n : ℕ} {qs : List Q} → Bounded G n qs
      → AtMost n (in_turn add stop s qs)
  unfolding in_turn
  in_turn_at_most stop s none = ended
  in_turn_at_most stop s (one {q} {qs} g gs) = asking (λ yes. answered_at_most stop yes s q _ (λ s'. in_turn_at_most stop s' gs))

  -- ---- which are asked
  module _ (answer : Q → Bool) where
    asks_after : (stop yes : Bool) (s : S) (q : Q) (rest : S → Tree Q Bool S) {qs : List Q}
        → ((s' : S) → questions answer (rest s') ≡ qs)
        → questions answer (answered add stop yes s q rest) ≡ cond (stop && yes) [] qs
    unfolding answered questions
    asks_after false false s q rest h = h s
    asks_after false true s q rest h = h (add s q)
    asks_after true false s q rest h = h s
    asks_after true true s q rest h = refl

    -- in their order, with `stop` up to the first yes
    pub asks_up_to : (stop : Bool) (s : S) (qs : List Q) → questions answer (in_turn add stop s qs) ≡ up_to stop answer qs
    unfolding questions in_turn up_to
    asks_up_to stop s [] = refl
    asks_up_to stop s (q ∷ qs) = ap (λ (rest : List Q). q ∷ rest) (asks_after stop (answer q) s q _ (λ s'. asks_up_to stop s' qs))

  -- where every answer is no, all of them are asked, and the state stays
  pub asks_each : (stop : Bool) (s : S) (qs : List Q) → questions (λ (q : Q). false) (in_turn add stop s qs) ≡ qs
  unfolding questions in_turn answered
  asks_each stop s [] = refl
  asks_each stop s (q ∷ qs) = ap (λ (rest : List Q). q ∷ rest) (asks_each stop s qs)

  pub stays : (stop : Bool) (s : S) (qs : List Q) → run (λ (q : Q). false) (in_turn add stop s qs) ≡ s
  unfolding run in_turn answered
  stays stop s [] = refl
  stays stop s (q ∷ qs) = stays stop s qs

  -- nothing is asked after the first yes, and what is added to holds P
  pub in_turn_stops : (P : S → Type 0) → ((s : S) (q : Q) → P (add s q)) → (s : S) (qs : List Q)
      → StopsAtYes P (in_turn add true s qs)
  unfolding in_turn answered
  in_turn_stops P h s [] = tt
  in_turn_stops P h s (q ∷ qs) = (h s q, in_turn_stops P h s qs)

-- ---- two ways to keep the first yes: what holds of both states at first, and after the same yes, holds at the end
module _ {Q S T : Type 0} (answer : Q → Bool) (add : S → Q → S) (add' : T → Q → T) (R : S → T → Type 0) where
  pub stops_related : (s : S) (t : T) → R s t → ((q : Q) → R (add s q) (add' t q)) → (qs : List Q)
      → R (run answer (in_turn add true s qs)) (run answer (in_turn add' true t qs))
  unfolding run in_turn answered
  stops_related s t r h [] = r
  stops_related s t r h (q ∷ qs) = by (stops_related s t r h qs) (answer q)
    where
      by : R (run answer (in_turn add true s qs)) (run answer (in_turn add' true t qs))
          → (yes : Bool) → R (run answer (answered add true yes s q (λ z. in_turn add true z qs)))
          (run answer (answered add' true yes t q (λ z. in_turn add' true z qs)))
      by e false = e
      by e true = h q

-- without `stop` all are asked
pub up_to_end : {Q : Type 0} (answer : Q → Bool) (qs : List Q) → up_to false answer qs ≡ qs
unfolding up_to
up_to_end answer [] = refl
up_to_end answer (q ∷ qs) = ap (λ (rest : List _). q ∷ rest) (up_to_end answer qs)

-- a bound may be larger
pub bounded_more : {Q : Type 0} {G : Q → Type 0} {n : ℕ} {qs : List Q} → Bounded G n qs → Bounded G (suc n) qs
bounded_more none = none
bounded_more (one g gs) = one g (bounded_more gs)

pub bounded_le : {Q : Type 0} {G : Q → Type 0} {n m : ℕ} {qs : List Q} → Bounded G n qs → n ≤ m → Bounded G m qs
bounded_le none h = none
bounded_le {m = zero} (one g gs) h = absurd (let more : ⊥ = omega arith in more)
bounded_le {m = suc m} (one {n} g gs) h =
    let less : n ≤ m = omega arith in
    one g (bounded_le gs less)
