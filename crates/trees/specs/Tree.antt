-- A computation that asks questions of Q, is answered in R, and ends in an A. Definitions only.
-- A planner's questions are its checks. Written so, its result, its state after n checks and a bound on their number
-- are read off one definition.
use Rattle.std.specs.Prelude.{ℕ, zero, suc, ◌≡◌, Bool, true, false, List, [], ◌∷◌}

pub data Tree (Q R A : Type 0) : Type 0 where
  done : A → Tree Q R A
  ask : Q → (R → Tree Q R A) → Tree Q R A

-- the end, where each question is answered by `answer`
unfoldable pub run : {Q R A : Type 0} → (Q → R) → Tree Q R A → A
run answer (done a) = a
run answer (ask q next) = run answer (next (answer q))

-- t, and then f of its end
unfoldable pub bind : {Q R A B : Type 0} → Tree Q R A → (A → Tree Q R B) → Tree Q R B
bind (done a) f = f a
bind (ask q next) f = ask q (λ r. bind (next r) f)

-- what is left after n answers
unfoldable pub after : {Q R A : Type 0} → (Q → R) → ℕ → Tree Q R A → Tree Q R A
after answer zero t = t
after answer (suc n) (done a) = done a
after answer (suc n) (ask q next) = after answer n (next (answer q))

-- the questions that are asked on the way to the end, in their order
unfoldable pub questions : {Q R A : Type 0} → (Q → R) → Tree Q R A → List Q
questions answer (done a) = []
questions answer (ask q next) = q ∷ questions answer (next (answer q))

-- how many they are
unfoldable pub asked : {Q R A : Type 0} → (Q → R) → Tree Q R A → ℕ
asked answer (done a) = 0
asked answer (ask q next) = suc (asked answer (next (answer q)))

-- no way through t asks more than n questions, whatever the answers
pub data AtMost {Q R A : Type 0} : ℕ → Tree Q R A → Type 0 where
  ended : {n : ℕ} {a : A} → AtMost n (done a)
  asking : {n : ℕ} {q : Q} {next : R → Tree Q R A} → ((r : R) → AtMost n (next r)) → AtMost (suc n) (ask q next)

-- every question that is asked on the way to the end is answered no
abbrev pub AllNo : {Q A : Type 0} → (Q → Bool) → Tree Q Bool A → Type 0
AllNo answer (done a) = Unit {0}
AllNo answer (ask q next) = (answer q ≡ false) × AllNo answer (next (answer q))

-- nothing is left to ask, and P holds of the end
abbrev pub Over : {Q R A : Type 0} → (A → Type 0) → Tree Q R A → Type 0
Over P (done a) = P a
Over P (ask q next) = ⊥

-- nothing more is asked after the first yes, and P holds of the end then
abbrev pub StopsAtYes : {Q A : Type 0} → (A → Type 0) → Tree Q Bool A → Type 0
StopsAtYes P (done a) = Unit {0}
StopsAtYes P (ask q next) = Over P (next true) × StopsAtYes P (next false)
