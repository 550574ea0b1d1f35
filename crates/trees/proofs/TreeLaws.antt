-- Laws of trees of questions. Assumes nothing.
use Prim.Native.Nat.{ℕ, zero, suc, ◌+◌, ◌-◌, ◌≤◌, zero-le, suc-le-suc}
use mathlib.Core.Path.{◌≡◌, refl, sym, ap, subst}
use mathlib.Core.Bool.{Bool, true, false, cond}
use mathlib.Core.List.{List, ◌∷◌, ◌++◌}
use mathlib.Core.Logic.{◌↔◌}
use native.Mathlib.Nat.{sub-zero, zero-sub, suc-sub-suc, add_comm, suc-add, zero-add}
use lib.ListN.{length}
use Rattle.trees.specs.Tree.{Tree, done, ask, run, bind, after, questions, asked, AtMost, ended, asking, AllNo, Over}
use Rattle.trees.specs.Tree.{StopsAtYes}
use Rattle.trees.specs.InTurn.{EachNo}

module _ {Q R A : Type 0} (answer : Q → R) where
  -- the end of t and then f is the end of f at t's end
  pub run_bind : {B : Type 0} (t : Tree Q R A) (f : A → Tree Q R B)
      → run answer (bind t f) ≡ run answer (f (run answer t))
  unfolding run bind
  run_bind (done a) f = refl
  run_bind (ask q next) f = run_bind (next (answer q)) f

  -- its questions are t's, and then those of f at t's end
  pub questions_bind : {B : Type 0} (t : Tree Q R A) (f : A → Tree Q R B)
      → questions answer (bind t f) ≡ questions answer t ++ questions answer (f (run answer t))
  unfolding run bind questions
  questions_bind (done a) f = refl
  questions_bind (ask q next) f = ap (λ (qs : List Q). q ∷ qs) (questions_bind (next (answer q)) f)

  pub asked_are : (t : Tree Q R A) → asked answer t ≡ length (questions answer t)
  unfolding asked questions
  asked_are (done a) = refl
  asked_are (ask q next) = ap suc (asked_are (next (answer q)))

  -- however many answers were given, the end is the same
  pub run_after : (n : ℕ) (t : Tree Q R A) → run answer (after answer n t) ≡ run answer t
  unfolding run after
  run_after zero t = refl
  run_after (suc n) (done a) = refl
  run_after (suc n) (ask q next) = run_after n (next (answer q))

  -- n answers and then m are n + m
  pub after_after : (n m : ℕ) (t : Tree Q R A) → after answer m (after answer n t) ≡ after answer (n + m) t
  unfolding after
  after_after zero m t = rw zero-add
  after_after (suc n) zero (done a) = rw suc-add
  after_after (suc n) (suc m) (done a) = rw suc-add
  after_after (suc n) m (ask q next) = rw suc-add (after_after n m (next (answer q)))

  -- where no question is left, no answer changes anything
  pub after_done : (n : ℕ) (a : A) → after answer n (done a) ≡ done a
  unfolding after
  after_done zero a = refl
  after_done (suc n) a = refl

  -- n answers leave n questions fewer
  pub asked_after : (n : ℕ) (t : Tree Q R A) → asked answer (after answer n t) ≡ asked answer t - n
  unfolding asked after
  asked_after zero t = rw sub-zero
  asked_after (suc n) (done a) = rw zero-sub
  asked_after (suc n) (ask q next) = rw suc-sub-suc (asked_after n (next (answer q)))

  -- a tree of at most n questions asks no more on its way, and is done after n answers
  pub asked_le : {n : ℕ} {t : Tree Q R A} → AtMost n t → asked answer t ≤ n
  unfolding asked
  asked_le ended = zero-le
  asked_le (asking {q} h) = suc-le-suc (asked_le (h (answer q)))

  pub done_after : {n : ℕ} {t : Tree Q R A} → AtMost n t → after answer n t ≡ done (run answer t)
  unfolding run after
  done_after (ended {n} {a}) = after_done n a
  done_after (asking {q} h) = done_after (h (answer q))

-- bounds of trees that are made of trees
module _ {Q R A : Type 0} where
  pub at_most_more : {n : ℕ} {t : Tree Q R A} (m : ℕ) → AtMost n t → AtMost (n + m) t
  at_most_more m ended = ended
  at_most_more m (asking h) = rw suc-add (asking (λ r. at_most_more m (h r)))

  pub at_most_either : {n : ℕ} {t u : Tree Q R A} (b : Bool) → AtMost n t → AtMost n u → AtMost n (cond b t u)
  at_most_either true h k = h
  at_most_either false h k = k

module _ {Q R A B : Type 0} where
  pub at_most_bind : {n : ℕ} {t : Tree Q R A} (m : ℕ) (f : A → Tree Q R B) → AtMost n t → ((a : A) → AtMost m (f a))
      → AtMost (n + m) (bind t f)
  unfolding bind
  at_most_bind m f (ended {n} {a}) h = rw (add_comm n m) (at_most_more n (h a))
  at_most_bind m f (asking k) h = rw suc-add (asking (λ r. at_most_bind m f (k r) h))

-- every answer is no
module _ {Q A : Type 0} (answer : Q → Bool) where
  -- of t and then f: of t, and of f at t's end
  pub all_no_bind : {B : Type 0} (t : Tree Q Bool A) (f : A → Tree Q Bool B)
      → AllNo answer (bind t f) ↔ (AllNo answer t × AllNo answer (f (run answer t)))
  unfolding run bind
  all_no_bind (done a) f = (λ h. (tt, h), λ h. h.1)
  all_no_bind (ask q next) f =
      let e = all_no_bind (next (answer q)) f in
      (λ h. ((h.0, (e.0 h.1).0), (e.0 h.1).1), λ h. (h.0.0, e.1 (h.0.1, h.1)))

  -- it is so exactly where each question is answered no that is asked after nothing but noes
  pub all_no_questions : (t : Tree Q Bool A) → AllNo answer t ↔ EachNo answer (questions (λ (q : Q). false) t)
  unfolding questions
  all_no_questions (done a) = (λ h. h, λ h. h)
  all_no_questions (ask q next) =
      let e = all_no_questions (next false) in (
        λ h. (h.0, e.0 (subst (λ (r : Bool). AllNo answer (next r)) h.0 h.1)),
        λ h. (h.0, subst (λ (r : Bool). AllNo answer (next r)) (sym h.0) (e.1 h.1)),
      )

-- t stops at its first yes, and where it did f asks nothing more
module _ {Q A B : Type 0} (P : A → Type 0) (R : B → Type 0) (f : A → Tree Q Bool B)
    (after_yes : (a : A) → P a → Over R (f a)) where
  over_bind : (t : Tree Q Bool A) → Over P t → Over R (bind t f)
  unfolding bind
  over_bind (done a) p = after_yes a p
  over_bind (ask q next) p = absurd p

  pub stops_bind : ((a : A) → StopsAtYes R (f a)) → (t : Tree Q Bool A) → StopsAtYes P t → StopsAtYes R (bind t f)
  unfolding bind
  stops_bind h (done a) s = h a
  stops_bind h (ask q next) s = (over_bind (next true) s.0, stops_bind h (next false) s.1)
