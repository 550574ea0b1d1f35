-- What families one after the other find, step by step. Assumes nothing.
use Prim.Native.Nat.{ℕ, ◌+◌, ◌<◌}
use mathlib.Core.Path.{◌≡◌, refl, sym, ap, ◌∙◌, subst}
use mathlib.Core.Bool.{Bool, true, false}
use mathlib.Core.List.{List, [], ◌∷◌, ◌++◌}
use mathlib.Core.Logic.{◌↔◌}
use native.Mathlib.Omega.{arith}
use borrow.Author.Tests.{lt-ltb, le-ltb}
use Rattle.trees.specs.Tree.{bind, run, questions, AtMost, ended, AllNo, Over, StopsAtYes}
use Rattle.trees.proofs.TreeLaws.{run_bind, questions_bind, all_no_bind, stops_bind, at_most_bind}
use Rattle.candidates.specs.Try.{passes}
use Rattle.candidates.specs.declared.Try.{Try}
use Rattle.candidates.specs.declared.Candidates.{Candidates}
use Rattle.position_third_step1.specs.CheckTree.{found}
use Rattle.search.specs.Stages.{is_found}
use Rattle.get_profile.specs.Families.{Search, unless_found, each_of, first_of}

-- f is the first family, d the list that it leaves, fs are the families after it
module _ (f : Search) (fs : List Search) (c : Candidates) {d : Candidates} (e : d ≡ found (f c)) where
  then_is : (g : Search) → found (bind (f c) g) ≡ found (g d)
  then_is g = run_bind passes (f c) g ∙ ap (λ (z : Candidates). found (g z)) (sym e)

  first_is : {b : Bool} → is_found d ≡ b → found (first_of (f ∷ fs) c) ≡ found (unless_found b (first_of fs) d)
  unfolding first_of
  first_is h =
      then_is (λ z. unless_found (is_found z) (first_of fs) z) ∙ ap (λ (b : Bool). found (unless_found b (first_of fs) d)) h

  pub first_finds : 0 < d.current_index → d ≡ found (first_of (f ∷ fs) c)
  unfolding unless_found run
  first_finds h = sym (first_is (lt-ltb 0 d.current_index h))

  pub each_on : {r : Candidates} → r ≡ found (each_of fs d) → r ≡ found (each_of (f ∷ fs) c)
  unfolding each_of
  each_on e' = e' ∙ sym (then_is (each_of fs))

-- after the last one nothing is left
pub last_of_each : (f : Search) (c : Candidates) {r : Candidates} → r ≡ found (f c) → r ≡ found (each_of (f ∷ []) c)
unfolding each_of run
last_of_each f c e = e ∙ sym (run_bind passes (f c) (each_of []))

-- ---- what every family keeps
unless_found_is : (P : Candidates → Type 0) (b : Bool) (f : Search) (c : Candidates) → P c → (P c → P (found (f c)))
    → P (found (unless_found b f c))
unfolding unless_found run
unless_found_is P true f c p h = p
unless_found_is P false f c p h = h p

abbrev pub Keeps : (Candidates → Type 0) → Search → Type 0
Keeps P f = (c : Candidates) → P c → P (found (f c))

pub data Every (P : Search → Type 0) : List Search → Type 0 where
  none : Every P []
  also : {f : Search} {fs : List Search} → P f → Every P fs → Every P (f ∷ fs)

module _ (P : Candidates → Type 0) where
  pub first_keeps : {fs : List Search} → Every (Keeps P) fs → Keeps P (first_of fs)
  unfolding first_of run
  first_keeps none c p = p
  first_keeps (also {f} {fs} h hs) c p =
      subst P (sym (run_bind passes (f c) (λ z. unless_found (is_found z) (first_of fs) z)))
      (unless_found_is P (is_found (found (f c))) (first_of fs) (found (f c)) (h c p) (first_keeps hs (found (f c))))

  pub each_keeps : {fs : List Search} → Every (Keeps P) fs → Keeps P (each_of fs)
  unfolding each_of run
  each_keeps none c p = p
  each_keeps (also {f} {fs} h hs) c p =
      subst P (sym (run_bind passes (f c) (each_of fs))) (each_keeps hs (found (f c)) (h c p))

-- ---- where nothing is found

-- nothing counts at the end exactly where nothing did before and no try is accepted
abbrev pub NoneFound : Search → Type 0
NoneFound f = (c : Candidates) → ((found (f c)).current_index ≡ 0) ↔ ((c.current_index ≡ 0) × AllNo passes (f c))

then_none_found : (f g : Search) → NoneFound f → NoneFound g → NoneFound (λ c. bind (f c) g)
then_none_found f g hf hg c =
    let e = ap (λ (z : Candidates). z.current_index) (run_bind passes (f c) g) in
    let b = all_no_bind passes (f c) g in
    let later = hg (found (f c)) in (
      λ h. let w = later.0 (sym e ∙ h) in (((hf c).0 w.0).0, b.1 (((hf c).0 w.0).1, w.1)),
      λ z. let w = b.0 z.1 in e ∙ later.1 ((hf c).1 (z.0, w.0), w.1),
    )

unless_none_found : (b : Bool) (f : Search) → NoneFound f → NoneFound (λ c. unless_found b f c)
unfolding unless_found run
unless_none_found true f h c = (λ e. (e, tt), λ z. z.0)
unless_none_found false f h c = h c

pub first_none_found : {fs : List Search} → Every NoneFound fs → NoneFound (first_of fs)
unfolding first_of run
first_none_found none c = (λ e. (e, tt), λ z. z.0)
first_none_found (also {f} {fs} h hs) c =
    then_none_found f (λ d. unless_found (is_found d) (first_of fs) d) h
    (λ d. unless_none_found (is_found d) (first_of fs) (first_none_found hs) d) c

pub each_none_found : {fs : List Search} → Every NoneFound fs → NoneFound (each_of fs)
unfolding each_of run
each_none_found none c = (λ e. (e, tt), λ z. z.0)
each_none_found (also {f} {fs} h hs) c = then_none_found f (each_of fs) h (each_none_found hs) c

-- ---- up to the first success

-- nothing more is asked after the first try that is accepted, and a profile counts then
abbrev pub SomeCount : Candidates → Type 0
SomeCount c = 0 < c.current_index

abbrev pub StopsAtFirst : Search → Type 0
StopsAtFirst f = (c : Candidates) → StopsAtYes SomeCount (f c)

unless_over : (f : Search) (c : Candidates) → SomeCount c → Over SomeCount (unless_found (is_found c) f c)
unfolding unless_found
unless_over f c h = rw (lt-ltb 0 c.current_index h) h

unless_stops : (b : Bool) (f : Search) → StopsAtFirst f → StopsAtFirst (λ c. unless_found b f c)
unfolding unless_found
unless_stops true f h c = tt
unless_stops false f h c = h c

pub first_stops : {fs : List Search} → Every StopsAtFirst fs → StopsAtFirst (first_of fs)
unfolding first_of
first_stops none c = tt
first_stops (also {f} {fs} h hs) c =
    stops_bind SomeCount SomeCount (λ d. unless_found (is_found d) (first_of fs) d) (unless_over (first_of fs))
    (λ d. unless_stops (is_found d) (first_of fs) (first_stops hs) d) (f c) (h c)

-- ---- all of them, whatever the answers
pub each_asked : (answer : Try → Bool) (f : Search) (fs : List Search) {xs ys : List Try}
    → ((c : Candidates) → questions answer (f c) ≡ xs) → ((c : Candidates) → questions answer (each_of fs c) ≡ ys)
    → (c : Candidates) → questions answer (each_of (f ∷ fs) c) ≡ xs ++ ys
unfolding each_of
each_asked answer f fs hf hs c = questions_bind answer (f c) (each_of fs) ∙ rw (hf c, hs (run answer (f c)))

pub none_asked : (answer : Try → Bool) (c : Candidates) → questions answer (each_of [] c) ≡ []
unfolding each_of questions
none_asked answer c = refl

-- ---- what is asked where every answer is no
abbrev pub refuse : Try → Bool
refuse x = false

-- from a list in which nothing counts, these tries are asked, and the list stays
abbrev pub Asks : Search → List Try → Type 0
Asks f xs = (c : Candidates) → c.current_index ≡ 0 → (questions refuse (f c) ≡ xs) × (run refuse (f c) ≡ c)

then_asks : (f g : Search) {xs ys : List Try} → Asks f xs → Asks g ys → Asks (λ c. bind (f c) g) (xs ++ ys)
then_asks f g {xs} hf hg c z = (
  questions_bind refuse (f c) g ∙ rw ((hf c z).0, (hf c z).1, (hg c z).0),
  run_bind refuse (f c) g ∙ ap (λ (d : Candidates). run refuse (g d)) (hf c z).1 ∙ (hg c z).1,
)

unless_asks : (f : Search) {xs : List Try} → Asks f xs → Asks (λ c. unless_found (is_found c) f c) xs
unfolding unless_found
unless_asks f h c z = rw (le-ltb 0 c.current_index (omega arith)) (h c z)

pub first_asks : (f : Search) (fs : List Search) {xs ys : List Try} → Asks f xs → Asks (first_of fs) ys
    → Asks (first_of (f ∷ fs)) (xs ++ ys)
unfolding first_of
first_asks f fs hf hs = then_asks f (λ d. unless_found (is_found d) (first_of fs) d) hf (unless_asks (first_of fs) hs)

pub each_asks : (f : Search) (fs : List Search) {xs ys : List Try} → Asks f xs → Asks (each_of fs) ys
    → Asks (each_of (f ∷ fs)) (xs ++ ys)
unfolding each_of
each_asks f fs hf hs = then_asks f (each_of fs) hf hs

pub none_asks_first : Asks (first_of []) []
unfolding first_of questions run
none_asks_first c z = (refl, refl)

pub none_asks_each : Asks (each_of []) []
unfolding each_of questions run
none_asks_each c z = (refl, refl)

-- ---- how many checks are made
unless_found_at_most : {n : ℕ} (b : Bool) (f : Search) (c : Candidates) → AtMost n (f c) → AtMost n (unless_found b f c)
unfolding unless_found
unless_found_at_most true f c h = ended
unless_found_at_most false f c h = h

abbrev pub AtMostFrom : ℕ → Search → Type 0
AtMostFrom n f = (c : Candidates) → AtMost n (f c)

-- a family of at most n checks before others of at most m
module _ {n : ℕ} (m : ℕ) {f : Search} (fs : List Search) (h : AtMostFrom n f) where
  pub first_at_most : AtMostFrom m (first_of fs) → AtMostFrom (n + m) (first_of (f ∷ fs))
  unfolding first_of
  first_at_most hs c = at_most_bind m _ (h c) (λ d. unless_found_at_most (is_found d) (first_of fs) d (hs d))

  pub each_at_most : AtMostFrom m (each_of fs) → AtMostFrom (n + m) (each_of (f ∷ fs))
  unfolding each_of
  each_at_most hs c = at_most_bind m _ (h c) hs

pub no_first : AtMostFrom 0 (first_of [])
unfolding first_of
no_first c = ended

pub no_each : AtMostFrom 0 (each_of [])
unfolding each_of
no_each c = ended
