-- Laws of questions in stages: stages one after the other, and one stage cut into several. Assumes nothing.
use mathlib.Core.Path.{◌≡◌, refl, sym, ap, ◌∙◌, fun_ext}
use mathlib.Core.Bool.{Bool, true, false, cond, ◌&&◌, true≢false}
use mathlib.Core.List.{List, [], ◌∷◌, ◌++◌, map}
use Rattle.trees.specs.Tree.{Tree, done, ask, bind}
use Rattle.trees.specs.InTurn.{answered, in_turn}
use Rattle.trees.specs.Stages.{Stage, in_stages}

-- ---- trees one after the other
module _ {Q R A B : Type 0} where
  pub bind_same : (t : Tree Q R A) {f g : A → Tree Q R B} → ((a : A) → f a ≡ g a) → bind t f ≡ bind t g
  bind_same t h = ap (λ (f : A → Tree Q R B). bind t f) (fun_ext h)

module _ {Q R A B C : Type 0} where
  pub bind_assoc : (t : Tree Q R A) (f : A → Tree Q R B) (g : B → Tree Q R C)
      → bind (bind t f) g ≡ bind t (λ a. bind (f a) g)
  unfolding bind
  bind_assoc (done a) f g = refl
  bind_assoc (ask q next) f g = ap (λ (h : R → Tree Q R C). ask q h) (fun_ext (λ r. bind_assoc (next r) f g))

module _ {Q R A : Type 0} where
  pub bind_done : (t : Tree Q R A) → bind t (λ a. done a) ≡ t
  unfolding bind
  bind_done (done a) = refl
  bind_done (ask q next) = ap (λ (h : R → Tree Q R A). ask q h) (fun_ext (λ r. bind_done (next r)))

  pub bind_either : {B : Type 0} (b : Bool) (t u : Tree Q R A) (f : A → Tree Q R B)
      → bind (cond b t u) f ≡ cond b (bind t f) (bind u f)
  bind_either true t u f = refl
  bind_either false t u f = refl

either_same : {A : Type 0} (b : Bool) {x y z w : A} → (b ≡ true → x ≡ y) → (b ≡ false → z ≡ w)
    → cond b x z ≡ cond b y w
either_same true h g = h refl
either_same false h g = g refl

both : (a b : Bool) → (a && b) ≡ true → (a ≡ true) × (b ≡ true)
both true true e = (refl, refl)
both true false e = absurd (true≢false (sym e))
both false b e = absurd (true≢false (sym e))

-- ---- lists of questions joined
unfoldable pub joined : {Q : Type 0} → List (List Q) → List Q
joined [] = []
joined (xs ∷ xss) = xs ++ joined xss

-- a stage that is entered only where nothing was found, and stops at its first yes; one that is always entered, and
-- asks all
abbrev pub first_stage : {Q : Type 0} → List Q → Stage Q
first_stage xs = record { guarded = true; stops = true; questions = xs }

abbrev pub each_stage : {Q : Type 0} → List Q → Stage Q
each_stage xs = record { guarded = false; stops = false; questions = xs }

module _ {Q S : Type 0} (add : S → Q → S) (found : S → Bool) where
  abbrev Next : Type 0
  Next = S → Tree Q Bool S

  abbrev stages : List (Stage Q) → Next
  stages xs s = in_stages add found xs s

  -- where something was found, nothing more is asked
  abbrev pub Ends : Next → Type 0
  Ends f = (s : S) → found s ≡ true → f s ≡ done s

  pub no_stages_end : Ends (stages [])
  unfolding in_stages
  no_stages_end s h = refl

  pub guarded_ends : (x : Stage Q) (xs : List (Stage Q)) → x.guarded ≡ true → Ends (stages (x ∷ xs))
  unfolding in_stages
  guarded_ends x xs g s h = rw (g, h)

  -- the same stage before stages that are alike
  pub stage_same : (x : Stage Q) (xs ys : List (Stage Q)) → ((s : S) → stages xs s ≡ stages ys s)
      → (s : S) → stages (x ∷ xs) s ≡ stages (x ∷ ys) s
  unfolding in_stages
  stage_same x xs ys h s = ap (λ (t : Tree Q Bool S). cond (x.guarded && found s) (done s) t) (bind_same _ h)

  -- ---- xs, and then ys
  module _ (ys : List (Stage Q)) where
    one_more : (x : Stage Q) (xs : List (Stage Q)) → ((s : S) → stages (xs ++ ys) s ≡ bind (stages xs s) (stages ys))
        → (s : S) → ((x.guarded && found s) ≡ true → stages ys s ≡ done s)
        → stages (x ∷ (xs ++ ys)) s ≡ bind (stages (x ∷ xs) s) (stages ys)
    unfolding in_stages bind
    one_more x xs h s ends =
        either_same (x.guarded && found s) (λ e. sym (ends e))
        (λ e. bind_same (in_turn add x.stops s x.questions) h
        ∙ sym (bind_assoc (in_turn add x.stops s x.questions) (stages xs) (stages ys)))
        ∙ sym (bind_either (x.guarded && found s) (done s) _ (stages ys))

    -- where ys end at once if something was found
    pub stages_append : Ends (stages ys) → (xs : List (Stage Q)) (s : S)
        → stages (xs ++ ys) s ≡ bind (stages xs s) (stages ys)
    unfolding in_stages bind
    stages_append ends [] s = refl
    stages_append ends (x ∷ xs) s =
        one_more x xs (stages_append ends xs) s (λ e. ends s (both x.guarded (found s) e).1)

  -- ---- a stage cut in two. It asks all
  pub each_split : (xs ys : List Q) (f : Next) (s : S)
      → bind (in_turn add false s (xs ++ ys)) f
      ≡ bind (in_turn add false s xs) (λ s'. bind (in_turn add false s' ys) f)
  unfolding in_turn bind answered
  each_split [] ys f s = refl
  each_split (q ∷ xs) ys f s =
      ap (λ (next : Bool → Tree Q Bool S). ask q next) (fun_ext (by (λ z. each_split xs ys f z)))
    where
      by : ((z : S) → bind (in_turn add false z (xs ++ ys)) f
          ≡ bind (in_turn add false z xs) (λ s'. bind (in_turn add false s' ys) f))
          → (yes : Bool) → bind (answered add false yes s q (λ z. in_turn add false z (xs ++ ys))) f
          ≡ bind (answered add false yes s q (λ z. in_turn add false z xs)) (λ s'. bind (in_turn add false s' ys) f)
      by h false = h s
      by h true = h (add s q)

  pub each_stage_split : (xs ys : List Q) (zs : List (Stage Q)) (s : S)
      → stages (each_stage (xs ++ ys) ∷ zs) s ≡ stages (each_stage xs ∷ each_stage ys ∷ zs) s
  unfolding in_stages
  each_stage_split xs ys zs s = each_split xs ys (stages zs) s

  -- what is added to has found something
  module _ (adds : (s : S) (q : Q) → found (add s q) ≡ true) where
    -- it stops at its first yes: ys are asked only where xs had none
    pub stop_split : (xs ys : List Q) (zs : List (Stage Q)) → Ends (stages zs) → (s : S) → found s ≡ false
        → bind (in_turn add true s (xs ++ ys)) (stages zs)
        ≡ bind (in_turn add true s xs) (stages (first_stage ys ∷ zs))
    unfolding in_turn bind answered in_stages
    stop_split [] ys zs ends s h = rw h
    stop_split (q ∷ xs) ys zs ends s h =
        ap (λ (next : Bool → Tree Q Bool S). ask q next) (fun_ext (by (stop_split xs ys zs ends s h)))
      where
        by : bind (in_turn add true s (xs ++ ys)) (stages zs)
            ≡ bind (in_turn add true s xs) (stages (first_stage ys ∷ zs))
            → (yes : Bool) → bind (answered add true yes s q (λ z. in_turn add true z (xs ++ ys))) (stages zs)
            ≡ bind (answered add true yes s q (λ z. in_turn add true z xs)) (stages (first_stage ys ∷ zs))
        by e false = e
        by e true = ends (add s q) (adds s q) ∙ sym (guarded_ends (first_stage ys) zs refl (add s q) (adds s q))

    pub first_stage_split : (xs ys : List Q) (zs : List (Stage Q)) → Ends (stages zs) → (s : S)
        → stages (first_stage (xs ++ ys) ∷ zs) s ≡ stages (first_stage xs ∷ first_stage ys ∷ zs) s
    unfolding in_stages
    first_stage_split xs ys zs ends s = either_same (found s) (λ e. refl) (λ e. stop_split xs ys zs ends s e)

    -- ---- a stage cut into many
    pub first_stage_pieces : (xss : List (List Q)) (zs : List (Stage Q)) → Ends (stages zs) → (s : S)
        → stages (first_stage (joined xss) ∷ zs) s ≡ stages (map first_stage xss ++ zs) s
    unfolding joined in_stages in_turn bind
    first_stage_pieces [] zs ends s = either_ends (found s) refl
      where
        either_ends : (b : Bool) → found s ≡ b → cond b (done s) (stages zs s) ≡ stages zs s
        either_ends true e = sym (ends s e)
        either_ends false e = refl
    first_stage_pieces (xs ∷ xss) zs ends s =
        first_stage_split xs (joined xss) zs ends s
        ∙ stage_same (first_stage xs) (first_stage (joined xss) ∷ zs) (map first_stage xss ++ zs)
        (first_stage_pieces xss zs ends) s

  pub each_stage_pieces : (xss : List (List Q)) (zs : List (Stage Q)) (s : S)
      → stages (each_stage (joined xss) ∷ zs) s ≡ stages (map each_stage xss ++ zs) s
  unfolding joined in_stages in_turn bind
  each_stage_pieces [] zs s = refl
  each_stage_pieces (xs ∷ xss) zs s =
      each_stage_split xs (joined xss) zs s
      ∙ stage_same (each_stage xs) (each_stage (joined xss) ∷ zs) (map each_stage xss ++ zs) (each_stage_pieces xss zs) s
