-- Comparisons of any doubles, infinities and NaN among them: `<` is a strict order that agrees
-- with `==` and `≤`, and of two numbers one is at most the other. Assumes nothing.
use Prim.Native.Nat.{ℕ, zero, suc, ◌+◌, ◌*◌, ◌≤◌, ◌<◌}
use native.Mathlib.Nat.{mul-lt-mul_of_pos_right, lt_of_mul-lt-mul_right, mul-pos, zero-lt-suc}
use native.Mathlib.Omega.{arith}
use mathlib.Core.Path.{◌≡◌, refl, sym, ap, subst}
use mathlib.Core.Bool.{Bool, true, false, ◌&&◌, ◌||◌, beq}
use borrow.Author.Tests.{ltb-false, le-ltb}
use lib.Dec.{T, not_T, ltb, eqb, ltb→lt, lt→ltb, eqb→eq}
use lib.Ieee.{Float, nan, inf, fin, up, down, below, level, lt, le, eq, is_nan, of_bits}
use lib.Ieee.Bits.{is_true, is_false}
use lib.Ieee.Fits.{down_pos, and_l, and_r, and_i, eq→eqb}
use Rattle.doubles.specs.Value.{AtLeastZero}
use Rattle.doubles.proofs.CondLaws.{by_cases}
use Rattle.doubles.proofs.FunctionLaws.{holds}

-- ---- `<`
pub lt_irreflexive : (x : Float) → lt x x ≡ false
unfolding lt
lt_irreflexive nan = refl
lt_irreflexive (inf true) = refl
lt_irreflexive (inf false) = refl
lt_irreflexive (fin true m e) = le-ltb (m * up e * down e) (m * up e * down e) (omega arith)
lt_irreflexive (fin false m e) = le-ltb (m * up e * down e) (m * up e * down e) (omega arith)

-- nothing is above infinity
pub infinity_not_below : (x : Float) → lt (inf false) x ≡ false
unfolding lt
infinity_not_below nan = refl
infinity_not_below (inf s) = refl
infinity_not_below (fin s m e) = refl

-- x / p < y / q < z / r
through : (x y z p q r : ℕ) → 0 < p → 0 < q → 0 < r → x * q < y * p → y * r < z * q → x * r < z * p
through x y z p q r hp hq hr h g =
    lt_of_mul-lt-mul_right q {m = x * r} {n = z * p}
    (omega (arith, mul-lt-mul_of_pos_right h hr, mul-lt-mul_of_pos_right g hp))

-- a product that is above a number isn't 0, and then its first factor isn't
positive : (x p y : ℕ) → y < x * p → 0 < x
positive zero p y h = absurd (let none : ⊥ = omega arith in none)
positive (suc x) p y h = zero-lt-suc x

above_zero : (x p y q : ℕ) → y < x * p → 0 < q → 0 < x * q
above_zero x p y q h hq = mul-pos (positive x p y h) hq

pub lt_transitive : (x y z : Float) → T (lt x y) → T (lt y z) → T (lt x z)
unfolding lt
lt_transitive nan y z h g = absurd h
lt_transitive (inf s) nan z h g = absurd h
lt_transitive (inf true) (inf true) z h g = absurd h
lt_transitive (inf true) (inf false) nan h g = absurd g
lt_transitive (inf true) (inf false) (inf u) h g = absurd g
lt_transitive (inf true) (inf false) (fin u k c) h g = absurd g
lt_transitive (inf false) (inf t) z h g = absurd h
lt_transitive (inf false) (fin t n d) z h g = absurd h
lt_transitive (inf true) (fin t n d) nan h g = absurd g
lt_transitive (inf true) (fin t n d) (inf true) h g = absurd g
lt_transitive (inf true) (fin t n d) (inf false) h g = tt
lt_transitive (inf true) (fin t n d) (fin u k c) h g = tt
lt_transitive (fin s m e) nan z h g = absurd h
lt_transitive (fin s m e) (inf true) z h g = absurd h
lt_transitive (fin s m e) (inf false) nan h g = absurd g
lt_transitive (fin s m e) (inf false) (inf u) h g = absurd g
lt_transitive (fin s m e) (inf false) (fin u k c) h g = absurd g
lt_transitive (fin s m e) (fin t n d) nan h g = absurd g
lt_transitive (fin s m e) (fin t n d) (inf true) h g = absurd g
lt_transitive (fin s m e) (fin t n d) (inf false) h g = tt
lt_transitive (fin s m e) (fin t n d) (fin u k c) h g = go s t u h g
  where
    x : ℕ
    x = m * up e

    y : ℕ
    y = n * up d

    z : ℕ
    z = k * up c

    go : (s t u : Bool) → T (below s (x * down d) t (y * down e)) → T (below t (y * down c) u (z * down d))
        → T (below s (x * down c) u (z * down e))
    go false false false h g =
        lt→ltb (x * down c) (z * down e)
        (through x y z (down e) (down d) (down c) (down_pos e) (down_pos d) (down_pos c)
        (ltb→lt (x * down d) (y * down e) h) (ltb→lt (y * down c) (z * down d) g))
    go false false true h g = absurd g
    go false true u h g = absurd h
    go true false false h g =
        lt→ltb 0 (x * down c + z * down e)
        (omega (arith, above_zero z (down d) (y * down c) (down e) (ltb→lt (y * down c) (z * down d) g) (down_pos e)))
    go true false true h g = absurd g
    go true true false h g =
        lt→ltb 0 (x * down c + z * down e)
        (omega (arith, above_zero x (down d) (y * down e) (down c) (ltb→lt (y * down e) (x * down d) h) (down_pos c)))
    go true true true h g =
        lt→ltb (z * down e) (x * down c)
        (through z y x (down c) (down d) (down e) (down_pos c) (down_pos d) (down_pos e)
        (ltb→lt (z * down d) (y * down c) g) (ltb→lt (y * down e) (x * down d) h))

pub lt_asymmetric : (x y : Float) → lt x y ≡ true → lt y x ≡ false
lt_asymmetric x y h =
    is_false (lt y x) (not_T (lt y x) (λ g. subst T (lt_irreflexive x) (lt_transitive x y x (holds (lt x y) h) g)))

-- where y is below z, what isn't below z isn't below y
pub not_through : (x y z : Float) → lt y z ≡ true → lt x z ≡ false → lt x y ≡ false
not_through x y z h f = is_false (lt x y) (not_T (lt x y) (λ g. subst T f (lt_transitive x y z g (holds (lt y z) h))))

-- ---- `<` and `==`

-- x / p < y / q and y / q = z / r, and the other way round
level_above : (x y z p q r : ℕ) → 0 < r → x * q < y * p → y * r ≡ z * q → x * r < z * p
level_above x y z p q r hr h g =
    lt_of_mul-lt-mul_right q {m = x * r} {n = z * p}
    (omega (arith, mul-lt-mul_of_pos_right h hr, ap (λ (n : ℕ). n * p) g))

level_below : (x y z p q r : ℕ) → 0 < r → y * p < x * q → y * r ≡ z * q → z * p < x * r
level_below x y z p q r hr h g =
    lt_of_mul-lt-mul_right q {m = z * p} {n = x * r}
    (omega (arith, mul-lt-mul_of_pos_right h hr, ap (λ (n : ℕ). n * p) g))

-- where x and y aren't both 0, and y and z are level, x and z aren't both 0
some_level : (x y z p q r : ℕ) → 0 < p → 0 < r → 0 < x * q + y * p → y * r ≡ z * q → 0 < x * r + z * p
some_level zero y z p q r hp hr h g =
    let l : 0 < y * r = above_zero y p 0 r (omega arith) hr in
    omega (arith, above_zero z q 0 p (omega arith) hp)
some_level (suc x) y z p q r hp hr h g = omega (arith, mul-pos (zero-lt-suc x) hr)

-- a zero is 0 in any unit
zero_level : (z q p : ℕ) → 0 < q → z * q ≡ 0 → z * p ≡ 0
zero_level zero q p hq h = omega arith
zero_level (suc z) q p hq h = absurd (let none : ⊥ = omega (arith, mul-pos (zero-lt-suc z) hq) in none)

pub lt_eq : (x y z : Float) → T (lt x y) → T (eq y z) → T (lt x z)
unfolding lt eq
lt_eq nan y z h g = absurd h
lt_eq (inf s) nan z h g = absurd h
lt_eq (inf true) (inf true) z h g = absurd h
lt_eq (inf true) (inf false) nan h g = absurd g
lt_eq (inf true) (inf false) (inf true) h g = absurd g
lt_eq (inf true) (inf false) (inf false) h g = tt
lt_eq (inf true) (inf false) (fin u k c) h g = absurd g
lt_eq (inf false) (inf t) z h g = absurd h
lt_eq (inf false) (fin t n d) z h g = absurd h
lt_eq (inf true) (fin t n d) nan h g = absurd g
lt_eq (inf true) (fin t n d) (inf u) h g = absurd g
lt_eq (inf true) (fin t n d) (fin u k c) h g = tt
lt_eq (fin s m e) nan z h g = absurd h
lt_eq (fin s m e) (inf true) z h g = absurd h
lt_eq (fin s m e) (inf false) nan h g = absurd g
lt_eq (fin s m e) (inf false) (inf true) h g = absurd g
lt_eq (fin s m e) (inf false) (inf false) h g = tt
lt_eq (fin s m e) (inf false) (fin u k c) h g = absurd g
lt_eq (fin s m e) (fin t n d) nan h g = absurd g
lt_eq (fin s m e) (fin t n d) (inf u) h g = absurd g
lt_eq (fin s m e) (fin t n d) (fin u k c) h g =
    go s t u h (eqb→eq (y * down c) (z * down d)
    (and_l (eqb (y * down c) (z * down d)) (beq t u || eqb (y * down c) 0) g))
    (and_r (eqb (y * down c) (z * down d)) (beq t u || eqb (y * down c) 0) g)
  where
    x : ℕ
    x = m * up e

    y : ℕ
    y = n * up d

    z : ℕ
    z = k * up c

    go : (s t u : Bool) → T (below s (x * down d) t (y * down e)) → y * down c ≡ z * down d
        → T (beq t u || eqb (y * down c) 0) → T (below s (x * down c) u (z * down e))
    go false false false h g i =
        lt→ltb (x * down c) (z * down e)
        (level_above x y z (down e) (down d) (down c) (down_pos c) (ltb→lt (x * down d) (y * down e) h) g)
    go false false true h g i =
        absurd
        (let none : ⊥ =
        omega (
          arith,
          eqb→eq (y * down c) 0 i,
          above_zero y (down e) (x * down d) (down c) (ltb→lt (x * down d) (y * down e) h) (down_pos c),
        ) in none)
    go false true u h g i = absurd h
    go true false false h g i =
        lt→ltb 0 (x * down c + z * down e)
        (some_level x y z (down e) (down d) (down c) (down_pos e) (down_pos c) (ltb→lt 0 (x * down d + y * down e) h) g)
    go true false true h g i =
        let y0 : y * down c ≡ 0 = eqb→eq (y * down c) 0 i in
        let z0 : z * down e ≡ 0 = zero_level z (down d) (down e) (down_pos d) (omega arith) in
        let y1 : y * down e ≡ 0 = zero_level y (down c) (down e) (down_pos c) y0 in
        let l : 0 < x * down d + y * down e = ltb→lt 0 (x * down d + y * down e) h in
        lt→ltb (z * down e) (x * down c) (omega (arith, above_zero x (down d) 0 (down c) (omega arith) (down_pos c)))
    go true true false h g i =
        lt→ltb 0 (x * down c + z * down e)
        (omega (arith, above_zero x (down d) (y * down e) (down c) (ltb→lt (y * down e) (x * down d) h) (down_pos c)))
    go true true true h g i =
        lt→ltb (z * down e) (x * down c)
        (level_below x y z (down e) (down d) (down c) (down_pos c) (ltb→lt (y * down e) (x * down d) h) g)

pub eq_not_lt : (x y : Float) → T (eq x y) → lt x y ≡ false
unfolding lt eq
eq_not_lt nan y h = absurd h
eq_not_lt (inf s) nan h = absurd h
eq_not_lt (inf true) (inf true) h = refl
eq_not_lt (inf true) (inf false) h = absurd h
eq_not_lt (inf false) (inf t) h = refl
eq_not_lt (inf s) (fin t n d) h = absurd h
eq_not_lt (fin s m e) nan h = absurd h
eq_not_lt (fin s m e) (inf t) h = absurd h
eq_not_lt (fin s m e) (fin t n d) h =
    go s t (eqb→eq a b (and_l (eqb a b) (beq s t || eqb a 0) h)) (and_r (eqb a b) (beq s t || eqb a 0) h)
  where
    a : ℕ
    a = m * up e * down d

    b : ℕ
    b = n * up d * down e

    go : (s t : Bool) → a ≡ b → T (beq s t || eqb a 0) → below s a t b ≡ false
    go false false g i = le-ltb a b (omega arith)
    go false true g i = refl
    go true false g i = le-ltb 0 (a + b) (omega (arith, eqb→eq a 0 i))
    go true true g i = le-ltb b a (omega arith)

-- where x and y equal v, x isn't below y
pub equal_not_below : (x y v : Float) → lt x y ≡ true → eq x v ≡ true → eq y v ≡ false
equal_not_below x y v l e =
    is_false (eq y v)
    (not_T (eq y v) (λ g. subst T (eq_not_lt x v (holds (eq x v) e)) (lt_eq x y v (holds (lt x y) l) g)))

-- ---- `<` and `≤`
pub lt_le : (x y z : Float) → lt x y ≡ true → le y z ≡ true → lt x z ≡ true
unfolding le
lt_le x y z l m =
    is_true (lt x z)
    (by_cases (lt y z)
    (λ i. lt_transitive x y z (holds (lt x y) l) (holds (lt y z) i))
    (λ i. lt_eq x y z (holds (lt x y) l) (holds (eq y z) (rw i at m))))

pub at_most_of_below : (x y : Float) → lt x y ≡ true → le x y ≡ true
unfolding le
at_most_of_below x y l = rw l

pub at_most_not_below : (x y : Float) → le x y ≡ true → lt y x ≡ false
at_most_not_below x y h =
    is_false (lt y x)
    (not_T (lt y x) (λ g. subst T (lt_irreflexive y) (holds (lt y y) (lt_le y x y (is_true (lt y x) g) h))))

-- nothing is between two that equal v
pub none_between : (x y v t : Float) → eq x v ≡ true → eq y v ≡ true → (lt x t && lt t y) ≡ false
none_between x y v t ex ey =
    is_false (lt x t && lt t y)
    (not_T (lt x t && lt t y)
    (λ g. subst T (equal_not_below x y v
    (is_true (lt x y) (lt_transitive x t y (and_l (lt x t) (lt t y) g) (and_r (lt x t) (lt t y) g))) ex)
    (holds (eq y v) ey)))

-- ---- of two numbers
below_or_level : (b e : Bool) → (b ≡ false → T e) → T (b || e)
below_or_level true e h = tt
below_or_level false e h = h refl

at_most : (a b : ℕ) (e : Bool) → (a ≡ b → T e) → a ≤ b → T (ltb a b || (e && true))
at_most a b e f h =
    below_or_level (ltb a b) (e && true)
    (λ l. let same : a ≡ b = omega (arith, ltb-false a b l) in and_i e true (f same) tt)

clash : true ≡ false → ⊥
clash h = let z : ◌≡◌ {A = ℕ} 0 1 = cc in omega arith

-- of two numbers of which the first is not below the second, the second is at most the first
pub not_below : (x y : Float) → is_nan x ≡ false → is_nan y ≡ false → lt x y ≡ false → T (le y x)
unfolding is_nan lt le eq
not_below nan y n k h = absurd (clash n)
not_below (inf s) nan n k h = absurd (clash k)
not_below (fin s m e) nan n k h = absurd (clash k)
not_below (inf true) (inf true) n k h = tt
not_below (inf false) (inf false) n k h = tt
not_below (inf false) (inf true) n k h = tt
not_below (inf true) (inf false) n k h = absurd (clash h)
not_below (inf true) (fin t q d) n k h = absurd (clash h)
not_below (inf false) (fin t q d) n k h = tt
not_below (fin s m e) (inf true) n k h = tt
not_below (fin s m e) (inf false) n k h = absurd (clash h)
not_below (fin s m e) (fin t q d) n k h = go s t h
  where
    a : ℕ
    a = m * up e * down d

    b : ℕ
    b = q * up d * down e

    zeros : (s t : Bool) → a + b ≤ 0 → T (level s b t a)
    zeros s t h =
        let e : b ≡ a = omega arith in
        let z : b ≡ 0 = omega arith in
        and_i (eqb b a) (beq s t || eqb b 0) (eq→eqb e) (below_or_level (beq s t) (eqb b 0) (λ _. eq→eqb z))

    go : (s t : Bool) → below s a t b ≡ false → T (below t b s a || level t b s a)
    go false false h = at_most b a (eqb b a) (λ i. eq→eqb i) (ltb-false a b h)
    go true true h = at_most a b (eqb b a) (λ i. eq→eqb (sym i)) (ltb-false b a h)
    go false true h =
        below_or_level (ltb 0 (b + a)) (level true b false a)
        (λ l. zeros true false (omega (arith, ltb-false 0 (b + a) l)))
    go true false h = zeros false true (omega (arith, ltb-false 0 (a + b) h))

-- what is at least 0 is a number
pub number : (x : Float) → AtLeastZero x → is_nan x ≡ false
unfolding is_nan of_bits lt le eq
number nan h = sym h
number (inf s) h = refl
number (fin s m e) h = refl

pub not_below_nonnegative : (x y : Float) → AtLeastZero x → AtLeastZero y → lt x y ≡ false → le y x ≡ true
not_below_nonnegative x y hx hy l = is_true (le y x) (not_below x y (number x hx) (number y hy) l)
