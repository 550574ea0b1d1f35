-- Numbers whose sign is plus: they are not below 0, what is above one is another, and two of them that are equal are
-- the same double. Assumes nothing.
use Prim.Native.Nat.{ℕ, ◌+◌, ◌*◌, ◌^◌, ◌<◌}
use native.Mathlib.Nat.{eq_of_mul-eq-mul_right}
use native.Mathlib.Omega.{arith}
use mathlib.Core.Path.{◌≡◌, refl, sym, ap, ◌∙◌}
use mathlib.Core.Bool.{Bool, true, false, ◌||◌, beq, true≢false}
use lib.Dec.{T, eqb, eqb→eq}
use borrow.Author.Tests.{ltb-false, le-ltb}
use lib.Ieee.{Float, nan, inf, fin, binary64, low, up, down, lt, le, eq, ne, is_nan, of_bits, fits}
use lib.Ieee.Bits.{is_true}
use lib.Ieee.Fits.{down_pos, and_l}
use Rattle.bits.proofs.Patterns.{value_unique}
use Rattle.doubles.specs.Constants.{0ᶠ}
use Rattle.doubles.specs.Functions.{absᶠ}
use Rattle.doubles.specs.Value.{magnitude, Fits, Finite}
use Rattle.doubles.proofs.CondLaws.{by_cases}
use Rattle.doubles.proofs.ValueLaws.{magnitude_exact, unsigned_fits}
use Rattle.doubles.proofs.FunctionLaws.{holds, nan_test}
use Rattle.doubles.proofs.ComparisonLaws.{lt_irreflexive, lt_le, not_below}

-- ---- what is a number: the sides of a comparison that holds, and what is finite
pub left_number : (x y : Float) → lt x y ≡ true → is_nan x ≡ false
unfolding lt is_nan
left_number nan y h = sym h
left_number (inf s) y h = refl
left_number (fin s m e) y h = refl

pub right_number : (x y : Float) → lt x y ≡ true → is_nan y ≡ false
unfolding lt is_nan
right_number nan nan h = sym h
right_number (inf s) nan h = sym h
right_number (fin s m e) nan h = sym h
right_number x (inf s) h = refl
right_number x (fin s m e) h = refl

pub finite_number : (x : Float) → Finite x → is_nan x ≡ false
unfolding is_nan
finite_number nan i = absurd i
finite_number (inf s) i = absurd i
finite_number (fin s m e) i = refl

-- ---- a number equals itself, and one that is neither below nor above it
pub equals_itself : (x : Float) → is_nan x ≡ false → eq x x ≡ true
unfolding ne
equals_itself x h = by_cases (eq x x) (λ e. e) (λ e. absurd (true≢false (let z = nan_test x in rw (e, h) at z)))

pub equal_of_neither : (x y : Float) → is_nan x ≡ false → is_nan y ≡ false → lt x y ≡ false → lt y x ≡ false
    → eq x y ≡ true
unfolding le
equal_of_neither x y hx hy a b = is_true (eq x y) (let z = not_below y x hy hx b in rw a at z)

-- ---- the sign is plus
abbrev minus : Float → Bool
minus nan = false
minus (inf s) = s
minus (fin s m e) = s

plus : (x : Float) → absᶠ x ≡ x → minus x ≡ false
unfolding absᶠ
plus x h = sym (ap minus h) ∙ cleared x
  where
    cleared : (x : Float) → minus (absᶠ x) ≡ false
    cleared nan = refl
    cleared (inf s) = refl
    cleared (fin s m e) = refl

pub zero_unsigned : absᶠ 0ᶠ ≡ 0ᶠ
unfolding absᶠ of_bits
zero_unsigned = refl

pub unsigned_not_negative : (x : Float) → absᶠ x ≡ x → lt x 0ᶠ ≡ false
unfolding lt of_bits
unsigned_not_negative x h = go x (plus x h)
  where
    go : (x : Float) → minus x ≡ false → lt x 0ᶠ ≡ false
    go nan h = refl
    go (inf s) h = h
    go (fin false m e) h = le-ltb (m * up e * 1) (0 * 1 * down e) (omega arith)
    go (fin true m e) h = absurd (true≢false h)

-- what is above a number that isn't below 0
positive_unsigned : (y : Float) → lt 0ᶠ y ≡ true → absᶠ y ≡ y
unfolding lt absᶠ of_bits
positive_unsigned nan h = refl
positive_unsigned (inf false) h = refl
positive_unsigned (inf true) h = absurd (true≢false (sym h))
positive_unsigned (fin false m e) h = refl
positive_unsigned (fin true m e) h = absurd (true≢false (sym h))

zero_number : is_nan 0ᶠ ≡ false
unfolding is_nan of_bits
zero_number = refl

pub positive_above : (x y : Float) → lt x 0ᶠ ≡ false → lt x y ≡ true → lt 0ᶠ y ≡ true
positive_above x y h l =
    by_cases (lt 0ᶠ y) (λ p. p)
    (λ p. absurd (true≢false
    (sym (lt_le x y 0ᶠ l (is_true (le y 0ᶠ) (not_below 0ᶠ y zero_number (right_number x y l) p))) ∙ h)))

pub above_unsigned : (x y : Float) → absᶠ x ≡ x → lt x y ≡ true → absᶠ y ≡ y
above_unsigned x y h l = positive_unsigned y (positive_above x y (unsigned_not_negative x h) l)

-- ---- the absolute value
pub abs_unsigned : (x : Float) → absᶠ (absᶠ x) ≡ absᶠ x
unfolding absᶠ
abs_unsigned nan = refl
abs_unsigned (inf s) = refl
abs_unsigned (fin s m e) = refl

pub abs_finite : (x : Float) → Finite x → Finite (absᶠ x)
unfolding absᶠ
abs_finite nan i = absurd i
abs_finite (inf s) i = absurd i
abs_finite (fin s m e) i = tt

pub abs_fits : (x : Float) → Fits x → Fits (absᶠ x)
unfolding absᶠ
abs_fits nan p = p
abs_fits (inf s) p = unfold fits in tt
abs_fits (fin s m e) p = unsigned_fits binary64 s m e p

abs_number : (x : Float) → is_nan x ≡ false → is_nan (absᶠ x) ≡ false
unfolding absᶠ is_nan
abs_number nan n = n
abs_number (inf s) n = refl
abs_number (fin s m e) n = refl

-- of a number that isn't below 0 it is neither below nor above the number
abs_neither : (x : Float) → lt x 0ᶠ ≡ false → (lt (absᶠ x) x ≡ false) × (lt x (absᶠ x) ≡ false)
unfolding absᶠ lt of_bits
abs_neither nan h = (refl, refl)
abs_neither (inf false) h = (refl, refl)
abs_neither (inf true) h = absurd (true≢false h)
abs_neither (fin false m e) h = (lt_irreflexive (fin false m e), lt_irreflexive (fin false m e))
abs_neither (fin true m e) h =
    let a = m * up e * down e in
    let z : m * up e ≡ 0 = omega (arith, ltb-false 0 (m * up e * 1 + 0 * 1 * down e) h) in
    (refl, le-ltb 0 (a + a) (omega (arith, ap (λ (n : ℕ). n * down e) z)))

pub abs_level : (x : Float) → is_nan x ≡ false → lt x 0ᶠ ≡ false → (eq (absᶠ x) x ≡ true) × (eq x (absᶠ x) ≡ true)
abs_level x n h =
    let a = abs_neither x h in (
      equal_of_neither (absᶠ x) x (abs_number x n) n a.0 a.1,
      equal_of_neither x (absᶠ x) n (abs_number x n) a.1 a.0,
    )

-- ---- equal ones are the same double
pub same_double : (x y : Float) → Fits x → Fits y → Finite x → Finite y → absᶠ x ≡ x → absᶠ y ≡ y → eq x y ≡ true
    → x ≡ y
unfolding eq
same_double x y p q i j hx hy h = go x y p q i j (plus x hx) (plus y hy) (holds (eq x y) h)
  where
    -- a / c, which is n units, and b / d, which is level with it
    units : (a b c d n u : ℕ) → 0 < c → n * c ≡ a * u → a * d ≡ b * c → b * u ≡ n * d
    units a b c d n u C e l =
        eq_of_mul-eq-mul_right c C (b * u) (n * d)
        (omega (arith, ap (λ (z : ℕ). z * d) e, ap (λ (z : ℕ). z * u) l))

    go : (x y : Float) → Fits x → Fits y → Finite x → Finite y → minus x ≡ false → minus y ≡ false → T (eq x y) → x ≡ y
    go nan y p q i j hx hy h = absurd i
    go (inf s) y p q i j hx hy h = absurd i
    go (fin s m e) nan p q i j hx hy h = absurd j
    go (fin s m e) (inf t) p q i j hx hy h = absurd j
    go (fin s m e) (fin t n d) p q i j hx hy h =
        let a = m * up e * down d in
        let b = n * up d * down e in
        let k = magnitude binary64 (fin s m e) in
        value_unique binary64 (fin s m e) (fin t n d) false k p q
        (hx, sym (magnitude_exact binary64 s m e p)) (
          hy,
          units (m * up e) (n * up d) (down e) (down d) k (2 ^ low binary64) (down_pos e)
              (magnitude_exact binary64 s m e p)
              (eqb→eq a b (and_l (eqb a b) (beq s t || eqb a 0) h)),
        )
