-- Numbers that are at least 0, whether a format holds them or not: a sum of two is at least 0, and of two sums with one
-- number in common the one with the smaller other number isn't above the one with the larger. Assumes nothing.
use mathlib.Core.Path.{◌≡◌, refl, sym, ap, ◌∙◌, subst}
use Prim.Native.Nat.{ℕ, ◌+◌, ◌-◌, ◌*◌, ◌≤◌, ◌<◌}
use native.Mathlib.Nat.{le_of_mul-le-mul_right, mul-le-mul_right, mul-pos, zero-lt-suc}
use native.Mathlib.Omega.{arith}
use mathlib.Core.Bool.{Bool, true, false, not, cond, true≢false}
use borrow.Author.Tests.{ltb-false}
use lib.IntN.{ℤ, pos}
use lib.Dec.{T, not_T, ltb, eqb, ltb→lt, nltb→le, eqb→eq}
use lib.Ieee.{Float, nan, inf, fin, Format, up, down, below, round, sum, add, lt, le, eq, is_nan, of_bits}
use lib.Ieee.Bits.{is_true, is_false}
use lib.Ieee.Fits.{up_pos, down_pos, and_l}
use lib.Ieee.Order.{round_mono}
use Rattle.doubles.specs.Constants.{0ᶠ}
use Rattle.doubles.specs.Value.{Finite, AtLeastZero}
use Rattle.doubles.proofs.ValueLaws.{round_zero}
use Rattle.doubles.proofs.FunctionLaws.{holds}
use Rattle.doubles.proofs.ComparisonLaws.{lt_eq, at_most_not_below, infinity_not_below, not_below}
use Rattle.doubles.proofs.UnsignedLaws.{finite_number}

-- ---- which are at least 0: a finite one that isn't below 0
pub not_below_zero : (x : Float) → Finite x → lt x 0ᶠ ≡ false → AtLeastZero x
not_below_zero x i h = is_true (le 0ᶠ x) (not_below x 0ᶠ (finite_number x i) (unfold is_nan of_bits in refl) h)

-- and which are finite: one that isn't above a finite one
pub at_least_zero_finite : (x y : Float) → AtLeastZero x → Finite y → lt y x ≡ false → Finite x
unfolding lt le eq of_bits
at_least_zero_finite nan y h i l = holds false h
at_least_zero_finite (inf true) y h i l = holds false h
at_least_zero_finite (inf false) nan h i l = absurd i
at_least_zero_finite (inf false) (inf s) h i l = absurd i
at_least_zero_finite (inf false) (fin s m e) h i l = absurd (true≢false l)
at_least_zero_finite (fin s m e) y h i l = tt

-- no NaN, and what has the sign is 0
abbrev PlusOrZero : Float → Type 0
PlusOrZero nan = ⊥
PlusOrZero (inf s) = T (not s)
PlusOrZero (fin s m e) = T s → m ≡ 0

first_zero : (m k : ℕ) → 0 < k → m * k ≡ 0 → m ≡ 0
first_zero m k K e = let l : m ≤ 0 = le_of_mul-le-mul_right {m = m} {n = 0} {k = k} (omega arith) K in omega arith

plus_or_zero : (x : Float) → AtLeastZero x → PlusOrZero x
unfolding le lt eq of_bits
plus_or_zero nan h = holds false h
plus_or_zero (inf true) h = holds false h
plus_or_zero (inf false) h = tt
plus_or_zero (fin false m e) h = λ t. absurd t
plus_or_zero (fin true m e) h =
    λ _. first_zero m (up e) (up_pos e)
    (omega (
      arith,
      eqb→eq (0 * 1 * down e) (m * up e * 1)
          (and_l (eqb (0 * 1 * down e) (m * up e * 1)) (eqb (0 * 1 * down e) 0) (holds _ h)),
    ))

-- ---- what is at least 0 isn't below -0
minus_zero_level : eq (fin true 0 (pos 0)) 0ᶠ ≡ true
unfolding eq of_bits
minus_zero_level = refl

not_below_minus_zero : (x : Float) → AtLeastZero x → lt x (fin true 0 (pos 0)) ≡ false
not_below_minus_zero x h =
    is_false (lt x (fin true 0 (pos 0)))
    (not_T (lt x (fin true 0 (pos 0)))
    (λ g. subst T (at_most_not_below 0ᶠ x h) (lt_eq x (fin true 0 (pos 0)) 0ᶠ g (holds _ minus_zero_level))))

-- ---- such a sum is the rounding of n / c, or -0 where both are
data Rounds (f : Format) (n c : ℕ) : Float → Type 0 where
  rounded : Rounds f n c (round f false n c)
  minus_zero : n ≡ 0 → Rounds f n c (fin true 0 (pos 0))

module _ (f : Format) (a b c : ℕ) (C : 0 < c) where
  rounds_same : (n : ℕ) → n ≡ a + b → Rounds f (a + b) c (round f false n c)
  rounds_same n e = subst (λ (k : ℕ). Rounds f (a + b) c (round f false k c)) (sym e) rounded

  sum_rounds : (s t : Bool) → (T s → a ≡ 0) → (T t → b ≡ 0) → Rounds f (a + b) c (sum f s a t b c)
  unfolding sum
  sum_rounds false false g h = rounded
  sum_rounds true true g h =
      let z : a + b ≡ 0 = omega (arith, g tt, h tt) in
      subst (Rounds f (a + b) c) (sym (ap (λ (n : ℕ). round f true n c) z ∙ round_zero f true c C)) (minus_zero z)
  sum_rounds false true g h = go (ltb a b) (ltb→lt a b)
    where
      go : (o : Bool) → (T o → a < b)
          → Rounds f (a + b) c (cond o (round f true (b - a) c) (round f false (a - b) c))
      go true l = absurd (let none : ⊥ = omega (arith, h tt, l tt) in none)
      go false l = rounds_same (a - b) (omega (arith, h tt))
  sum_rounds true false g h = go (ltb a b) (ltb b a) (ltb→lt b a) (nltb→le a b)
    where
      go : (o i : Bool) → (T i → b < a) → (T (not o) → b ≤ a)
          → Rounds f (a + b) c (cond o (round f false (b - a) c) (round f i (a - b) c))
      go true i l k = rounds_same (b - a) (omega (arith, g tt))
      go false true l k = absurd (let none : ⊥ = omega (arith, g tt, l tt) in none)
      go false false l k = rounds_same (a - b) (omega (arith, g tt, k tt))

product_zero : (m u d : ℕ) → m ≡ 0 → m * u * d ≡ 0
product_zero m u d z = rw z (omega arith)

add_rounds : (f : Format) (s : Bool) (m : ℕ) (e : ℤ) (t : Bool) (n : ℕ) (d : ℤ) → PlusOrZero (fin s m e)
    → PlusOrZero (fin t n d)
    → Rounds f (m * up e * down d + n * up d * down e) (down e * down d) (add f (fin s m e) (fin t n d))
unfolding add
add_rounds f s m e t n d g h =
    sum_rounds f (m * up e * down d) (n * up d * down e) (down e * down d) (mul-pos (down_pos e) (down_pos d)) s t
    (λ k. product_zero m (up e) (down d) (g k)) (λ k. product_zero n (up d) (down e) (h k))

-- ---- the sum is at least 0
zero_rounds : (f : Format) → round f false 0 1 ≡ 0ᶠ
unfolding of_bits
zero_rounds f = round_zero f false 1 (zero-lt-suc 0)

rounds_at_least_zero : (f : Format) (n c : ℕ) → 0 < c → {x : Float} → Rounds f n c x → AtLeastZero x
rounds_at_least_zero f n c C rounded =
    is_true (le 0ᶠ (round f false n c))
    (subst (λ (z : Float). T (le z (round f false n c))) (zero_rounds f)
    (round_mono f 0 1 n c (zero-lt-suc 0) C (omega arith)))
rounds_at_least_zero f n c C (minus_zero z) = unfold le lt eq of_bits in refl

pub add_at_least_zero : (f : Format) (x y : Float) → AtLeastZero x → AtLeastZero y → AtLeastZero (add f x y)
add_at_least_zero f x y hx hy = go x y (plus_or_zero x hx) (plus_or_zero y hy)
  where
    go : (x y : Float) → PlusOrZero x → PlusOrZero y → AtLeastZero (add f x y)
    go nan y g h = absurd g
    go (inf s) nan g h = absurd h
    go (fin s m e) nan g h = absurd h
    go (inf true) (inf t) g h = absurd g
    go (inf true) (fin t n d) g h = absurd g
    go (inf false) (inf true) g h = absurd h
    go (inf false) (inf false) g h = unfold add le lt eq of_bits in refl
    go (inf false) (fin t n d) g h = unfold add le lt eq of_bits in refl
    go (fin s m e) (inf true) g h = absurd h
    go (fin s m e) (inf false) g h = unfold add le lt eq of_bits in refl
    go (fin s m e) (fin t n d) g h =
        rounds_at_least_zero f (m * up e * down d + n * up d * down e) (down e * down d)
        (mul-pos (down_pos e) (down_pos d)) (add_rounds f s m e t n d g h)

-- ---- two sums are in the order of what they don't have in common
rounds_in_order : (f : Format) (n c n' c' : ℕ) → 0 < c → 0 < c' → n * c' ≤ n' * c → {x y : Float} → Rounds f n c x
    → Rounds f n' c' y → lt y x ≡ false
rounds_in_order f n c n' c' C C' l rounded rounded =
    at_most_not_below (round f false n c) (round f false n' c') (is_true _ (round_mono f n c n' c' C C' l))
rounds_in_order f n c n' c' C C' l (minus_zero z) q = not_below_minus_zero _ (rounds_at_least_zero f n' c' C' q)
rounds_in_order f n c n' c' C C' l rounded (minus_zero z) =
    let e : n ≡ 0 = first_zero n c' C' (omega (arith, ap (λ (k : ℕ). k * c) z)) in
    rw (e, round_zero f false c C) (unfold lt in refl)

-- X / E at most Y / D, each with K / C
cross : (X Y K E D C : ℕ) → X * D ≤ Y * E → (X * C + K * E) * (D * C) ≤ (Y * C + K * D) * (E * C)
cross X Y K E D C l = omega (arith, mul-le-mul_right (C * C) l)

operands_in_order : (s : Bool) (a : ℕ) (t : Bool) (b : ℕ) → (T s → a ≡ 0) → below t b s a ≡ false → a ≤ b
operands_in_order true a t b g h = omega (arith, g tt)
operands_in_order false a false b g h = ltb-false b a h
operands_in_order false a true b g h = omega (arith, ltb-false 0 (b + a) h)

pub add_in_order : (f : Format) (x y z : Float) → AtLeastZero x → AtLeastZero y → AtLeastZero z → lt y x ≡ false
    → lt (add f y z) (add f x z) ≡ false
add_in_order f x y z hx hy hz l = go y z x (plus_or_zero y hy) (plus_or_zero z hz) (plus_or_zero x hx) l
  where
    go : (y z x : Float) → PlusOrZero y → PlusOrZero z → PlusOrZero x → lt y x ≡ false
        → lt (add f y z) (add f x z) ≡ false
    go nan z x h k g l = absurd h
    go (inf true) z x h k g l = absurd h
    go (inf false) nan x h k g l = absurd k
    go (inf false) (inf true) x h k g l = absurd k
    go (inf false) (inf false) x h k g l = unfold add in (infinity_not_below (add f x (inf false)))
    go (inf false) (fin u j c) x h k g l = unfold add in (infinity_not_below (add f x (fin u j c)))
    go (fin t n d) nan x h k g l = absurd k
    go (fin t n d) (inf true) x h k g l = absurd k
    go (fin t n d) (inf false) x h k g l = unfold add in (infinity_not_below (add f x (inf false)))
    go (fin t n d) (fin u j c) nan h k g l = absurd g
    go (fin t n d) (fin u j c) (inf true) h k g l = absurd g
    go (fin t n d) (fin u j c) (inf false) h k g l = absurd (unfold lt in (holds false (sym l)))
    go (fin t n d) (fin u j c) (fin s m e) h k g l =
        rounds_in_order f (m * up e * down c + j * up c * down e) (down e * down c)
        (n * up d * down c + j * up c * down d) (down d * down c) (mul-pos (down_pos e) (down_pos c))
        (mul-pos (down_pos d) (down_pos c))
        (cross (m * up e) (n * up d) (j * up c) (down e) (down d) (down c)
        (operands_in_order s (m * up e * down d) t (n * up d * down e) (λ b. product_zero m (up e) (down d) (g b))
        (unfold lt in l)))
        (add_rounds f s m e u j c g k) (add_rounds f t n d u j c h k)
