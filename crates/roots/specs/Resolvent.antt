-- `solve_resolvent` for any doubles, in the Rust's order of operations: the zeros with their names, one, two or three,
-- and the Rust's count and numbers of them. Definitions only.
use Rattle.std.specs.Prelude.{ℕ, cond, List, [], ◌∷◌, Float}
use Rattle.std.specs.Float.{binary64}
use Rattle.std.specs.Float.Ieee.{of_bits}
use Rattle.doubles.specs.Operators.{◌+ᶠ◌, ◌-ᶠ◌, ◌*ᶠ◌, ◌/ᶠ◌, -ᶠ◌, ◌<ᶠ◌, ◌==ᶠ◌}
use Rattle.doubles.specs.Constants.{0ᶠ, 1ᶠ, 2ᶠ, 3ᶠ, eps}
use Rattle.doubles.specs.Functions.{absᶠ, minᶠ, maxᶠ}
use Rattle.elementary.specs.Functions.{sqrt_of, cbrt_of, third_angle_cosine_of, third_angle_sine_of}
use Rattle.roots.specs.declared.resolvent.Zeros.{Zeros}
use Rattle.roots.specs.declared.resolvent.Zeros.TheVariants.{One, Two, Three}

-- the Rust's count
abbrev pub zero_count : Zeros → ℕ
zero_count (One _ _ _) = 1
zero_count (Two _ _) = 2
zero_count (Three _ _ _) = 3

-- the Rust's three numbers: of two zeros the last one is there twice
abbrev pub zero_numbers : Zeros → List Float
zero_numbers (One x y z) = x ∷ y ∷ z ∷ []
zero_numbers (Two x y) = x ∷ y ∷ y ∷ []
zero_numbers (Three x y z) = x ∷ y ∷ z ∷ []

-- COS_120, -0.50, and SIN_120, 0.866_025_403_784_438_6
abbrev pub cos120 : Float
cos120 = of_bits binary64 0xbfe0_0000_0000_0000

abbrev pub sin120 : Float
sin120 = of_bits binary64 0x3feb_b67a_e858_4caa

-- ---- r² < q³: three zeros

-- t, from -1 to 1: where the quotient is a NaN, `min` gives 1
unfoldable pub clamped_ratio : Float → Float → Float → Float
clamped_ratio q qSqrt r = maxᶠ (minᶠ (r /ᶠ (q *ᶠ qSqrt)) 1ᶠ) (-ᶠ 1ᶠ)

unfoldable pub three_zeros : Float → Float → Float → Zeros
three_zeros a q r =
    let t = clamped_ratio q (sqrt_of q) r in
    let ux = third_angle_cosine_of t *ᶠ (-ᶠ 2ᶠ *ᶠ sqrt_of q) in
    let uyi = third_angle_sine_of t *ᶠ (-ᶠ 2ᶠ *ᶠ sqrt_of q) in
    let x0 = ux -ᶠ a in
    let x1 = ux *ᶠ cos120 -ᶠ uyi *ᶠ sin120 -ᶠ a in
    let x2 = ux *ᶠ cos120 +ᶠ uyi *ᶠ sin120 -ᶠ a in
    Three x0 x1 x2

-- ---- otherwise one zero, or two

-- a_, with r² - q³ for the discriminant
unfoldable pub cube_root : Float → Float → Float
cube_root r discriminant =
    let u = cbrt_of (-ᶠ absᶠ r -ᶠ sqrt_of discriminant) in
    cond (r <ᶠ 0ᶠ) (-ᶠ u) u

-- b_
unfoldable pub quotient : Float → Float → Float
quotient q u = cond (u ==ᶠ 0ᶠ) 0ᶠ (q /ᶠ u)

unfoldable pub few_zeros : Float → Float → Float → Zeros
few_zeros a u v =
    let x0 = u +ᶠ v -ᶠ a in
    let x1 = -ᶠ (u +ᶠ v) /ᶠ 2ᶠ -ᶠ a in
    let x2 = sqrt_of 3ᶠ *ᶠ (u -ᶠ v) /ᶠ 2ᶠ in
    cond (absᶠ x2 <ᶠ eps) (Two x0 x1) (One x0 x1 x2)

-- ---- the zeros of x³ + a x² + b x + c

unfoldable pub resolvent_of : Float → Float → Float → Zeros
resolvent_of a b c =
    let third = a /ᶠ 3ᶠ in
    let a2 = third *ᶠ third in
    let q = a2 -ᶠ b /ᶠ 3ᶠ in
    let r = (third *ᶠ (2ᶠ *ᶠ a2 -ᶠ b) +ᶠ c) /ᶠ 2ᶠ in
    let r2 = r *ᶠ r in
    let q3 = q *ᶠ q *ᶠ q in
    let u = cube_root r (r2 -ᶠ q3) in
    cond (r2 <ᶠ q3) (three_zeros third q r) (few_zeros third u (quotient q u))
