-- `solve_quart_monic_coeffs` for any doubles, in the Rust's order of operations. Definitions only.
use Rattle.std.specs.Prelude.{◌&&◌, cond, Float}
use Rattle.std.specs.Float.{binary64}
use Rattle.std.specs.Float.Ieee.{of_bits}
use Rattle.doubles.specs.Operators.{◌+ᶠ◌, ◌-ᶠ◌, ◌*ᶠ◌, ◌/ᶠ◌, -ᶠ◌, ◌<ᶠ◌}
use Rattle.doubles.specs.Constants.{0ᶠ, 2ᶠ, 4ᶠ, eps}
use Rattle.doubles.specs.Functions.{absᶠ}
use Rattle.elementary.specs.Functions.{sqrt_of, cbrt_of}
use Rattle.roots.specs.declared.list.Roots.{Roots}
use Rattle.roots.specs.declared.resolvent.Zeros.{Zeros}
use Rattle.roots.specs.declared.resolvent.Zeros.TheVariants.{One, Two, Three}
use Rattle.roots.specs.declared.quartic.Factors.{Factors}
use Rattle.roots.specs.List.{no_roots, inserted}
use Rattle.roots.specs.Resolvent.{resolvent_of}

-- EPS_M_BY_16: 16.0 * f64::EPSILON
abbrev pub 16eps : Float
16eps = of_bits binary64 0x4030_0000_0000_0000 *ᶠ eps

-- the list with the roots of x² + p x + q: -p / 2 where the discriminant is within the
-- tolerance of 0, two where it is above 0
unfoldable pub with_quadratic : Roots → Float → Float → Float → Roots
with_quadratic l p q tolerance =
    let d = p *ᶠ p -ᶠ 4ᶠ *ᶠ q in
    cond (absᶠ d <ᶠ tolerance) (inserted l (-ᶠ p /ᶠ 2ᶠ))
    (cond (0ᶠ <ᶠ d) (inserted (inserted l ((-ᶠ p -ᶠ sqrt_of d) /ᶠ 2ᶠ)) ((-ᶠ p +ᶠ sqrt_of d) /ᶠ 2ᶠ)) l)

-- ---- the factors x² + p1 x + q1 and x² + p2 x + q2

-- y: of the resolvent's zeros the one with the largest absolute value, the first at equality
unfoldable pub larger : Float → Float → Float
larger x y = cond (absᶠ x <ᶠ absᶠ y) y x

unfoldable pub largest_zero : Zeros → Float
largest_zero (One x _ _) = x
largest_zero (Two x y) = larger x y
largest_zero (Three x y z) = larger (larger x y) z

-- where q1 and q2 are taken for equal
unfoldable pub equal_constants : Float → Float → Float → Factors
equal_constants a b y =
    let q = y /ᶠ 2ᶠ in
    let d = a *ᶠ a -ᶠ 4ᶠ *ᶠ (b -ᶠ y) in
    cond (absᶠ d <ᶠ eps) (record { p1 = a /ᶠ 2ᶠ; q1 = q; p2 = a /ᶠ 2ᶠ; q2 = q })
    (record { p1 = (a +ᶠ sqrt_of d) /ᶠ 2ᶠ; q1 = q; p2 = (a -ᶠ sqrt_of d) /ᶠ 2ᶠ; q2 = q })

unfoldable pub factors_of : Float → Float → Float → Float → Float → Factors
factors_of a b c d y =
    let e = y *ᶠ y -ᶠ 4ᶠ *ᶠ d in
    let q1 = (y +ᶠ sqrt_of e) /ᶠ 2ᶠ in
    let q2 = (y -ᶠ sqrt_of e) /ᶠ 2ᶠ in
    cond (absᶠ e <ᶠ eps) (equal_constants a b y)
    (record { p1 = (a *ᶠ q1 -ᶠ c) /ᶠ (q1 -ᶠ q2); q1 = q1; p2 = (c -ᶠ a *ᶠ q2) /ᶠ (q1 -ᶠ q2); q2 = q2 })

unfoldable pub roots_by_factors : Float → Float → Float → Float → Roots
roots_by_factors a b c d =
    let zeros = resolvent_of (-ᶠ b) (a *ᶠ c -ᶠ 4ᶠ *ᶠ d) (-ᶠ (a *ᶠ a) *ᶠ d -ᶠ c *ᶠ c +ᶠ 4ᶠ *ᶠ b *ᶠ d) in
    let f = factors_of a b c d (largest_zero zeros) in
    with_quadratic (with_quadratic no_roots f.p1 f.q1 16eps) f.p2 f.q2 16eps

-- ---- the roots of x⁴ + a x³ + b x² + c x + d that are at least 0

unfoldable pub quartic_of : Float → Float → Float → Float → Roots
quartic_of a b c d =
    cond (absᶠ d <ᶠ eps && absᶠ c <ᶠ eps) (with_quadratic (inserted no_roots 0ᶠ) a b eps)
    (cond (absᶠ d <ᶠ eps && absᶠ a <ᶠ eps && absᶠ b <ᶠ eps) (inserted (inserted no_roots 0ᶠ) (-ᶠ cbrt_of c))
    (roots_by_factors a b c d))
