-- `sqrt::digits::root_pattern` meets its contract. Assumes nothing.
use Rattle.std.proofs.Common.{◌≡◌, ℕ, ◌+◌, ◌*◌, ◌/◌, ◌%◌, ◌^◌, ◌<◌, ◌≤◌, ap, ◌∙◌, subst, mod-eq_of_lt, arith}
use lib.Bits.{bit_and, and_mask}
use lib.Ieee.{binary64, of_bits}
use Rattle.bits.specs.Fields.{Normalized}
use Rattle.sqrt.specs.Roots.{NearestRoot}
use Rattle.sqrt.proofs.RootPattern.{radicand_bounds, root_most, root_is}
use Rattle.sqrt.proofs.digits.root_pattern.Goals as goal

-- the shift by the exponent's last digit loses nothing
shifted : (s x : ℕ) → s * 2 ^ (x % 2) < 2 ^ 54 → s * 2 ^ bit_and x 1 % 2 ^ 64 ≡ s * 2 ^ (x % 2)
shifted s x h =
    ap (λ (y : ℕ). s * 2 ^ y % 2 ^ 64) (and_mask x 1)
    ∙ mod-eq_of_lt (let z : s * 2 ^ (x % 2) < 2 ^ 64 = omega arith in z)

half_most : (b s x : ℕ) → Normalized b s x → x / 2 ≤ 1533
half_most b s x n = let z = n.most in omega arith

-- the root of the significand, and its size
module _ (b s x : ℕ) (n : Normalized b s x) (finite : b < 0x7ff0_0000_0000_0000) (r : ℕ)
    (root : NearestRoot (s * 2 ^ bit_and x 1 % 2 ^ 64 * 2 ^ 52) r) where
  nearest : NearestRoot (s * 2 ^ (x % 2) * 2 ^ 52) r
  nearest = subst (λ (y : ℕ). NearestRoot (y * 2 ^ 52) r) (shifted s x (radicand_bounds b s x n).1) root

  root_bound : r ≤ 2 ^ 53
  root_bound = root_most b s x n finite r nearest

pub overflow_shl-parts : goal.overflow_shl-parts
overflow_shl-parts c = omega (arith, and_mask c.normalized-parts.result.exponent 1)

pub nearest_root-r-requires : goal.nearest_root-r-requires
nearest_root-r-requires c =
    let p = c.normalized-parts in
    let b = radicand_bounds _ _ _ p.ensures in
    rw (shifted p.result.significand p.result.exponent b.1) b

pub overflow_add-result : goal.overflow_add-result
overflow_add-result c =
    let p = c.normalized-parts.ensures in
    omega (arith, root_bound _ _ _ p c.requires.1 _ c.nearest_root-r.ensures, half_most _ _ _ p)

pub returns : goal.returns
returns c =
    let p = c.normalized-parts in
    let r = c.nearest_root-r in
    let h = half_most _ _ _ p.ensures in (
      omega (arith, root_bound _ _ _ p.ensures c.requires.1 _ r.ensures, h),
      ap (λ (x : ℕ). of_bits binary64 (x + r.result))
          (let z : p.result.exponent / 2 * 2 ^ 52 % 2 ^ 64 ≡ p.result.exponent / 2 * 2 ^ 52 = omega arith in z)
          ∙ root_is _ _ _ p.ensures c.requires.1 r.result (nearest _ _ _ p.ensures c.requires.1 _ r.ensures),
    )
