-- `cbrt::digits::root_pattern` meets its contract. Assumes nothing.
use mathlib.Core.Path.{◌≡◌}
use Prim.Native.Nat.{ℕ, ◌+◌, ◌*◌, ◌/◌, ◌%◌, ◌^◌, ◌≤◌}
use native.Mathlib.Omega.{arith}
use Rattle.elementary.proofs.Binade.{rounds_fits}
use Rattle.cbrt.proofs.Roots.{root_of, in_binade, root_pattern}
use Rattle.cbrt.proofs.digits.root_pattern.Goals as goal

-- the exponent's field, which a shift does not cut off
field : (x : ℕ) → x ≤ 3067 → (x + 1022) / 3 ≤ 1363
field x h = omega arith

shifted : (k : ℕ) → k ≤ 1363 → k * 2 ^ 52 % 2 ^ 64 ≡ k * 2 ^ 52
shifted k h = omega arith

pub rounded_by_digits-r-requires : goal.rounded_by_digits-r-requires
rounded_by_digits-r-requires c =
    let n = c.normalized-parts.ensures in
    in_binade c.normalized-parts.result.significand ((c.normalized-parts.result.exponent + 1022) % 3)
    n.normal n.fits (omega arith)

pub overflow_add-result : goal.overflow_add-result
overflow_add-result c =
    omega (
      arith,
      field c.normalized-parts.result.exponent c.normalized-parts.ensures.most,
      rounds_fits (root_of c.normalized-parts.result.significand
          ((c.normalized-parts.result.exponent + 1022) % 3)) c.rounded_by_digits-r.result
          c.rounded_by_digits-r.ensures,
    )

pub returns : goal.returns
returns c =
    let f = field c.normalized-parts.result.exponent c.normalized-parts.ensures.most in
    rw (shifted ((c.normalized-parts.result.exponent + 1022) / 3) f) (
      omega (
        arith,
        f,
        rounds_fits (root_of c.normalized-parts.result.significand
            ((c.normalized-parts.result.exponent + 1022) % 3)) c.rounded_by_digits-r.result
            c.rounded_by_digits-r.ensures,
      ),
      root_pattern c.args.b c.normalized-parts.result.significand
          c.normalized-parts.result.exponent c.normalized-parts.ensures c.requires.0
          c.requires.1 c.rounded_by_digits-r.result c.rounded_by_digits-r.ensures,
    )
