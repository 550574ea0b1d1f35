-- A cube root's sign may be changed before or after: -c.cbrt() and (-c).cbrt() are the same double. Assumes nothing.
use mathlib.Core.Path.{◌≡◌, refl}
use Prim.Native.Nat.{ℕ, zero, suc, ◌+◌, ◌*◌, ◌^◌}
use mathlib.Core.Bool.{Bool, true, false, not, cond}
use lib.Dec.{ltb}
use lib.Ieee.{Float, nan, inf, fin, Format, binary64, prec, emax, low, up, down, neg, odd, units}
use Rattle.elementary.specs.Nearest.{Real, exponent_of, significand_of, nearest_to}
use Rattle.elementary.specs.Reals.{cbrt_real}
use Rattle.elementary.specs.Functions.{cbrt_of}

neg_nearest : (f : Format) (s : Bool) (real : Real) (d : ℕ) → nearest_to f (not s) real d ≡ neg (nearest_to f s real d)
unfolding nearest_to units
neg_nearest f s real d =
    let q = significand_of (prec f) real d in
    let k = exponent_of (prec f) real d in
    picked (ltb (q * 2 ^ k) (2 ^ (low f + suc (emax f)))) q k
  where
    written : (q k : ℕ) → odd (suc (prec f)) (not s) q k (low f) ≡ neg (odd (suc (prec f)) s q k (low f))
    written zero k = unfold odd neg in refl
    written (suc q) k = unfold odd neg in refl

    picked : (b : Bool) (q k : ℕ)
        → cond b (odd (suc (prec f)) (not s) q k (low f)) (inf (not s))
        ≡ neg (cond b (odd (suc (prec f)) s q k (low f)) (inf s))
    picked true q k = written q k
    picked false q k = unfold neg in refl

pub cbrt_odd : (x : Float) → cbrt_of (neg x) ≡ neg (cbrt_of x)
unfolding cbrt_of neg
cbrt_odd nan = refl
cbrt_odd (inf s) = refl
cbrt_odd (fin s zero e) = refl
cbrt_odd (fin s (suc m) e) = neg_nearest binary64 s (cbrt_real (2 ^ 1075) (suc m * up e) (down e)) 1600
