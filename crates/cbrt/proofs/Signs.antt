-- A double by its sign and the pattern of its magnitude, and its cube root from that of the magnitude. Assumes nothing.
use mathlib.Core.Path.{◌≡◌, refl, sym, ap, ◌∙◌, subst}
use mathlib.Core.Logic.{inl, inr}
use Prim.Native.Nat.{ℕ, zero, suc, ◌+◌, ◌/◌, ◌%◌, ◌^◌, ◌≤◌, ◌<◌}
use native.Mathlib.Nat.{le_antisymm}
use native.Mathlib.Omega.{arith}
use mathlib.Core.Bool.{Bool, true, false, not, cond}
use lib.Dec.{T, eqb}
use borrow.Author.Tests.{le-leb, lt-leb}
use lib.Ieee.{Float, nan, inf, fin, binary64, odd, neg, of_fields, of_bits, to_bits, fits, is_nan}
use lib.Ieee.Bits.{of_bits-to_bits, to_bits-lt}
use Rattle.bits.proofs.Patterns.{pattern_most, sign_cases}
use Rattle.elementary.specs.Functions.{cbrt_of}
use Rattle.cbrt.proofs.Roots.{neg_odd, cbrt_neg}

-- ---- the sign bit

neg_special : (a b s : Bool) (x y : Float) → neg x ≡ y
    → neg (cond a (cond b (inf s) nan) x) ≡ cond a (cond b (inf (not s)) nan) y
unfolding neg
neg_special true true s x y e = refl
neg_special true false s x y e = refl
neg_special false b s x y e = e

neg_fields : (x t : ℕ) → neg (of_fields binary64 false x t) ≡ of_fields binary64 true x t
unfolding of_fields
neg_fields zero t = neg_odd 53 false t 0 1074
neg_fields (suc x) t =
    neg_special (eqb (suc x) 2047) (eqb t 0) false (odd 53 false (2 ^ 52 + t) x 1074) (odd 53 true (2 ^ 52 + t) x 1074)
    (neg_odd 53 false (2 ^ 52 + t) x 1074)

neg_bits : (m : ℕ) → m < 2 ^ 63 → neg (of_bits binary64 m) ≡ of_bits binary64 (2 ^ 63 + m)
unfolding of_bits
neg_bits m h =
    rw (
      lt-leb (2 ^ 63) m h,
      le-leb (2 ^ 63) (2 ^ 63 + m) (omega arith),
      let z : m % 2 ^ 63 ≡ m = omega arith in
          z,
      let z : (2 ^ 63 + m) % 2 ^ 63 ≡ m = omega arith in
          z,
      let z : (2 ^ 63 + m) % 2 ^ 52 ≡ m % 2 ^ 52 = omega arith in z,
    )
    (neg_fields (m / 2 ^ 52) (m % 2 ^ 52))

-- ---- the root of x from the root r of its magnitude

module _ (x : Float) (held : T (fits binary64 x)) where
  positive : to_bits binary64 x ≡ to_bits binary64 x % 2 ^ 63 → of_bits binary64 (to_bits binary64 x % 2 ^ 63) ≡ x
  positive e = ap (of_bits binary64) (sym e) ∙ of_bits-to_bits binary64 x held

  negative : to_bits binary64 x ≡ 2 ^ 63 + to_bits binary64 x % 2 ^ 63
      → neg (of_bits binary64 (to_bits binary64 x % 2 ^ 63)) ≡ x
  negative e =
      neg_bits (to_bits binary64 x % 2 ^ 63) (omega arith) ∙ ap (of_bits binary64) (sym e) ∙ of_bits-to_bits binary64 x held

  pub root_positive : (r : Float) → r ≡ cbrt_of (of_bits binary64 (to_bits binary64 x % 2 ^ 63))
      → to_bits binary64 x ≡ to_bits binary64 x % 2 ^ 63 → r ≡ cbrt_of x
  root_positive r h e = h ∙ ap cbrt_of (positive e)

  root_of_negative : (r : Float) → r ≡ cbrt_of (of_bits binary64 (to_bits binary64 x % 2 ^ 63))
      → to_bits binary64 x ≡ 2 ^ 63 + to_bits binary64 x % 2 ^ 63 → neg r ≡ cbrt_of x
  root_of_negative r h e = ap neg h ∙ cbrt_neg (of_bits binary64 (to_bits binary64 x % 2 ^ 63)) ∙ ap cbrt_of (negative e)

  pub root_negative : (r : Float) → r ≡ cbrt_of (of_bits binary64 (to_bits binary64 x % 2 ^ 63))
      → (to_bits binary64 x ≡ to_bits binary64 x % 2 ^ 63 → ⊥) → neg r ≡ cbrt_of x
  root_negative r h n = elim (sign_cases (to_bits binary64 x) (to_bits-lt binary64 x held)) [
    | inl e ↦ absurd (n e)
    | inr e ↦ root_of_negative r h e
  ]

  -- a magnitude that is its own root
  own_root : (m : ℕ) → of_bits binary64 m ≡ cbrt_of (of_bits binary64 m) → to_bits binary64 x % 2 ^ 63 ≡ m → x ≡ cbrt_of x
  own_root m h e =
      let r : of_bits binary64 (to_bits binary64 x % 2 ^ 63) ≡ cbrt_of (of_bits binary64 (to_bits binary64 x % 2 ^ 63)) =
      subst (λ (n : ℕ). of_bits binary64 n ≡ cbrt_of (of_bits binary64 n)) (sym e) h in
      elim (sign_cases (to_bits binary64 x) (to_bits-lt binary64 x held)) [
        | inl s ↦ sym (positive s) ∙ root_positive (of_bits binary64 (to_bits binary64 x % 2 ^ 63)) r s
        | inr s ↦ sym (negative s) ∙ root_of_negative (of_bits binary64 (to_bits binary64 x % 2 ^ 63)) r s
      ]

  pub zero_root : to_bits binary64 x % 2 ^ 63 ≡ 0 → x ≡ cbrt_of x
  unfolding cbrt_of of_bits
  zero_root = own_root 0 refl

  pub infinite_root : T (not (is_nan x)) → 0x7ff0_0000_0000_0000 ≤ to_bits binary64 x % 2 ^ 63 → x ≡ cbrt_of x
  unfolding cbrt_of of_bits
  infinite_root n h = own_root 0x7ff0_0000_0000_0000 refl (le_antisymm (pattern_most x held n) h)

pub nan_root : (x : Float) → is_nan x ≡ true → x ≡ cbrt_of x
unfolding cbrt_of is_nan
nan_root nan h = refl
nan_root (inf s) h = cc
nan_root (fin s m e) h = cc
