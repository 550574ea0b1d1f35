-- The verdict on a candidate r by the place of a among the squares of the midpoints, and what
-- a verdict says. Assumes nothing.
use Rattle.std.proofs.Common.{◌≡◌, ℕ, zero, suc, ◌+◌, ◌-◌, ◌*◌, ◌<◌, ◌≤◌, Bool, true, false, cond, ◌&&◌, T, ltb, leb}
use Rattle.std.proofs.Common.{sym, refl, ap, ◌∙◌, subst, ap₂, arith, ltb→lt, leb→le, le-ltb, lt-ltb, le-leb}
use lib.Ieee.Fits.{and_l, and_r}
use borrow.Author.Tests.{lt-leb}
use Rattle.sqrt.specs.Roots.{NearestRoot, is_nearest_root}
use Rattle.sqrt.specs.Verdicts.{verdict_of, Says}
use Rattle.sqrt.specs.declared.certificate.Verdict.{Verdict}
use Rattle.sqrt.specs.declared.certificate.Verdict.TheVariants.{Nearest, TooLow, TooHigh, Unknown}

-- ---- the test's answer: yes; no, for a is too small; no, for a is too large

yes_at : (a r : ℕ) → r * r < a + r → a ≤ r * r + r → is_nearest_root a r ≡ true
yes_at a r h g = ap₂ (λ (x y : Bool). x && y) (lt-ltb (r * r) (a + r) h) (le-leb a (r * r + r) g)

small_at : (a r : ℕ) → a + r ≤ r * r → is_nearest_root a r ≡ false
small_at a r h = ap (λ (x : Bool). x && leb a (r * r + r)) (le-ltb (r * r) (a + r) h)

large_at : (a r : ℕ) → r * r + r < a → is_nearest_root a r ≡ false
large_at a r h = ap (λ (x : Bool). ltb (r * r) (a + r) && x) (lt-leb a (r * r + r) h) ∙ and_false (ltb (r * r) (a + r))
  where
    and_false : (x : Bool) → x && false ≡ false
    and_false false = refl
    and_false true = refl

-- ---- the verdict

-- by the three tests
verdict_by : (a r : ℕ) (x y z : Bool) → is_nearest_root a r ≡ x → is_nearest_root a (r + 1) ≡ y
    → is_nearest_root a (r - 1) ≡ z → cond x Nearest (cond y TooLow (cond z TooHigh Unknown)) ≡ verdict_of a r
unfolding verdict_of
verdict_by a r x y z e f g =
    sym (ap₂ (λ (u : Bool) (v : Verdict). cond u Nearest v) e
    (ap₂ (λ (u : Bool) (v : Verdict). cond u TooLow v) f (ap (λ (u : Bool). cond u TooHigh Unknown) g)))

pub is_nearest : (a r : ℕ) → r * r < a + r → a ≤ r * r + r → Nearest ≡ verdict_of a r
is_nearest a r h g = verdict_by a r true (is_nearest_root a (r + 1)) (is_nearest_root a (r - 1)) (yes_at a r h g) refl refl

pub is_too_low : (a r : ℕ) → r * r + r < a → a ≤ r * r + 3 * r + 2 → TooLow ≡ verdict_of a r
is_too_low a r h g =
    verdict_by a r false true (is_nearest_root a (r - 1)) (large_at a r h)
    (yes_at a (r + 1) (omega arith) (omega arith)) refl

small_next : (a r : ℕ) → a + r ≤ r * r → is_nearest_root a (r + 1) ≡ false
small_next a r h = small_at a (r + 1) (omega arith)

-- r - 1, for an r above 0
previous : (a j : ℕ) (x : Bool) → is_nearest_root a j ≡ x → is_nearest_root a (suc j - 1) ≡ x
previous a j x e = subst (λ (n : ℕ). is_nearest_root a n ≡ x) (let z : j ≡ suc j - 1 = omega arith in z) e

pub is_too_high : (a r : ℕ) → a + r ≤ r * r → r * r + 2 < a + 3 * r → TooHigh ≡ verdict_of a r
is_too_high a zero h g = absurd (let z : ⊥ = omega arith in z)
is_too_high a (suc j) h g =
    verdict_by a (suc j) false false true (small_at a (suc j) h) (small_next a (suc j) h)
    (previous a j true (yes_at a j (omega arith) (omega arith)))

pub is_above_all : (a r : ℕ) → r * r + 3 * r + 2 < a → Unknown ≡ verdict_of a r
is_above_all a r h =
    verdict_by a r false false false (large_at a r (omega arith)) (large_at a (r + 1) (omega arith)) (last r h)
  where
    last : (r : ℕ) → r * r + 3 * r + 2 < a → is_nearest_root a (r - 1) ≡ false
    last zero h = large_at a 0 (omega arith)
    last (suc j) h = previous a j false (large_at a j (omega arith))

pub is_below_all : (a r : ℕ) → a + r ≤ r * r → a + 3 * r ≤ r * r + 2 → Unknown ≡ verdict_of a r
is_below_all a r h g = verdict_by a r false false false (small_at a r h) (small_next a r h) (last r h g)
  where
    last : (r : ℕ) → a + r ≤ r * r → a + 3 * r ≤ r * r + 2 → is_nearest_root a (r - 1) ≡ false
    last zero h g = small_at a 0 h
    last (suc j) h g = previous a j false (small_at a j (omega arith))

-- ---- what it says

nearest_of_test : (a r : ℕ) → is_nearest_root a r ≡ true → NearestRoot a r
nearest_of_test a r e =
    let t : T (is_nearest_root a r) = subst T (sym e) tt in
    record {
      below = ltb→lt (r * r) (a + r) (and_l (ltb (r * r) (a + r)) (leb a (r * r + r)) t);
      above = leb→le a (r * r + r) (and_r (ltb (r * r) (a + r)) (leb a (r * r + r)) t);
    }

pub verdict_says : (a r : ℕ) → Says a r (verdict_of a r)
unfolding verdict_of
verdict_says a r = go (is_nearest_root a r) (is_nearest_root a (r + 1)) (is_nearest_root a (r - 1)) refl refl refl
  where
    positive : (r : ℕ) → NearestRoot a (r - 1) → 0 < r
    positive zero n = absurd (let h = n.below in let g = n.above in let z : ⊥ = omega arith in z)
    positive (suc j) n = omega arith

    go : (x y z : Bool) → is_nearest_root a r ≡ x → is_nearest_root a (r + 1) ≡ y → is_nearest_root a (r - 1) ≡ z
        → Says a r (cond x Nearest (cond y TooLow (cond z TooHigh Unknown)))
    go true y z e f g = nearest_of_test a r e
    go false true z e f g = nearest_of_test a (r + 1) f
    go false false true e f g = let n = nearest_of_test a (r - 1) g in (positive r n, n)
    go false false false e f g = tt
