-- `sqrt::digits::nearest_root` meets its contract. Assumes nothing.
use Rattle.std.proofs.Common.{ℕ, ◌<◌, ◌≤◌, arith}
use Rattle.sqrt.specs.Roots.{WholeRoot, NearestRoot}
use Rattle.sqrt.proofs.digits.nearest_root.Goals as goal

pub returns-else-root-r : goal.returns-else-root-r
returns-else-root-r c = same _ _ _ c.whole_root-r.ensures c.if-root-r.false (omega arith)
  where
    positive : (a q r : ℕ) → WholeRoot a q r → 0 < a → 0 < q
    positive a Prim.Native.Nat.zero r s h = let e = s.sum in let l = s.least in absurd (let z : ⊥ = omega arith in z)
    positive a (Prim.Native.Nat.suc q) r s h = omega arith

    same : (a q r : ℕ) → WholeRoot a q r → r ≤ q → 0 < a → NearestRoot a q
    same a q r s h p =
        let e = s.sum in let l = s.least in let z = positive a q r s p in
        record { below = omega arith; above = omega arith }
