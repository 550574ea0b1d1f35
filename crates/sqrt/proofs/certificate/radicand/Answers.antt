-- `sqrt::certificate::radicand` meets its contract. Assumes nothing.
use Rattle.std.proofs.Common.{◌≡◌, ℕ, ◌+◌, ◌*◌, ◌/◌, ◌%◌, ◌^◌, ◌<◌, ◌≤◌, sym, ap, ◌∙◌, arith}
use Rattle.sqrt.proofs.certificate.radicand.Goals as goal

-- the parity q is 0 or 1
even : (n : ℕ) → n < 2 ^ 52 → n + 2 ^ 52 ≡ (n % 2 ^ 52 + 2 ^ 52) * 2 ^ (n / 2 ^ 52)
even n h =
    let q : n / 2 ^ 52 ≡ 0 = omega arith in let z : n + 2 ^ 52 ≡ (n % 2 ^ 52 + 2 ^ 52) * 2 ^ 0 = omega arith in
    z ∙ ap (λ (x : ℕ). (n % 2 ^ 52 + 2 ^ 52) * 2 ^ x) (sym q)

odd : (n : ℕ) → 2 ^ 52 ≤ n → n < 2 ^ 53 → n + n ≡ (n % 2 ^ 52 + 2 ^ 52) * 2 ^ (n / 2 ^ 52)
odd n h g =
    let q : n / 2 ^ 52 ≡ 1 = omega arith in let z : n + n ≡ (n % 2 ^ 52 + 2 ^ 52) * 2 ^ 1 = omega arith in
    z ∙ ap (λ (x : ℕ). (n % 2 ^ 52 + 2 ^ 52) * 2 ^ x) (sym q)

pub returns-then-digits-lt4503599627370496 : goal.returns-then-digits-lt4503599627370496
returns-then-digits-lt4503599627370496 c = even c.args.digits c.if-digits-lt4503599627370496.true

pub returns-else-digits-lt4503599627370496 : goal.returns-else-digits-lt4503599627370496
returns-else-digits-lt4503599627370496 c = odd c.args.digits c.if-digits-lt4503599627370496.false c.requires
