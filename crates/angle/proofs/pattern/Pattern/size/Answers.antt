-- `angle::pattern::Pattern::size` meets its contract. Assumes nothing.
use mathlib.Core.Path.{◌≡◌, sym, ap, ◌∙◌}
use Prim.Native.Nat.{ℕ, ◌+◌, ◌-◌, ◌*◌, ◌/◌, ◌%◌, ◌^◌, ◌≤◌, ◌<◌}
use native.Mathlib.Nat.{div-add-mod', mul_assoc, add-zero, mod-eq_of_lt, lt_of_lt_of_le, le_trans, le_of_eq}
use native.Mathlib.Nat.{mul-lt-mul_of_pos_right}
use native.Mathlib.Omega.{arith}
use lib.Bits.{and_mask}
use lib.Pow.{pow_pos, pow-add, pow_mono}
use Rattle.words.proofs.WideLaws.{upper_part}
use Rattle.angle.proofs.pattern.Pattern.size.Goals as goal

split : (n y : ℕ) → y < 64 → n / 2 ^ (64 - y) * 2 ^ 64 + n * 2 ^ y % 2 ^ 64 ≡ n * 2 ^ y
split n y h =
    ap (λ (x : ℕ). x * 2 ^ 64 + n * 2 ^ y % 2 ^ 64) (upper_part 64 n y (omega arith))
    ∙ div-add-mod' (n * 2 ^ y) (2 ^ 64)

above : (n y : ℕ) → n < 2 ^ 53 → 64 ≤ y → y ≤ 75 → n * 2 ^ (y - 64) % 2 ^ 64 * 2 ^ 64 + 0 ≡ n * 2 ^ y
above n y h l g =
    add-zero (n * 2 ^ (y - 64) % 2 ^ 64 * 2 ^ 64)
    ∙ ap (λ (x : ℕ). x * 2 ^ 64)
    (mod-eq_of_lt
    (lt_of_lt_of_le (mul-lt-mul_of_pos_right h (pow_pos (y - 64)))
    (le_trans (le_of_eq (sym (pow-add 2 53 (y - 64)))) (pow_mono (let z : 53 + (y - 64) ≤ 64 = omega arith in z)))))
    ∙ mul_assoc n (2 ^ (y - 64)) (2 ^ 64)
    ∙ ap (λ (x : ℕ). n * x)
    (sym (pow-add 2 (y - 64) 64) ∙ ap (λ (x : ℕ). 2 ^ x) (let z : y - 64 + 64 ≡ y = omega arith in z))

pub overflow_add-significand : goal.overflow_add-significand
overflow_add-significand c = omega (arith, and_mask c.args.self.m 52)

pub returns-then-shift-lt64 : goal.returns-then-shift-lt64
returns-then-shift-lt64 c = rw (and_mask c.args.self.m 52)
    (split (c.args.self.m % 2 ^ 52 + 2 ^ 52) (c.args.self.m / 2 ^ 52 - 947) c.if-shift-lt64.true)

pub returns-else-shift-lt64 : goal.returns-else-shift-lt64
returns-else-shift-lt64 c =
    rw (and_mask c.args.self.m 52)
    (above (c.args.self.m % 2 ^ 52 + 2 ^ 52) (c.args.self.m / 2 ^ 52 - 947) (omega arith) c.if-shift-lt64.false
    (omega arith))
