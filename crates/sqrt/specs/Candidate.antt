-- The estimate of the square root, operation by operation. Definitions only.
use Rattle.std.specs.Prelude.{ℕ, from_bits, Float}
use Rattle.std.specs.Float.{binary64}
use Rattle.doubles.specs.Operators.{◌+ᶠ◌, ◌-ᶠ◌, ◌*ᶠ◌}
use Rattle.doubles.specs.Constants.{½ᶠ, 1ᶠ}
use Rattle.doubles.specs.Guess.{inverse_root_guess}
use Rattle.doubles.specs.Splitting.{leading_digits}

-- the splitter is 2 ^ 27 + 1
unfoldable pub candidate_of : Float → ℕ → Float
candidate_of x b =
    let g = inverse_root_guess b in
    let s0 = x *ᶠ g in
    let r = 1ᶠ -ᶠ s0 *ᶠ g in
    let a = leading_digits s0 (from_bits binary64 0x41a0_0000_0200_0000) in
    let f = ((r -ᶠ from_bits binary64 0x3ff7_cb0a_2c7d_7155) *ᶠ r +ᶠ from_bits binary64 0x3ffa_1f1a_2394_db34)
    *ᶠ ((r +ᶠ from_bits binary64 0x3ff3_c134_aa41_d4f2) *ᶠ r +ᶠ from_bits binary64 0x3ffd_0f21_a00d_24c8) in
    let c = (r +ᶠ from_bits binary64 0x3ff5_e2e1_620b_a21a) *ᶠ from_bits binary64 0x3fcf_8f03_0927_efec in
    let s = f *ᶠ (s0 *ᶠ c) in
    let e = (x -ᶠ a *ᶠ a) -ᶠ (s -ᶠ a) *ᶠ (s +ᶠ a) in
    s +ᶠ e *ᶠ (f *ᶠ (½ᶠ *ᶠ g *ᶠ c))
