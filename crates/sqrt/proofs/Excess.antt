-- The excess m * 2 ^ 52 - r² + r reckoned modulo 2 ^ 64, and the verdict by it. Assumes nothing.
use Rattle.std.proofs.Common.{◌≡◌, ℕ, ◌+◌, ◌-◌, ◌*◌, ◌/◌, ◌%◌, ◌^◌, ◌<◌, ◌≤◌, ◌⊎◌, refl, sym, ap, ◌∙◌, inl, inr, le_trans}
use Rattle.std.proofs.Common.{mul-le-mul_right, mul-le-mul_left, lt_of_not-le, arith}
use native.Mathlib.Decide.{dec_le}
use Rattle.sqrt.specs.Verdicts.{verdict_of}
use Rattle.sqrt.specs.declared.certificate.Verdict.TheVariants.{Nearest, TooLow, TooHigh, Unknown}
use Rattle.sqrt.proofs.Verdicts.{is_nearest, is_too_low, is_too_high, is_above_all, is_below_all}

-- ---- the square of r, by the digits above and below 2 ^ 26

pub record Products (r : ℕ) : Type 0 where
  pub high : r / 2 ^ 26 * (r / 2 ^ 26) ≤ (2 ^ 27 - 1) * (2 ^ 27 - 1)
  pub cross : r / 2 ^ 26 * (r % 2 ^ 26) ≤ (2 ^ 27 - 1) * (2 ^ 26 - 1)
  pub low : r % 2 ^ 26 * (r % 2 ^ 26) ≤ (2 ^ 26 - 1) * (2 ^ 26 - 1)
  pub square : r * r
      ≡ r / 2 ^ 26 * (r / 2 ^ 26) * 2 ^ 52 + r / 2 ^ 26 * (r % 2 ^ 26) * 2 ^ 27 + r % 2 ^ 26 * (r % 2 ^ 26)

pub products : (r : ℕ) → r < 2 ^ 53 → Products r
products r h =
    let a : r / 2 ^ 26 ≤ 2 ^ 27 - 1 = omega arith in
    let b : r % 2 ^ 26 ≤ 2 ^ 26 - 1 = omega arith in
    let whole : r ≡ r / 2 ^ 26 * 2 ^ 26 + r % 2 ^ 26 = omega arith in
    record {
      high = product_le (r / 2 ^ 26) (r / 2 ^ 26) (2 ^ 27 - 1) (2 ^ 27 - 1) a a;
      cross = product_le (r / 2 ^ 26) (r % 2 ^ 26) (2 ^ 27 - 1) (2 ^ 26 - 1) a b;
      low = product_le (r % 2 ^ 26) (r % 2 ^ 26) (2 ^ 26 - 1) (2 ^ 26 - 1) b b;
      square = ap (λ (x : ℕ). x * x) whole ∙ expand (r / 2 ^ 26) (r % 2 ^ 26);
    }
  where
    product_le : (a b x y : ℕ) → a ≤ x → b ≤ y → a * b ≤ x * y
    product_le a b x y h k = le_trans (mul-le-mul_left a k) (mul-le-mul_right y h)

    expand : (h l : ℕ) → (h * 2 ^ 26 + l) * (h * 2 ^ 26 + l) ≡ h * h * 2 ^ 52 + h * l * 2 ^ 27 + l * l
    expand h l = omega arith

-- ---- numbers that are equal modulo 2 ^ 64

plus : (a b c : ℕ) → a % 2 ^ 64 ≡ b % 2 ^ 64 → (a + c) % 2 ^ 64 ≡ (b + c) % 2 ^ 64
plus a b c e = omega arith

times : (a b : ℕ) → a % 2 ^ 64 ≡ b % 2 ^ 64 → a * 2 ^ 52 % 2 ^ 64 ≡ b * 2 ^ 52 % 2 ^ 64
times a b e = omega arith

wrapped : (a b : ℕ) → a % 2 ^ 64 ≡ b → a % 2 ^ 64 ≡ b % 2 ^ 64
wrapped a b e = omega arith

rearranged : (a b : ℕ) → a ≡ b → a % 2 ^ 64 ≡ b % 2 ^ 64
rearranged a b e = ap (λ (x : ℕ). x % 2 ^ 64) e

-- ---- from the wrapped differences to the excess z. H, X and L are the three products, S the
-- square, and U is X / 2 ^ 25

module _ (H U top rest m e : ℕ) (top-wraps : (top + H) % 2 ^ 64 ≡ m) (rest-wraps : (rest + U) % 2 ^ 64 ≡ top)
    (e-wraps : e ≡ (rest + 8) % 2 ^ 64) where
  -- e is 8 more than m less the square's upper part
  tops : (e + (H + U)) % 2 ^ 64 ≡ (m + 8) % 2 ^ 64
  tops =
      sym (plus (rest + 8) e (H + U) (wrapped (rest + 8) e (sym e-wraps)))
      ∙ rearranged (rest + 8 + (H + U)) (rest + U + (H + 8)) (omega arith)
      ∙ plus (rest + U) top (H + 8) (wrapped (rest + U) top rest-wraps)
      ∙ rearranged (top + (H + 8)) (top + H + 8) (omega arith)
      ∙ plus (top + H) m 8 (wrapped (top + H) m top-wraps)

module _ (H X L top less v r z m : ℕ) (top-wraps : (top + H) % 2 ^ 64 ≡ m)
    (less-wraps : (less + X * 2 ^ 27 % 2 ^ 64) % 2 ^ 64 ≡ top * 2 ^ 52 % 2 ^ 64) (v-wraps : (v + L) % 2 ^ 64 ≡ less)
    (z-wraps : z ≡ (v + r) % 2 ^ 64) where
  residue : (z + (H * 2 ^ 52 + X * 2 ^ 27 + L)) % 2 ^ 64 ≡ (m * 2 ^ 52 + r) % 2 ^ 64
  residue =
      sym (plus (v + r) z (H * 2 ^ 52 + X * 2 ^ 27 + L) (wrapped (v + r) z (sym z-wraps)))
      ∙ rearranged (v + r + (H * 2 ^ 52 + X * 2 ^ 27 + L)) (v + L + (r + H * 2 ^ 52 + X * 2 ^ 27)) (omega arith)
      ∙ plus (v + L) less (r + H * 2 ^ 52 + X * 2 ^ 27) (wrapped (v + L) less v-wraps)
      ∙ rearranged (less + (r + H * 2 ^ 52 + X * 2 ^ 27)) (less + X * 2 ^ 27 + (r + H * 2 ^ 52)) (omega arith)
      ∙ plus (less + X * 2 ^ 27) (top * 2 ^ 52) (r + H * 2 ^ 52) (shifted less (X * 2 ^ 27) ∙ less-wraps)
      ∙ rearranged (top * 2 ^ 52 + (r + H * 2 ^ 52)) ((top + H) * 2 ^ 52 + r) (omega arith)
      ∙ plus ((top + H) * 2 ^ 52) (m * 2 ^ 52) r (times (top + H) m (wrapped (top + H) m top-wraps))
    where
      shifted : (a b : ℕ) → (a + b) % 2 ^ 64 ≡ (a + b % 2 ^ 64) % 2 ^ 64
      shifted a b = omega arith

-- ---- the verdict

-- z is a - r² + r, or that and 2 ^ 64
abbrev pub Excess : ℕ → ℕ → ℕ → Type 0
Excess a r z = ((z + r * r ≡ a + r) × (z < 2 ^ 57)) ⊎ ((z + r * r ≡ a + r + 2 ^ 64) × (2 ^ 63 < z))

module _ (a r z : ℕ) (r-most : r < 2 ^ 53) (x : Excess a r z) where
  pub zero_high : z ≡ 0 → 1 < r → TooHigh ≡ verdict_of a r
  zero_high h g = elim x [
    | inl e ↦ is_too_high a r (omega (arith, e.0)) (omega (arith, e.0))
    | inr e ↦ absurd (let y : ⊥ = omega (arith, e.1) in y)
  ]

  pub zero_none : z ≡ 0 → r ≤ 1 → Unknown ≡ verdict_of a r
  zero_none h g = elim x [
    | inl e ↦ is_below_all a r (omega (arith, e.0)) (omega (arith, e.0))
    | inr e ↦ absurd (let y : ⊥ = omega (arith, e.1) in y)
  ]

  pub small : 0 < z → z ≤ 2 * r → Nearest ≡ verdict_of a r
  small h g = elim x [
    | inl e ↦ is_nearest a r (omega (arith, e.0)) (omega (arith, e.0))
    | inr e ↦ absurd (let y : ⊥ = omega (arith, e.1) in y)
  ]

  pub larger : 2 * r < z → z ≤ 4 * r + 2 → TooLow ≡ verdict_of a r
  larger h g = elim x [
    | inl e ↦ is_too_low a r (omega (arith, e.0)) (omega (arith, e.0))
    | inr e ↦ absurd (let y : ⊥ = omega (arith, e.1) in y)
  ]

  -- y is -z
  module _ (y : ℕ) (most : z < 2 ^ 64) (some : 4 * r + 2 < z) (wraps : (y + z) % 2 ^ 64 ≡ 0) (y-most : y < 2 ^ 64) where
    minus : y + z ≡ 2 ^ 64
    minus = omega arith

    pub negative_high : y + 2 < 2 * r → TooHigh ≡ verdict_of a r
    negative_high g = elim x [
      | inl e ↦ absurd (let n = minus in let w : ⊥ = omega (arith, e.1) in w)
      | inr e ↦ let n = minus in is_too_high a r (omega (arith, e.0)) (omega (arith, e.0))
    ]

    pub none : 2 * r ≤ y + 2 → Unknown ≡ verdict_of a r
    none g = elim x [
      | inl e ↦ is_above_all a r (omega (arith, e.0))
      | inr e ↦ let n = minus in is_below_all a r (omega (arith, e.0)) (omega (arith, e.0))
    ]

-- ---- the verdict by the steps of the code

same_residue : (z S A : ℕ) → z < 2 ^ 64 → (z + S) % 2 ^ 64 ≡ A % 2 ^ 64 → S ≤ A → A < S + 2 ^ 57
    → (z + S ≡ A) × (z < 2 ^ 57)
same_residue z S A l e h g = let y : z + S ≡ A = omega arith in (y, omega arith)

wrapped_residue : (z S A : ℕ) → z < 2 ^ 64 → (z + S) % 2 ^ 64 ≡ A % 2 ^ 64 → A < S → S < A + 2 ^ 57
    → (z + S ≡ A + 2 ^ 64) × (2 ^ 63 < z)
wrapped_residue z S A l e h g = let y : z + S ≡ A + 2 ^ 64 = omega arith in (y, omega arith)

eight_more : (m : ℕ) → m < 2 ^ 54 → (m + 8) % 2 ^ 64 ≡ m + 8
eight_more m h = omega arith

pub residue_lt : (e x : ℕ) → e ≡ x % 2 ^ 64 → e < 2 ^ 64
residue_lt e x h = omega arith

module _ (m r top rest e : ℕ) (m-most : m < 2 ^ 54) (r-most : r < 2 ^ 53)
    (top-wraps : (top + r / 2 ^ 26 * (r / 2 ^ 26)) % 2 ^ 64 ≡ m)
    (rest-wraps : (rest + r / 2 ^ 26 * (r % 2 ^ 26) / 2 ^ 25) % 2 ^ 64 ≡ top)
    (e-wraps : e ≡ (rest + 8) % 2 ^ 64) where
  p : Products r
  p = products r r-most

  together : (e + (r / 2 ^ 26 * (r / 2 ^ 26) + r / 2 ^ 26 * (r % 2 ^ 26) / 2 ^ 25)) % 2 ^ 64 ≡ m + 8
  together = tops (r / 2 ^ 26 * (r / 2 ^ 26))
      (r / 2 ^ 26 * (r % 2 ^ 26) / 2 ^ 25) top rest m e top-wraps rest-wraps e-wraps ∙ eight_more m m-most

  -- over the products H, X and L and the square S
  apart : (H X L S : ℕ) → H ≤ (2 ^ 27 - 1) * (2 ^ 27 - 1) → X ≤ (2 ^ 27 - 1) * (2 ^ 26 - 1)
      → L ≤ (2 ^ 26 - 1) * (2 ^ 26 - 1) → S ≡ H * 2 ^ 52 + X * 2 ^ 27 + L → (e + (H + X / 2 ^ 25)) % 2 ^ 64 ≡ m + 8
      → e < 2 ^ 64 → 16 ≤ e
      → (m * 2 ^ 52 + 3 * r < S) ⊎ (S + 3 * r + 2 < m * 2 ^ 52)
  apart H X L S h x l s t b g = elim (dec_le (2 ^ 64) (e + (H + X / 2 ^ 25))) [
    | yes k ↦ inl (let y : m * 2 ^ 52 + 3 * r < S = omega arith in y)
    | no k ↦ let n = lt_of_not-le k in inr (let y : S + 3 * r + 2 < m * 2 ^ 52 = omega arith in y)
  ]

  pub far : 16 ≤ e → Unknown ≡ verdict_of (m * 2 ^ 52) r
  far h = elim (apart (r / 2 ^ 26 * (r / 2 ^ 26)) (r / 2 ^ 26 * (r % 2 ^ 26)) (r % 2 ^ 26 * (r % 2 ^ 26)) (r * r)
      p.high p.cross p.low p.square together (residue_lt e (rest + 8) e-wraps) h) [
        | inl l ↦ below_all (m * 2 ^ 52) l
        | inr l ↦ is_above_all (m * 2 ^ 52) r l
      ]
    where
      below_all : (a : ℕ) → a + 3 * r < r * r → Unknown ≡ verdict_of a r
      below_all a l = is_below_all a r (omega arith) (omega arith)

  close : (H X L S : ℕ) → H ≤ (2 ^ 27 - 1) * (2 ^ 27 - 1) → X ≤ (2 ^ 27 - 1) * (2 ^ 26 - 1)
      → L ≤ (2 ^ 26 - 1) * (2 ^ 26 - 1) → S ≡ H * 2 ^ 52 + X * 2 ^ 27 + L → (e + (H + X / 2 ^ 25)) % 2 ^ 64 ≡ m + 8
      → e < 16
      → (m * 2 ^ 52 + r < S + 2 ^ 57) × (S < m * 2 ^ 52 + r + 2 ^ 57)
  close H X L S h x l s t g = let y : e + (H + X / 2 ^ 25) ≡ m + 8 = omega arith in omega arith

  module _ (near : e < 16) (less v z : ℕ)
      (less-wraps : (less + r / 2 ^ 26 * (r % 2 ^ 26) * 2 ^ 27 % 2 ^ 64) % 2 ^ 64 ≡ top * 2 ^ 52 % 2 ^ 64)
      (v-wraps : (v + r % 2 ^ 26 * (r % 2 ^ 26)) % 2 ^ 64 ≡ less) (z-wraps : z ≡ (v + r) % 2 ^ 64) where
    pub excess : Excess (m * 2 ^ 52) r z
    excess =
        let c = close (r / 2 ^ 26 * (r / 2 ^ 26)) (r / 2 ^ 26 * (r % 2 ^ 26)) (r % 2 ^ 26 * (r % 2 ^ 26)) (r * r)
        p.high p.cross p.low p.square together near in
        let same : (z + r * r) % 2 ^ 64 ≡ (m * 2 ^ 52 + r) % 2 ^ 64 =
        ap (λ (x : ℕ). (z + x) % 2 ^ 64) p.square
        ∙ residue (r / 2 ^ 26 * (r / 2 ^ 26)) (r / 2 ^ 26 * (r % 2 ^ 26))
        (r % 2 ^ 26 * (r % 2 ^ 26)) top less v r z m top-wraps less-wraps v-wraps z-wraps in
        let most : z < 2 ^ 64 = residue_lt z (v + r) z-wraps in
        elim (dec_le (r * r) (m * 2 ^ 52 + r)) [
          | yes h ↦ inl (same_residue z (r * r) (m * 2 ^ 52 + r) most same h c.0)
          | no h ↦ inr (wrapped_residue z (r * r) (m * 2 ^ 52 + r) most same (lt_of_not-le h) c.1)
        ]

-- ---- the differences as the code has them

-- what is taken away, added again
back : (x y : ℕ) → x < 2 ^ 64 → y < 2 ^ 64 → ((x + (2 ^ 64 - y)) % 2 ^ 64 + y) % 2 ^ 64 ≡ x
back x y h g = omega arith

module _ (m r : ℕ) where
  abbrev top : ℕ
  top = (m + (2 ^ 64 - r / 2 ^ 26 * (r / 2 ^ 26))) % 2 ^ 64

  abbrev pub distance : ℕ
  distance = ((top + (2 ^ 64 - r / 2 ^ 26 * (r % 2 ^ 26) / 2 ^ 25)) % 2 ^ 64 + 8) % 2 ^ 64

  abbrev less : ℕ
  less = (top * 2 ^ 52 % 2 ^ 64 + (2 ^ 64 - r / 2 ^ 26 * (r % 2 ^ 26) * 2 ^ 27 % 2 ^ 64)) % 2 ^ 64

  abbrev pub excess_of : ℕ
  excess_of = ((less + (2 ^ 64 - r % 2 ^ 26 * (r % 2 ^ 26))) % 2 ^ 64 + r) % 2 ^ 64

  module _ (m-most : m < 2 ^ 54) (r-most : r < 2 ^ 53) where
    top-wraps : (top + r / 2 ^ 26 * (r / 2 ^ 26)) % 2 ^ 64 ≡ m
    top-wraps = let h = (products r r-most).high in back m (r / 2 ^ 26 * (r / 2 ^ 26)) (omega arith) (omega arith)

    rest-wraps : ((top + (2 ^ 64 - r / 2 ^ 26 * (r % 2 ^ 26) / 2 ^ 25)) % 2 ^ 64 + r / 2 ^ 26 * (r % 2 ^ 26) / 2 ^ 25)
        % 2 ^ 64 ≡ top
    rest-wraps =
        let h = (products r r-most).cross in
        back top (r / 2 ^ 26 * (r % 2 ^ 26) / 2 ^ 25) (residue_lt top _ refl) (omega arith)

    less-wraps : (less + r / 2 ^ 26 * (r % 2 ^ 26) * 2 ^ 27 % 2 ^ 64) % 2 ^ 64 ≡ top * 2 ^ 52 % 2 ^ 64
    less-wraps =
        back (top * 2 ^ 52 % 2 ^ 64) (r / 2 ^ 26 * (r % 2 ^ 26) * 2 ^ 27 % 2 ^ 64)
        (residue_lt _ (top * 2 ^ 52) refl) (residue_lt _ (r / 2 ^ 26 * (r % 2 ^ 26) * 2 ^ 27) refl)

    low-wraps : ((less + (2 ^ 64 - r % 2 ^ 26 * (r % 2 ^ 26))) % 2 ^ 64 + r % 2 ^ 26 * (r % 2 ^ 26)) % 2 ^ 64 ≡ less
    low-wraps =
        let h = (products r r-most).low in
        back less (r % 2 ^ 26 * (r % 2 ^ 26)) (residue_lt less _ refl) (omega arith)

    pub far_is : 16 ≤ distance → Unknown ≡ verdict_of (m * 2 ^ 52) r
    far_is = far m r top _ distance m-most r-most top-wraps rest-wraps refl

    pub excess_is : distance < 16 → Excess (m * 2 ^ 52) r excess_of
    excess_is near =
        excess m r top _ distance m-most r-most top-wraps rest-wraps refl near less _ excess_of less-wraps low-wraps refl
