-- Signed whole numbers for proofs by `omega`: a pair of naturals (plus, less) stands for plus - less. Definitions only.
-- Sums and multiples go part by part, so a statement about them is one about naturals. Two
-- pairs may stand for one number:
-- what is stated of them is `Near`, `Within`, `Below` and `AtMost`, which see the number alone.
use Rattle.std.specs.Prelude.{ℕ, ◌+◌, ◌-◌, ◌*◌, ◌≤◌, ◌<◌}

pub record Signed : Type 0 where
  pub plus : ℕ
  pub less : ℕ

infixl 6 ◌⊕◌
infixr 7 ◌⊙◌
infixl 7 ◌⊗◌
abbrev pub zeroˢ : Signed
zeroˢ = record { plus = 0; less = 0 }

abbrev pub ◌⊕◌ : Signed → Signed → Signed
◌⊕◌ x y = record { plus = x.plus + y.plus; less = x.less + y.less }

-- a natural number of times
abbrev pub ◌⊙◌ : ℕ → Signed → Signed
◌⊙◌ c x = record { plus = c * x.plus; less = c * x.less }

abbrev pub ◌⊗◌ : Signed → Signed → Signed
◌⊗◌ x y = record { plus = x.plus * y.plus + x.less * y.less; less = x.plus * y.less + x.less * y.plus }

-- the other sign
abbrev pub minus : Signed → Signed
minus x = record { plus = x.less; less = x.plus }

-- the number without its sign
abbrev pub size : Signed → ℕ
size x = (x.plus - x.less) + (x.less - x.plus)

-- x and y are at most e apart
pub record Near (x y : Signed) (e : ℕ) : Type 0 where
  pub low : x.plus + y.less ≤ y.plus + x.less + e
  pub high : x.less + y.plus ≤ y.less + x.plus + e

-- x is at most b in size
pub record Within (x : Signed) (b : ℕ) : Type 0 where
  pub low : x.plus ≤ x.less + b
  pub high : x.less ≤ x.plus + b

abbrev pub Below : Signed → Signed → Type 0
Below x y = x.plus + y.less < y.plus + x.less

abbrev pub AtMost : Signed → Signed → Type 0
AtMost x y = x.plus + y.less ≤ y.plus + x.less
