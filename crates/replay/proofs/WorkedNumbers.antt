-- Worked examples that hold the definitions from both sides: each term of the sums and of the allowances, what the
-- replay makes of the acceleration, and where exactly the promise ends. They are document 01's formulas with numbers
-- put in. Assumes nothing.
use mathlib.Core.Path.{◌≡◌, refl}
use Prim.Native.Nat.{ℕ, zero, suc, ◌+◌, ◌-◌, ◌*◌, ◌/◌, ◌^◌, ◌<◌}
use native.Mathlib.Nat.{not-le_of_lt, le_of_suc-le-suc}
use mathlib.Core.Bool.{Bool, true, false}
use mathlib.Core.List.{List, [], ◌∷◌, ◌++◌, map}
use lib.IntN.{ℤ, pos, negsuc, neg_ℤ}
use lib.Dec.{eqb, lit<, lit≤}
use lib.Ieee.{Float, inf, fin, binary64, round, add, sub, neg, of_int, of_bits}
use Rattle.doubles.specs.Operators.{◌+ᶠ◌, ◌-ᶠ◌, -ᶠ◌}
use Rattle.doubles.specs.Constants.{0ᶠ, 1ᶠ}
use Rattle.doubles.specs.Exact.{scale, exact}
use Rattle.profile.specs.Tolerances.{p_precision, a_precision}
use Rattle.profile.specs.Boundary.{start_of, with_boundary, empty_profile}
use Rattle.profile.specs.With.{with_phases, with_rows, with_names}
use Rattle.profile.specs.declared.Profile.{Profile}
use Rattle.profile.specs.declared.ReachedLimits.TheVariants.{Vel, None}
use Rattle.profile_check.proofs.Accepted.{each_phase}
use Rattle.replay.specs.Replay.{U, at_start, phase, zeroed_if, replaced_if, replayed}
use Rattle.replay.specs.Allowance.{sum_to, underflow, T, Sa, Sv, Sp, position_allowance, velocity_allowance}
use Rattle.replay.specs.Allowance.{acceleration_allowance}
use Rattle.replay.specs.Promise.{EndsAt}
use Rattle.replay.proofs.ExampleProfiles.{zeros, of_numbers}
use Rattle.replay.specs.StoredLimits.{at1e50, past1e50}

-- whole numbers as doubles
abbrev n : ℕ → Float
n k = of_int binary64 (pos k)

abbrev -n : ℕ → Float
-n k = neg (n k)

-- ---- a profile no two of whose numbers have the same size. No check made it: the definitions are of any profile. The
-- times are multiples of 6, so that halves and sixths are whole
unfoldable pub telling : Profile
telling =
    of_numbers Vel (record { pf = 0ᶠ; vf = 0ᶠ; af = 0ᶠ })
    (n 6 ∷ n 12 ∷ n 18 ∷ n 30 ∷ n 42 ∷ n 66 ∷ n 78 ∷ [])
    (zeros 7)
    (n 2 ∷ -n 3 ∷ n 5 ∷ -n 7 ∷ n 11 ∷ -n 13 ∷ n 17 ∷ [])
    (n 19 ∷ -n 23 ∷ n 29 ∷ n 31 ∷ -n 37 ∷ n 41 ∷ n 43 ∷ -n 47 ∷ [])
    (n 53 ∷ -n 59 ∷ n 61 ∷ n 67 ∷ -n 71 ∷ n 73 ∷ n 79 ∷ -n 83 ∷ [])
    (-n 89 ∷ n 97 ∷ n 101 ∷ -n 103 ∷ n 107 ∷ n 109 ∷ n 113 ∷ -n 127 ∷ [])

-- ---- its sums over seven phases, row i with phase i; row 7 is in none
-- of t
abbrev total : ℕ
total = 6 + 12 + 18 + 30 + 42 + 66 + 78

-- of |a| + |j|t
abbrev sa : ℕ
sa = (19 + 2 * 6) + (23 + 3 * 12) + (29 + 5 * 18) + (31 + 7 * 30) + (37 + 11 * 42) + (41 + 13 * 66) + (43 + 17 * 78)

-- of |v| + |a|t + |j|t²/2
abbrev sv : ℕ
sv =
    (53 + 19 * 6 + 2 * 6 ^ 2 / 2)
    + (59 + 23 * 12 + 3 * 12 ^ 2 / 2)
    + (61 + 29 * 18 + 5 * 18 ^ 2 / 2)
    + (67 + 31 * 30 + 7 * 30 ^ 2 / 2)
    + (71 + 37 * 42 + 11 * 42 ^ 2 / 2)
    + (73 + 41 * 66 + 13 * 66 ^ 2 / 2)
    + (79 + 43 * 78 + 17 * 78 ^ 2 / 2)

-- of |p| + |v|t + |a|t²/2 + |j|t³/6
abbrev sp : ℕ
sp =
    (89 + 53 * 6 + 19 * 6 ^ 2 / 2 + 2 * 6 ^ 3 / 6)
    + (97 + 59 * 12 + 23 * 12 ^ 2 / 2 + 3 * 12 ^ 3 / 6)
    + (101 + 61 * 18 + 29 * 18 ^ 2 / 2 + 5 * 18 ^ 3 / 6)
    + (103 + 67 * 30 + 31 * 30 ^ 2 / 2 + 7 * 30 ^ 3 / 6)
    + (107 + 71 * 42 + 37 * 42 ^ 2 / 2 + 11 * 42 ^ 3 / 6)
    + (109 + 73 * 66 + 41 * 66 ^ 2 / 2 + 13 * 66 ^ 3 / 6)
    + (113 + 79 * 78 + 43 * 78 ^ 2 / 2 + 17 * 78 ^ 3 / 6)

-- on the scales of the definitions
sums_worked : (T telling ≡ U * total) × (Sa telling ≡ U * U * sa) × (Sv telling ≡ 2 * (U * U * U) * sv)
    × (Sp telling ≡ 6 * (U * U * U * U) * sp)
unfolding T Sa Sv Sp sum_to telling of_numbers with_phases with_rows with_names with_boundary empty_profile scale exact of_int
    round neg
sums_worked = (refl, refl, refl, refl)

-- ---- its allowances, times 6 × 2 ^ 4346 and here 2 ^ 800 besides, which makes 1 of 2 ^ -800 and 2 ^ 750 of 2 ^ -50
position_worked : 2 ^ 800 * position_allowance telling
    ≡ 6 * 2 ^ 4346 * (2 ^ 750 * (sp + total * sv + total ^ 2 * sa / 2) + 1)
unfolding position_allowance underflow T Sa Sv Sp sum_to telling of_numbers with_phases with_rows with_names with_boundary
    empty_profile scale exact of_int round neg
position_worked = refl

velocity_worked : 2 ^ 800 * velocity_allowance telling ≡ 6 * 2 ^ 4346 * (2 ^ 750 * (sv + total * sa) + 1)
unfolding velocity_allowance underflow T Sa Sv sum_to telling of_numbers with_phases with_rows with_names with_boundary
    empty_profile scale exact of_int round neg
velocity_worked = refl

acceleration_worked : 2 ^ 800 * acceleration_allowance telling ≡ 6 * 2 ^ 4346 * (2 ^ 750 * sa + 1)
unfolding acceleration_allowance underflow Sa sum_to telling of_numbers with_phases with_rows with_names with_boundary
    empty_profile scale exact of_int round neg
acceleration_worked = refl

-- ---- its accelerations in the replay, after each phase: z, times U²
abbrev accelerations : (j-max : Float) (stored : ℕ → Bool) → List ℤ
accelerations j-max stored =
    map (λ i. (replayed (start_of telling) j-max telling stored i).z) (1 ∷ 2 ∷ 3 ∷ 4 ∷ 5 ∷ 6 ∷ 7 ∷ [])

abbrev z : ℕ → ℤ
z k = pos (U * U * k)

abbrev -z : ℕ → ℤ
-z k = neg_ℤ (z k)

-- up to 1e50, where a limit is stored in every row: only row 3's zero is put in; so it is above, where none is stored.
-- Above, where one is stored in every row: after phase i row i + 1's, also in place of row 3's zero; and where one is
-- stored in row 3 alone
taken_worked : (accelerations at1e50 (λ i. true) ≡ z 31 ∷ -z 5 ∷ z 0 ∷ -z 210 ∷ z 252 ∷ -z 606 ∷ z 720 ∷ [])
    × (accelerations past1e50 (λ i. false) ≡ z 31 ∷ -z 5 ∷ z 0 ∷ -z 210 ∷ z 252 ∷ -z 606 ∷ z 720 ∷ [])
    × (accelerations past1e50 (λ i. true) ≡ -z 23 ∷ z 29 ∷ z 31 ∷ -z 37 ∷ z 41 ∷ z 43 ∷ -z 47 ∷ [])
    × (accelerations past1e50 (λ i. eqb i 3) ≡ z 31 ∷ -z 5 ∷ z 31 ∷ -z 179 ∷ z 283 ∷ -z 575 ∷ z 751 ∷ [])
unfolding replayed at_start phase zeroed_if replaced_if telling of_numbers with_phases with_rows with_names with_boundary
    empty_profile scale exact of_int of_bits round neg lib.Ieee.lt
taken_worked = (refl, refl, refl, refl)

-- ---- the border of the promise. With no time at all the replay ends where it started, and the rows' sums are those of
-- their sizes
-- 2 ^ -k
abbrev 2⁻ : ℕ → Float
2⁻ k = fin false 1 (negsuc (k - 1))

-- 1e-8 and 1e-10, each with what 2 ^ -50 of the rows' sizes is
abbrev far : Float
far = p_precision +ᶠ 2⁻ 76

abbrev far_a : Float
far_a = a_precision +ᶠ 2⁻ 83

-- a row 1 that makes the rows' sizes 2 ^ -26, 2 ^ -26 and 2 ^ -33 together
unfoldable pub resting : Profile
resting =
    let p = far ∷ (2⁻ 26 -ᶠ far) ∷ zeros 6 in
    let a = far_a ∷ (2⁻ 33 -ᶠ far_a) ∷ zeros 6 in
    of_numbers None (record { pf = 0ᶠ; vf = 0ᶠ; af = 0ᶠ }) (zeros 7) (zeros 7) (zeros 7) a p p

-- so 1e-8 + 2 ^ -76 + 2 ^ -800 is allowed, the same, and 1e-10 + 2 ^ -83 + 2 ^ -800: exactly what the end is from -(2 ^
-- -800)
abbrev edge : Float
edge = -ᶠ 2⁻ 800

-- the next double away from 0
abbrev over : Float
over = -ᶠ (2⁻ 800 +ᶠ 2⁻ 852)

abbrev Ends : Profile → (pf vf af : Float) → Type 0
Ends q pf vf af = EndsAt (start_of q) (record { pf = pf; vf = vf; af = af }) 1ᶠ q (λ i. false)

each_row : (P : ℕ → Type 0) → P 0 → P 1 → P 2 → P 3 → P 4 → P 5 → P 6 → P 7 → (i : ℕ) → i < 8 → P i
each_row P a b c d e f g h zero l = a
each_row P a b c d e f g h (suc i) l = each_phase (λ i. P (suc i)) b c d e f g h i (le_of_suc-le-suc l)

pub at_the_edge : Ends resting edge edge edge
unfolding position_allowance velocity_allowance acceleration_allowance underflow T Sa Sv Sp sum_to replayed at_start phase
    zeroed_if replaced_if resting of_numbers with_phases with_rows with_names with_boundary empty_profile scale exact of_int
    of_bits round add sub neg lib.Ieee.lt
at_the_edge =
    record {
      position = lit≤ tt;
      moving = record {
        velocity = lit≤ tt;
        acceleration = lit≤ tt;
        finite = record {
          t = each_phase _ tt tt tt tt tt tt tt;
          j = each_phase _ tt tt tt tt tt tt tt;
          a = each_row _ tt tt tt tt tt tt tt tt;
          v = each_row _ tt tt tt tt tt tt tt tt;
          vf = tt;
          af = tt;
        };
      };
      finite = record { p = each_row _ tt tt tt tt tt tt tt tt; pf = tt };
    }

pub position_over : Ends resting over edge edge → ⊥
unfolding position_allowance underflow T Sa Sv Sp sum_to replayed at_start phase zeroed_if replaced_if resting of_numbers
    with_phases with_rows with_names with_boundary empty_profile scale exact of_int of_bits round add sub neg lib.Ieee.lt
position_over e = not-le_of_lt (lit< tt) e.position

pub velocity_over : Ends resting edge over edge → ⊥
unfolding velocity_allowance underflow T Sa Sv sum_to replayed at_start phase zeroed_if replaced_if resting of_numbers
    with_phases with_rows with_names with_boundary empty_profile scale exact of_int of_bits round add sub neg lib.Ieee.lt
velocity_over e = not-le_of_lt (lit< tt) e.moving.velocity

pub acceleration_over : Ends resting edge edge over → ⊥
unfolding acceleration_allowance underflow Sa sum_to replayed at_start phase zeroed_if replaced_if resting of_numbers
    with_phases with_rows with_names with_boundary empty_profile scale exact of_int of_bits round add sub neg lib.Ieee.lt
acceleration_over e = not-le_of_lt (lit< tt) e.moving.acceleration

-- ---- all that is read is finite: an infinity in the last place of a list, or in the target, breaks the promise
abbrev ∞ : Float
∞ = inf false

-- zeros but for the last number of the times, jerks, accelerations, velocities or positions
abbrev lastly : (t j a v p : Float) → Profile
lastly t j a v p =
    of_numbers None (record { pf = 0ᶠ; vf = 0ᶠ; af = 0ᶠ }) (zeros 6 ++ (t ∷ [])) (zeros 7) (zeros 6 ++ (j ∷ []))
    (zeros 7 ++ (a ∷ [])) (zeros 7 ++ (v ∷ [])) (zeros 7 ++ (p ∷ []))

pub infinite_row : (Ends (lastly ∞ 0ᶠ 0ᶠ 0ᶠ 0ᶠ) 0ᶠ 0ᶠ 0ᶠ → ⊥)
    × (Ends (lastly 0ᶠ ∞ 0ᶠ 0ᶠ 0ᶠ) 0ᶠ 0ᶠ 0ᶠ → ⊥)
    × (Ends (lastly 0ᶠ 0ᶠ ∞ 0ᶠ 0ᶠ) 0ᶠ 0ᶠ 0ᶠ → ⊥)
    × (Ends (lastly 0ᶠ 0ᶠ 0ᶠ ∞ 0ᶠ) 0ᶠ 0ᶠ 0ᶠ → ⊥)
    × (Ends (lastly 0ᶠ 0ᶠ 0ᶠ 0ᶠ ∞) 0ᶠ 0ᶠ 0ᶠ → ⊥)
unfolding of_numbers with_phases with_rows with_names with_boundary empty_profile
infinite_row = (
  λ e. e.moving.finite.t 6 (lit< tt),
  λ e. e.moving.finite.j 6 (lit< tt),
  λ e. e.moving.finite.a 7 (lit< tt),
  λ e. e.moving.finite.v 7 (lit< tt),
  λ e. e.finite.p 7 (lit< tt),
)

pub infinite_target : (q : Profile) → (Ends q ∞ 0ᶠ 0ᶠ → ⊥) × (Ends q 0ᶠ ∞ 0ᶠ → ⊥) × (Ends q 0ᶠ 0ᶠ ∞ → ⊥)
infinite_target q = (λ e. e.finite.pf, λ e. e.moving.finite.vf, λ e. e.moving.finite.af)
