-- What the machine holds as a Profile: each array has its length, and every number is a double. Assumes nothing.
use Prim.Native.Nat.{ℕ, zero, suc}
use mathlib.Core.Path.{◌≡◌, sym, subst, ◌∙◌}
use mathlib.Core.List.{List, [], ◌∷◌, map, map-id}
use lib.ListN.{length, get_or, length-map}
use lib.Dec.{T}
use lib.Ieee.{Float, Format, binary64, nan, fits}
use mir.Val.{Val}
use denote.Array.{each}
use denote.Shadow.{shadow}
use denote.Floats.{FloatOf, passes}
use Rattle.doubles.specs.Operators.{at}
use Rattle.profile.specs.declared.Profile.{Profile}
use Rattle.profile.specs.contracts.Profile.{the_type, the_field}

-- ---- an array of doubles
each_fits : (f : Format) (xs : List Float) (us : List Val) (i : ℕ) → shadow (each Float (FloatOf f).own_val xs us)
    → T (fits f (get_or xs i nan))
unfolding fits
each_fits f [] us i p = tt
each_fits f (x ∷ xs) [] i p = absurd p
each_fits f (x ∷ xs) (u ∷ us) zero p = passes _ p.0.1
each_fits f (x ∷ xs) (u ∷ us) (suc i) p = each_fits f xs us i p.1

-- the same where the relation stands at `map` of the identity
pub field_fits : (f : Format) (xs : List Float) (us : List Val) (i : ℕ)
    → shadow (each Float (FloatOf f).own_val (map (λ (v : Float). v) xs) us) → T (fits f (get_or xs i nan))
field_fits f xs us i p =
    each_fits f xs us i (subst (λ (ys : List Float). shadow (each Float (FloatOf f).own_val ys us)) (map-id xs) p)

pub field_length : (xs : List Float) (n : ℕ) → length (map (λ (v : Float). v) xs) ≡ n → length xs ≡ n
field_length xs n e = sym (length-map xs (λ (v : Float). v)) ∙ e

-- ---- a profile
abbrev Double : Float → Type 0
Double x = T (fits binary64 x)

-- an array of n doubles
pub record Doubles (n : ℕ) (l : List Float) : Type 0 where
  pub size : length l ≡ n
  pub doubles : (i : ℕ) → Double (at l i)

pub record MachineProfile (q : Profile) : Type 0 where
  pub t : Doubles 7 q.t
  pub sums : Doubles 7 q.t_sum
  pub j : Doubles 7 q.j
  pub a : Doubles 8 q.a
  pub v : Doubles 8 q.v
  pub p : Doubles 8 q.p
  pub brake : Double q.brake
  pub accel : Double q.accel
  pub pf : Double q.pf
  pub vf : Double q.vf
  pub af : Double q.af

-- the generated fact of a profile goes from field to field
pub of_machine : (q : Profile) (vs : List Val) → shadow (the_field.row.own_val (the_type.to q) vs) → MachineProfile q
of_machine q vs g =
    let from-t = g.1.1 in
    let from-j = from-t.1.1 in
    let from-v = from-j.1.1 in
    let from_brake = from-v.1.1 in
    let from-pf = from_brake.1.1 in
    record {
      t = record {
        size = from-t.0.1.0.1;
        doubles = λ i. each_fits binary64 q.t _ i
            from-t.0.1.1;
      };
      sums = record {
        size = from-t.1.0.1.0.1;
        doubles = λ i. each_fits binary64
            q.t_sum _ i from-t.1.0.1.1;
      };
      j = record {
        size = from-j.0.1.0.1;
        doubles = λ i. each_fits binary64 q.j _ i
            from-j.0.1.1;
      };
      a = record {
        size = from-j.1.0.1.0.1;
        doubles = λ i. each_fits binary64 q.a _ i
            from-j.1.0.1.1;
      };
      v = record {
        size = from-v.0.1.0.1;
        doubles = λ i. each_fits binary64 q.v _ i
            from-v.0.1.1;
      };
      p = record {
        size = from-v.1.0.1.0.1;
        doubles = λ i. each_fits binary64 q.p _ i
            from-v.1.0.1.1;
      };
      brake = passes _ from_brake.0.1;
      accel = passes _ from_brake.1.0.1;
      pf = passes _ from-pf.0.1;
      vf = passes _ from-pf.1.0.1;
      af = passes _ from-pf.1.1.0.1;
    }
