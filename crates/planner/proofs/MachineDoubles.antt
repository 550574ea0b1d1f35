-- What the machine holds as a Profile is of doubles, and so are the profiles of a plan. Assumes nothing.
use mathlib.Core.Path.{◌≡◌}
use mathlib.Core.List.{List}
use mir.Val.{Val}
use denote.Shadow.{shadow}
use denote.Enum.Enum.{form_of}
use denote.Enum.Declared.{shape}
use Rattle.std.proofs.Common.{Ok, Err}
use Rattle.std.specs.contracts.result.Result.{the_type as result_type}
use Rattle.refusals.specs.contracts.Refusal.{the_row as refusal_row}
use Rattle.refusals.specs.Numbers.{number_of}
use Rattle.refusals.proofs.NumberLaws.{refused}
use Rattle.block.specs.contracts.Block.{the_row as block_row}
use Rattle.block.specs.Blocks.{Answer, plan_in}
use Rattle.profile.specs.declared.Profile.{Profile}
use Rattle.profile.specs.contracts.Profile.{the_type, the_field}
use Rattle.profile.proofs.MachineLaws.{of_machine}
use Rattle.planner.proofs.AcceptedLaws.{OfDoubles}
use Rattle.planner.proofs.PlanLaws.{PlanOfDoubles}

pub of_doubles : (q : Profile) (vs : List Val) → shadow (the_field.row.own_val (the_type.to q) vs) → OfDoubles q
of_doubles q vs g =
    let m = of_machine q vs g in
    record {
      start = record { p = m.p.doubles 0; v = m.v.doubles 0; a = m.a.doubles 0 };
      times = λ i l. m.t.doubles i;
      jerks = λ i l. m.j.doubles i;
      pf = m.pf;
      vf = m.vf;
      af = m.af;
    }

pub plan_of_doubles : (r : Answer) (vs : List Val)
    → let answer = result_type block_row refusal_row in
    shadow ((form_of (shape answer)).payload (answer.to r) vs) → number_of r ≡ 0 → PlanOfDoubles (plan_in r)
plan_of_doubles (Err k) vs g e = refused k e
plan_of_doubles (Ok b) vs g e =
    let fields = g.1.1.0.1.1 in
    record {
      shortest = of_doubles _ _ fields.1.0;
      beside_a = of_doubles _ _ fields.1.1.0.1.1.1.0;
      beside_b = of_doubles _ _ fields.1.1.1.0.1.1.1.0;
    }
