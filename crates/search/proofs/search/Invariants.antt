-- `search::search` meets its contract. Assumes nothing.
-- At every turn what is left of the search, from the list so far, leads to the list at the end.
use Rattle.search.proofs.PlaceLaws.{later, Place}
use Rattle.search.proofs.PlaceLaws.{turns_from}
use Rattle.search.proofs.search.Given as goal

abbrev pub invariant-loop-i : goal.invariant-loop-i
invariant-loop-i l =
    Place l.start l.target l.k l.m l.kind l.to (later l.start l.target l.k l.m l.kind l.to l.initial.n l.initial.d) l.d l.n l.family l.w l.stops l.s l.count l.i

abbrev pub decreases-loop-i : goal.decreases-loop-i
decreases-loop-i l =
    turns_from l.start l.target l.k l.m l.kind l.to l.n l.count l.i
