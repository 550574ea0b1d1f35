-- `arrival::scan::axis_at` meets its contract: of the chunks of four ends it reads that of the axis. Assumes nothing.
use Rattle.std.proofs.Common.{◌≡◌, ℕ, zero, suc, ◌+◌, ◌*◌, ◌/◌, ◌<◌, ◌∙◌, ap, arith, List, [], length, drop, get_or}
use Rattle.std.proofs.Common.{add-zero}
use Rattle.std.proofs.lemmas.List.{get_or-take, get_or-drop}
use Rattle.std.specs.Simd.{first_chunks}
use lib.Ieee.{Float, nan}
use Rattle.arrival.specs.Axes.{axis_of}
use Rattle.arrival.proofs.scan.axis_at.Goals as goal

-- end j of chunk i
end_of_chunk : (m i j : ℕ) (l : List Float) → i < m → j < 4
    → get_or (get_or (first_chunks 4 m l) i []) j nan ≡ get_or l (4 * i + j) nan
end_of_chunk zero i j l h b = absurd (omega arith)
end_of_chunk (suc m) zero j l h b =
    let place : j ≡ 4 * 0 + j = omega arith in
    get_or-take 4 l j nan b ∙ ap (λ (k : ℕ). get_or l k nan) place
end_of_chunk (suc m) (suc i) j l h b =
    let place : 4 + (4 * i + j) ≡ 4 * suc i + j = omega arith in
    end_of_chunk m i j (drop 4 l) (omega arith) b
    ∙ get_or-drop 4 l (4 * i + j) nan
    ∙ ap (λ (k : ℕ). get_or l k nan) place

pub returns : goal.returns
unfolding axis_of
returns c =
    let ends = c.args.ends.now in
    let m = length ends / 4 in
    let there : c.args.i < m = omega (arith, c.requires.ends_len, c.requires.i_in_bounds) in
    rw (
      c.as_chunks.ensures.front,
      end_of_chunk m c.args.i 0 ends there (omega arith),
      end_of_chunk m c.args.i 1 ends there (omega arith),
      end_of_chunk m c.args.i 2 ends there (omega arith),
      end_of_chunk m c.args.i 3 ends there (omega arith),
      add-zero,
    )
