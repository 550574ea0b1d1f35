-- `encoding::double_at` meets its contract. Assumes nothing.
use Rattle.std.proofs.Common.{◌≡◌, ◌<◌, ◌-◌, ◌/◌, ap, ◌∙◌, arith, take, drop, length, length-drop}
use Rattle.std.proofs.lemmas.List.{take_all}
use Rattle.std.specs.Float.Ieee.{of_bits}
use Rattle.std.specs.Float.{binary64}
use Rattle.encoding.proofs.Laws.{first_word}
use Rattle.encoding.proofs.double_at.Goals as goal

pub returns : goal.returns
returns c =
    let b = c.args.b.now in
    let at = c.args.at in
    let n = length-drop at b in
    let all : take (length b - at) (drop at b) ≡ drop at b = take_all _ _ (omega arith) in
    let some : 0 < length (drop at b) / 8 = omega arith in
    let number = rw (c.as_chunks.ensures.front, all) at c.from_be_bytes.ensures in
    c.f64_from_bits_with_nan.ensures ∙ ap (of_bits binary64) (number ∙ first_word (drop at b) _ some)
