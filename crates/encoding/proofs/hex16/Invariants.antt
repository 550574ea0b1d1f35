-- `encoding::hex16` meets its contract: the last i digits are found. Assumes nothing.
use Rattle.std.proofs.Common.{◌≡◌, ◌-◌, ◌/◌, ◌^◌, length, drop}
use Rattle.encoding.specs.Encoding.{hex_digits}
use Rattle.encoding.proofs.hex16.Given as goal

abbrev pub invariant-loop-i : goal.invariant-loop-i
invariant-loop-i l = record {
  whole : length l.digits ≡ 16;
  left : l.rest ≡ l.w / 16 ^ l.i;
  last : drop (16 - l.i) l.digits ≡ hex_digits l.i l.w;
}
