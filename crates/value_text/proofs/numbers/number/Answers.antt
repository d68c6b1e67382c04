use Rattle.std.proofs.Common.{◌≡◌, length, sym, ap, ◌∙◌, arith}
use Rattle.std.specs.Int.{w64, from_le_bytes}
use Rattle.std.proofs.lemmas.List.{take_all}
use Rattle.spec_frames.proofs.NumberLemmas.{reads_numbers}
use Rattle.value_text.proofs.numbers.number.Goals as goal

pub returns-in_default-clause-number : goal.returns-in_default-clause-number
returns-in_default-clause-number c =
    let eight : length c.args.bytes.now ≡ 8 = grind arith in
    c.get64.ensures ∙ ap (from_le_bytes w64) (take_all 8 c.args.bytes.now (omega arith)) ∙ sym ((reads_numbers c.args.bytes.now).eight eight)
