use Rattle.std.proofs.Common.{◌≡◌, ◌+◌, ◌-◌, ◌++◌, length, ◌∙◌, ap, arith, length-append}
use Rattle.std.specs.Int.{w32, to_le_bytes}
use Rattle.spec_formats.specs.Request.{ReadWrite}
use Rattle.sum_commands.specs.Parts.{written_over}
use Rattle.sum_commands.specs.Packing.{told_front}
use Rattle.sum_commands.proofs.running.run_read_write.Goals as goal

pub returns-clause-ok : goal.returns-clause-ok
returns-clause-ok g c = λ s stands.
    let r = ReadWrite c.args.group c.args.offset c.args.read_len c.args.bytes.now in
    let o = g.P.PartService.given s r in
    let gives = c.in_ok-answer.ensures.gives s stands in
    let out = c.read_write.new.out in
    let grown : length out ≡ length c.args.out.now + length o.bytes = ap length gives.bytes ∙ length-append c.args.out.now o.bytes in
    let gave = c.len.result - c.len-before.result in
    let len : gave ≡ length o.bytes = omega (arith, c.len.ensures, c.len-before.ensures, grown) in
    let at = c.args.at in
    record {
      state = c.in_ok-answer.ensures.leaves s stands;
      bytes = c.tell.ensures
          ∙ ap (λ n. written_over at (to_le_bytes w32 n ++ to_le_bytes w32 gave) out) gives.code
          ∙ ap (λ n. written_over at (to_le_bytes w32 o.code ++ to_le_bytes w32 n) out) len
          ∙ ap (written_over at (told_front o)) gives.bytes;
      asked = omega (arith, c.in_ok-answer.ensures.asked, grown);
    }
