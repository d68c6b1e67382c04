use Rattle.std.proofs.Common.{◌+◌, ◌++◌, refl, ◌∙◌, ap, arith}
use Rattle.std.specs.Int.{w32, to_le_bytes}
use Rattle.sum_commands.specs.Parts.{written_over}
use Rattle.sum_commands.proofs.LaidLemmas.{written_over-twice}
use Rattle.sum_commands.proofs.running.tell.Goals as goal

pub returns : goal.returns
returns c =
    let at = c.args.at in
    let out = c.args.out.now in
    let code = to_le_bytes w32 c.number_in.result in
    let given = to_le_bytes w32 c.args.given in
    c.write_at-2.ensures ∙ ap (written_over (at + 4) given) c.write_at.ensures
    ∙ written_over-twice at (at + 4) code given out refl (omega (arith, c.requires.room))
    ∙ ap (λ n. written_over at (to_le_bytes w32 n ++ given) out) c.number_in.ensures
