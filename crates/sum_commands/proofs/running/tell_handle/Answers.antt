use Rattle.std.proofs.Common.{◌+◌, ◌++◌, refl, ◌∙◌, ap, arith}
use Rattle.std.specs.Int.{w32, to_le_bytes}
use Rattle.sum_commands.specs.Parts.{code_in, written_over}
use Rattle.sum_commands.proofs.LaidLemmas.{written_over-twice}
use Rattle.sum_commands.proofs.running.tell_handle.Goals as goal

pub returns-clause-written : goal.returns-clause-written
returns-clause-written c =
    let at = c.args.at in
    let out = c.args.out.now in
    let code = to_le_bytes w32 c.addition_number_in.result in
    let handle = to_le_bytes w32 c.handle_in.result in
    c.write_at-2.ensures ∙ ap (written_over (at + 4) handle) c.write_at.ensures
    ∙ written_over-twice at (at + 4) code handle out refl (omega (arith, c.requires.room))
    ∙ ap (λ n. written_over at (to_le_bytes w32 n ++ handle) out) c.addition_number_in.ensures
    ∙ ap (λ n. written_over at (to_le_bytes w32 (code_in c.args.answer) ++ to_le_bytes w32 n) out) c.handle_in.ensures
