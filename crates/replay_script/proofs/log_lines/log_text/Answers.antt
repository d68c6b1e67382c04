-- One more move has its line.
use Rattle.std.proofs.Common.{◌++◌, ap, ◌∙◌}
use Rattle.replay_script.proofs.LogLemmas.{log_text_of-more, log_text_of-end}
use Rattle.replay_script.proofs.log_lines.log_text.Goals as goal

pub loop-entry-preserved : goal.loop-entry-preserved
loop-entry-preserved c =
    log_text_of-more
    c.loop-entry.lines c.put_move.new.out _ c.loop-entry.left.now c.notes_after-left.result.now c.as_slice-entry-items.result.now
    c.loop-entry.entry-index c.entry-item.result c.loop-entry.invariant c.loop-entry-test.true c.entry-item.is c.in_ok-put_move.ensures
    c.notes_after-left.ensures

pub returns-clause-ok : goal.returns-clause-ok
returns-clause-ok c =
    let lines = log_text_of-end c.loop-entry.lines _ c.loop-entry.left.now c.as_slice-entry-items.result.now c.loop-entry.entry-index
    c.loop-entry.invariant c.loop-entry-test.false in
    c.in_ok-put.ensures.ok ∙ ap (λ text. c.args.out.now ++ text) (c.as_slice.ensures ∙ lines)
