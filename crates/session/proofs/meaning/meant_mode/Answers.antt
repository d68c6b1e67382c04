use Rattle.std.proofs.Common.{sym, ◌∙◌}
use Rattle.session.proofs.MeaningLemmas.{mode-strict, mode-wide}
use Rattle.session.proofs.meaning.meant_mode.Goals as goal

pub returns-then-not-is_wide : goal.returns-then-not-is_wide
returns-then-not-is_wide c = mode-strict c.args.port.now.manner c.args.mode (sym c.is_wide.ensures ∙ c.if-not-is_wide.true)

pub returns : goal.returns
returns c =
    mode-wide c.args.port.now.manner c.args.mode c.without_context.result (sym c.is_wide.ensures ∙ c.if-not-is_wide.false) c.without_context.ensures
