use Rattle.std.proofs.Common.{sym, ◌∙◌, ap}
use Rattle.spec_machine.specs.Meanings.{behind_stop}
use Rattle.session.proofs.MeaningLemmas.{is-named, is-no-name}
use Rattle.session.proofs.meaning.name_meant.Goals as goal

pub returns-then-not-takes_name : goal.returns-then-not-takes_name
returns-then-not-takes_name c = is-no-name c.args.group c.args.bytes.now (sym c.takes_name.ensures ∙ c.if-not-takes_name.true)

pub returns : goal.returns
returns c =
    c.behind_stop.ensures ∙ ap behind_stop c.up_to_nul.ensures
    ∙ is-named c.args.group c.args.bytes.now (sym c.takes_name.ensures ∙ c.if-not-takes_name.false)
