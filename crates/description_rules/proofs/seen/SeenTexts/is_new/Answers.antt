use Rattle.std.proofs.Common.{ap, ◌∙◌, sym, is_none, not}
use Rattle.std.specs.Prelude.{bytes_eq}
use Rattle.std.specs.List.{list_all}
use Rattle.description_rules.proofs.TextLemmas.{is_none-lookup, is_none-option_copied, not-not}
use Rattle.description_rules.proofs.seen.SeenTexts.is_new.Goals as goal

pub returns : goal.returns
returns c =
    not-not c.is_none.result ∙ ap not (sym c.is_none.ensures) ∙ is_none-option_copied c.get.result ∙ ap is_none c.get.ensures.value
    ∙ is_none-lookup c.args.text.now c.self.inside.texts.entries
    ∙ ap (list_all (λ e. not (bytes_eq e c.args.text.now))) c.self.view_is
