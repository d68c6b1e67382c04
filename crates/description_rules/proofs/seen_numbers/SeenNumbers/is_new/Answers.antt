use Rattle.std.proofs.Common.{ap, ◌∙◌, sym, is_none, map, not, w64}
use Rattle.std.proofs.lemmas.Int.{to_z-of_z}
use Rattle.description_rules.specs.NextNumber.{is_no_number_of}
use Rattle.description_rules.proofs.TextLemmas.{is_none-option_copied, not-not}
use Rattle.description_rules.proofs.NumberSeenLemmas.{is_none-lookup_number}
use Rattle.description_rules.proofs.seen_numbers.SeenNumbers.is_new.Goals as goal

pub returns : goal.returns
returns c =
    not-not c.is_none.result ∙ ap not (sym c.is_none.ensures) ∙ is_none-option_copied c.get.result ∙ ap is_none c.get.ensures.value
    ∙ is_none-lookup_number _ c.self.inside.numbers.entries
    ∙ ap (is_no_number_of (map (λ e. e.0) c.self.inside.numbers.entries)) (to_z-of_z w64 c.args.n c.ranges.n)
    ∙ ap (λ numbers. is_no_number_of numbers c.args.n) c.self.view_is
