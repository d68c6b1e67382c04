-- The map's look-up.
use Rattle.std.proofs.Common.{◌∙◌, ap}
use Rattle.name_index.specs.Entries.{number_of}
use Rattle.name_index.specs.Numbered.{NameNumbers}
use Rattle.name_index.proofs.EntryLemmas.{number_of-shown}
use Rattle.name_index.proofs.name_index.NameIndex.number.Goals as goal

pub returns : goal.returns
returns c =
    c.copied.ensures ∙ c.get.ensures.value ∙ number_of-shown c.args.low.now c.self.inside.numbers.entries
    ∙ ap (λ (n : NameNumbers). number_of c.args.low.now n.entries) c.self.view_is
