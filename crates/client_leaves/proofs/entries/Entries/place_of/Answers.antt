-- The index has the place of the type.
use Rattle.std.proofs.Common.{map}
use Rattle.client_leaves.specs.Entries.{entry_name}
use Rattle.client_leaves.proofs.TypeLemmas.{named_found}
use Rattle.client_leaves.proofs.entries.Entries.place_of.Goals as goal

pub returns-in-Named : goal.returns-in-Named
returns-in-Named c =
    let es = c.args.self.now.list.items in
    rw (c.in-Named.is, c.find.ensures (map entry_name es) c.requires.names) (named_found es c.in-Named.name.now)
