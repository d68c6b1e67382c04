use Rattle.std.proofs.Common.{subst}
use Rattle.std.specs.Prelude.{IfSome, IfNone}
use Rattle.connections.specs.Entries.{IsEntry, IsNoEntry}
use Rattle.connections.specs.Outlets.{Outlets}
use Rattle.connections.proofs.EntryLemmas.{entry_found, entry_absent}
use Rattle.connections.proofs.outlets.Outlets.place_near.Goals as goal

pub returns-clause-found : goal.returns-clause-found
returns-clause-found c =
    let es = c.self.inside.entries.entries in
    subst (λ (fs : Outlets). IfSome c.get_index_of.result (IsEntry fs c.args.number)) c.self.view_is
    (entry_found c.get_index_of.result es c.args.number c.get_index_of.ensures.index)

pub returns-clause-absent : goal.returns-clause-absent
returns-clause-absent c =
    let es = c.self.inside.entries.entries in
    subst (λ (fs : Outlets). IfNone c.get_index_of.result (IsNoEntry fs c.args.number)) c.self.view_is
    (entry_absent c.get_index_of.result es c.args.number c.get_index_of.ensures.index)
