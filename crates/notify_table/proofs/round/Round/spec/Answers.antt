use Rattle.std.proofs.Common.{sym, subst}
use Rattle.notify_table.specs.Rounds.{HasNext}
use Rattle.notify_table.proofs.TableLemmas.{table_holds}
use Rattle.notify_table.proofs.RoundLemmas.{next_spec}
use Rattle.notify_table.proofs.round.Round.spec.Goals as goal

pub returns-clause-spec : goal.returns-clause-spec
returns-clause-spec c =
    rw (← c.self.view_is)
    (next_spec c.self.inside c.index.result.now c.self.invariant (subst HasNext (sym c.self.view_is) c.requires) c.index.ensures c.spec.result
    c.spec.ensures)

pub returns-clause-table : goal.returns-clause-table
returns-clause-table c = rw (← c.self.view_is) (table_holds _ c.self.inside.granted c.self.invariant.granted)
