use Rattle.client_leaves.proofs.TableLemmas.{TypesRead}
use Rattle.client_leaves.proofs.reading.read_types.Given as goal

-- the types of the entries so far have their members
abbrev pub invariant-loop-entry : goal.invariant-loop-entry
invariant-loop-entry l = TypesRead l.entries.list.items l.entry-index l.types.items
