-- no entry before this one is of the symbol
use Rattle.std.proofs.Common.{◌≡◌, map, drop}
use Rattle.std.specs.Prelude.{find}
use Rattle.persist_store.specs.Entries.{entry_meant}
use Rattle.stored_values.specs.StoredBodies.{is_of}
use Rattle.stored_values.proofs.finding.first_of.Given as goal

abbrev pub invariant-loop-entry : goal.invariant-loop-entry
invariant-loop-entry l =
    find (is_of l.port l.name l.form l.size) (map entry_meant l.entries)
    ≡ find (is_of l.port l.name l.form l.size) (map entry_meant (drop l.entry-index l.entries))
