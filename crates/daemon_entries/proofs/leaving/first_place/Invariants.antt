-- no entry before this one is fitted
use Rattle.std.proofs.Common.{◌≡◌, map, drop}
use Rattle.std.specs.List.{list_any}
use Rattle.persist_store.specs.Entries.{entry_meant}
use Rattle.daemon_entries.specs.LeftOut.{fits}
use Rattle.daemon_entries.proofs.leaving.first_place.Given as goal

abbrev pub invariant-loop-one : goal.invariant-loop-one
invariant-loop-one l =
    list_any (fits (entry_meant l.entry)) (map entry_meant l.kept)
    ≡ list_any (fits (entry_meant l.entry)) (map entry_meant (drop l.one-index l.kept))
