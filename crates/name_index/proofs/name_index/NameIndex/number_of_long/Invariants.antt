use Rattle.std.proofs.Common.{◌≡◌, map}
use Rattle.name_paths.specs.Identifier.{lower}
use Rattle.name_index.specs.Entries.{number_of}
use Rattle.name_index.proofs.EntryLemmas.{shown}
use Rattle.name_index.proofs.name_index.NameIndex.number_of_long.Given as goal

-- no entry before these has the name
abbrev pub invariant-loop-low : goal.invariant-loop-low
invariant-loop-low l = number_of (lower l.name) l.self.entries ≡ number_of (lower l.name) (map shown l.low-iterator)
