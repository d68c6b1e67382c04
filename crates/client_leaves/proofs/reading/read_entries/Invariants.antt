use Rattle.client_leaves.specs.Entries.{IsIndexed}
use Rattle.client_leaves.proofs.UploadLemmas.{TypesSoFar}
use Rattle.client_leaves.proofs.reading.read_entries.Given as goal

-- the types so far are read, and the others stand behind
abbrev pub invariant-types : goal.invariant-types
invariant-types l = record { indexed : IsIndexed l.entries; so_far : TypesSoFar l.fn.count l.i l.entries.list.items l.fn.upload l.rest }
