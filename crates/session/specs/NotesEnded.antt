-- The samples of notifications that ended: of no byte. Private: no public clause cites this file.
use Rattle.std.specs.Prelude.{List, [], map}
use Rattle.spec_machine.specs.Watches.{AddressedSample}
use Rattle.notify_table.specs.declared.spec.Ended.{Ended}
use Rattle.notify_table.specs.Reloads.{EndedWatch, ended_meant}
use Rattle.session.specs.NoteGroups.{addressed}

abbrev pub end_sample : EndedWatch → AddressedSample
end_sample e = addressed e.port e.address e.handle []

abbrev pub samples_of_ended : List Ended → List AddressedSample
samples_of_ended ended = map (λ e. end_sample (ended_meant e)) ended
