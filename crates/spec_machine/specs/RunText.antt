-- What a run prints: the text of its log, with what became of each reload, and its summary.
use Rattle.std.specs.Prelude.{ℕ, List, [], ◌∷◌, ◌++◌}
use Rattle.ads_outside.specs.declared.event.Event.{Event}
use Rattle.ads_outside.specs.declared.event.Event.TheVariants as event
use Rattle.ads_outside.specs.declared.moves.Move.{Move}
use Rattle.ads_outside.specs.declared.moves.Move.TheVariants as move
use Rattle.ads_outside.specs.declared.reload_note.ReloadNote.{ReloadNote}
use Rattle.ads_outside.specs.declared.reload_note.ReloadNote.TheVariants as note
use Rattle.spec_machine.specs.Device.{Device, DescriptionFault, BreaksRule, NoDocument, Reloading, Accepted, Refused}
use Rattle.spec_machine.specs.MachineState.{MachineState}
use Rattle.spec_machine.specs.Moves.{state_after_move, state_after}
use Rattle.spec_machine.specs.Events.{state_after_event}
use Rattle.spec_machine.specs.Summary.{summary_of}
use Rattle.spec_machine.specs.ScriptLine.{ScriptLine}
use Rattle.spec_machine.specs.Play.{play_of}
use Rattle.spec_machine.specs.LogText.{log_text_of}
use Rattle.spec_machine.specs.SummaryText.{summary_text_of}

-- the number of a fault: that of the rule, 0 where the text is no TOML document
abbrev pub fault_number : DescriptionFault → ℕ
fault_number (BreaksRule rule item) = rule
fault_number NoDocument = 0

-- what became of a reload: the new version, or the rule that the description breaks
abbrev pub note_of : {W : Type 0} → Reloading W → ReloadNote
note_of (Accepted version world) = note.Ok version
note_of (Refused fault) = note.Refused (fault_number fault)

abbrev pub notes_of_event : {W C : Type 0} → Device W C → MachineState W C → Event → List ReloadNote
notes_of_event device s (event.Reload bytes) = note_of (device.reload bytes s.world) ∷ []
notes_of_event device s e = []

abbrev pub notes_of_move : {W C : Type 0} → Device W C → MachineState W C → Move → List ReloadNote
notes_of_move device s (move.Event e) = notes_of_event device s e
notes_of_move device s m = []

-- of each reload of a log, in order
unfoldable pub notes_of : {W C : Type 0} → Device W C → MachineState W C → List Move
    → List ReloadNote
notes_of device s [] = []
notes_of device s (m ∷ ms) =
    notes_of_move device s m ++ notes_of device (state_after_move (state_after_event device) s m) ms

-- the text of a log, and the line of its summary
abbrev pub text_of_log : {W C : Type 0} → Device W C → MachineState W C → List Move → List ℕ
text_of_log device s log =
    log_text_of (notes_of device s log) log
    ++ summary_text_of (summary_of (state_after (state_after_event device) s log))

-- what the play of a script prints
abbrev pub text_of_play : {W C : Type 0} → Device W C → MachineState W C → List ScriptLine → List ℕ
text_of_play device s lines = text_of_log device s (play_of (state_after_event device) s lines)
