-- The text of a log: a line for each output, each end of a connection and each reload.
-- This project's own format.
use Rattle.std.specs.Prelude.{ℕ, ◌++◌, List, [], ◌∷◌, codes, drop}
use Rattle.std.specs.Fmt.{decimal}
use Rattle.hex.specs.Hex.{encode_lower}
use Rattle.ads_outside.specs.declared.event.Event.{Event}
use Rattle.ads_outside.specs.declared.event.Event.TheVariants as event
use Rattle.ads_outside.specs.declared.moves.Move.{Move}
use Rattle.ads_outside.specs.declared.moves.Move.TheVariants as move
use Rattle.ads_outside.specs.declared.reload_note.ReloadNote.{ReloadNote}
use Rattle.ads_outside.specs.declared.reload_note.ReloadNote.TheVariants as note

-- `out`, the connection, and the bytes that it took, in lower case; no line where it took none
abbrev pub out_text : ℕ → List ℕ → List ℕ
out_text c [] = []
out_text c (b ∷ bytes) =
    codes "out " ++ decimal c ++ codes " " ++ encode_lower (b ∷ bytes) ++ 10 ∷ []

-- a word, and the connection
abbrev pub end_text : List ℕ → ℕ → List ℕ
end_text word c = word ++ decimal c ++ 10 ∷ []

-- the new version, or the rule that the description breaks
abbrev pub note_text : ReloadNote → List ℕ
note_text (note.Ok version) = codes "reload ok " ++ decimal version ++ 10 ∷ []
note_text (note.Refused rule) = codes "reload refused " ++ decimal rule ++ 10 ∷ []

-- of the next reload; no line where there is no note of it
abbrev pub next_note_text : List ReloadNote → List ℕ
next_note_text [] = []
next_note_text (n ∷ notes) = note_text n

abbrev pub event_text : List ReloadNote → Event → List ℕ
event_text notes (event.Opened c) = []
event_text notes (event.Piece c bytes) = []
event_text notes (event.Closed c) = []
event_text notes (event.Tick t) = []
event_text notes (event.Reload text) = next_note_text notes
event_text notes (event.Writable c) = []

abbrev pub move_text : List ReloadNote → Move → List ℕ
move_text notes (move.Event e) = event_text notes e
move_text notes (move.Took c offered bytes) = out_text c bytes
move_text notes (move.Lost c) = end_text (codes "lost ") c
move_text notes (move.Shut c) = end_text (codes "shut ") c

-- the notes of the reloads behind an event
abbrev pub notes_after_event : List ReloadNote → Event → List ReloadNote
notes_after_event notes (event.Opened c) = notes
notes_after_event notes (event.Piece c bytes) = notes
notes_after_event notes (event.Closed c) = notes
notes_after_event notes (event.Tick t) = notes
notes_after_event notes (event.Reload text) = drop 1 notes
notes_after_event notes (event.Writable c) = notes

-- the notes of the reloads behind a move
abbrev pub notes_after : List ReloadNote → Move → List ReloadNote
notes_after notes (move.Event e) = notes_after_event notes e
notes_after notes (move.Took c offered bytes) = notes
notes_after notes (move.Lost c) = notes
notes_after notes (move.Shut c) = notes

-- the lines of the moves, in order; the k-th reload has the line of the k-th note
unfoldable pub log_text_of : List ReloadNote → List Move → List ℕ
log_text_of notes [] = []
log_text_of notes (m ∷ ms) = move_text notes m ++ log_text_of (notes_after notes m) ms
