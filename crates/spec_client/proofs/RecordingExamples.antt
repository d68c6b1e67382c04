-- Recordings, step by step, by computation.
use Rattle.std.specs.Prelude.{◌≡◌, refl, ℕ, List, [], ◌∷◌, ◌++◌, codes, length}
use Rattle.std.specs.Fmt.{digits}
use Rattle.std.specs.Int.{w32, to_le_bytes}
use Rattle.hex.specs.Hex.{encode_with}
use Rattle.spec_formats.specs.Codes.{text_in}
use Rattle.spec_formats.specs.Reply.{reply_in, reply_of}
use Rattle.spec_formats.specs.Request.{DeleteDeviceNotification}
use Rattle.spec_formats.specs.SymbolEntry.{SymbolEntry, entry_bytes, is_entry, entry_of}
use Rattle.spec_formats.specs.ValueText.{form_of, signed_text, before_nul, quoted_byte, quoted, text_of}
use Rattle.spec_samples.specs.Row.{Row}
use Rattle.spec_samples.specs.Totals.{last_row, total_of}
use Rattle.spec_client.specs.Heard.{Heard, Answered, Sampled, Ended}
use Rattle.spec_client.specs.Calls.{Watching, SERVER_ON_CHANGE, Record, entry_request, addition_request}
use Rattle.spec_client.specs.Entries.{entries_in}
use Rattle.spec_client.specs.Printed.{line, escaped}
use Rattle.spec_client.specs.Stages.{CallEnd, Done, Refused, Output, ToSend, ToKeep, FinishedRecording, Progress, progress}
use Rattle.spec_client.specs.Recordings.{with_outputs, after_deletion}
use Rattle.spec_client.specs.Replies.{after_reply, after_answer}
use Rattle.spec_client.specs.Steps.{after_sample, after_end, after_heard, begun}
use Rattle.spec_client.specs.TotalLines.{total_lines}

-- all that is given while these are heard, and where it stands then
abbrev played : Progress → List Heard → Progress
played p [] = p
played p (h ∷ hs) = with_outputs p.outputs (played (after_heard p.stage h) hs)

abbrev A : List ℕ
A = codes "a"

abbrev B : List ℕ
B = codes "b"

-- an INT at an offset
abbrev entry : List ℕ → ℕ → SymbolEntry
entry name offset = record { group = 16448; offset = offset; size = 2; type_id = 2; flags = 8; name = name; type_name = codes "INT"; comment = [] }

abbrev a : SymbolEntry
a = entry A 0

abbrev b : SymbolEntry
b = entry B 2

-- answers: an entry, a handle, a deletion
abbrev entry_answer : SymbolEntry → Heard
entry_answer e = Answered 1 0 9 (to_le_bytes w32 0 ++ to_le_bytes w32 (length (entry_bytes e)) ++ entry_bytes e)

abbrev handle_answer : ℕ → Heard
handle_answer handle = Answered 1 0 6 (to_le_bytes w32 0 ++ to_le_bytes w32 handle)

abbrev deleted : Heard
deleted = Answered 1 0 7 (to_le_bytes w32 0)

abbrev unknown : Heard
unknown = Answered 1 0 9 (to_le_bytes w32 1808 ++ to_le_bytes w32 0)

abbrev sample : ℕ → ℕ → Heard
sample handle time = Sampled handle time (time ∷ 0 ∷ [])

abbrev watching : ℕ → Watching
watching count = record { mode = SERVER_ON_CHANGE; cycle = 0; count = count }

-- a recording of two names from row 5 on
abbrev recorded : ℕ → List Heard → Progress
recorded count heard = played (begun (Record (A ∷ B ∷ []) (watching count) 5)) heard

abbrev kept : ℕ → SymbolEntry → ℕ → Output
kept number e time = ToKeep (record { number = number; name = e.name; time = time; bytes = time ∷ 0 ∷ [] })

abbrev asks : List ℕ → Output
asks name = ToSend (entry_request name)

abbrev adds : SymbolEntry → Output
adds e = ToSend (addition_request e (watching 0))

abbrev deletes : ℕ → Output
deletes handle = ToSend (DeleteDeviceNotification handle)

abbrev both : CallEnd → List Output → Progress
both end outputs = progress (FinishedRecording end (a ∷ b ∷ [])) outputs

-- both names with their notifications 7 and 8
abbrev opened : List Heard → List Heard
opened heard = entry_answer a ∷ handle_answer 7 ∷ entry_answer b ∷ handle_answer 8 ∷ heard

abbrev openings : List Output → List Output
openings outputs = asks A ∷ adds a ∷ asks B ∷ adds b ∷ outputs

abbrev row : ℕ → SymbolEntry → ℕ → Row
row number e time = record { number = number; name = e.name; time = time; bytes = time ∷ 0 ∷ [] }

record RecordingRows : Type 0 where
  -- samples of others are passed over, and those behind the last one; the notifications are deleted in the order of the names
  whole : recorded 2 (opened (sample 8 1 ∷ sample 9 2 ∷ sample 7 3 ∷ sample 7 4 ∷ deleted ∷ deleted ∷ []))
      ≡ both Done (openings (kept 5 b 1 ∷ kept 6 a 3 ∷ deletes 7 ∷ deletes 8 ∷ []))
  -- a sample is kept while the next name is asked for, and not before its handle is known
  early : recorded 2 (entry_answer a ∷ sample 7 1 ∷ handle_answer 7 ∷ sample 7 2 ∷ entry_answer b ∷ sample 8 3 ∷ handle_answer 8
      ∷ sample 8 4 ∷ deleted ∷ deleted ∷ [])
      ≡ both Done (asks A ∷ adds a ∷ asks B ∷ kept 5 a 2 ∷ adds b ∷ kept 6 b 4 ∷ deletes 7 ∷ deletes 8 ∷ [])
  -- enough are kept before all names are asked for: all are added, and then deleted
  enough : recorded 1 (entry_answer a ∷ handle_answer 7 ∷ sample 7 1 ∷ entry_answer b ∷ handle_answer 8 ∷ deleted ∷ deleted ∷ [])
      ≡ both Done (asks A ∷ adds a ∷ asks B ∷ kept 5 a 1 ∷ adds b ∷ deletes 7 ∷ deletes 8 ∷ [])
  -- a notification that ended is not deleted, nor one that ends while another is
  ended : recorded 1 (opened (Ended 7 ∷ sample 8 1 ∷ deleted ∷ [])) ≡ both Done (openings (kept 5 b 1 ∷ deletes 8 ∷ []))
  meanwhile : recorded 1 (opened (sample 8 1 ∷ Ended 8 ∷ deleted ∷ [])) ≡ both Done (openings (kept 5 b 1 ∷ deletes 7 ∷ []))
  -- where all have ended there is nothing to wait for
  all_ended : recorded 2 (opened (sample 8 1 ∷ Ended 8 ∷ Ended 7 ∷ [])) ≡ both Done (openings (kept 5 b 1 ∷ []))
  -- one handle for both names is the notification of the first
  one_handle : recorded 1 (entry_answer a ∷ handle_answer 7 ∷ entry_answer b ∷ handle_answer 7 ∷ sample 7 1 ∷ deleted ∷ [])
      ≡ both Done (openings (kept 5 a 1 ∷ deletes 7 ∷ []))
  -- a name is not found: it ends with the entries that it took
  refused : recorded 1 (entry_answer a ∷ handle_answer 7 ∷ sample 7 1 ∷ unknown ∷ [])
      ≡ progress (FinishedRecording (Refused 1808) (a ∷ [])) (asks A ∷ adds a ∷ asks B ∷ kept 5 a 1 ∷ [])
  -- the totals of all rows, a line a name
  totals : total_lines (row 1 a 5 ∷ row 2 a 9 ∷ []) (a ∷ entry (0 ∷ 255 ∷ []) 2 ∷ [])
      ≡ line (codes "a count 2 last 9 9") ++ line (codes "\\x00\\xff count 0")

recording_rows : RecordingRows
unfolding digits encode_with text_in reply_in reply_of is_entry entry_of form_of signed_text before_nul quoted_byte quoted text_of last_row total_of
    entries_in escaped after_deletion after_reply after_answer after_sample after_end after_heard begun
recording_rows = record {
  whole = refl;
  early = refl;
  enough = refl;
  ended = refl;
  meanwhile = refl;
  all_ended = refl;
  one_handle = refl;
  refused = refl;
  totals = refl;
}
