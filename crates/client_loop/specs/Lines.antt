-- What the lines of a recording leave, behind its conversation. No public clause cites this file.
use Rattle.std.specs.Prelude.{◌≡◌, ◌⊎◌, ℕ, List, ◌++◌, codes, Bool, true, false, Option, Some, None, Result, Ok, Err}
use Rattle.ads_base.specs.declared.no_memory.NoMemory.{NoMemory}
use Rattle.ads_outside.specs.declared.link_move.LinkMove.{LinkMove}
use Rattle.ads_outside.specs.LinkState.{LinkState}
use Rattle.ads_outside.specs.Puts.{Appends, AppendsPart}
use Rattle.ads_outside.specs.Rose.{Rose}
use Rattle.spec_formats.specs.SymbolEntry.{SymbolEntry}
use Rattle.spec_samples.specs.Row.{Row}
use Rattle.spec_client.specs.Conversation as conversation
use Rattle.spec_client.specs.Conversation.{Conversation}
use Rattle.spec_client.specs.Runner.{CallStep}
use Rattle.spec_client.specs.Stages.{Done, entries_taken}
use Rattle.spec_samples.specs.Totals.{Total, total_of}
use Rattle.sample_store.specs.Keeper.{KeeperState}
use Rattle.spec_client.specs.Printed.{line, escaped}
use Rattle.spec_client.specs.TotalLines.{total_text, total_lines}
use Rattle.client_replies.specs.Stages.{end_meant}
use Rattle.client_replies.specs.declared.stage.CallEnd.TheVariants as call_end
use Rattle.client_calls.specs.Kept.{RunnerKept}
use Rattle.client_loop.specs.declared.loop_end.LoopEnd.TheVariants as end
use Rattle.client_loop.specs.declared.record_end.RecordEnd.{RecordEnd}
use Rattle.client_loop.specs.declared.record_end.RecordEnd.TheVariants as record_end
use Rattle.client_loop.specs.declared.turning.Turned.{Turned}
use Rattle.client_loop.specs.Due.{AtSend, AtPrint, Anywhere}
use Rattle.client_loop.specs.Hearing.{IsWhole, IsPart, none_of}
use Rattle.client_loop.specs.Outlets.{Outlets}

-- the lines of these entries, where rows are told
abbrev pub AreLines : Option (List Row) → List SymbolEntry → List ℕ → Type 0
AreLines told entries lines = (rows : List Row) → told ≡ Some rows → lines ≡ total_lines rows entries

-- the line of a name and a type id, behind what stands there
abbrev pub line_with : List ℕ → ℕ → Option Total → List ℕ
line_with name type_id total = line (escaped name ++ codes " count " ++ total_text type_id total)

-- one line more, where rows are told; or the keeper failed
abbrev pub AfterLine : Result Bool NoMemory → List ℕ → ℕ → List ℕ → List ℕ → KeeperState → KeeperState → Type 0
AfterLine (Ok true) name type_id text new_text old new =
    (rows : List Row) → old.rows ≡ Some rows → new_text ≡ text ++ line_with name type_id (total_of name rows)
AfterLine (Ok false) name type_id text new_text old new = Rose old.faults new.faults
AfterLine (Err e) name type_id text new_text old new = Unit {0}

-- all lines, or the keeper failed
abbrev pub AfterTotals : Result (Option (List ℕ)) NoMemory → List SymbolEntry → KeeperState → KeeperState → Type 0
AfterTotals (Ok (Some text)) entries old new = AreLines old.rows entries text
AfterTotals (Ok None) entries old new = Rose old.faults new.faults
AfterTotals (Err e) entries old new = Unit {0}

-- no row was put, and the lines were
pub record PutsLines (IsPut : Option (List ℕ) → Option (List ℕ) → List ℕ → Type 0) (entries : List SymbolEntry) (out new_out : Outlets) : Type 0 where
  pub same : new_out.keeper.rows ≡ out.keeper.rows
  pub lines : List ℕ
  pub are_lines : AreLines out.keeper.rows entries lines
  pub put : IsPut out.sink.held new_out.sink.held lines

abbrev pub AfterLines : Result RecordEnd NoMemory → List SymbolEntry → Outlets → Outlets → Type 0
AfterLines (Ok (record_end.Loop (end.Call call_end.Done))) entries out new_out = PutsLines Appends entries out new_out
AfterLines (Ok (record_end.Loop end.WriteFault)) entries out new_out =
    Rose out.sink.faults new_out.sink.faults × PutsLines AppendsPart entries out new_out
AfterLines (Ok record_end.KeeperFault) entries out new_out =
    Rose out.keeper.faults new_out.keeper.faults × (new_out.sink ≡ out.sink) × (new_out.keeper.rows ≡ out.keeper.rows)
AfterLines (Ok other) entries out new_out = ⊥
AfterLines (Err e) entries out new_out = PutsLines AppendsPart entries out new_out

-- how a recording ends whose lines were put, or not
abbrev pub ended_by : Result (Option Turned) NoMemory → Result RecordEnd NoMemory
ended_by (Ok None) = Ok (record_end.Loop (end.Call call_end.Done))
ended_by (Ok (Some turned)) = Ok (record_end.Loop end.WriteFault)
ended_by (Err e) = Err e

-- a conversation that is done, and its lines
pub record EndsWithLines {O : Type 0} (IsPut : Option (List ℕ) → Option (List ℕ) → List ℕ → Type 0) (c : Conversation)
    (old_tells new_tells : O → List LinkMove → Type 0) (link new_link : LinkState) (out new_out : Outlets) : Type 0 where
  pub kept : RunnerKept
  pub mid : Outlets
  pub whole : IsWhole (none_of c) c kept (Some (conversation.CallEnded Done)) old_tells new_tells link new_link out mid
  pub lines : PutsLines IsPut (entries_taken kept.stage) mid new_out

-- a conversation all of whose text and rows stand there
abbrev pub EndsWhole : {O : Type 0} → Conversation → Option conversation.LoopEnd → (O → List LinkMove → Type 0)
    → (O → List LinkMove → Type 0) → LinkState → LinkState → Outlets → Outlets → Type 0
EndsWhole c ended old_tells new_tells link new_link out new_out =
    (kept : RunnerKept) × IsWhole (none_of c) c kept ended old_tells new_tells link new_link out new_out

abbrev pub EndsInPart : {O : Type 0} → (List CallStep → Type 0) → List CallStep → Conversation → (O → List LinkMove → Type 0)
    → (O → List LinkMove → Type 0) → LinkState → LinkState → Outlets → Outlets → Type 0
EndsInPart IsStop steps c old_tells new_tells link new_link out new_out =
    IsPart IsStop (none_of c) steps c old_tells new_tells link new_link out new_out

-- a recording that only begins, with these steps, by how it ended
abbrev pub EndsRecord : {O : Type 0} → Result RecordEnd NoMemory → List CallStep → Conversation → (O → List LinkMove → Type 0)
    → (O → List LinkMove → Type 0) → LinkState → LinkState → Outlets → Outlets → Type 0
EndsRecord (Ok (record_end.Loop (end.Call call_end.Done))) steps c old_tells new_tells link new_link out new_out =
    EndsWithLines Appends c old_tells new_tells link new_link out new_out
EndsRecord (Ok (record_end.Loop (end.Call e))) steps c old_tells new_tells link new_link out new_out =
    EndsWhole c (Some (conversation.CallEnded (end_meant e))) old_tells new_tells link new_link out new_out
EndsRecord (Ok (record_end.Loop end.Budget)) steps c old_tells new_tells link new_link out new_out =
    EndsWhole c (Some conversation.Budget) old_tells new_tells link new_link out new_out
EndsRecord (Ok (record_end.Loop end.LinkFault)) steps c old_tells new_tells link new_link out new_out =
    Rose link.faults new_link.faults
    × (EndsWhole c None old_tells new_tells link new_link out new_out
    ⊎ EndsInPart AtSend steps c old_tells new_tells link new_link out new_out)
EndsRecord (Ok (record_end.Loop end.WriteFault)) steps c old_tells new_tells link new_link out new_out =
    Rose out.sink.faults new_out.sink.faults
    × (EndsInPart AtPrint steps c old_tells new_tells link new_link out new_out
    ⊎ EndsWithLines AppendsPart c old_tells new_tells link new_link out new_out)
EndsRecord (Ok record_end.KeeperFault) steps c old_tells new_tells link new_link out new_out =
    Rose out.keeper.faults new_out.keeper.faults
    × (EndsInPart Anywhere steps c old_tells new_tells link new_link out new_out
    ⊎ EndsWhole c (Some (conversation.CallEnded Done)) old_tells new_tells link new_link out new_out)
EndsRecord (Err e) steps c old_tells new_tells link new_link out new_out =
    EndsInPart Anywhere steps c old_tells new_tells link new_link out new_out
    ⊎ EndsWithLines AppendsPart c old_tells new_tells link new_link out new_out

-- behind an end come the lines, where it is done; else nothing does
abbrev pub Finishes : RecordEnd → Result RecordEnd NoMemory → List SymbolEntry → Outlets → Outlets → Type 0
Finishes (record_end.Loop (end.Call call_end.Done)) result entries out new_out = AfterLines result entries out new_out
Finishes e result entries out new_out = (result ≡ Ok e) × (new_out ≡ out)
