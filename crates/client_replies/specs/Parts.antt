-- The parts of what a reply leads to, as the code has them. No public clause cites this file.
use Rattle.std.specs.Prelude.{ℕ, List, Bool, true, false, ◌++◌, map, length, ◌==◌, if◌then◌else◌, Option, Some, None, option_map, option_and_then}
use Rattle.spec_formats.specs.SymbolEntry.{SymbolEntry, entry_of}
use Rattle.spec_client.specs.Entries.{is_taken}
use Rattle.spec_client.specs.Printed.{entry_line}
use Rattle.spec_client.specs.Stages as stages
use Rattle.client_replies.specs.Stages.{progress_kept}
use Rattle.client_replies.specs.declared.stage.Progress.{Progress}

-- the first entry, where it is not too big, and what stands behind it
unfoldable pub taken_entry_in : List ℕ → Option (SymbolEntry × List ℕ)
taken_entry_in bytes = option_and_then (λ first. if is_taken first.0 then Some first else None) (entry_of bytes)

-- the one entry that is taken, with nothing behind it
unfoldable pub only_entry_in : List ℕ → Option SymbolEntry
only_entry_in bytes = option_and_then (λ first. if length first.1 == 0 then Some first.0 else None) (taken_entry_in bytes)

abbrev pub lines_of : List SymbolEntry → List stages.Output
lines_of entries = map (λ e. stages.ToPrint (entry_line e)) entries

-- these outputs, and behind them the lines of the entries
abbrev pub outputs_behind : List stages.Output → Option (List SymbolEntry) → Option (List stages.Output)
outputs_behind before entries = option_map (λ es. before ++ lines_of es) entries

-- what an answer leads to, where nothing stands for an answer that is not what was asked for
abbrev pub told : Option Progress → List ℕ → stages.Progress
told (Some p) payload = progress_kept p
told None payload = stages.ended (stages.bad_text payload)

-- a recording goes on at this stage
abbrev pub is_recording : stages.Stage → Bool
is_recording (stages.Records wait r) = true
is_recording stage = false
