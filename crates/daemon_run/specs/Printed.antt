-- What is printed of a plant that was served.
use Rattle.std.specs.Prelude.{◌≡◌, ℕ, List, ◌++◌, Option, Some, None}
use Rattle.ads_outside.specs.declared.end.End.{End}
use Rattle.ads_outside.specs.declared.end.End.TheVariants as end
use Rattle.ads_outside.specs.SinkState.{SinkState}
use Rattle.ads_served.specs.Standing.{Standing}
use Rattle.server_core.specs.Served.{World, Client}
use Rattle.keep_play.specs.KeptSaves.{saved_line}
use Rattle.run_tasks.specs.declared.status.Status.{Status}
use Rattle.run_tasks.specs.declared.status.Status.TheVariants as status
use Rattle.run_tasks.specs.Ending.{Ending, line_alone}
use Rattle.run_tasks.specs.Prints.{PutsMemoryLine, PrintsEnding}
use Rattle.run_tasks.specs.Service.{server_counts, counts_and_line}
use Rattle.plant_commands.specs.FileOutcomes.{IsOfService}

-- these counts, and with a store how many saves were done
abbrev pub counts_saved : Option ℕ → List ℕ → List ℕ
counts_saved None counts = counts
counts_saved (Some saved) counts = counts ++ saved_line saved

-- how a plant ends whose wire ended so, with these counts, and what it prints behind `listening`; with this status where the
-- wire had no more events
abbrev pub ending_so : End → Status → Option ℕ → List ℕ → Ending
ending_so end.Done at_end saved counts = counts_and_line (counts_saved saved counts) at_end
ending_so end.Budget at_end saved counts = counts_and_line (counts_saved saved counts) status.Budget
ending_so end.LinkFault at_end saved counts = line_alone status.LinkFault
ending_so end.Memory at_end saved counts = line_alone status.Memory

-- what was printed, for whatever is served in the end; want of memory is told by its line alone. No public clause cites this.
abbrev pub PrintsSo : End → Status → Option ℕ → (Standing World Client → Type 0) → Status → SinkState → SinkState → Type 0
PrintsSo end.Done at_end saved serves s out out_new =
    (x : Standing World Client) → serves x → PrintsEnding (ending_so end.Done at_end saved (server_counts x.running.state)) s out out_new
PrintsSo end.Budget at_end saved serves s out out_new =
    (x : Standing World Client) → serves x → PrintsEnding (ending_so end.Budget at_end saved (server_counts x.running.state)) s out out_new
PrintsSo end.LinkFault at_end saved serves s out out_new = PrintsEnding (line_alone status.LinkFault) s out out_new
PrintsSo end.Memory at_end saved serves s out out_new = (s ≡ status.Memory) × PutsMemoryLine out out_new

-- how a plant ends whose description is accepted
abbrev pub IsOfPlant : Status → Type 0
IsOfPlant status.StoreFault = Unit {0}
IsOfPlant status.StoreLimit = Unit {0}
IsOfPlant s = IsOfService s
