-- What `load N` prints: the counts of the play of the made script over the made description.
use Rattle.std.specs.Prelude.{ℕ, List}
use Rattle.signals.specs.Wave.{Wave}
use Rattle.spec_plant.specs.Description.{Description}
use Rattle.spec_machine.specs.ScriptLine.{ScriptLine}
use Rattle.spec_machine.specs.Summary.{summary_of}
use Rattle.spec_machine.specs.SummaryText.{summary_text_of}
use Rattle.spec_server.specs.Server.{server_after, server_play}
use Rattle.load_maker.specs.MadeLines.{script_said}
use Rattle.load_maker.specs.LoadScript.{load_lines}
use Rattle.load_maker.specs.LoadDescription.{load_description}

-- the summary line of a server after the play of a script
unfoldable pub counts_of_play : Description → List Wave → List ScriptLine → List ℕ
counts_of_play d waves lines = summary_text_of (summary_of (server_after d waves (server_play d waves lines)))

-- the description and the lines of the load of n
unfoldable pub load_text : List Wave → ℕ → List ℕ
load_text waves n = counts_of_play load_description waves (script_said (load_lines n))
