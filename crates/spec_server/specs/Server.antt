-- The server that the program is: it answers everything that the protocol has, reads descriptions by the
-- verdict on their text, and plays every line of a script.
use Rattle.std.specs.Prelude.{ℕ, List, Result, Ok, Err}
use Rattle.signals.specs.Wave.{Wave}
use Rattle.ads_outside.specs.declared.moves.Move.{Move}
use Rattle.spec_plant.specs.Description.{Description}
use Rattle.spec_rules.specs.TextVerdict.{TextVerdict, Described, Breaks, text_verdict}
use Rattle.spec_rules.specs.TextVerdict as text
use Rattle.spec_machine.specs.Device.{Device, DescriptionFault, BreaksRule, NoDocument}
use Rattle.spec_machine.specs.MachineState.{MachineState, output_of}
use Rattle.spec_machine.specs.Moves.{EventStep, state_after}
use Rattle.spec_machine.specs.Profile.{Profile, strict}
use Rattle.spec_machine.specs.World.{World}
use Rattle.spec_machine.specs.Client.{Client}
use Rattle.spec_machine.specs.BuiltLines.{all_lines}
use Rattle.spec_machine.specs.ScriptLine.{ScriptLine}
use Rattle.spec_machine.specs.Script.{script_of}
use Rattle.spec_machine.specs.Play.{play_of}
use Rattle.spec_machine.specs.RunText.{text_of_play}
use Rattle.spec_machine.specs.AdsDevice.{DescriptionReading, ads_device, server_step}
pub use Rattle.spec_laws.specs.Isolation.{start_in}

-- a description, or why the text is none
abbrev pub read_of_verdict : TextVerdict → Result Description DescriptionFault
read_of_verdict (Described description) = Ok description
read_of_verdict (Breaks rule item) = Err (BreaksRule rule item)
read_of_verdict text.NoDocument = Err NoDocument

abbrev pub read_description : DescriptionReading
read_description bytes signals = read_of_verdict (text_verdict signals bytes)

abbrev pub server_device : Device World Client
server_device = ads_device read_description

-- an event of its machine
abbrev pub server : EventStep World Client
server = server_step read_description

-- the machine of a profile over a description and signals, after a log
abbrev pub server_after_in : Profile → Description → List Wave → List Move → MachineState World Client
server_after_in profile description signals log = state_after server (start_in profile description signals) log

-- all bytes that a connection was given by the end of a log
abbrev pub server_output_in : Profile → Description → List Wave → ℕ → List Move → List ℕ
server_output_in profile description signals c log = output_of c (server_after_in profile description signals log)

-- the program `ads` is the strict server, without a right for others
abbrev pub server_start : Description → List Wave → MachineState World Client
server_start description signals = start_in strict description signals

abbrev pub server_after : Description → List Wave → List Move → MachineState World Client
server_after description signals log = state_after server (server_start description signals) log

abbrev pub server_output : Description → List Wave → ℕ → List Move → List ℕ
server_output description signals c log = output_of c (server_after description signals log)

-- the script of some bytes, or the number of the first line off the grammar
abbrev pub server_script : List ℕ → Result (List ScriptLine) ℕ
server_script bytes = script_of all_lines bytes

-- the log of a script's play, and what it prints
abbrev pub server_play : Description → List Wave → List ScriptLine → List Move
server_play description signals lines = play_of server (server_start description signals) lines

abbrev pub server_text : Description → List Wave → List ScriptLine → List ℕ
server_text description signals lines = text_of_play server_device (server_start description signals) lines
