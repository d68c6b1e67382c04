-- What words and files lead to, by computation.
use Rattle.std.specs.Prelude.{◌≡◌, refl, ℕ, List, [], ◌∷◌, ◌++◌, codes, Some}
use Rattle.std.specs.Str.{chars, is_utf8}
use Rattle.toml.proofs.OnLiterals.{toml_on_literals}
use Rattle.hex.specs.Hex.{decode_pairs}
use Rattle.hex.proofs.OnLiterals.{hex_on_literals}
use Rattle.std.specs.Fmt.{digits}
use Rattle.spec_plant.specs.Trees.{trees_behind, trees_of}
use Rattle.spec_plant.specs.Sizes.{type_align, greatest_align, type_size, members_end, type_depth, greatest_depth}
use Rattle.spec_plant.specs.Spelling.{type_text}
use Rattle.spec_rules.specs.Tables.{route_in, member_in, value_in, structure_in, enumeration_in, type_in, symbol_in, port_in, document_in}
use Rattle.spec_plant.specs.Shapes.{shape_of_text}
use Rattle.spec_rules.specs.Described.{types_behind}
use Rattle.spec_rules.specs.RouteRules.{wrong_schema, wrong_net, wrong_rights}
use Rattle.spec_rules.specs.TypeRules.{wrong_type_name, wrong_part}
use Rattle.spec_rules.specs.SizeRules.{wrong_size}
use Rattle.spec_rules.specs.PortRules.{wrong_port, wrong_upload}
use Rattle.spec_rules.specs.SymbolRules.{wrong_name, wrong_type, wrong_place, wrong_content, wrong_signal}
use Rattle.spec_rules.specs.TextVerdict.{Described, Breaks, NoDocument, text_verdict}
use Rattle.ads_outside.specs.declared.event.Event.TheVariants as event
use Rattle.ads_outside.specs.declared.named_file.NamedFile.{NamedFile}
use Rattle.spec_machine.specs.Script.{kind_of, script_after}
use Rattle.spec_machine.specs.ScriptLine.{ScriptLine, Happens}
use Rattle.spec_machine.specs.ScriptLines.{lines_of}
use Rattle.spec_machine.specs.ScriptWords.{bytes_of_words}
use Rattle.spec_machine.specs.Profile.{strict}
use Rattle.cli_words.specs.Commands.{command_of}
use Rattle.cli_words.specs.Forms.{form_of, options_of}
use Rattle.cli_words.specs.Words.{divided, kind_of as kind_of_word, parted}
use Rattle.client_loop.specs.Called.{calling}
use Rattle.spec_client.specs.Calls.{State}
use Rattle.run_tasks.specs.declared.client_task.ClientTask.TheVariants as ask
use Rattle.run_tasks.specs.declared.file_task.FileTask.TheVariants as file_task
use Rattle.run_tasks.specs.declared.status.Status.TheVariants as status
use Rattle.run_tasks.specs.declared.task.Task.{Task}
use Rattle.run_tasks.specs.declared.task.Task.TheVariants as task
use Rattle.run_tasks.specs.Asking.{asked_address, local_calling, own_address}
use Rattle.run_tasks.specs.BuiltIn.{built_in}
use Rattle.run_tasks.specs.KeepAsked.{keeping}
use Rattle.run_tasks.specs.RecordAsked.{local_recording, recording_to}
use Rattle.run_tasks.specs.Service.{OfRelay, OfServer, ServedMachine}
use Rattle.run_tasks.specs.Tasks.{task_of_command}
use Rattle.run_tasks.specs.Verdict.{Verdict, Serves, Calls, CallsLocally, Keeps, Records, RecordsLocally, ended, prints, verdict_of, verdict_of_task}
use Rattle.run_examples.proofs.TaskExamples.{client, client_here, far, what}

-- the text of the built-in description
abbrev pub text : List ℕ
text = codes "schema = 2\nnet = \"5.1.2.3.1.1\"\n[[route]]\nnet = \"192.168.0.9.1.1\"\nrights = \"control\"\n[[port]]\nport = 851\n"
    ++ codes "name = \"ADS Self Test\"\nmajor = 1\nminor = 0\nbuild = 0\ninputs = 0\noutputs = 0\nmemory = 0\ndata = 0\n"

-- `p` has it, `b` is no TOML document, `r` breaks rule 2, `s` is a script of two lines and `t` one whose second line is off the grammar
abbrev file : List ℕ → List ℕ → NamedFile
file name bytes = record { name = name; bytes = bytes }

abbrev files : List NamedFile
files = file (codes "p") text ∷ file (codes "b") (codes "schema = = 2") ∷ file (codes "r") (codes "schema = 3\n")
    ∷ file (codes "s") (codes "open 1\ntick 9\n") ∷ file (codes "t") (codes "open 1\nopened 2\n") ∷ []

-- the two lines
abbrev lines : List ScriptLine
lines = Happens (event.Opened 1) ∷ Happens (event.Tick 9) ∷ []

abbrev verdict_on : Task → Verdict
verdict_on t = verdict_of_task [] (Some t) files files

-- the service of `p` at that address, with at most seven events
abbrev served_by : ServedMachine → Verdict
served_by machine = Serves (record {
  start = record { listen = codes "127.0.0.1:48898"; name = codes "p"; first = text };
  machine = machine;
  limit = 7;
})

record VerdictRows : Type 0 where
  -- the description that the text writes
  described : text_verdict 0 text ≡ Described built_in
  no_document : text_verdict 0 (codes "schema = = 2") ≡ NoDocument
  breaks : text_verdict 0 (codes "schema = 3\n") ≡ Breaks 2 0
  -- words that are no command
  no_command : verdict_of [] (codes "chek" ∷ codes "p" ∷ []) files files ≡ ended status.Usage
  -- a description is checked
  checked : verdict_on (task.OfFiles (file_task.Check (codes "p")))
      ≡ prints (codes "port 851 name ADS Self Test image 0 symbols 0 upload 0\nok ports 1 symbols 0 types 0\n")
  syntax : verdict_on (task.OfFiles (file_task.Check (codes "b"))) ≡ ended (status.BadDescription 0 0)
  rule : verdict_on (task.OfFiles (file_task.Check (codes "r"))) ≡ ended (status.BadDescription 2 0)
  no_file : verdict_on (task.OfFiles (file_task.Check (codes "q"))) ≡ ended status.ReadFault
  -- a script is read behind the description; a line off the grammar is told by its number
  no_script : verdict_on (task.OfFiles (file_task.Replay (codes "p") (codes "q"))) ≡ ended status.ReadFault
  bad_script : verdict_on (task.OfFiles (file_task.Relay (codes "p") (codes "t"))) ≡ ended (status.BadScript 2)
  description_first : verdict_on (task.OfFiles (file_task.Replay (codes "r") (codes "q"))) ≡ ended (status.BadDescription 2 0)
  bad_selftest : verdict_on (task.OfFiles (file_task.Selftest (codes "t"))) ≡ ended (status.BadScript 2)
  -- over a store the play decides
  kept : verdict_on (task.Keep (codes "p") (codes "s") (codes "f")) ≡ Keeps (keeping built_in [] lines)
  -- a service
  served : verdict_on (task.Serve (codes "p") (codes "127.0.0.1:48898") 7) ≡ served_by (OfServer strict built_in [])
  relayed : verdict_on (task.RelayServe (codes "p") (codes "127.0.0.1:48898") 7) ≡ served_by (OfRelay built_in)
  not_served : verdict_on (task.Serve (codes "r") (codes "127.0.0.1:48898") 7) ≡ ended (status.BadDescription 2 0)
  -- a client calls over the link, with no file, or over the server of the description
  called : verdict_on (task.Ask ask.State client)
      ≡ Calls (calling (own_address client) (asked_address far client) State (codes "localhost:48898"))
  called_here : verdict_on (task.Ask ask.State client_here) ≡ CallsLocally (local_calling built_in [] ask.State client_here)
  recorded : verdict_on (task.Record what) ≡ Records (recording_to what far (codes "localhost:48898"))
  recorded_here : verdict_on (task.Record (record what { client = client_here }))
      ≡ RecordsLocally (local_recording built_in [] (record what { client = client_here }))

verdict_rows : VerdictRows
unfolding text_verdict toml_on_literals is_utf8 chars hex_on_literals route_in member_in value_in structure_in enumeration_in type_in symbol_in port_in
    document_in shape_of_text types_behind wrong_schema wrong_net wrong_rights wrong_type_name wrong_part wrong_size wrong_port wrong_upload wrong_name
    wrong_type wrong_place wrong_content wrong_signal trees_behind trees_of type_align greatest_align type_size members_end type_depth greatest_depth
    type_text digits decode_pairs lines_of script_after kind_of bytes_of_words command_of form_of divided kind_of_word parted options_of task_of_command
verdict_rows = record {
  described = refl;
  no_document = refl;
  breaks = refl;
  no_command = refl;
  checked = refl;
  syntax = refl;
  rule = refl;
  no_file = refl;
  no_script = refl;
  bad_script = refl;
  description_first = refl;
  bad_selftest = refl;
  kept = refl;
  served = refl;
  relayed = refl;
  not_served = refl;
  called = refl;
  called_here = refl;
  recorded = refl;
  recorded_here = refl;
}
