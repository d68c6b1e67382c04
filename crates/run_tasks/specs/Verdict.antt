-- What the words and the files lead to, where nothing fails.
use Rattle.std.specs.Prelude.{ℕ, List, Option, Some, None, Result, Ok, Err, length, nat_lt, if◌then◌else◌}
use Rattle.ads_outside.specs.declared.listening.Listening.{Listening}
use Rattle.ads_outside.specs.declared.named_file.NamedFile.{NamedFile}
use Rattle.ads_outside.specs.Limit.{file_limit}
use Rattle.ads_outside.specs.Named.{bytes_of}
use Rattle.signals.specs.Wave.{Wave}
use Rattle.spec_plant.specs.Description.{Description}
use Rattle.spec_machine.specs.Profile.{Profile, strict}
use Rattle.spec_machine.specs.ScriptLine.{ScriptLine}
use Rattle.spec_rules.specs.TextVerdict.{TextVerdict, Described, Breaks, NoDocument, text_verdict}
use Rattle.spec_relay.specs.RelayState.{relay_start}
use Rattle.spec_relay.specs.RelaySummary.{relay_text}
use Rattle.spec_server.specs.Server.{server_script, server_text}
use Rattle.description_migration.specs.Migration.{migrated_text}
use Rattle.cli_words.specs.declared.client_words.ClientWords.{ClientWords}
use Rattle.cli_words.specs.declared.client_words.PeerWords.{PeerWords}
use Rattle.cli_words.specs.declared.client_words.PeerWords.TheVariants as peer
use Rattle.client_loop.specs.Called.{Calling, calling}
use Rattle.run_tasks.specs.declared.client_task.ClientTask.{ClientTask}
use Rattle.run_tasks.specs.declared.file_task.FileTask.{FileTask}
use Rattle.run_tasks.specs.declared.file_task.FileTask.TheVariants as file_task
use Rattle.run_tasks.specs.declared.record_task.RecordTask.{RecordTask}
use Rattle.run_tasks.specs.declared.status.Status.{Status}
use Rattle.run_tasks.specs.declared.status.Status.TheVariants as status
use Rattle.run_tasks.specs.declared.task.Task.{Task}
use Rattle.run_tasks.specs.declared.task.Task.TheVariants as task
use Rattle.run_tasks.specs.Asking.{LocalCalling, local_calling, call_asked, own_address, asked_address}
use Rattle.run_tasks.specs.BuiltIn.{built_in}
use Rattle.run_tasks.specs.Ending.{Ending, line_alone}
use Rattle.run_tasks.specs.KeepAsked.{Keeping, keeping}
use Rattle.run_tasks.specs.Load.{load_text}
use Rattle.run_tasks.specs.RecordAsked.{recording_to, local_recording}
use Rattle.run_tasks.specs.Report.{report_of}
use Rattle.run_tasks.specs.Service.{Service, ServedMachine, OfRelay, server_with_in}
use Rattle.run_tasks.specs.Tasks.{asked_task}

-- the run ends so; or the server or the relay of a description is served, and what comes over the wire decides
pub data Verdict : Type 0 where
  Ends : Ending → Verdict
  Serves : Service → Verdict
  -- a client calls over the link, or over the server of a description in the same process
  Calls : Calling → Verdict
  CallsLocally : LocalCalling → Verdict
  -- a script is played over a store, and what that holds decides
  Keeps : Keeping → Verdict
  -- a client records so: the call, by how many rows its table has
  Records : (ℕ → Calling) → Verdict
  RecordsLocally : (ℕ → LocalCalling) → Verdict

-- a status whose last line is all that is printed
abbrev pub ended : Status → Verdict
ended s = Ends (line_alone s)

-- a text is printed, and the run is done
abbrev pub prints : List ℕ → Verdict
prints text = Ends (record { status = status.Done; text = text })

-- what is made of a description and of the lines of a script
abbrev pub Play : Type 0
Play = Description → List ScriptLine → Verdict

-- the text of the lines' play over the server of a description, with signals that begin so
abbrev pub over_server : List Wave → Play
over_server waves d lines = prints (server_text d waves lines)

-- that of their play over its relay
abbrev pub over_relay : Play
over_relay d lines = prints (relay_text (relay_start d) lines)

-- their play over its server and a store
abbrev pub over_store : List Wave → Play
over_store waves d lines = Keeps (keeping d waves lines)

-- what is made of a script's lines; or its first line off the grammar
abbrev pub verdict_of_lines : (List ScriptLine → Verdict) → Result (List ScriptLine) ℕ → Verdict
verdict_of_lines play (Ok lines) = play lines
verdict_of_lines play (Err number) = ended (status.BadScript number)

abbrev pub verdict_of_script : (List ScriptLine → Verdict) → List ℕ → Verdict
verdict_of_script play bytes = verdict_of_lines play (server_script bytes)

-- what is wrong with a description, where 0 stands for no TOML document; where nothing is, what is made of it
abbrev pub if_accepted : (Description → Verdict) → TextVerdict → Verdict
if_accepted made (Described d) = made d
if_accepted made (Breaks number item) = ended (status.BadDescription number item)
if_accepted made NoDocument = ended (status.BadDescription 0 0)

-- its report
abbrev pub verdict_of_description : TextVerdict → Verdict
verdict_of_description verdict = if_accepted (λ d. prints (report_of d)) verdict

-- a file that is not there cannot be read; one above the limit is too long
abbrev pub verdict_of_file : (List ℕ → Verdict) → Option (List ℕ) → Verdict
verdict_of_file verdict None = ended status.ReadFault
verdict_of_file verdict (Some bytes) =
    if nat_lt file_limit (length bytes) then ended status.TooLong else verdict bytes

-- the verdict on a description's file: what is made of its bytes and of the description that they write
abbrev pub verdict_of_description_file : ℕ → (List ℕ → Description → Verdict) → Option (List ℕ) → Verdict
verdict_of_description_file signals made file = verdict_of_file (λ bytes. if_accepted (made bytes) (text_verdict signals bytes)) file

-- what is made of it and of the script's file
abbrev pub verdict_of_described : Play → Option (List ℕ) → TextVerdict → Verdict
verdict_of_described play script verdict = if_accepted (λ d. verdict_of_file (verdict_of_script (play d)) script) verdict

-- the files of a description and of a script, at the first reading and at the second
abbrev pub verdict_of_both : ℕ → Play → List ℕ → List ℕ → List NamedFile → List NamedFile → Verdict
verdict_of_both signals play description script first second =
    verdict_of_file (λ bytes. verdict_of_described play (bytes_of second script) (text_verdict signals bytes))
    (bytes_of first description)

abbrev pub verdict_of_check : ℕ → List ℕ → Verdict
verdict_of_check signals bytes = verdict_of_description (text_verdict signals bytes)

-- its text under schema 2
abbrev pub verdict_of_migrated : List ℕ → TextVerdict → Verdict
verdict_of_migrated bytes verdict = if_accepted (λ d. prints (migrated_text bytes)) verdict

abbrev pub verdict_of_migrate : ℕ → List ℕ → Verdict
verdict_of_migrate signals bytes = verdict_of_migrated bytes (text_verdict signals bytes)

-- the counts of the load of n
abbrev pub verdict_of_load : List Wave → ℕ → Verdict
verdict_of_load waves n = prints (load_text waves n)

-- its machine is served
abbrev pub verdict_of_served : Listening → (Description → ServedMachine) → ℕ → TextVerdict → Verdict
verdict_of_served start machine limit verdict =
    if_accepted (λ d. Serves (record { start = start; machine = machine d; limit = limit })) verdict

-- a description with this name and these bytes, where to listen, and how many events are taken at most
abbrev pub verdict_of_service : ℕ → (Description → ServedMachine) → List ℕ → List ℕ → ℕ → List ℕ → Verdict
verdict_of_service signals machine name listen limit bytes =
    verdict_of_served (record { listen = listen; name = name; first = bytes }) machine limit
    (text_verdict signals bytes)

-- its server of a profile is served
abbrev pub verdict_of_serve_in : Profile → List Wave → List ℕ → List ℕ → ℕ → List ℕ → Verdict
verdict_of_serve_in profile waves name listen limit bytes =
    verdict_of_service (length waves) (server_with_in profile waves) name listen limit bytes

-- the program `ads` serves the strict one, without a right for others
abbrev pub verdict_of_serve : List Wave → List ℕ → List ℕ → ℕ → List ℕ → Verdict
verdict_of_serve waves name listen limit bytes = verdict_of_serve_in strict waves name listen limit bytes

-- the verdict on a task that asks its files alone. The files are those at the first reading and those at the second.
abbrev pub verdict_of_file_task : List Wave → FileTask → List NamedFile → List NamedFile → Verdict
verdict_of_file_task waves (file_task.Selftest script) first second =
    verdict_of_file (verdict_of_script (over_server waves built_in)) (bytes_of first script)
verdict_of_file_task waves (file_task.Check description) first second =
    verdict_of_file (verdict_of_check (length waves)) (bytes_of first description)
verdict_of_file_task waves (file_task.Replay description script) first second =
    verdict_of_both (length waves) (over_server waves) description script first second
verdict_of_file_task waves (file_task.Relay description script) first second =
    verdict_of_both (length waves) over_relay description script first second
verdict_of_file_task waves (file_task.Load n) first second = verdict_of_load waves n
verdict_of_file_task waves (file_task.Migrate description) first second =
    verdict_of_file (verdict_of_migrate (length waves)) (bytes_of first description)

-- a client asks a server over the link, or that of a description in the same process
abbrev pub verdict_of_ask : List Wave → ClientTask → ClientWords → PeerWords → List NamedFile → Verdict
verdict_of_ask waves what client (peer.To to net) first =
    Calls (calling (own_address client) (asked_address net client) (call_asked what) to)
verdict_of_ask waves what client (peer.Local description) first =
    verdict_of_description_file (length waves) (λ bytes d. CallsLocally (local_calling d waves what client)) (bytes_of first description)

-- a client records from a server over the link, or from that of a description
abbrev pub verdict_of_record : List Wave → RecordTask → PeerWords → List NamedFile → Verdict
verdict_of_record waves what (peer.To to net) first = Records (recording_to what net to)
verdict_of_record waves what (peer.Local description) first =
    verdict_of_description_file (length waves) (λ bytes d. RecordsLocally (local_recording d waves what)) (bytes_of first description)

-- words that are no command are told so
abbrev pub verdict_of_task : List Wave → Option Task → List NamedFile → List NamedFile → Verdict
verdict_of_task waves None first second = ended status.Usage
verdict_of_task waves (Some (task.OfFiles t)) first second = verdict_of_file_task waves t first second
verdict_of_task waves (Some (task.Serve description listen events)) first second =
    verdict_of_file (verdict_of_serve waves description listen events) (bytes_of first description)
verdict_of_task waves (Some (task.RelayServe description listen events)) first second =
    verdict_of_file (verdict_of_service (length waves) OfRelay description listen events) (bytes_of first description)
verdict_of_task waves (Some (task.Keep description script store)) first second =
    verdict_of_both (length waves) (over_store waves) description script first second
verdict_of_task waves (Some (task.Ask what client)) first second = verdict_of_ask waves what client client.peer first
verdict_of_task waves (Some (task.Record what)) first second = verdict_of_record waves what what.client.peer first

-- the verdict on words, with signals that begin so
abbrev pub verdict_of : List Wave → List (List ℕ) → List NamedFile → List NamedFile → Verdict
verdict_of waves words first second = verdict_of_task waves (asked_task words) first second
