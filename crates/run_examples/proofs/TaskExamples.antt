-- Which task the words ask for, by computation.
use Rattle.std.specs.Prelude.{◌≡◌, refl, ℕ, List, [], ◌∷◌, codes, map, true, false, Some, None}
use Rattle.std.proofs.lemmas.Bool.{false≢true, le-leb}
use Rattle.std.proofs.Common.{lit≤}
use Rattle.std.specs.Fmt.{digits}
use Rattle.ads_base.specs.declared.net_id.NetId.{NetId}
use Rattle.cli_words.specs.declared.client_words.ClientWords.{ClientWords}
use Rattle.cli_words.specs.declared.client_words.PeerWords.{PeerWords}
use Rattle.cli_words.specs.declared.client_words.PeerWords.TheVariants as peer
use Rattle.cli_words.specs.declared.command.Command.{Command}
use Rattle.cli_words.specs.declared.command.Command.TheVariants as command
use Rattle.cli_words.specs.Words.{parted, kind_of, divided, value_of}
use Rattle.cli_words.specs.Values.{number_of, stopped_bytes, net_id_of, address_port, address_of, file_of, text_of}
use Rattle.cli_words.specs.Forms.{form_of, options_of, are_among}
use Rattle.cli_words.specs.Commands.{file_in, number_in, number_at, net_at, address_at, load_in, get_in, name_in, server_of, serve_in}
use Rattle.cli_words.specs.Commands.{port_of, peer_of, client_of, command_in, command_of}
use Rattle.run_tasks.specs.declared.client_task.ClientTask.{ClientTask}
use Rattle.run_tasks.specs.declared.client_task.ClientTask.TheVariants as ask
use Rattle.run_tasks.specs.declared.file_task.FileTask.TheVariants as file_task
use Rattle.run_tasks.specs.declared.record_task.RecordTask.{RecordTask}
use Rattle.run_tasks.specs.declared.task.Task.TheVariants as task
use Rattle.run_tasks.specs.Asking.{asked_address, call_asked, local_calling, own_address, peer_of_local}
use Rattle.run_tasks.specs.BuiltIn.{built_in}
use Rattle.run_tasks.specs.Fits.{FitsClientTask, FitsTask}
use Rattle.run_tasks.specs.RecordAsked.{call_recorded, local_recording, recording_to}
use Rattle.run_tasks.specs.Tasks.{asked_task, task_of_command}
use Rattle.client_loop.specs.Called.{calling}
use Rattle.spec_client.specs.Calls.{Info, State, Control, Get, Set, Symbols, Watch, Show, Record}

-- 1.2.3.4.5.6 asks a server at localhost:48898, whose NetId is 5.1.2.3.1.1, or that of the description `p`
abbrev pub me : NetId
me = record { bytes = 1 ∷ 2 ∷ 3 ∷ 4 ∷ 5 ∷ 6 ∷ [] }

abbrev pub far : NetId
far = record { bytes = 5 ∷ 1 ∷ 2 ∷ 3 ∷ 1 ∷ 1 ∷ [] }

abbrev pub client_at : ℕ → PeerWords → ClientWords
client_at port whom = record { me = me; port = port; peer = whom }

abbrev pub client : ClientWords
client = client_at 851 (peer.To (codes "localhost:48898") far)

abbrev pub client_here : ClientWords
client_here = client_at 851 (peer.Local (codes "p"))

-- get Main.count --to localhost:48898 --netid 5.1.2.3.1.1 --me 1.2.3.4.5.6
read_words : asked_task (codes "get" ∷ codes "Main.count" ∷ codes "--to" ∷ codes "localhost:48898" ∷ codes "--netid" ∷ codes "5.1.2.3.1.1"
    ∷ codes "--me" ∷ codes "1.2.3.4.5.6" ∷ []) ≡ Some (task.Ask (ask.Get (codes "Main.count")) client)
unfolding command_of form_of divided kind_of parted are_among options_of value_of command_in get_in name_in text_of client_of net_at net_id_of
    address_of address_port port_of peer_of file_of stopped_bytes number_of digits task_of_command
read_words = refl

-- serve p --listen=127.0.0.1:48898 --events 1000
serve_words : asked_task (codes "serve" ∷ codes "p" ∷ codes "--listen=127.0.0.1:48898" ∷ codes "--events" ∷ codes "1000" ∷ [])
    ≡ Some (task.Serve (codes "p") (codes "127.0.0.1:48898") 1000)
unfolding command_of form_of divided kind_of parted are_among options_of value_of command_in serve_in file_in file_of server_of number_at address_at
    address_of address_port stopped_bytes number_of digits task_of_command
serve_words = refl

-- load 007
no_command : asked_task (codes "load" ∷ codes "007" ∷ []) ≡ None
unfolding command_of form_of divided kind_of are_among options_of command_in load_in number_in number_of digits task_of_command
no_command = refl

-- a load has at most 100,000
loads : asked_task (codes "load" ∷ codes "100000" ∷ []) ≡ Some (task.OfFiles (file_task.Load 100000))
unfolding command_of form_of divided kind_of are_among options_of command_in load_in number_in number_of digits task_of_command
loads = refl

too_great : asked_task (codes "load" ∷ codes "100001" ∷ []) ≡ None
unfolding command_of form_of divided kind_of are_among options_of command_in load_in number_in number_of digits task_of_command
too_great = refl

-- the task of each command over files
abbrev p : List ℕ
p = codes "p"

abbrev s : List ℕ
s = codes "s"

abbrev files_alone : List Command
files_alone = command.Selftest s ∷ command.Check p ∷ command.Replay p s ∷ command.Relay p s ∷ command.Migrate p ∷ []

of_files : map task_of_command files_alone ≡ map task.OfFiles
    (file_task.Selftest s ∷ file_task.Check p ∷ file_task.Replay p s ∷ file_task.Relay p s ∷ file_task.Migrate p ∷ [])
unfolding task_of_command
of_files = refl

kept : task_of_command (command.Keep p s (codes "f")) ≡ task.Keep p s (codes "f")
unfolding task_of_command
kept = refl

relayed : task_of_command (command.RelayServe p (codes "127.0.0.1:1") 9) ≡ task.RelayServe p (codes "127.0.0.1:1") 9
unfolding task_of_command
relayed = refl

nothing : asked_task [] ≡ None
unfolding command_of
nothing = refl

-- the task of each command of a client
abbrev asks : List Command
asks = command.Info client ∷ command.State client ∷ command.List client ∷ command.Control 5 0 client ∷ command.Get (codes "a") client
    ∷ command.Show (codes "a") client ∷ command.Set (codes "a") (codes "1") client ∷ command.Watch (codes "a") true 0 3 client ∷ []

abbrev questions : List ClientTask
questions = ask.Info ∷ ask.State ∷ ask.List ∷ ask.Control 5 0 ∷ ask.Get (codes "a") ∷ ask.Show (codes "a") ∷ ask.Set (codes "a") (codes "1")
    ∷ ask.Watch (codes "a") true 0 3 ∷ []

asked : map task_of_command asks ≡ map (λ what. task.Ask what client) questions
unfolding task_of_command
asked = refl

-- the call of each question
calls : map call_asked questions
    ≡ Info ∷ State ∷ Symbols ∷ Control 5 0 ∷ Get (codes "a") ∷ Show (codes "a") ∷ Set (codes "a") (codes "1")
    ∷ Watch (codes "a") (record { mode = 4; cycle = 0; count = 3 }) ∷ []
calls = refl

at_each_cycle : call_asked (ask.Watch (codes "a") false 100000 2) ≡ Watch (codes "a") (record { mode = 3; cycle = 100000; count = 2 })
at_each_cycle = refl

-- from 1.2.3.4.5.6:32905 to 5.1.2.3.1.1:851
from_here : own_address client ≡ record { net = 1 ∷ 2 ∷ 3 ∷ 4 ∷ 5 ∷ 6 ∷ []; port = 32905 }
from_here = refl

to_there : asked_address far client ≡ record { net = 5 ∷ 1 ∷ 2 ∷ 3 ∷ 1 ∷ 1 ∷ []; port = 851 }
to_there = refl

-- of a server in the same process its NetId is asked
in_the_process : peer_of_local (local_calling built_in [] ask.State client_here) ≡ record { net = 5 ∷ 1 ∷ 2 ∷ 3 ∷ 1 ∷ 1 ∷ []; port = 851 }
in_the_process = refl

its_call : (local_calling built_in [] ask.State client_here).call ≡ State
its_call = refl

-- record a b --mode change --cycle 10 --count 4 --store f
abbrev pub what : RecordTask
what = record { names = codes "a" ∷ codes "b" ∷ []; change = true; cycle = 10; count = 4; store = codes "f"; client = client }

recorded : task_of_command (command.Record (codes "a" ∷ codes "b" ∷ []) true 10 4 (codes "f") client) ≡ task.Record what
unfolding task_of_command
recorded = refl

-- behind 6 rows the first has number 7
seventh_row : call_recorded what 6 ≡ Record (codes "a" ∷ codes "b" ∷ []) (record { mode = 4; cycle = 10; count = 4 }) 7
seventh_row = refl

recording_there : recording_to what far (codes "localhost:48898") 0
    ≡ calling (own_address client) (asked_address far client) (Record (codes "a" ∷ codes "b" ∷ []) (record { mode = 4; cycle = 10; count = 4 }) 1)
    (codes "localhost:48898")
recording_there = refl

recording_here : (local_recording built_in [] (record what { client = client_here }) 6).call ≡ call_recorded what 6
recording_here = refl

-- the tasks that the words give fit what is promised of them
fits : FitsTask (Some (task.Record what))
fits = record {
  client = lit≤ tt;
  cycle = lit≤ tt;
  some = lit≤ tt;
  most = lit≤ tt;
  named = lit≤ tt;
  few = lit≤ tt;
  short = (lit≤ tt, (lit≤ tt, tt));
}

fits_load : FitsTask (Some (task.OfFiles (file_task.Load 100000)))
fits_load = lit≤ tt

fits_question : FitsTask (Some (task.Ask (ask.Watch (codes "a") true 0 3) client))
fits_question = ((lit≤ tt, lit≤ tt, lit≤ tt, lit≤ tt), lit≤ tt)

too_great_a_load : FitsTask (Some (task.OfFiles (file_task.Load 100001))) → ⊥
too_great_a_load h = false≢true (le-leb 100001 100000 h)

no_sample_asked : FitsClientTask (ask.Watch (codes "a") true 0 0) → ⊥
no_sample_asked (text, cycle, some, most) = false≢true (le-leb 1 0 some)
