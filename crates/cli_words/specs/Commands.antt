-- The command of a list of words: the grammar of the command line. This project's own choice.
use Rattle.std.specs.Prelude.{ℕ, Bool, List, [], ◌∷◌, length, Option, Some, None, codes, ◌==◌, if◌then◌else◌}
use Rattle.ads_base.specs.declared.net_id.NetId.{NetId}
use Rattle.cli_words.specs.declared.command.Command.{Command}
use Rattle.cli_words.specs.declared.command.Command.TheVariants as command
use Rattle.cli_words.specs.declared.client_words.ClientWords.{ClientWords}
use Rattle.cli_words.specs.declared.client_words.PeerWords.{PeerWords}
use Rattle.cli_words.specs.declared.client_words.PeerWords.TheVariants as peer
use Rattle.cli_words.specs.declared.division.OptionWord.{OptionWord}
use Rattle.cli_words.specs.declared.division.Division.{Division}
use Rattle.cli_words.specs.declared.form.Form.{Form}
use Rattle.cli_words.specs.declared.form.Form.TheVariants as form
use Rattle.cli_words.specs.Reading.{◌>>=◌}
use Rattle.cli_words.specs.Words.{division_of, value_of}
use Rattle.cli_words.specs.Values.{number_of, net_id_of, address_of, file_of, text_of, on_change_of, names_of}
use Rattle.cli_words.specs.Forms.{form_of, options_of, are_among}

-- what the value of an option means: a number in a range, a NetId, an address, a file name, when samples are sent
unfoldable pub number_at : ℕ → ℕ → List ℕ → List OptionWord → Option ℕ
number_at least most name options = do
  word ← value_of name options
  number_of least most word

unfoldable pub net_at : List ℕ → List OptionWord → Option NetId
net_at name options = do
  word ← value_of name options
  net_id_of word

unfoldable pub address_at : List ℕ → List OptionWord → Option (List ℕ)
address_at name options = do
  word ← value_of name options
  address_of word

unfoldable pub file_at : List ℕ → List OptionWord → Option (List ℕ)
file_at name options = do
  word ← value_of name options
  file_of word

unfoldable pub on_change_at : List ℕ → List OptionWord → Option Bool
on_change_at name options = do
  word ← value_of name options
  on_change_of word

-- where a server listens, and after how many events it ends
unfoldable pub server_of : List OptionWord → Option (List ℕ × ℕ)
server_of options = do
  events ← number_at 0 18446744073709551615 (codes "--events") options
  listen ← address_at (codes "--listen") options
  Some (listen, events)

-- the AMS port, 851 where the option is absent
unfoldable pub port_of : Option (List ℕ) → Option ℕ
port_of None = Some 851
port_of (Some word) = number_of 1 65535 word

-- whom a client asks: `--to` with `--netid`, or `--local`, and no mixture
unfoldable pub peer_of : Option (List ℕ) → Option (List ℕ) → Option (List ℕ) → Option PeerWords
peer_of (Some to_word) (Some net_word) None = do
  net ← net_id_of net_word
  to ← address_of to_word
  Some (peer.To to net)
peer_of None None (Some local_word) = do
  description ← file_of local_word
  Some (peer.Local description)
peer_of to_word net_word local_word = None

-- the options of every client command
unfoldable pub client_of : List OptionWord → Option ClientWords
client_of options = do
  me ← net_at (codes "--me") options
  port ← port_of (value_of (codes "--port") options)
  peer ← peer_of (value_of (codes "--to") options) (value_of (codes "--netid") options) (value_of (codes "--local") options)
  Some (record { me = me; port = port; peer = peer })

-- when samples are sent: on change or not, the cycle, how many
unfoldable pub samples_of : List OptionWord → Option (Bool × ℕ × ℕ)
samples_of options = do
  change ← on_change_at (codes "--mode") options
  cycle ← number_at 0 4294967295 (codes "--cycle") options
  count ← number_at 1 1000000 (codes "--count") options
  Some (change, cycle, count)

-- the only positional word as a file name, as a name, as a number
unfoldable pub file_in : List (List ℕ) → Option (List ℕ)
file_in (word ∷ []) = file_of word
file_in words = None

unfoldable pub name_in : List (List ℕ) → Option (List ℕ)
name_in (word ∷ []) = text_of word
name_in words = None

unfoldable pub number_in : ℕ → ℕ → List (List ℕ) → Option ℕ
number_in least most (word ∷ []) = number_of least most word
number_in least most words = None

-- the only two as file names, as texts, as numbers of 16 bits
unfoldable pub two_files : List ℕ → List ℕ → Option (List ℕ × List ℕ)
two_files word other = do
  first ← file_of word
  second ← file_of other
  Some (first, second)

unfoldable pub files_in : List (List ℕ) → Option (List ℕ × List ℕ)
files_in (word ∷ other ∷ []) = two_files word other
files_in words = None

unfoldable pub two_texts : List ℕ → List ℕ → Option (List ℕ × List ℕ)
two_texts word other = do
  first ← text_of word
  second ← text_of other
  Some (first, second)

unfoldable pub texts_in : List (List ℕ) → Option (List ℕ × List ℕ)
texts_in (word ∷ other ∷ []) = two_texts word other
texts_in words = None

unfoldable pub two_numbers : List ℕ → List ℕ → Option (ℕ × ℕ)
two_numbers word other = do
  first ← number_of 0 65535 word
  second ← number_of 0 65535 other
  Some (first, second)

unfoldable pub numbers_in : List (List ℕ) → Option (ℕ × ℕ)
numbers_in (word ∷ other ∷ []) = two_numbers word other
numbers_in words = None

-- the only three as file names
unfoldable pub three_files : List ℕ → List ℕ → List ℕ → Option (List ℕ × List ℕ × List ℕ)
three_files word other last = do
  first ← file_of word
  second ← file_of other
  third ← file_of last
  Some (first, second, third)

unfoldable pub three_files_in : List (List ℕ) → Option (List ℕ × List ℕ × List ℕ)
three_files_in (word ∷ other ∷ last ∷ []) = three_files word other last
three_files_in words = None

-- the client's options of a command without positional words
unfoldable pub client_alone : Division → Option ClientWords
client_alone words = if length words.positional == 0 then client_of words.options else None

-- `relay` over a script has two files and no option, over a wire one file and the server's options
unfoldable pub relay_over_script : Division → Option Command
relay_over_script words = do
  files ← files_in words.positional
  Some (command.Relay files.0 files.1)

unfoldable pub relay_over_wire : Division → Option Command
relay_over_wire words = do
  description ← file_in words.positional
  server ← server_of words.options
  Some (command.RelayServe description server.0 server.1)

unfoldable pub relay_in : Division → Option Command
relay_in words = if length words.options == 0 then relay_over_script words else relay_over_wire words

-- each command by the words behind its name
unfoldable pub selftest_in : Division → Option Command
selftest_in words = do
  script ← file_in words.positional
  Some (command.Selftest script)

unfoldable pub check_in : Division → Option Command
check_in words = do
  description ← file_in words.positional
  Some (command.Check description)

unfoldable pub migrate_in : Division → Option Command
migrate_in words = do
  description ← file_in words.positional
  Some (command.Migrate description)

unfoldable pub replay_in : Division → Option Command
replay_in words = do
  files ← files_in words.positional
  Some (command.Replay files.0 files.1)

unfoldable pub serve_in : Division → Option Command
serve_in words = do
  description ← file_in words.positional
  server ← server_of words.options
  Some (command.Serve description server.0 server.1)

unfoldable pub keep_in : Division → Option Command
keep_in words = do
  files ← three_files_in words.positional
  Some (command.Keep files.0 files.1 files.2)

unfoldable pub load_in : Division → Option Command
load_in words = do
  n ← number_in 0 100000 words.positional
  Some (command.Load n)

unfoldable pub info_in : Division → Option Command
info_in words = do
  client ← client_alone words
  Some (command.Info client)

unfoldable pub state_in : Division → Option Command
state_in words = do
  client ← client_alone words
  Some (command.State client)

unfoldable pub list_in : Division → Option Command
list_in words = do
  client ← client_alone words
  Some (command.List client)

unfoldable pub control_in : Division → Option Command
control_in words = do
  numbers ← numbers_in words.positional
  client ← client_of words.options
  Some (command.Control numbers.0 numbers.1 client)

unfoldable pub get_in : Division → Option Command
get_in words = do
  name ← name_in words.positional
  client ← client_of words.options
  Some (command.Get name client)

unfoldable pub show_in : Division → Option Command
show_in words = do
  name ← name_in words.positional
  client ← client_of words.options
  Some (command.Show name client)

unfoldable pub set_in : Division → Option Command
set_in words = do
  texts ← texts_in words.positional
  client ← client_of words.options
  Some (command.Set texts.0 texts.1 client)

unfoldable pub watch_in : Division → Option Command
watch_in words = do
  name ← name_in words.positional
  samples ← samples_of words.options
  client ← client_of words.options
  Some (command.Watch name samples.0 samples.1 samples.2 client)

unfoldable pub record_in : Division → Option Command
record_in words = do
  names ← names_of words.positional
  samples ← samples_of words.options
  store ← file_at (codes "--store") words.options
  client ← client_of words.options
  Some (command.Record names samples.0 samples.1 samples.2 store client)

-- each command by its positional words and its options
unfoldable pub command_in : Form → Division → Option Command
command_in form.Selftest words = selftest_in words
command_in form.Check words = check_in words
command_in form.Migrate words = migrate_in words
command_in form.Replay words = replay_in words
command_in form.Serve words = serve_in words
command_in form.Relay words = relay_in words
command_in form.Keep words = keep_in words
command_in form.Load words = load_in words
command_in form.Info words = info_in words
command_in form.State words = state_in words
command_in form.List words = list_in words
command_in form.Control words = control_in words
command_in form.Get words = get_in words
command_in form.Show words = show_in words
command_in form.Set words = set_in words
command_in form.Watch words = watch_in words
command_in form.Record words = record_in words

-- the command of all words: the first names it, and the others are its positional words and options
unfoldable pub command_of : List (List ℕ) → Option Command
command_of [] = None
command_of (name ∷ others) = do
  form ← form_of name
  words ← division_of others
  if are_among (options_of form) words.options then command_in form words else None
