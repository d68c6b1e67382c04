-- The grammar tests the ranges of what it reads.
use Rattle.std.proofs.Common.{◌≡◌, ◌≤◌, ℕ, Bool, true, false, List, [], ◌∷◌, length, Option, Some, None, refl, sym, subst, arith, codes}
use Rattle.std.specs.Prelude.{◌==◌, ◌&&◌, if◌then◌else◌, nat_le, nat_lt, IfSome}
use Rattle.std.proofs.lemmas.Bool.{and_parts, eqb-false, leb-true, ltb-true}
use Rattle.std.proofs.lemmas.List.Elements.{All-nil, All-cons}
use Rattle.std.specs.List.{All}
use Rattle.cli_words.specs.declared.command.Command.{Command}
use Rattle.cli_words.specs.declared.client_words.ClientWords.{ClientWords}
use Rattle.cli_words.specs.declared.division.OptionWord.{OptionWord}
use Rattle.cli_words.specs.declared.division.Division.{Division}
use Rattle.cli_words.specs.declared.form.Form.{Form}
use Rattle.cli_words.specs.declared.form.Form.TheVariants as form
use Rattle.cli_words.specs.Reading.{◌>>=◌}
use Rattle.cli_words.specs.Words.{division_of, value_of}
use Rattle.cli_words.specs.Values.{number_of, net_id_of, address_of, file_of, text_of, names_of, are_texts, are_distinct}
use Rattle.cli_words.specs.Forms.{form_of, options_of, are_among}
use Rattle.cli_words.specs.Commands.{number_at, net_at, address_at, file_at, on_change_at, server_of, port_of, peer_of, client_of, samples_of}
use Rattle.cli_words.specs.Commands.{file_in, name_in, number_in, two_files, files_in, two_texts, texts_in, two_numbers, numbers_in}
use Rattle.cli_words.specs.Commands.{three_files, three_files_in, client_alone, relay_over_script, relay_over_wire, relay_in, command_in, command_of}
use Rattle.cli_words.specs.Commands.{selftest_in, check_in, migrate_in, replay_in, serve_in, keep_in, load_in, info_in, state_in, list_in}
use Rattle.cli_words.specs.Commands.{control_in, get_in, show_in, set_in, watch_in, record_in}
use Rattle.cli_words.specs.Fits.{IsWithin, IsFileName, IsText, AreNames, FitsPeer, FitsClient, FitsSamples, FitsCommand}
use Rattle.cli_words.proofs.NumberLemmas.{number_of-some}

-- any value
abbrev Any : {A : Type 0} → A → Type 0
Any x = Unit {0}

any : {A : Type 0} (o : Option A) → IfSome o Any
any None = tt
any (Some x) = tt

-- one reading after another
and_then : {A B : Type 0} (P : A → Type 0) (Q : B → Type 0) (o : Option A) (f : A → Option B)
    → IfSome o P → ((x : A) → P x → IfSome (f x) Q) → IfSome (o >>= f) Q
and_then P Q None f first second = tt
and_then P Q (Some x) f first second = second x first

-- a value that passed a test
tested : {A : Type 0} (P : A → Type 0) (b : Bool) (x : A) → (b ≡ true → P x) → IfSome (if b then Some x else None) P
tested P true x h = h refl
tested P false x h = tt

passed : {A : Type 0} (P : A → Type 0) (b : Bool) (x : A) → (b ≡ false → P x) → IfSome (if b then None else Some x) P
passed P true x h = tt
passed P false x h = h refl

-- a reading behind a test
behind : {A : Type 0} (P : A → Type 0) (b : Bool) (o : Option A) → IfSome o P → IfSome (if b then o else None) P
behind P true o h = h
behind P false o h = tt

number_fits : (least most : ℕ) (word : List ℕ) → IfSome (number_of least most word) (IsWithin least most)
number_fits least most word = read (number_of least most word) (λ n e. let number = number_of-some least most n word e in (number.low, number.high))
  where
    read : (o : Option ℕ) → ((n : ℕ) → o ≡ Some n → IsWithin least most n) → IfSome o (IsWithin least most)
    read None h = tt
    read (Some n) h = h n refl

file_fits : (word : List ℕ) → IfSome (file_of word) IsFileName
unfolding file_of
file_fits word = passed IsFileName (length word == 0) word (λ filled. omega (arith, eqb-false (length word) 0 filled))

text_fits : (word : List ℕ) → IfSome (text_of word) IsText
unfolding text_of
text_fits word = tested IsText (nat_le (length word) 65536) word (leb-true (length word) 65536)

texts_fit : (words : List (List ℕ)) → are_texts words ≡ true → All IsText words
texts_fit [] h = All-nil IsText
texts_fit (word ∷ words) h =
    let both = and_parts (nat_le (length word) 65536) (are_texts words) h in
    All-cons IsText word words (leb-true (length word) 65536 both.0) (texts_fit words both.1)

names_fit : (words : List (List ℕ)) → IfSome (names_of words) AreNames
unfolding names_of
names_fit words = tested AreNames (nat_lt 0 (length words) && nat_le (length words) 16 && are_texts words && are_distinct words) words (λ h.
    let distinct = and_parts (nat_lt 0 (length words) && nat_le (length words) 16 && are_texts words) (are_distinct words) h in
    let texts = and_parts (nat_lt 0 (length words) && nat_le (length words) 16) (are_texts words) distinct.0 in
    let few = and_parts (nat_lt 0 (length words)) (nat_le (length words) 16) texts.0 in
    record {
      few = (ltb-true 0 (length words) few.0, leb-true (length words) 16 few.1);
      are_texts = texts_fit words texts.1;
      distinct = distinct.1;
    })

number_at_fits : (least most : ℕ) (name : List ℕ) (options : List OptionWord) → IfSome (number_at least most name options) (IsWithin least most)
unfolding number_at
number_at_fits least most name options =
    and_then Any (IsWithin least most) (value_of name options) (λ word. number_of least most word) (any (value_of name options))
    (λ word here. number_fits least most word)

file_at_fits : (name : List ℕ) (options : List OptionWord) → IfSome (file_at name options) IsFileName
unfolding file_at
file_at_fits name options =
    and_then Any IsFileName (value_of name options) (λ word. file_of word) (any (value_of name options)) (λ word here. file_fits word)

port_fits : (word : Option (List ℕ)) → IfSome (port_of word) (IsWithin 1 65535)
unfolding port_of
port_fits None = (omega arith, omega arith)
port_fits (Some word) = number_fits 1 65535 word

peer_fits : (to net local : Option (List ℕ)) → IfSome (peer_of to net local) FitsPeer
unfolding peer_of
peer_fits (Some to) (Some net) None =
    and_then Any FitsPeer (net_id_of net) _ (any (net_id_of net)) (λ n here. and_then Any FitsPeer (address_of to) _ (any (address_of to)) (λ t there. tt))
peer_fits None None (Some local) = and_then IsFileName FitsPeer (file_of local) _ (file_fits local) (λ file is. is)
peer_fits None None None = tt
peer_fits None (Some net) local = tt
peer_fits (Some to) None local = tt
peer_fits (Some to) (Some net) (Some local) = tt

client_fits : (options : List OptionWord) → IfSome (client_of options) FitsClient
unfolding client_of
client_fits options =
    and_then Any FitsClient (net_at (codes "--me") options) _ (any (net_at (codes "--me") options)) (λ me here.
    and_then (IsWithin 1 65535) FitsClient (port_of (value_of (codes "--port") options)) _ (port_fits (value_of (codes "--port") options)) (λ port is_port.
    let to = value_of (codes "--to") options in
    let net = value_of (codes "--netid") options in
    let local = value_of (codes "--local") options in
    and_then FitsPeer FitsClient (peer_of to net local) _ (peer_fits to net local) (λ peer is_peer. (is_port, is_peer))))

alone_fits : (words : Division) → IfSome (client_alone words) FitsClient
unfolding client_alone
alone_fits words = behind FitsClient (length words.positional == 0) (client_of words.options) (client_fits words.options)

samples_fit : (options : List OptionWord) → IfSome (samples_of options) (λ s. FitsSamples s.1 s.2)
unfolding samples_of
samples_fit options =
    and_then Any _ (on_change_at (codes "--mode") options) _ (any (on_change_at (codes "--mode") options)) (λ change here.
    and_then (IsWithin 0 4294967295) _ (number_at 0 4294967295 (codes "--cycle") options) _
    (number_at_fits 0 4294967295 (codes "--cycle") options) (λ cycle is_cycle.
    and_then (IsWithin 1 1000000) _ (number_at 1 1000000 (codes "--count") options) _
    (number_at_fits 1 1000000 (codes "--count") options) (λ count is_count.
    (is_cycle.1, is_count))))

server_fits : (options : List OptionWord) → IfSome (server_of options) (λ s. s.1 ≤ 18446744073709551615)
unfolding server_of
server_fits options =
    and_then (IsWithin 0 18446744073709551615) _ (number_at 0 18446744073709551615 (codes "--events") options) _
    (number_at_fits 0 18446744073709551615 (codes "--events") options) (λ events is_events.
    and_then Any _ (address_at (codes "--listen") options) _ (any (address_at (codes "--listen") options)) (λ listen here. is_events.1))

-- the positional words
file_in_fits : (words : List (List ℕ)) → IfSome (file_in words) IsFileName
unfolding file_in
file_in_fits [] = tt
file_in_fits (word ∷ []) = file_fits word
file_in_fits (word ∷ other ∷ words) = tt

name_in_fits : (words : List (List ℕ)) → IfSome (name_in words) IsText
unfolding name_in
name_in_fits [] = tt
name_in_fits (word ∷ []) = text_fits word
name_in_fits (word ∷ other ∷ words) = tt

number_in_fits : (least most : ℕ) (words : List (List ℕ)) → IfSome (number_in least most words) (IsWithin least most)
unfolding number_in
number_in_fits least most [] = tt
number_in_fits least most (word ∷ []) = number_fits least most word
number_in_fits least most (word ∷ other ∷ words) = tt

abbrev Both : {A : Type 0} → (A → Type 0) → A × A → Type 0
Both P two = P two.0 × P two.1

two_fit : {A : Type 0} (P : A → Type 0) (first second : Option A) → IfSome first P → IfSome second P
    → IfSome (first >>= (λ x. second >>= (λ y. Some (x, y)))) (Both P)
two_fit P None second first_fits second_fits = tt
two_fit P (Some x) None first_fits second_fits = tt
two_fit P (Some x) (Some y) first_fits second_fits = (first_fits, second_fits)

files_in_fit : (words : List (List ℕ)) → IfSome (files_in words) (Both IsFileName)
unfolding files_in two_files
files_in_fit [] = tt
files_in_fit (word ∷ []) = tt
files_in_fit (word ∷ other ∷ []) = two_fit IsFileName (file_of word) (file_of other) (file_fits word) (file_fits other)
files_in_fit (word ∷ other ∷ last ∷ words) = tt

texts_in_fit : (words : List (List ℕ)) → IfSome (texts_in words) (Both IsText)
unfolding texts_in two_texts
texts_in_fit [] = tt
texts_in_fit (word ∷ []) = tt
texts_in_fit (word ∷ other ∷ []) = two_fit IsText (text_of word) (text_of other) (text_fits word) (text_fits other)
texts_in_fit (word ∷ other ∷ last ∷ words) = tt

numbers_in_fit : (words : List (List ℕ)) → IfSome (numbers_in words) (Both (IsWithin 0 65535))
unfolding numbers_in two_numbers
numbers_in_fit [] = tt
numbers_in_fit (word ∷ []) = tt
numbers_in_fit (word ∷ other ∷ []) =
    two_fit (IsWithin 0 65535) (number_of 0 65535 word) (number_of 0 65535 other) (number_fits 0 65535 word) (number_fits 0 65535 other)
numbers_in_fit (word ∷ other ∷ last ∷ words) = tt

three_files_in_fit : (words : List (List ℕ)) → IfSome (three_files_in words) (λ files. IsFileName files.0 × IsFileName files.1 × IsFileName files.2)
unfolding three_files_in three_files
three_files_in_fit [] = tt
three_files_in_fit (word ∷ []) = tt
three_files_in_fit (word ∷ other ∷ []) = tt
three_files_in_fit (word ∷ other ∷ last ∷ []) =
    and_then IsFileName _ (file_of word) _ (file_fits word) (λ first is_first.
    and_then IsFileName _ (file_of other) _ (file_fits other) (λ second is_second.
    and_then IsFileName _ (file_of last) _ (file_fits last) (λ third is_third. (is_first, is_second, is_third))))
three_files_in_fit (word ∷ other ∷ last ∷ more ∷ words) = tt

-- each command
file_command : (words : Division) (f : List ℕ → Command) → ((file : List ℕ) → IsFileName file → FitsCommand (f file))
    → IfSome (file_in words.positional >>= (λ file. Some (f file))) FitsCommand
file_command words f fits = and_then IsFileName FitsCommand (file_in words.positional) _ (file_in_fits words.positional) fits

files_command : (words : Division) (f : List ℕ × List ℕ → Command) → ((files : List ℕ × List ℕ) → Both IsFileName files → FitsCommand (f files))
    → IfSome (files_in words.positional >>= (λ files. Some (f files))) FitsCommand
files_command words f fits = and_then (Both IsFileName) FitsCommand (files_in words.positional) _ (files_in_fit words.positional) fits

server_command : (words : Division) (f : List ℕ → List ℕ × ℕ → Command)
    → ((file : List ℕ) (server : List ℕ × ℕ) → IsFileName file → server.1 ≤ 18446744073709551615 → FitsCommand (f file server))
    → IfSome (file_in words.positional >>= (λ file. server_of words.options >>= (λ server. Some (f file server)))) FitsCommand
server_command words f fits =
    and_then IsFileName FitsCommand (file_in words.positional) _ (file_in_fits words.positional) (λ file is_file.
    and_then (λ (s : List ℕ × ℕ). s.1 ≤ 18446744073709551615) FitsCommand (server_of words.options) _ (server_fits words.options)
    (λ server is_server. fits file server is_file is_server))

alone_command : (words : Division) (f : ClientWords → Command) → ((client : ClientWords) → FitsClient client → FitsCommand (f client))
    → IfSome (client_alone words >>= (λ client. Some (f client))) FitsCommand
alone_command words f fits = and_then FitsClient FitsCommand (client_alone words) _ (alone_fits words) fits

-- a client's command behind its positional words
client_command : {A : Type 0} (P : A → Type 0) (words : Division) (o : Option A) (f : A → ClientWords → Command) → IfSome o P
    → ((x : A) (client : ClientWords) → P x → FitsClient client → FitsCommand (f x client))
    → IfSome (o >>= (λ x. client_of words.options >>= (λ client. Some (f x client)))) FitsCommand
client_command P words o f o_fits fits =
    and_then P FitsCommand o _ o_fits (λ x is_x.
    and_then FitsClient FitsCommand (client_of words.options) _ (client_fits words.options) (λ client is_client. fits x client is_x is_client))

watch_fits : (words : Division) → IfSome (watch_in words) FitsCommand
unfolding watch_in
watch_fits words =
    and_then IsText FitsCommand (name_in words.positional) _ (name_in_fits words.positional) (λ name is_name.
    and_then _ FitsCommand (samples_of words.options) _ (samples_fit words.options) (λ samples are_samples.
    and_then FitsClient FitsCommand (client_of words.options) _ (client_fits words.options) (λ client is_client. (is_name, are_samples, is_client))))

record_fits : (words : Division) → IfSome (record_in words) FitsCommand
unfolding record_in
record_fits words =
    and_then AreNames FitsCommand (names_of words.positional) _ (names_fit words.positional) (λ names are_names.
    and_then _ FitsCommand (samples_of words.options) _ (samples_fit words.options) (λ samples are_samples.
    and_then IsFileName FitsCommand (file_at (codes "--store") words.options) _ (file_at_fits (codes "--store") words.options) (λ store is_store.
    and_then FitsClient FitsCommand (client_of words.options) _ (client_fits words.options) (λ client is_client.
    (are_names, are_samples, is_store, is_client)))))

keep_fits : (words : Division) → IfSome (keep_in words) FitsCommand
unfolding keep_in
keep_fits words = and_then _ FitsCommand (three_files_in words.positional) _ (three_files_in_fit words.positional) (λ files are_files. are_files)

load_fits : (words : Division) → IfSome (load_in words) FitsCommand
unfolding load_in
load_fits words =
    and_then (IsWithin 0 100000) FitsCommand (number_in 0 100000 words.positional) _ (number_in_fits 0 100000 words.positional) (λ n is_n. is_n.1)

control_fits : (words : Division) → IfSome (control_in words) FitsCommand
unfolding control_in
control_fits words =
    client_command (Both (IsWithin 0 65535)) words (numbers_in words.positional) _ (numbers_in_fit words.positional)
    (λ numbers client are_numbers is_client. (are_numbers.0.1, are_numbers.1.1, is_client))

get_fits : (words : Division) → IfSome (get_in words) FitsCommand
unfolding get_in
get_fits words =
    client_command IsText words (name_in words.positional) _ (name_in_fits words.positional) (λ name client is_name is_client. (is_name, is_client))

show_fits : (words : Division) → IfSome (show_in words) FitsCommand
unfolding show_in
show_fits words =
    client_command IsText words (name_in words.positional) _ (name_in_fits words.positional) (λ name client is_name is_client. (is_name, is_client))

set_fits : (words : Division) → IfSome (set_in words) FitsCommand
unfolding set_in
set_fits words =
    client_command (Both IsText) words (texts_in words.positional) _ (texts_in_fit words.positional)
    (λ texts client are_texts is_client. (are_texts.0, are_texts.1, is_client))

relay_fits : (words : Division) → IfSome (relay_in words) FitsCommand
unfolding relay_in relay_over_script relay_over_wire
relay_fits words = chosen (length words.options == 0)
  where
    chosen : (b : Bool) → IfSome (if b then relay_over_script words else relay_over_wire words) FitsCommand
    chosen true = files_command words _ (λ files are_files. are_files)
    chosen false = server_command words _ (λ file server is_file is_server. (is_file, is_server))

command_in_fits : (f : Form) (words : Division) → IfSome (command_in f words) FitsCommand
unfolding command_in selftest_in check_in migrate_in replay_in serve_in info_in state_in list_in
command_in_fits form.Selftest words = file_command words _ (λ file is_file. is_file)
command_in_fits form.Check words = file_command words _ (λ file is_file. is_file)
command_in_fits form.Migrate words = file_command words _ (λ file is_file. is_file)
command_in_fits form.Replay words = files_command words _ (λ files are_files. are_files)
command_in_fits form.Serve words = server_command words _ (λ file server is_file is_server. (is_file, is_server))
command_in_fits form.Relay words = relay_fits words
command_in_fits form.Keep words = keep_fits words
command_in_fits form.Load words = load_fits words
command_in_fits form.Info words = alone_command words _ (λ client is_client. is_client)
command_in_fits form.State words = alone_command words _ (λ client is_client. is_client)
command_in_fits form.List words = alone_command words _ (λ client is_client. is_client)
command_in_fits form.Control words = control_fits words
command_in_fits form.Get words = get_fits words
command_in_fits form.Set words = set_fits words
command_in_fits form.Show words = show_fits words
command_in_fits form.Watch words = watch_fits words
command_in_fits form.Record words = record_fits words

pub command_of-fits : (words : List (List ℕ)) → IfSome (command_of words) FitsCommand
unfolding command_of
command_of-fits [] = tt
command_of-fits (name ∷ others) =
    and_then Any FitsCommand (form_of name) _ (any (form_of name)) (λ f here.
    and_then Any FitsCommand (division_of others) _ (any (division_of others)) (λ words there.
    behind FitsCommand (are_among (options_of f) words.options) (command_in f words) (command_in_fits f words)))

-- so does a command that was read
pub read_fits : (words : List (List ℕ)) (o : Option Command) → o ≡ command_of words → IfSome o FitsCommand
read_fits words o is = subst (λ c. IfSome c FitsCommand) (sym is) (command_of-fits words)
