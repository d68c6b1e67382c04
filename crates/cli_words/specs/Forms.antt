-- The commands by their names, and the options that each may have. This project's own choice.
use Rattle.std.specs.Prelude.{ℕ, Bool, true, ◌&&◌, List, [], ◌∷◌, ◌++◌, Option, Some, None, codes, bytes_eq, is_none, if◌then◌else◌}
use Rattle.std.specs.List.{list_any}
use Rattle.cli_words.specs.declared.division.OptionWord.{OptionWord}
use Rattle.cli_words.specs.declared.form.Form.{Form}
use Rattle.cli_words.specs.declared.form.Form.TheVariants as form
use Rattle.cli_words.specs.Words.{value_of}

abbrev pub named_forms : List (List ℕ × Form)
named_forms =
    (codes "selftest", form.Selftest) ∷
    (codes "check", form.Check) ∷
    (codes "replay", form.Replay) ∷
    (codes "serve", form.Serve) ∷
    (codes "load", form.Load) ∷
    (codes "info", form.Info) ∷
    (codes "state", form.State) ∷
    (codes "list", form.List) ∷
    (codes "control", form.Control) ∷
    (codes "get", form.Get) ∷
    (codes "set", form.Set) ∷
    (codes "watch", form.Watch) ∷
    (codes "migrate", form.Migrate) ∷
    (codes "show", form.Show) ∷
    (codes "relay", form.Relay) ∷
    (codes "keep", form.Keep) ∷
    (codes "record", form.Record) ∷
    []

abbrev pub form_in : List (List ℕ × Form) → List ℕ → Option Form
form_in [] name = None
form_in (row ∷ rows) name = if bytes_eq name row.0 then Some row.1 else form_in rows name

-- the command of a name
unfoldable pub form_of : List ℕ → Option Form
form_of name = form_in named_forms name

-- where a server listens, and after how many events it ends
abbrev pub server_options : List (List ℕ)
server_options = codes "--listen" ∷ codes "--events" ∷ []

-- whom a client asks, and as whom
abbrev pub client_options : List (List ℕ)
client_options = codes "--me" ∷ codes "--port" ∷ codes "--to" ∷ codes "--netid" ∷ codes "--local" ∷ []

-- when samples are sent, and how many are wanted
abbrev pub sample_options : List (List ℕ)
sample_options = codes "--mode" ∷ codes "--cycle" ∷ codes "--count" ∷ []

-- the options that a command may have
unfoldable pub options_of : Form → List (List ℕ)
options_of form.Serve = server_options
options_of form.Relay = server_options
options_of form.Info = client_options
options_of form.State = client_options
options_of form.List = client_options
options_of form.Control = client_options
options_of form.Get = client_options
options_of form.Set = client_options
options_of form.Show = client_options
options_of form.Watch = client_options ++ sample_options
options_of form.Record = codes "--store" ∷ (client_options ++ sample_options)
options_of form.Selftest = []
options_of form.Check = []
options_of form.Replay = []
options_of form.Load = []
options_of form.Migrate = []
options_of form.Keep = []

-- an option is one of these, and none of the later ones is the same
abbrev pub may_stand : List (List ℕ) → List ℕ → List OptionWord → Bool
may_stand allowed name later = list_any (bytes_eq name) allowed && is_none (value_of name later)

-- each option is one of these, and none stands twice
unfoldable pub are_among : List (List ℕ) → List OptionWord → Bool
are_among allowed [] = true
are_among allowed (option ∷ options) = may_stand allowed option.name options && are_among allowed options
