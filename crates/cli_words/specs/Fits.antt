-- The ranges that the grammar tests: of the numbers and the texts of a command. This project's own choice.
use Rattle.std.specs.Prelude.{ℕ, ◌≡◌, ◌≤◌, ◌<◌, true, List, length, All}
use Rattle.cli_words.specs.declared.command.Command.{Command}
use Rattle.cli_words.specs.declared.command.Command.TheVariants as command
use Rattle.cli_words.specs.declared.client_words.ClientWords.{ClientWords}
use Rattle.cli_words.specs.declared.client_words.PeerWords.{PeerWords}
use Rattle.cli_words.specs.declared.client_words.PeerWords.TheVariants as peer
use Rattle.cli_words.specs.Values.{are_distinct}

-- a number from the least to the most
abbrev pub IsWithin : ℕ → ℕ → ℕ → Type 0
IsWithin least most n = (least ≤ n) × (n ≤ most)

-- the name of a file
abbrev pub IsFileName : List ℕ → Type 0
IsFileName name = 0 < length name

-- the name of a symbol, or a value
abbrev pub IsText : List ℕ → Type 0
IsText text = length text ≤ 65536

-- the names of symbols that are recorded
pub record AreNames (names : List (List ℕ)) : Type 0 where
  pub few : IsWithin 1 16 (length names)
  pub are_texts : All IsText names
  pub distinct : are_distinct names ≡ true

abbrev pub FitsPeer : PeerWords → Type 0
FitsPeer (peer.To to net) = Unit {0}
FitsPeer (peer.Local description) = IsFileName description

-- the options of a client: an AMS port, and the description of a server in the same process
abbrev pub FitsClient : ClientWords → Type 0
FitsClient client = IsWithin 1 65535 client.port × FitsPeer client.peer

-- a cycle of 32 bits, and how many samples
abbrev pub FitsSamples : ℕ → ℕ → Type 0
FitsSamples cycle count = (cycle ≤ 4294967295) × IsWithin 1 1000000 count

abbrev pub FitsCommand : Command → Type 0
FitsCommand (command.Selftest script) = IsFileName script
FitsCommand (command.Check description) = IsFileName description
FitsCommand (command.Replay description script) = IsFileName description × IsFileName script
FitsCommand (command.Serve description listen events) = IsFileName description × (events ≤ 18446744073709551615)
FitsCommand (command.Load n) = n ≤ 100000
FitsCommand (command.Info client) = FitsClient client
FitsCommand (command.State client) = FitsClient client
FitsCommand (command.List client) = FitsClient client
FitsCommand (command.Control ads device client) = (ads ≤ 65535) × (device ≤ 65535) × FitsClient client
FitsCommand (command.Get name client) = IsText name × FitsClient client
FitsCommand (command.Set name value client) = IsText name × IsText value × FitsClient client
FitsCommand (command.Watch name change cycle count client) = IsText name × FitsSamples cycle count × FitsClient client
FitsCommand (command.Migrate description) = IsFileName description
FitsCommand (command.Show name client) = IsText name × FitsClient client
FitsCommand (command.Relay description script) = IsFileName description × IsFileName script
FitsCommand (command.RelayServe description listen events) = IsFileName description × (events ≤ 18446744073709551615)
FitsCommand (command.Keep description script store) = IsFileName description × IsFileName script × IsFileName store
FitsCommand (command.Record names change cycle count store client) =
    AreNames names × FitsSamples cycle count × IsFileName store × FitsClient client
