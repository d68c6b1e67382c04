-- What a client keeps stands for a history: whatever it is asked then, it answers as that history says.
use Rattle.std.specs.Prelude.{◌≡◌, ℕ, ◌+◌, List, ◌++◌, length, take, filter, slice_get, Option, Some, None}
use Rattle.spec_frames.specs.Division.{frames_of}
use Rattle.spec_formats.specs.Header.{AmsAddress}
use Rattle.ams_tcp.specs.History as stream
use Rattle.spec_client.specs.PassedOver.{says_something}
use Rattle.spec_client.specs.Client.{Client, new_client}
use Rattle.spec_client.specs.History.{ClientHistory, client_after}
use Rattle.client_core.specs.Kept.{Kept, waiting_count}

-- the packet that waits is the one behind so many frames
abbrev pub IsNextFrame : Option (List ℕ) → ℕ → List ℕ → Type 0
IsNextFrame None given received = Unit {0}
IsNextFrame (Some packet) given received = slice_get (frames_of received) given ≡ Some packet

-- so many frames of the client's bytes were cut and heard, or passed over
pub record Streams (k : Kept) (c : Client) : Type 0 where
  pub given : ℕ
  pub stream : stream.Represents k.stream (record { fed = c.received; given = given + waiting_count k.waiting; told_broken = k.stream.told_broken })
  pub waiting : IsNextFrame k.waiting given c.received
  pub taken : length (filter says_something (take given (frames_of c.received))) ≡ c.taken

-- what is kept stands for this client
pub record StandsFor (k : Kept) (c : Client) : Type 0 where
  pub me : k.me ≡ c.me
  pub peer : k.peer ≡ c.peer
  pub last_id : k.last_id ≡ c.last_id
  pub unanswered : k.unanswered ≡ c.unanswered
  pub streams : Streams k c
  pub samples : k.samples ≡ c.samples
  pub broken : k.broken ≡ c.broken

-- what is kept stands for this history of a client with these addresses
abbrev pub Represents : AmsAddress → AmsAddress → Kept → ClientHistory → Type 0
Represents me peer k history = StandsFor k (client_after (new_client me peer) history)
