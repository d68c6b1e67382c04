-- The history of a client: what it issued, what came, the ticks, and how often it was heard. What is heard next is a function of it.
use Rattle.std.specs.Prelude.{ℕ, List, [], ◌∷◌, Option}
use Rattle.spec_formats.specs.Header.{AmsAddress}
use Rattle.spec_formats.specs.Request.{Request}
use Rattle.spec_client.specs.Heard.{Heard}
use Rattle.spec_client.specs.Client.{Client, new_client, Issued, issued_by, client_after_issue, client_after_feed, client_after_tick}
use Rattle.spec_client.specs.Hearing.{next_hearing}

pub data ClientMove : Type 0 where
  -- a request is issued, at a moment
  Issue : Request → ℕ → ClientMove
  -- bytes came
  Fed : List ℕ → ClientMove
  -- a tick of the clock
  Tick : ℕ → ClientMove
  -- the client was asked what is heard
  Next : ClientMove

abbrev pub ClientHistory : Type 0
ClientHistory = List ClientMove

unfoldable pub client_after_move : Client → ClientMove → Client
client_after_move c (Issue request now) = client_after_issue c request now
client_after_move c (Fed piece) = client_after_feed c piece
client_after_move c (Tick now) = client_after_tick c now
client_after_move c Next = (next_hearing c).client

unfoldable pub client_after : Client → ClientHistory → Client
client_after c [] = c
client_after c (move ∷ history) = client_after (client_after_move c move) history

-- what is heard next
abbrev pub heard_after : AmsAddress → AmsAddress → ClientHistory → Heard
heard_after me peer history = (next_hearing (client_after (new_client me peer) history)).heard

-- what is issued for a request; none at 64 outstanding ones
abbrev pub issued_after : AmsAddress → AmsAddress → ClientHistory → Request → Option Issued
issued_after me peer history request = issued_by (client_after (new_client me peer) history) request

-- all that is heard in a history, in its order
unfoldable pub all_heard : Client → ClientHistory → List Heard
all_heard c [] = []
all_heard c (Next ∷ history) = (next_hearing c).heard ∷ all_heard (next_hearing c).client history
all_heard c (move ∷ history) = all_heard (client_after_move c move) history
