-- What became of each frame that a relay took, in their order.
use Rattle.std.specs.Prelude.{ℕ, List, [], ◌∷◌, ◌++◌, if◌then◌else◌, Option, Some, None}
use Rattle.ads_outside.specs.declared.event.Event.{Event}
use Rattle.ads_outside.specs.declared.event.Event.TheVariants as event
use Rattle.ads_outside.specs.declared.moves.Move.{Move}
use Rattle.ads_outside.specs.declared.moves.Move.TheVariants as move
use Rattle.spec_machine.specs.Connection.{connection_of, is_deaf}
use Rattle.spec_machine.specs.Piece.{with_received, packets_left}
use Rattle.spec_machine.specs.Moves.{state_after_move}
use Rattle.spec_relay.specs.RelayState.{RelayConnection, RelayState}
use Rattle.spec_relay.specs.Routing.{Fate, outcome_of_frame, at_connection, after_frame}
use Rattle.spec_relay.specs.RelayMoves.{relay_after_event}

-- a frame: who sent it, its AMS packet, and what became of it
pub record Passage : Type 0 where
  pub sender : ℕ
  pub packet : List ℕ
  pub fate : Fate

-- the passage of one frame; none where its connection is closing by then
abbrev pub passages_of_frame_at : ℕ → List ℕ → RelayState → Option RelayConnection → List Passage
passages_of_frame_at c packet s None = []
passages_of_frame_at c packet s (Some k) =
    if k.closing then [] else record { sender = c; packet = packet; fate = (outcome_of_frame c packet k s).fate } ∷ []

unfoldable pub passages_of_frame : ℕ → List ℕ → RelayState → List Passage
passages_of_frame c packet s = passages_of_frame_at c packet s (connection_of c s.connections)

unfoldable pub passages_of_frames : ℕ → List (List ℕ) → RelayState → List Passage
passages_of_frames c [] s = []
passages_of_frames c (packet ∷ packets) s =
    passages_of_frame c packet s ++ passages_of_frames c packets (after_frame c packet s)

abbrev pub passages_of_piece : ℕ → List ℕ → RelayState → Option RelayConnection → List Passage
passages_of_piece c piece s None = []
passages_of_piece c piece s (Some k) =
    if is_deaf k then []
    else passages_of_frames c (packets_left (with_received piece k)) (at_connection c (with_received piece) s)

abbrev pub passages_of_event : RelayState → Event → List Passage
passages_of_event s (event.Piece c piece) = passages_of_piece c piece s (connection_of c s.connections)
passages_of_event s e = []

abbrev pub passages_of_move : RelayState → Move → List Passage
passages_of_move s (move.Event e) = passages_of_event s e
passages_of_move s m = []

-- the passages of a log
unfoldable pub passages_of : RelayState → List Move → List Passage
passages_of s [] = []
passages_of s (m ∷ ms) = passages_of_move s m ++ passages_of (state_after_move relay_after_event s m) ms
