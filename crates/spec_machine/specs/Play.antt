-- The play of a script: its events, each followed by the offers to each connection of the machine,
-- in the order of their opening.
use Rattle.std.specs.Prelude.{ℕ, List, [], ◌∷◌, map, flat_map}
use Rattle.ads_outside.specs.declared.event.Event.{Event}
use Rattle.ads_outside.specs.declared.event.Event.TheVariants as event
use Rattle.ads_outside.specs.declared.moves.Move.{Move}
use Rattle.ads_outside.specs.declared.moves.Move.TheVariants as move
use Rattle.spec_machine.specs.MachineState.{MachineState, present_numbers}
use Rattle.spec_machine.specs.Moves.{EventStep, state_after}
use Rattle.spec_machine.specs.Offers.{waiting_at, is_closing_at}
use Rattle.spec_machine.specs.Turns.{LogTurn, moves_of_turn}
use Rattle.spec_machine.specs.ScriptLine.{ScriptLine, Happens, TakesAtMost, FailsNext}
use Rattle.spec_machine.specs.Peers.{Peers, first_peers, with_room, with_failing}
use Rattle.spec_machine.specs.Peers.{moves_of_connection, peers_after_move, peers_after}

-- the machine and the peers of its connections
pub record Scene (W C : Type 0) : Type 0 where
  pub peers : Peers
  pub state : MachineState W C

abbrev pub scene_after : {W C : Type 0} → EventStep W C → Scene W C → List Move → Scene W C
scene_after step x ms =
    record { peers = peers_after x.peers ms; state = state_after step x.state ms }

abbrev pub scene_after_event : {W C : Type 0} → EventStep W C → Scene W C → Event → Scene W C
scene_after_event step x e = record {
  peers = peers_after_move x.peers (move.Event e);
  state = step x.state e;
}

-- the moves of one connection
abbrev pub moves_at : {W C : Type 0} → Scene W C → ℕ → List Move
moves_at x c = moves_of_connection x.peers c (is_closing_at c x.state) (waiting_at c x.state)

-- the moves of these connections, one connection after another
unfoldable pub moves_of_each : {W C : Type 0} → EventStep W C → Scene W C → List ℕ → List (List Move)
moves_of_each step x [] = []
moves_of_each step x (c ∷ cs) =
    moves_at x c ∷ moves_of_each step (scene_after step x (moves_at x c)) cs

-- the moves of all connections that are there
abbrev pub moves_of_all : {W C : Type 0} → EventStep W C → Scene W C → List (List Move)
moves_of_all step x = moves_of_each step x (present_numbers x.state)

-- an event, and the moves of each connection after it
abbrev pub turn_of : {W C : Type 0} → EventStep W C → Scene W C → Event → LogTurn
turn_of step x e =
    record { event = e; served = moves_of_all step (scene_after_event step x e) }

abbrev pub scene_after_turn : {W C : Type 0} → EventStep W C → Scene W C → Event → Scene W C
scene_after_turn step x e = scene_after step x (moves_of_turn (turn_of step x e))

abbrev pub with_peers : {W C : Type 0} → Peers → Scene W C → Scene W C
with_peers peers x = record x { peers = peers }

unfoldable pub turns_of : {W C : Type 0} → EventStep W C → Scene W C → List ScriptLine → List LogTurn
turns_of step x [] = []
turns_of step x (Happens e ∷ lines) =
    turn_of step x e ∷ turns_of step (scene_after_turn step x e) lines
turns_of step x (TakesAtMost c n ∷ lines) =
    let roomy = with_peers (with_room c n x.peers) x in
    turn_of step roomy (event.Writable c)
    ∷ turns_of step (scene_after_turn step roomy (event.Writable c)) lines
turns_of step x (FailsNext c ∷ lines) =
    turns_of step (with_peers (with_failing c x.peers) x) lines

-- the log of a script, played on a machine in this state
abbrev pub play_of : {W C : Type 0} → EventStep W C → MachineState W C → List ScriptLine → List Move
play_of step s lines =
    flat_map moves_of_turn (turns_of step (record { peers = first_peers; state = s }) lines)

abbrev pub play_of_events : {W C : Type 0} → EventStep W C → MachineState W C → List Event → List Move
play_of_events step s events = play_of step s (map Happens events)
