-- What a machine that is served stands for: a state, and the connections that are blocked. Over any step.
use Rattle.std.specs.Prelude.{◌≡◌, ℕ, List, [], ◌∷◌, Bool, false, ◌&&◌, not, if◌then◌else◌}
use Rattle.std.specs.Prelude.{Option, Some, None}
use Rattle.ads_outside.specs.declared.event.Event.{Event}
use Rattle.ads_outside.specs.declared.event.Event.TheVariants as event
use Rattle.ads_outside.specs.declared.moves.Move.{Move}
use Rattle.spec_machine.specs.Connection.{Connection, connection_of}
use Rattle.spec_machine.specs.MachineState.{MachineState}
use Rattle.spec_machine.specs.Moves.{EventStep, state_after_move}
use Rattle.spec_machine.specs.Offers.{blocked_after_move, is_among, waiting_at}

pub record Running (W C : Type 0) : Type 0 where
  pub state : MachineState W C
  pub blocked : List ℕ

abbrev pub running_after : {W C : Type 0} → EventStep W C → Running W C → Move → Running W C
running_after step x m = record {
  state = state_after_move step x.state m;
  blocked = blocked_after_move x.blocked m;
}

-- a connection that is opened has a new number
abbrev pub OpensNew : {W C : Type 0} → Running W C → Event → Type 0
OpensNew x (event.Opened c) = connection_of c x.state.connections ≡ None
OpensNew x e = Unit {0}

abbrev pub first_frame : List (List ℕ) → Option (List ℕ)
first_frame [] = None
first_frame (f ∷ fs) = Some f

-- what is left of the first frame that waits, unless the connection is blocked
abbrev pub offer_at : {W C : Type 0} → ℕ → Running W C → Option (List ℕ)
offer_at c x = if is_among c x.blocked then None else first_frame (waiting_at c x.state)

-- a connection that is there is to be shut
abbrev pub is_to_be_shut : {C : Type 0} → Option (Connection C) → Bool
is_to_be_shut None = false
is_to_be_shut (Some k) = not k.gone && k.closing

abbrev pub is_to_be_shut_at : {W C : Type 0} → ℕ → Running W C → Bool
is_to_be_shut_at c x = is_to_be_shut (connection_of c x.state.connections)
