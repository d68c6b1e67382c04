-- What the server gives, over every device: output grows only at its end, a connection that is closing or
-- gone is given nothing more, and its queue has a limit.
use Rattle.std.specs.Prelude.{◌≡◌, ℕ, ◌+◌, ◌≤◌, ◌<◌, List, length, true, false, Some}
use Rattle.ads_outside.specs.declared.event.Event.TheVariants as event
use Rattle.ads_outside.specs.declared.moves.Move.{Move}
use Rattle.spec_machine.specs.Device.{Device, Produced}
use Rattle.spec_machine.specs.Connection.{Connection, connection_of, is_deaf, bytes_of, queued_of}
use Rattle.spec_machine.specs.Connection.{fresh_connection, with_frame, with_closing, produce}
use Rattle.spec_machine.specs.MachineState.{MachineState, present_numbers, without_gone, output_of}
use Rattle.spec_machine.specs.Moves.{state_after}
use Rattle.spec_machine.specs.Events.{state_after_event}
use Rattle.spec_machine.specs.Offers.{is_among}
use Rattle.spec_machine.specs.Delivery.{IsPrefix, OnlyAdds, KeepsThere}

-- The server's machine is one of those that only add.
abbrev pub ServerOnlyAdds : (W C : Type 0) → Type 0
ServerOnlyAdds W C = (device : Device W C) → OnlyAdds (state_after_event device)

abbrev pub ServerKeepsThere : (W C : Type 0) → Type 0
ServerKeepsThere W C = (device : Device W C) → KeepsThere (state_after_event device)

-- A number that is borne by no connection that is there may be opened again, once those that are gone are
-- forgotten: it is then a new connection, and all that are there stay as they are.
pub record OpensAgain {W C : Type 0} (device : Device W C) (s : MachineState W C) : Type 0 where
  pub stay : (c : ℕ) (k : Connection C) → connection_of c s.connections ≡ Some k → k.gone ≡ false
      → connection_of c (without_gone s).connections ≡ Some k
  pub opened : (c : ℕ) → is_among c (present_numbers s) ≡ false
      → connection_of c (state_after_event device (without_gone s) (event.Opened c)).connections
      ≡ Some (fresh_connection device.new_client c)

abbrev pub NumbersOpenAgain : (W C : Type 0) → Type 0
NumbersOpenAgain W C = (device : Device W C) (s : MachineState W C) → OpensAgain device s

-- What a connection was given grows only at its end.
abbrev pub OutputGrows : (W C : Type 0) → Type 0
OutputGrows W C = (device : Device W C) (s : MachineState W C) (c : ℕ) (log : List Move)
    → IsPrefix (output_of c s) (output_of c (state_after (state_after_event device) s log))

-- nothing more comes in, is taken or is produced
pub record IsAtRest {C : Type 0} (k l : Connection C) : Type 0 where
  pub received : l.received ≡ k.received
  pub frames_taken : l.frames_taken ≡ k.frames_taken
  pub client : l.client ≡ k.client
  pub produced : l.produced ≡ k.produced

-- A connection that is closing or gone takes and produces nothing more.
abbrev pub ClosingEnds : (W C : Type 0) → Type 0
ClosingEnds W C = (device : Device W C) (s : MachineState W C) (c : ℕ) (log : List Move)
    (k : Connection C) → connection_of c s.connections ≡ Some k → is_deaf k ≡ true
    → (l : Connection C) × (connection_of c (state_after (state_after_event device) s log).connections ≡ Some l) × IsAtRest k l

-- A frame is produced exactly where the bytes that wait with it are at most 4,194,304; else the
-- connection is closing.
pub record ProducesByLimit {C : Type 0} (f : Produced) (k : Connection C) : Type 0 where
  pub fits : queued_of k + length (bytes_of f) ≤ 4194304 → produce f k ≡ with_frame f k
  pub over : 4194304 < queued_of k + length (bytes_of f) → produce f k ≡ with_closing k

abbrev pub LimitsQueue : (C : Type 0) → Type 0
LimitsQueue C = (f : Produced) (k : Connection C) → k.closing ≡ false → ProducesByLimit f k
