-- A piece of a connection's bytes: it is cut into frames, which the device answers in order.
use Rattle.std.specs.Prelude.{ℕ, ◌+◌, List, [], ◌∷◌, ◌++◌, drop, if◌then◌else◌}
use Rattle.spec_frames.specs.Frame.{frame_bytes}
use Rattle.spec_frames.specs.Division.{frames_of, rest_of, front_of, is_broken}
use Rattle.spec_machine.specs.Device.{Device, Answer, Answered, Silent, Closing, FrameOutcome, Reply}
use Rattle.spec_machine.specs.Connection.{Connection, is_deaf, with_closing, produce}
use Rattle.spec_machine.specs.MachineState.{Exchange}

-- the bytes come in
abbrev pub with_received : {C : Type 0} → List ℕ → Connection C → Connection C
with_received piece k = record k { received = k.received ++ piece }

-- the AMS packets of the whole frames that are not taken yet
abbrev pub packets_left : {C : Type 0} → Connection C → List (List ℕ)
packets_left k = drop k.frames_taken (frames_of k.received)

abbrev pub with_one_taken : {C : Type 0} → Connection C → Connection C
with_one_taken k = record k { frames_taken = k.frames_taken + 1 }

abbrev pub with_client : {C : Type 0} → C → Connection C → Connection C
with_client client k = record k { client = client }

-- a reply is framed and produced
abbrev pub after_answer : {C : Type 0} → Answer → Connection C → Connection C
after_answer (Answered packet) k = produce (Reply (frame_bytes packet)) k
after_answer Silent k = k
after_answer Closing k = with_closing k

abbrev pub after_outcome : {W C : Type 0} → FrameOutcome W C → Connection C → Exchange W C
after_outcome o k = record {
  world = o.world;
  connection = after_answer o.answer (with_client o.client (with_one_taken k));
}

-- one frame is taken, unless the connection is closing by then
unfoldable pub after_packet : {W C : Type 0} → Device W C → List ℕ → Exchange W C → Exchange W C
after_packet device packet x =
    if x.connection.closing then x
    else after_outcome (device.take x.world x.connection.client packet) x.connection

unfoldable pub after_packets : {W C : Type 0} → Device W C → List (List ℕ) → Exchange W C
    → Exchange W C
after_packets device [] x = x
after_packets device (packet ∷ packets) x =
    after_packets device packets (after_packet device packet x)

-- a broken rest closes, behind all whole frames
abbrev pub after_rest : {C : Type 0} → Connection C → Connection C
after_rest k = if is_broken (front_of (rest_of k.received)) then with_closing k else k

abbrev pub with_piece : {W C : Type 0} → List ℕ → Exchange W C → Exchange W C
with_piece piece x = record x { connection = with_received piece x.connection }

abbrev pub end_of_piece : {W C : Type 0} → Exchange W C → Exchange W C
end_of_piece x = record x { connection = after_rest x.connection }

unfoldable pub after_piece : {W C : Type 0} → Device W C → List ℕ → Exchange W C → Exchange W C
after_piece device piece x =
    if is_deaf x.connection then x
    else end_of_piece (after_packets device
    (packets_left (with_received piece x.connection)) (with_piece piece x))
