-- What each request, tick and reload keeps of a client is kept by every log.
use Rattle.std.proofs.Common.{◌≡◌, ℕ, List, [], ◌∷◌, Bool, true, false, cond, refl, sym, subst}
use Rattle.std.specs.Prelude.{Option, Some, None}
use Rattle.spec_formats.specs.Request.{Request}
use Rattle.spec_machine.specs.Device.{FrameOutcome, ClientOutcome}
use Rattle.spec_machine.specs.Connection.{Connection, is_deaf}
use Rattle.spec_machine.specs.MachineState.{Exchange}
use Rattle.spec_machine.specs.Piece.{with_received, packets_left, with_one_taken, with_client, after_outcome}
use Rattle.spec_machine.specs.Piece.{after_packet, after_packets, with_piece, end_of_piece, after_piece}
use Rattle.spec_machine.specs.Events.{after_client_outcome, connection_after_tick, connection_after_reload}
use Rattle.spec_machine.specs.World.{World, Setup, setup_of}
use Rattle.spec_machine.specs.Client.{Client, new_client, client_after}
use Rattle.spec_machine.specs.Acts.{effect_of, client_after_acts}
use Rattle.spec_machine.specs.Writes.{Asker}
use Rattle.spec_machine.specs.Requests.{act_of}
use Rattle.spec_machine.specs.Sums.{SumRequest, sum_of_reads, sum_of_writes, sum_of_read_writes, given_in_turn}
use Rattle.spec_machine.specs.Decisions.{Decision, NoAnswer, EndConnection, AmsError, refuse, acts_in}
use Rattle.spec_machine.specs.SumPackets.{client_after_request, acts_of, decide_parts, decide_single}
use Rattle.spec_machine.specs.Packets.{decide}
use Rattle.spec_machine.specs.Replies.{performed}
use Rattle.spec_machine.specs.Ticks.{client_after_tick}
use Rattle.spec_machine.specs.Reloads.{client_reloaded}
use Rattle.spec_machine.specs.AdsDevice.{DescriptionReading, ads_device}
use Rattle.spec_machine.proofs.Carried.{Carries, took-cases}
use Rattle.spec_machine.proofs.DecisionCases.{decide-cases}
use Rattle.spec_laws.proofs.Exchanges.{produce_all-client, answer-client, rest-client}

-- what is kept: I holds of a new client, and is kept by each request, tick and reload
pub record Keeps (I : Client → Type 0) : Type 0 where
  pub new : I new_client
  pub request : (d : Setup) (c : Client) (k : Asker) (r : Request) → I c → I (client_after c (effect_of (act_of d c k r)))
  pub tick : (now : ℕ) (w : World) (c : Client) → I c → I (client_after_tick now w c).client
  pub reload : (now : ℕ) (old new : World) (c : Client) → I c → I (client_reloaded now old new c).client

-- what a decision leaves, as a record so that `_` is found
record Leaves (I : Client → Type 0) (c : Client) (x : Decision) : Type 0 where
  left : I (client_after_acts c (acts_in x))

no_acts : (I : Client → Type 0) (c : Client) → I c → (x : Decision) → acts_in x ≡ [] → Leaves I c x
unfolding client_after_acts
no_acts I c i x e = record { left = subst (λ acts. I (client_after_acts c acts)) (sym e) i }

refused : (I : Client → Type 0) (c : Client) → I c → (code : ℕ) → Leaves I c (refuse code)
unfolding client_after_acts client_after
refused I c i code = record { left = i }

acts-leave : (I : Client → Type 0) → Keeps I → (d : Setup) (k : Asker) (rs : List Request) (c : Client) → I c → I (client_after_acts c (acts_of d c k rs))
unfolding acts_of given_in_turn client_after_acts
acts-leave I h d k [] c i = i
acts-leave I h d k (r ∷ rs) c i = acts-leave I h d k rs (client_after_request d k c r) (h.request d c k r i)

single-leaves : (I : Client → Type 0) → Keeps I → (d : Setup) (c : Client) (k : Asker) → I c → (r : Request) → Leaves I c (decide_single d c k r)
single-leaves I h d c k i r = record { left = acts-leave I h d k (r ∷ []) c i }

parts-leave : (I : Client → Type 0) → Keeps I → (d : Setup) (c : Client) (k : Asker)
    → I c → (s : SumRequest) (o : Option ℕ) → Leaves I c (decide_parts d c k s o)
parts-leave I h d c k i s (Some code) = refused I c i code
parts-leave I h d c k i s None = record { left = acts-leave I h d k s.parts c i }

decide-leaves : (I : Client → Type 0) → Keeps I → (d : Setup) (c : Client) → I c → (packet : List ℕ) → Leaves I c (decide d c packet)
decide-leaves I h d c i packet =
    decide-cases d c (Leaves I c)
    (record {
      silent = no_acts I c i NoAnswer refl;
      ends = no_acts I c i EndConnection refl;
      error = λ code. no_acts I c i (AmsError code) refl;
      refused = λ code. refused I c i code;
      single = λ k number e r. single-leaves I h d c k i r;
      reads = λ k number e n len bytes. parts-leave I h d c k i (sum_of_reads n bytes) _;
      writes = λ k number e n len bytes. parts-leave I h d c k i (sum_of_writes n bytes) _;
      read_writes = λ k number e n len bytes. parts-leave I h d c k i (sum_of_read_writes n bytes) _;
      more = λ k number e group sum is n len bytes. parts-leave I h d c k i (sum n bytes) _;
    })
    packet

packet-keeps : (reading : DescriptionReading) (I : Client → Type 0) → Keeps I → (p : List ℕ) (x : Exchange World Client)
    → I x.connection.client → I (after_packet (ads_device reading) p x).connection.client
unfolding after_packet performed
packet-keeps reading I h p x i = go x.connection.closing
  where
    decision : Decision
    decision = decide (setup_of x.world) x.connection.client p

    o : FrameOutcome World Client
    o = performed decision p x.world x.connection.client

    go : (b : Bool) → I (cond b x (after_outcome o x.connection)).connection.client
    go true = i
    go false = subst I (sym (answer-client o.answer (with_client o.client (with_one_taken x.connection))))
        (decide-leaves I h (setup_of x.world) x.connection.client i p).left

packets-keep : (reading : DescriptionReading) (I : Client → Type 0) → Keeps I → (ps : List (List ℕ)) (x : Exchange World Client)
    → I x.connection.client → I (after_packets (ads_device reading) ps x).connection.client
unfolding after_packets
packets-keep reading I h [] x i = i
packets-keep reading I h (p ∷ ps) x i = packets-keep reading I h ps (after_packet (ads_device reading) p x) (packet-keeps reading I h p x i)

piece-keeps : (reading : DescriptionReading) (I : Client → Type 0) → Keeps I → (bytes : List ℕ) (x : Exchange World Client)
    → I x.connection.client → I (after_piece (ads_device reading) bytes x).connection.client
unfolding after_piece
piece-keeps reading I h bytes x i = go (is_deaf x.connection)
  where
    y : Exchange World Client
    y = after_packets (ads_device reading) (packets_left (with_received bytes x.connection)) (with_piece bytes x)

    go : (b : Bool) → I (cond b x (end_of_piece y)).connection.client
    go true = i
    go false = subst I (sym (rest-client y.connection)) (packets-keep reading I h (packets_left (with_received bytes x.connection)) (with_piece bytes x) i)

outcome-keeps : (I : Client → Type 0) (o : ClientOutcome Client) (k : Connection Client)
    → I k.client → I o.client → I (cond (is_deaf k) k (after_client_outcome o k)).client
outcome-keeps I o k i j = go (is_deaf k)
  where
    go : (b : Bool) → I (cond b k (after_client_outcome o k)).client
    go true = i
    go false = subst I (sym (produce_all-client o.frames (with_client o.client k))) j

abbrev pub MaybeKept : (Client → Type 0) → Option (Connection Client) → Type 0
MaybeKept I None = Unit {0}
MaybeKept I (Some k) = I k.client

pub carries : (reading : DescriptionReading) (I : Client → Type 0) → Keeps I → Carries (ads_device reading) (MaybeKept I)
unfolding connection_after_tick connection_after_reload
carries reading I h = record {
  events = record {
    fresh = λ n i. h.new;
    piece = λ bytes x i. piece-keeps reading I h bytes x i;
    tick = λ now w k i. outcome-keeps I (client_after_tick now w k.client) k i (h.tick now w k.client i);
    reload = λ now old new k i. outcome-keeps I (client_reloaded now old new k.client) k i (h.reload now old new k.client i);
    gone = λ x i. i;
  };
  took = λ n x i. took-cases (λ (l : Connection Client). I l.client) n x i i;
}
