-- A tick gives a connection whose notifications go between the same addresses their samples in one frame, or it closes the connection,
-- or nothing comes.
use Rattle.std.proofs.Common.{◌≡◌, ◌⊎◌, ℕ, suc, ◌+◌, ◌<◌, ◌≤◌, ◌^◌, List, [], ◌∷◌, ◌++◌, length, map, Bool, true, false, refl, sym, ap, ◌∙◌, subst, inl, inr}
use Rattle.std.proofs.Common.{arith, append_assoc}
use Rattle.std.specs.Prelude.{Some, flat_map, ◌&&◌, ◌||◌, if◌then◌else◌}
use Rattle.std.specs.Int.{w32, w64, to_le_bytes}
use Rattle.std.specs.List.{AllByRecursion}
use Rattle.std.proofs.lemmas.Bool.{cases_Bool, cond-true, cond-false, leb-true}
use Rattle.std.proofs.lemmas.List.{append-nil, length-append, length-map, drop_at}
use Rattle.spec_frames.specs.Frame.{frame_bytes}
use Rattle.spec_plant.specs.World.{Block}
use Rattle.spec_formats.specs.Codes.{no_error}
use Rattle.spec_formats.specs.Commands.{DEVICE_NOTIFICATION}
use Rattle.spec_formats.specs.Header.{AmsAddress, AmsHeader, IsAddress, IsHeader, header_bytes, payload_of, request_flags}
use Rattle.spec_formats.specs.Notification.{Sample, Stamp, FitsSample, sample_bytes, stamp_bytes, stamps_bytes, notification_bytes}
use Rattle.spec_formats.specs.NotificationReading.{notification_of}
use Rattle.spec_formats.proofs.HeaderLemmas.{header_of-header_bytes, length-header_bytes}
use Rattle.spec_formats.proofs.NotificationLemmas.{notification_of-of_text}
use Rattle.spec_machine.proofs.Find.{test_same}
use Rattle.spec_machine.specs.Access.{Addressed, values_at}
use Rattle.spec_machine.specs.AdsDevice.{DescriptionReading, ads_device}
use Rattle.spec_machine.specs.Client.{Client}
use Rattle.spec_machine.specs.Connection.{Connection, MAX_QUEUED, with_closing, with_frame, bytes_of, queued_of, fits, produce, produce_all}
use Rattle.spec_machine.specs.Device.{Produced}
use Rattle.spec_machine.specs.Events.{connection_after_tick}
use Rattle.spec_machine.specs.Piece.{with_client}
use Rattle.spec_machine.specs.Stamps.{SampleGroup, goes_with, group_of_sample, grouped, stamp_payload, notification_packet, notification_frame}
use Rattle.spec_machine.specs.Stamps.{frames_of_samples, samples_at, watches_after_tick}
use Rattle.spec_machine.specs.Ticks.{client_after_tick}
use Rattle.spec_machine.specs.Watches.{Watch, AddressedSample, is_due, is_sent, addressed_sample, samples_of}
use Rattle.spec_machine.specs.World.{World}
use Rattle.spec_local_room.proofs.Coming.{length-frame_bytes}
use Rattle.spec_local_room.proofs.Hearing.{IsAmong, HasSamples, same_address}
use Rattle.spec_local_room.proofs.Pieces.{TakesWhole, Closes}

-- a notification between these addresses, over this NetId, whose handle passes a test and which watches something
pub record IsWatched (me peer : AmsAddress) (net : List ℕ) (test : ℕ → Bool) (w : Watch (List Addressed)) : Type 0 where
  pub handle : test w.handle ≡ true
  pub small : w.handle < 2 ^ 32
  pub port : w.port ≡ peer.port
  pub address : w.address ≡ me
  pub net_is : net ≡ peer.net
  pub some : w.watched ≡ [] → ⊥

abbrev pub KeepsAll : AmsAddress → AmsAddress → List ℕ → (ℕ → Bool) → List (Watch (List Addressed)) → Type 0
KeepsAll me peer net test ws = AllByRecursion (IsWatched me peer net test) ws

-- a check keeps what a notification is
checked_all : (me peer : AmsAddress) (net : List ℕ) (test : ℕ → Bool) (now : ℕ) (bytes : List ℕ) (w : Watch (List Addressed)) (due sent : Bool)
    → IsWatched me peer net test w
    → IsWatched me peer net test (if due then (if sent then record w { last = Some now; sent = bytes } else record w { last = Some now }) else w)
checked_all me peer net test now bytes w true true kept =
    record { handle = kept.handle; small = kept.small; port = kept.port; address = kept.address; net_is = kept.net_is; some = kept.some }
checked_all me peer net test now bytes w true false kept =
    record { handle = kept.handle; small = kept.small; port = kept.port; address = kept.address; net_is = kept.net_is; some = kept.some }
checked_all me peer net test now bytes w false sent kept = kept

watches_all : (me peer : AmsAddress) (net : List ℕ) (test : ℕ → Bool) (memory : List Block) (now : ℕ) (ws : List (Watch (List Addressed)))
    → KeepsAll me peer net test ws → KeepsAll me peer net test (watches_after_tick memory now ws)
unfolding watches_after_tick
watches_all me peer net test memory now [] all = tt
watches_all me peer net test memory now (w ∷ ws) all =
    let bytes = values_at memory w.watched in (
      checked_all me peer net test now bytes w (is_due now w) (is_sent bytes w) all.0,
      watches_all me peer net test memory now ws all.1,
    )

length-watches_after_tick : (memory : List Block) (now : ℕ) (ws : List (Watch (List Addressed))) → length (watches_after_tick memory now ws) ≡ length ws
unfolding watches_after_tick
length-watches_after_tick memory now ws = length-map ws _

-- the samples of a tick

one_at_most : (s : AddressedSample) (b : Bool) → length (if b then s ∷ [] else []) ≤ 1
one_at_most s true = omega arith
one_at_most s false = omega arith

length-samples_at : (memory : List Block) (now : ℕ) (ws : List (Watch (List Addressed))) → length (samples_at memory now ws) ≤ length ws
unfolding samples_at
length-samples_at memory now [] = omega arith
length-samples_at memory now (w ∷ ws) =
    let bytes = values_at memory w.watched in
    let one : length (samples_of now bytes w) ≤ 1 = one_at_most (addressed_sample bytes w) (is_due now w && is_sent bytes w) in
    let sum = length-append (samples_of now bytes w) (samples_at memory now ws) in
    let rest = length-samples_at memory now ws in
    omega (arith, one, sum, rest)

-- a sample that goes from one address to the other
record GoesSo (me peer : AmsAddress) (net : List ℕ) (test : ℕ → Bool) (s : AddressedSample) : Type 0 where
  port : s.port ≡ peer.port
  address : s.address ≡ me
  net_is : net ≡ peer.net
  among : IsAmong test s.sample
  small : s.sample.handle < 2 ^ 32

pub all-append : {A : Type 0} (P : A → Type 0) (xs ys : List A) → AllByRecursion P xs → AllByRecursion P ys → AllByRecursion P (xs ++ ys)
all-append P [] ys all more = more
all-append P (x ∷ xs) ys all more = (all.0, all-append P xs ys all.1 more)

no_values : (memory : List Block) (places : List Addressed) → values_at memory places ≡ [] → places ≡ []
no_values memory [] none = refl
no_values memory (p ∷ ps) none = absurd cc

sample_goes : (me peer : AmsAddress) (net : List ℕ) (test : ℕ → Bool) (memory : List Block) (w : Watch (List Addressed)) (b : Bool)
    → IsWatched me peer net test w
    → AllByRecursion (GoesSo me peer net test) (if b then addressed_sample (values_at memory w.watched) w ∷ [] else [])
sample_goes me peer net test memory w true kept = (
  record {
    port = kept.port;
    address = kept.address;
    net_is = kept.net_is;
    among = record { handle = kept.handle; some = λ none. kept.some (no_values memory w.watched none) };
    small = kept.small;
  },
  tt,
)
sample_goes me peer net test memory w false kept = tt

samples_go : (me peer : AmsAddress) (net : List ℕ) (test : ℕ → Bool) (memory : List Block) (now : ℕ) (ws : List (Watch (List Addressed)))
    → KeepsAll me peer net test ws → AllByRecursion (GoesSo me peer net test) (samples_at memory now ws)
unfolding samples_at
samples_go me peer net test memory now [] all = tt
samples_go me peer net test memory now (w ∷ ws) all =
    let bytes = values_at memory w.watched in
    all-append (GoesSo me peer net test) (samples_of now bytes w) _
    (sample_goes me peer net test memory w (is_due now w && is_sent bytes w) all.0) (samples_go me peer net test memory now ws all.1)

-- they are one group

abbrev plain : List AddressedSample → List Sample
plain ss = map (λ (s : AddressedSample). s.sample) ss

joins : (me peer : AmsAddress) (net : List ℕ) (test : ℕ → Bool) (s : AddressedSample) (g : SampleGroup) → GoesSo me peer net test s
    → g.port ≡ peer.port → g.address ≡ me → goes_with s g ≡ true
joins me peer net test s g goes port address =
    rw (goes.port, goes.address, port, address, test_same peer.port peer.port refl, same_address me) refl

grouped_on : (me peer : AmsAddress) (net : List ℕ) (test : ℕ → Bool) (g : SampleGroup) (ss : List AddressedSample)
    → AllByRecursion (GoesSo me peer net test) ss → g.port ≡ peer.port → g.address ≡ me
    → grouped (g ∷ []) ss ≡ record g { samples = g.samples ++ plain ss } ∷ []
unfolding grouped
grouped_on me peer net test g [] all port address = ap (λ (l : List Sample). record g { samples = l } ∷ []) (sym (append-nil g.samples))
grouped_on me peer net test g (s ∷ ss) all port address =
    let next : SampleGroup = record g { samples = g.samples ++ s.sample ∷ [] } in
    ap (λ (gs : List SampleGroup). grouped gs ss) (cond-true (goes_with s g) (next ∷ []) _ (joins me peer net test s g all.0 port address))
    ∙ grouped_on me peer net test next ss all.1 port address
    ∙ ap (λ (l : List Sample). record g { samples = l } ∷ []) (append_assoc g.samples (s.sample ∷ []) (plain ss))

-- all of a tick's samples
abbrev group_of_all : AddressedSample → List AddressedSample → SampleGroup
group_of_all s ss = record { port = s.port; address = s.address; samples = s.sample ∷ plain ss }

grouped_all : (me peer : AmsAddress) (net : List ℕ) (test : ℕ → Bool) (s : AddressedSample) (ss : List AddressedSample)
    → AllByRecursion (GoesSo me peer net test) (s ∷ ss) → grouped [] (s ∷ ss) ≡ group_of_all s ss ∷ []
unfolding grouped
grouped_all me peer net test s ss all = grouped_on me peer net test (group_of_sample s) ss all.1 all.0.port all.0.address

-- one frame, of no more samples than this
record OneFrame (me peer : AmsAddress) (net : List ℕ) (test : ℕ → Bool) (now most : ℕ) (frames : List Produced) : Type 0 where
  first : AddressedSample
  others : List AddressedSample
  few : suc (length others) ≤ most
  all : AllByRecursion (GoesSo me peer net test) (first ∷ others)
  is : frames ≡ notification_frame net now (group_of_all first others) ∷ []

no_frames : (net : List ℕ) (now : ℕ) → frames_of_samples net now [] ≡ []
unfolding frames_of_samples grouped
no_frames net now = refl

frames_so : (me peer : AmsAddress) (net : List ℕ) (test : ℕ → Bool) (now most : ℕ) (ss : List AddressedSample)
    → AllByRecursion (GoesSo me peer net test) ss → length ss ≤ most
    → (frames_of_samples net now ss ≡ []) ⊎ OneFrame me peer net test now most (frames_of_samples net now ss)
unfolding frames_of_samples
frames_so me peer net test now most [] all few = inl (no_frames net now)
frames_so me peer net test now most (s ∷ ss) all few = inr (record {
  first = s;
  others = ss;
  few = few;
  all = all;
  is = ap (map (notification_frame net now)) (grouped_all me peer net test s ss all);
})

-- the packet of samples is read as they are

abbrev stamp_for : ℕ → List Sample → Stamp
stamp_for now samples = record { time = now; samples = samples }

abbrev packet_for : List ℕ → ℕ → SampleGroup → List ℕ
packet_for net now g = notification_packet net g (stamp_payload now g.samples)

abbrev header_for : List ℕ → ℕ → SampleGroup → AmsHeader
header_for net now g = record {
  target = g.address;
  source = record { net = net; port = g.port };
  command = DEVICE_NOTIFICATION;
  flags = request_flags;
  len = length (stamp_payload now g.samples);
  error = no_error;
  id = 0;
}

abbrev sizes_of : List Sample → ℕ
sizes_of ss = length (flat_map sample_bytes ss)

length-sample : (s : Sample) → length (sample_bytes s) ≡ 8 + length s.bytes
length-sample s = length-append (to_le_bytes w32 s.handle ++ to_le_bytes w32 (length s.bytes)) s.bytes

length-samples : (s : Sample) (ss : List Sample) → sizes_of (s ∷ ss) ≡ 8 + length s.bytes + sizes_of ss
length-samples s ss =
    let sum = length-append (sample_bytes s) (flat_map sample_bytes ss) in let one = length-sample s in omega (arith, sum, one)

few_samples : (ss : List Sample) → length ss ≤ sizes_of ss
few_samples [] = omega arith
few_samples (s ∷ ss) = let sum = length-samples s ss in let rest = few_samples ss in omega (arith, sum, rest)

abbrev HasHandles : List Sample → Type 0
HasHandles ss = AllByRecursion (λ (s : Sample). s.handle < 2 ^ 32) ss

samples_fit : (ss : List Sample) → HasHandles ss → sizes_of ss < 2 ^ 31 → AllByRecursion FitsSample ss
samples_fit [] all small = tt
samples_fit (s ∷ ss) all small =
    let sum = length-samples s ss in (record { handle = all.0; size = omega (arith, sum, small) }, samples_fit ss all.1 (omega (arith, sum, small)))

length-stamps : (now : ℕ) (ss : List Sample) → length (stamps_bytes (stamp_for now ss ∷ [])) ≡ 16 + sizes_of ss
length-stamps now ss =
    let st = stamp_for now ss in
    let c : length (stamp_bytes st) ≡ 12 + sizes_of ss = length-append (to_le_bytes w64 now ++ to_le_bytes w32 (length ss)) (flat_map sample_bytes ss) in
    let d : length (stamp_bytes st ++ []) ≡ length (stamp_bytes st) + 0 = length-append (stamp_bytes st) [] in
    let e : length (stamps_bytes (st ∷ [])) ≡ 4 + length (stamp_bytes st ++ []) = length-append (to_le_bytes w32 1) (stamp_bytes st ++ []) in
    omega (arith, c, d, e)

length-payload : (now : ℕ) (ss : List Sample) → length (stamp_payload now ss) ≡ 20 + sizes_of ss
length-payload now ss =
    let sts = stamp_for now ss ∷ [] in
    let l = length-stamps now ss in
    let e : length (notification_bytes sts) ≡ 4 + length (stamps_bytes sts) = length-append (to_le_bytes w32 (length (stamps_bytes sts))) (stamps_bytes sts) in
    omega (arith, l, e)

sizes_small : (net : List ℕ) (now : ℕ) (g : SampleGroup) → length (packet_for net now g) < 2 ^ 30 → sizes_of g.samples < 2 ^ 30
sizes_small net now g small =
    let sum = length-append (header_bytes (header_for net now g)) (stamp_payload now g.samples) in
    let l = length-payload now g.samples in
    omega (arith, sum, l, small)

header_fits : (me peer : AmsAddress) (net : List ℕ) (test : ℕ → Bool) (now : ℕ) (s : AddressedSample) (ss : List AddressedSample)
    → IsAddress me → IsAddress peer → GoesSo me peer net test s → sizes_of (s.sample ∷ plain ss) < 2 ^ 30
    → IsHeader (header_for net now (group_of_all s ss))
header_fits me peer net test now s ss mine other goes small =
    let l = length-payload now (s.sample ∷ plain ss) in
    record {
      target = subst IsAddress (sym goes.address) mine;
      source = record { six_bytes = ap (λ n. length n) goes.net_is ∙ other.six_bytes; port = subst (λ n. n < 2 ^ 16) (sym goes.port) other.port };
      command = omega arith;
      flags = omega arith;
      len = omega (arith, l, small);
      error = omega arith;
      id = omega arith;
    }

stamps_read : (now : ℕ) (ss : List Sample) → now < 2 ^ 64 → HasHandles ss → sizes_of ss < 2 ^ 30
    → notification_of (stamp_payload now ss) ≡ Some (stamp_for now ss ∷ [])
stamps_read now ss time handles small =
    let l = length-stamps now ss in
    let few = few_samples ss in
    notification_of-of_text (stamp_payload now ss) (stamp_for now ss ∷ []) (record {
      count = omega arith;
      fits = (record { time = time; count = omega (arith, few, small); samples = samples_fit ss handles (omega (arith, small)) }, tt);
      stated = length (stamps_bytes (stamp_for now ss ∷ []));
      stated_fits = omega (arith, l, small);
      stated_length = inl refl;
      whole = refl;
    })

all_handles : (me peer : AmsAddress) (net : List ℕ) (test : ℕ → Bool) (ss : List AddressedSample) → AllByRecursion (GoesSo me peer net test) ss
    → HasHandles (plain ss)
all_handles me peer net test [] all = tt
all_handles me peer net test (s ∷ ss) all = (all.0.small, all_handles me peer net test ss all.1)

all_among : (me peer : AmsAddress) (net : List ℕ) (test : ℕ → Bool) (ss : List AddressedSample) → AllByRecursion (GoesSo me peer net test) ss
    → AllByRecursion (IsAmong test) (plain ss)
all_among me peer net test [] all = tt
all_among me peer net test (s ∷ ss) all = (all.0.among, all_among me peer net test ss all.1)

abbrev samples_read : (me peer : AmsAddress) (net : List ℕ) (test : ℕ → Bool) (now : ℕ) (s : AddressedSample) (ss : List AddressedSample)
    → IsAddress me → IsAddress peer → AllByRecursion (GoesSo me peer net test) (s ∷ ss) → now < 2 ^ 64
    → length (packet_for net now (group_of_all s ss)) < 2 ^ 30 → HasSamples test (packet_for net now (group_of_all s ss))
samples_read me peer net test now s ss mine other all time small =
    let g = group_of_all s ss in
    let few = sizes_small net now g small in
    let payload = stamp_payload now g.samples in
    let h = header_for net now g in
    let fits = header_fits me peer net test now s ss mine other all.0 few in
    let head = length-header_bytes h fits in
    let sum = length-append (header_bytes h) payload in
    let behind : payload_of (packet_for net now g) ≡ payload = drop_at (header_bytes h) payload 32 head in
    record {
      header = h;
      read = header_of-header_bytes h payload fits;
      len = omega (arith, head, sum);
      request = refl;
      command = refl;
      time = now;
      first = s.sample;
      others = plain ss;
      among = all_among me peer net test (s ∷ ss) all;
      stamps = ap notification_of behind ∙ stamps_read now g.samples time (all_handles me peer net test (s ∷ ss) all) few;
    }

-- the connection behind a tick

pub record Quiets {C : Type 0} (k l : Connection C) : Type 0 where
  pub closing : l.closing ≡ false
  pub produced : l.produced ≡ k.produced
  pub bytes_taken : l.bytes_taken ≡ k.bytes_taken
  pub gone : l.gone ≡ k.gone
  pub whole : TakesWhole l

-- one frame is produced, whose packet is such
pub record Sends (IsSuch : List ℕ → Type 0) (k l : Connection Client) : Type 0 where
  pub packet : List ℕ
  pub closing : l.closing ≡ false
  pub frame : Produced
  pub bytes : bytes_of frame ≡ frame_bytes packet
  pub produced : l.produced ≡ k.produced ++ frame ∷ []
  pub bytes_taken : l.bytes_taken ≡ k.bytes_taken
  pub gone : l.gone ≡ k.gone
  pub whole : TakesWhole l
  pub room : queued_of k + length (frame_bytes packet) ≤ MAX_QUEUED
  pub such : IsSuch packet

abbrev pub BecomesSo : (List ℕ → Type 0) → Connection Client → Connection Client → Type 0
BecomesSo IsSuch k l = Closes k l ⊎ (Quiets k l ⊎ Sends IsSuch k l)

-- the packet has samples, no more than this
pub record HasFewSamples (test : ℕ → Bool) (most : ℕ) (p : List ℕ) : Type 0 where
  pub samples : HasSamples test p
  pub few : suc (length samples.others) ≤ most

pub record TickedAll (me peer : AmsAddress) (net : List ℕ) (test : ℕ → Bool) (k l : Connection Client) : Type 0 where
  pub becomes : BecomesSo (HasFewSamples test (length k.client.watches)) k l
  pub keeps : KeepsAll me peer net test l.client.watches
  pub as_many : length l.client.watches ≡ length k.client.watches

produced_tick : (me peer : AmsAddress) (net : List ℕ) (test : ℕ → Bool) (now : ℕ) (s : AddressedSample) (ss : List AddressedSample)
    (k : Connection Client) (client : Client) → IsAddress me → IsAddress peer → AllByRecursion (GoesSo me peer net test) (s ∷ ss) → now < 2 ^ 64
    → k.closing ≡ false → TakesWhole k → suc (length ss) ≤ length k.client.watches
    → KeepsAll me peer net test client.watches → length client.watches ≡ length k.client.watches
    → TickedAll me peer net test k (produce (notification_frame net now (group_of_all s ss)) (with_client client k))
unfolding produce
produced_tick me peer net test now s ss k client mine other all time is_open whole few keeps as_many =
    let frame = notification_frame net now (group_of_all s ss) in
    let l = with_client client k in
    elim (cases_Bool (fits frame l)) [
      | inl room ↦
          let same : (if l.closing then l else if fits frame l then with_frame frame l else with_closing l) ≡ with_frame frame l = rw (is_open, room) refl in
          let le = leb-true (queued_of k + length (bytes_of frame)) MAX_QUEUED room in
          let sum = length-frame_bytes (packet_for net now (group_of_all s ss)) in
          subst (λ (x : Connection Client). TickedAll me peer net test k x) (sym same) (record {
            becomes = inr (inr (record {
              packet = packet_for net now (group_of_all s ss);
              closing = is_open;
              frame = frame;
              bytes = refl;
              produced = refl;
              bytes_taken = refl;
              gone = refl;
              whole = record { rest = whole.rest; taken = whole.taken };
              room = le;
              such = record {
                samples = samples_read me peer net test now s ss mine other all time (omega (arith, le, sum));
                few = let same = length-map ss (λ (x : AddressedSample). x.sample) in omega (arith, same, few);
              };
            }));
            keeps = keeps;
            as_many = as_many;
          })
      | inr full ↦
          let same : (if l.closing then l else if fits frame l then with_frame frame l else with_closing l) ≡ with_closing l = rw (is_open, full) refl in
          subst (λ (x : Connection Client). TickedAll me peer net test k x) (sym same) (record {
            becomes = inl (record { closing = refl; produced = refl; bytes_taken = refl; gone = refl });
            keeps = keeps;
            as_many = as_many;
          })
    ]

outcome_tick : (me peer : AmsAddress) (net : List ℕ) (test : ℕ → Bool) (now : ℕ) (k : Connection Client) (client : Client) (frames : List Produced)
    → IsAddress me → IsAddress peer → now < 2 ^ 64 → k.closing ≡ false → TakesWhole k
    → KeepsAll me peer net test client.watches → length client.watches ≡ length k.client.watches
    → (frames ≡ []) ⊎ OneFrame me peer net test now (length k.client.watches) frames
    → TickedAll me peer net test k (produce_all frames (with_client client k))
unfolding produce_all
outcome_tick me peer net test now k client frames mine other time is_open whole keeps as_many (inl none) =
    subst (λ (fs : List Produced). TickedAll me peer net test k (produce_all fs (with_client client k))) (sym none) (record {
      becomes = inr (inl (record
          { closing = is_open; produced = refl; bytes_taken = refl; gone = refl; whole = record { rest = whole.rest; taken = whole.taken } }));
      keeps = keeps;
      as_many = as_many;
    })
outcome_tick me peer net test now k client frames mine other time is_open whole keeps as_many (inr one) =
    subst (λ (fs : List Produced). TickedAll me peer net test k (produce_all fs (with_client client k))) (sym one.is)
    (produced_tick me peer net test now one.first one.others k client mine other one.all time is_open whole one.few keeps as_many)

pub ticked_all : (reading : DescriptionReading) (me peer : AmsAddress) (test : ℕ → Bool) (now : ℕ) (world : World) (k : Connection Client)
    → IsAddress me → IsAddress peer → now < 2 ^ 64 → k.closing ≡ false → k.gone ≡ false → TakesWhole k
    → KeepsAll me peer world.plant.net test k.client.watches
    → TickedAll me peer world.plant.net test k (connection_after_tick (ads_device reading) now world k)
unfolding connection_after_tick client_after_tick
ticked_all reading me peer test now world k mine other time is_open there whole keeps =
    let deaf : (k.closing || k.gone) ≡ false = rw (is_open, there) refl in
    let ws = k.client.watches in
    let o = client_after_tick now world k.client in
    subst (λ (x : Connection Client). TickedAll me peer world.plant.net test k x) (sym (cond-false (k.closing || k.gone) _ _ deaf))
    (outcome_tick me peer world.plant.net test now k o.client o.frames mine other time is_open whole
    (watches_all me peer world.plant.net test world.memory now ws keeps) (length-watches_after_tick world.memory now ws)
    (frames_so me peer world.plant.net test now (length ws) (samples_at world.memory now ws)
    (samples_go me peer world.plant.net test world.memory now ws keeps) (length-samples_at world.memory now ws)))
