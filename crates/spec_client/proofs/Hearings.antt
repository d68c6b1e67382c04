-- Each thing that is heard leaves fewer to be heard, and nothing leaves more.
use Rattle.std.proofs.Common.{◌≡◌, ℕ, zero, suc, ◌+◌, ◌<◌, ◌≤◌, List, [], ◌∷◌, length, drop, Bool, true, false, not, refl, sym, ap, ◌∙◌, arith, add-one}
use Rattle.std.specs.Prelude.{Option, Some, None, sum_by, filter, find, unwrap_or, option_and_then, ◌==◌, if◌then◌else◌}
use Rattle.std.proofs.lemmas.Bool.{and_parts, eqb-true}
use Rattle.std.specs.Option.{option_map_or}
use Rattle.std.proofs.lemmas.List.Sums.{sum_by-cons}
use Rattle.ads_base.specs.declared.peer.Peer.{Peer}
use Rattle.spec_frames.specs.Division.{Front, Whole, Open, Broken, frames_of, front_of, rest_of}
use Rattle.spec_formats.specs.Header.{AmsHeader, header_of, payload_of}
use Rattle.spec_formats.specs.Notification.{Stamp}
use Rattle.spec_formats.specs.NotificationReading.{notification_of}
use Rattle.spec_formats.specs.Commands.{DEVICE_NOTIFICATION}
use Rattle.spec_client.specs.Heard.{StampedSample, samples_of_stamps}
use Rattle.spec_client.specs.Unanswered.{Unanswered, is_outstanding_at, is_timed_out, is_timed_out_at, least_id, next_timeout, without_first}
use Rattle.spec_client.specs.PassedOver.{is_response, says_something}
use Rattle.spec_client.specs.Client.{Client, packets_left}
use Rattle.spec_client.specs.Hearing.{Hearing, broken_hearing, is_answer, is_off_its_text, response_hearing}
use Rattle.spec_client.specs.Hearing.{samples_hearing, notification_hearing, header_hearing, packet_hearing}
use Rattle.spec_client.specs.Hearing.{rest_hearing, with_one_taken, packets_hearing, hearing_of_samples}
use Rattle.spec_client.specs.Hearing.{hearing_unless_broken, hearing_of_timeout, next_hearing, samples_in}
use Rattle.spec_client.specs.Hearing.{hearings_left}
use Rattle.spec_client.specs.Laws.{goes_on, HearingsFall}

either : {X : Type 0} (P : X → Type 0) (b : Bool) (x y : X) → P x → P y → P (if b then x else y)
either P true x y first second = first
either P false x y first second = second

drop-next : {X : Type 0} (n : ℕ) (xs ys : List X) (y : X) → drop n xs ≡ y ∷ ys → drop (suc n) xs ≡ ys
drop-next zero [] ys y e = cc
drop-next zero (x ∷ xs) ys y e = cc
drop-next (suc n) [] ys y e = cc
drop-next (suc n) (x ∷ xs) ys y e = drop-next n xs ys y e

abbrev timeouts_of : List Unanswered → ℕ
timeouts_of us = length (filter is_timed_out us)

abbrev timeouts_left : Client → ℕ
timeouts_left c = timeouts_of c.unanswered

-- an answer ends no timeout
timeouts_behind_answer : (id : ℕ) (us : List Unanswered) → timeouts_of (without_first (is_outstanding_at id) us) ≡ timeouts_of us
unfolding without_first
timeouts_behind_answer id [] = refl
timeouts_behind_answer id (u ∷ us) = by_time u.timed_out (timeouts_behind_answer id us)
  where
    by_time : (o : Option ℕ) → timeouts_of (without_first (is_outstanding_at id) us) ≡ timeouts_of us
        → timeouts_of (without_first (is_outstanding_at id) (record u { timed_out = o } ∷ us)) ≡ timeouts_of (record u { timed_out = o } ∷ us)
    by_time None same = by_id (u.id == id) same
      where
        by_id : (b : Bool) → timeouts_of (without_first (is_outstanding_at id) us) ≡ timeouts_of us
            → timeouts_of (if b then us else record u { timed_out = None } ∷ without_first (is_outstanding_at id) us) ≡ timeouts_of us
        by_id true same = refl
        by_id false same = same
    by_time (Some now) same = ap suc same

-- what a packet changes of a client: at most so many samples join those that are left
record Keeps (c : Client) (most : ℕ) (h : Hearing) : Type 0 where
  timeouts : timeouts_left h.client ≡ timeouts_left c
  received : h.client.received ≡ c.received
  taken : h.client.taken ≡ c.taken
  samples : length h.client.samples ≤ most + length c.samples

abbrev KeepsIf : Client → ℕ → Option Hearing → Type 0
KeepsIf c most None = Unit {0}
KeepsIf c most (Some h) = Keeps c most h

kept_broken : (c : Client) (most : ℕ) (p : Peer) → Keeps c most (broken_hearing c p)
kept_broken c most p = record { timeouts = refl; received = refl; taken = refl; samples = omega arith }

kept_response : (c : Client) (most : ℕ) (h : AmsHeader) (packet : List ℕ) → Keeps c most (response_hearing c h packet)
kept_response c most h packet =
    let same : (client : Client) → client ≡ c → Unit {0} = λ client e. tt in
    either (Keeps c most) (is_answer c h) _ _
    (either (Keeps c most) (is_off_its_text h (payload_of packet)) _ _ (kept_broken c most _)
    (record { timeouts = timeouts_behind_answer h.id c.unanswered; received = refl; taken = refl; samples = omega arith }))
    (record { timeouts = refl; received = refl; taken = refl; samples = omega arith })

kept_samples : (c : Client) (ss : List StampedSample) → KeepsIf c (length ss) (samples_hearing c ss)
kept_samples c [] = tt
kept_samples c (s ∷ ss) = record { timeouts = refl; received = refl; taken = refl; samples = omega arith }

kept_notification : (c : Client) (packet : List ℕ) (o : Option (List Stamp))
    → KeepsIf c (option_map_or (λ stamps. length (samples_of_stamps stamps)) o 0) (notification_hearing c packet o)
kept_notification c packet None = kept_broken c 0 _
kept_notification c packet (Some stamps) = kept_samples c (samples_of_stamps stamps)

kept_header : (c : Client) (o : Option AmsHeader) (packet : List ℕ) → KeepsIf c (samples_in packet) (header_hearing c o packet)
kept_header c None packet = tt
kept_header c (Some h) packet =
    either (KeepsIf c (samples_in packet)) (not (32 + h.len == length packet)) _ _ (kept_broken c (samples_in packet) _)
    (either (KeepsIf c (samples_in packet)) (is_response h) _ _ (kept_response c (samples_in packet) h packet)
    (either (KeepsIf c (samples_in packet)) (h.command == DEVICE_NOTIFICATION) _ _
    (kept_notification c packet (notification_of (payload_of packet))) tt))

kept_packet : (c : Client) (packet : List ℕ) → KeepsIf c (samples_in packet) (packet_hearing c packet)
unfolding packet_hearing
kept_packet c packet = kept_header c (header_of packet) packet

abbrev weight : List ℕ → ℕ
weight packet = 1 + samples_in packet

-- what is left behind a client that keeps these
left_is : (c : Client) (most : ℕ) (h : Hearing) → Keeps c most h
    → hearings_left h.client ≡ 1 + timeouts_left c + length h.client.samples + sum_by weight (packets_left c)
left_is c most h k = rw (k.timeouts, k.received, k.taken) refl

rest_ends : (c : Client) (f : Front) → goes_on (rest_hearing c f).heard ≡ true → ⊥
rest_ends c Whole e = cc
rest_ends c Open e = cc
rest_ends c Broken e = cc

-- a client with these packets left, and nothing else
record HasLeft (c : Client) (packets : List (List ℕ)) : Type 0 where
  packets_are : packets_left c ≡ packets
  no_samples : c.samples ≡ []

one_less : (c : Client) (packet : List ℕ) (packets : List (List ℕ)) → HasLeft c (packet ∷ packets) → HasLeft (with_one_taken c) packets
one_less c packet packets l = record {
  packets_are = rw add-one (drop-next c.taken (filter says_something (frames_of c.received)) packets packet l.packets_are);
  no_samples = l.no_samples;
}

abbrev FallsTo : Hearing → ℕ → Type 0
FallsTo h n = goes_on h.heard ≡ true → hearings_left h.client < n

packet_falls : (c : Client) (packet : List ℕ) (packets : List (List ℕ)) → HasLeft c packets → (o : Option Hearing) (later : Hearing)
    → KeepsIf c (samples_in packet) o → FallsTo later (1 + timeouts_left c + sum_by weight packets)
    → FallsTo (unwrap_or o later) (1 + timeouts_left c + (weight packet + sum_by weight packets))
packet_falls c packet packets l None later k falls e = let f = falls e in omega arith
packet_falls c packet packets l (Some h) later k falls e =
    let left = left_is c (samples_in packet) h k in
    let no_sample : length c.samples ≡ 0 = ap length l.no_samples in
    let behind : sum_by weight (packets_left c) ≡ sum_by weight packets = ap (sum_by weight) l.packets_are in
    let some = k.samples in
    omega arith

packets_fall : (c : Client) (packets : List (List ℕ)) → HasLeft c packets → FallsTo (packets_hearing c packets) (1 + timeouts_left c + sum_by weight packets)
unfolding packets_hearing
packets_fall c [] l e = absurd (rest_ends c (front_of (rest_of c.received)) e)
packets_fall c (packet ∷ packets) l e =
    let less = one_less c packet packets l in
    rw (sum_by-cons weight packet packets)
    (packet_falls (with_one_taken c) packet packets less (packet_hearing (with_one_taken c) packet) (packets_hearing (with_one_taken c) packets)
    (kept_packet (with_one_taken c) packet) (packets_fall (with_one_taken c) packets less) e)

samples_fall : (c : Client) (ss : List StampedSample) → c.samples ≡ ss → FallsTo (hearing_of_samples c ss) (hearings_left c)
samples_fall c [] es e =
    let f = packets_fall c (packets_left c) (record { packets_are = refl; no_samples = es }) e in
    let no_sample : length c.samples ≡ 0 = ap length es in
    omega arith
samples_fall c (s ∷ ss) es e = let l : length c.samples ≡ suc (length ss) = ap length es in omega arith

unbroken_falls : (c : Client) (o : Option Peer) → FallsTo (hearing_unless_broken c o) (hearings_left c)
unbroken_falls c None e = samples_fall c c.samples refl e
unbroken_falls c (Some p) e = absurd (let h : false ≡ true = e in cc)

-- a timeout that is found
record IsFound (id : ℕ) (us : List Unanswered) (u : Unanswered) : Type 0 where
  same_id : u.id ≡ id
  fewer : timeouts_of (without_first (is_timed_out_at id) us) + 1 ≡ timeouts_of us

abbrev no_request : Option Unanswered
no_request = None

after_other : (b : Bool) (v : Unanswered) (us vs : List Unanswered) → timeouts_of us + 1 ≡ timeouts_of vs
    → length (if b then v ∷ filter is_timed_out us else filter is_timed_out us) + 1
    ≡ length (if b then v ∷ filter is_timed_out vs else filter is_timed_out vs)
after_other true v us vs e = omega arith
after_other false v us vs e = e

found_here : (id : ℕ) (v : Unanswered) (vs : List Unanswered) (u : Unanswered) (b : Bool) → is_timed_out_at id v ≡ b
    → (find (is_timed_out_at id) vs ≡ Some u → IsFound id vs u) → find (is_timed_out_at id) (v ∷ vs) ≡ Some u → IsFound id (v ∷ vs) u
unfolding without_first
found_here id v vs u true passes later e =
    let parts : (is_timed_out v ≡ true) × ((v.id == id) ≡ true) = and_parts (is_timed_out v) (v.id == id) passes in
    let here : Some v ≡ Some u = rw passes at e in
    let same : v ≡ u = cc in
    record {
      same_id = ap (λ (w : Unanswered). w.id) (sym same) ∙ eqb-true v.id id parts.1;
      fewer = rw (passes, parts.0) (omega arith);
    }
found_here id v vs u false other later e =
    let there : find (is_timed_out_at id) vs ≡ Some u = rw other at e in
    let f = later there in
    let fewer = f.fewer in
    record {
      same_id = f.same_id;
      fewer = rw other (after_other (is_timed_out v) v (without_first (is_timed_out_at id) vs) vs fewer);
    }

found_timeout : (id : ℕ) (us : List Unanswered) (u : Unanswered) → find (is_timed_out_at id) us ≡ Some u → IsFound id us u
found_timeout id [] u e = absurd (let none : no_request ≡ Some u = e in cc)
found_timeout id (v ∷ vs) u e = found_here id v vs u (is_timed_out_at id v) refl (found_timeout id vs u) e

-- the timeout that is told is one less
told_timeout : (us : List Unanswered) (id : Option ℕ) (u : Unanswered) → option_and_then (λ least. find (is_timed_out_at least) us) id ≡ Some u
    → timeouts_of (without_first (is_timed_out_at u.id) us) + 1 ≡ timeouts_of us
told_timeout us None u e = absurd (let none : no_request ≡ Some u = e in cc)
told_timeout us (Some id) u e = let f = found_timeout id us u e in rw f.same_id f.fewer

timeout_falls : (c : Client) (o : Option Unanswered) → next_timeout c.unanswered ≡ o → FallsTo (hearing_of_timeout c o) (hearings_left c)
timeout_falls c None et e = unbroken_falls c c.broken e
timeout_falls c (Some u) et e = let fewer = told_timeout c.unanswered (least_id c.unanswered) u et in omega arith

pub hearings_fall : HearingsFall
unfolding next_hearing
hearings_fall c = timeout_falls c (next_timeout c.unanswered) refl

-- behind all whole frames a client has as much left as before
rest_stays : (c : Client) (f : Front) → hearings_left (rest_hearing c f).client ≡ hearings_left c
rest_stays c Whole = refl
rest_stays c Open = refl
rest_stays c Broken = refl

packet_stays : (c : Client) (packet : List ℕ) (packets : List (List ℕ)) → HasLeft c packets → (o : Option Hearing) (later : Hearing)
    → KeepsIf c (samples_in packet) o → hearings_left later.client ≤ 1 + timeouts_left c + sum_by weight packets
    → hearings_left (unwrap_or o later).client ≤ 1 + timeouts_left c + (weight packet + sum_by weight packets)
packet_stays c packet packets l None later k stays = omega arith
packet_stays c packet packets l (Some h) later k stays =
    let left = left_is c (samples_in packet) h k in
    let no_sample : length c.samples ≡ 0 = ap length l.no_samples in
    let behind : sum_by weight (packets_left c) ≡ sum_by weight packets = ap (sum_by weight) l.packets_are in
    let some = k.samples in
    omega arith

packets_stay : (c : Client) (packets : List (List ℕ)) → HasLeft c packets
    → hearings_left (packets_hearing c packets).client ≤ 1 + timeouts_left c + sum_by weight packets
unfolding packets_hearing
packets_stay c [] l =
    let same = rest_stays c (front_of (rest_of c.received)) in
    let no_sample : length c.samples ≡ 0 = ap length l.no_samples in
    let behind : sum_by weight (packets_left c) ≡ sum_by weight [] = ap (sum_by weight) l.packets_are in
    omega arith
packets_stay c (packet ∷ packets) l =
    let less = one_less c packet packets l in
    rw (sum_by-cons weight packet packets)
    (packet_stays (with_one_taken c) packet packets less (packet_hearing (with_one_taken c) packet) (packets_hearing (with_one_taken c) packets)
    (kept_packet (with_one_taken c) packet) (packets_stay (with_one_taken c) packets less))

samples_stay : (c : Client) (ss : List StampedSample) → c.samples ≡ ss → hearings_left (hearing_of_samples c ss).client ≤ hearings_left c
samples_stay c [] es =
    let f = packets_stay c (packets_left c) (record { packets_are = refl; no_samples = es }) in
    let no_sample : length c.samples ≡ 0 = ap length es in
    omega arith
samples_stay c (s ∷ ss) es = let l : length c.samples ≡ suc (length ss) = ap length es in omega arith

unbroken_stays : (c : Client) (o : Option Peer) → hearings_left (hearing_unless_broken c o).client ≤ hearings_left c
unbroken_stays c None = samples_stay c c.samples refl
unbroken_stays c (Some p) = omega arith

timeout_stays : (c : Client) (o : Option Unanswered) → next_timeout c.unanswered ≡ o → hearings_left (hearing_of_timeout c o).client ≤ hearings_left c
timeout_stays c None et = unbroken_stays c c.broken
timeout_stays c (Some u) et = let fewer = told_timeout c.unanswered (least_id c.unanswered) u et in omega arith

-- nothing that is heard leaves more to be heard
pub hearings_never_rise : (c : Client) → hearings_left (next_hearing c).client ≤ hearings_left c
unfolding next_hearing
hearings_never_rise c = timeout_stays c (next_timeout c.unanswered) refl
