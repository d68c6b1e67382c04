-- Each answer that is heard ends one outstanding request, and nothing that is heard or any tick adds one.
use Rattle.std.proofs.Common.{◌≡◌, ℕ, ◌+◌, ◌≤◌, List, [], ◌∷◌, map, length, Bool, true, false, not, cond, refl, ap, arith, inl, inr}
use Rattle.std.specs.Prelude.{Option, Some, None, unwrap_or, ◌==◌, ◌&&◌, if◌then◌else◌}
use Rattle.std.specs.List.{list_any}
use Rattle.std.proofs.lemmas.Bool.{and_parts, cases_Bool}
use Rattle.std.proofs.lemmas.List.Sums.{sum_by-cons}
use Rattle.ads_base.specs.declared.peer.Peer.{Peer}
use Rattle.spec_frames.specs.Division.{Front, Whole, Open, Broken, front_of, rest_of}
use Rattle.spec_formats.specs.Header.{AmsHeader, header_of, payload_of}
use Rattle.spec_formats.specs.Notification.{Stamp}
use Rattle.spec_formats.specs.NotificationReading.{notification_of}
use Rattle.spec_formats.specs.Commands.{DEVICE_NOTIFICATION}
use Rattle.spec_client.specs.Heard.{Heard, Answered, Sampled, Ended, Stray, StampedSample, samples_of_stamps, heard_of_sample}
use Rattle.spec_client.specs.Unanswered.{Unanswered, is_outstanding, is_outstanding_at, is_timed_out_at}
use Rattle.spec_client.specs.Unanswered.{is_overdue, outstanding_count, after_tick_of, next_timeout}
use Rattle.spec_client.specs.Unanswered.{without_first}
use Rattle.spec_client.specs.PassedOver.{is_response}
use Rattle.spec_client.specs.Client.{Client, packets_left}
use Rattle.spec_client.specs.Hearing.{Hearing, hearing, is_answer, is_off_its_text, answer_hearing}
use Rattle.spec_client.specs.Hearing.{samples_hearing, notification_hearing, header_hearing, packet_hearing}
use Rattle.spec_client.specs.Hearing.{rest_hearing, with_one_taken, packets_hearing, hearing_of_samples}
use Rattle.spec_client.specs.Hearing.{hearing_unless_broken, hearing_of_timeout, next_hearing}

pub either : {X : Type 0} (P : X → Type 0) (b : Bool) (x y : X) → P x → P y → P (if b then x else y)
either P true x y first second = first
either P false x y first second = second

abbrev one_of : Unanswered → ℕ
one_of u = cond (is_outstanding u) 1 0

pub count-cons : (u : Unanswered) (us : List Unanswered) → outstanding_count (u ∷ us) ≡ one_of u + outstanding_count us
count-cons u us = sum_by-cons one_of u us

tick_one : (now : ℕ) (u : Unanswered) (b : Bool) → one_of (if b then record u { timed_out = Some now } else u) ≤ one_of u
tick_one now u true = omega arith
tick_one now u false = omega arith

-- a tick adds none
pub count-tick : (now : ℕ) (us : List Unanswered) → outstanding_count (map (after_tick_of now) us) ≤ outstanding_count us
count-tick now [] = omega arith
count-tick now (u ∷ us) =
    let later = count-tick now us in
    let one = tick_one now u (is_overdue now u) in
    let before = count-cons u us in
    let behind = count-cons (after_tick_of now u) (map (after_tick_of now) us) in
    omega arith

without_one : (test : Unanswered → Bool) (u : Unanswered) (us : List Unanswered) (b : Bool) → outstanding_count (without_first test us) ≤ outstanding_count us
    → outstanding_count (if b then us else u ∷ without_first test us) ≤ outstanding_count (u ∷ us)
without_one test u us true later = omega (arith, count-cons u us)
without_one test u us false later = omega (arith, count-cons u us, count-cons u (without_first test us))

count-without : (test : Unanswered → Bool) (us : List Unanswered) → outstanding_count (without_first test us) ≤ outstanding_count us
unfolding without_first
count-without test [] = omega arith
count-without test (u ∷ us) = without_one test u us (test u) (count-without test us)

abbrev Answers : ℕ → ℕ → List Unanswered → Type 0
Answers id command us = list_any (λ (u : Unanswered). is_outstanding_at id u && (u.command == command)) us ≡ true

one_outstanding : (id : ℕ) (u : Unanswered) → is_outstanding_at id u ≡ true → one_of u ≡ 1
one_outstanding id u e =
    let yes : is_outstanding u ≡ true = (and_parts (is_outstanding u) (u.id == id) e).0 in
    ap (λ b. cond b 1 0) yes

-- an answered request is one less
count-answered : (id command : ℕ) (us : List Unanswered) → Answers id command us
    → outstanding_count (without_first (is_outstanding_at id) us) + 1 ≤ outstanding_count us
unfolding without_first
count-answered id command [] e = absurd (let no_request : false ≡ true = e in cc)
count-answered id command (u ∷ us) e = elim (cases_Bool (is_outstanding_at id u)) [
  | inl here ↦ rw here (omega (arith, count-cons u us, one_outstanding id u here))
  | inr other ↦
      let there : Answers id command us = rw other at e in
      let later = count-answered id command us there in
      rw other (omega (arith, count-cons u us, count-cons u (without_first (is_outstanding_at id) us)))
]

abbrev pub answers : Heard → ℕ
answers (Answered id error command payload) = 1
answers h = 0

-- so many requests are outstanding then at most, and one less behind an answer
abbrev pub Falls : ℕ → Hearing → Type 0
Falls n x = outstanding_count x.client.unanswered + answers x.heard ≤ n

abbrev FallsIf : ℕ → Option Hearing → Type 0
FallsIf n None = Unit {0}
FallsIf n (Some x) = Falls n x

-- what is broken answers nothing
falls_same : (c : Client) → outstanding_count c.unanswered + 0 ≤ outstanding_count c.unanswered
falls_same c = omega arith

falls_answer : (c : Client) (h : AmsHeader) (packet : List ℕ) (b : Bool) → is_answer c h ≡ b
    → Falls (outstanding_count c.unanswered) (if b then answer_hearing c h packet else hearing (Stray h.id) c)
falls_answer c h packet true e =
    let first = and_parts _ _ e in
    let there = and_parts _ _ first.0 in
    let fewer = count-answered h.id h.command c.unanswered there.0 in
    either (Falls (outstanding_count c.unanswered)) (is_off_its_text h (payload_of packet)) _ _ (falls_same c) fewer
falls_answer c h packet false e = omega arith

sample_answers : (s : StampedSample) → answers (heard_of_sample s) ≡ 0
sample_answers s = either (λ h. answers h ≡ 0) (length s.sample.bytes == 0) (Ended s.sample.handle) (Sampled s.sample.handle s.time s.sample.bytes) refl refl

falls_samples : (c : Client) (ss : List StampedSample) → FallsIf (outstanding_count c.unanswered) (samples_hearing c ss)
falls_samples c [] = tt
falls_samples c (s ∷ ss) = omega (arith, sample_answers s)

falls_notification : (c : Client) (packet : List ℕ) (o : Option (List Stamp)) → FallsIf (outstanding_count c.unanswered) (notification_hearing c packet o)
falls_notification c packet None = falls_same c
falls_notification c packet (Some stamps) = falls_samples c (samples_of_stamps stamps)

falls_header : (c : Client) (o : Option AmsHeader) (packet : List ℕ) → FallsIf (outstanding_count c.unanswered) (header_hearing c o packet)
falls_header c None packet = tt
falls_header c (Some h) packet =
    let P : Option Hearing → Type 0 = FallsIf (outstanding_count c.unanswered) in
    either P (not (32 + h.len == length packet)) _ _ (falls_same c)
    (either P (is_response h) _ _ (falls_answer c h packet (is_answer c h) refl)
    (either P (h.command == DEVICE_NOTIFICATION) _ _ (falls_notification c packet (notification_of (payload_of packet))) tt))

falls_packet : (c : Client) (packet : List ℕ) → FallsIf (outstanding_count c.unanswered) (packet_hearing c packet)
unfolding packet_hearing
falls_packet c packet = falls_header c (header_of packet) packet

falls_rest : (c : Client) (f : Front) → Falls (outstanding_count c.unanswered) (rest_hearing c f)
falls_rest c Whole = omega arith
falls_rest c Open = omega arith
falls_rest c Broken = falls_same c

falls_or : (n : ℕ) (o : Option Hearing) (later : Hearing) → FallsIf n o → Falls n later → Falls n (unwrap_or o later)
falls_or n None later first second = second
falls_or n (Some x) later first second = first

falls_packets : (c : Client) (packets : List (List ℕ)) → Falls (outstanding_count c.unanswered) (packets_hearing c packets)
unfolding packets_hearing
falls_packets c [] = falls_rest c (front_of (rest_of c.received))
falls_packets c (packet ∷ packets) =
    falls_or _ (packet_hearing (with_one_taken c) packet) (packets_hearing (with_one_taken c) packets)
    (falls_packet (with_one_taken c) packet) (falls_packets (with_one_taken c) packets)

falls_of_samples : (c : Client) (ss : List StampedSample) → Falls (outstanding_count c.unanswered) (hearing_of_samples c ss)
falls_of_samples c [] = falls_packets c (packets_left c)
falls_of_samples c (s ∷ ss) = omega (arith, sample_answers s)

falls_unless_broken : (c : Client) (o : Option Peer) → Falls (outstanding_count c.unanswered) (hearing_unless_broken c o)
falls_unless_broken c None = falls_of_samples c c.samples
falls_unless_broken c (Some p) = omega arith

falls_of_timeout : (c : Client) (o : Option Unanswered) → Falls (outstanding_count c.unanswered) (hearing_of_timeout c o)
falls_of_timeout c None = falls_unless_broken c c.broken
falls_of_timeout c (Some u) = omega (arith, count-without (is_timed_out_at u.id) c.unanswered)

pub asked_falls : (c : Client) → Falls (outstanding_count c.unanswered) (next_hearing c)
unfolding next_hearing
asked_falls c = falls_of_timeout c (next_timeout c.unanswered)
