-- Where no request is overdue at a moment, none is so behind the turns at this moment, and a tick at it changes nothing.
use Rattle.std.proofs.Common.{◌≡◌, ℕ, ◌+◌, ◌-◌, List, [], ◌∷◌, ◌++◌, length, Bool, true, false, not, refl, ap, arith}
use Rattle.std.specs.Prelude.{Option, Some, None, map, unwrap_or, ◌==◌, nat_le, if◌then◌else◌}
use Rattle.std.proofs.lemmas.Bool.{cond-false}
use Rattle.std.proofs.lemmas.Bool.Decides.{nat_tests}
use Rattle.ads_base.specs.declared.peer.Peer.{Peer}
use Rattle.spec_frames.specs.Division.{Front, Whole, Open, Broken, front_of, rest_of}
use Rattle.spec_formats.specs.Header.{AmsHeader, header_of, payload_of}
use Rattle.spec_formats.specs.Notification.{Stamp}
use Rattle.spec_formats.specs.NotificationReading.{notification_of}
use Rattle.spec_formats.specs.Commands.{DEVICE_NOTIFICATION}
use Rattle.spec_formats.specs.Request.{Request}
use Rattle.spec_client.specs.Heard.{StampedSample, samples_of_stamps}
use Rattle.spec_client.specs.Unanswered.{Unanswered, TIMEOUT, is_overdue, after_tick_of, is_outstanding_at, is_timed_out_at, next_timeout, without_first}
use Rattle.spec_client.specs.PassedOver.{is_response}
use Rattle.spec_client.specs.Client.{Client, is_full, client_after_issue, client_after_tick, packets_left}
use Rattle.spec_client.specs.Hearing.{Hearing, is_answer, is_off_its_text, response_hearing, samples_hearing}
use Rattle.spec_client.specs.Hearing.{notification_hearing, header_hearing, packet_hearing, rest_hearing}
use Rattle.spec_client.specs.Hearing.{with_one_taken, packets_hearing, hearing_of_samples}
use Rattle.spec_client.specs.Hearing.{hearing_unless_broken, hearing_of_timeout, next_hearing}
use Rattle.spec_client.specs.Stages.{Output, ToSend, ToPrint, ToKeep, Stage}
use Rattle.spec_client.specs.Runner.{Runner, given, runner_after_hearing, runner_after_tick, turns}
use Rattle.spec_client.proofs.TurnsUnfolded.{at}
use Rattle.spec_cutting.proofs.FedTurns.{by_turns}

-- no request is overdue at this moment
abbrev pub AreTimely : ℕ → List Unanswered → Type 0
AreTimely now [] = Unit {0}
AreTimely now (u ∷ us) = (is_overdue now u ≡ false) × AreTimely now us

ticked_one : (now : ℕ) (u : Unanswered) (b : Bool) → is_overdue now u ≡ b → is_overdue now (if b then record u { timed_out = Some now } else u) ≡ false
ticked_one now u true e = refl
ticked_one now u false e = e

pub timely_tick : (now : ℕ) (us : List Unanswered) → AreTimely now (map (after_tick_of now) us)
timely_tick now [] = tt
timely_tick now (u ∷ us) = (ticked_one now u (is_overdue now u) refl, timely_tick now us)

pub tick_changes_none : (now : ℕ) (us : List Unanswered) → AreTimely now us → map (after_tick_of now) us ≡ us
tick_changes_none now [] timely = refl
tick_changes_none now (u ∷ us) timely =
    let here : after_tick_of now u ≡ u = cond-false (is_overdue now u) _ _ timely.0 in
    rw (here, tick_changes_none now us timely.1) refl

timely_either : (now : ℕ) (b : Bool) (us vs : List Unanswered) → AreTimely now us → AreTimely now vs → AreTimely now (if b then us else vs)
timely_either now true us vs first second = first
timely_either now false us vs first second = second

timely_without : (now : ℕ) (test : Unanswered → Bool) (us : List Unanswered) → AreTimely now us → AreTimely now (without_first test us)
unfolding without_first
timely_without now test [] timely = tt
timely_without now test (u ∷ us) timely = timely_either now (test u) us (u ∷ without_first test us) timely.1 (timely.0, timely_without now test us timely.1)

timely_more : (now : ℕ) (us vs : List Unanswered) → AreTimely now us → AreTimely now vs → AreTimely now (us ++ vs)
timely_more now [] vs first second = second
timely_more now (u ∷ us) vs first second = (first.0, timely_more now us vs first.1 second)

abbrev IsTimely : ℕ → Client → Type 0
IsTimely now c = AreTimely now c.unanswered

abbrev IsTimelyIf : ℕ → Option Hearing → Type 0
IsTimelyIf now None = Unit {0}
IsTimelyIf now (Some x) = IsTimely now x.client

either : {X : Type 0} (P : X → Type 0) (b : Bool) (x y : X) → P x → P y → P (if b then x else y)
either P true x y first second = first
either P false x y first second = second

timely_response : (now : ℕ) (c : Client) (h : AmsHeader) (packet : List ℕ) → IsTimely now c → IsTimely now (response_hearing c h packet).client
timely_response now c h packet timely =
    let P : Hearing → Type 0 = λ x. IsTimely now x.client in
    either P (is_answer c h) _ _
    (either P (is_off_its_text h (payload_of packet)) _ _ timely (timely_without now (is_outstanding_at h.id) c.unanswered timely)) timely

timely_samples : (now : ℕ) (c : Client) (ss : List StampedSample) → IsTimely now c → IsTimelyIf now (samples_hearing c ss)
timely_samples now c [] timely = tt
timely_samples now c (s ∷ ss) timely = timely

timely_notification : (now : ℕ) (c : Client) (packet : List ℕ) (o : Option (List Stamp)) → IsTimely now c → IsTimelyIf now (notification_hearing c packet o)
timely_notification now c packet None timely = timely
timely_notification now c packet (Some stamps) timely = timely_samples now c (samples_of_stamps stamps) timely

timely_header : (now : ℕ) (c : Client) (o : Option AmsHeader) (packet : List ℕ) → IsTimely now c → IsTimelyIf now (header_hearing c o packet)
timely_header now c None packet timely = tt
timely_header now c (Some h) packet timely =
    either (IsTimelyIf now) (not (32 + h.len == length packet)) _ _ timely
    (either (IsTimelyIf now) (is_response h) _ _ (timely_response now c h packet timely)
    (either (IsTimelyIf now) (h.command == DEVICE_NOTIFICATION) _ _ (timely_notification now c packet (notification_of (payload_of packet)) timely) tt))

timely_or : (now : ℕ) (o : Option Hearing) (x : Hearing) → IsTimelyIf now o → IsTimely now x.client → IsTimely now (unwrap_or o x).client
timely_or now None x first second = second
timely_or now (Some y) x first second = first

timely_rest : (now : ℕ) (c : Client) (f : Front) → IsTimely now c → IsTimely now (rest_hearing c f).client
timely_rest now c Whole timely = timely
timely_rest now c Open timely = timely
timely_rest now c Broken timely = timely

timely_packets : (now : ℕ) (c : Client) (packets : List (List ℕ)) → IsTimely now c → IsTimely now (packets_hearing c packets).client
unfolding packets_hearing packet_hearing
timely_packets now c [] timely = timely_rest now c (front_of (rest_of c.received)) timely
timely_packets now c (packet ∷ packets) timely =
    timely_or now (packet_hearing (with_one_taken c) packet) (packets_hearing (with_one_taken c) packets)
    (timely_header now (with_one_taken c) (header_of packet) packet timely) (timely_packets now (with_one_taken c) packets timely)

timely_of_samples : (now : ℕ) (c : Client) (ss : List StampedSample) → IsTimely now c → IsTimely now (hearing_of_samples c ss).client
timely_of_samples now c [] timely = timely_packets now c (packets_left c) timely
timely_of_samples now c (s ∷ ss) timely = timely

timely_unless_broken : (now : ℕ) (c : Client) (o : Option Peer) → IsTimely now c → IsTimely now (hearing_unless_broken c o).client
timely_unless_broken now c (Some p) timely = timely
timely_unless_broken now c None timely = timely_of_samples now c c.samples timely

timely_of_timeout : (now : ℕ) (c : Client) (o : Option Unanswered) → IsTimely now c → IsTimely now (hearing_of_timeout c o).client
timely_of_timeout now c None timely = timely_unless_broken now c c.broken timely
timely_of_timeout now c (Some u) timely = timely_without now (is_timed_out_at u.id) c.unanswered timely

timely_heard : (now : ℕ) (c : Client) → IsTimely now c → IsTimely now (next_hearing c).client
unfolding next_hearing
timely_heard now c timely = timely_of_timeout now c (next_timeout c.unanswered) timely

-- a request of this moment is not overdue at it
no_time : (now : ℕ) → nat_le TIMEOUT (now - now) ≡ false
no_time now = grind (arith, nat_tests)

timely_issue : (now : ℕ) (c : Client) (request : Request) → IsTimely now c → IsTimely now (client_after_issue c request now)
unfolding client_after_issue
timely_issue now c request timely =
    either (IsTimely now) (is_full c) _ _ timely (timely_more now c.unanswered _ timely (no_time now, tt))

timely_given : (now : ℕ) (o : Output) (r : Runner) → IsTimely now r.client → IsTimely now (given now o r).runner.client
unfolding given
timely_given now (ToSend request) r timely = timely_issue now r.client request timely
timely_given now (ToPrint text) r timely = timely
timely_given now (ToKeep row) r timely = timely

timely_behind : (now : ℕ) (c : Client) (stage : Stage) → IsTimely now c → IsTimely now (runner_after_hearing stage (next_hearing c)).client
unfolding runner_after_hearing
timely_behind now c stage timely = timely_heard now c timely

timely_turns : (now : ℕ) (r : Runner) → IsTimely now r.client → IsTimely now (turns now r).runner.client
timely_turns now r = by_turns now (λ r ts. IsTimely now r.client → IsTimely now ts.runner.client) (record {
  over = λ c stage over timely. timely;
  waits = λ c stage on waits timely. timely;
  gives = λ c stage o os ts later timely. later (timely_given now o (at c stage os) timely);
  hears = λ c stage ts on some later timely. later (timely_behind now c stage timely);
}) r

still_ticked : (now : ℕ) (r : Runner) → IsTimely now r.client → runner_after_tick r now ≡ r
unfolding client_after_tick
still_ticked now r timely =
    ap (λ (us : List Unanswered). record r { client = record r.client { unanswered = us } }) (tick_changes_none now r.client.unanswered timely)

-- a second tick at the same moment changes nothing
pub ticked_again : (now : ℕ) (r : Runner) (more : List ℕ) → let s = record r { client = record (client_after_tick r.client now) { received = more } } in
    runner_after_tick (turns now s).runner now ≡ (turns now s).runner
unfolding client_after_tick
ticked_again now r more =
    let s = record r { client = record (client_after_tick r.client now) { received = more } } in
    still_ticked now (turns now s).runner (timely_turns now s (timely_tick now r.client.unanswered))
