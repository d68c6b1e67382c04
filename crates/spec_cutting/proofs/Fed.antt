-- What a client hears next does not depend on the bytes that come behind those which tell it.
use Rattle.std.proofs.Common.{◌≡◌, ℕ, zero, suc, ◌+◌, List, [], ◌∷◌, ◌++◌, length, take, drop, Bool, true, false, not, refl, sym, ap, ◌∙◌, inl, inr}
use Rattle.std.specs.Prelude.{Option, Some, None, filter, unwrap_or, ◌==◌, if◌then◌else◌}
use Rattle.std.proofs.lemmas.Bool.{cases_Bool}
use Rattle.std.proofs.lemmas.List.{append-nil, take-append-le}
use Rattle.std.proofs.lemmas.List.Elements.{filter-append}
use Rattle.ads_base.specs.declared.peer.Peer.{Peer}
use Rattle.ads_base.specs.declared.peer.Peer.TheVariants as peer
use Rattle.spec_frames.specs.Division.{Front, Whole, Open, Broken, frames_of, front_of, rest_of}
use Rattle.spec_frames.proofs.FrontLemmas.{has_broken_header, front_of-append_broken}
use Rattle.spec_frames.proofs.DivisionLemmas.{frames_of-none, frames_of-append, rest_of-append, rest_of-none}
use Rattle.spec_formats.specs.Header.{AmsHeader, header_of, payload_of}
use Rattle.spec_formats.specs.Notification.{Stamp}
use Rattle.spec_formats.specs.NotificationReading.{notification_of}
use Rattle.spec_formats.specs.Commands.{DEVICE_NOTIFICATION}
use Rattle.spec_client.specs.Heard.{Heard, Answered, Stray, StampedSample, samples_of_stamps, heard_of_sample, Ended, Sampled}
use Rattle.spec_client.specs.Unanswered.{Unanswered, is_outstanding_at, next_timeout, without_first}
use Rattle.spec_client.specs.PassedOver.{is_response, notification_says, header_says, says_something, is_any}
use Rattle.spec_client.specs.Client.{Client, client_after_feed, packets_left}
use Rattle.spec_client.specs.Hearing.{Hearing, hearing, broken_hearing, is_answer, is_off_its_text}
use Rattle.spec_client.specs.Hearing.{response_hearing, samples_hearing, notification_hearing, header_hearing}
use Rattle.spec_client.specs.Hearing.{packet_hearing, rest_hearing, with_one_taken, packets_hearing}
use Rattle.spec_client.specs.Hearing.{hearing_of_samples, hearing_unless_broken, hearing_of_timeout}
use Rattle.spec_client.specs.Hearing.{next_hearing}
use Rattle.spec_client.specs.Runner.{is_not_yet}

-- what is heard, where more bytes came
abbrev pub fed : Hearing → List ℕ → Hearing
fed x more = hearing x.heard (client_after_feed x.client more)

-- something is heard, and the same where more bytes came
record IsHeard (more : List ℕ) (o fed_o : Option Hearing) : Type 0 where
  x : Hearing
  is : o ≡ Some x
  longer : fed_o ≡ Some (fed x more)
  some : is_not_yet x.heard ≡ false

heard_so : (more : List ℕ) (x : Hearing) → is_not_yet x.heard ≡ false → IsHeard more (Some x) (Some (fed x more))
heard_so more x some = record { x = x; is = refl; longer = refl; some = some }

either_heard : (more : List ℕ) (b : Bool) (o p o' p' : Option Hearing) → (b ≡ true → IsHeard more o o')
    → (b ≡ false → IsHeard more p p') → IsHeard more (if b then o else p) (if b then o' else p')
either_heard more true o p o' p' first second = first refl
either_heard more false o p o' p' first second = second refl

one_heard : (more : List ℕ) (b : Bool) (x y x' y' : Hearing) → IsHeard more (Some x) (Some x')
    → IsHeard more (Some y) (Some y') → IsHeard more (Some (if b then x else y)) (Some (if b then x' else y'))
one_heard more true x y x' y' first second = first
one_heard more false x y x' y' first second = second

sample_heard : (b : Bool) (x y : Heard) → is_not_yet x ≡ false → is_not_yet y ≡ false → is_not_yet (if b then x else y) ≡ false
sample_heard true x y first second = first
sample_heard false x y first second = second

response_heard : (c : Client) (more : List ℕ) (h : AmsHeader) (packet : List ℕ)
    → IsHeard more (Some (response_hearing c h packet)) (Some (response_hearing (client_after_feed c more) h packet))
response_heard c more h packet =
    one_heard more (is_answer c h) _ _ _ _
    (one_heard more (is_off_its_text h (payload_of packet)) _ _ _ _ (heard_so more (broken_hearing c (peer.Text packet)) refl)
    (heard_so more (hearing (Answered h.id h.error h.command (payload_of packet))
    (record c { unanswered = without_first (is_outstanding_at h.id) c.unanswered })) refl))
    (heard_so more (hearing (Stray h.id) c) refl)

samples_heard : (c : Client) (more : List ℕ) (ss : List StampedSample) → is_any ss ≡ true
    → IsHeard more (samples_hearing c ss) (samples_hearing (client_after_feed c more) ss)
samples_heard c more [] says = absurd (let e : false ≡ true = says in cc)
samples_heard c more (s ∷ ss) says =
    heard_so more (hearing (heard_of_sample s) (record c { samples = ss }))
    (sample_heard (length s.sample.bytes == 0) (Ended s.sample.handle) (Sampled s.sample.handle s.time s.sample.bytes) refl refl)

notification_heard : (c : Client) (more packet : List ℕ) (o : Option (List Stamp)) → notification_says o ≡ true
    → IsHeard more (notification_hearing c packet o) (notification_hearing (client_after_feed c more) packet o)
notification_heard c more packet None says = heard_so more (broken_hearing c (peer.Text packet)) refl
notification_heard c more packet (Some stamps) says = samples_heard c more (samples_of_stamps stamps) says

header_heard : (c : Client) (more : List ℕ) (o : Option AmsHeader) (packet : List ℕ) → header_says o packet ≡ true
    → IsHeard more (header_hearing c o packet) (header_hearing (client_after_feed c more) o packet)
header_heard c more None packet says = absurd (let e : false ≡ true = says in cc)
header_heard c more (Some h) packet says =
    either_heard more (not (32 + h.len == length packet)) _ _ _ _ (λ wrong. heard_so more (broken_hearing c (peer.Text packet)) refl)
    (λ right. either_heard more (is_response h) _ _ _ _ (λ response. response_heard c more h packet)
    (λ other. either_heard more (h.command == DEVICE_NOTIFICATION) _ _ _ _
    (λ is. notification_heard c more packet (notification_of (payload_of packet)) (rw (right, other, is) at says))
    (λ not_so. absurd (let e : false ≡ true = rw (right, other, not_so) at says in cc))))

packet_heard : (c : Client) (more packet : List ℕ) → says_something packet ≡ true
    → IsHeard more (packet_hearing c packet) (packet_hearing (client_after_feed c more) packet)
unfolding packet_hearing says_something
packet_heard c more packet says = header_heard c more (header_of packet) packet says

-- what is left of a list that is filtered passes the test
first_passes : {X : Type 0} (test : X → Bool) (n : ℕ) (xs : List X) (y : X) (ys : List X) → drop n (filter test xs) ≡ y ∷ ys → test y ≡ true
first_passes test zero [] y ys e = cc
first_passes test (suc n) [] y ys e = cc
first_passes {X} test zero (x ∷ xs) y ys e = elim (cases_Bool (test x)) [
  | inl passes ↦ let is : x ∷ filter test xs ≡ y ∷ ys = rw passes at e in let same : x ≡ y = cc in ap test (sym same) ∙ passes
  | inr fails ↦ first_passes test zero xs y ys (rw fails at e)
]
first_passes {X} test (suc n) (x ∷ xs) y ys e = elim (cases_Bool (test x)) [
  | inl passes ↦ first_passes test n xs y ys (rw passes at e)
  | inr fails ↦ first_passes test (suc n) xs y ys (rw fails at e)
]

drop_some-append : {X : Type 0} (n : ℕ) (xs : List X) (y : X) (ys zs : List X) → drop n xs ≡ y ∷ ys → drop n (xs ++ zs) ≡ y ∷ ys ++ zs
drop_some-append zero [] y ys zs e = cc
drop_some-append zero (x ∷ xs) y ys zs e = ap (λ l. l ++ zs) e
drop_some-append (suc n) [] y ys zs e = cc
drop_some-append (suc n) (x ∷ xs) y ys zs e = drop_some-append n xs y ys zs e

-- the frames that come with more bytes
abbrev new_frames : Client → List ℕ → List (List ℕ)
new_frames c more = frames_of (rest_of c.received ++ more)

says_more : (c : Client) (more : List ℕ)
    → filter says_something (frames_of (c.received ++ more)) ≡ filter says_something (frames_of c.received) ++ filter says_something (new_frames c more)
says_more c more = ap (filter says_something) (frames_of-append more c.received) ∙ filter-append says_something (frames_of c.received) (new_frames c more)

packets_more : (c : Client) (more packet : List ℕ) (packets : List (List ℕ)) → packets_left c ≡ packet ∷ packets
    → packets_left (client_after_feed c more) ≡ packet ∷ packets ++ filter says_something (new_frames c more)
packets_more c more packet packets e =
    ap (drop c.taken) (says_more c more)
    ∙ drop_some-append c.taken (filter says_something (frames_of c.received)) packet packets (filter says_something (new_frames c more)) e

-- nothing comes behind a broken rest
broken_new : (c : Client) (more : List ℕ) → front_of (rest_of c.received) ≡ Broken → new_frames c more ≡ []
broken_new c more broken =
    let later = front_of-append_broken (rest_of c.received) more broken in
    frames_of-none (rest_of c.received ++ more) (λ whole. let e : Broken ≡ Whole = sym later ∙ whole in cc)

broken_rest : (c : Client) (more : List ℕ) → front_of (rest_of c.received) ≡ Broken → rest_of (c.received ++ more) ≡ rest_of c.received ++ more
broken_rest c more broken =
    let later = front_of-append_broken (rest_of c.received) more broken in
    rest_of-append more c.received ∙ rest_of-none (rest_of c.received ++ more) (λ whole. let e : Broken ≡ Whole = sym later ∙ whole in cc)

broken_left : (c : Client) (more : List ℕ) → front_of (rest_of c.received) ≡ Broken → packets_left c ≡ [] → packets_left (client_after_feed c more) ≡ []
broken_left c more broken none =
    ap (drop c.taken) (says_more c more ∙ ap (λ l. filter says_something (frames_of c.received) ++ filter says_something l) (broken_new c more broken)
    ∙ append-nil (filter says_something (frames_of c.received))) ∙ none

same_rest : (c : Client) (more : List ℕ) (f : Front) → front_of (rest_of c.received) ≡ f → packets_left c ≡ [] → is_not_yet (rest_hearing c f).heard ≡ false
    → packets_hearing (client_after_feed c more) (packets_left (client_after_feed c more)) ≡ fed (rest_hearing c f) more
unfolding packets_hearing
same_rest c more Whole e none some = absurd (let h : true ≡ false = some in cc)
same_rest c more Open e none some = absurd (let h : true ≡ false = some in cc)
same_rest c more Broken e none some =
    let d = client_after_feed c more in
    let six = (has_broken_header (rest_of c.received) e).six in
    let rest = broken_rest c more e in
    ap (packets_hearing d) (broken_left c more e none)
    ∙ ap (rest_hearing d) (ap front_of rest ∙ front_of-append_broken (rest_of c.received) more e)
    ∙ ap (λ b. broken_hearing d (peer.Frame b)) (ap (take 6) rest ∙ take-append-le 6 (rest_of c.received) more six)

same_packets : (c : Client) (more : List ℕ) (packets : List (List ℕ)) → packets_left c ≡ packets → is_not_yet (packets_hearing c packets).heard ≡ false
    → packets_hearing (client_after_feed c more) (packets_left (client_after_feed c more)) ≡ fed (packets_hearing c packets) more
unfolding packets_hearing
same_packets c more [] e some = same_rest c more (front_of (rest_of c.received)) refl e some
same_packets c more (packet ∷ packets) e some =
    let d = client_after_feed c more in
    let says = first_passes says_something c.taken (frames_of c.received) packet packets e in
    let h = packet_heard (with_one_taken c) more packet says in
    ap (packets_hearing d) (packets_more c more packet packets e)
    ∙ ap (λ o. unwrap_or o (packets_hearing (with_one_taken d) (packets ++ filter says_something (new_frames c more)))) h.longer
    ∙ ap (λ o. fed (unwrap_or o (packets_hearing (with_one_taken c) packets)) more) (sym h.is)

same_samples : (c : Client) (more : List ℕ) (ss : List StampedSample) → is_not_yet (hearing_of_samples c ss).heard ≡ false
    → hearing_of_samples (client_after_feed c more) ss ≡ fed (hearing_of_samples c ss) more
same_samples c more [] some = same_packets c more (packets_left c) refl some
same_samples c more (s ∷ ss) some = refl

same_unless_broken : (c : Client) (more : List ℕ) (o : Option Peer) → is_not_yet (hearing_unless_broken c o).heard ≡ false
    → hearing_unless_broken (client_after_feed c more) o ≡ fed (hearing_unless_broken c o) more
same_unless_broken c more (Some p) some = refl
same_unless_broken c more None some = same_samples c more c.samples some

same_timeout : (c : Client) (more : List ℕ) (o : Option Unanswered) → is_not_yet (hearing_of_timeout c o).heard ≡ false
    → hearing_of_timeout (client_after_feed c more) o ≡ fed (hearing_of_timeout c o) more
same_timeout c more (Some u) some = refl
same_timeout c more None some = same_unless_broken c more c.broken some

-- what is heard is heard, whatever comes behind it
pub heard_as_fed : (c : Client) (more : List ℕ) → is_not_yet (next_hearing c).heard ≡ false
    → next_hearing (client_after_feed c more) ≡ fed (next_hearing c) more
unfolding next_hearing
heard_as_fed c more some = same_timeout c more (next_timeout c.unanswered) some

-- a client that hears nothing stays as it is
still_front : (c : Client) (f : Front) → is_not_yet (rest_hearing c f).heard ≡ true → (rest_hearing c f).client ≡ c
still_front c Whole waits = refl
still_front c Open waits = refl
still_front c Broken waits = absurd (let h : false ≡ true = waits in cc)

still_packets : (c : Client) (packets : List (List ℕ)) → packets_left c ≡ packets
    → is_not_yet (packets_hearing c packets).heard ≡ true → (packets_hearing c packets).client ≡ c
unfolding packets_hearing
still_packets c [] e waits = still_front c (front_of (rest_of c.received)) waits
still_packets c (packet ∷ packets) e waits =
    let says = first_passes says_something c.taken (frames_of c.received) packet packets e in
    let h = packet_heard (with_one_taken c) [] packet says in
    let is = h.is in
    let some = h.some in
    absurd (let w : is_not_yet h.x.heard ≡ true = rw is at waits in let e : true ≡ false = sym w ∙ some in cc)

still_sample : (s : StampedSample) → is_not_yet (heard_of_sample s) ≡ false
still_sample s = sample_heard (length s.sample.bytes == 0) (Ended s.sample.handle) (Sampled s.sample.handle s.time s.sample.bytes) refl refl

still_samples : (c : Client) (ss : List StampedSample) → is_not_yet (hearing_of_samples c ss).heard ≡ true → (hearing_of_samples c ss).client ≡ c
still_samples c [] waits = still_packets c (packets_left c) refl waits
still_samples c (s ∷ ss) waits = absurd (let e : false ≡ true = sym (still_sample s) ∙ waits in cc)

still_unless_broken : (c : Client) (o : Option Peer) → is_not_yet (hearing_unless_broken c o).heard ≡ true → (hearing_unless_broken c o).client ≡ c
still_unless_broken c (Some p) waits = absurd (let h : false ≡ true = waits in cc)
still_unless_broken c None waits = still_samples c c.samples waits

still_timeout : (c : Client) (o : Option Unanswered) → is_not_yet (hearing_of_timeout c o).heard ≡ true → (hearing_of_timeout c o).client ≡ c
still_timeout c (Some u) waits = absurd (let h : false ≡ true = waits in cc)
still_timeout c None waits = still_unless_broken c c.broken waits

pub still_client : (c : Client) → is_not_yet (next_hearing c).heard ≡ true → (next_hearing c).client ≡ c
unfolding next_hearing
still_client c waits = still_timeout c (next_timeout c.unanswered) waits
