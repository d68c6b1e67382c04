-- What a client hears behind an answer of a link: nothing while a frame is not whole; then the answer to its only request, or the only
-- sample of a notification; or that the peer is broken.
use Rattle.std.proofs.Common.{◌≡◌, ◌⊎◌, ℕ, ◌+◌, ◌-◌, ◌<◌, ◌^◌, List, [], ◌∷◌, ◌++◌, length, take, drop, map, Bool, true, false, refl, sym, ap, ◌∙◌, inl, inr}
use Rattle.std.proofs.Common.{arith}
use Rattle.std.specs.Prelude.{Some, None, filter, unwrap_or, nat_le, ◌==◌, if◌then◌else◌}
use Rattle.std.proofs.lemmas.Bool.{cond-false}
use Rattle.std.proofs.lemmas.Bool.Decides.{nat_tests}
use Rattle.std.proofs.lemmas.Slice.Eq.{bytes_eq-Decides}
use Rattle.ads_base.specs.declared.peer.Peer.{Peer}
use Rattle.ads_base.specs.declared.peer.Peer.TheVariants as peer
use Rattle.spec_frames.specs.Frame.{frame_bytes}
use Rattle.spec_frames.specs.Division.{Open, Broken, front_of, frames_of, rest_of}
use Rattle.spec_frames.proofs.DivisionLemmas.{rest_of-append}
use Rattle.std.specs.List.{AllByRecursion}
use Rattle.std.proofs.lemmas.List.{append-nil}
use Rattle.spec_formats.specs.Commands.{DEVICE_NOTIFICATION}
use Rattle.spec_formats.specs.Notification.{Sample}
use Rattle.spec_formats.specs.Header.{AmsAddress, AmsHeader, header_of, payload_of, is_same_address}
use Rattle.spec_formats.specs.NotificationReading.{notification_of}
use Rattle.spec_machine.proofs.Find.{test_same}
use Rattle.spec_client.specs.Heard.{Heard, Answered, Sampled, Ended, NotYet, StampedSample, samples_of_stamps, heard_of_sample}
use Rattle.spec_client.specs.Heard as spec
use Rattle.spec_client.specs.PassedOver.{is_response, says_something}
use Rattle.spec_client.specs.Unanswered.{Unanswered, TIMEOUT, is_overdue, is_outstanding_at, next_timeout, least_id, without_first, after_tick_of}
use Rattle.spec_client.specs.Client.{Client, client_after_feed, client_after_tick, packets_left}
use Rattle.spec_client.specs.Hearing.{Hearing, hearing, broken_hearing, is_answer, is_off_its_text, answer_hearing, header_hearing, packet_hearing}
use Rattle.spec_client.specs.Hearing.{rest_hearing, with_one_taken, packets_hearing, hearing_of_samples, hearing_unless_broken, hearing_of_timeout}
use Rattle.spec_client.specs.Hearing.{next_hearing}
use Rattle.spec_client.specs.Runner.{is_not_yet}
use Rattle.spec_local_room.proofs.Coming.{HasHeardAll, comes, packets_come, heard_still, heard_frame}

-- no request, or one that is asked for at this moment
abbrev pub IsAskedAt : ℕ → Unanswered → Type 0
IsAskedAt now u = (u.timed_out ≡ None) × (u.sent ≡ now)

pub record OneAsked (now : ℕ) (us : List Unanswered) : Type 0 where
  pub u : Unanswered
  pub is : us ≡ u ∷ []
  pub asked : IsAskedAt now u

abbrev pub FewAsked : ℕ → List Unanswered → Type 0
FewAsked now us = (us ≡ []) ⊎ OneAsked now us

no_time : (now : ℕ) → nat_le TIMEOUT (now - now) ≡ false
no_time now = grind (arith, nat_tests)

not_overdue : (now : ℕ) (u : Unanswered) → IsAskedAt now u → is_overdue now u ≡ false
not_overdue now u asked = rw (asked.0, asked.1, no_time now) refl

ticked_same : (now : ℕ) (us : List Unanswered) → FewAsked now us → map (after_tick_of now) us ≡ us
ticked_same now us (inl none) = rw none refl
ticked_same now us (inr one) =
    let same : after_tick_of now one.u ≡ one.u = cond-false (is_overdue now one.u) _ _ (not_overdue now one.u one.asked) in
    ap (map (after_tick_of now)) one.is ∙ ap (λ (u : Unanswered). u ∷ []) same ∙ sym one.is

-- a tick at this moment changes nothing
pub tick_keeps : (now : ℕ) (c : Client) → FewAsked now c.unanswered → client_after_tick c now ≡ c
unfolding client_after_tick
tick_keeps now c few = ap (λ (us : List Unanswered). record c { unanswered = us }) (ticked_same now c.unanswered few)

none_told : next_timeout [] ≡ None
unfolding least_id
none_told = refl

one_not_told : (u : Unanswered) → u.timed_out ≡ None → next_timeout (u ∷ []) ≡ None
unfolding least_id
one_not_told u on = rw on refl

pub nothing_told : (now : ℕ) (us : List Unanswered) → FewAsked now us → next_timeout us ≡ None
nothing_told now us (inl none) = ap next_timeout none ∙ none_told
nothing_told now us (inr one) = ap next_timeout one.is ∙ one_not_told one.u one.asked.0

-- a client that has heard all that came
pub record IsSilent (now : ℕ) (c : Client) : Type 0 where
  pub few : FewAsked now c.unanswered
  pub unbroken : c.broken ≡ None
  pub samples : c.samples ≡ []
  pub all : HasHeardAll c

next_is : (c : Client) (packets : List (List ℕ)) → next_timeout c.unanswered ≡ None → c.broken ≡ None → c.samples ≡ [] → packets_left c ≡ packets
    → next_hearing c ≡ packets_hearing c packets
unfolding next_hearing
next_is c packets told unbroken samples left =
    ap (hearing_of_timeout c) told ∙ ap (hearing_unless_broken c) unbroken ∙ ap (hearing_of_samples c) samples ∙ ap (packets_hearing c) left

hears_nothing : (c : Client) → front_of (rest_of c.received) ≡ Open → packets_hearing c [] ≡ hearing NotYet c
unfolding packets_hearing
hears_nothing c still = ap (rest_hearing c) still

hears_broken : (c : Client) → front_of (rest_of c.received) ≡ Broken → packets_hearing c [] ≡ rest_hearing c Broken
unfolding packets_hearing
hears_broken c broken = ap (rest_hearing c) broken

hears_first : (c : Client) (p : List ℕ) (x : Hearing) → packet_hearing (with_one_taken c) p ≡ Some x → packets_hearing c (p ∷ []) ≡ x
unfolding packets_hearing
hears_first c p x is = ap (λ o. unwrap_or o (packets_hearing (with_one_taken c) [])) is

-- the packet answers this request
pub record IsAnswerTo (u : Unanswered) (me peer : AmsAddress) (p : List ℕ) : Type 0 where
  pub header : AmsHeader
  pub read : header_of p ≡ Some header
  pub len : 32 + header.len ≡ length p
  pub response : is_response header ≡ true
  pub id : header.id ≡ u.id
  pub command : header.command ≡ u.command
  pub source : header.source ≡ peer
  pub target : header.target ≡ me

-- the packet has one sample, of this notification
pub record IsSampleOf (handle : ℕ) (p : List ℕ) : Type 0 where
  pub header : AmsHeader
  pub read : header_of p ≡ Some header
  pub len : 32 + header.len ≡ length p
  pub request : is_response header ≡ false
  pub command : header.command ≡ DEVICE_NOTIFICATION
  pub time : ℕ
  pub bytes : List ℕ
  pub stamps : notification_of (payload_of p) ≡ Some (record { time = time; samples = record { handle = handle; bytes = bytes } ∷ [] } ∷ [])

-- a sample of a handle that passes a test, and of some bytes
pub record IsAmong (test : ℕ → Bool) (s : Sample) : Type 0 where
  pub handle : test s.handle ≡ true
  pub some : s.bytes ≡ [] → ⊥

-- the packet has samples, each of them so
pub record HasSamples (test : ℕ → Bool) (p : List ℕ) : Type 0 where
  pub header : AmsHeader
  pub read : header_of p ≡ Some header
  pub len : 32 + header.len ≡ length p
  pub request : is_response header ≡ false
  pub command : header.command ≡ DEVICE_NOTIFICATION
  pub time : ℕ
  pub first : Sample
  pub others : List Sample
  pub among : AllByRecursion (IsAmong test) (first ∷ others)
  pub stamps : notification_of (payload_of p) ≡ Some (record { time = time; samples = first ∷ others } ∷ [])

abbrev pub stamped : ℕ → Sample → StampedSample
stamped time s = record { time = time; sample = s }

pub same_address : (a : AmsAddress) → is_same_address a a ≡ true
same_address a = rw ((bytes_eq-Decides a.net a.net).1 refl, test_same a.port a.port refl) refl

answers_one : (c : Client) (u : Unanswered) (me peer : AmsAddress) (p : List ℕ) (a : IsAnswerTo u me peer p) → c.unanswered ≡ u ∷ [] → u.timed_out ≡ None
    → c.me ≡ me → c.peer ≡ peer → is_answer c a.header ≡ true
answers_one c u me peer p a one on own other =
    rw (
      one,
      on,
      a.id,
      a.command,
      a.source,
      a.target,
      own,
      other,
      test_same u.id u.id refl,
      test_same u.command u.command refl,
      same_address peer,
      same_address me,
    ) refl

-- the answer is heard, or it is off its text
pub record HearsAnswer (c : Client) (p : List ℕ) (h : AmsHeader) (x : Hearing) : Type 0 where
  pub heard : x.heard ≡ Answered h.id h.error h.command (payload_of p)
  pub client : x.client ≡ record c { unanswered = [] }

pub record HearsBroken (x : Hearing) : Type 0 where
  pub broken : Peer
  pub heard : x.heard ≡ spec.Broken broken

first_goes : (u : Unanswered) (id : ℕ) → u.timed_out ≡ None → u.id ≡ id → without_first (is_outstanding_at id) (u ∷ []) ≡ []
unfolding without_first
first_goes u id on is = rw (on, is, test_same id id refl) refl

either_answer : (c : Client) (p : List ℕ) (h : AmsHeader) (off : Bool) (us : List Unanswered) → us ≡ []
    → let x = if off then broken_hearing c (peer.Text p) else hearing (Answered h.id h.error h.command (payload_of p)) (record c { unanswered = us }) in
    HearsAnswer c p h x ⊎ HearsBroken x
either_answer c p h true us none = inr (record { broken = peer.Text p; heard = refl })
either_answer c p h false us none = inl (record { heard = refl; client = ap (λ (l : List Unanswered). record c { unanswered = l }) none })

pub record AnswerHeard (c : Client) (u : Unanswered) (p : List ℕ) (h : AmsHeader) : Type 0 where
  pub x : Hearing
  pub is : packet_hearing c p ≡ Some x
  pub heard : HearsAnswer c p h x ⊎ HearsBroken x

pub answer_heard : (c : Client) (u : Unanswered) (me peer : AmsAddress) (p : List ℕ) (a : IsAnswerTo u me peer p) → c.unanswered ≡ u ∷ [] → u.timed_out ≡ None
    → c.me ≡ me → c.peer ≡ peer → AnswerHeard c u p a.header
unfolding packet_hearing
answer_heard c u me peer p a one on own other =
    let h = a.header in
    let len : (32 + h.len == length p) ≡ true = test_same (32 + h.len) (length p) a.len in
    let is_one = answers_one c u me peer p a one on own other in
    let left : without_first (is_outstanding_at h.id) c.unanswered ≡ [] = ap (without_first (is_outstanding_at h.id)) one ∙ first_goes u h.id on (sym a.id) in
    record {
      x = answer_hearing c h p;
      is = ap (λ o. header_hearing c o p) a.read ∙ rw (len, a.response, is_one) refl;
      heard = either_answer c p h (is_off_its_text h (payload_of p)) _ left;
    }

pub sample_heard : (c : Client) (handle : ℕ) (p : List ℕ) (a : IsSampleOf handle p) → c.samples ≡ []
    → packet_hearing c p ≡ Some
    (hearing (heard_of_sample (record { time = a.time; sample = record { handle = handle; bytes = a.bytes } })) (record c { samples = [] }))
unfolding packet_hearing
sample_heard c handle p a none =
    let h = a.header in
    let len : (32 + h.len == length p) ≡ true = test_same (32 + h.len) (length p) a.len in
    let command : (h.command == DEVICE_NOTIFICATION) ≡ true = test_same h.command DEVICE_NOTIFICATION a.command in
    ap (λ o. header_hearing c o p) a.read ∙ rw (len, a.request, command, a.stamps) refl

pub samples_heard : (test : ℕ → Bool) (c : Client) (p : List ℕ) (a : HasSamples test p)
    → packet_hearing c p ≡ Some (hearing (heard_of_sample (stamped a.time a.first)) (record c { samples = map (stamped a.time) a.others }))
unfolding packet_hearing
samples_heard test c p a =
    let h = a.header in
    let len : (32 + h.len == length p) ≡ true = test_same (32 + h.len) (length p) a.len in
    let command : (h.command == DEVICE_NOTIFICATION) ≡ true = test_same h.command DEVICE_NOTIFICATION a.command in
    ap (λ o. header_hearing c o p) a.read ∙ rw (len, a.request, command, a.stamps) refl
    ∙ ap (λ (ss : List StampedSample). Some (hearing (heard_of_sample (stamped a.time a.first)) (record c { samples = ss })))
    (append-nil (map (stamped a.time) a.others))

pub samples_say : (test : ℕ → Bool) (p : List ℕ) → HasSamples test p → says_something p ≡ true
unfolding says_something
samples_say test p a =
    let len : (32 + a.header.len == length p) ≡ true = test_same (32 + a.header.len) (length p) a.len in
    let command : (a.header.command == DEVICE_NOTIFICATION) ≡ true = test_same a.header.command DEVICE_NOTIFICATION a.command in
    rw (a.read, len, a.request, command, a.stamps) refl

-- the next of the samples that are left is heard
pub next_sample : (c : Client) (s : StampedSample) (ss : List StampedSample) → next_timeout c.unanswered ≡ None → c.broken ≡ None → c.samples ≡ s ∷ ss
    → next_hearing c ≡ hearing (heard_of_sample s) (record c { samples = ss })
unfolding next_hearing
next_sample c s ss told unbroken left =
    ap (hearing_of_timeout c) told ∙ ap (hearing_unless_broken c) unbroken ∙ ap (hearing_of_samples c) left

-- a sample is something
pub sample_told : (s : StampedSample) → is_not_yet (heard_of_sample s) ≡ false
sample_told s = go (length s.sample.bytes == 0)
  where
    go : (b : Bool) → is_not_yet (if b then Ended s.sample.handle else Sampled s.sample.handle s.time s.sample.bytes) ≡ false
    go true = refl
    go false = refl

pub answer_says : (u : Unanswered) (me peer : AmsAddress) (p : List ℕ) → IsAnswerTo u me peer p → says_something p ≡ true
unfolding says_something
answer_says u me peer p a =
    let len : (32 + a.header.len == length p) ≡ true = test_same (32 + a.header.len) (length p) a.len in
    rw (a.read, len, a.response) refl

pub sample_says : (handle : ℕ) (p : List ℕ) → IsSampleOf handle p → says_something p ≡ true
unfolding says_something
sample_says handle p a =
    let len : (32 + a.header.len == length p) ≡ true = test_same (32 + a.header.len) (length p) a.len in
    let command : (a.header.command == DEVICE_NOTIFICATION) ≡ true = test_same a.header.command DEVICE_NOTIFICATION a.command in
    rw (a.read, len, a.request, command, a.stamps) refl

-- a silent client hears nothing
drop_all : (xs : List (List ℕ)) → drop (length xs) xs ≡ []
drop_all [] = refl
drop_all (x ∷ xs) = drop_all xs

pub silent_hears : (now : ℕ) (c : Client) → IsSilent now c → next_hearing c ≡ hearing NotYet c
silent_hears now c silent =
    let says = filter says_something (frames_of c.received) in
    let left : packets_left c ≡ [] = ap (λ n. drop n says) silent.all.taken ∙ drop_all says in
    next_is c [] (nothing_told now c.unanswered silent.few) silent.unbroken silent.samples left ∙ hears_nothing c silent.all.front

-- what bytes of a frame leave of a silent client

pub record FedStill (now : ℕ) (c : Client) (bytes w : List ℕ) : Type 0 where
  pub silent : IsSilent now (client_after_feed c bytes)
  pub rest : rest_of (c.received ++ bytes) ≡ rest_of c.received ++ bytes
  pub some : w ≡ [] → ⊥

pub record FedBroken (c : Client) (bytes : List ℕ) : Type 0 where
  pub broken : Peer
  pub is : next_hearing (client_after_feed c bytes) ≡ broken_hearing (client_after_feed c bytes) broken

pub record FedWhole (c : Client) (bytes w p : List ℕ) : Type 0 where
  pub none : w ≡ []
  pub hears : (x : Hearing) → says_something p ≡ true → packet_hearing (with_one_taken (client_after_feed c bytes)) p ≡ Some x
      → next_hearing (client_after_feed c bytes) ≡ x
  pub all : says_something p ≡ true → HasHeardAll (record c { received = c.received ++ bytes; taken = c.taken + 1 })
  pub rest : rest_of (c.received ++ bytes) ≡ []

one_said : (p : List ℕ) → says_something p ≡ true → filter says_something (p ∷ []) ≡ p ∷ []
one_said p says = rw says refl

pub fed_cases : (now : ℕ) (c : Client) (bytes w p : List ℕ) → IsSilent now c → (rest_of c.received ++ bytes) ++ w ≡ frame_bytes p → length p < 2 ^ 32
    → FedStill now c bytes w ⊎ (FedBroken c bytes ⊎ FedWhole c bytes w p)
fed_cases now c bytes w p silent is small =
    let t = rest_of c.received ++ bytes in
    let d = client_after_feed c bytes in
    let told = nothing_told now c.unanswered silent.few in
    elim (comes t w p is small) [
      | inl came ↦ inr (inr (record {
        none = came.none_left;
        hears = λ x says hears.
            next_is d (p ∷ []) told silent.unbroken silent.samples (packets_come c bytes (p ∷ []) silent.all came.frames ∙ one_said p says)
            ∙ hears_first d p x hears;
        all = λ says. heard_frame c bytes p silent.all came.frames came.rest says;
        rest = rest_of-append bytes c.received ∙ came.rest;
      }))
      | inr (inl still) ↦ inl (record {
        silent = record {
          few = silent.few;
          unbroken = silent.unbroken;
          samples = silent.samples;
          all = heard_still c bytes silent.all still.frames still.front;
        };
        rest = rest_of-append bytes c.received ∙ still.rest;
        some = still.some_left;
      })
      | inr (inr broken) ↦
          let front : front_of (rest_of (c.received ++ bytes)) ≡ Broken = ap front_of (rest_of-append bytes c.received ∙ broken.rest) ∙ broken.front in
          inr (inl (record {
            broken = peer.Frame (take 6 (rest_of (c.received ++ bytes)));
            is = next_is d [] told silent.unbroken silent.samples (packets_come c bytes [] silent.all broken.frames) ∙ hears_broken d front;
          }))
    ]
