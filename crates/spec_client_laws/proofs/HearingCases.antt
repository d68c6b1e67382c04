-- What a client hears ends one of its requests, by an answer or by a timeout, or it ends none.
use Rattle.std.proofs.Common.{◌≡◌, ◌⊎◌, ℕ, zero, suc, ◌+◌, List, [], ◌∷◌, length, drop, Bool, true, false, cond, refl, sym, ◌∙◌, ap, subst, inl, inr}
use Rattle.std.specs.Prelude.{Option, Some, None, filter, unwrap_or, ◌==◌, ◌&&◌, not}
use Rattle.std.specs.List.{list_any}
use Rattle.ads_base.specs.declared.peer.Peer.{Peer}
use Rattle.spec_frames.specs.Division.{Front, Whole, Open, Broken, frames_of, front_of, rest_of}
use Rattle.spec_formats.specs.Header.{AmsHeader, is_same_address, header_of, payload_of}
use Rattle.spec_formats.specs.Notification.{Stamp}
use Rattle.spec_formats.specs.NotificationReading.{notification_of}
use Rattle.spec_formats.specs.Commands.{DEVICE_NOTIFICATION}
use Rattle.spec_client.specs.Heard.{Heard, Answered, TimedOut, StampedSample, samples_of_stamps, heard_of_sample, Ended, Sampled}
use Rattle.spec_client.specs.Unanswered.{Unanswered, is_outstanding_at, is_timed_out_at, next_timeout, without_first}
use Rattle.spec_client.specs.PassedOver.{is_response, says_something}
use Rattle.spec_client.specs.Client.{Client, packets_left}
use Rattle.spec_client.specs.Hearing.{Hearing, broken_hearing, is_answer, is_off_its_text, response_hearing}
use Rattle.spec_client.specs.Hearing.{samples_hearing, notification_hearing, header_hearing, packet_hearing}
use Rattle.spec_client.specs.Hearing.{rest_hearing, with_one_taken, packets_hearing, hearing_of_samples}
use Rattle.spec_client.specs.Hearing.{hearing_unless_broken, hearing_of_timeout, next_hearing}
use Rattle.spec_client_laws.specs.Fates.{IsOneOf}

-- the addresses stay
pub record SameEnds (c d : Client) : Type 0 where
  pub me : d.me ≡ c.me
  pub peer : d.peer ≡ c.peer
  pub received : d.received ≡ c.received

-- the timeout that is told next
pub record TimesOut (c : Client) (x : Hearing) : Type 0 where
  pub ends : SameEnds c x.client
  pub request : Unanswered
  pub next : next_timeout c.unanswered ≡ Some request
  pub heard : x.heard ≡ TimedOut request.id request.sent (unwrap_or request.timed_out 0)
  pub left : x.client.unanswered ≡ without_first (is_timed_out_at request.id) c.unanswered

-- an answer
pub record IsAnswered (c : Client) (x : Hearing) : Type 0 where
  pub ends : SameEnds c x.client
  pub packet : List ℕ
  pub came : IsOneOf packet (frames_of c.received)
  pub header : AmsHeader
  pub read : header_of packet ≡ Some header
  pub response : is_response header ≡ true
  pub answer : is_answer c header ≡ true
  pub heard : x.heard ≡ Answered header.id header.error header.command (payload_of packet)
  pub left : x.client.unanswered ≡ without_first (is_outstanding_at header.id) c.unanswered

-- neither of them
abbrev pub EndsNone : Heard → Type 0
EndsNone (Answered id error command payload) = ⊥
EndsNone (TimedOut id sent now) = ⊥
EndsNone heard = Unit {0}

pub record EndsNothing (c : Client) (x : Hearing) : Type 0 where
  pub ends : SameEnds c x.client
  pub heard : EndsNone x.heard
  pub left : x.client.unanswered ≡ c.unanswered

abbrev pub HearingCase : Client → Hearing → Type 0
HearingCase c x = TimesOut c x ⊎ (IsAnswered c x ⊎ EndsNothing c x)

-- what frames lead to, which tell no timeout
abbrev FrameCase : Client → Hearing → Type 0
FrameCase c x = IsAnswered c x ⊎ EndsNothing c x

pub if_both : {A : Type 0} (P : A → Type 0) (b : Bool) (x y : A) → (b ≡ true → P x) → (b ≡ false → P y) → P (cond b x y)
if_both P true x y p q = p refl
if_both P false x y p q = q refl

broken_case : (c : Client) (p : Peer) → EndsNothing c (broken_hearing c p)
broken_case c p = record { ends = record { me = refl; peer = refl; received = refl }; heard = tt; left = refl }

sample_case : (c : Client) (s : StampedSample) (ss : List StampedSample)
    → EndsNothing c (record { heard = heard_of_sample s; client = record c { samples = ss } })
sample_case c s ss = go (length s.sample.bytes == 0)
  where
    go : (b : Bool) → EndsNothing c (record {
      heard = cond b (Ended s.sample.handle) (Sampled s.sample.handle s.time s.sample.bytes);
      client =
          record c { samples = ss };
    })
    go true = record { ends = record { me = refl; peer = refl; received = refl }; heard = tt; left = refl }
    go false = record { ends = record { me = refl; peer = refl; received = refl }; heard = tt; left = refl }

-- where something is heard, it is such a case
abbrev MaybeCase : Client → Option Hearing → Type 0
MaybeCase c None = Unit {0}
MaybeCase c (Some x) = FrameCase c x

samples_case : (c : Client) (ss : List StampedSample) → MaybeCase c (samples_hearing c ss)
samples_case c [] = tt
samples_case c (s ∷ ss) = inr (sample_case c s ss)

notification_case : (c : Client) (packet : List ℕ) (o : Option (List Stamp)) → MaybeCase c (notification_hearing c packet o)
notification_case c packet None = inr (broken_case c _)
notification_case c packet (Some stamps) = samples_case c (samples_of_stamps stamps)

response_case : (c : Client) (h : AmsHeader) (packet : List ℕ) → IsOneOf packet (frames_of c.received) → header_of packet ≡ Some h → is_response h ≡ true
    → FrameCase c (response_hearing c h packet)
response_case c h packet came e r =
    if_both (FrameCase c) (is_answer c h) _ _
    (λ a. if_both (FrameCase c) (is_off_its_text h (payload_of packet)) _ _ (λ t. inr (broken_case c _))
    (λ t. inl (record {
      ends = record { me = refl; peer = refl; received = refl };
      packet = packet;
      came = came;
      header = h;
      read = e;
      response = r;
      answer =
          a;
      heard = refl;
      left = refl;
    })))
    (λ a. inr (record { ends = record { me = refl; peer = refl; received = refl }; heard = tt; left = refl }))

header_case : (c : Client) (packet : List ℕ) → IsOneOf packet (frames_of c.received) → (o : Option AmsHeader) → header_of packet ≡ o
    → MaybeCase c (header_hearing c o packet)
header_case c packet came None e = tt
header_case c packet came (Some h) e =
    if_both (MaybeCase c) (not (32 + h.len == length packet)) _ _ (λ t. inr (broken_case c _))
    (λ t. if_both (MaybeCase c) (is_response h) _ _ (λ r. response_case c h packet came e r)
    (λ r. if_both (MaybeCase c) (h.command == DEVICE_NOTIFICATION) _ _ (λ n. notification_case c packet (notification_of (payload_of packet))) (λ n. tt)))

-- what holds of a client that took packets holds of the one before
taken_before : (c d : Client) (x : Hearing) → SameEnds c d → d.unanswered ≡ c.unanswered → FrameCase d x → FrameCase c x
taken_before c d x ends same (inr n) = inr (record {
  ends = record { me = n.ends.me ∙ ends.me; peer = n.ends.peer ∙ ends.peer; received = n.ends.received ∙ ends.received };
  heard = n.heard;
  left = n.left ∙ same;
})
taken_before c d x ends same (inl a) =
    let answered : List Unanswered → Bool = λ us. list_any (λ (u : Unanswered). is_outstanding_at a.header.id u && (u.command == a.header.command)) us in
    inl (record {
      ends = record { me = a.ends.me ∙ ends.me; peer = a.ends.peer ∙ ends.peer; received = a.ends.received ∙ ends.received };
      packet = a.packet;
      came = subst (λ bytes. IsOneOf a.packet (frames_of bytes)) ends.received a.came;
      header = a.header;
      read = a.read;
      response = a.response;
      answer = ap (λ us. answered us && is_same_address a.header.source c.peer && is_same_address a.header.target c.me) (sym same)
          ∙ ap (λ p. answered d.unanswered && is_same_address a.header.source p && is_same_address a.header.target c.me) (sym ends.peer)
          ∙ ap (λ m. answered d.unanswered && is_same_address a.header.source d.peer && is_same_address a.header.target m) (sym ends.me) ∙ a.answer;
      heard = a.heard;
      left = a.left ∙ ap (without_first (is_outstanding_at a.header.id)) same;
    })

rest_case : (c : Client) (f : Front) → FrameCase c (rest_hearing c f)
rest_case c Whole = inr (record { ends = record { me = refl; peer = refl; received = refl }; heard = tt; left = refl })
rest_case c Open = inr (record { ends = record { me = refl; peer = refl; received = refl }; heard = tt; left = refl })
rest_case c Broken = inr (broken_case c _)

-- all of these packets came
AllCame : List ℕ → List (List ℕ) → Type 0
AllCame received [] = Unit {0}
AllCame received (p ∷ ps) = IsOneOf p (frames_of received) × AllCame received ps

packets_case : (c : Client) (ps : List (List ℕ)) → AllCame c.received ps → FrameCase c (packets_hearing c ps)
unfolding packets_hearing packet_hearing AllCame
packets_case c [] all = rest_case c (front_of (rest_of c.received))
packets_case c (p ∷ ps) all =
    let d = with_one_taken c in
    let ends : SameEnds c d = record { me = refl; peer = refl; received = refl } in
    taken_before c d (unwrap_or (header_hearing d (header_of p) p) (packets_hearing d ps)) ends refl
    (first (header_hearing d (header_of p) p) (header_case d p (all.0) (header_of p) refl) (packets_case d ps (all.1)))
  where
    first : (o : Option Hearing) → MaybeCase (with_one_taken c) o → FrameCase (with_one_taken c) (packets_hearing (with_one_taken c) ps)
        → FrameCase (with_one_taken c) (unwrap_or o (packets_hearing (with_one_taken c) ps))
    first None n later = later
    first (Some x) here later = here

-- the packets that are left came
came_all : (received : List ℕ) (ps : List (List ℕ)) → ((p : List ℕ) → IsOneOf p ps → IsOneOf p (frames_of received)) → AllCame received ps
unfolding AllCame
came_all received [] h = tt
came_all received (p ∷ ps) h = (h p (inl refl), came_all received ps (λ q i. h q (inr i)))

one_of_filter : (test : List ℕ → Bool) (ps : List (List ℕ)) (p : List ℕ) → IsOneOf p (filter test ps) → IsOneOf p ps
one_of_filter test [] p h = h
one_of_filter test (q ∷ qs) p h = go (λ i. one_of_filter test qs p i) (test q) h
  where
    go : (IsOneOf p (filter test qs) → IsOneOf p qs) → (b : Bool) → IsOneOf p (cond b (q ∷ filter test qs) (filter test qs)) → IsOneOf p (q ∷ qs)
    go rest true (inl e) = inl e
    go rest true (inr i) = inr (rest i)
    go rest false i = inr (rest i)

one_of_drop : (n : ℕ) (ps : List (List ℕ)) (p : List ℕ) → IsOneOf p (drop n ps) → IsOneOf p ps
one_of_drop zero ps p h = h
one_of_drop (suc n) [] p h = h
one_of_drop (suc n) (q ∷ qs) p h = inr (one_of_drop n qs p h)

left_came : (c : Client) → AllCame c.received (packets_left c)
left_came c = came_all c.received (packets_left c)
    (λ p i. one_of_filter says_something (frames_of c.received) p (one_of_drop c.taken (filter says_something (frames_of c.received)) p i))

frame_or : (c : Client) (x : Hearing) → FrameCase c x → HearingCase c x
frame_or c x h = inr h

samples_or : (c : Client) (ss : List StampedSample) → HearingCase c (hearing_of_samples c ss)
samples_or c [] = frame_or c (packets_hearing c (packets_left c)) (packets_case c (packets_left c) (left_came c))
samples_or c (s ∷ ss) = inr (inr (sample_case c s ss))

unless_broken : (c : Client) (o : Option Peer) → HearingCase c (hearing_unless_broken c o)
unless_broken c (Some p) = inr (inr (record { ends = record { me = refl; peer = refl; received = refl }; heard = tt; left = refl }))
unless_broken c None = samples_or c c.samples

timeout_case : (c : Client) (o : Option Unanswered) → next_timeout c.unanswered ≡ o → HearingCase c (hearing_of_timeout c o)
timeout_case c None e = unless_broken c c.broken
timeout_case c (Some u) e = inl (record { ends = record { me = refl; peer = refl; received = refl }; request = u; next = e; heard = refl; left = refl })

pub next_case : (c : Client) → HearingCase c (next_hearing c)
unfolding next_hearing
next_case c = timeout_case c (next_timeout c.unanswered) refl
