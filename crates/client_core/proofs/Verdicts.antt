-- What one packet leads to, and what becomes of it.
use Rattle.std.proofs.Common.{take, ◌≡◌, ◌≢◌, ℕ, zero, suc, ◌+◌, ◌%◌, ◌<◌, ◌≤◌, List, [], ◌∷◌, length, Bool}
use Rattle.std.proofs.Common.{true, false, refl, sym, ap, ◌∙◌, subst, arith, inl, inr}
use Rattle.std.specs.Prelude.{Option, Some, None, Result, Ok, Err, IfOk, OnErr, MatchResult, is_some, is_none}
use Rattle.std.specs.Prelude.{not, ◌&&◌, ◌==◌, option_map, unwrap_or, if◌then◌else◌}
use Rattle.std.specs.List.{list_any}
use Rattle.std.proofs.lemmas.Bool.{cases_Bool, eq-eqb, ne_eqb, lt-ltb}
use Rattle.ads_base.specs.declared.no_memory.NoMemory.{NoMemory}
use Rattle.ads_base.specs.declared.peer.Peer.{Peer}
use Rattle.ads_base.specs.declared.peer.Peer.TheVariants as peer
use Rattle.spec_frames.specs.Division.{rest_of}
use Rattle.spec_formats.specs.Commands.{DEVICE_NOTIFICATION}
use Rattle.spec_formats.specs.Header.{AmsAddress, AmsHeader, is_same_address, header_of, payload_of}
use Rattle.spec_formats.specs.Notification.{Stamp}
use Rattle.spec_formats.specs.NotificationReading.{notification_of}
use Rattle.ams_tcp.specs.History as stream
use Rattle.ams_tcp.specs.declared.cut.Cut.{Cut}
use Rattle.spec_client.specs.Heard as spec
use Rattle.spec_client.specs.Heard.{StampedSample, samples_of_stamps, heard_of_sample}
use Rattle.spec_client.specs.PassedOver.{is_any, notification_says, header_says, says_something, is_response}
use Rattle.spec_client.specs.Unanswered.{Unanswered, is_outstanding_at, without_first}
use Rattle.spec_client.specs.Client.{Client, packets_left}
use Rattle.spec_client.specs.Hearing.{Hearing, hearing, broken_hearing, response_hearing, samples_hearing}
use Rattle.spec_client.specs.Hearing.{notification_hearing, header_hearing, packet_hearing, packets_hearing}
use Rattle.spec_client.specs.Hearing.{with_one_taken}
use Rattle.client_core.specs.Kept.{Kept, waiting_count}
use Rattle.client_core.specs.Represents.{Streams, StandsFor}
use Rattle.client_core.specs.Heard.{heard_meant}
use Rattle.client_core.specs.declared.heard.Heard.{Heard}
use Rattle.client_core.specs.declared.heard.Heard.TheVariants as value
use Rattle.client_core.specs.declared.verdict.Verdict.{Verdict}
use Rattle.client_core.specs.declared.verdict.Verdict.TheVariants as verdict
use Rattle.client_core.specs.Hears.{StandsStill, IsHearing, Hears, hearing_in_frames, HearsFrames, HeardAt}
use Rattle.client_core.specs.Hears.{Turns, with_waiting, IsQuiet, IsAtBroken, CutFor, Cuts, Holds, HoldsFirst}
use Rattle.client_core.specs.Hears.{IsVerdictOf, IsVerdict, Applies}
use Rattle.client_core.proofs.PacketsLeft.{passed_over, taken_over, next_left}

either_is : {X : Type 0} (b s t : Bool) (x y : Option X) → s ≡ is_some x → t ≡ is_some y → (if b then s else t) ≡ is_some (if b then x else y)
either_is true s t x y e f = e
either_is false s t x y e f = f

samples_say : (c : Client) (ss : List StampedSample) → is_any ss ≡ is_some (samples_hearing c ss)
samples_say c [] = refl
samples_say c (s ∷ ss) = refl

notification_says_is : (c : Client) (packet : List ℕ) (o : Option (List Stamp)) → notification_says o ≡ is_some (notification_hearing c packet o)
notification_says_is c packet None = refl
notification_says_is c packet (Some stamps) = samples_say c (samples_of_stamps stamps)

header_says_is : (c : Client) (packet : List ℕ) (o : Option AmsHeader) → header_says o packet ≡ is_some (header_hearing c o packet)
header_says_is c packet None = refl
header_says_is c packet (Some h) =
    either_is (not (32 + h.len == length packet)) _ _ _ _ refl
    (either_is (is_response h) _ _ _ _ refl
    (either_is (h.command == DEVICE_NOTIFICATION) _ _ _ _ (notification_says_is c packet (notification_of (payload_of packet))) refl))

-- a packet says something where something is heard of it
says_is : (c : Client) (packet : List ℕ) → says_something packet ≡ is_some (packet_hearing c packet)
unfolding says_something packet_hearing
says_is c packet = header_says_is c packet (header_of packet)

-- the next packet is what is heard of the frames
heard_next : (c : Client) (packet : List ℕ) (x : Hearing) → packets_left c ≡ packet ∷ packets_left (with_one_taken c)
    → packet_hearing (with_one_taken c) packet ≡ Some x → hearing_in_frames c ≡ x
unfolding packets_hearing
heard_next c packet x left e = rw (left, e) refl

-- a packet of which nothing is heard
pub passes_on : (k : Kept) → k.waiting ≡ None → (packet : List ℕ) (c : Client) → StandsFor (with_waiting k packet) c
    → packet_hearing (with_one_taken c) packet ≡ None → StandsFor k c
passes_on k idle packet c s e =
    let silent : says_something packet ≡ false = says_is (with_one_taken c) packet ∙ ap (λ (o : Option Hearing). is_some o) e in
    record {
      me = s.me;
      peer = s.peer;
      last_id = s.last_id;
      unanswered = s.unanswered;
      streams = passed_over k idle c packet silent s.streams;
      samples = s.samples;
      broken = s.broken;
    }

-- a packet of which something is heard
pub record IsTaken (k : Kept) (c : Client) (x : Hearing) : Type 0 where
  pub heard : hearing_in_frames c ≡ x
  pub stands : StandsFor k (with_one_taken c)

pub takes : (k : Kept) → k.waiting ≡ None → (packet : List ℕ) (c : Client) (x : Hearing) → StandsFor (with_waiting k packet) c
    → packet_hearing (with_one_taken c) packet ≡ Some x → IsTaken k c x
takes k idle packet c x s e =
    let says : says_something packet ≡ true = says_is (with_one_taken c) packet ∙ ap (λ (o : Option Hearing). is_some o) e in
    record {
      heard = heard_next c packet x (next_left k c packet says s.streams) e;
      stands = record {
        me = s.me;
        peer = s.peer;
        last_id = s.last_id;
        unanswered = s.unanswered;
        streams = taken_over k idle c packet says s.streams;
        samples = s.samples;
        broken = s.broken;
      };
    }

-- this is heard, where what is kept then stands for the client behind it
heard_as : (new : Kept) (heard : Heard) (c : Client) (x : Hearing) → hearing_in_frames c ≡ x → IsHearing new heard x → IsHearing new heard (hearing_in_frames c)
heard_as new heard c x e is = subst (λ (y : Hearing). IsHearing new heard y) (sym e) is

-- the fields that hearing changes, one at a time
pub unanswered_changed : (k : Kept) (us : List Unanswered) (c : Client) (vs : List Unanswered) → StandsFor k c → us ≡ vs
    → StandsFor (record k { unanswered = us }) (record c { unanswered = vs })
unanswered_changed k us c vs s e = record {
  me = s.me;
  peer = s.peer;
  last_id = s.last_id;
  unanswered = e;
  streams = record { given = s.streams.given; stream = s.streams.stream; waiting = s.streams.waiting; taken = s.streams.taken };
  samples = s.samples;
  broken = s.broken;
}

pub samples_changed : (k : Kept) (ss : List StampedSample) (c : Client) (ts : List StampedSample) → StandsFor k c → ss ≡ ts
    → StandsFor (record k { samples = ss }) (record c { samples = ts })
samples_changed k ss c ts s e = record {
  me = s.me;
  peer = s.peer;
  last_id = s.last_id;
  unanswered = s.unanswered;
  streams = record { given = s.streams.given; stream = s.streams.stream; waiting = s.streams.waiting; taken = s.streams.taken };
  samples = e;
  broken = s.broken;
}

broken_changed : (k : Kept) (p : Peer) (c : Client) (q : Peer) → StandsFor k c → p ≡ q → StandsFor (record k { broken = Some p }) (record c { broken = Some q })
broken_changed k p c q s e = record {
  me = s.me;
  peer = s.peer;
  last_id = s.last_id;
  unanswered = s.unanswered;
  streams = record { given = s.streams.given; stream = s.streams.stream; waiting = s.streams.waiting; taken = s.streams.taken };
  samples = s.samples;
  broken = ap (λ x. Some x) e;
}

-- what becomes of each verdict
pub applied_passes : (old k : Kept) → k ≡ old → old.waiting ≡ None → (packet : List ℕ) → Applies old k packet verdict.Passes None
applied_passes old k e idle packet c s x = subst (λ (o : Kept). StandsFor o c) (sym e) (passes_on old idle packet c s x)

pub applied_says : (old k : Kept) → k ≡ old → old.waiting ≡ None → (packet : List ℕ) (heard : Heard) → Applies old k packet (verdict.Says heard) (Some heard)
applied_says old k e idle packet heard c s x =
    let t = takes old idle packet c (hearing (heard_meant heard) (with_one_taken c)) s x in
    heard_as k heard c _ t.heard (record { heard_is = refl; stands = subst (λ (o : Kept). StandsFor o (with_one_taken c)) (sym e) t.stands })

pub applied_answers : (old k : Kept) → k ≡ old → old.waiting ≡ None → (packet : List ℕ) (id : ℕ) (heard : Heard) (us : List Unanswered)
    → us ≡ without_first (is_outstanding_at id) k.unanswered → Applies old (record k { unanswered = us }) packet (verdict.Answers id heard) (Some heard)
applied_answers old k e idle packet id heard us is c s x =
    let t = takes old idle packet c
    (hearing (heard_meant heard) (record (with_one_taken c) { unanswered = without_first (is_outstanding_at id) c.unanswered })) s x in
    let stands : StandsFor k (with_one_taken c) = subst (λ (o : Kept). StandsFor o (with_one_taken c)) (sym e) t.stands in
    heard_as (record k { unanswered = us }) heard c _ t.heard (record {
      heard_is = refl;
      stands = unanswered_changed k us (with_one_taken c) (without_first (is_outstanding_at id) c.unanswered) stands
          (is ∙ ap (λ vs. without_first (is_outstanding_at id) vs) stands.unanswered);
    })

pub applied_breaks : (old k : Kept) → k ≡ old → old.waiting ≡ None → (packet copy : List ℕ)
    → Applies old (record k { broken = Some (peer.Text packet) }) packet (verdict.Breaks copy) (Some (value.Broken (peer.Text copy)))
applied_breaks old k e idle packet copy c s x =
    let t = takes old idle packet c (broken_hearing (with_one_taken c) (peer.Text packet)) s x.0 in
    let stands : StandsFor k (with_one_taken c) = subst (λ (o : Kept). StandsFor o (with_one_taken c)) (sym e) t.stands in
    heard_as (record k { broken = Some (peer.Text packet) }) (value.Broken (peer.Text copy)) c _ t.heard (record {
      heard_is = ap (λ p. spec.Broken (peer.Text p)) x.1;
      stands = broken_changed k (peer.Text packet) (with_one_taken c) (peer.Text packet) stands refl;
    })

-- a notification whose samples are these
abbrev HoldsVerdict : List StampedSample → List ℕ → Client → Type 0
HoldsVerdict ss packet c = packet_hearing c packet ≡ samples_hearing c ss

held_first : (old new : Kept) → old.waiting ≡ None → (packet : List ℕ) (ss : List StampedSample) (heard : Heard) → HoldsFirst old new ss heard
    → (c : Client) → StandsFor (with_waiting old packet) c → HoldsVerdict ss packet (with_one_taken c) → IsHearing new heard (hearing_in_frames c)
held_first old new idle packet [] heard h c s x = absurd h
held_first old new idle packet (first ∷ ss) heard h c s x =
    let t = takes old idle packet c (hearing (heard_of_sample first) (record (with_one_taken c) { samples = ss })) s x in
    heard_as new heard c _ t.heard (record {
      heard_is = h.0;
      stands = subst (λ (o : Kept). StandsFor o (record (with_one_taken c) { samples = ss })) (sym h.1)
          (samples_changed old ss (with_one_taken c) ss t.stands refl);
    })

pub applied_holds : (old new : Kept) → old.waiting ≡ None → (packet : List ℕ) (ss : List StampedSample) (heard : Option Heard) → Holds old new ss heard
    → (c : Client) → StandsFor (with_waiting old packet) c → HoldsVerdict ss packet (with_one_taken c) → HeardAt new heard c
applied_holds old new idle packet ss None h c s x =
    let silent : packet_hearing (with_one_taken c) packet ≡ None = x ∙ ap (λ ts. samples_hearing (with_one_taken c) ts) h.0 in
    subst (λ (o : Kept). StandsFor o c) (sym h.1) (passes_on old idle packet c s silent)
applied_holds old new idle packet ss (Some heard) h c s x = held_first old new idle packet ss heard h c s x

-- a turn with a packet
pub turned : (old mid new : Kept) (packet : List ℕ)
    → ((c : Client) → StandsFor old c → StandsFor (with_waiting mid packet) c) → (r : Result (Option Heard) NoMemory)
    → IfOk r (λ heard. (c : Client) → StandsFor (with_waiting mid packet) c → HeardAt new heard c) → OnErr r (new ≡ with_waiting mid packet)
    → MatchResult r (Turns old new) (λ wants. StandsStill old new)
turned old mid new packet cuts (Ok heard) hears stays = λ c s. hears c (cuts c s)
turned old mid new packet cuts (Err wants) hears stays = λ c s. subst (λ (o : Kept). StandsFor o c) (sym stays) (cuts c s)

pub turned_quiet : (old new : Kept) → ((c : Client) → StandsFor old c → IsQuiet new c) → Turns old new (Some value.NotYet)
turned_quiet old new quiet c s =
    let q = quiet c s in heard_as new value.NotYet c _ q.quiet (record { heard_is = refl; stands = q.stands })

pub turned_broken : (old mid new : Kept) (heard : Heard) → ((c : Client) → StandsFor old c → IsAtBroken mid c)
    → ((c : Client) → IsAtBroken mid c → IsHearing new heard (hearing_in_frames c)) → Turns old new (Some heard)
turned_broken old mid new heard cuts tells c s = tells c (cuts c s)

pub still_broken : (old mid new : Kept) → ((c : Client) → StandsFor old c → IsAtBroken mid c) → new ≡ mid → StandsStill old new
still_broken old mid new cuts e c s = let b = cuts c s in subst (λ (o : Kept). StandsFor o c) (sym e) b.stands

-- the broken place
pub no_six : (old k : Kept) → k ≡ old → (r : Option (List ℕ)) → r ≡ None → ((h : stream.History) → stream.Represents k.stream h → r ≡ stream.broken_of h)
    → (c : Client) → IsAtBroken old c → ⊥
no_six old k e r none tells c b =
    let stands : StandsFor k c = subst (λ (o : Kept). StandsFor o c) (sym e) b.stands in
    let told : k.stream.told_broken ≡ true = ap (λ (o : Kept). o.stream.told_broken) e ∙ b.told in
    let is : r ≡ (if k.stream.told_broken then Some (take 6 (rest_of c.received)) else None) = tells _ stands.streams.stream in
    let some : r ≡ Some (take 6 (rest_of c.received)) = is ∙ rw told refl in
    let both : None ≡ Some (take 6 (rest_of c.received)) = sym none ∙ some in cc

pub six_told : (old k : Kept) → k ≡ old → (six copy kept : List ℕ) → copy ≡ six → kept ≡ six
    → ((h : stream.History) → stream.Represents k.stream h → Some six ≡ stream.broken_of h) → (c : Client) → IsAtBroken old c
    → IsHearing (record k { broken = Some (peer.Frame kept) }) (value.Broken (peer.Frame copy)) (hearing_in_frames c)
six_told old k e six copy kept copied keeps tells c b =
    let stands : StandsFor k c = subst (λ (o : Kept). StandsFor o c) (sym e) b.stands in
    let told : k.stream.told_broken ≡ true = ap (λ (o : Kept). o.stream.told_broken) e ∙ b.told in
    let is : Some six ≡ (if k.stream.told_broken then Some (take 6 (rest_of c.received)) else None) = tells _ stands.streams.stream in
    let some : Some six ≡ Some (take 6 (rest_of c.received)) = is ∙ rw told refl in
    let place : six ≡ take 6 (rest_of c.received) = cc in
    heard_as (record k { broken = Some (peer.Frame kept) }) (value.Broken (peer.Frame copy)) c _ b.broken (record {
      heard_is = ap (λ p. spec.Broken (peer.Frame p)) (copied ∙ place);
      stands = broken_changed k (peer.Frame kept) c (peer.Frame (take 6 (rest_of c.received))) stands (ap (λ p. peer.Frame p) (keeps ∙ place));
    })

-- the verdict in an arm
pub verdict_in : (v arm : Verdict) (packet : List ℕ) (c : Client) → v ≡ arm → IsVerdict v packet (with_one_taken c) → IsVerdict arm packet (with_one_taken c)
verdict_in v arm packet c e x = subst (λ (w : Verdict). IsVerdict w packet (with_one_taken c)) e x

-- the answer of the stream in an arm
pub cut_is : (old new : Kept) (answer arm : Cut) → answer ≡ arm → Cuts old new answer → Cuts old new arm
cut_is old new answer arm e cuts c s = subst (λ (w : Cut). CutFor new w c) e (cuts c s)

pub hears_passed : (old mid new : Kept) (o : Option Heard) (heard : Heard) → o ≡ Some heard
    → StandsStill old mid → ((c : Client) → StandsFor mid c → HeardAt new o c) → HearsFrames old new heard
hears_passed old mid new o heard e still hears c s = subst (λ (w : Option Heard). HeardAt new w c) e (hears c (still c s))

pub still_passed : (old mid new : Kept) (o : Option Heard) → o ≡ None → StandsStill old mid
    → ((c : Client) → StandsFor mid c → HeardAt new o c) → StandsStill old new
still_passed old mid new o e still hears c s = subst (λ (w : Option Heard). HeardAt new w c) e (hears c (still c s))
