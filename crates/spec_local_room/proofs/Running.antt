-- Any of the bytes that wait are taken: a part of a frame, a broken header, an answer or samples.
use Rattle.std.proofs.Common.{◌≡◌, ℕ, ◌+◌, ◌<◌, ◌≤◌, ◌^◌, List, [], ◌++◌, length, Bool, true, refl, sym, ap, ◌∙◌, subst, inl, inr, arith, append_assoc}
use Rattle.std.proofs.lemmas.List.{length-append}
use Rattle.spec_frames.specs.Frame.{frame_bytes}
use Rattle.spec_frames.specs.Division.{rest_of}
use Rattle.spec_formats.specs.Header.{AmsAddress, IsAddress}
use Rattle.spec_machine.specs.AdsDevice.{DescriptionReading}
use Rattle.spec_machine.specs.Connection.{MAX_QUEUED}
use Rattle.spec_client.specs.Client.{client_after_feed}
use Rattle.spec_client.specs.Conversation.{Bytes, CallEnded, Conversation, conversation_after}
use Rattle.spec_client.specs.Hearing.{Hearing, broken_hearing, next_hearing}
use Rattle.spec_client.specs.Runner.{turns, is_not_yet}
use Rattle.spec_client.specs.Stages.{BadPeer, ended_at}
use Rattle.spec_client.specs.Steps.{after_heard}
use Rattle.spec_client.proofs.TurnsUnfolded.{at}
use Rattle.spec_local.specs.LocalCall.{answered}
use Rattle.spec_cutting.proofs.FedTurns.{still, turns_over, turns_wait}
use Rattle.spec_cutting.proofs.Takes.{taken_by}
use Rattle.spec_local_room.proofs.Hearing.{FedStill, FedBroken, fed_cases, silent_hears}
use Rattle.spec_local_room.proofs.Turning.{hears_so, is_behind}
use Rattle.spec_local_room.proofs.Leading.{at_end}
use Rattle.spec_local_room.proofs.Scenes.{Machine, Stands, Waits}
use Rattle.spec_local_room.proofs.Stepping.{later, stands_taken, StepsTo, step_still, on_behind, over_behind, fed_runner, Takes, few_answers, some_length}
use Rattle.spec_local_room.proofs.WholeFrames.{whole_step}
use Rattle.spec_local_room.proofs.WholeSamples.{whole_sample, whole_samples}

-- a part of it: nothing is heard
part_step : (reading : DescriptionReading) (sets : Bool) (me peer : AmsAddress) (s : Machine)
    (c : Conversation) (x : Waits sets me peer s c) (bytes w : List ℕ) → Takes sets me peer s c x bytes w
    → FedStill x.now x.cl bytes w → StepsTo reading sets me peer c (answered (Bytes bytes x.now) (taken_by (length bytes) s))
part_step reading sets me peer s c x bytes w t fed =
    let now = x.now in
    let stage = x.stage in
    let talks = x.talks in
    let cl = client_after_feed x.cl bytes in
    let a = Bytes bytes now in
    let d = conversation_after c a in
    let ts = still cl stage in
    let hears = silent_hears now cl fed.silent in
    let waits : is_not_yet (next_hearing cl).heard ≡ true = ap (λ (h : Hearing). is_not_yet h.heard) hears in
    let b = is_behind c a ts talks.on (ap (turns now) (fed_runner me peer now c x.cl stage bytes talks) ∙ turns_wait now cl stage talks.going waits) in
    let few = few_answers sets me peer s c x in
    let stands = stands_taken x.net now s x.k x.cl.received bytes w (subst (λ l. Stands x.net now s x.k x.cl.received l) t.parts x.stands) in
    let quiet = b.quiet in
    let more = b.answers in
    let room = x.room in
    let parts = ap (λ l. length l) t.parts ∙ length-append bytes w in
    let least = some_length bytes t.some in
    let frame : (p : List ℕ) → rest_of x.cl.received ++ x.w ≡ frame_bytes p → rest_of cl.received ++ w ≡ frame_bytes p
    = λ p is. ap (λ l. l ++ w) fed.rest ∙ append_assoc (rest_of x.cl.received) bytes w ∙ ap (λ l. rest_of x.cl.received ++ l) (sym t.parts) ∙ is in
    step_still reading sets me peer c (answered a (taken_by (length bytes) s)) ts b refl (inl (inl (record {
      net = x.net;
      now = now;
      k = later (length bytes) x.k;
      cl = cl;
      stage = stage;
      w = w;
      stands = stands;
      talks = record {
        on = on_behind c bytes now ts d b talks.going few;
        runner = b.runner;
        going = talks.going;
        silent = fed.silent;
        me_is = talks.me_is;
        peer_is = talks.peer_is;
        ids = talks.ids;
        quiet = omega (arith, quiet);
      };
      mode = elim x.mode [
        | inl m ↦ inl (record {
          closing = m.closing;
          whole = record { rest = m.whole.rest; taken = m.whole.taken };
          awaits = m.awaits;
          u = m.u;
          one = m.one;
          asked = m.asked;
          p = m.p;
          frame = frame m.p m.frame;
          size = m.size;
          answer = m.answer;
          knows = m.knows;
        })
        | inr (inl m) ↦ inr (inl (record {
          closing = m.closing;
          whole = record { rest = m.whole.rest; taken = m.whole.taken };
          entry = m.entry;
          handle = m.handle;
          left = m.left;
          stage_is = m.stage_is;
          none = m.none;
          p = m.p;
          frame = frame m.p m.frame;
          size = m.size;
          sample = m.sample;
          keeps = m.keeps;
        }))
        | inr (inr m) ↦ inr (inr (record {
          closing = m.closing;
          whole = record { rest = m.whole.rest; taken = m.whole.taken };
          recording = m.recording;
          stage_is = m.stage_is;
          enough = m.enough;
          none = m.none;
          p = m.p;
          frame = frame m.p m.frame;
          size = m.size;
          samples = m.samples;
          keeps = m.keeps;
        }))
      ];
      some = fed.some;
      room = omega (arith, room, more, parts, least);
    })))

-- a broken header: the call is over
broken_step : (reading : DescriptionReading) (sets : Bool) (me peer : AmsAddress) (s : Machine) (c : Conversation) (x : Waits sets me peer s c) (bytes : List ℕ)
    → FedBroken x.cl bytes → StepsTo reading sets me peer c (answered (Bytes bytes x.now) (taken_by (length bytes) s))
unfolding after_heard
broken_step reading sets me peer s c x bytes fed =
    let now = x.now in
    let stage = x.stage in
    let talks = x.talks in
    let cl = client_after_feed x.cl bytes in
    let a = Bytes bytes now in
    let y = broken_hearing cl fed.broken in
    let end = BadPeer fed.broken in
    let p = ended_at stage end in
    let so = at_end stage end in
    let ts = still y.client p.stage in
    let heard_so : turns now (at cl stage []) ≡ ts
    = hears_so now cl y.client stage y talks.going fed.is refl refl
    ∙ ap (λ os. turns now (at y.client p.stage os)) so.silent ∙ turns_over now y.client p.stage so.over in
    let b = is_behind c a ts talks.on (ap (turns now) (fed_runner me peer now c x.cl stage bytes talks) ∙ heard_so) in
    step_still reading sets me peer c (answered a (taken_by (length bytes) s)) ts b refl
    (inr (over_behind sets c a ts (conversation_after c a) p.stage (CallEnded end) b refl so.is tt (few_answers sets me peer s c x)))

-- bytes of what waits are taken

whole_frame : (t bytes w x p : List ℕ) → x ≡ bytes ++ w → t ++ x ≡ frame_bytes p → (t ++ bytes) ++ w ≡ frame_bytes p
whole_frame t bytes w x p parts is = append_assoc t bytes w ∙ ap (λ l. t ++ l) (sym parts) ∙ is

small_packet : (p : List ℕ) → 6 + length p ≤ MAX_QUEUED → length p < 2 ^ 32
small_packet p size = omega (arith, size)

pub take_step : (reading : DescriptionReading) (sets : Bool) (me peer : AmsAddress) (s : Machine)
    (c : Conversation) (x : Waits sets me peer s c) (bytes w : List ℕ) → IsAddress me → IsAddress peer
    → x.w ≡ bytes ++ w → (bytes ≡ [] → ⊥) → StepsTo reading sets me peer c (answered (Bytes bytes x.now) (taken_by (length bytes) s))
take_step reading sets me peer s c x bytes w mine other parts some =
    let t : Takes sets me peer s c x bytes w = record { parts = parts; some = some } in
    elim x.mode [
      | inl m ↦
          elim (fed_cases x.now x.cl bytes w m.p x.talks.silent (whole_frame (rest_of x.cl.received) bytes w x.w m.p parts m.frame) (small_packet m.p m.size)) [
            | inl fed ↦ part_step reading sets me peer s c x bytes w t fed
            | inr (inl fed) ↦ broken_step reading sets me peer s c x bytes fed
            | inr (inr fed) ↦ whole_step reading sets me peer s c x bytes w t mine other m fed
          ]
      | inr (inl m) ↦
          elim (fed_cases x.now x.cl bytes w m.p x.talks.silent (whole_frame (rest_of x.cl.received) bytes w x.w m.p parts m.frame) (small_packet m.p m.size)) [
            | inl fed ↦ part_step reading sets me peer s c x bytes w t fed
            | inr (inl fed) ↦ broken_step reading sets me peer s c x bytes fed
            | inr (inr fed) ↦ whole_sample reading sets me peer s c x bytes w t mine other m fed
          ]
      | inr (inr m) ↦
          elim (fed_cases x.now x.cl bytes w m.p x.talks.silent (whole_frame (rest_of x.cl.received) bytes w x.w m.p parts m.frame) (small_packet m.p m.size)) [
            | inl fed ↦ part_step reading sets me peer s c x bytes w t fed
            | inr (inl fed) ↦ broken_step reading sets me peer s c x bytes fed
            | inr (inr fed) ↦ whole_samples reading sets me peer s c x bytes w t mine other m fed
          ]
    ]
