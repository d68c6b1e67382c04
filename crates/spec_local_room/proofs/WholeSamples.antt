-- Whole samples are taken: of the one notification of a watch, and of the notifications of a recording.
use Rattle.std.proofs.Common.{◌≡◌, ℕ, suc, ◌+◌, ◌-◌, ◌<◌, List, [], ◌∷◌, ◌++◌, length, Bool, true, false, refl, sym, ap, ◌∙◌, subst, inl, inr, arith}
use Rattle.std.specs.Prelude.{◌==◌, nat_le}
use Rattle.std.specs.List.{list_any}
use Rattle.std.proofs.lemmas.Bool.{leb-false}
use Rattle.std.proofs.lemmas.List.{length-append}
use Rattle.spec_formats.specs.Header.{AmsAddress, IsAddress}
use Rattle.spec_formats.specs.Request as request
use Rattle.spec_machine.specs.AdsDevice.{DescriptionReading}
use Rattle.spec_client.specs.Client.{Client, next_id, request_frame, client_after_feed, client_after_issue}
use Rattle.spec_client.specs.Conversation.{Bytes, CallEnded, Conversation, runner_after_answer}
use Rattle.spec_client.specs.Heard.{heard_of_sample}
use Rattle.spec_client.specs.Hearing.{Hearing, hearing, next_hearing, with_one_taken}
use Rattle.spec_client.specs.Recordings.{is_recorded, has_enough}
use Rattle.spec_client.specs.Runner.{Turns, turns, is_not_yet, Print, Send}
use Rattle.spec_client.specs.Stages.{Stage, Watches, Progress, AwaitsLast, ToPrint, ToSend, progress, Done, Recorded, Recording, ForSamples, ForDeletion}
use Rattle.spec_client.specs.Stages.{Records}
use Rattle.spec_client.specs.Steps.{after_heard}
use Rattle.spec_client.proofs.TurnsUnfolded.{at}
use Rattle.spec_local.specs.LocalCall.{answered}
use Rattle.spec_cutting.proofs.Takes.{taken_by}
use Rattle.spec_local_room.proofs.Hearing.{IsSilent, FedWhole, silent_hears, sample_heard, sample_says, sample_told, stamped, samples_heard, samples_say}
use Rattle.spec_local_room.proofs.TickingAll.{KeepsAll}
use Rattle.spec_local_room.proofs.RecordTurns.{RecordHears, silenced, hearing_still, hears_sample, record_hears}
use Rattle.spec_local_room.proofs.Turning.{prints_one, prints_and_sends, hears_so}
use Rattle.spec_local_room.proofs.Ticking.{KeepsFew}
use Rattle.spec_local_room.proofs.Leading.{frames_left, sample_leads, short_deletion, kept_as, SampleLeads}
use Rattle.spec_local_room.proofs.Scenes.{Machine, Link, Stands, Sampling, SamplingAll, Waits, issued, issued_is, issued_silent}
use Rattle.spec_formats.specs.SymbolEntry.{SymbolEntry}
use Rattle.spec_client.specs.Calls.{Watching}
use Rattle.spec_local_room.proofs.Stepping.{Given, later, stands_taken, StepsTo, fed_runner, Takes, some_length}
use Rattle.spec_local_room.proofs.WholeFrames.{WholeTaken, whole_ends, whole_over, whole_sends, whole_listens, whole_listens_all}

-- a sample is whole

sample_step : (reading : DescriptionReading) (sets : Bool) (me peer : AmsAddress) (net : List ℕ) (now : ℕ) (c : Conversation) (a : Given)
    (k : Link) (cl : Client) (entry : SymbolEntry) (handle left : ℕ) (pr : Progress)
    → WholeTaken reading sets me peer net now c a k cl (Watches entry handle (suc left)) (turns now (at cl pr.stage pr.outputs))
    → KeepsFew me peer net handle k.client.watches
    → SampleLeads sets entry handle left pr → StepsTo reading sets me peer c a
sample_step reading sets me peer net now c a k cl entry handle left pr x keeps (inl over) =
    whole_over reading sets me peer net now c a k cl (Watches entry handle (suc left)) pr x over
sample_step reading sets me peer net now c a k cl entry handle left pr x keeps (inr (inl last)) =
    let stage : Stage = Watches entry handle (suc left) in
    let r = request.DeleteDeviceNotification last.handle in
    let next : Stage = AwaitsLast [] in
    let after = client_after_issue cl r now in
    let waits : is_not_yet (next_hearing after).heard ≡ true
    = ap (λ (e : Client). is_not_yet (next_hearing e).heard) (issued_is cl r now x.none)
    ∙ ap (λ (y : Hearing). is_not_yet y.heard) (silent_hears now (issued cl r now) (issued_silent cl r now x.silent)) in
    let ts : Turns = record { steps = Print last.text ∷ Send (request_frame cl (next_id cl) r) ∷ []; runner = at after next [] } in
    let wanted = progress next (ToPrint last.text ∷ ToSend r ∷ []) in
    let is : turns now (at cl next wanted.outputs) ≡ ts = prints_and_sends now cl next last.text r refl waits in
    let y = subst (λ (us : Turns). WholeTaken reading sets me peer net now c a k cl stage us)
    (ap (λ (p : Progress). turns now (at cl p.stage p.outputs)) last.is ∙ is) x in
    whole_sends reading sets me peer net now c a k cl stage next r ts y
    (record { sends = refl; runner = refl; less = omega arith }) tt (short_deletion last.handle) tt tt
sample_step reading sets me peer net now c a k cl entry handle left pr x keeps (inr (inr goes)) =
    let stage : Stage = Watches entry handle (suc left) in
    let next : Stage = Watches entry handle (suc goes.less) in
    let left_is = goes.left_is in
    let wanted = progress next (ToPrint goes.text ∷ []) in
    let waits : is_not_yet (next_hearing cl).heard ≡ true = ap (λ (y : Hearing). is_not_yet y.heard) (silent_hears now cl x.silent) in
    let ts : Turns = record { steps = Print goes.text ∷ []; runner = at cl next [] } in
    let is : turns now (at cl next wanted.outputs) ≡ ts = prints_one now cl next goes.text refl waits in
    let y = subst (λ (us : Turns). WholeTaken reading sets me peer net now c a k cl stage us)
    (ap (λ (p : Progress). turns now (at cl p.stage p.outputs)) goes.is ∙ is) x in
    whole_listens reading sets me peer net now c a k cl stage ts entry handle goes.less y refl refl (omega (arith, left_is)) keeps

pub whole_sample : (reading : DescriptionReading) (sets : Bool) (me peer : AmsAddress) (s : Machine)
    (c : Conversation) (x : Waits sets me peer s c) (bytes w : List ℕ) → Takes sets me peer s c x bytes w
    → IsAddress me → IsAddress peer → (m : Sampling me peer x.net x.k x.cl x.stage x.w) → FedWhole x.cl bytes w m.p
    → StepsTo reading sets me peer c (answered (Bytes bytes x.now) (taken_by (length bytes) s))
whole_sample reading sets me peer s c x bytes w t mine other m fed =
    let now = x.now in
    let stage : Stage = Watches m.entry m.handle (suc m.left) in
    let talks = x.talks in
    let cl = client_after_feed x.cl bytes in
    let a = answered (Bytes bytes now) (taken_by (length bytes) s) in
    let says = sample_says m.handle m.p m.sample in
    let after : Client = record (with_one_taken cl) { samples = [] } in
    let told = heard_of_sample (record { time = m.sample.time; sample = record { handle = m.handle; bytes = m.sample.bytes } }) in
    let y = hearing told after in
    let hears = fed.hears y says (sample_heard (with_one_taken cl) m.handle m.p m.sample talks.silent.samples) in
    let parts : x.w ≡ bytes ++ [] = t.parts ∙ ap (λ l. bytes ++ l) fed.none in
    let stands = stands_taken x.net now s x.k x.cl.received bytes [] (subst (λ l. Stands x.net now s x.k x.cl.received l) parts x.stands) in
    let fed_so : runner_after_answer c.runner (Bytes bytes now) ≡ at cl stage []
    = fed_runner me peer now c x.cl x.stage bytes talks ∙ ap (λ st. at cl st []) m.stage_is in
    let room = x.room in
    let least = some_length bytes t.some in
    let sizes = ap (λ l. length l) parts ∙ length-append bytes [] in
    let frames : frames_left x.stage ≡ suc m.left + 2 = ap frames_left m.stage_is in
    let pr = after_heard stage told in
    let turned = ap (turns now) fed_so ∙ hears_so now cl after stage y refl hears (sample_told _) refl in
    sample_step reading sets me peer x.net now c a (later (length bytes) x.k) after m.entry m.handle m.left pr (record {
      stands = stands;
      closing = m.closing;
      whole = record { rest = m.whole.rest; taken = m.whole.taken };
      rest = fed.rest;
      silent = record {
        few = inl m.none;
        unbroken = talks.silent.unbroken;
        samples = refl;
        all = record { taken = (fed.all says).taken; front = (fed.all says).front };
      };
      none = m.none;
      me_is = talks.me_is;
      peer_is = talks.peer_is;
      ids = talks.ids;
      me_fits = mine;
      peer_fits = other;
      bytes = bytes;
      answer = refl;
      on = talks.on;
      turned = turned;
      room = omega (arith, room, least, sizes, frames);
    }) m.keeps (sample_leads sets m.entry m.handle m.left m.sample.time m.sample.bytes)

-- samples of a recording are whole

less_left : (count kept n next : ℕ) → (nat_le count kept ≡ false) → next ≡ kept + suc n → count - next < count - kept
less_left count kept n next some sum = let less = leb-false count kept some in omega (arith, less, sum)

fewer_left : (r next : Recording) (n : ℕ) → has_enough r ≡ false → next.watching ≡ r.watching → next.notifications ≡ r.notifications
    → next.kept ≡ r.kept + suc n → frames_left (Records ForSamples next) < frames_left (Records ForSamples r)
fewer_left r next n some watching notes kept =
    let count = ap (λ (w : Watching). w.count) watching in
    let same = ap (λ (ns : List Recorded). length ns) notes in
    let less = less_left r.watching.count r.kept n next.kept some kept in
    omega (arith, count, same, less)

same_handles : (r next : Recording) (n : ℕ) → next.notifications ≡ r.notifications → is_recorded r n ≡ true → is_recorded next n ≡ true
same_handles r next n notes is = ap (λ (ns : List Recorded). list_any (λ (m : Recorded). m.handle == n) ns) notes ∙ is

samples_step : (reading : DescriptionReading) (sets : Bool) (me peer : AmsAddress) (net : List ℕ) (now : ℕ) (c : Conversation) (a : Given)
    (k : Link) (cl : Client) (r : Recording) (n : ℕ) (ts : Turns)
    → WholeTaken reading sets me peer net now c a k (silenced cl) (Records ForSamples r) ts → has_enough r ≡ false
    → KeepsAll me peer net (is_recorded r) k.client.watches → RecordHears now cl r (suc n) ts → StepsTo reading sets me peer c a
samples_step reading sets me peer net now c a k cl r n ts x some keeps (inl ends) =
    whole_ends reading sets me peer net now c a k (silenced cl) (Records ForSamples r) ts (CallEnded Done) x ends.over tt
samples_step reading sets me peer net now c a k cl r n ts x some keeps (inr (inl sends)) =
    let few = sends.few in
    whole_sends reading sets me peer net now c a k (silenced cl) (Records ForSamples r) (Records (ForDeletion sends.left) sends.next)
    (request.DeleteDeviceNotification sends.handle) ts x
    (record { sends = sends.sent (c.answers + 1); runner = sends.runner; less = omega (arith, few) }) tt (short_deletion sends.handle) tt tt
samples_step reading sets me peer net now c a k cl r n ts x some keeps (inr (inr goes)) =
    whole_listens_all reading sets me peer net now c a k (silenced cl) (Records ForSamples r) ts goes.next x (goes.sent (c.answers + 1)) goes.runner
    goes.enough (fewer_left r goes.next n some goes.watching goes.notifications goes.kept)
    (kept_as me peer net (is_recorded r) (is_recorded goes.next) k.client.watches (λ m is. same_handles r goes.next m goes.notifications is) keeps)

pub whole_samples : (reading : DescriptionReading) (sets : Bool) (me peer : AmsAddress) (s : Machine)
    (c : Conversation) (x : Waits sets me peer s c) (bytes w : List ℕ) → Takes sets me peer s c x bytes w
    → IsAddress me → IsAddress peer → (m : SamplingAll me peer x.net x.k x.cl x.stage x.w) → FedWhole x.cl bytes w m.p
    → StepsTo reading sets me peer c (answered (Bytes bytes x.now) (taken_by (length bytes) s))
whole_samples reading sets me peer s c x bytes w t mine other m fed =
    let now = x.now in
    let r = m.recording in
    let stage : Stage = Records ForSamples r in
    let talks = x.talks in
    let cl = client_after_feed x.cl bytes in
    let a = answered (Bytes bytes now) (taken_by (length bytes) s) in
    let says = samples_say (is_recorded r) m.p m.samples in
    let one = with_one_taken cl in
    let time = m.samples.time in
    let ss = m.samples.others in
    let first = m.samples.first in
    let st = stamped time first in
    let hears = fed.hears (hearing (heard_of_sample st) (hearing_still one time ss)) says (samples_heard (is_recorded r) one m.p m.samples) in
    let parts : x.w ≡ bytes ++ [] = t.parts ∙ ap (λ l. bytes ++ l) fed.none in
    let stands = stands_taken x.net now s x.k x.cl.received bytes [] (subst (λ l. Stands x.net now s x.k x.cl.received l) parts x.stands) in
    let fed_so : runner_after_answer c.runner (Bytes bytes now) ≡ at cl stage []
    = fed_runner me peer now c x.cl x.stage bytes talks ∙ ap (λ st. at cl st []) m.stage_is in
    let room = x.room in
    let least = some_length bytes t.some in
    let sizes = ap (λ l. length l) parts ∙ length-append bytes [] in
    let frames : frames_left x.stage ≡ frames_left stage = ap frames_left m.stage_is in
    let silent : IsSilent now (silenced one) = record {
      few = inl m.none;
      unbroken = talks.silent.unbroken;
      samples = refl;
      all = record { taken = (fed.all says).taken; front = (fed.all says).front };
    } in
    let ts = turns now (at (hearing_still one time (first ∷ ss)) stage []) in
    let p = after_heard stage (heard_of_sample st) in
    let turned : turns now (runner_after_answer c.runner (Bytes bytes now)) ≡ ts
    = ap (turns now) fed_so ∙ hears_so now cl (hearing_still one time ss) stage (hearing (heard_of_sample st) (hearing_still one time ss)) refl hears
    (sample_told st) refl ∙ sym (hears_sample now one stage time first ss p refl silent refl) in
    samples_step reading sets me peer x.net now c a (later (length bytes) x.k) one r (length ss) ts (record {
      stands = stands;
      closing = m.closing;
      whole = record { rest = m.whole.rest; taken = m.whole.taken };
      rest = fed.rest;
      silent = silent;
      none = m.none;
      me_is = talks.me_is;
      peer_is = talks.peer_is;
      ids = talks.ids;
      me_fits = mine;
      peer_fits = other;
      bytes = bytes;
      answer = refl;
      on = talks.on;
      turned = turned;
      room = omega (arith, room, least, sizes, frames);
    }) m.enough m.keeps (record_hears now one time (first ∷ ss) r m.samples.among m.enough m.none silent)
