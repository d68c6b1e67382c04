-- A whole frame is taken: the call ends, asks or listens, and an answer leads on to one of these.
use Rattle.std.proofs.Common.{◌≡◌, ◌⊎◌, ℕ, zero, suc, ◌+◌, ◌-◌, ◌*◌, ◌<◌, ◌≤◌, List, [], ◌∷◌, ◌++◌, length, Bool, true, false, refl, sym, ap, ◌∙◌, subst, inl}
use Rattle.std.proofs.Common.{inr, arith}
use Rattle.std.specs.Prelude.{Option, Some, None, ◌==◌}
use Rattle.std.proofs.lemmas.Bool.{eqb-true}
use Rattle.std.proofs.lemmas.List.{length-append}
use Rattle.spec_frames.specs.Division.{rest_of}
use Rattle.spec_formats.specs.Header.{AmsAddress, AmsHeader, IsAddress, payload_of, header_of}
use Rattle.spec_formats.specs.Reply.{Reply, reply_of}
use Rattle.spec_formats.specs.Request.{Request}
use Rattle.spec_machine.proofs.Find.{test_same}
use Rattle.spec_machine.specs.Access.{Addressed}
use Rattle.spec_machine.specs.AdsDevice.{DescriptionReading}
use Rattle.spec_machine.specs.Watches.{Watch}
use Rattle.spec_client.specs.Client.{Client, next_id, request_frame, client_after_feed, client_after_issue}
use Rattle.spec_client.specs.Conversation.{LinkAnswer, Bytes, Sent, LoopEnd, CallEnded, Conversation, MAX_ANSWERS, sent_by, end_of_stage, runner_after_answer}
use Rattle.spec_client.specs.Conversation.{conversation_after}
use Rattle.spec_client.specs.Hearing.{Hearing, next_hearing, with_one_taken}
use Rattle.spec_client.specs.Recordings.{is_recorded, has_enough}
use Rattle.spec_client.specs.Replies.{handle_given, after_answer}
use Rattle.spec_client.specs.Runner.{Runner, Turns, turns, is_over, is_not_yet, Send}
use Rattle.spec_client.specs.Stages.{BadPeer, Stage, Watches, AwaitsNotification, Progress, AwaitsEntry, ToWatch, ended_at, stay, Recording, ForEntry}
use Rattle.spec_client.specs.Stages.{ForNotification, ForSamples, Records}
use Rattle.spec_client.specs.Steps.{after_heard}
use Rattle.spec_client.proofs.TurnsUnfolded.{at}
use Rattle.spec_local.specs.LocalCall.{answered, waiting_bytes}
use Rattle.spec_cutting.proofs.FedTurns.{still, turns_over, turns_wait}
use Rattle.spec_cutting.proofs.Takes.{taken_by}
use Rattle.spec_local_room.specs.Laws.{IsAnswered}
use Rattle.spec_local_room.proofs.Hearing.{IsSilent, FedWhole, silent_hears, answer_heard, answer_says}
use Rattle.spec_local_room.proofs.TickingAll.{IsWatched, KeepsAll, all-append}
use Rattle.spec_local_room.proofs.Turning.{over_stays_over, sends_one, hears_so, IsBehind, is_behind}
use Rattle.spec_local_room.proofs.Pieces.{TakesWhole}
use Rattle.spec_local_room.proofs.Ticking.{KeepsFew, is_of}
use Rattle.spec_local_room.proofs.Leading.{Awaits, awaits_on, frames_left, HasWatches, IsOver, at_end, leads, Asks, HadWatches, IsShort, Leads}
use Rattle.spec_local_room.proofs.Leading.{is_recorded_or, kept_as, first_true, second_true}
use Rattle.spec_local_room.proofs.Scenes.{Machine, Link, Stands, Knows, Answering, FRAME, AddedMore, Listening, ListeningAll, Waits, EndsSo, issued}
use Rattle.spec_local_room.proofs.Scenes.{issued_is, issued_silent, asked}
use Rattle.spec_client.specs.Unanswered.{MAX_ID}
use Rattle.spec_formats.specs.SymbolEntry.{SymbolEntry}
use Rattle.spec_client.specs.Calls.{Watching}
use Rattle.spec_local_room.proofs.Stepping.{Given, later, stands_taken, waits_so, StepsTo, step_still, step_sends, on_behind, over_behind, fed_runner, Takes}
use Rattle.spec_local_room.proofs.Stepping.{few_answers, some_length}

-- what stands behind a whole frame whose turns are these
pub record WholeTaken (reading : DescriptionReading) (sets : Bool) (me peer : AmsAddress) (net : List ℕ) (now : ℕ) (c : Conversation) (a : Given)
    (k : Link) (cl : Client) (stage : Stage) (ts : Turns) : Type 0 where
  pub stands : Stands net now a.machine k cl.received []
  pub closing : k.closing ≡ false
  pub whole : TakesWhole k
  pub rest : rest_of cl.received ≡ []
  pub silent : IsSilent now cl
  pub none : cl.unanswered ≡ []
  pub me_is : cl.me ≡ me
  pub peer_is : cl.peer ≡ peer
  pub ids : cl.last_id ≤ MAX_ID
  pub me_fits : IsAddress me
  pub peer_fits : IsAddress peer
  pub bytes : List ℕ
  pub answer : a.answer ≡ Bytes bytes now
  pub on : c.end ≡ None
  pub turned : turns now (runner_after_answer c.runner (Bytes bytes now)) ≡ ts
  pub room : c.answers + frames_left stage * FRAME + 1 ≤ MAX_ANSWERS

whole_none : (reading : DescriptionReading) (sets : Bool) (me peer : AmsAddress) (net : List ℕ) (now : ℕ) (c : Conversation) (a : Given)
    (k : Link) (cl : Client) (stage : Stage) (ts : Turns) → WholeTaken reading sets me peer net now c a k cl stage ts → waiting_bytes a.machine ≡ []
whole_none reading sets me peer net now c a k cl stage ts x = waits_so net now a.machine k cl.received [] x.stands

whole_behind : (reading : DescriptionReading) (sets : Bool) (me peer : AmsAddress) (net : List ℕ) (now : ℕ) (c : Conversation) (a : Given)
    (k : Link) (cl : Client) (stage : Stage) (ts : Turns) (x : WholeTaken reading sets me peer net now c a k cl stage ts)
    → IsBehind c (Bytes x.bytes now) ts (conversation_after c a.answer)
whole_behind reading sets me peer net now c a k cl stage ts x =
    subst (λ l. IsBehind c (Bytes x.bytes now) ts (conversation_after c l)) (sym x.answer) (is_behind c (Bytes x.bytes now) ts x.on x.turned)

behind_answer : (c : Conversation) (a b : LinkAnswer) (ts : Turns) (d : Conversation) → a ≡ b → IsBehind c b ts d → IsBehind c a ts d
behind_answer c a b ts d same is = subst (λ l. IsBehind c l ts d) (sym same) is

any_pieces : (reading : DescriptionReading) (sets : Bool) (me peer : AmsAddress) (c : Conversation) (a : Given)
    → waiting_bytes a.machine ≡ [] → EndsSo sets (conversation_after c a.answer) → StepsTo reading sets me peer c a
any_pieces reading sets me peer c a none ends = record { good = inr ends; alone = inl none }

pub whole_ends : (reading : DescriptionReading) (sets : Bool) (me peer : AmsAddress) (net : List ℕ) (now : ℕ) (c : Conversation) (a : Given)
    (k : Link) (cl : Client) (stage : Stage) (ts : Turns) (end : LoopEnd)
    → WholeTaken reading sets me peer net now c a k cl stage ts → end_of_stage ts.runner.stage ≡ Some end → IsAnswered sets end
    → StepsTo reading sets me peer c a
whole_ends reading sets me peer net now c a k cl stage ts end x is answered =
    let b = whole_behind reading sets me peer net now c a k cl stage ts x in
    let room = x.room in
    any_pieces reading sets me peer c a (whole_none reading sets me peer net now c a k cl stage ts x)
    (over_behind sets c (Bytes x.bytes now) ts (conversation_after c a.answer) ts.runner.stage end b refl is answered (omega (arith, room)))

pub whole_over : (reading : DescriptionReading) (sets : Bool) (me peer : AmsAddress) (net : List ℕ) (now : ℕ) (c : Conversation) (a : Given)
    (k : Link) (cl : Client) (stage : Stage) (p : Progress)
    → WholeTaken reading sets me peer net now c a k cl stage (turns now (at cl p.stage p.outputs)) → IsOver sets p → StepsTo reading sets me peer c a
whole_over reading sets me peer net now c a k cl stage p x over =
    whole_ends reading sets me peer net now c a k cl stage (turns now (at cl p.stage p.outputs)) over.end x
    (ap end_of_stage (over_stays_over now cl p.stage p.outputs over.over) ∙ over.is) over.answered

-- a request is sent behind the frame
pub record NewRequest (now : ℕ) (c : Conversation) (cl : Client) (stage next : Stage) (r : Request) (ts : Turns) : Type 0 where
  pub sends : sent_by (c.answers + 1) ts.steps ≡ record { answers = c.answers + 1; bytes = request_frame cl (next_id cl) r } ∷ []
  pub runner : ts.runner ≡ at (client_after_issue cl r now) next []
  pub less : frames_left next < frames_left stage

pub whole_sends : (reading : DescriptionReading) (sets : Bool) (me peer : AmsAddress) (net : List ℕ) (now : ℕ) (c : Conversation) (a : Given)
    (k : Link) (cl : Client) (stage next : Stage) (r : Request) (ts : Turns) → WholeTaken reading sets me peer net now c a k cl stage ts
    → NewRequest now c cl stage next r ts → Awaits sets next → IsShort r → Asks next r → HadWatches me peer net next k.client.watches
    → StepsTo reading sets me peer c a
whole_sends reading sets me peer net now c a k cl stage next r ts x new awaits short asks had =
    let b = whole_behind reading sets me peer net now c a k cl stage ts x in
    let d = conversation_after c a.answer in
    let sent : Sent = record { answers = c.answers + 1; bytes = request_frame cl (next_id cl) r } in
    let room = x.room in
    let less = new.less in
    let quiet = b.quiet in
    let more = b.answers in
    let going = ap (λ (v : Runner). is_over v.stage) new.runner ∙ awaits_on sets next awaits in
    step_sends reading sets me peer c a ts sent (behind_answer c a.answer (Bytes x.bytes now) ts d x.answer b) new.sends
    (whole_none reading sets me peer net now c a k cl stage ts x)
    (asked sets me peer net now reading a.machine k cl next r d (record {
      stands = x.stands;
      closing = x.closing;
      whole = x.whole;
      rest = x.rest;
      silent = x.silent;
      none = x.none;
      me_is = x.me_is;
      peer_is = x.peer_is;
      ids = x.ids;
      me_fits = x.me_fits;
      peer_fits = x.peer_fits;
      awaits = awaits;
      short = short;
      asks = asks;
      had = had;
    }) (record {
      on = on_behind c x.bytes now ts d b going (omega (arith, room));
      runner = b.runner ∙ new.runner ∙ ap (λ (e : Client). at e next []) (issued_is cl r now x.none);
      quiet = omega (arith, quiet);
      room = omega (arith, room, less, more);
    }))

-- it listens behind the frame
whole_goes_on : (reading : DescriptionReading) (sets : Bool) (me peer : AmsAddress) (net : List ℕ) (now : ℕ) (c : Conversation) (a : Given)
    (k : Link) (cl : Client) (stage next : Stage) (ts : Turns) → WholeTaken reading sets me peer net now c a k cl stage ts
    → sent_by (c.answers + 1) ts.steps ≡ [] → ts.runner ≡ at cl next [] → is_over next ≡ false → frames_left next < frames_left stage
    → Listening me peer net k cl next ⊎ ListeningAll me peer net k cl next → StepsTo reading sets me peer c a
whole_goes_on reading sets me peer net now c a k cl stage next ts x none runner goes less listens =
    let b = whole_behind reading sets me peer net now c a k cl stage ts x in
    let d = conversation_after c a.answer in
    let room = x.room in
    let quiet = b.quiet in
    let more = b.answers in
    let going = ap (λ (v : Runner). is_over v.stage) runner ∙ goes in
    step_still reading sets me peer c a ts (behind_answer c a.answer (Bytes x.bytes now) ts d x.answer b) none (inl (inr (record {
      net = net;
      now = now;
      k = k;
      cl = cl;
      stage = next;
      stands = x.stands;
      talks = record {
        on = on_behind c x.bytes now ts d b going (omega (arith, room));
        runner = b.runner ∙ runner;
        going = goes;
        silent = x.silent;
        me_is = x.me_is;
        peer_is = x.peer_is;
        ids = x.ids;
        quiet = omega (arith, quiet);
      };
      mode = elim listens [ inl m ↦ inl m | inr m ↦ inr (inl m) ];
      room = omega (arith, room, less, more);
    })))

pub whole_listens : (reading : DescriptionReading) (sets : Bool) (me peer : AmsAddress) (net : List ℕ) (now : ℕ) (c : Conversation) (a : Given)
    (k : Link) (cl : Client) (stage : Stage) (ts : Turns) (entry : SymbolEntry) (handle left : ℕ)
    → WholeTaken reading sets me peer net now c a k cl stage ts
    → sent_by (c.answers + 1) ts.steps ≡ [] → ts.runner ≡ at cl (Watches entry handle (suc left)) []
    → left + 3 < frames_left stage → KeepsFew me peer net handle k.client.watches → StepsTo reading sets me peer c a
whole_listens reading sets me peer net now c a k cl stage ts entry handle left x none runner less keeps =
    whole_goes_on reading sets me peer net now c a k cl stage (Watches entry handle (suc left)) ts x none runner refl (omega (arith, less)) (inl (record {
      closing = x.closing;
      whole = x.whole;
      entry = entry;
      handle = handle;
      left = left;
      stage_is = refl;
      none = x.none;
      rest = x.rest;
      keeps = keeps;
    }))

pub whole_listens_all : (reading : DescriptionReading) (sets : Bool) (me peer : AmsAddress) (net : List ℕ) (now : ℕ) (c : Conversation) (a : Given)
    (k : Link) (cl : Client) (stage : Stage) (ts : Turns) (r : Recording) → WholeTaken reading sets me peer net now c a k cl stage ts
    → sent_by (c.answers + 1) ts.steps ≡ [] → ts.runner ≡ at cl (Records ForSamples r) [] → has_enough r ≡ false
    → frames_left (Records ForSamples r) < frames_left stage → KeepsAll me peer net (is_recorded r) k.client.watches → StepsTo reading sets me peer c a
whole_listens_all reading sets me peer net now c a k cl stage ts r x none runner enough less keeps =
    whole_goes_on reading sets me peer net now c a k cl stage (Records ForSamples r) ts x none runner refl less (inr (record {
      closing = x.closing;
      whole = x.whole;
      recording = r;
      stage_is = refl;
      enough = enough;
      none = x.none;
      rest = x.rest;
      keeps = keeps;
    }))

-- an answer is whole

-- the notifications of a recording behind an answer that gives a handle
all_kept : (me peer : AmsAddress) (net : List ℕ) (r : Recording) (ws : List (Watch (List Addressed))) (p : List ℕ) (h : AmsHeader) (reply : Reply)
    → KeepsAll me peer net (is_recorded r) ws ⊎ AddedMore me peer net (is_recorded r) ws p
    → header_of p ≡ Some h → reply_of h.command (payload_of p) ≡ Some reply → KeepsAll me peer net (is_recorded_or r reply) ws
all_kept me peer net r ws p h reply (inl all) read got =
    kept_as me peer net (is_recorded r) (is_recorded_or r reply) ws (λ n passes. first_true (is_recorded r n) (handle_given reply == n) false passes) all
all_kept me peer net r ws p h reply (inr more) read got =
    let given = more.gives h reply read got in
    let olds = kept_as me peer net (is_recorded r) (is_recorded_or r reply) more.old
    (λ n passes. first_true (is_recorded r n) (handle_given reply == n) false passes) more.kept in
    let one = kept_as me peer net (is_of more.w.handle) (is_recorded_or r reply) (more.w ∷ [])
    (λ n passes. second_true (is_recorded r n) (handle_given reply == n)
    (test_same (handle_given reply) n (given ∙ sym (eqb-true n more.w.handle passes)))) (more.one, tt) in
    subst (KeepsAll me peer net (is_recorded_or r reply)) (sym more.is)
    (all-append (IsWatched me peer net (is_recorded_or r reply)) more.old (more.w ∷ []) olds one)

has_watches : (me peer : AmsAddress) (net : List ℕ) (stage : Stage) (ws : List (Watch (List Addressed))) (p : List ℕ) (h : AmsHeader) (o : Option Reply)
    → Knows me peer net stage ws p → header_of p ≡ Some h → reply_of h.command (payload_of p) ≡ o → HasWatches me peer net stage o ws
has_watches me peer net (AwaitsEntry (ToWatch w) name) ws p h o knows read got = knows
has_watches me peer net (Records ForEntry r) ws p h o knows read got = knows
has_watches me peer net (Records (ForNotification name) r) ws p h (Some reply) knows read got = all_kept me peer net r ws p h reply knows read got
has_watches me peer net stage ws p h o knows read got = tt

handle_kept : (me peer : AmsAddress) (net : List ℕ) (entry : SymbolEntry) (watching : Watching)
    (ws : List (Watch (List Addressed))) (p : List ℕ) (h : AmsHeader) (r : Reply) → Knows me peer net (AwaitsNotification entry watching) ws p
    → header_of p ≡ Some h → reply_of h.command (payload_of p) ≡ Some r → KeepsFew me peer net (handle_given r) ws
handle_kept me peer net entry watching ws p h r (inl none) read got =
    (subst (KeepsAll me peer net (is_of (handle_given r))) (sym none) tt, let l = ap (λ l. length l) none in omega (arith, l))
handle_kept me peer net entry watching ws p h r (inr one) read got =
    let given = one.gives h r read got in
    let same : is_of one.w.handle ≡ is_of (handle_given r) = ap is_of (sym given) in
    let kept : KeepsAll me peer net (is_of (handle_given r)) (one.w ∷ []) = (subst (λ test. IsWatched me peer net test one.w) same one.kept, tt) in
    (subst (KeepsAll me peer net (is_of (handle_given r))) (sym one.is) kept, let l = ap (λ l. length l) one.is in omega (arith, l))

count_is : (n : ℕ) → 1 ≤ n → n ≡ suc (n - 1)
count_is zero least = absurd (omega arith)
count_is (suc n) least = omega arith

-- what was answered leads on
answer_leads : (reading : DescriptionReading) (sets : Bool) (me peer : AmsAddress) (net : List ℕ) (now : ℕ) (c : Conversation) (a : Given)
    (k : Link) (cl : Client) (stage : Stage) (q : List ℕ) (h : AmsHeader) (pr : Progress)
    → WholeTaken reading sets me peer net now c a k cl stage (turns now (at cl pr.stage pr.outputs)) → Knows me peer net stage k.client.watches q
    → header_of q ≡ Some h
    → Leads sets stage (reply_of h.command (payload_of q)) pr → StepsTo reading sets me peer c a
answer_leads reading sets me peer net now c a k cl stage q h pr x knows read (inl over) = whole_over reading sets me peer net now c a k cl stage pr x over
answer_leads reading sets me peer net now c a k cl stage q h pr x knows read (inr (inl sends)) =
    let r = sends.request in
    let next = pr.stage in
    let after = client_after_issue cl r now in
    let waits : is_not_yet (next_hearing after).heard ≡ true
    = ap (λ (e : Client). is_not_yet (next_hearing e).heard) (issued_is cl r now x.none)
    ∙ ap (λ (y : Hearing). is_not_yet y.heard) (silent_hears now (issued cl r now) (issued_silent cl r now x.silent)) in
    let ts : Turns = record { steps = Send (request_frame cl (next_id cl) r) ∷ []; runner = at after next [] } in
    let is : turns now (at cl next pr.outputs) ≡ ts =
    ap (λ os. turns now (at cl next os)) sends.outputs ∙ sends_one now cl next r (awaits_on sets next sends.awaits) waits in
    let y = subst (λ (us : Turns). WholeTaken reading sets me peer net now c a k cl stage us) is x in
    whole_sends reading sets me peer net now c a k cl stage next r ts y
    (record { sends = refl; runner = refl; less = sends.less }) sends.awaits sends.short sends.asks
    (sends.had me peer net k.client.watches (has_watches me peer net stage k.client.watches q h (reply_of h.command (payload_of q)) knows read refl))
answer_leads reading sets me peer net now c a k cl stage q h pr x knows read (inr (inr (inr listens))) =
    let r = listens.recording in
    let next : Stage = Records ForSamples r in
    let waits : is_not_yet (next_hearing cl).heard ≡ true = ap (λ (y : Hearing). is_not_yet y.heard) (silent_hears now cl x.silent) in
    let is : turns now (at cl pr.stage pr.outputs) ≡ still cl next
    = ap (λ (p : Progress). turns now (at cl p.stage p.outputs)) listens.is ∙ turns_wait now cl next refl waits in
    let y = subst (λ (us : Turns). WholeTaken reading sets me peer net now c a k cl stage us) is x in
    whole_listens_all reading sets me peer net now c a k cl stage (still cl next) r y refl refl listens.enough listens.less
    (listens.keeps me peer net k.client.watches (has_watches me peer net stage k.client.watches q h (reply_of h.command (payload_of q)) knows read refl))
answer_leads reading sets me peer net now c a k cl stage q h pr x knows read (inr (inr (inl listens))) =
    let handle = handle_given listens.reply in
    let entry = listens.entry in
    let count = listens.watching.count in
    let left = count - 1 in
    let least = listens.count.0 in
    let next : Stage = Watches entry handle (suc left) in
    let same : pr ≡ stay next = listens.is ∙ ap (λ n. stay (Watches entry handle n)) (count_is count least) in
    let waits : is_not_yet (next_hearing cl).heard ≡ true = ap (λ (y : Hearing). is_not_yet y.heard) (silent_hears now cl x.silent) in
    let is : turns now (at cl pr.stage pr.outputs) ≡ still cl next
    = ap (λ (p : Progress). turns now (at cl p.stage p.outputs)) same ∙ turns_wait now cl next refl waits in
    let frames : frames_left stage ≡ count + 3 = ap frames_left listens.stage_is in
    let y = subst (λ (us : Turns). WholeTaken reading sets me peer net now c a k cl stage us) is x in
    whole_listens reading sets me peer net now c a k cl stage (still cl next) entry handle left y refl refl (omega (arith, least, frames))
    (handle_kept me peer net entry listens.watching k.client.watches q h listens.reply
    (subst (λ st. Knows me peer net st k.client.watches q) listens.stage_is knows) read listens.reply_is)

pub whole_step : (reading : DescriptionReading) (sets : Bool) (me peer : AmsAddress) (s : Machine)
    (c : Conversation) (x : Waits sets me peer s c) (bytes w : List ℕ) → Takes sets me peer s c x bytes w
    → IsAddress me → IsAddress peer → (m : Answering sets me peer x.net x.now x.k x.cl x.stage x.w) → FedWhole x.cl bytes w m.p
    → StepsTo reading sets me peer c (answered (Bytes bytes x.now) (taken_by (length bytes) s))
unfolding after_heard
whole_step reading sets me peer s c x bytes w t mine other m fed =
    let now = x.now in
    let stage = x.stage in
    let talks = x.talks in
    let cl = client_after_feed x.cl bytes in
    let a = answered (Bytes bytes now) (taken_by (length bytes) s) in
    let h = m.answer.header in
    let says = answer_says m.u me peer m.p m.answer in
    let got = answer_heard (with_one_taken cl) m.u me peer m.p m.answer m.one m.asked talks.me_is talks.peer_is in
    let hears = fed.hears got.x says got.is in
    let parts : x.w ≡ bytes ++ [] = t.parts ∙ ap (λ l. bytes ++ l) fed.none in
    let stands = stands_taken x.net now s x.k x.cl.received bytes [] (subst (λ l. Stands x.net now s x.k x.cl.received l) parts x.stands) in
    let fed_so = fed_runner me peer now c x.cl stage bytes talks in
    let few = few_answers sets me peer s c x in
    let room = x.room in
    let least = some_length bytes t.some in
    let sizes = ap (λ l. length l) parts ∙ length-append bytes [] in
    elim got.heard [
      | inl answer ↦
          let after : Client = record (with_one_taken cl) { unanswered = [] } in
          let pr = after_answer stage h.error (reply_of h.command (payload_of m.p)) (payload_of m.p) in
          let heard_is : after_heard stage got.x.heard ≡ pr = ap (after_heard stage) answer.heard in
          let some : is_not_yet got.x.heard ≡ false = ap is_not_yet answer.heard in
          let turned = ap (turns now) fed_so ∙ hears_so now cl after stage got.x talks.going hears some answer.client
          ∙ ap (λ (p : Progress). turns now (at after p.stage p.outputs)) heard_is in
          answer_leads reading sets me peer x.net now c a (later (length bytes) x.k) after stage m.p h pr (record {
            stands = stands;
            closing = m.closing;
            whole = record { rest = m.whole.rest; taken = m.whole.taken };
            rest = fed.rest;
            silent = record {
              few = inl refl;
              unbroken = talks.silent.unbroken;
              samples = talks.silent.samples;
              all = record { taken = (fed.all says).taken; front = (fed.all says).front };
            };
            none = refl;
            me_is = talks.me_is;
            peer_is = talks.peer_is;
            ids = talks.ids;
            me_fits = mine;
            peer_fits = other;
            bytes = bytes;
            answer = refl;
            on = talks.on;
            turned = turned;
            room = omega (arith, room, least, sizes);
          }) m.knows m.answer.read (leads sets stage h.error (reply_of h.command (payload_of m.p)) (payload_of m.p) m.awaits)
      | inr broken ↦
          let end = BadPeer broken.broken in
          let last = ended_at stage end in
          let so = at_end stage end in
          let ts = still got.x.client last.stage in
          let heard_is : after_heard stage got.x.heard ≡ last = ap (after_heard stage) broken.heard in
          let some : is_not_yet got.x.heard ≡ false = ap is_not_yet broken.heard in
          let turned : turns now (runner_after_answer c.runner (Bytes bytes now)) ≡ ts
          = ap (turns now) fed_so ∙ hears_so now cl got.x.client stage got.x talks.going hears some refl
          ∙ ap (λ (p : Progress). turns now (at got.x.client p.stage p.outputs)) heard_is
          ∙ ap (λ os. turns now (at got.x.client last.stage os)) so.silent ∙ turns_over now got.x.client last.stage so.over in
          let b = is_behind c (Bytes bytes now) ts talks.on turned in
          step_still reading sets me peer c a ts b refl
          (inr (over_behind sets c (Bytes bytes now) ts (conversation_after c (Bytes bytes now)) last.stage (CallEnded end) b refl so.is tt few))
    ]
