-- What a runner keeps stands for what the definitions make of it.
use Rattle.std.proofs.Common.{◌≡◌, ℕ, suc, ◌+◌, ◌≤◌, ◌<◌, ◌^◌, List, [], ◌∷◌, ◌++◌, length, take, drop, Bool}
use Rattle.std.proofs.Common.{true, false, refl, sym, ap, ◌∙◌, subst, arith, add-one, add-zero, drop-cons}
use Rattle.std.specs.Prelude.{Option, Some, None, Result, Ok, Err, OnErr, sum_by, filter, slice_get}
use Rattle.std.proofs.lemmas.List.{append-nil, take-append-drop}
use Rattle.std.proofs.lemmas.List.Elements.{filter-append}
use Rattle.std.proofs.lemmas.Option.{slice_get_within, get_or_from_slice_get}
use Rattle.ads_base.specs.declared.peer.Peer.{Peer}
use Rattle.spec_frames.specs.Division.{frames_of}
use Rattle.spec_frames.proofs.DivisionLemmas.{frames_of-left_behind}
use Rattle.spec_formats.specs.Header.{AmsAddress}
use Rattle.spec_formats.specs.Request.{Request, command_of}
use Rattle.spec_client.specs.Heard as spec
use Rattle.spec_client.specs.Unanswered.{Unanswered, is_timed_out, outstanding_count}
use Rattle.ads_commands.specs.Request.{request_meant, IsWritable}
use Rattle.ads_commands.specs.declared.request.Request as asked
use Rattle.ads_commands.specs.declared.request.Request.TheVariants as asking
use Rattle.client_core.specs.Heard.{issued_meant, heard_meant}
use Rattle.client_core.specs.declared.heard.Heard as heard
use Rattle.client_core.specs.declared.heard.Heard.TheVariants as told
use Rattle.client_core.specs.declared.heard.Issued as issued
use Rattle.client_core.specs.declared.heard.Outstanding.{Outstanding}
use Rattle.spec_client.specs.Client.{Client, new_client, Issued, issued_by, client_after_issue, packets_left, is_full, request_frame, next_id}
use Rattle.spec_client.specs.PassedOver.{says_something}
use Rattle.spec_client.specs.Hearing.{next_hearing, samples_in, hearings_left}
use Rattle.spec_client.specs.History.{ClientMove, Issue, Fed, Tick, Next, ClientHistory, client_after, client_after_move, heard_after, issued_after}
use Rattle.spec_client.specs.Calls.{Call}
use Rattle.spec_client.specs.Stages as stages
use Rattle.spec_client.specs.Stages.{ToSend, ToPrint, ToKeep, entries_taken}
use Rattle.sample_store.specs.Views.{row_kept}
use Rattle.sample_store.specs.declared.row.Row.{Row}
use Rattle.spec_client.specs.Steps.{begun, after_heard}
use Rattle.spec_client.specs.Runner as runner
use Rattle.spec_client.specs.Runner.{Runner, Turned, turned, given, turn, is_over, is_not_yet, new_runner}
use Rattle.spec_client.specs.Runner.{runner_after_feed, runner_after_tick, runner_after_hearing}
use Rattle.spec_client.specs.Laws.{goes_on}
use Rattle.spec_client.proofs.Hearings.{hearings_fall, hearings_never_rise}
use Rattle.client_core.specs.Kept.{Kept, waiting_count}
use Rattle.client_core.specs.Represents.{StandsFor as CoreStands, Represents as CoreRepresents, Streams, IsNextFrame}
use Rattle.client_replies.specs.Rows.{HasNumbers}
use Rattle.client_replies.specs.Sound.{HasShortTexts, HasShortData, HasShortNames, IsSound}
use Rattle.client_replies.specs.Stages.{end_meant}
use Rattle.client_replies.specs.declared.stage.CallEnd.{CallEnd}
use Rattle.client_replies.specs.declared.stage.CallEnd.TheVariants as end
use Rattle.client_replies.proofs.SoundRunners.{sound_new, sound_feed, sound_tick, few_outstanding}
use Rattle.client_replies.proofs.SoundRunners.{sendable_first, not_full, sound_issued, sound_printed}
use Rattle.client_replies.proofs.SoundRunners.{sound_kept, sound_heard}
use Rattle.client_calls.specs.Kept.{RunnerKept, waiting_packets, packets_kept, hearings_kept, turns_left, with_first}
use Rattle.client_calls.specs.Represents.{StandsFor, IsGoingOn, StandsStill}
use Rattle.client_calls.specs.Steps.{step_meant, UnlessOver, IsKeepable, end_in}
use Rattle.client_calls.specs.Turns.{IsTurned, Turns, Gives, TakesIn, GoesOn, Rests}
use Rattle.client_calls.specs.declared.call_step.CallStep.{CallStep}
use Rattle.client_calls.specs.declared.call_step.CallStep.TheVariants as out
use Rattle.client_calls.proofs.TurnLemmas.{turn_given, turn_finished, turn_waits, turn_goes, turn_broken}

pub client_after-append : (c : Client) (h : ClientHistory) (m : ClientMove) → client_after c (h ++ m ∷ []) ≡ client_after_move (client_after c h) m
unfolding client_after
client_after-append c [] m = refl
client_after-append c (x ∷ h) m = client_after-append (client_after_move c x) h m

-- behind one move more
pub moved : (me peer : AmsAddress) (h : ClientHistory) (c : Client) (m : ClientMove) → client_after (new_client me peer) h ≡ c
    → client_after (new_client me peer) (h ++ m ∷ []) ≡ client_after_move c m
moved me peer h c m is = client_after-append (new_client me peer) h m ∙ ap (λ x. client_after_move x m) is

pub stands_core : (k : RunnerKept) (r : Runner) → StandsFor k r → CoreStands k.client r.client
stands_core k r s = subst (CoreStands k.client) s.client_is s.client

next_packet : (n : ℕ) (xs : List (List ℕ)) (packet : List ℕ) → slice_get xs n ≡ Some packet → drop n xs ≡ packet ∷ drop (n + 1) xs
next_packet n xs packet is =
    let within = slice_get_within xs n packet is in
    let here = get_or_from_slice_get xs n packet packet is in
    rw add-one (drop-cons xs n packet within ∙ ap (λ x. x ∷ drop (suc n) xs) here)

-- the frames that are not heard yet
frames_kept : (k : Kept) (c : Client) (o : Option (List ℕ)) → k.waiting ≡ o → (s : Streams k c)
    → waiting_packets k.waiting ++ frames_of k.stream.rest ≡ drop s.given (frames_of c.received)
frames_kept k c None is s =
    let all = frames_of c.received in
    let e = ap frames_of s.stream.rest ∙ frames_of-left_behind (s.given + waiting_count k.waiting) c.received s.stream.given in
    let n : s.given + waiting_count k.waiting ≡ s.given = ap (λ o. s.given + waiting_count o) is ∙ add-zero s.given in
    ap (λ o. waiting_packets o ++ frames_of k.stream.rest) is ∙ (e ∙ ap (λ n. drop n all) n)
frames_kept k c (Some packet) is s =
    let all = frames_of c.received in
    let next : IsNextFrame (Some packet) s.given c.received = subst (λ o. IsNextFrame o s.given c.received) is s.waiting in
    let e = ap frames_of s.stream.rest ∙ frames_of-left_behind (s.given + waiting_count k.waiting) c.received s.stream.given in
    let n : s.given + waiting_count k.waiting ≡ s.given + 1 = ap (λ o. s.given + waiting_count o) is in
    ap (λ o. waiting_packets o ++ frames_of k.stream.rest) is
    ∙ (ap (λ ps. packet ∷ ps) (e ∙ ap (λ n. drop n all) n) ∙ sym (next_packet s.given all packet next))

drop_front : (a b : List (List ℕ)) → drop (length a) (a ++ b) ≡ b
drop_front [] b = refl
drop_front (x ∷ a) b = drop_front a b

-- what passes behind so many is what is left of all that passes
filter-drop : (p : List ℕ → Bool) (n : ℕ) (xs : List (List ℕ)) → filter p (drop n xs) ≡ drop (length (filter p (take n xs))) (filter p xs)
filter-drop p n xs =
    let whole : filter p xs ≡ filter p (take n xs) ++ filter p (drop n xs) =
    ap (filter p) (sym (take-append-drop n xs)) ∙ filter-append p (take n xs) (drop n xs) in
    sym (ap (drop (length (filter p (take n xs)))) whole ∙ drop_front (filter p (take n xs)) (filter p (drop n xs)))

packets_are : (k : Kept) (c : Client) → CoreStands k c → packets_kept k ≡ packets_left c
packets_are k c s =
    let all = frames_of c.received in
    ap (filter says_something) (frames_kept k c k.waiting refl s.streams)
    ∙ (filter-drop says_something s.streams.given all ∙ ap (λ n. drop n (filter says_something all)) s.streams.taken)

-- what is left to be heard is told by what is kept
pub hearings_are : (k : Kept) (c : Client) → CoreStands k c → hearings_kept k ≡ hearings_left c
hearings_are k c s = rw (s.unanswered, s.samples, packets_are k c s) refl

-- what a client keeps stands for one move more
abbrev pub Moves : Kept → Kept → ClientMove → Type 0
Moves old new m = (me peer : AmsAddress) (h : ClientHistory) → CoreRepresents me peer old h → CoreRepresents me peer new (h ++ m ∷ [])

pub stands_moved : (old new : RunnerKept) (r behind : Runner) (m : ClientMove) → Moves old.client new.client m → client_after_move r.client m ≡ behind.client
    → new.stage ≡ behind.stage → new.pending ≡ behind.pending → IsSound behind → StandsFor old r → StandsFor new behind
stands_moved old new r behind m moves client stage pending sound s = record {
  me = s.me;
  peer = s.peer;
  history = s.history ++ m ∷ [];
  client_is = moved s.me s.peer s.history r.client m s.client_is ∙ client;
  client = moves s.me s.peer s.history s.client;
  stage_is = stage;
  pending_is = pending;
  sound = sound;
}

pub stands_new : (k : RunnerKept) (me peer : AmsAddress) (call : Call) → HasShortTexts call → CoreRepresents me peer k.client []
    → stages.progress k.stage k.pending ≡ begun call → StandsFor k (new_runner me peer call)
unfolding client_after
stands_new k me peer call short client is = record {
  me = me;
  peer = peer;
  history = [];
  client_is = refl;
  client = client;
  stage_is = ap (λ (p : stages.Progress). p.stage) is;
  pending_is = ap (λ (p : stages.Progress). p.outputs) is;
  sound = sound_new me peer call short;
}

pub stands_fed : (old new : RunnerKept) (r : Runner) (piece : List ℕ)
    → Moves old.client new.client (Fed piece) → new.stage ≡ old.stage → new.pending ≡ old.pending
    → StandsFor old r → StandsFor new (runner_after_feed r piece)
unfolding client_after_move
stands_fed old new r piece moves stage pending s =
    stands_moved old new r (runner_after_feed r piece) (Fed piece) moves refl (stage ∙ s.stage_is) (pending ∙ s.pending_is) (sound_feed r piece s.sound) s

pub stands_ticked : (old new : RunnerKept) (r : Runner) (now : ℕ) → Moves old.client new.client (Tick now) → new.stage ≡ old.stage → new.pending ≡ old.pending
    → StandsFor old r → StandsFor new (runner_after_tick r now)
unfolding client_after_move
stands_ticked old new r now moves stage pending s =
    stands_moved old new r (runner_after_tick r now) (Tick now) moves refl (stage ∙ s.stage_is) (pending ∙ s.pending_is) (sound_tick r now s.sound) s

pub stands_still : (old new : RunnerKept)
    → ((me peer : AmsAddress) (h : ClientHistory) → CoreRepresents me peer old.client h → CoreRepresents me peer new.client h)
    → new.stage ≡ old.stage → new.pending ≡ old.pending → StandsStill old new
stands_still old new still stage pending r s = record {
  me = s.me;
  peer = s.peer;
  history = s.history;
  client_is = s.client_is;
  client = still s.me s.peer s.history s.client;
  stage_is = stage ∙ s.stage_is;
  pending_is = pending ∙ s.pending_is;
  sound = s.sound;
}

unless_over : (out : CallStep) (P : Type 0) → P → UnlessOver out P
unless_over (out.Send bytes) P p = p
unless_over (out.Print text) P p = p
unless_over (out.Keep row) P p = p
unless_over out.Wait P p = p
unless_over (out.Over end) P p = tt

-- a step that goes on, and the runner behind it
turned_as : (now : ℕ) (new : RunnerKept) (r behind : Runner) (step : runner.CallStep) (out : CallStep) → turn now r ≡ turned step behind → step_meant out ≡ step
    → StandsFor new behind → IsKeepable out → IsTurned now new out r
turned_as now new r behind step out is same stands keepable = record {
  step_is = same ∙ ap (λ (t : Turned). t.step) (sym is);
  stands = unless_over out _ (subst (StandsFor new) (ap (λ (t : Turned). t.runner) (sym is)) stands);
  entries = ap entries_taken stands.stage_is ∙ ap (λ (t : Turned). entries_taken t.runner.stage) (sym is);
  keepable = keepable;
}

-- a text is printed
pub printed_turned : (now : ℕ) (k : RunnerKept) (text : List ℕ) (r : Runner) → StandsFor (with_first (ToPrint text) k) r → IsTurned now k (out.Print text) r
unfolding given
printed_turned now k text r s =
    let behind : Runner = record r { pending = k.pending } in
    let pending : r.pending ≡ ToPrint text ∷ k.pending = sym s.pending_is in
    turned_as now k r behind (runner.Print text) (out.Print text) (turn_given now r (ToPrint text) k.pending pending) refl (record {
      me = s.me;
      peer = s.peer;
      history = s.history;
      client_is = s.client_is;
      client = s.client;
      stage_is = s.stage_is;
      pending_is = refl;
      sound = sound_printed r text k.pending pending s.sound;
    }) tt

-- a row is kept
pub kept_turned : (now : ℕ) (k : RunnerKept) (row : Row) (r : Runner) → StandsFor (with_first (ToKeep (row_kept row)) k) r → IsTurned now k (out.Keep row) r
unfolding given
kept_turned now k row r s =
    let behind : Runner = record r { pending = k.pending } in
    let pending : r.pending ≡ ToKeep (row_kept row) ∷ k.pending = sym s.pending_is in
    turned_as now k r behind (runner.Keep (row_kept row)) (out.Keep row) (turn_given now r (ToKeep (row_kept row)) k.pending pending) refl (record {
      me = s.me;
      peer = s.peer;
      history = s.history;
      client_is = s.client_is;
      client = s.client;
      stage_is = s.stage_is;
      pending_is = refl;
      sound = sound_kept r (row_kept row) k.pending pending s.sound;
    }) (sendable_first r (ToKeep (row_kept row)) k.pending pending s.sound).0

-- what is issued for a request of a runner that is stood for
abbrev pub IssuesAs : Kept → Request → Issued → Type 0
IssuesAs old request issued = (me peer : AmsAddress) (h : ClientHistory) → CoreRepresents me peer old h → Some issued ≡ issued_after me peer h request

issued_frame : (c : Client) (request : Request) (issued : Issued) → is_full c ≡ false → Some issued ≡ issued_by c request
    → issued.frame ≡ request_frame c (next_id c) request
unfolding issued_by
issued_frame c request issued free is =
    let e : Some issued ≡ Some (record { id = next_id c; frame = request_frame c (next_id c) request }) = rw free at is in
    frame_of (record { id = next_id c; frame = request_frame c (next_id c) request }) e
  where
    frame_of : (other : Issued) → Some issued ≡ Some other → issued.frame ≡ other.frame
    frame_of other e = let same : issued ≡ other = cc in ap (λ (i : Issued). i.frame) same

pub sent_turned : (now : ℕ) (old new : RunnerKept) (request : Request) (issued : Issued) (r : Runner) → IssuesAs old.client request issued
    → Moves old.client new.client (Issue request now) → new.stage ≡ old.stage → new.pending ≡ old.pending
    → StandsFor (with_first (ToSend request) old) r → IsTurned now new (out.Send issued.frame) r
unfolding given client_after_move
sent_turned now old new request issued r issues moves stage pending s =
    let behind : Runner = record r { client = client_after_issue r.client request now; pending = old.pending } in
    let first : r.pending ≡ ToSend request ∷ old.pending = sym s.pending_is in
    let none = few_outstanding r request old.pending first s.sound in
    let free = not_full r.client (omega arith) in
    let told : Some issued ≡ issued_by r.client request = issues s.me s.peer s.history s.client ∙ ap (λ c. issued_by c request) s.client_is in
    turned_as now new r behind (runner.Send (request_frame r.client (next_id r.client) request)) (out.Send issued.frame)
    (turn_given now r (ToSend request) old.pending first)
    (ap runner.Send (issued_frame r.client request issued free told))
    (stands_moved (with_first (ToSend request) old) new r behind (Issue request now) moves refl (stage ∙ s.stage_is) pending
    (sound_issued r request old.pending now first s.sound) s) tt

-- an issue leaves what is to be heard
pub issued_hearings : (now : ℕ) (old new : RunnerKept) (request : Request) (r : Runner) → Moves old.client new.client (Issue request now)
    → StandsFor (with_first (ToSend request) old) r → hearings_kept new.client ≡ hearings_kept old.client
unfolding client_after_move client_after_issue
issued_hearings now old new request r moves s =
    let first : r.pending ≡ ToSend request ∷ old.pending = sym s.pending_is in
    let none = few_outstanding r request old.pending first s.sound in
    let free = not_full r.client (omega arith) in
    let behind : CoreStands new.client (client_after_move r.client (Issue request now)) =
    subst (CoreStands new.client) (moved s.me s.peer s.history r.client (Issue request now) s.client_is) (moves s.me s.peer s.history s.client) in
    let before : CoreStands old.client r.client = subst (CoreStands old.client) s.client_is s.client in
    let u : Unanswered = record { id = next_id r.client; command = command_of request; sent = now; timed_out = None } in
    let timeouts : length (filter is_timed_out (r.client.unanswered ++ u ∷ [])) ≡ length (filter is_timed_out r.client.unanswered) =
    rw (filter-append is_timed_out r.client.unanswered (u ∷ [])) (ap length (append-nil (filter is_timed_out r.client.unanswered))) in
    hearings_are new.client (client_after_move r.client (Issue request now)) behind
    ∙ (rw free (ap (λ n. 1 + n + length r.client.samples + sum_by (λ packet. 1 + samples_in packet) (packets_left r.client)) timeouts))
    ∙ sym (hearings_are old.client r.client before)

-- what is heard next, of each runner that is stood for
abbrev pub HearsAs : Kept → spec.Heard → Type 0
HearsAs old heard = (me peer : AmsAddress) (h : ClientHistory) → CoreRepresents me peer old h → heard ≡ heard_after me peer h

heard_is : (old : RunnerKept) (heard : spec.Heard) (r : Runner) → HearsAs old.client heard → StandsFor old r → heard ≡ (next_hearing r.client).heard
heard_is old heard r hears s = hears s.me s.peer s.history s.client ∙ ap (λ c. (next_hearing c).heard) s.client_is

stands_heard : (old new : RunnerKept) (heard : spec.Heard) (r : Runner) → old.pending ≡ [] → HearsAs old.client heard → Moves old.client new.client Next
    → stages.progress new.stage new.pending ≡ after_heard old.stage heard → StandsFor old r
    → StandsFor new (runner_after_hearing r.stage (next_hearing r.client))
unfolding client_after_move runner_after_hearing
stands_heard old new heard r quiet hears moves is s =
    let behind = runner_after_hearing r.stage (next_hearing r.client) in
    let e : stages.progress new.stage new.pending ≡ after_heard r.stage (next_hearing r.client).heard =
    is ∙ ap (λ x. after_heard x heard) s.stage_is ∙ ap (after_heard r.stage) (heard_is old heard r hears s) in
    stands_moved old new r behind Next moves refl (ap (λ (p : stages.Progress). p.stage) e) (ap (λ (p : stages.Progress). p.outputs) e)
    (sound_heard r (sym s.pending_is ∙ quiet) s.sound) s

not_over : (old : RunnerKept) (r : Runner) → is_over old.stage ≡ false → StandsFor old r → is_over r.stage ≡ false
not_over old r at s = ap is_over (sym s.stage_is) ∙ at

behind_core : (old new : RunnerKept) (r : Runner) → Moves old.client new.client Next → StandsFor old r → CoreStands new.client (next_hearing r.client).client
unfolding client_after_move
behind_core old new r moves s =
    subst (CoreStands new.client) (moved s.me s.peer s.history r.client Next s.client_is) (moves s.me s.peer s.history s.client)

goes_more : (h : spec.Heard) → goes_on h ≡ true → is_not_yet h ≡ false
goes_more spec.NotYet e = absurd (let no : false ≡ true = e in cc)
goes_more h e = refl

stay_as : (old new : RunnerKept) → new.stage ≡ old.stage → new.pending ≡ [] → stages.progress new.stage new.pending ≡ stages.stay old.stage
stay_as old new stage pending = rw (stage, pending) refl

-- something else than a rest is heard
pub goes_on_heard : (old new : RunnerKept) (heard : spec.Heard) → old.pending ≡ [] → is_over old.stage ≡ false → goes_on heard ≡ true
    → HearsAs old.client heard → Moves old.client new.client Next → stages.progress new.stage new.pending ≡ after_heard old.stage heard
    → length new.pending < 2 ^ 64 → IsGoingOn old → GoesOn old new
goes_on_heard old new heard quiet at goes hears moves is short going = record {
  passes = λ now r s. record {
    behind = runner_after_hearing r.stage (next_hearing r.client);
    stands = stands_heard old new heard r quiet hears moves is s;
    same = turn_goes now r (sym s.pending_is ∙ quiet) (not_over old r at s) (ap is_not_yet (sym (heard_is old heard r hears s)) ∙ goes_more heard goes);
  };
  fewer =
      let r = going.0 in
      let s = going.1 in
      let before = hearings_are old.client r.client (stands_core old r s) in
      let behind = hearings_are new.client (next_hearing r.client).client (behind_core old new r moves s) in
      let falls = hearings_fall r.client (ap goes_on (sym (heard_is old heard r hears s)) ∙ goes) in
      omega arith;
  short = short;
}

-- what is heard leaves no more to be heard
heard_left : (old new : RunnerKept) → Moves old.client new.client Next → new.pending ≡ old.pending → IsGoingOn old → turns_left new ≤ turns_left old
heard_left old new moves pending going =
    let r = going.0 in
    let s = going.1 in
    let before = hearings_are old.client r.client (stands_core old r s) in
    let behind = hearings_are new.client (next_hearing r.client).client (behind_core old new r moves s) in
    let less : hearings_kept new.client ≤ hearings_kept old.client = let stays = hearings_never_rise r.client in omega arith in
    let same : length new.pending ≡ length old.pending = ap length pending in
    omega (arith, less, same)

-- all bytes are heard
pub rests_waiting : (old new : RunnerKept) → old.pending ≡ [] → is_over old.stage ≡ false → HearsAs old.client spec.NotYet → Moves old.client new.client Next
    → new.stage ≡ old.stage → new.pending ≡ old.pending → IsGoingOn old → Rests old new out.Wait
unfolding after_heard
rests_waiting old new quiet at hears moves stage pending going = record {
  rests = tt;
  left = heard_left old new moves pending going;
  turned = λ now r s.
      turned_as now new r (runner_after_hearing r.stage (next_hearing r.client)) runner.Wait out.Wait
      (turn_waits now r (sym s.pending_is ∙ quiet) (not_over old r at s) (sym (heard_is old spec.NotYet r hears s))) refl
      (stands_heard old new spec.NotYet r quiet hears moves (stay_as old new stage (pending ∙ quiet)) s) tt;
}

pub rests_broken : (old new : RunnerKept) (peer : Peer) → old.pending ≡ [] → is_over old.stage ≡ false → HearsAs old.client (spec.Broken peer)
    → Moves old.client new.client Next → new.stage ≡ old.stage → new.pending ≡ old.pending → IsGoingOn old → Rests old new (out.Over (end.BadPeer peer))
rests_broken old new peer quiet at hears moves stage pending going = record {
  rests = tt;
  left = heard_left old new moves pending going;
  turned = λ now r s.
      let b = turn_broken now r peer (sym s.pending_is ∙ quiet) (not_over old r at s) (sym (heard_is old (spec.Broken peer) r hears s)) in
      record { step_is = sym b.step; stands = tt; entries = ap entries_taken (stage ∙ s.stage_is) ∙ sym b.entries; keepable = tt };
}

pub rests_over : (old new : RunnerKept) (e : CallEnd) → old.pending ≡ [] → end_in old.stage ≡ Some (end_meant e)
    → entries_taken new.stage ≡ entries_taken old.stage → turns_left new ≡ turns_left old → Rests old new (out.Over e)
rests_over old new e quiet at same left = record {
  rests = tt;
  left = omega (arith, left);
  turned = λ now r s.
      let over = turn_finished now r (end_meant e) (sym s.pending_is ∙ quiet) (ap end_in (sym s.stage_is) ∙ at) in
      record {
        step_is = ap (λ (t : Turned). t.step) (sym over);
        stands = tt;
        entries = same ∙ ap entries_taken s.stage_is ∙ ap (λ (t : Turned). entries_taken t.runner.stage) (sym over);
        keepable = tt;
      };
}

-- a runner that is open, with what it keeps
abbrev pub kept : Kept → stages.Stage → List stages.Output → RunnerKept
kept client stage pending = record { client = client; stage = stage; pending = pending }

pub fed_inside : (client new : Kept) (stage : stages.Stage) (pending : List stages.Output) (value : RunnerKept) (piece : List ℕ)
    → kept client stage pending ≡ value
    → Moves client new (Fed piece) → (r : Runner) → StandsFor value r → StandsFor (kept new stage pending) (runner_after_feed r piece)
fed_inside client new stage pending value piece is moves r s =
    stands_fed (kept client stage pending) (kept new stage pending) r piece moves refl refl (subst (λ k. StandsFor k r) (sym is) s)

pub ticked_inside : (client new : Kept) (stage : stages.Stage) (pending : List stages.Output) (value : RunnerKept) (now : ℕ) → kept client stage pending ≡ value
    → Moves client new (Tick now) → (r : Runner) → StandsFor value r → StandsFor (kept new stage pending) (runner_after_tick r now)
ticked_inside client new stage pending value now is moves r s =
    stands_ticked (kept client stage pending) (kept new stage pending) r now moves refl refl (subst (λ k. StandsFor k r) (sym is) s)

pub still_inside : (client new : Kept) (stage : stages.Stage) (pending : List stages.Output) (value : RunnerKept) → kept client stage pending ≡ value
    → ((me peer : AmsAddress) (h : ClientHistory) → CoreRepresents me peer client h → CoreRepresents me peer new h) → StandsStill value (kept new stage pending)
still_inside client new stage pending value is still r s =
    stands_still (kept client stage pending) (kept new stage pending) still refl refl r (subst (λ k. StandsFor k r) (sym is) s)

writable_of : (code : asked.Request) → HasShortData (request_meant code) → IsWritable code
writable_of asking.DeviceInfo h = tt
writable_of (asking.Read group offset len) h = tt
writable_of (asking.Write group offset bytes) h = h
writable_of asking.State h = tt
writable_of (asking.Control ads device bytes) h = h
writable_of (asking.Add group offset len mode delay cycle) h = tt
writable_of (asking.Delete handle) h = tt
writable_of (asking.Note bytes) h = h
writable_of (asking.ReadWrite group offset read_len bytes) h = h

-- what is to be sent can be written
pub sent_writable : (old : RunnerKept) (code : asked.Request) (request : Request) → request_meant code ≡ request → IsGoingOn (with_first (ToSend request) old)
    → IsWritable code
sent_writable old code request meant going =
    let r = going.0 in
    let s = going.1 in
    let first = sendable_first r (ToSend request) old.pending (sym s.pending_is) s.sound in
    writable_of code (subst HasShortData (sym meant) first.0)

-- its client refuses no request
pub never_full : (client : Kept) (stage : stages.Stage) (pending : List stages.Output) (value : RunnerKept) (request : Request)
    → kept client stage pending ≡ value
    → IsGoingOn (with_first (ToSend request) value) → 64 ≤ outstanding_count client.unanswered → ⊥
never_full client stage pending value request is going full =
    let r = going.0 in
    let s = going.1 in
    let none = few_outstanding r request value.pending (sym s.pending_is) s.sound in
    let core = subst (CoreStands value.client) s.client_is s.client in
    let same : outstanding_count client.unanswered ≡ outstanding_count r.client.unanswered =
    ap (λ (k : RunnerKept). outstanding_count k.client.unanswered) is ∙ ap outstanding_count core.unanswered in
    omega arith

abbrev pub seen : issued.Issued → Issued
seen i = record { id = i.id; frame = i.frame }

issues_as : (client : Kept) (code : asked.Request) (request : Request) (answer : Result issued.Issued Outstanding) (i : issued.Issued)
    → request_meant code ≡ request
    → answer ≡ Ok i
    → ((me peer : AmsAddress) (h : ClientHistory) → CoreRepresents me peer client h → issued_meant answer ≡ issued_after me peer h (request_meant code))
    → IssuesAs client request (seen i)
issues_as client code request answer i meant answered issues me peer h stands =
    ap issued_meant (sym answered) ∙ (issues me peer h stands ∙ ap (issued_after me peer h) meant)

pub sent_inside : (now : ℕ) (client new : Kept) (stage : stages.Stage)
    (pending : List stages.Output) (value : RunnerKept) (code : asked.Request) (request : Request)
    (answer : Result issued.Issued Outstanding) (i : issued.Issued) → kept client stage pending ≡ value → request_meant code ≡ request → answer ≡ Ok i
    → ((me peer : AmsAddress) (h : ClientHistory) → CoreRepresents me peer client h → issued_meant answer ≡ issued_after me peer h (request_meant code))
    → Moves client new (Issue (request_meant code) now) → Turns now (with_first (ToSend request) value) (kept new stage pending) (out.Send i.frame)
sent_inside now client new stage pending value code request answer i is meant answered issues moves r s =
    sent_turned now (kept client stage pending) (kept new stage pending) request (seen i) r
    (issues_as client code request answer i meant answered issues)
    (subst (λ q. Moves client new (Issue q now)) meant moves) refl refl
    (subst (λ k. StandsFor (with_first (ToSend request) k) r) (sym is) s)

pub sent_gives : (now : ℕ) (client new : Kept) (stage : stages.Stage)
    (pending : List stages.Output) (value : RunnerKept) (code : asked.Request) (request : Request)
    → kept client stage pending ≡ value → request_meant code ≡ request → IsGoingOn (with_first (ToSend request) value)
    → Moves client new (Issue (request_meant code) now) → Gives value (kept new stage pending)
sent_gives now client new stage pending value code request is meant going moves = record {
  hearings =
      issued_hearings now (kept client stage pending) (kept new stage pending) request going.0
      (subst (λ q. Moves client new (Issue q now)) meant moves) (subst (λ k. StandsFor (with_first (ToSend request) k) going.0) (sym is) going.1)
      ∙ ap (λ (k : RunnerKept). hearings_kept k.client) is;
  pending = ap (λ (k : RunnerKept). k.pending) is;
}

pub waiting_inside : (client new : Kept) (stage : stages.Stage) (pending : List stages.Output) (value : RunnerKept) (heard : spec.Heard)
    → kept client stage pending ≡ value
    → value.pending ≡ [] → is_over value.stage ≡ false → heard ≡ spec.NotYet
    → HearsAs client heard → Moves client new Next → IsGoingOn value → Rests value (kept new stage pending) out.Wait
waiting_inside client new stage pending value heard is quiet at waits hears moves going =
    let old = kept client stage pending in
    subst (λ k. Rests k (kept new stage pending) out.Wait) is
    (rests_waiting old (kept new stage pending) (ap (λ (k : RunnerKept). k.pending) is ∙ quiet) (ap (λ (k : RunnerKept). is_over k.stage) is ∙ at)
    (subst (HearsAs client) waits hears) moves refl refl (subst IsGoingOn (sym is) going))

pub broken_inside : (client next : Kept) (stage : stages.Stage) (pending : List stages.Output) (value : RunnerKept) (heard : spec.Heard) (peer : Peer)
    → kept client stage pending ≡ value → value.pending ≡ [] → is_over value.stage ≡ false → heard ≡ spec.Broken peer → HearsAs client heard
    → Moves client next Next → IsGoingOn value → Rests value (kept next stage pending) (out.Over (end.BadPeer peer))
broken_inside client next stage pending value heard peer is quiet at breaks hears moves going =
    let old = kept client stage pending in
    let new = kept next stage pending in
    subst (λ k. Rests k new (out.Over (end.BadPeer peer))) is
    (rests_broken old new peer (ap (λ (k : RunnerKept). k.pending) is ∙ quiet)
    (ap (λ (k : RunnerKept). is_over k.stage) is ∙ at) (subst (HearsAs client) breaks hears) moves refl refl (subst IsGoingOn (sym is) going))

pub going_inside : (client next : Kept) (stage : stages.Stage) (pending : List stages.Output) (value new : RunnerKept) (heard : spec.Heard)
    → kept client stage pending ≡ value → value.pending ≡ [] → is_over value.stage ≡ false
    → goes_on heard ≡ true → HearsAs client heard → Moves client next Next
    → TakesIn (kept next stage pending) heard new → IsGoingOn value → GoesOn value new
going_inside client next stage pending value new heard is quiet at goes hears moves t going =
    let old = kept client stage pending in
    let progress : stages.progress new.stage new.pending ≡ after_heard stage heard = rw (t.stage, t.pending) refl in
    subst (λ k. GoesOn k new) is
    (goes_on_heard old new heard (ap (λ (k : RunnerKept). k.pending) is ∙ quiet) (ap (λ (k : RunnerKept). is_over k.stage) is ∙ at) goes hears
    (subst (λ k. Moves client k Next) (sym t.client) moves) progress t.short (subst IsGoingOn (sym is) going))

pub on_err : (T E P : Type 0) (r : Result T E) → P → OnErr r P
on_err T E P (Ok x) p = tt
on_err T E P (Err e) p = p

-- all else is heard before more
pub goes_by : (h : heard.Heard) → (h ≡ told.NotYet → ⊥) → ((p : Peer) → h ≡ told.Broken p → ⊥) → goes_on (heard_meant h) ≡ true
goes_by told.NotYet no_wait no_break = absurd (no_wait refl)
goes_by (told.Broken p) no_wait no_break = absurd (no_break p refl)
goes_by (told.Answered id error command bytes) no_wait no_break = refl
goes_by (told.Sample handle time bytes) no_wait no_break = refl
goes_by (told.Ended handle) no_wait no_break = refl
goes_by (told.Stray id) no_wait no_break = refl
goes_by (told.TimedOut id sent now) no_wait no_break = refl

numbers_of : (stage : stages.Stage) → HasShortNames stage → HasNumbers stage
numbers_of (stages.Records wait r) short = short.1
numbers_of stage short = tt

-- a call that goes on has numbers for its rows
pub numbers_inside : (client : Kept) (stage : stages.Stage) (pending : List stages.Output) (value : RunnerKept)
    → kept client stage pending ≡ value → IsGoingOn value
    → HasNumbers stage
numbers_inside client stage pending value is going =
    let s = going.1 in
    numbers_of stage (subst HasShortNames (sym (ap (λ (k : RunnerKept). k.stage) is ∙ s.stage_is)) s.sound.names)
