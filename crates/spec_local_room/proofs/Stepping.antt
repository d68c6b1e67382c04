-- The scene behind an answer: what was taken, and whether the call goes on, asks or ends.
use Rattle.std.proofs.Common.{◌≡◌, ◌⊎◌, ℕ, ◌+◌, ◌*◌, ◌<◌, ◌≤◌, List, [], ◌∷◌, ◌++◌, length, drop, Bool, true, false, refl, sym, ap, ◌∙◌, subst, inl, inr}
use Rattle.std.proofs.Common.{arith, append_assoc}
use Rattle.std.specs.Prelude.{Option, Some, None, ◌==◌, ◌||◌, if◌then◌else◌}
use Rattle.std.proofs.lemmas.List.{length-append}
use Rattle.std.proofs.Math.Seq.{drop-append_seam}
use Rattle.ads_outside.specs.declared.event.Event.TheVariants as event
use Rattle.spec_formats.specs.Header.{AmsAddress}
use Rattle.spec_machine.proofs.Find.{test_other}
use Rattle.spec_machine.specs.AdsDevice.{DescriptionReading}
use Rattle.spec_machine.specs.Client as served
use Rattle.spec_machine.specs.Connection.{connection_of}
use Rattle.spec_machine.specs.Events.{state_after_event}
use Rattle.spec_machine.specs.MachineState.{Exchange, after_exchange}
use Rattle.spec_machine.specs.Moves.{with_took}
use Rattle.spec_machine.specs.World.{World}
use Rattle.spec_client.specs.Client.{Client, client_after_feed}
use Rattle.spec_client.specs.Conversation.{LinkAnswer, Bytes, Sent, LoopEnd, Budget, Conversation, MAX_QUIET, MAX_ANSWERS, sent_by, end_of_stage}
use Rattle.spec_client.specs.Conversation.{runner_after_answer, conversation_after, quiet_after}
use Rattle.spec_client.specs.Runner.{Turns, is_over}
use Rattle.spec_client.specs.Stages.{Stage, Finished, FinishedRecording}
use Rattle.spec_client.proofs.TurnsUnfolded.{at}
use Rattle.spec_local.specs.LocalCall.{Answered, answered, waiting_bytes, machine_after_pieces, scene_after}
use Rattle.spec_cutting.proofs.Takes.{taken_by, one_behind_take, taken_moment, waiting_is}
use Rattle.spec_local_room.specs.Laws.{IsAnswered}
use Rattle.spec_local_room.proofs.Hearing.{tick_keeps}
use Rattle.spec_local_room.proofs.Turning.{IsBehind, end_so}
use Rattle.spec_local_room.proofs.Leading.{frames_left}
use Rattle.spec_local_room.proofs.Scenes.{Machine, Link, Stands, Talks, FRAME, Waits, EndsSo, Good, device}

-- what the machine gives
abbrev pub Given : Type 0
Given = Answered World served.Client

-- bytes are taken

took_world : (n : ℕ) (x : Exchange World served.Client) (gone : Bool)
    → (if gone then x else record x { connection = record x.connection { bytes_taken = x.connection.bytes_taken + n } }).world ≡ x.world
took_world n x true = refl
took_world n x false = refl

taken_world : (n : ℕ) (s : Machine) → (taken_by n s).world ≡ s.world
taken_world n s = go (connection_of 1 s.connections)
  where
    go : (o : Option Link) → (after_exchange o (with_took n) s).world ≡ s.world
    go None = refl
    go (Some k) = took_world n (record { world = s.world; connection = k }) k.gone

abbrev pub later : ℕ → Link → Link
later n k = record k { bytes_taken = k.bytes_taken + n }

pub stands_taken : (net : List ℕ) (now : ℕ) (s : Machine) (k : Link) (received bytes w : List ℕ) → Stands net now s k received (bytes ++ w)
    → Stands net now (taken_by (length bytes) s) (later (length bytes) k) (received ++ bytes) w
stands_taken net now s k received bytes w x = record {
  one = one_behind_take (length bytes) s k x.one;
  moment = taken_moment (length bytes) s ∙ x.moment;
  time = x.time;
  net_is = ap (λ (v : World). v.plant.net) (taken_world (length bytes) s) ∙ x.net_is;
  out = x.out ∙ sym (append_assoc received bytes w);
  taken = ap (λ n. n + length bytes) x.taken ∙ sym (length-append received bytes);
}

pub waits_so : (net : List ℕ) (now : ℕ) (s : Machine) (k : Link) (received w : List ℕ) → Stands net now s k received w → waiting_bytes s ≡ w
waits_so net now s k received w x =
    waiting_is s k x.one ∙ ap (λ l. drop k.bytes_taken l) x.out ∙ ap (λ n. drop n (received ++ w)) x.taken ∙ drop-append_seam received w

-- the scene behind an answer

pub record StepsTo (reading : DescriptionReading) (sets : Bool) (me peer : AmsAddress) (c : Conversation) (a : Given) : Type 0 where
  pub good : Good sets me peer (scene_after (state_after_event (device reading)) c a).machine (conversation_after c a.answer)
  pub alone : (waiting_bytes a.machine ≡ []) ⊎ ((scene_after (state_after_event (device reading)) c a).machine ≡ a.machine)

scene_machine : (reading : DescriptionReading) (c : Conversation) (a : Given) (sents : List Sent)
    → drop (length c.sent) (conversation_after c a.answer).sent ≡ sents
    → (scene_after (state_after_event (device reading)) c a).machine ≡ machine_after_pieces (state_after_event (device reading)) a.machine sents
unfolding scene_after
scene_machine reading c a sents is = ap (machine_after_pieces (state_after_event (device reading)) a.machine) is

no_pieces : (reading : DescriptionReading) (s : Machine) → machine_after_pieces (state_after_event (device reading)) s [] ≡ s
unfolding machine_after_pieces
no_pieces reading s = refl

pub one_piece : (reading : DescriptionReading) (s : Machine) (x : Sent)
    → machine_after_pieces (state_after_event (device reading)) s (x ∷ []) ≡ state_after_event (device reading) s (event.Piece 1 x.bytes)
unfolding machine_after_pieces
one_piece reading s x = refl

pub step_still : (reading : DescriptionReading) (sets : Bool) (me peer : AmsAddress) (c : Conversation) (a : Given) (ts : Turns)
    → IsBehind c a.answer ts (conversation_after c a.answer) → sent_by (c.answers + 1) ts.steps ≡ []
    → Good sets me peer a.machine (conversation_after c a.answer)
    → StepsTo reading sets me peer c a
step_still reading sets me peer c a ts b none good =
    let same = scene_machine reading c a [] (b.sent ∙ none) ∙ no_pieces reading a.machine in
    record { good = subst (λ s. Good sets me peer s (conversation_after c a.answer)) (sym same) good; alone = inr same }

pub step_sends : (reading : DescriptionReading) (sets : Bool) (me peer : AmsAddress) (c : Conversation) (a : Given) (ts : Turns) (x : Sent)
    → IsBehind c a.answer ts (conversation_after c a.answer) → sent_by (c.answers + 1) ts.steps ≡ x ∷ [] → waiting_bytes a.machine ≡ []
    → Good sets me peer (state_after_event (device reading) a.machine (event.Piece 1 x.bytes)) (conversation_after c a.answer)
    → StepsTo reading sets me peer c a
step_sends reading sets me peer c a ts x b one none good =
    let same = scene_machine reading c a (x ∷ []) (b.sent ∙ one) ∙ one_piece reading a.machine x in
    record { good = subst (λ s. Good sets me peer s (conversation_after c a.answer)) (sym same) good; alone = inl none }

-- an end by count does not come
not_counted : (quiet answers : ℕ) → quiet < MAX_QUIET → answers ≤ MAX_ANSWERS
    → (if (quiet == MAX_QUIET) || (answers == MAX_ANSWERS + 1) then Some Budget else None) ≡ None
not_counted quiet answers few some =
    let first = test_other quiet MAX_QUIET (λ e. omega (arith, e, few)) in
    let second = test_other answers (MAX_ANSWERS + 1) (λ e. omega (arith, e, some)) in
    rw (first, second) refl

pub no_end : (stage : Stage) → is_over stage ≡ false → end_of_stage stage ≡ None
no_end (Finished end) on = absurd (let e : true ≡ false = on in cc)
no_end (FinishedRecording end entries) on = absurd (let e : true ≡ false = on in cc)
no_end stage on = refl

-- an answer of bytes behind which it goes on
pub on_behind : (c : Conversation) (bytes : List ℕ) (now : ℕ) (ts : Turns) (d : Conversation)
    → IsBehind c (Bytes bytes now) ts d → is_over ts.runner.stage ≡ false → c.answers < MAX_ANSWERS → d.end ≡ None
on_behind c bytes now ts d b on few =
    b.end ∙ ap (λ o. end_so o 0 (c.answers + 1) (Bytes bytes now)) (no_end ts.runner.stage on)
    ∙ not_counted 0 (c.answers + 1) (omega arith) (omega (arith, few))

-- the call is over behind it
pub over_behind : (sets : Bool) (c : Conversation) (a : LinkAnswer) (ts : Turns) (d : Conversation) (stage : Stage) (end : LoopEnd)
    → IsBehind c a ts d → ts.runner.stage ≡ stage
    → end_of_stage stage ≡ Some end → IsAnswered sets end → c.answers < MAX_ANSWERS → EndsSo sets d
over_behind sets c a ts d stage end b same is answered few =
    let more = b.answers in
    record {
      end = end;
      is = b.end ∙ ap (λ o. end_so o (quiet_after c.quiet a) (c.answers + 1) a) (ap end_of_stage same ∙ is);
      answered = answered;
      few = omega (arith, more, few);
    }

-- the runner behind the answer's bytes
pub fed_runner : (me peer : AmsAddress) (now : ℕ) (c : Conversation) (cl : Client) (stage : Stage) (bytes : List ℕ) → Talks me peer now c cl stage
    → runner_after_answer c.runner (Bytes bytes now) ≡ at (client_after_feed cl bytes) stage []
fed_runner me peer now c cl stage bytes t =
    ap (λ r. runner_after_answer r (Bytes bytes now)) t.runner ∙ ap (λ (d : Client). at (client_after_feed d bytes) stage []) (tick_keeps now cl t.silent.few)

-- a frame, or a part of it, is taken
pub record Takes (sets : Bool) (me peer : AmsAddress) (s : Machine) (c : Conversation) (x : Waits sets me peer s c) (bytes w : List ℕ) : Type 0 where
  pub parts : x.w ≡ bytes ++ w
  pub some : bytes ≡ [] → ⊥

pub few_answers : (sets : Bool) (me peer : AmsAddress) (s : Machine) (c : Conversation) (x : Waits sets me peer s c) → c.answers < MAX_ANSWERS
few_answers sets me peer s c x = go x.w x.some x.room
  where
    go : (w : List ℕ) → (w ≡ [] → ⊥) → c.answers + frames_left x.stage * FRAME + length w ≤ MAX_ANSWERS → c.answers < MAX_ANSWERS
    go [] some room = absurd (some refl)
    go (b ∷ bs) some room = omega (arith, room)

pub some_length : (bytes : List ℕ) → (bytes ≡ [] → ⊥) → 1 ≤ length bytes
some_length [] some = absurd (some refl)
some_length (b ∷ bs) some = omega arith
