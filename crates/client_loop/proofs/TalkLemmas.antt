-- The first turns of a call, and the whole call behind the connection.
use Rattle.std.proofs.Common.{◌≡◌, ℕ, ◌≤◌, List, [], ◌∷◌, ◌++◌, Option, None, refl, sym, ap, ◌∙◌, subst, inl, inr, append_assoc}
use Rattle.std.specs.Prelude.{Result, Ok, Err}
use Rattle.std.proofs.lemmas.List.{append-nil}
use Rattle.ads_base.specs.declared.no_memory.NoMemory.{NoMemory}
use Rattle.spec_formats.specs.Header.{AmsAddress}
use Rattle.ads_outside.specs.declared.link_move.LinkMove.{LinkMove}
use Rattle.ads_outside.specs.declared.link_move.LinkMove.TheVariants as move
use Rattle.ads_outside.specs.LinkState.{LinkState, LinkHistory, connected_at}
use Rattle.ads_outside.specs.Puts.{AppendsPart}
use Rattle.ads_outside.specs.SinkState.{SinkState}
use Rattle.spec_client.specs.Calls.{Call}
use Rattle.spec_client.specs.CallOver.{conversation_after_all}
use Rattle.spec_client.specs.Conversation as conversation
use Rattle.spec_client.specs.Conversation.{LinkAnswer, Bytes, Quiet, Closed, Conversation, printed_by, kept_by}
use Rattle.spec_client.specs.Conversation.{sent_by, conversation_begun, conversation_after_turns}
use Rattle.spec_client.specs.Runner.{CallStep, new_runner, turns}
use Rattle.spec_client.specs.CallLog.{sent_moves, sent_last, log_behind, log_up_to}
use Rattle.client_replies.specs.declared.stage.CallEnd.{CallEnd}
use Rattle.client_calls.specs.Kept.{RunnerKept}
use Rattle.client_loop.specs.declared.loop_end.LoopEnd.{LoopEnd}
use Rattle.client_loop.specs.declared.loop_end.LoopEnd.TheVariants as end
use Rattle.client_loop.specs.declared.record_end.RecordEnd.{RecordEnd}
use Rattle.client_loop.specs.declared.record_end.RecordEnd.TheVariants as record_end
use Rattle.client_loop.specs.declared.turning.Turned.TheVariants as turned
use Rattle.client_loop.specs.Due.{AtSend, AtPrint, Anywhere, first_steps, steps_last, text_up_to}
use Rattle.client_loop.specs.LinkAfter.{history_after_answer, history_after_answers, history_left}
use Rattle.client_loop.specs.Outlets.{Outlets, outlets, IsLater}
use Rattle.client_loop.specs.Said.{SentSome, Gives}
use Rattle.client_loop.specs.Turning.{GivesSomeSteps, AfterTurns}
use Rattle.client_loop.specs.Called.{Calling, over, Talks, BreaksOff, IfBroken, AfterCall}
use Rattle.client_loop.specs.Hearing.{IsWhole, IsPart, EndsOver, EndsFrom, IsBegun, TalksAlone, all_of, none_of, no_rows}
use Rattle.client_loop.proofs.DueLemmas.{stops_before, stops_on, stops_in_part, stops_behind_first, text_in_two}
use Rattle.client_loop.proofs.LogLemmas.{log_pending}
use Rattle.client_loop.proofs.OverLemmas.{told_whole}
use Rattle.client_loop.proofs.SaidLemmas.{puts_nothing, puts_then, adds_then, adds_part, adds_none, tells_more, tells_same, all_some}
use Rattle.client_loop.proofs.TurnLemmas.{rose_later}

-- the call waits behind its first turns
pub begins : {O : Type 0} (me peer : AmsAddress) (call : Call) (now : ℕ) (k : RunnerKept)
    (first second : O → List LinkMove → Type 0) (link mid_link : LinkState) (out mid : Outlets)
    → AfterTurns (Ok turned.Waits) now k first second link mid_link out mid 1 (new_runner me peer call) → IsBegun k (conversation_begun me peer call now)
unfolding conversation_after_turns
begins me peer call now k first second link mid_link out mid t = record { on = t.1; stands = t.0; quiet_is = refl; count_is = refl }

-- what the first turns gave
pub gives_begun : {O : Type 0} (me peer : AmsAddress) (call : Call) (now : ℕ) (k : RunnerKept)
    (first second : O → List LinkMove → Type 0) (link mid_link : LinkState) (out mid : Outlets)
    → AfterTurns (Ok turned.Waits) now k first second link mid_link out mid 1 (new_runner me peer call)
    → let c = conversation_begun me peer call now in Gives c.sent c.text c.kept first second out mid
unfolding conversation_after_turns
gives_begun me peer call now k first second link mid_link out mid t = t.2

-- all that they print is the text so far
pub text_begun : (me peer : AmsAddress) (call : Call) (now : ℕ) → (conversation_begun me peer call now).text ≡ printed_by (first_steps me peer call now)
unfolding conversation_after_turns
text_begun me peer call now = refl

whole_from : {O : Type 0} (c : Conversation) (new : RunnerKept) (ended : Option conversation.LoopEnd)
    (first second third : O → List LinkMove → Type 0) (link mid_link new_link : LinkState) (out mid new_out : Outlets)
    → mid_link.history ≡ link.history → Gives c.sent c.text c.kept first second out mid
    → IsWhole (all_of c) c new ended second third mid_link new_link mid new_out
    → IsWhole (none_of c) c new ended first third link new_link out new_out
whole_from c new ended first second third link mid_link new_link out mid new_out same gives g = record {
  answers = g.answers;
  history = g.history ∙ ap (λ h. history_left ended (history_after_answers h g.answers)) same;
  awaited = g.awaited;
  end_is = g.end_is;
  entries = g.entries;
  text = λ base before. g.text base (puts_then base out.sink.held mid.sink.held [] c.text before gives.put);
  rows = λ base before. g.rows base (adds_then base out.keeper.rows mid.keeper.rows [] c.kept before gives.kept);
  told = λ o log told.
      subst (λ ms. third o (log ++ ms)) (sym (log_pending c.sent c g.answers))
      (tells_more third o log (sent_moves c.sent) (log_behind [] c g.answers) (g.told o (log ++ sent_moves c.sent) (gives.told o log told)));
}

part_with : {O : Type 0} (answers : List LinkAnswer) (c : Conversation) (tells : O → List LinkMove → Type 0) (o : O) (log : List LinkMove)
    → SentSome (sent_last [] c answers) tells o (log ++ sent_moves c.sent ++ log_up_to [] c answers)
    → SentSome (sent_last c.sent c answers) tells o (log ++ log_up_to c.sent c answers)
unfolding log_up_to sent_last
part_with [] c tells o log s =
    let whole : tells o (log ++ sent_moves c.sent) =
    subst (tells o) (append-nil (log ++ sent_moves c.sent)) (told_whole tells o (log ++ sent_moves c.sent ++ []) s) in
    record {
      moves = sent_moves c.sent;
      told = subst (λ ms. tells o (ms ++ sent_moves c.sent)) (sym (append-nil log)) whole;
      some = all_some c.sent;
    }
part_with (b ∷ more) c tells o log s =
    subst (λ ms. SentSome (sent_last [] c (b ∷ more)) tells o ms) (append_assoc log (sent_moves c.sent) (log_up_to [] c (b ∷ more))) s

part_from : {O : Type 0} (IsStop : List CallStep → Type 0) (steps : List CallStep) (c : Conversation)
    (first second third : O → List LinkMove → Type 0) (link mid_link new_link : LinkState) (out mid new_out : Outlets)
    → mid_link.history ≡ link.history → c.text ≡ printed_by steps → Gives c.sent c.text c.kept first second out mid
    → IsPart IsStop (all_of c) [] c second third mid_link new_link mid new_out
    → IsPart IsStop (none_of c) steps c first third link new_link out new_out
part_from IsStop steps c first second third link mid_link new_link out mid new_out same printed gives g = record {
  answers = g.answers;
  history = g.history ∙ ap (λ h. history_after_answers h g.answers) same;
  awaited = g.awaited;
  text = λ base before.
      stops_behind_first IsStop steps c g.answers base new_out.sink.held printed
      (g.text base (puts_then base out.sink.held mid.sink.held [] c.text before gives.put));
  rows = λ base before. g.rows base (adds_then base out.keeper.rows mid.keeper.rows [] c.kept before gives.kept);
  told = λ o log told. part_with g.answers c third o log (g.told o (log ++ sent_moves c.sent) (gives.told o log told));
}

-- the answers behind the first turns
pub ends_from : {O : Type 0} (result : Result RecordEnd NoMemory) (steps : List CallStep) (c : Conversation) (new : RunnerKept)
    (first second third : O → List LinkMove → Type 0) (link mid_link new_link : LinkState) (out mid new_out : Outlets)
    → mid_link.history ≡ link.history → link.faults ≤ mid_link.faults → IsLater out mid → c.text ≡ printed_by steps
    → Gives c.sent c.text c.kept first second out mid
    → EndsOver result c new second third mid_link new_link mid new_out → EndsFrom result steps c new first third link new_link out new_out
ends_from (Ok (record_end.Loop (end.Call e))) steps c new first second third link mid_link new_link out mid new_out same linked outed printed gives g =
    whole_from c new _ first second third link mid_link new_link out mid new_out same gives g
ends_from (Ok (record_end.Loop end.Budget)) steps c new first second third link mid_link new_link out mid new_out same linked outed printed gives g =
    whole_from c new _ first second third link mid_link new_link out mid new_out same gives g
ends_from (Ok (record_end.Loop end.LinkFault)) steps c new first second third link mid_link new_link out mid new_out same linked outed printed gives g = (
  rose_later link.faults mid_link.faults new_link.faults linked g.0,
  elim g.1 [
    | inl w ↦ inl (whole_from c new None first second third link mid_link new_link out mid new_out same gives w)
    | inr w ↦ inr (part_from AtSend steps c first second third link mid_link new_link out mid new_out same printed gives w)
  ],
)
ends_from (Ok (record_end.Loop end.WriteFault)) steps c new first second third link mid_link new_link out mid new_out same linked outed printed gives g = (
  rose_later out.sink.faults mid.sink.faults new_out.sink.faults outed.sink.faults g.0,
  part_from AtPrint steps c first second third link mid_link new_link out mid new_out same printed gives g.1,
)
ends_from (Ok record_end.KeeperFault) steps c new first second third link mid_link new_link out mid new_out same linked outed printed gives g = (
  rose_later out.keeper.faults mid.keeper.faults new_out.keeper.faults outed.keeper g.0,
  part_from Anywhere steps c first second third link mid_link new_link out mid new_out same printed gives g.1,
)
ends_from (Err e) steps c new first second third link mid_link new_link out mid new_out same linked outed printed gives g =
    part_from Anywhere steps c first second third link mid_link new_link out mid new_out same printed gives g

-- the call is over by its first turns
pub over_first : {O : Type 0} (e : CallEnd) (me peer : AmsAddress) (call : Call) (now : ℕ) (k : RunnerKept)
    (first second : O → List LinkMove → Type 0) (link new_link : LinkState) (out new_out : Outlets)
    → new_link.history ≡ link.history → AfterTurns (Ok (turned.Over e)) now k first second link new_link out new_out 1 (new_runner me peer call)
    → EndsFrom (Ok (record_end.Loop (end.Call e))) (first_steps me peer call now) (conversation_begun me peer call now) k first second link new_link out new_out
unfolding conversation_after_turns conversation_after_all log_behind
over_first e me peer call now k first second link new_link out new_out same t = record {
  answers = [];
  history = same;
  awaited = tt;
  end_is = t.0;
  entries = t.2;
  text = λ base before. puts_then base out.sink.held new_out.sink.held [] (printed_by (turns now (new_runner me peer call)).steps) before t.1.put;
  rows = λ base before. adds_then base out.keeper.rows new_out.keeper.rows [] (kept_by (turns now (new_runner me peer call)).steps) before t.1.kept;
  told = t.1.told;
}

part_first : {O : Type 0} (IsStop : List CallStep → Type 0) (me peer : AmsAddress) (call : Call) (now : ℕ)
    (first second : O → List LinkMove → Type 0) (link new_link : LinkState) (out new_out : Outlets)
    → new_link.history ≡ link.history → GivesSomeSteps IsStop 1 (first_steps me peer call now) first second out new_out
    → let c = conversation_begun me peer call now in IsPart IsStop (none_of c) (first_steps me peer call now) c first second link new_link out new_out
unfolding conversation_after_turns conversation_after_all log_up_to sent_last text_up_to steps_last
part_first IsStop me peer call now first second link new_link out new_out same gives = record {
  answers = [];
  history = same;
  awaited = tt;
  text = λ base before.
      stops_on IsStop [] (first_steps me peer call now) base out.sink.held new_out.sink.held before gives.stops;
  rows = λ base before. adds_part base out.keeper.rows new_out.keeper.rows [] (kept_by (turns now (new_runner me peer call)).steps) before gives.some.kept;
  told = λ o log told. subst (λ ms. SentSome (sent_by 1 (turns now (new_runner me peer call)).steps) second o ms)
      (sym (append-nil log)) (gives.some.told o log told);
}

pub link_first : {O : Type 0} (me peer : AmsAddress) (call : Call) (now : ℕ) (k : RunnerKept)
    (first second : O → List LinkMove → Type 0) (link new_link : LinkState) (out new_out : Outlets)
    → new_link.history ≡ link.history → AfterTurns (Ok turned.LinkFault) now k first second link new_link out new_out 1 (new_runner me peer call)
    → EndsFrom (Ok (record_end.Loop end.LinkFault)) (first_steps me peer call now) (conversation_begun me peer call now) k
    first second link new_link out new_out
link_first me peer call now k first second link new_link out new_out same t =
    (t.0, inr (part_first AtSend me peer call now first second link new_link out new_out same t.1))

pub write_first : {O : Type 0} (me peer : AmsAddress) (call : Call) (now : ℕ) (k : RunnerKept)
    (first second : O → List LinkMove → Type 0) (link new_link : LinkState) (out new_out : Outlets)
    → new_link.history ≡ link.history → AfterTurns (Ok turned.WriteFault) now k first second link new_link out new_out 1 (new_runner me peer call)
    → EndsFrom (Ok (record_end.Loop end.WriteFault)) (first_steps me peer call now) (conversation_begun me peer call now) k
    first second link new_link out new_out
write_first me peer call now k first second link new_link out new_out same t =
    (t.0, part_first AtPrint me peer call now first second link new_link out new_out same t.1)

pub keeper_first : {O : Type 0} (me peer : AmsAddress) (call : Call) (now : ℕ) (k : RunnerKept)
    (first second : O → List LinkMove → Type 0) (link new_link : LinkState) (out new_out : Outlets)
    → new_link.history ≡ link.history → AfterTurns (Ok turned.KeeperFault) now k first second link new_link out new_out 1 (new_runner me peer call)
    → EndsFrom (Ok record_end.KeeperFault) (first_steps me peer call now) (conversation_begun me peer call now) k first second link new_link out new_out
keeper_first me peer call now k first second link new_link out new_out same t =
    (t.0, part_first Anywhere me peer call now first second link new_link out new_out same t.1)

pub memory_first : {O : Type 0} (e : NoMemory) (me peer : AmsAddress) (call : Call) (now : ℕ) (k : RunnerKept)
    (first second : O → List LinkMove → Type 0) (link new_link : LinkState) (out new_out : Outlets)
    → new_link.history ≡ link.history → AfterTurns (Err e) now k first second link new_link out new_out 1 (new_runner me peer call)
    → EndsFrom (Err e) (first_steps me peer call now) (conversation_begun me peer call now) k first second link new_link out new_out
memory_first e me peer call now k first second link new_link out new_out same t =
    part_first Anywhere me peer call now first second link new_link out new_out same t

-- memory was wanting before them
pub never_first : {O : Type 0} (steps : List CallStep) (c : Conversation) (tells : O → List LinkMove → Type 0) (link : LinkState) (out : Outlets)
    → IsPart Anywhere (none_of c) steps c tells tells link link out out
unfolding conversation_after_all log_up_to sent_last text_up_to steps_last
never_first steps c tells link out = record {
  answers = [];
  history = refl;
  awaited = tt;
  text = λ base before. stops_on Anywhere [] steps base out.sink.held out.sink.held before (stops_before steps out.sink.held);
  rows = λ base before. adds_part base out.keeper.rows out.keeper.rows [] c.kept before (adds_none out.keeper.rows c.kept);
  told = λ o log told. record { moves = []; told = tells_same tells o (log ++ []) (tells_same tells o log told); some = tt };
}

abbrev pub begun_by : Calling → ℕ → Conversation
begun_by x now = conversation_begun x.me x.peer x.call now

abbrev pub begins_by : Calling → ℕ → List CallStep
begins_by x now = first_steps x.me x.peer x.call now

abbrev pub Joins : {O : Type 0} → Calling → ℕ → (O → List LinkMove → Type 0) → (O → List LinkMove → Type 0) → Type 0
Joins {O} x now first second = (o : O) (log : List LinkMove) → first o log → second o (log ++ move.Connected x.to now ∷ [])

abbrev pub talks_from : {O : Type 0} (x : Calling) (now : ℕ) (k : RunnerKept) (ended : Option conversation.LoopEnd)
    (first second third : O → List LinkMove → Type 0) (mid_link new_link : LinkState) (out new_out : Outlets)
    → mid_link.history ≡ connected_at now → Joins x now first second
    → IsWhole (none_of (begun_by x now)) (begun_by x now) k ended second third mid_link new_link out new_out
    → Talks x ended first third new_link out.sink new_out.sink
talks_from x now k ended first second third mid_link new_link out new_out at joins g = record {
  moment = now;
  answers = g.answers;
  history = g.history ∙ ap (λ h. history_left ended (history_after_answers h g.answers)) at;
  awaited = g.awaited;
  end_is = g.end_is;
  text = g.text out.sink.held (puts_nothing out.sink.held);
  told = λ o log told. tells_more third o log (move.Connected x.to now ∷ [])
      (log_behind (begun_by x now).sent (begun_by x now) g.answers) (g.told o (log ++ move.Connected x.to now ∷ []) (joins o log told));
}

abbrev pub breaks_from : {O : Type 0} (IsStop : List CallStep → Type 0) (x : Calling) (now : ℕ)
    (first second third : O → List LinkMove → Type 0) (mid_link new_link : LinkState) (out new_out : Outlets)
    → mid_link.history ≡ connected_at now → Joins x now first second
    → IsPart IsStop (none_of (begun_by x now)) (begins_by x now) (begun_by x now) second third mid_link new_link out new_out
    → BreaksOff IsStop x first third new_link out.sink new_out.sink
breaks_from IsStop x now first second third mid_link new_link out new_out at joins g =
    let c = begun_by x now in
    record {
      moment = now;
      answers = g.answers;
      history = g.history ∙ ap (λ h. history_after_answers h g.answers) at;
      awaited = g.awaited;
      text = g.text out.sink.held (puts_nothing out.sink.held);
      told = λ o log told.
          subst (λ ms. SentSome (sent_last c.sent c g.answers) third o ms) (append_assoc log (move.Connected x.to now ∷ []) (log_up_to c.sent c g.answers))
          (g.told o (log ++ move.Connected x.to now ∷ []) (joins o log told));
    }

-- so some first bytes of all its text were put
pub breaks_in_part : {O : Type 0} (IsStop : List CallStep → Type 0) (x : Calling) (first third : O → List LinkMove → Type 0) (new_link : LinkState)
    (out new_out : SinkState) (b : BreaksOff IsStop x first third new_link out new_out)
    → AppendsPart out.held new_out.held (over x b.moment b.answers).text
unfolding conversation_after_turns
breaks_in_part IsStop x first third new_link out new_out b =
    let c = begun_by x b.moment in
    let steps = begins_by x b.moment in
    subst (λ t. AppendsPart out.held new_out.held t) (sym (text_in_two [] steps c b.answers refl b.awaited))
    (stops_in_part IsStop (text_up_to [] c b.answers) (steps_last steps c b.answers) out.held new_out.held b.text)

-- an answer says nothing of whether to receive failed
same_broken : (h : LinkHistory) (a : LinkAnswer) → (history_after_answer h a).broken ≡ h.broken
same_broken h (Bytes bytes now) = refl
same_broken h (Quiet now) = refl
same_broken h (Closed now) = refl

all_broken : (h : LinkHistory) (answers : List LinkAnswer) → (history_after_answers h answers).broken ≡ h.broken
all_broken h [] = refl
all_broken h (a ∷ answers) = all_broken (history_after_answer h a) answers ∙ same_broken h a

-- a link that failed, by which call
pub recv_fails : {O : Type 0} (x : Calling) (first third : O → List LinkMove → Type 0) (new_link : LinkState) (out new_out : SinkState)
    → (Receiving Sending : Type 0) → Talks x None first third new_link out new_out → Receiving → IfBroken new_link.history.broken Receiving Sending
recv_fails x first third new_link out new_out Receiving Sending t h =
    subst (λ b. IfBroken b Receiving Sending) (sym (ap (λ (l : LinkHistory). l.broken) t.history)) h

pub send_fails : {O : Type 0} (x : Calling) (first third : O → List LinkMove → Type 0) (new_link : LinkState) (out new_out : SinkState)
    → (Receiving Sending : Type 0) → BreaksOff AtSend x first third new_link out new_out → Sending → IfBroken new_link.history.broken Receiving Sending
send_fails x first third new_link out new_out Receiving Sending t h =
    subst (λ b. IfBroken b Receiving Sending)
    (sym (ap (λ (l : LinkHistory). l.broken) t.history ∙ all_broken (connected_at t.moment) t.answers)) h

-- the whole call, behind its connection
pub calls : {O : Type 0} (result : Result LoopEnd NoMemory) (x : Calling) (now : ℕ)
    (first second third : O → List LinkMove → Type 0) (link mid_link new_link : LinkState) (out new_out : SinkState)
    → mid_link.history ≡ connected_at now → link.faults ≤ mid_link.faults → Joins x now first second
    → TalksAlone result (begins_by x now) (begun_by x now) second third mid_link new_link out new_out → AfterCall result x first third link new_link out new_out
calls (Ok (end.Call e)) x now first second third link mid_link new_link out new_out at later joins g =
    talks_from x now g.0 _ first second third mid_link new_link (outlets out no_rows) (outlets new_out no_rows) at joins g.1
calls (Ok end.Budget) x now first second third link mid_link new_link out new_out at later joins g =
    talks_from x now g.0 _ first second third mid_link new_link (outlets out no_rows) (outlets new_out no_rows) at joins g.1
calls (Ok end.LinkFault) x now first second third link mid_link new_link out new_out at later joins g =
    let Receiving = Talks x None first third new_link out new_out in
    let Sending = BreaksOff AtSend x first third new_link out new_out in (
      rose_later link.faults mid_link.faults new_link.faults later g.1.0,
      elim g.1.1 [
        | inl w ↦
            let t = talks_from x now g.0 None first second third mid_link new_link (outlets out no_rows) (outlets new_out no_rows) at joins w in
            inr (recv_fails x first third new_link out new_out Receiving Sending t t)
        | inr w ↦
            let b = breaks_from AtSend x now first second third mid_link new_link (outlets out no_rows) (outlets new_out no_rows) at joins w in
            inr (send_fails x first third new_link out new_out Receiving Sending b b)
      ],
    )
calls (Ok end.WriteFault) x now first second third link mid_link new_link out new_out at later joins g =
    (g.1.0, breaks_from AtPrint x now first second third mid_link new_link (outlets out no_rows) (outlets new_out no_rows) at joins g.1.1)
calls (Err e) x now first second third link mid_link new_link out new_out at later joins g =
    inr (breaks_from Anywhere x now first second third mid_link new_link (outlets out no_rows) (outlets new_out no_rows) at joins g)

-- there is no memory for its runner
pub never_called : {O : Type 0} (e : NoMemory) (steps : List CallStep) (c : Conversation) (tells : O → List LinkMove → Type 0) (link : LinkState)
    (out : SinkState) → TalksAlone (Err e) steps c tells tells link link out out
never_called e steps c tells link out = never_first steps c tells link (outlets out no_rows)
