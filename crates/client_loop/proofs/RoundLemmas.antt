-- An answer of the link, and the turns behind it.
use Rattle.std.proofs.Common.{◌≡◌, ℕ, ◌+◌, ◌≤◌, ◌<◌, List, [], ◌∷◌, ◌++◌, Option, Some, None, Bool, true, false, refl, sym, ap, ◌∙◌, subst, inl, inr, arith}
use Rattle.std.proofs.lemmas.Bool.{eqb-false}
use Rattle.std.specs.Prelude.{Result, Ok, Err, ◌==◌, ◌||◌, if◌then◌else◌}
use Rattle.ads_base.specs.declared.peer.Peer.TheVariants as peer
use Rattle.spec_samples.specs.Row.{Row}
use Rattle.spec_client.specs.Stages.{BadPeer, entries_taken}
use Rattle.client_replies.specs.declared.stage.CallEnd.{CallEnd}
use Rattle.ads_base.specs.declared.no_memory.NoMemory.{NoMemory}
use Rattle.ads_outside.specs.declared.link_move.LinkMove.{LinkMove}
use Rattle.ads_outside.specs.declared.link_move.LinkMove.TheVariants as move
use Rattle.ads_outside.specs.LinkState.{LinkState, LinkHistory, broke_off}
use Rattle.ads_outside.specs.Puts.{Appends}
use Rattle.spec_client.specs.CallOver.{conversation_after_all}
use Rattle.spec_client.specs.Conversation as conversation
use Rattle.spec_client.specs.Conversation.{LinkAnswer, Conversation, CallEnded, MAX_QUIET, MAX_ANSWERS}
use Rattle.spec_client.specs.Conversation.{moment_of, sent_by, printed_by, kept_by, quiet_after, end_by_answer}
use Rattle.spec_client.specs.Conversation.{runner_after_answer, conversation_after}
use Rattle.spec_client.specs.Runner.{Runner, CallStep}
use Rattle.spec_client.specs.CallLog.{event_of, sent_moves, sent_last, log_behind, log_up_to}
use Rattle.client_replies.specs.Stages.{end_meant}
use Rattle.client_calls.specs.Kept.{RunnerKept}
use Rattle.client_calls.specs.Represents.{StandsFor}
use Rattle.client_loop.specs.declared.answers.Came.{Came}
use Rattle.client_loop.specs.declared.answers.Came.TheVariants as came
use Rattle.client_loop.specs.declared.hearing.Heard.{Heard}
use Rattle.client_loop.specs.declared.hearing.Heard.TheVariants as heard
use Rattle.client_loop.specs.declared.loop_end.LoopEnd.TheVariants as end
use Rattle.client_loop.specs.declared.record_end.RecordEnd.TheVariants as record_end
use Rattle.client_loop.specs.declared.turning.Turned.{Turned}
use Rattle.client_loop.specs.declared.turning.Turned.TheVariants as turned
use Rattle.client_loop.specs.Due.{AtSend, AtPrint, Anywhere, turns_after, steps_last, text_up_to}
use Rattle.client_loop.specs.Outlets.{Outlets, Adds, AddsPart}
use Rattle.client_loop.specs.Said.{SentSome}
use Rattle.client_loop.specs.Turning.{GivesSteps, GivesSomeSteps, AfterTurns}
use Rattle.client_loop.specs.Hearing.{IsCame, Comes, ComesNot, TakesIn, AfterComing, GoesOver, StopsOver}
use Rattle.client_loop.specs.Hearing.{end_at_last, IsAt, Hears, AfterRound, waits_behind, moment_in, heard_by}
use Rattle.client_loop.specs.Hearing.{AllTurns, EndsTurns, TurnsBehind, IfGoes}
use Rattle.client_loop.proofs.SaidLemmas.{puts_then, adds_then, adds_part, adds_all, adds_more, tells_more, tells_same}
use Rattle.client_loop.proofs.DueLemmas.{stops_before, stops_on}
use Rattle.client_loop.proofs.TurnLemmas.{rose_later}
use Rattle.client_loop.proofs.GoingLemmas.{text_after, kept_after, runner_after, behind_is, over_after, Waited, waits_after}

-- the moment of what came is that of the answer
pub moment_came : (kind : Came) (a : LinkAnswer) → IsCame kind a → moment_in kind ≡ moment_of a
moment_came (came.Bytes now) a is = ap moment_of (sym is.1)
moment_came (came.Quiet now) a is = ap moment_of (sym is)
moment_came (came.Closed now) a is = ap moment_of (sym is)

-- the text of the turns stands behind that before the answer
text_stands : {O : Type 0} (c : Conversation) (a : LinkAnswer) (first second : O → List LinkMove → Type 0) (out new_out : Outlets) (n : ℕ)
    → c.end ≡ None → GivesSteps n (turns_after c a).steps first second out new_out → (base : Option (List ℕ)) → Appends base out.sink.held c.text
    → Appends base new_out.sink.held (conversation_after c a).text
text_stands c a first second out new_out n on gives base before =
    subst (λ t. Appends base new_out.sink.held t) (sym (text_after c a on))
    (puts_then base out.sink.held new_out.sink.held c.text (printed_by (turns_after c a).steps) before gives.put)

-- and their rows behind those before it
rows_stand : {O : Type 0} (c : Conversation) (a : LinkAnswer) (first second : O → List LinkMove → Type 0) (out new_out : Outlets) (n : ℕ)
    → c.end ≡ None → GivesSteps n (turns_after c a).steps first second out new_out → (base : Option (List Row)) → Adds base out.keeper.rows c.kept
    → Adds base new_out.keeper.rows (conversation_after c a).kept
rows_stand c a first second out new_out n on gives base before =
    subst (λ t. Adds base new_out.keeper.rows t) (sym (kept_after c a on))
    (adds_then base out.keeper.rows new_out.keeper.rows c.kept (kept_by (turns_after c a).steps) before gives.kept)

some_rows_stand : {O : Type 0} (IsStop : List CallStep → Type 0) (c : Conversation) (a : LinkAnswer)
    (first second : O → List LinkMove → Type 0) (out new_out : Outlets) (n : ℕ)
    → c.end ≡ None → GivesSomeSteps IsStop n (turns_after c a).steps first second out new_out → (base : Option (List Row)) → Adds base out.keeper.rows c.kept
    → AddsPart base new_out.keeper.rows (conversation_after c a).kept
some_rows_stand IsStop c a first second out new_out n on gives base before =
    subst (λ t. AddsPart base new_out.keeper.rows t) (sym (kept_after c a on))
    (adds_part base out.keeper.rows new_out.keeper.rows c.kept (kept_by (turns_after c a).steps) before gives.some.kept)

-- the answer, and what is sent behind it, stand in the log
log_stands : {O : Type 0} (c : Conversation) (a : LinkAnswer) (first second third : O → List LinkMove → Type 0) (old mid : LinkHistory) (out new_out : Outlets)
    → c.end ≡ None → Comes a first second old mid → GivesSteps (c.answers + 1) (turns_after c a).steps second third out new_out
    → (o : O) (log : List LinkMove) → first o log → third o (log ++ log_behind [] c (a ∷ []))
unfolding log_behind
log_stands c a first second third old mid out new_out on comes gives o log told =
    subst (λ s. third o (log ++ move.Came (event_of a) ∷ sent_moves s)) (sym (behind_is c a on))
    (tells_more third o log (move.Came (event_of a) ∷ []) (sent_moves (sent_by (c.answers + 1) (turns_after c a).steps))
    (gives.told o (log ++ move.Came (event_of a) ∷ []) (comes.told o log told)))

some_stands : {O : Type 0} (IsStop : List CallStep → Type 0) (c : Conversation) (a : LinkAnswer)
    (first second third : O → List LinkMove → Type 0) (old mid : LinkHistory) (out new_out : Outlets)
    → c.end ≡ None → Comes a first second old mid → GivesSomeSteps IsStop (c.answers + 1) (turns_after c a).steps second third out new_out
    → (o : O) (log : List LinkMove) → first o log → SentSome (sent_last [] c (a ∷ [])) third o (log ++ log_up_to [] c (a ∷ []))
unfolding log_up_to sent_last
some_stands IsStop c a first second third old mid out new_out on comes gives o log told =
    subst (λ s. SentSome s third o (log ++ move.Came (event_of a) ∷ [])) (sym (behind_is c a on))
    (gives.some.told o (log ++ move.Came (event_of a) ∷ []) (comes.told o log told))

-- the call is over by it
ends_whole : {O : Type 0} (c : Conversation) (a : LinkAnswer) (new : RunnerKept) (ended : conversation.LoopEnd)
    (first second third : O → List LinkMove → Type 0) (link mid_link new_link : LinkState) (out new_out : Outlets)
    → c.end ≡ None → Comes a first second link.history mid_link.history → new_link.history ≡ mid_link.history
    → GivesSteps (c.answers + 1) (turns_after c a).steps second third out new_out → (conversation_after c a).end ≡ Some ended
    → entries_taken new.stage ≡ entries_taken (turns_after c a).runner.stage → GoesOver c new (Some ended) first third link new_link out new_out
unfolding conversation_after_all
ends_whole c a new ended first second third link mid_link new_link out new_out on comes same gives is entries = record {
  answers = a ∷ [];
  history = same ∙ comes.history;
  awaited = (on, tt);
  end_is = is;
  entries = entries ∙ ap (λ (r : Runner). entries_taken r.stage) (sym (runner_after c a on));
  text = text_stands c a second third out new_out (c.answers + 1) on gives;
  rows = rows_stand c a second third out new_out (c.answers + 1) on gives;
  told = log_stands c a first second third link.history mid_link.history out new_out on comes gives;
}

-- the turns behind it are cut short
ends_cut : {O : Type 0} (IsStop : List CallStep → Type 0) (c : Conversation) (a : LinkAnswer) (first second third : O → List LinkMove → Type 0)
    (link mid_link new_link : LinkState) (out new_out : Outlets)
    → c.end ≡ None → Comes a first second link.history mid_link.history → new_link.history ≡ mid_link.history
    → GivesSomeSteps IsStop (c.answers + 1) (turns_after c a).steps second third out new_out
    → StopsOver IsStop c first third link new_link out new_out
unfolding conversation_after_all text_up_to steps_last
ends_cut IsStop c a first second third link mid_link new_link out new_out on comes same gives = record {
  answers = a ∷ [];
  history = same ∙ comes.history;
  awaited = (on, tt);
  text = λ base before. stops_on IsStop c.text (turns_after c a).steps base out.sink.held new_out.sink.held before gives.stops;
  rows = some_rows_stand IsStop c a second third out new_out (c.answers + 1) on gives;
  told = some_stands IsStop c a first second third link.history mid_link.history out new_out on comes gives;
}

-- to receive failed
pub over_nothing : {O : Type 0} (c : Conversation) (new : RunnerKept) (first second : O → List LinkMove → Type 0) (link new_link : LinkState) (out : Outlets)
    → c.end ≡ None → StandsFor new c.runner → ComesNot first second (broke_off link.history) new_link.history
    → GoesOver c new None first second link new_link out out
unfolding conversation_after_all log_behind
over_nothing c new first second link new_link out on stands comes = record {
  answers = [];
  history = comes.history;
  awaited = tt;
  end_is = on;
  entries = ap entries_taken stands.stage_is;
  text = λ base before. before;
  rows = λ base before. before;
  told = λ o log told. tells_same second o log (comes.told o log told);
}

-- nothing came
pub stops_nothing : {O : Type 0} (c : Conversation) (first second : O → List LinkMove → Type 0) (link new_link : LinkState) (out : Outlets)
    → ComesNot first second link.history new_link.history → StopsOver Anywhere c first second link new_link out out
unfolding conversation_after_all log_up_to sent_last text_up_to steps_last
stops_nothing c first second link new_link out comes = record {
  answers = [];
  history = comes.history;
  awaited = tt;
  text = λ base before. stops_on Anywhere c.text [] base out.sink.held out.sink.held before (stops_before [] out.sink.held);
  rows = λ base before. adds_all base out.keeper.rows c.kept before;
  told = λ o log told. record { moves = []; told = tells_same second o (log ++ []) (tells_same second o log (comes.told o log told)); some = tt };
}

-- memory was wanting for the answer
pub no_answer : {O : Type 0} (e : NoMemory) (c : Conversation) (k new : RunnerKept)
    (first second : O → List LinkMove → Type 0) (link new_link : LinkState) (out : Outlets)
    → c.end ≡ None → AfterComing (Err e) k new first second link new_link → StopsOver Anywhere c first second link new_link out out
unfolding conversation_after_all log_up_to sent_last text_up_to steps_last
no_answer e c k new first second link new_link out on (inl comes) = stops_nothing c first second link new_link out comes
no_answer e c k new first second link new_link out on (inr comes) =
    let a = comes.0 in
    record {
      answers = a ∷ [];
      history = comes.1.history;
      awaited = (on, tt);
      text = λ base before.
          stops_on Anywhere c.text (turns_after c a).steps base out.sink.held out.sink.held before
          (stops_before (turns_after c a).steps out.sink.held);
      rows = λ base before.
          subst (λ t. AddsPart base out.keeper.rows t) (sym (kept_after c a on))
          (adds_more base out.keeper.rows c.kept (kept_by (turns_after c a).steps) (adds_all base out.keeper.rows c.kept before));
      told = λ o log told. record { moves = []; told = tells_same second o (log ++ move.Came (event_of a) ∷ []) (comes.1.told o log told); some = tt };
    }

abbrev Behind : {O : Type 0} → Result Turned NoMemory → Came → RunnerKept → RunnerKept → (O → List LinkMove → Type 0) → (O → List LinkMove → Type 0)
    → LinkState → LinkState → Outlets → Outlets → Type 0
Behind result kind k new second third mid_link new_link out new_out =
    (r : Runner) (n : ℕ) → StandsFor k r → AfterTurns result (moment_in kind) new second third mid_link new_link out new_out n r

-- the turns behind the answer that came
turns_behind : {O : Type 0} (result : Result Turned NoMemory) (kind : Came) (k heard_k new : RunnerKept)
    (first second third : O → List LinkMove → Type 0) (link mid_link new_link : LinkState) (out new_out : Outlets)
    (quiet : ℕ) (c : Conversation) → IsAt k quiet c → (t : TakesIn kind k heard_k first second link.history mid_link.history)
    → Behind result kind heard_k new second third mid_link new_link out new_out
    → AfterTurns result (moment_of t.answer) new second third mid_link new_link out new_out (c.answers + 1) (runner_after_answer c.runner t.answer)
turns_behind result kind k heard_k new first second third link mid_link new_link out new_out quiet c at t behind =
    subst (λ now. AfterTurns result now new second third mid_link new_link out new_out (c.answers + 1) (runner_after_answer c.runner t.answer))
    (moment_came kind t.answer t.kind_is) (behind (runner_after_answer c.runner t.answer) (c.answers + 1) (t.stands c.runner at.stands))

-- the call is over
pub round_over : {O : Type 0} (e : CallEnd) (kind : Came) (k heard_k new : RunnerKept)
    (first second third : O → List LinkMove → Type 0) (link mid_link new_link : LinkState) (out new_out : Outlets)
    (quiet : ℕ) (c : Conversation) → IsAt k quiet c → TakesIn kind k heard_k first second link.history mid_link.history
    → Behind (Ok (turned.Over e)) kind heard_k new second third mid_link new_link out new_out → new_link.history ≡ mid_link.history
    → AfterRound (Ok (heard.Ends (record_end.Loop (end.Call e)))) c new first third link new_link out new_out
round_over e kind k heard_k new first second third link mid_link new_link out new_out quiet c at t behind same =
    let after = turns_behind (Ok (turned.Over e)) kind k heard_k new first second third link mid_link new_link out new_out quiet c at t behind in
    ends_whole c t.answer new (CallEnded (end_meant e)) first second third link mid_link new_link out new_out at.on t.comes same after.1
    (over_after c t.answer (CallEnded (end_meant e)) at.on after.0) after.2

pub round_link : {O : Type 0} (kind : Came) (k heard_k new : RunnerKept)
    (first second third : O → List LinkMove → Type 0) (link mid_link new_link : LinkState) (out new_out : Outlets)
    (quiet : ℕ) (c : Conversation) → IsAt k quiet c → TakesIn kind k heard_k first second link.history mid_link.history
    → Behind (Ok turned.LinkFault) kind heard_k new second third mid_link new_link out new_out
    → new_link.history ≡ mid_link.history → link.faults ≤ mid_link.faults
    → AfterRound (Ok (heard.Ends (record_end.Loop end.LinkFault))) c new first third link new_link out new_out
round_link kind k heard_k new first second third link mid_link new_link out new_out quiet c at t behind same later =
    let after = turns_behind (Ok turned.LinkFault) kind k heard_k new first second third link mid_link new_link out new_out quiet c at t behind in (
      rose_later link.faults mid_link.faults new_link.faults later after.0,
      inr (ends_cut AtSend c t.answer first second third link mid_link new_link out new_out at.on t.comes same after.1),
    )

pub round_write : {O : Type 0} (kind : Came) (k heard_k new : RunnerKept)
    (first second third : O → List LinkMove → Type 0) (link mid_link new_link : LinkState) (out new_out : Outlets)
    (quiet : ℕ) (c : Conversation) → IsAt k quiet c → TakesIn kind k heard_k first second link.history mid_link.history
    → Behind (Ok turned.WriteFault) kind heard_k new second third mid_link new_link out new_out → new_link.history ≡ mid_link.history
    → AfterRound (Ok (heard.Ends (record_end.Loop end.WriteFault))) c new first third link new_link out new_out
round_write kind k heard_k new first second third link mid_link new_link out new_out quiet c at t behind same =
    let after = turns_behind (Ok turned.WriteFault) kind k heard_k new first second third link mid_link new_link out new_out quiet c at t behind in
    (after.0, ends_cut AtPrint c t.answer first second third link mid_link new_link out new_out at.on t.comes same after.1)

pub round_keeper : {O : Type 0} (kind : Came) (k heard_k new : RunnerKept)
    (first second third : O → List LinkMove → Type 0) (link mid_link new_link : LinkState) (out new_out : Outlets)
    (quiet : ℕ) (c : Conversation) → IsAt k quiet c → TakesIn kind k heard_k first second link.history mid_link.history
    → Behind (Ok turned.KeeperFault) kind heard_k new second third mid_link new_link out new_out → new_link.history ≡ mid_link.history
    → AfterRound (Ok (heard.Ends record_end.KeeperFault)) c new first third link new_link out new_out
round_keeper kind k heard_k new first second third link mid_link new_link out new_out quiet c at t behind same =
    let after = turns_behind (Ok turned.KeeperFault) kind k heard_k new first second third link mid_link new_link out new_out quiet c at t behind in
    (after.0, ends_cut Anywhere c t.answer first second third link mid_link new_link out new_out at.on t.comes same after.1)

pub round_not : {O : Type 0} (e : NoMemory) (kind : Came) (k heard_k new : RunnerKept)
    (first second third : O → List LinkMove → Type 0) (link mid_link new_link : LinkState) (out new_out : Outlets)
    (quiet : ℕ) (c : Conversation) → IsAt k quiet c → TakesIn kind k heard_k first second link.history mid_link.history
    → Behind (Err e) kind heard_k new second third mid_link new_link out new_out → new_link.history ≡ mid_link.history
    → AfterRound (Err e) c new first third link new_link out new_out
round_not e kind k heard_k new first second third link mid_link new_link out new_out quiet c at t behind same =
    ends_cut Anywhere c t.answer first second third link mid_link new_link out new_out at.on t.comes same
    (turns_behind (Err e) kind k heard_k new first second third link mid_link new_link out new_out quiet c at t behind)

-- it waits, and goes on
goes_on : {O : Type 0} (c : Conversation) (a : LinkAnswer) (new : RunnerKept) (quiet : ℕ)
    (first second third : O → List LinkMove → Type 0) (link mid_link new_link : LinkState) (out new_out : Outlets)
    → c.end ≡ None → Comes a first second link.history mid_link.history → new_link.history ≡ mid_link.history
    → GivesSteps (c.answers + 1) (turns_after c a).steps second third out new_out → Waited c a → StandsFor new (turns_after c a).runner
    → quiet_after c.quiet a ≡ quiet → (conversation_after c a).end ≡ end_at_last (conversation_after c a)
    → Hears c new quiet first third link new_link out new_out
goes_on c a new quiet first second third link mid_link new_link out new_out on comes same gives w stands quiet_is end_is = record {
  answer = a;
  history = same ∙ comes.history;
  stands = subst (λ r. StandsFor new r) (sym w.runner) stands;
  quiet_is = w.quiet ∙ quiet_is;
  count = w.answers;
  end_is = end_is;
  text = text_stands c a second third out new_out (c.answers + 1) on gives;
  rows = rows_stand c a second third out new_out (c.answers + 1) on gives;
  told = log_stands c a first second third link.history mid_link.history out new_out on comes gives;
}

abbrev end_by : ℕ → Conversation → Option conversation.LoopEnd
end_by quiet d = if (quiet == MAX_QUIET) || (d.answers == MAX_ANSWERS + 1) then Some conversation.Budget else None

abbrev end_unless : Bool → Conversation → Option conversation.LoopEnd
end_unless last d = if last || (d.answers == MAX_ANSWERS + 1) then Some conversation.Budget else None

abbrev heard_unless : Bool → ℕ → Heard
heard_unless last quiet = if last then heard.Ends (record_end.Loop end.Budget) else heard.Goes quiet

-- the last Quiet that is waited for, or another one
quiet_round : {O : Type 0} (last : Bool) (c : Conversation) (a : LinkAnswer) (new : RunnerKept) (quiet : ℕ)
    (first second third : O → List LinkMove → Type 0) (link mid_link new_link : LinkState) (out new_out : Outlets)
    → c.end ≡ None → Comes a first second link.history mid_link.history → new_link.history ≡ mid_link.history
    → GivesSteps (c.answers + 1) (turns_after c a).steps second third out new_out → Waited c a → StandsFor new (turns_after c a).runner
    → quiet_after c.quiet a ≡ quiet → (conversation_after c a).end ≡ end_unless last (conversation_after c a)
    → AfterRound (Ok (heard_unless last quiet)) c new first third link new_link out new_out
quiet_round true c a new quiet first second third link mid_link new_link out new_out on comes same gives w stands quiet_is end_is =
    ends_whole c a new conversation.Budget first second third link mid_link new_link out new_out on comes same gives end_is (ap entries_taken stands.stage_is)
quiet_round false c a new quiet first second third link mid_link new_link out new_out on comes same gives w stands quiet_is end_is =
    goes_on c a new quiet first second third link mid_link new_link out new_out on comes same gives w stands quiet_is end_is

pub round_waits : {O : Type 0} (kind : Came) (k heard_k new : RunnerKept)
    (first second third : O → List LinkMove → Type 0) (link mid_link new_link : LinkState) (out new_out : Outlets)
    (quiet : ℕ) (c : Conversation) → IsAt k quiet c → TakesIn kind k heard_k first second link.history mid_link.history
    → Behind (Ok turned.Waits) kind heard_k new second third mid_link new_link out new_out → new_link.history ≡ mid_link.history
    → AfterRound (Ok (waits_behind kind quiet)) c new first third link new_link out new_out
round_waits (came.Bytes now) k heard_k new first second third link mid_link new_link out new_out quiet c at t behind same =
    let after = turns_behind (Ok turned.Waits) (came.Bytes now) k heard_k new first second third link mid_link new_link out new_out quiet c at t behind in
    let w = waits_after c t.answer at.on after.1 in
    let d = conversation_after c t.answer in
    let none : quiet_after c.quiet t.answer ≡ 0 = ap (quiet_after c.quiet) t.kind_is.1 in
    let ended : d.end ≡ end_by d.quiet d = w.end ∙ ap (end_by_answer d) t.kind_is.1 in
    goes_on c t.answer new 0 first second third link mid_link new_link out new_out at.on t.comes same after.2 w after.0 none
    (ended ∙ ap (λ q. end_by q d) (w.quiet ∙ none))
round_waits (came.Quiet now) k heard_k new first second third link mid_link new_link out new_out quiet c at t behind same =
    let after = turns_behind (Ok turned.Waits) (came.Quiet now) k heard_k new first second third link mid_link new_link out new_out quiet c at t behind in
    let w = waits_after c t.answer at.on after.1 in
    let d = conversation_after c t.answer in
    let more : quiet_after c.quiet t.answer ≡ quiet + 1 = ap (quiet_after c.quiet) t.kind_is ∙ ap (λ q. q + 1) at.quiet_is in
    let ended : d.end ≡ end_by d.quiet d = w.end ∙ ap (end_by_answer d) t.kind_is in
    quiet_round (quiet + 1 == MAX_QUIET) c t.answer new (quiet + 1) first second
    third link mid_link new_link out new_out at.on t.comes same after.2 w after.0 more
    (ended ∙ ap (λ q. end_by q d) (w.quiet ∙ more))
round_waits (came.Closed now) k heard_k new first second third link mid_link new_link out new_out quiet c at t behind same =
    let after = turns_behind (Ok turned.Waits) (came.Closed now) k heard_k new first second third link mid_link new_link out new_out quiet c at t behind in
    let w = waits_after c t.answer at.on after.1 in
    ends_whole c t.answer new (CallEnded (BadPeer peer.Closed)) first second third link mid_link new_link out new_out at.on t.comes same after.2
    (w.end ∙ ap (end_by_answer (conversation_after c t.answer)) t.kind_is) (ap entries_taken after.0.stage_is)

-- by how the turns behind the answer ended
round_by : {O : Type 0} (ended : Turned) (kind : Came) (k heard_k new : RunnerKept)
    (first second third : O → List LinkMove → Type 0) (link mid_link new_link : LinkState) (out new_out : Outlets)
    (quiet : ℕ) (c : Conversation) → IsAt k quiet c → TakesIn kind k heard_k first second link.history mid_link.history
    → Behind (Ok ended) kind heard_k new second third mid_link new_link out new_out → new_link.history ≡ mid_link.history → link.faults ≤ mid_link.faults
    → AfterRound (Ok (heard_by ended kind quiet)) c new first third link new_link out new_out
round_by turned.Waits kind k heard_k new first second third link mid_link new_link out new_out quiet c at t behind same later =
    round_waits kind k heard_k new first second third link mid_link new_link out new_out quiet c at t behind same
round_by (turned.Over e) kind k heard_k new first second third link mid_link new_link out new_out quiet c at t behind same later =
    round_over e kind k heard_k new first second third link mid_link new_link out new_out quiet c at t behind same
round_by turned.LinkFault kind k heard_k new first second third link mid_link new_link out new_out quiet c at t behind same later =
    round_link kind k heard_k new first second third link mid_link new_link out new_out quiet c at t behind same later
round_by turned.WriteFault kind k heard_k new first second third link mid_link new_link out new_out quiet c at t behind same later =
    round_write kind k heard_k new first second third link mid_link new_link out new_out quiet c at t behind same
round_by turned.KeeperFault kind k heard_k new first second third link mid_link new_link out new_out quiet c at t behind same later =
    round_keeper kind k heard_k new first second third link mid_link new_link out new_out quiet c at t behind same

pub round_of : {O : Type 0} (result : Result Heard NoMemory) (kind : Came) (k heard_k new : RunnerKept)
    (first second third : O → List LinkMove → Type 0) (link mid_link new_link : LinkState) (out new_out : Outlets)
    (quiet : ℕ) (c : Conversation) → IsAt k quiet c → TakesIn kind k heard_k first second link.history mid_link.history
    → TurnsBehind result kind quiet heard_k new second third mid_link new_link out new_out → new_link.history ≡ mid_link.history → link.faults ≤ mid_link.faults
    → AfterRound result c new first third link new_link out new_out
round_of (Ok told) kind k heard_k new first second third link mid_link new_link out new_out quiet c at t behind same later =
    subst (λ h. AfterRound (Ok h) c new first third link new_link out new_out) (sym behind.told_is)
    (round_by behind.ended kind k heard_k new first second third link mid_link new_link out new_out quiet c at t behind.turns same later)
round_of (Err e) kind k heard_k new first second third link mid_link new_link out new_out quiet c at t behind same later =
    round_not e kind k heard_k new first second third link mid_link new_link out new_out quiet c at t behind same

pub ends_turns : {O : Type 0} (ended : Turned) (told : Heard) (kind : Came) (quiet now : ℕ) (k new : RunnerKept)
    (second third : O → List LinkMove → Type 0) (mid_link new_link : LinkState) (out new_out : Outlets)
    → told ≡ heard_by ended kind quiet → now ≡ moment_in kind → AllTurns (Ok ended) now k new second third mid_link new_link out new_out
    → EndsTurns told kind quiet k new second third mid_link new_link out new_out
ends_turns ended told kind quiet now k new second third mid_link new_link out new_out is at turns = record {
  ended = ended;
  told_is = is;
  turns = subst (λ n. AllTurns (Ok ended) n k new second third mid_link new_link out new_out) at turns;
}

pub goes_told : (told : Heard) (P : Type 0) → P → IfGoes (Ok told) (λ quiet. P)
goes_told (heard.Goes quiet) P p = p
goes_told (heard.Ends e) P p = tt

few_unless : (last : Bool) (quiet : ℕ) → (last ≡ false → quiet < MAX_QUIET) → IfGoes (Ok (heard_unless last quiet)) (λ in_a_row. in_a_row < MAX_QUIET)
few_unless true quiet few = tt
few_unless false quiet few = few refl

below_next : (quiet : ℕ) → quiet < MAX_QUIET → (quiet + 1 == MAX_QUIET) ≡ false → quiet + 1 < MAX_QUIET
below_next quiet few other = let e = eqb-false (quiet + 1) MAX_QUIET other in omega arith

waits_few : (kind : Came) (quiet : ℕ) → quiet < MAX_QUIET → IfGoes (Ok (waits_behind kind quiet)) (λ in_a_row. in_a_row < MAX_QUIET)
waits_few (came.Bytes now) quiet few = omega arith
waits_few (came.Quiet now) quiet few = few_unless (quiet + 1 == MAX_QUIET) (quiet + 1) (below_next quiet few)
waits_few (came.Closed now) quiet few = tt

pub told_few : (told : Heard) (kind : Came) (quiet : ℕ) → told ≡ waits_behind kind quiet
    → quiet < MAX_QUIET → IfGoes (Ok told) (λ in_a_row. in_a_row < MAX_QUIET)
told_few told kind quiet is few = subst (λ h. IfGoes (Ok h) (λ in_a_row. in_a_row < MAX_QUIET)) (sym is) (waits_few kind quiet few)
