-- The turns of a call that sends one request at most, and the conversation behind them.
use Rattle.std.proofs.Common.{◌≡◌, ℕ, ◌+◌, List, [], ◌∷◌, length, drop, true, false, refl, sym, ap, ◌∙◌, subst}
use Rattle.std.specs.Prelude.{Option, Some, None, ◌==◌, ◌||◌, if◌then◌else◌}
use Rattle.ads_base.specs.declared.peer.Peer.TheVariants as peer
use Rattle.std.proofs.Math.Seq.{drop-append_seam}
use Rattle.spec_formats.specs.Request.{Request}
use Rattle.spec_client.specs.Client.{Client, next_id, request_frame, client_after_issue}
use Rattle.spec_client.specs.Hearing.{Hearing, next_hearing}
use Rattle.spec_client.specs.Stages.{BadPeer, Output, ToSend, ToPrint, ToKeep, Stage}
use Rattle.spec_client.specs.Steps.{after_heard}
use Rattle.spec_client.specs.Runner.{Runner, Send, Print, Turns, turns, given, is_over, is_not_yet, after_step, runner_after_hearing}
use Rattle.spec_client.specs.Conversation.{LinkAnswer, Bytes, Quiet, Closed, LoopEnd, CallEnded, Budget, MAX_QUIET, MAX_ANSWERS, Conversation, moment_of}
use Rattle.spec_client.specs.Conversation.{quiet_after, sent_by, end_of_stage, runner_after_answer, with_answer, conversation_after_turns}
use Rattle.spec_client.specs.Conversation.{conversation_going_on, conversation_after, unless_ended, ended_by, end_by_answer}
use Rattle.spec_client.proofs.TurnsUnfolded.{at}
use Rattle.spec_cutting.proofs.FedTurns.{turns_given, turns_over, turns_wait, turns_hear}
use Rattle.spec_local.proofs.Scenes.{going_on}

given_stage : (now : ℕ) (o : Output) (r : Runner) → (given now o r).runner.stage ≡ r.stage
unfolding given
given_stage now (ToSend request) r = refl
given_stage now (ToPrint text) r = refl
given_stage now (ToKeep row) r = refl

given_rest : (now : ℕ) (o : Output) (r : Runner) → (given now o r).runner.pending ≡ r.pending
unfolding given
given_rest now (ToSend request) r = refl
given_rest now (ToPrint text) r = refl
given_rest now (ToKeep row) r = refl

-- a runner by its parts
runner_is : (r : Runner) (stage : Stage) (os : List Output) → r.stage ≡ stage → r.pending ≡ os → r ≡ at r.client stage os
runner_is r stage os same rest = rw (sym same, sym rest) refl

-- a call that is over stays so, whatever it still gives
pub over_stays_over : (now : ℕ) (c : Client) (stage : Stage) (os : List Output) → is_over stage ≡ true → (turns now (at c stage os)).runner.stage ≡ stage
over_stays_over now c stage [] over = ap (λ (ts : Turns). ts.runner.stage) (turns_over now c stage over)
over_stays_over now c stage (o ∷ os) over =
    let t = given now o (at c stage os) in
    let r : t.runner ≡ at t.runner.client stage os = runner_is t.runner stage os (given_stage now o (at c stage os)) (given_rest now o (at c stage os)) in
    ap (λ (ts : Turns). ts.runner.stage) (turns_given now c stage o os)
    ∙ ap (λ (s : Runner). (turns now s).runner.stage) r ∙ over_stays_over now t.runner.client stage os over

-- a request is sent, and then it waits
pub sends_one : (now : ℕ) (c : Client) (stage : Stage) (r : Request) → is_over stage ≡ false
    → is_not_yet (next_hearing (client_after_issue c r now)).heard ≡ true
    → turns now (at c stage (ToSend r ∷ [])) ≡ record { steps = Send (request_frame c (next_id c) r) ∷ []; runner = at (client_after_issue c r now) stage [] }
unfolding given
sends_one now c stage r on waits =
    turns_given now c stage (ToSend r) [] ∙ ap (after_step (given now (ToSend r) (at c stage []))) (turns_wait now (client_after_issue c r now) stage on waits)

-- a text is printed, and then it waits
pub prints_one : (now : ℕ) (c : Client) (stage : Stage) (text : List ℕ) → is_over stage ≡ false → is_not_yet (next_hearing c).heard ≡ true
    → turns now (at c stage (ToPrint text ∷ [])) ≡ record { steps = Print text ∷ []; runner = at c stage [] }
unfolding given
prints_one now c stage text on waits =
    turns_given now c stage (ToPrint text) [] ∙ ap (after_step (given now (ToPrint text) (at c stage []))) (turns_wait now c stage on waits)

-- a text is printed, a request is sent, and then it waits
pub prints_and_sends : (now : ℕ) (c : Client) (stage : Stage) (text : List ℕ) (r : Request)
    → is_over stage ≡ false → is_not_yet (next_hearing (client_after_issue c r now)).heard ≡ true
    → turns now (at c stage (ToPrint text ∷ ToSend r ∷ []))
    ≡ record { steps = Print text ∷ Send (request_frame c (next_id c) r) ∷ []; runner = at (client_after_issue c r now) stage [] }
unfolding given
prints_and_sends now c stage text r on waits =
    turns_given now c stage (ToPrint text) (ToSend r ∷ [])
    ∙ ap (after_step (given now (ToPrint text) (at c stage (ToSend r ∷ [])))) (sends_one now c stage r on waits)

-- what is heard is taken in
pub hears_so : (now : ℕ) (c d : Client) (stage : Stage) (x : Hearing) → is_over stage ≡ false → next_hearing c ≡ x → is_not_yet x.heard ≡ false → x.client ≡ d
    → turns now (at c stage []) ≡ turns now (at d (after_heard stage x.heard).stage (after_heard stage x.heard).outputs)
unfolding runner_after_hearing
hears_so now c d stage x on is some client =
    turns_hear now c stage on (ap (λ (y : Hearing). is_not_yet y.heard) is ∙ some)
    ∙ ap (λ (y : Hearing). turns now (runner_after_hearing stage y)) is
    ∙ ap (λ (e : Client). turns now (at e (after_heard stage x.heard).stage (after_heard stage x.heard).outputs)) client

-- an end by the turns, or by the answer
abbrev pub end_so : Option LoopEnd → ℕ → ℕ → LinkAnswer → Option LoopEnd
end_so (Some end) quiet answers a = Some end
end_so None quiet answers (Closed now) = Some (CallEnded (BadPeer peer.Closed))
end_so None quiet answers a = if (quiet == MAX_QUIET) || (answers == MAX_ANSWERS + 1) then Some Budget else None

-- a conversation behind an answer whose turns are these
pub record IsBehind (c : Conversation) (a : LinkAnswer) (ts : Turns) (d : Conversation) : Type 0 where
  pub runner : d.runner ≡ ts.runner
  pub answers : d.answers ≡ c.answers + 1
  pub quiet : d.quiet ≡ quiet_after c.quiet a
  pub sent : drop (length c.sent) d.sent ≡ sent_by (c.answers + 1) ts.steps
  pub end : d.end ≡ end_so (end_of_stage ts.runner.stage) (quiet_after c.quiet a) (c.answers + 1) a

ended_so : (c : Conversation) (ts : Turns) (a : LinkAnswer)
    → end_by_answer (conversation_after_turns (with_answer c a) ts) a ≡ end_so None (quiet_after c.quiet a) (c.answers + 1) a
unfolding conversation_after_turns
ended_so c ts (Bytes bytes now) = refl
ended_so c ts (Quiet now) = refl
ended_so c ts (Closed now) = refl

behind_so : (c : Conversation) (a : LinkAnswer) (ts : Turns) (o : Option LoopEnd) → end_of_stage ts.runner.stage ≡ o
    → IsBehind c a ts (unless_ended (conversation_after_turns (with_answer c a) ts) a o)
unfolding conversation_after_turns
behind_so c a ts None is = record {
  runner = refl;
  answers = refl;
  quiet = refl;
  sent = drop-append_seam c.sent (sent_by (c.answers + 1) ts.steps);
  end = ended_so c ts a ∙ ap (λ o. end_so o (quiet_after c.quiet a) (c.answers + 1) a) (sym is);
}
behind_so c a ts (Some e) is = record {
  runner = refl;
  answers = refl;
  quiet = refl;
  sent = drop-append_seam c.sent (sent_by (c.answers + 1) ts.steps);
  end = is ∙ ap (λ o. end_so o (quiet_after c.quiet a) (c.answers + 1) a) (sym is);
}

goes_so : (c : Conversation) (a : LinkAnswer) (ts : Turns)
    → turns (moment_of a) (runner_after_answer c.runner a) ≡ ts → IsBehind c a ts (conversation_going_on c a)
unfolding conversation_going_on conversation_after_turns
goes_so c a ts is =
    subst (λ (u : Turns). IsBehind c a ts (ended_by a (conversation_after_turns (with_answer c a) u)))
    (sym is) (behind_so c a ts (end_of_stage ts.runner.stage) refl)

pub is_behind : (c : Conversation) (a : LinkAnswer) (ts : Turns) → c.end ≡ None
    → turns (moment_of a) (runner_after_answer c.runner a) ≡ ts → IsBehind c a ts (conversation_after c a)
is_behind c a ts on is = subst (IsBehind c a ts) (sym (going_on c a on)) (goes_so c a ts is)
