-- What a call over a link leaves in the link and in the sink.
use Rattle.std.specs.Prelude.{◌≡◌, ◌⊎◌, ℕ, List, [], ◌∷◌, ◌++◌, Bool, true, false, Option, Some, None, Result, Ok, Err}
use Rattle.ads_base.specs.declared.no_memory.NoMemory.{NoMemory}
use Rattle.ads_outside.specs.declared.connected.Connected.{Connected}
use Rattle.ads_outside.specs.declared.connected.Connected.TheVariants as connected
use Rattle.ads_outside.specs.declared.link_move.LinkMove.{LinkMove}
use Rattle.ads_outside.specs.LinkAnswers.{log_after_connect}
use Rattle.ads_outside.specs.LinkState.{LinkState}
use Rattle.ads_outside.specs.Puts.{Appends}
use Rattle.ads_outside.specs.Rose.{Rose}
use Rattle.ads_outside.specs.SinkState.{SinkState}
use Rattle.spec_client.specs.CallOver.{call_over}
pub use Rattle.spec_client.specs.CallOver.{Calling, calling}
use Rattle.spec_client.specs.Conversation as conversation
use Rattle.spec_client.specs.Conversation.{LinkAnswer, Conversation, conversation_begun, conversation_after}
use Rattle.spec_client.specs.Runner.{CallStep}
use Rattle.spec_client.specs.CallLog.{call_log, call_log_up_to, call_sent_last}
use Rattle.client_replies.specs.Stages.{end_meant}
use Rattle.client_loop.specs.declared.loop_end.LoopEnd.{LoopEnd}
use Rattle.client_loop.specs.declared.loop_end.LoopEnd.TheVariants as end
use Rattle.client_loop.specs.Due.{AtSend, AtPrint, Anywhere, StopsAt, call_steps_last, call_text_up_to}
use Rattle.client_loop.specs.LinkAfter.{history_over, history_left}
use Rattle.client_loop.specs.Said.{SentSome}

-- the call over a link that was connected at a moment and gave these answers
abbrev pub over : Calling → ℕ → List LinkAnswer → Conversation
over x moment answers = call_over x.me x.peer x.call moment answers

-- each of these answers came to a conversation that went on
abbrev pub AreAwaited : Conversation → List LinkAnswer → Type 0
AreAwaited c [] = Unit {0}
AreAwaited c (answer ∷ answers) = (c.end ≡ None) × AreAwaited (conversation_after c answer) answers

-- a link that could tell a log before tells it with all moves of the call behind it
abbrev pub LogsAll : {O : Type 0} → Calling → ℕ → List LinkAnswer → (O → List LinkMove → Type 0)
    → (O → List LinkMove → Type 0) → Type 0
LogsAll {O} x moment answers old_tells new_tells = (o : O) (log : List LinkMove) → old_tells o log
    → new_tells o (log ++ call_log x.me x.peer x.call x.to moment answers)

-- it tells it with all of them up to the last answer, and some of what the call sends behind that
abbrev pub LogsSome : {O : Type 0} → Calling → ℕ → List LinkAnswer → (O → List LinkMove → Type 0)
    → (O → List LinkMove → Type 0) → Type 0
LogsSome {O} x moment answers old_tells new_tells = (o : O) (log : List LinkMove) → old_tells o log
    → SentSome (call_sent_last x.me x.peer x.call moment answers) new_tells o
    (log ++ call_log_up_to x.me x.peer x.call x.to moment answers)

-- The link was connected at a moment and gave some answers, each to a call that went on. The call over them ended so; or it goes on,
-- and to receive failed behind them. All that it sent was sent, and all its text was put.
pub record Talks {O : Type 0} (x : Calling) (ended : Option conversation.LoopEnd)
    (old_tells new_tells : O → List LinkMove → Type 0) (new : LinkState) (out out_new : SinkState) : Type 0 where
  pub moment : ℕ
  pub answers : List LinkAnswer
  pub history : new.history ≡ history_left ended (history_over moment answers)
  pub awaited : AreAwaited (conversation_begun x.me x.peer x.call moment) answers
  pub end_is : (over x moment answers).end ≡ ended
  pub text : Appends out.held out_new.held (over x moment answers).text
  pub told : LogsAll x moment answers old_tells new_tells

-- The same of a call that broke off behind these answers, at a step of those that it gives behind the last of them: all its text before that
-- step was put, also where a step that sends could not be given. Of what it sends behind the last answer some was sent.
pub record BreaksOff {O : Type 0} (IsStop : List CallStep → Type 0) (x : Calling) (old_tells new_tells : O → List LinkMove → Type 0)
    (new : LinkState) (out out_new : SinkState) : Type 0 where
  pub moment : ℕ
  pub answers : List LinkAnswer
  pub history : new.history ≡ history_over moment answers
  pub awaited : AreAwaited (conversation_begun x.me x.peer x.call moment) answers
  pub text : StopsAt IsStop (call_text_up_to x.me x.peer x.call moment answers) (call_steps_last x.me x.peer x.call moment answers)
      out.held out_new.held
  pub told : LogsSome x moment answers old_tells new_tells

-- The link was not connected: nothing was sent, and nothing put.
pub record NeverBegins {O : Type 0} (x : Calling) (answer : Connected)
    (old_tells new_tells : O → List LinkMove → Type 0) (old new : LinkState) (out out_new : SinkState) : Type 0 where
  pub same : new.history ≡ old.history
  pub silent : out_new ≡ out
  pub told : (o : O) (log : List LinkMove) → old_tells o log → new_tells o (log_after_connect answer x.to log)

-- What a link leaves that was connected and failed. Where its history says that to receive failed, nothing is lost: all was heard, sent and put
-- up to that. Else to send failed: all text that comes before what was to be sent was put.
abbrev pub IfBroken : Bool → (receiving : Type 0) → (sending : Type 0) → Type 0
IfBroken true receiving sending = receiving
IfBroken false receiving sending = sending

-- What a call leaves, by how it ended. Want of memory may come at each call, also behind a text that was put whole.
abbrev pub AfterCall : {O : Type 0} → Result LoopEnd NoMemory → Calling → (O → List LinkMove → Type 0)
    → (O → List LinkMove → Type 0) → LinkState → LinkState → SinkState → SinkState → Type 0
AfterCall (Ok (end.Call e)) x old_tells new_tells old new out out_new =
    Talks x (Some (conversation.CallEnded (end_meant e))) old_tells new_tells new out out_new
AfterCall (Ok end.Budget) x old_tells new_tells old new out out_new =
    Talks x (Some conversation.Budget) old_tells new_tells new out out_new
AfterCall (Ok end.LinkFault) x old_tells new_tells old new out out_new =
    Rose old.faults new.faults
    × (NeverBegins x connected.Failed old_tells new_tells old new out out_new
    ⊎ IfBroken new.history.broken (Talks x None old_tells new_tells new out out_new) (BreaksOff AtSend x old_tells new_tells new out out_new))
AfterCall (Ok end.WriteFault) x old_tells new_tells old new out out_new =
    Rose out.faults out_new.faults × BreaksOff AtPrint x old_tells new_tells new out out_new
AfterCall (Err e) x old_tells new_tells old new out out_new =
    NeverBegins x connected.Memory old_tells new_tells old new out out_new
    ⊎ BreaksOff Anywhere x old_tells new_tells new out out_new
