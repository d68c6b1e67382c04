-- What the end of a client's call says of its cause.
use Rattle.std.proofs.Common.{◌≡◌, ℕ, List, inl, inr, subst, ap, ◌∙◌}
use Rattle.std.specs.Prelude.{Result, Ok, Err}
use Rattle.ads_base.specs.declared.no_memory.NoMemory.{NoMemory}
use Rattle.ads_outside.specs.declared.link_move.LinkMove.{LinkMove}
use Rattle.ads_outside.specs.LinkState.{LinkState}
use Rattle.ads_outside.specs.SinkState.{SinkState, NeverFalls}
use Rattle.spec_client.specs.Stages.{CallEnd, Done, Refused, BadPeer, BadValue, TimedOut}
use Rattle.spec_formats.specs.Header.{AmsAddress}
use Rattle.spec_client.specs.Calls.{Call}
use Rattle.client_loop.specs.Called.{Calling, calling, AfterCall}
use Rattle.client_loop.specs.declared.loop_end.LoopEnd as loop
use Rattle.client_loop.specs.declared.loop_end.LoopEnd.TheVariants as end
use Rattle.client_replies.specs.Stages.{end_meant}
use Rattle.run_tasks.specs.declared.status.Status.{Status}
use Rattle.run_tasks.specs.declared.status.Status.TheVariants as status
use Rattle.client_commands.specs.Calling.{EndsCall, PrintsAnswer, status_of_call}
use Rattle.run_tasks.specs.BeforeRun.{IsBeforeRun}
use Rattle.run_tasks.specs.Ending.{line_alone}
use Rattle.run_tasks.specs.Prints.{PrintsEnding}
use Rattle.client_commands.specs.CallUses.{LinkUse, used}

-- the call that was made is the one that was asked for
pub same_calling : (a b c d : AmsAddress) (m n : Call) (s t : List ℕ) → a ≡ b → c ≡ d → m ≡ n → s ≡ t → calling a c m s ≡ calling b d n t
same_calling a b c d m n s t p q r e =
    ap (λ z. calling z c m s) p ∙ (ap (λ z. calling b z m s) q ∙ (ap (λ z. calling b d z s) r ∙ ap (λ z. calling b d n z) e))

pub call_ends : {O : Type 0} (x y : Calling) (answer : Result loop.LoopEnd NoMemory) (s : Status) (out between out_new : SinkState)
    (told tells : O → List LinkMove → Type 0) (old new : LinkState) → y ≡ x → AfterCall answer y told tells old new out between → NeverFalls out between
    → PrintsAnswer answer s between out_new → EndsCall x s out out_new (used told tells old new)
call_ends x y answer s out between out_new told tells old new same called later printed = record {
  answer = answer;
  between = between;
  called = subst (λ z. AfterCall answer z told tells old new out between) same called;
  later = later;
  prints = printed;
}

-- a call that was made is not ended by words, files, a description or a script
pub not_before : (st s : Status) (old new : SinkState) → (IsBeforeRun st → ⊥) → PrintsEnding (line_alone st) s old new → IsBeforeRun s → ⊥
not_before st s old new never (inl h) is = never (subst IsBeforeRun h.0 is)
not_before st s old new never (inr (inl h)) is = subst IsBeforeRun h.0 is
not_before st s old new never (inr (inr h)) is = subst IsBeforeRun h.0 is

pub no_call_before : (e : CallEnd) → IsBeforeRun (status_of_call e) → ⊥
no_call_before Done h = h
no_call_before (Refused code) h = h
no_call_before (BadPeer peer) h = h
no_call_before BadValue h = h
no_call_before (TimedOut sent now) h = h

pub answer_not_before : (answer : Result loop.LoopEnd NoMemory) (s : Status) (old new : SinkState) → PrintsAnswer answer s old new → IsBeforeRun s → ⊥
answer_not_before (Ok (end.Call e)) s old new printed is = not_before (status_of_call (end_meant e)) s old new (no_call_before (end_meant e)) printed is
answer_not_before (Ok end.Budget) s old new printed is = not_before status.Budget s old new (λ h. h) printed is
answer_not_before (Ok end.LinkFault) s old new printed is = not_before status.LinkFault s old new (λ h. h) printed is
answer_not_before (Ok end.WriteFault) s old new printed is = subst IsBeforeRun printed.0 is
answer_not_before (Err e) s old new printed is = subst IsBeforeRun printed.0 is

pub call_not_before : {O : Type 0} (x : Calling) (s : Status) (out out_new : SinkState) (link : LinkUse O) → EndsCall x s out out_new link → IsBeforeRun s → ⊥
call_not_before x s out out_new link h is = answer_not_before h.answer s h.between out_new h.prints is
