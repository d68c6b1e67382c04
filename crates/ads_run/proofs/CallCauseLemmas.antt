-- What the end of a client's call says of its cause.
use Rattle.std.proofs.Common.{◌≡◌, ◌≤◌, Some, inl, inr, subst, sym, ◌∙◌, refl}
use Rattle.std.specs.Prelude.{◌⊎◌, Bool, Result, Ok, Err}
use Rattle.ads_base.specs.declared.no_memory.NoMemory.{NoMemory}
use Rattle.ads_outside.specs.LinkState.{LinkState}
use Rattle.ads_outside.specs.Rose.{Rose}
use Rattle.ads_outside.specs.SinkState.{SinkState}
use Rattle.spec_client.specs.Conversation.{LoopEnd, CallEnded, Budget}
use Rattle.spec_client.specs.Stages.{CallEnd, Done, Refused, BadPeer, BadValue, TimedOut}
use Rattle.spec_local_room.specs.Laws.{is_setting, IsAnswered}
use Rattle.client_loop.specs.Called.{Calling, AfterCall, Talks}
use Rattle.client_loop.specs.declared.loop_end.LoopEnd as loop
use Rattle.client_loop.specs.declared.loop_end.LoopEnd.TheVariants as end
use Rattle.client_replies.specs.Stages.{end_meant}
use Rattle.run_tasks.specs.declared.status.Status.{Status}
use Rattle.run_tasks.specs.declared.status.Status.TheVariants as status
use Rattle.run_tasks.specs.Asking.{LocalCalling}
use Rattle.client_commands.specs.Calling.{EndsCall, AfterLocal, EndsLocalCall, LocalTalks, PrintsAnswer, status_of_call, status_of_loop}
use Rattle.ads_run.proofs.Causes.{CauseOfCall, IsEndOfCall, IsEndOfLocal, IsLocalEnd}
use Rattle.run_tasks.specs.Ending.{Ending, line_alone}
use Rattle.run_tasks.specs.Prints.{PrintsEnding}
use Rattle.client_commands.specs.CallUses.{LinkUse}
use Rattle.run_tasks.proofs.ReadingLemmas.{rose_from}

-- what the end of a call says, whose causes are these
pub record CallFacts (C : Status → Type 0) (s : Status) (out out_new : SinkState) : Type 0 where
  pub cause : C s
  pub write_fault : s ≡ status.WriteFault → Rose out.faults out_new.faults
  pub usage : s ≡ status.Usage → ⊥

-- of one that wanted memory
pub wanting_facts : (C : Status → Type 0) (s : Status) (out out_new : SinkState) → C status.Memory → s ≡ status.Memory → CallFacts C s out out_new
wanting_facts C s out out_new memory is = record {
  cause = subst C (sym is) memory;
  write_fault = λ e. let other : status.Memory ≡ status.WriteFault = sym is ∙ e in cc;
  usage = λ e. let other : status.Memory ≡ status.Usage = sym is ∙ e in cc;
}

-- of one that was to end so
pub ending_told : (C : Status → Type 0) (e : Ending) (s : Status) (out between out_new : SinkState) → C e.status → C status.WriteFault → C status.Memory
    → (e.status ≡ status.WriteFault → ⊥) → (e.status ≡ status.Usage → ⊥) → out.faults ≤ between.faults → PrintsEnding e s between out_new
    → CallFacts C s out out_new
ending_told C e s out between out_new cause writing memory no_fault no_usage later (inl h) = record {
  cause = subst C (sym h.0) cause;
  write_fault = λ is. absurd (no_fault (sym h.0 ∙ is));
  usage = λ is. no_usage (sym h.0 ∙ is);
}
ending_told C e s out between out_new cause writing memory no_fault no_usage later (inr (inl h)) = record {
  cause = subst C (sym h.0) writing;
  write_fault = λ is. rose_from out.faults between.faults out_new.faults later h.1.1;
  usage = λ is. let other : status.WriteFault ≡ status.Usage = sym h.0 ∙ is in cc;
}
ending_told C e s out between out_new cause writing memory no_fault no_usage later (inr (inr h)) = wanting_facts C s out out_new memory h.0

pub told_facts : (C : Status → Type 0) (st s : Status) (out between out_new : SinkState) → C st → C status.WriteFault → C status.Memory
    → (st ≡ status.WriteFault → ⊥) → (st ≡ status.Usage → ⊥) → out.faults ≤ between.faults → PrintsEnding (line_alone st) s between out_new
    → CallFacts C s out out_new
told_facts C st s out between out_new cause writing memory no_fault no_usage later printed =
    ending_told C (line_alone st) s out between out_new cause writing memory no_fault no_usage later printed

-- of one whose text could not be written
pub unwritten_facts : (C : Status → Type 0) (s : Status) (out between out_new : SinkState) → C status.WriteFault → s ≡ status.WriteFault → out_new ≡ between
    → Rose out.faults between.faults → CallFacts C s out out_new
unwritten_facts C s out between out_new writing is same rose = record {
  cause = subst C (sym is) writing;
  write_fault = λ e. let P : SinkState → Type 0 = λ x. Rose out.faults x.faults in subst P (sym same) rose;
  usage = λ e. let other : status.WriteFault ≡ status.Usage = sym is ∙ e in cc;
}

-- the status of a call is neither
pub no_writing : (e : CallEnd) → status_of_call e ≡ status.WriteFault → ⊥
no_writing Done h = cc
no_writing (Refused code) h = cc
no_writing (BadPeer peer) h = cc
no_writing BadValue h = cc
no_writing (TimedOut sent now) h = cc

pub no_usage : (e : CallEnd) → status_of_call e ≡ status.Usage → ⊥
no_usage Done h = cc
no_usage (Refused code) h = cc
no_usage (BadPeer peer) h = cc
no_usage BadValue h = cc
no_usage (TimedOut sent now) h = cc

-- a call over a link
cause_of_end : (x : Calling) (e : CallEnd) (lo ln : LinkState) → IsEndOfCall x (status_of_call e) ln → CauseOfCall x (status_of_call e) lo ln
cause_of_end x Done lo ln h = h
cause_of_end x (Refused code) lo ln h = h
cause_of_end x (BadPeer peer) lo ln h = h
cause_of_end x BadValue lo ln h = h
cause_of_end x (TimedOut sent now) lo ln h = h

end_of : {O : Type 0} (x : Calling) (e : LoopEnd) (s : Status) (link : LinkUse O) (out out_new : SinkState)
    → Talks x (Some e) link.told link.tells link.new out out_new
    → s ≡ status_of_loop e → IsEndOfCall x s link.new
end_of x e s link out out_new talks is = record {
  moment = talks.moment;
  answers = talks.answers;
  history = talks.history;
  ended = e;
  end_is = talks.end_is;
  status = is;
}

facts_at : {O : Type 0} (x : Calling) (answer : Result loop.LoopEnd NoMemory) (s : Status) (out between out_new : SinkState) (link : LinkUse O)
    → AfterCall answer x link.told link.tells link.old link.new out between → out.faults ≤ between.faults → PrintsAnswer answer s between out_new
    → CallFacts (λ t. CauseOfCall x t link.old link.new) s out out_new
facts_at x (Ok (end.Call e)) s out between out_new link called later printed =
    told_facts (λ t. CauseOfCall x t link.old link.new) (status_of_call (end_meant e)) s out between out_new
    (cause_of_end x (end_meant e) link.old link.new (end_of x (CallEnded (end_meant e)) (status_of_call (end_meant e)) link out between called refl))
    tt tt (no_writing (end_meant e)) (no_usage (end_meant e)) later printed
facts_at x (Ok end.Budget) s out between out_new link called later printed =
    told_facts (λ t. CauseOfCall x t link.old link.new) status.Budget s out between out_new
    (end_of x Budget status.Budget link out between called refl) tt tt (λ e. (cc)) (λ e. (cc)) later printed
facts_at x (Ok end.LinkFault) s out between out_new link called later printed =
    told_facts (λ t. CauseOfCall x t link.old link.new) status.LinkFault s out between out_new called.0 tt tt (λ e. (cc)) (λ e. (cc)) later printed
facts_at x (Ok end.WriteFault) s out between out_new link called later printed =
    unwritten_facts (λ t. CauseOfCall x t link.old link.new) s out between out_new tt printed.0 printed.1 called.0
facts_at x (Err e) s out between out_new link called later printed =
    wanting_facts (λ t. CauseOfCall x t link.old link.new) s out out_new tt printed.0

pub call_facts : {O : Type 0} (x : Calling) (s : Status) (out out_new : SinkState) (link : LinkUse O) → EndsCall x s out out_new link
    → CallFacts (λ t. CauseOfCall x t link.old link.new) s out out_new
call_facts x s out out_new link h = facts_at x h.answer s out h.between out_new link h.called h.later.faults h.prints

-- a call in the same process
local_cause : (sets : Bool) (e : CallEnd) → IsAnswered sets (CallEnded e) → IsLocalEnd sets (status_of_call e)
local_cause sets Done h = tt
local_cause sets (Refused code) h = tt
local_cause sets (BadPeer peer) h = tt
local_cause sets BadValue h = h
local_cause sets (TimedOut sent now) h = h

local_at : (x : LocalCalling) (answer : Result loop.LoopEnd NoMemory) (s : Status) (out between out_new : SinkState) → AfterLocal answer x out between
    → out.faults ≤ between.faults → PrintsAnswer answer s between out_new → CallFacts (IsLocalEnd (is_setting x.call)) s out out_new
local_at x (Ok (end.Call e)) s out between out_new called later printed =
    told_facts (IsLocalEnd (is_setting x.call)) (status_of_call (end_meant e)) s out between out_new
    (local_cause (is_setting x.call) (end_meant e) called.answered) tt tt (no_writing (end_meant e)) (no_usage (end_meant e)) later printed
local_at x (Ok end.Budget) s out between out_new called later printed =
    told_facts (IsLocalEnd (is_setting x.call)) status.Budget s out between out_new tt tt tt (λ e. (cc)) (λ e. (cc)) later printed
local_at x (Ok end.LinkFault) s out between out_new called later printed = absurd called
local_at x (Ok end.WriteFault) s out between out_new called later printed =
    unwritten_facts (IsLocalEnd (is_setting x.call)) s out between out_new tt printed.0 printed.1 called.0
local_at x (Err e) s out between out_new called later printed = wanting_facts (IsLocalEnd (is_setting x.call)) s out out_new tt printed.0

pub local_facts : (x : LocalCalling) (s : Status) (out out_new : SinkState) → EndsLocalCall x s out out_new
    → CallFacts (IsLocalEnd (is_setting x.call)) s out out_new
local_facts x s out out_new h = local_at x h.answer s out h.between out_new h.called h.later.faults h.prints

-- where nothing failed, a call ends as its conversation, or memory was wanting
pub told_own : (Q : Type 0) (st s : Status) (out between out_new : SinkState)
    → (s ≡ st → Q) → out.faults ≤ between.faults → (Rose out.faults out_new.faults → ⊥)
    → PrintsEnding (line_alone st) s between out_new → Q ⊎ (s ≡ status.Memory)
told_own Q st s out between out_new own later no_fault (inl h) = inl (own h.0)
told_own Q st s out between out_new own later no_fault (inr (inl h)) = absurd (no_fault (rose_from out.faults between.faults out_new.faults later h.1.1))
told_own Q st s out between out_new own later no_fault (inr (inr h)) = inr h.0

pub not_unwritten : (Q : Type 0) (out between out_new : SinkState)
    → (Rose out.faults out_new.faults → ⊥) → out_new ≡ between → Rose out.faults between.faults → Q
not_unwritten Q out between out_new no_fault same rose =
    let P : SinkState → Type 0 = λ x. Rose out.faults x.faults in absurd (no_fault (subst P (sym same) rose))

own_at : {O : Type 0} (x : Calling) (answer : Result loop.LoopEnd NoMemory) (s : Status) (out between out_new : SinkState) (link : LinkUse O)
    → (Rose out.faults out_new.faults → ⊥) → (Rose link.old.faults link.new.faults → ⊥)
    → AfterCall answer x link.told link.tells link.old link.new out between → out.faults ≤ between.faults → PrintsAnswer answer s between out_new
    → IsEndOfCall x s link.new ⊎ (s ≡ status.Memory)
own_at x (Ok (end.Call e)) s out between out_new link no_fault no_loss called later printed =
    told_own (IsEndOfCall x s link.new) (status_of_call (end_meant e)) s out between out_new
    (λ is. end_of x (CallEnded (end_meant e)) s link out between called is) later no_fault printed
own_at x (Ok end.Budget) s out between out_new link no_fault no_loss called later printed =
    told_own (IsEndOfCall x s link.new) status.Budget s out between out_new (λ is. end_of x Budget s link out between called is) later no_fault printed
own_at x (Ok end.LinkFault) s out between out_new link no_fault no_loss called later printed = absurd (no_loss called.0)
own_at x (Ok end.WriteFault) s out between out_new link no_fault no_loss called later printed = not_unwritten _ out between out_new no_fault printed.1
    called.0
own_at x (Err e) s out between out_new link no_fault no_loss called later printed = inr printed.0

pub own_call : {O : Type 0} (x : Calling) (s : Status) (out out_new : SinkState) (link : LinkUse O) → (Rose out.faults out_new.faults → ⊥)
    → (Rose link.old.faults link.new.faults → ⊥) → EndsCall x s out out_new link → IsEndOfCall x s link.new ⊎ (s ≡ status.Memory)
own_call x s out out_new link no_fault no_loss h = own_at x h.answer s out h.between out_new link no_fault no_loss h.called h.later.faults h.prints

local_end : (x : LocalCalling) (e : LoopEnd) (s : Status) (out out_new : SinkState) → LocalTalks x e out out_new → s ≡ status_of_loop e → IsEndOfLocal x s
local_end x e s out out_new talks is = record { ended = e; end_is = talks.end_is; answered = talks.answered; status = is }

own_local_at : (x : LocalCalling) (answer : Result loop.LoopEnd NoMemory) (s : Status) (out between out_new : SinkState)
    → (Rose out.faults out_new.faults → ⊥)
    → AfterLocal answer x out between → out.faults ≤ between.faults → PrintsAnswer answer s between out_new → IsEndOfLocal x s ⊎ (s ≡ status.Memory)
own_local_at x (Ok (end.Call e)) s out between out_new no_fault called later printed =
    told_own (IsEndOfLocal x s) (status_of_call (end_meant e)) s out between out_new (λ is. local_end x (CallEnded (end_meant e)) s out between called is)
    later no_fault printed
own_local_at x (Ok end.Budget) s out between out_new no_fault called later printed =
    told_own (IsEndOfLocal x s) status.Budget s out between out_new (λ is. local_end x Budget s out between called is) later no_fault printed
own_local_at x (Ok end.LinkFault) s out between out_new no_fault called later printed = absurd called
own_local_at x (Ok end.WriteFault) s out between out_new no_fault called later printed = not_unwritten _ out between out_new no_fault printed.1 called.0
own_local_at x (Err e) s out between out_new no_fault called later printed = inr printed.0

pub own_local : (x : LocalCalling) (s : Status) (out out_new : SinkState) → (Rose out.faults out_new.faults → ⊥) → EndsLocalCall x s out out_new
    → IsEndOfLocal x s ⊎ (s ≡ status.Memory)
own_local x s out out_new no_fault h = own_local_at x h.answer s out h.between out_new no_fault h.called h.later.faults h.prints
