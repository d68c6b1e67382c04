-- What follows a recording's conversation: its lines, where it is done.
use Rattle.std.proofs.Common.{◌≡◌, List, Option, Some, sym, ◌∙◌, subst, inl, inr}
use Rattle.std.specs.Prelude.{Result, Ok, Err}
use Rattle.ads_base.specs.declared.no_memory.NoMemory.{NoMemory}
use Rattle.ads_outside.specs.declared.link_move.LinkMove.{LinkMove}
use Rattle.ads_outside.specs.LinkState.{LinkState}
use Rattle.ads_outside.specs.Puts.{Appends}
use Rattle.ads_outside.specs.SinkState.{SinkState}
use Rattle.spec_client.specs.CallOver.{conversation_after_all}
use Rattle.spec_client.specs.Conversation as conversation
use Rattle.spec_client.specs.Conversation.{Conversation}
use Rattle.spec_client.specs.Runner.{CallStep}
use Rattle.spec_client.specs.Stages.{Done, entries_taken}
use Rattle.client_replies.specs.declared.stage.CallEnd.TheVariants as call_end
use Rattle.client_calls.specs.Kept.{RunnerKept}
use Rattle.client_loop.specs.declared.loop_end.LoopEnd.TheVariants as end
use Rattle.client_loop.specs.declared.record_end.RecordEnd.{RecordEnd}
use Rattle.client_loop.specs.declared.record_end.RecordEnd.TheVariants as record_end
use Rattle.client_loop.specs.Hearing.{IsWhole, EndsFrom, none_of}
use Rattle.client_loop.specs.Lines.{AfterLines, EndsRecord, Finishes}
use Rattle.client_loop.specs.Outlets.{Outlets, IsLater}
use Rattle.client_loop.proofs.TurnLemmas.{rose_later}

-- nothing was put behind it
whole_still : {O : Type 0} (c : Conversation) (k : RunnerKept) (ended : Option conversation.LoopEnd)
    (first second : O → List LinkMove → Type 0) (link new_link : LinkState) (out mid new_out : Outlets)
    → new_out.sink ≡ mid.sink → new_out.keeper.rows ≡ mid.keeper.rows → IsWhole (none_of c) c k ended first second link new_link out mid
    → IsWhole (none_of c) c k ended first second link new_link out new_out
whole_still c k ended first second link new_link out mid new_out same rows w = record {
  answers = w.answers;
  history = w.history;
  awaited = w.awaited;
  end_is = w.end_is;
  entries = w.entries;
  text = λ base before.
      subst (λ (s : SinkState). Appends base s.held (conversation_after_all c w.answers).text) (sym same) (w.text base before);
  rows = λ base before. rows ∙ w.rows base before;
  told = w.told;
}

-- its conversation is done, and its lines follow
pub lines_behind : {O : Type 0} (result : Result RecordEnd NoMemory) (steps : List CallStep) (c : Conversation) (k : RunnerKept)
    (first second : O → List LinkMove → Type 0) (link new_link : LinkState) (out mid new_out : Outlets)
    → IsLater out mid → IsWhole (none_of c) c k (Some (conversation.CallEnded Done)) first second link new_link out mid
    → AfterLines result (entries_taken k.stage) mid new_out → EndsRecord result steps c first second link new_link out new_out
lines_behind (Ok (record_end.Loop (end.Call call_end.Done))) steps c k first second link new_link out mid new_out later w lines =
    record { kept = k; mid = mid; whole = w; lines = lines }
lines_behind (Ok (record_end.Loop (end.Call (call_end.Refused code)))) steps c k first second link new_link out mid new_out later w lines = absurd lines
lines_behind (Ok (record_end.Loop (end.Call (call_end.BadPeer p)))) steps c k first second link new_link out mid new_out later w lines = absurd lines
lines_behind (Ok (record_end.Loop (end.Call call_end.BadValue))) steps c k first second link new_link out mid new_out later w lines = absurd lines
lines_behind (Ok (record_end.Loop (end.Call (call_end.TimedOut sent now)))) steps c k first second link new_link out mid new_out later w lines = absurd lines
lines_behind (Ok (record_end.Loop end.LinkFault)) steps c k first second link new_link out mid new_out later w lines = absurd lines
lines_behind (Ok (record_end.Loop end.Budget)) steps c k first second link new_link out mid new_out later w lines = absurd lines
lines_behind (Ok (record_end.Loop end.WriteFault)) steps c k first second link new_link out mid new_out later w lines = (
  rose_later out.sink.faults mid.sink.faults new_out.sink.faults later.sink.faults lines.0,
  inr (record { kept = k; mid = mid; whole = w; lines = lines.1 }),
)
lines_behind (Ok record_end.KeeperFault) steps c k first second link new_link out mid new_out later w lines = (
  rose_later out.keeper.faults mid.keeper.faults new_out.keeper.faults later.keeper lines.0,
  inr (k, whole_still c k (Some (conversation.CallEnded Done)) first second link new_link out mid new_out lines.1 lines.2 w),
)
lines_behind (Err e) steps c k first second link new_link out mid new_out later w lines = inr (record { kept = k; mid = mid; whole = w; lines = lines })

-- it is not done
abbrev pub IsOther : RecordEnd → Type 0
IsOther (record_end.Loop (end.Call call_end.Done)) = ⊥
IsOther e = Unit {0}

pub ended_other : {O : Type 0} (e : RecordEnd) (steps : List CallStep) (c : Conversation) (k : RunnerKept)
    (first second : O → List LinkMove → Type 0) (link new_link : LinkState) (out new_out : Outlets)
    → IsOther e → EndsFrom (Ok e) steps c k first second link new_link out new_out → EndsRecord (Ok e) steps c first second link new_link out new_out
ended_other (record_end.Loop (end.Call call_end.Done)) steps c k first second link new_link out new_out other g = absurd other
ended_other (record_end.Loop (end.Call (call_end.Refused code))) steps c k first second link new_link out new_out other g = (k, g)
ended_other (record_end.Loop (end.Call (call_end.BadPeer p))) steps c k first second link new_link out new_out other g = (k, g)
ended_other (record_end.Loop (end.Call call_end.BadValue)) steps c k first second link new_link out new_out other g = (k, g)
ended_other (record_end.Loop (end.Call (call_end.TimedOut sent now))) steps c k first second link new_link out new_out other g = (k, g)
ended_other (record_end.Loop end.Budget) steps c k first second link new_link out new_out other g = (k, g)
ended_other (record_end.Loop end.LinkFault) steps c k first second link new_link out new_out other g = (g.0, elim g.1 [ inl w ↦ inl (k, w) | inr w ↦ inr w ])
ended_other (record_end.Loop end.WriteFault) steps c k first second link new_link out new_out other g = (g.0, inl g.1)
ended_other record_end.KeeperFault steps c k first second link new_link out new_out other g = (g.0, inl g.1)

same_ended : {O : Type 0} (e : RecordEnd) (result : Result RecordEnd NoMemory) (steps : List CallStep) (c : Conversation) (k : RunnerKept)
    (first second : O → List LinkMove → Type 0) (link new_link : LinkState) (out mid new_out : Outlets)
    → IsOther e → EndsFrom (Ok e) steps c k first second link new_link out mid → (result ≡ Ok e) × (new_out ≡ mid)
    → EndsRecord result steps c first second link new_link out new_out
same_ended e result steps c k first second link new_link out mid new_out other g f =
    subst (λ x. EndsRecord x steps c first second link new_link out new_out) (sym f.0)
    (subst (λ o. EndsRecord (Ok e) steps c first second link new_link out o) (sym f.1) (ended_other e steps c k first second link new_link out mid other g))

-- by how the conversation ended
pub finished_so : {O : Type 0} (e : RecordEnd) (result : Result RecordEnd NoMemory) (steps : List CallStep) (c : Conversation) (k : RunnerKept)
    (first second : O → List LinkMove → Type 0) (link new_link : LinkState) (out mid new_out : Outlets)
    → IsLater out mid → EndsFrom (Ok e) steps c k first second link new_link out mid → Finishes e result (entries_taken k.stage) mid new_out
    → EndsRecord result steps c first second link new_link out new_out
finished_so (record_end.Loop (end.Call call_end.Done)) result steps c k first second link new_link out mid new_out later g f =
    lines_behind result steps c k first second link new_link out mid new_out later g f
finished_so (record_end.Loop (end.Call (call_end.Refused code))) result steps c k first second link new_link out mid new_out later g f =
    same_ended (record_end.Loop (end.Call (call_end.Refused code))) result steps c k first second link new_link out mid new_out tt g f
finished_so (record_end.Loop (end.Call (call_end.BadPeer p))) result steps c k first second link new_link out mid new_out later g f =
    same_ended (record_end.Loop (end.Call (call_end.BadPeer p))) result steps c k first second link new_link out mid new_out tt g f
finished_so (record_end.Loop (end.Call call_end.BadValue)) result steps c k first second link new_link out mid new_out later g f =
    same_ended (record_end.Loop (end.Call call_end.BadValue)) result steps c k first second link new_link out mid new_out tt g f
finished_so (record_end.Loop (end.Call (call_end.TimedOut sent now))) result steps c k first second link new_link out mid new_out later g f =
    same_ended (record_end.Loop (end.Call (call_end.TimedOut sent now))) result steps c k first second link new_link out mid new_out tt g f
finished_so (record_end.Loop end.Budget) result steps c k first second link new_link out mid new_out later g f =
    same_ended (record_end.Loop end.Budget) result steps c k first second link new_link out mid new_out tt g f
finished_so (record_end.Loop end.LinkFault) result steps c k first second link new_link out mid new_out later g f =
    same_ended (record_end.Loop end.LinkFault) result steps c k first second link new_link out mid new_out tt g f
finished_so (record_end.Loop end.WriteFault) result steps c k first second link new_link out mid new_out later g f =
    same_ended (record_end.Loop end.WriteFault) result steps c k first second link new_link out mid new_out tt g f
finished_so record_end.KeeperFault result steps c k first second link new_link out mid new_out later g f =
    same_ended record_end.KeeperFault result steps c k first second link new_link out mid new_out tt g f
