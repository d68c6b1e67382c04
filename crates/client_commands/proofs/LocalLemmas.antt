-- A call over the link to a server in the same process is the local call.
use Rattle.std.proofs.Common.{◌≡◌, ℕ, zero, suc, true, List, [], ◌∷◌, ◌++◌, take, Some, None, inl, inr, subst, ap, sym, ◌∙◌, refl, arith}
use Rattle.std.specs.Prelude.{Option, Result, Ok, Err, is_some}
use Rattle.ads_base.specs.declared.no_memory.NoMemory.{NoMemory}
use Rattle.ads_outside.specs.Puts.{Appends, AppendsPart}
use Rattle.ads_outside.specs.Rose.{Rose}
use Rattle.ads_outside.specs.SinkState.{SinkState}
use Rattle.spec_machine.specs.Connection.{connection_of}
use Rattle.spec_client.specs.Conversation.{LinkAnswer, LoopEnd, CallEnded, Budget}
use Rattle.spec_client.specs.CallLog.{call_log_up_to}
use Rattle.spec_client.specs.Runner.{CallStep}
use Rattle.spec_local.specs.LocalCall.{Cutting}
use Rattle.spec_local.specs.LinkLog.{IsLogOf}
use Rattle.spec_local.proofs.LinkLogs.{first_parts, call_logs_begin}
use Rattle.spec_cutting.specs.Joining.{IsSameCall}
use Rattle.spec_local_room.specs.Laws.{IsLocal, BeginsCall, is_setting, IsAnswered}
use Rattle.spec_local_room.proofs.LocalAnswers.{local_links_are_one, local_calls_end}
use Rattle.spec_local_room.proofs.Beginnings.{local_links_begin}
use Rattle.spec_server.specs.Server.{read_description, server_start}
use Rattle.client_loop.specs.Called.{Calling, calling, over, AfterCall, Talks, BreaksOff}
use Rattle.client_loop.specs.Due.{AtPrint, Anywhere}
use Rattle.client_loop.specs.declared.loop_end.LoopEnd as loop
use Rattle.client_loop.specs.declared.loop_end.LoopEnd.TheVariants as end
use Rattle.client_loop.proofs.TalkLemmas.{breaks_in_part}
use Rattle.client_replies.specs.Stages.{end_meant}
use Rattle.local_link.specs.Link.{LocalView, IsTold, state_of}
use Rattle.server_core.specs.Served.{ServedState, served, served_step}
use Rattle.run_tasks.specs.declared.status.Status.{Status}
use Rattle.run_tasks.specs.Asking.{LocalCalling, peer_of_local}
use Rattle.client_commands.specs.Calling.{AfterLocal, EndsCall, EndsLocalCall, LocalTalks, LocalBreaksOff, local_conversation}
use Rattle.client_commands.specs.CallUses.{used}
use Rattle.client_commands.proofs.FitLemmas.{FitsCalling}

-- the call over the link
abbrev pub call_of_local : LocalCalling → List ℕ → Calling
call_of_local x to = calling x.me (peer_of_local x) x.call to

abbrev pub start : LocalCalling → ServedState
start x = server_start x.description x.waves

-- it is bounded, where number 1 is free
pub is_bounded : (x : LocalCalling) → FitsCalling x → IsLocal (start x) x.me (peer_of_local x) x.call
unfolding connection_of
is_bounded x fits = record { none = refl; moment = omega arith; from = fits.from; to = fits.to; bounded = fits.bounded }

-- the answers of the link are the machine's
same_local : (x : LocalCalling) → FitsCalling x → (to : List ℕ) (moment : ℕ) (answers : List LinkAnswer)
    → IsLogOf served_step (start x) (call_log_up_to x.me (peer_of_local x) x.call to moment answers)
    → is_some (over (call_of_local x to) moment answers).end ≡ true
    → (cutting : Cutting) → IsSameCall (over (call_of_local x to) moment answers) (local_conversation x cutting)
unfolding served
same_local x fits to moment answers log ended cutting =
    local_links_are_one read_description cutting (start x) x.me (peer_of_local x) x.call to moment answers (is_bounded x fits) log ended

begins_local : (x : LocalCalling) → FitsCalling x → (to : List ℕ) (moment : ℕ) (answers : List LinkAnswer)
    → IsLogOf served_step (start x) (call_log_up_to x.me (peer_of_local x) x.call to moment answers)
    → (cutting : Cutting) → BeginsCall (over (call_of_local x to) moment answers) (local_conversation x cutting)
unfolding served
begins_local x fits to moment answers log cutting =
    local_links_begin read_description cutting (start x) x.me (peer_of_local x) x.call to moment answers (is_bounded x fits) log

same_end : (a b : LoopEnd) (o : Option LoopEnd) → o ≡ Some a → o ≡ Some b → a ≡ b
same_end a b o first second = cc

-- so it ends by no timeout
answered_so : (x : LocalCalling) → FitsCalling x → (e : LoopEnd) (cutting : Cutting) → (local_conversation x cutting).end ≡ Some e
    → IsAnswered (is_setting x.call) e
answered_so x fits e cutting is =
    let ends = local_calls_end read_description cutting (start x) x.me (peer_of_local x) x.call (is_bounded x fits) in
    subst (IsAnswered (is_setting x.call)) (same_end ends.end e (local_conversation x cutting).end ends.is is) ends.answered

-- the call that talked over the link is the local one
pub same_talk : (x : LocalCalling) → FitsCalling x → (to : List ℕ) (e : LoopEnd) (old new : LocalView) (out out_new : SinkState) → IsTold old (start x) []
    → (h : Talks (call_of_local x to) (Some e) (λ o log. IsTold old o log) (λ o log. IsTold new o log) (state_of new) out out_new)
    → (cutting : Cutting) → IsSameCall (over (call_of_local x to) h.moment h.answers) (local_conversation x cutting)
same_talk x fits to e old new out out_new told h =
    let log = (h.told (start x) [] told).is_log in
    let up_to = call_logs_begin served_step (start x) x.me (peer_of_local x) x.call to h.moment h.answers log in
    same_local x fits to h.moment h.answers up_to (ap is_some h.end_is)

pub talks_locally : (x : LocalCalling) → FitsCalling x → (to : List ℕ) (e : LoopEnd) (old new : LocalView) (out out_new : SinkState)
    → IsTold old (start x) []
    → Talks (call_of_local x to) (Some e) (λ o log. IsTold old o log) (λ o log. IsTold new o log) (state_of new) out out_new → LocalTalks x e out out_new
talks_locally x fits to e old new out out_new told h =
    let same = same_talk x fits to e old new out out_new told h in
    let end_is : (cutting : Cutting) → (local_conversation x cutting).end ≡ Some e = λ cutting. sym (same cutting).end ∙ h.end_is in
    record {
      end_is = end_is;
      answered = answered_so x fits e (λ n. 0) (end_is (λ n. 0));
      text = λ cutting. subst (Appends out.held out_new.held) (same cutting).text h.text;
    }

-- how many of the first n there are
abbrev pub up_to_end : {A : Type 0} → ℕ → List A → ℕ
up_to_end zero xs = 0
up_to_end (suc n) [] = 0
up_to_end (suc n) (x ∷ xs) = suc (up_to_end n xs)

-- a first part of what begins a list is a first part of it
pub take_begun : {A : Type 0} (n : ℕ) (xs ys : List A) → take (up_to_end n xs) (xs ++ ys) ≡ take n xs
take_begun zero xs ys = refl
take_begun (suc n) [] ys = refl
take_begun (suc n) (x ∷ xs) ys = ap (λ l. x ∷ l) (take_begun n xs ys)

part_of_whole : (old new : Option (List ℕ)) (part whole left : List ℕ) → whole ≡ part ++ left → AppendsPart old new part → AppendsPart old new whole
part_of_whole None new part whole left is puts = tt
part_of_whole (Some old) new part whole left is puts =
    let n = puts.0 in
    (up_to_end n part, puts.1 ∙ ap (λ l. Some (old ++ l)) (sym (ap (take (up_to_end n part)) is ∙ take_begun n part left)))

-- one that broke off begins it
pub begins_talk : (IsStop : List CallStep → Type 0) (x : LocalCalling) → FitsCalling x → (to : List ℕ) (old new : LocalView) (out out_new : SinkState)
    → IsTold old (start x) []
    → (h : BreaksOff IsStop (call_of_local x to) (λ o log. IsTold old o log) (λ o log. IsTold new o log) (state_of new) out out_new)
    → (cutting : Cutting) → BeginsCall (over (call_of_local x to) h.moment h.answers) (local_conversation x cutting)
begins_talk IsStop x fits to old new out out_new told h =
    let some = h.told (start x) [] told in
    let up_to = first_parts served_step (start x) (call_log_up_to x.me (peer_of_local x) x.call to h.moment h.answers) some.moves some.told.is_log in
    begins_local x fits to h.moment h.answers up_to

pub breaks_off_locally : (IsStop : List CallStep → Type 0) (x : LocalCalling) → FitsCalling x → (to : List ℕ) (old new : LocalView)
    (out out_new : SinkState) → IsTold old (start x) []
    → BreaksOff IsStop (call_of_local x to) (λ o log. IsTold old o log) (λ o log. IsTold new o log) (state_of new) out out_new
    → LocalBreaksOff x out out_new
breaks_off_locally IsStop x fits to old new out out_new told h cutting =
    let begins = begins_talk IsStop x fits to old new out out_new told h cutting in
    part_of_whole out.held out_new.held _ _ begins.text_left begins.text
    (breaks_in_part IsStop (call_of_local x to) (λ o log. IsTold old o log) (λ o log. IsTold new o log) (state_of new) out out_new h)

pub no_fault : Rose 0 0 → ⊥
no_fault rose = omega (arith, rose)

local_of_call : (x : LocalCalling) → FitsCalling x → (to : List ℕ) (answer : Result loop.LoopEnd NoMemory) (old new : LocalView) (out out_new : SinkState)
    → IsTold old (start x) []
    → AfterCall answer (call_of_local x to) (λ o log. IsTold old o log) (λ o log. IsTold new o log) (state_of old) (state_of new) out out_new
    → AfterLocal answer x out out_new
local_of_call x fits to (Ok (end.Call e)) old new out out_new told h = talks_locally x fits to (CallEnded (end_meant e)) old new out out_new told h
local_of_call x fits to (Ok end.Budget) old new out out_new told h = talks_locally x fits to Budget old new out out_new told h
local_of_call x fits to (Ok end.LinkFault) old new out out_new told h = no_fault h.0
local_of_call x fits to (Ok end.WriteFault) old new out out_new told h = (h.0, breaks_off_locally AtPrint x fits to old new out out_new told h.1)
local_of_call x fits to (Err e) old new out out_new told (inl h) = inl h.silent
local_of_call x fits to (Err e) old new out out_new told (inr h) = inr (breaks_off_locally Anywhere x fits to old new out out_new told h)

-- of a call that is known
pub local_ends : (x : LocalCalling) → FitsCalling x → (to : List ℕ) (y : Calling) (s : Status) (old new : LocalView) (out out_new : SinkState)
    → y ≡ call_of_local x to → IsTold old (start x) []
    → EndsCall y s out out_new (used (λ o log. IsTold old o log) (λ o log. IsTold new o log) (state_of old) (state_of new)) → EndsLocalCall x s out out_new
local_ends x fits to y s old new out out_new same told e = record {
  answer = e.answer;
  between = e.between;
  called = local_of_call x fits to e.answer old new out e.between told
      (subst (λ z. AfterCall e.answer z (λ o log. IsTold old o log) (λ o log. IsTold new o log) (state_of old) (state_of new) out e.between) same e.called);
  later = e.later;
  prints = e.prints;
}
