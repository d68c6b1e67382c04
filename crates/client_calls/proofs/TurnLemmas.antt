-- Turns of a runner that gives nothing, and what is left to be heard.
use Rattle.std.proofs.Common.{◌≡◌, ℕ, ◌+◌, ◌≤◌, ◌<◌, List, [], ◌∷◌, ◌++◌, length, drop, Bool, true, false, refl, sym, ap, ◌∙◌, arith}
use Rattle.ads_base.specs.declared.peer.Peer.{Peer}
use Rattle.spec_client.specs.Heard.{Heard, Answered, Sampled, Ended, Stray, TimedOut, NotYet, Broken}
use Rattle.spec_client.specs.Client.{Client}
use Rattle.spec_client.specs.Hearing.{Hearing, next_hearing}
use Rattle.std.specs.Prelude.{Some, None}
use Rattle.spec_client.specs.Stages.{CallEnd, BadPeer, Output, Stage, Records, Finished, FinishedRecording, ended_at, entries_taken}
use Rattle.spec_client.specs.Steps.{after_heard}
use Rattle.spec_client.specs.Runner.{Runner, CallStep, Wait, Over, Turned, turned, given, is_not_yet, is_over, runner_after_hearing, turn}
use Rattle.spec_client.specs.Laws.{turn_hearing, turn_of_stage, turn_by_cases, goes_on}
use Rattle.client_calls.specs.Steps.{end_in}
use Rattle.spec_client.proofs.TurnCases.{turn_cases}

pub turn_given : (now : ℕ) (r : Runner) (output : Output) (outputs : List Output) → r.pending ≡ output ∷ outputs
    → turn now r ≡ given now output (record r { pending = outputs })
turn_given now r output outputs is = turn_cases now r ∙ ap (turn_by_cases now r) is

turn_quiet : (now : ℕ) (r : Runner) → r.pending ≡ [] → turn now r ≡ turn_of_stage now r r.stage
turn_quiet now r is = turn_cases now r ∙ ap (turn_by_cases now r) is

stage_ends : (now : ℕ) (r : Runner) (stage : Stage) (end : CallEnd) → end_in stage ≡ Some end → turn_of_stage now r stage ≡ turned (Over end) r
stage_ends now r (Finished e) end is = let same : e ≡ end = cc in ap (λ (x : CallEnd). turned (Over x) r) same
stage_ends now r (FinishedRecording e entries) end is = let same : e ≡ end = cc in ap (λ (x : CallEnd). turned (Over x) r) same
stage_ends now r stage end is = absurd (let e : None ≡ Some end = is in cc)

pub turn_finished : (now : ℕ) (r : Runner) (end : CallEnd) → r.pending ≡ [] → end_in r.stage ≡ Some end → turn now r ≡ turned (Over end) r
turn_finished now r end is at = turn_quiet now r is ∙ stage_ends now r r.stage end at

ends_so : (stage : Stage) (end : CallEnd) → end_in (ended_at stage end).stage ≡ Some end
ends_so (Records wait r) end = refl
ends_so stage end = refl

pub same_entries : (stage : Stage) (end : CallEnd) → is_over stage ≡ false → entries_taken (ended_at stage end).stage ≡ entries_taken stage
same_entries (Records wait r) end on = refl
same_entries (FinishedRecording e entries) end on = absurd (let h : true ≡ false = on in cc)
same_entries stage end on = refl

no_outputs : (stage : Stage) (end : CallEnd) → (ended_at stage end).outputs ≡ []
no_outputs (Records wait r) end = refl
no_outputs stage end = refl

stage_hears : (now : ℕ) (r : Runner) (stage : Stage) → is_over stage ≡ false → turn_of_stage now r stage ≡ turn_hearing now r (next_hearing r.client)
stage_hears now r (Finished end) e = absurd (let h : true ≡ false = e in cc)
stage_hears now r (FinishedRecording end entries) e = absurd (let h : true ≡ false = e in cc)
stage_hears now r stage e = refl

turn_heard : (now : ℕ) (r : Runner) → r.pending ≡ [] → is_over r.stage ≡ false → turn now r ≡ turn_hearing now r (next_hearing r.client)
turn_heard now r is at = turn_quiet now r is ∙ stage_hears now r r.stage at

pub turn_waits : (now : ℕ) (r : Runner) → r.pending ≡ [] → is_over r.stage ≡ false → (next_hearing r.client).heard ≡ NotYet
    → turn now r ≡ turned Wait (runner_after_hearing r.stage (next_hearing r.client))
turn_waits now r is at heard = turn_heard now r is at ∙ rw (ap is_not_yet heard) refl

pub turn_goes : (now : ℕ) (r : Runner) → r.pending ≡ [] → is_over r.stage ≡ false → is_not_yet (next_hearing r.client).heard ≡ false
    → turn now r ≡ turn now (runner_after_hearing r.stage (next_hearing r.client))
turn_goes now r is at heard = turn_heard now r is at ∙ rw heard refl

-- what is broken ends the call, with the entries that it took
pub record Breaks (now : ℕ) (r : Runner) (peer : Peer) : Type 0 where
  pub step : (turn now r).step ≡ Over (BadPeer peer)
  pub entries : entries_taken (turn now r).runner.stage ≡ entries_taken r.stage

pub turn_broken : (now : ℕ) (r : Runner) (peer : Peer) → r.pending ≡ [] → is_over r.stage ≡ false → (next_hearing r.client).heard ≡ Broken peer
    → Breaks now r peer
unfolding runner_after_hearing after_heard
turn_broken now r peer is at heard =
    let behind = runner_after_hearing r.stage (next_hearing r.client) in
    let goes = turn_goes now r is at (ap is_not_yet heard) in
    let outputs : behind.pending ≡ [] = ap (λ h. (after_heard r.stage h).outputs) heard ∙ no_outputs r.stage (BadPeer peer) in
    let stage : behind.stage ≡ (ended_at r.stage (BadPeer peer)).stage = ap (λ h. (after_heard r.stage h).stage) heard in
    let over = goes ∙ turn_finished now behind (BadPeer peer) outputs (ap end_in stage ∙ ends_so r.stage (BadPeer peer)) in
    record {
      step = ap (λ (t : Turned). t.step) over;
      entries = ap (λ (t : Turned). entries_taken t.runner.stage) over ∙ ap entries_taken stage ∙ same_entries r.stage (BadPeer peer) at;
    }
