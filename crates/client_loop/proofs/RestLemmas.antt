-- Where a turn rests, the stage of its runner tells whether the call is over; and steps one after another.
use Rattle.std.proofs.Common.{◌≡◌, ℕ, zero, suc, List, [], ◌∷◌, ◌++◌, Bool, true, false, Some, None, refl, sym, ap, ◌∙◌, subst, append_assoc}
use Rattle.std.specs.Prelude.{if◌then◌else◌}
use Rattle.spec_client.specs.Client.{Client}
use Rattle.spec_samples.specs.Row.{Row}
use Rattle.spec_client.specs.Heard.{Heard, NotYet}
use Rattle.spec_client.specs.Hearing.{next_hearing}
use Rattle.spec_client.specs.Stages.{CallEnd, Output, ToSend, ToPrint, ToKeep, Stage, Finished, FinishedRecording}
use Rattle.spec_client.specs.Steps.{after_heard}
use Rattle.spec_client.specs.Runner.{Runner, CallStep, Send, Print, Keep, Wait, Over, Turned, turned, given}
use Rattle.spec_client.specs.Runner.{resting, is_over, is_not_yet, runner_after_hearing, turn_within, turn}
use Rattle.spec_client.specs.Runner.{Turns, turns, after_step, joined}
use Rattle.spec_client.specs.Laws.{turns_behind}
use Rattle.spec_client.specs.Conversation.{Sent, CallEnded, end_of_stage, sent_by, printed_by, kept_by}
use Rattle.spec_client.proofs.TurnsUnfolded.{at, turns_unfold}

-- the stage behind a step by which a turn rests
abbrev pub RestsBy : CallStep → Stage → Type 0
RestsBy (Send bytes) stage = Unit {0}
RestsBy (Print text) stage = Unit {0}
RestsBy (Keep row) stage = Unit {0}
RestsBy Wait stage = end_of_stage stage ≡ None
RestsBy (Over end) stage = end_of_stage stage ≡ Some (CallEnded end)

abbrev IsRight : Turned → Type 0
IsRight t = RestsBy t.step t.runner.stage

given_right : (now : ℕ) (o : Output) (r : Runner) → IsRight (given now o r)
unfolding given
given_right now (ToSend request) r = tt
given_right now (ToPrint text) r = tt
given_right now (ToKeep row) r = tt

resting_right : (stage : Stage) (r : Runner) → r.stage ≡ stage → IsRight (resting stage r)
resting_right (Finished end) r e = ap end_of_stage e
resting_right (FinishedRecording end entries) r e = ap end_of_stage e
resting_right stage r e = ap end_of_stage e

heard_stage : (stage : Stage) (h : Heard) → is_not_yet h ≡ true → (after_heard stage h).stage ≡ stage
unfolding after_heard
heard_stage stage NotYet e = refl
heard_stage stage h e = absurd (let f : false ≡ true = e in cc)

one_of : (over waits : Bool) (a b c : Turned) → IsRight a → (waits ≡ true → IsRight b) → IsRight c → IsRight (if over then a else if waits then b else c)
one_of true waits a b c x y z = x
one_of false true a b c x y z = y refl
one_of false false a b c x y z = z

rests : (n now : ℕ) (c : Client) (stage : Stage) (os : List Output) → IsRight (turn_within n now (at c stage os))
unfolding turn_within runner_after_hearing
rests zero now c stage (o ∷ os) = given_right now o (at c stage os)
rests (suc n) now c stage (o ∷ os) = given_right now o (at c stage os)
rests zero now c stage [] = resting_right stage (at c stage []) refl
rests (suc n) now c stage [] =
    let x = next_hearing c in
    let p = after_heard stage x.heard in
    one_of (is_over stage) (is_not_yet x.heard) _ _ _ (resting_right stage (at c stage []) refl)
    (λ waits. resting_right stage (at x.client p.stage p.outputs) (heard_stage stage x.heard waits))
    (rests n now x.client p.stage p.outputs)

pub turn_rests : (now : ℕ) (r : Runner) (step : CallStep) → (turn now r).step ≡ step → RestsBy step (turn now r).runner.stage
turn_rests now r step is = subst (λ s. RestsBy s (turn now r).runner.stage) is (rests _ now r.client r.stage r.pending)

unfolds_by : (now : ℕ) (r : Runner) (step : CallStep) → (turn now r).step ≡ step → turns now r ≡ turns_behind now step (turn now r).runner
unfolds_by now r step is = turns_unfold now r ∙ ap (λ s. turns_behind now s (turn now r).runner) is

-- a step is given, and then all turns behind it
pub unfolds_sent : (now : ℕ) (r : Runner) (bytes : List ℕ) → Send bytes ≡ (turn now r).step
    → turns now r ≡ after_step (turn now r) (turns now (turn now r).runner)
unfolds_sent now r bytes is = unfolds_by now r (Send bytes) (sym is) ∙ ap (λ s. after_step (turned s (turn now r).runner) (turns now (turn now r).runner)) is

pub unfolds_printed : (now : ℕ) (r : Runner) (text : List ℕ) → Print text ≡ (turn now r).step
    → turns now r ≡ after_step (turn now r) (turns now (turn now r).runner)
unfolds_printed now r text is = unfolds_by now r (Print text) (sym is) ∙ ap (λ s. after_step (turned s (turn now r).runner) (turns now (turn now r).runner)) is

pub unfolds_kept : (now : ℕ) (r : Runner) (row : Row) → Keep row ≡ (turn now r).step → turns now r ≡ after_step (turn now r) (turns now (turn now r).runner)
unfolds_kept now r row is = unfolds_by now r (Keep row) (sym is) ∙ ap (λ s. after_step (turned s (turn now r).runner) (turns now (turn now r).runner)) is

-- nothing is given
pub unfolds_waiting : (now : ℕ) (r : Runner) → (turn now r).step ≡ Wait → turns now r ≡ record { steps = []; runner = (turn now r).runner }
unfolds_waiting now r is = unfolds_by now r Wait is

pub unfolds_over : (now : ℕ) (r : Runner) (end : CallEnd) → (turn now r).step ≡ Over end → turns now r ≡ record { steps = []; runner = (turn now r).runner }
unfolds_over now r end is = unfolds_by now r (Over end) is

pub sent-append : (n : ℕ) (steps more : List CallStep) → sent_by n (steps ++ more) ≡ sent_by n steps ++ sent_by n more
sent-append n [] more = refl
sent-append n (Send bytes ∷ steps) more = ap (λ (x : List Sent). record { answers = n; bytes = bytes } ∷ x) (sent-append n steps more)
sent-append n (Print text ∷ steps) more = sent-append n steps more
sent-append n (Keep row ∷ steps) more = sent-append n steps more
sent-append n (Wait ∷ steps) more = sent-append n steps more
sent-append n (Over end ∷ steps) more = sent-append n steps more

pub printed-append : (steps more : List CallStep) → printed_by (steps ++ more) ≡ printed_by steps ++ printed_by more
printed-append [] more = refl
printed-append (Send bytes ∷ steps) more = printed-append steps more
printed-append (Print text ∷ steps) more = ap (λ x. text ++ x) (printed-append steps more) ∙ sym (append_assoc text (printed_by steps) (printed_by more))
printed-append (Keep row ∷ steps) more = printed-append steps more
printed-append (Wait ∷ steps) more = printed-append steps more
printed-append (Over end ∷ steps) more = printed-append steps more

pub kept-append : (steps more : List CallStep) → kept_by (steps ++ more) ≡ kept_by steps ++ kept_by more
kept-append [] more = refl
kept-append (Send bytes ∷ steps) more = kept-append steps more
kept-append (Print text ∷ steps) more = kept-append steps more
kept-append (Keep row ∷ steps) more = ap (λ (x : List Row). row ∷ x) (kept-append steps more)
kept-append (Wait ∷ steps) more = kept-append steps more
kept-append (Over end ∷ steps) more = kept-append steps more

-- one step more was taken
pub joined_step : (steps : List CallStep) (a b : Turns) (t : Turned) (all : Turns)
    → all ≡ joined steps a → a ≡ after_step t b → all ≡ joined (steps ++ t.step ∷ []) b
joined_step steps a b t all first second =
    first ∙ ap (joined steps) second
    ∙ ap (λ (s : List CallStep). let x : Turns = record { steps = s; runner = b.runner } in x) (sym (append_assoc steps (t.step ∷ []) b.steps))
