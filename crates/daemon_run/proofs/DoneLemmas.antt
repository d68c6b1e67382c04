-- A service that is done ended with its wire.
use Rattle.std.proofs.Common.{◌≡◌, ◌<◌, ℕ, List, inl, inr, ap, sym, ◌∙◌, arith}
use Rattle.ads_outside.specs.declared.end.End.{End}
use Rattle.ads_outside.specs.declared.end.End.TheVariants as end
use Rattle.ads_outside.specs.declared.moves.Move.{Move}
use Rattle.ads_outside.specs.Rose.{raised}
use Rattle.ads_outside.specs.SinkState.{SinkState}
use Rattle.ads_outside.specs.WireState.{WireHistory, listened}
use Rattle.serve_loop.proofs.TurnLemmas.{ends-after}
use Rattle.run_tasks.specs.declared.status.Status.{Status}
use Rattle.run_tasks.specs.declared.status.Status.TheVariants as status
use Rattle.run_tasks.specs.Ending.{Ending, line_alone}
use Rattle.run_tasks.specs.Prints.{PrintsEnding}
use Rattle.run_tasks.specs.Service.{Service, ending_after}
use Rattle.run_tasks.specs.Verdict.{Verdict, Ends, Serves, ended}
use Rattle.plant_commands.specs.Serving.{MakesMoves, PrintsAt, EndsService}

-- an ending with another status does not come to Done
pub not_done : (e : Ending) (s : Status) (old new : SinkState) → (e.status ≡ status.Done → ⊥) → PrintsEnding e s old new → s ≡ status.Done → ⊥
not_done e s old new other (inl h) is = other (sym h.0 ∙ is)
not_done e s old new other (inr (inl h)) is = let no : status.WriteFault ≡ status.Done = sym h.0 ∙ is in cc
not_done e s old new other (inr (inr h)) is = let no : status.Memory ≡ status.Done = sym h.0 ∙ is in cc

-- the wire of a service that ran and is done answered End
run_done : (service : Service) (r : End) (moves : List Move) (s : Status) (between out_new : SinkState) (wire wire_new : WireHistory)
    → MakesMoves service r moves (listened service.start wire) wire_new → PrintsAt r (ending_after service moves r) s between out_new
    → s ≡ status.Done → wire_new.ends ≡ raised wire.ends
run_done service end.Done moves s between out_new wire wire_new made printed is =
    ap (λ (x : WireHistory). x.ends) made.grown ∙ ap raised (ends-after moves (listened service.start wire))
run_done service end.Budget moves s between out_new wire wire_new made printed is =
    absurd (not_done (ending_after service moves end.Budget) s between out_new (λ e. (cc)) printed is)
run_done service end.LinkFault moves s between out_new wire wire_new made printed is =
    absurd (not_done (ending_after service moves end.LinkFault) s between out_new (λ e. (cc)) printed is)
run_done service end.Memory moves s between out_new wire wire_new made printed is =
    let no : status.Memory ≡ status.Done = sym printed.0 ∙ is in cc

pub service_done : (service : Service) (s : Status) (out out_new : SinkState) (wire wire_new : WireHistory) → EndsService service s out out_new wire wire_new
    → s ≡ status.Done → wire_new.ends ≡ raised wire.ends
service_done service s out out_new wire wire_new (inl (inl h)) is =
    absurd (not_done (line_alone status.LinkFault) s out out_new (λ e. (cc)) h.1 is)
service_done service s out out_new wire wire_new (inl (inr h)) is = let no : status.Memory ≡ status.Done = sym h.1 ∙ is in cc
service_done service s out out_new wire wire_new (inr (inl (same, inl h))) is = let no : status.WriteFault ≡ status.Done = sym h.0 ∙ is in cc
service_done service s out out_new wire wire_new (inr (inl (same, inr h))) is = let no : status.Memory ≡ status.Done = sym h.0 ∙ is in cc
service_done service s out out_new wire wire_new (inr (inr h)) is =
    run_done service h.runs.ended h.runs.moves s h.between out_new wire wire_new h.runs.wire h.runs.prints is

-- a verdict that is not an ending with Done
abbrev pub IsNotDone : Verdict → Type 0
IsNotDone v = (e : Ending) → Ends e ≡ v → e.status ≡ status.Done → ⊥

status_in : Verdict → Status
status_in (Ends e) = e.status
status_in v = status.Usage

pub ended_not_done : (t : Status) → (t ≡ status.Done → ⊥) → IsNotDone (ended t)
unfolding status_in
ended_not_done t never = λ e same is. never (sym (ap status_in same) ∙ is)

pub serves_not_done : (x : Service) → IsNotDone (Serves x)
unfolding status_in
serves_not_done x = λ e same is. let other : status.Done ≡ status.Usage = sym is ∙ ap status_in same in cc

-- a count that rose is not 0
pub risen : (n m : ℕ) → n ≡ raised m → 0 < n
risen n m is = omega (arith, is)
