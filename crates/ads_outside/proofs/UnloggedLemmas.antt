-- What the answers of a wire say that does not tell its log.
use Rattle.std.proofs.Common.{◌≡◌, ℕ, List, [], ◌∷◌, ◌++◌, length, true, false, refl, sym, ap, ◌∙◌}
use Rattle.std.specs.Prelude.{Bool, Some, None}
use Rattle.std.specs.List.{concat}
use Rattle.ads_outside.specs.declared.listening.Listening.{Listening}
use Rattle.ads_outside.specs.declared.moves.Move.TheVariants as move
use Rattle.ads_outside.specs.declared.next.Next.{Next}
use Rattle.ads_outside.specs.declared.next.Next.TheVariants as next
use Rattle.ads_outside.specs.declared.offer.Offer.{Offer}
use Rattle.ads_outside.specs.declared.offer.Offer.TheVariants as offer
use Rattle.ads_outside.specs.declared.shut.Shut.{Shut}
use Rattle.ads_outside.specs.declared.shut.Shut.TheVariants as shut
use Rattle.ads_outside.specs.declared.started.Started.{Started}
use Rattle.ads_outside.specs.declared.started.Started.TheVariants as started
use Rattle.ads_outside.specs.MemWire.{HeldWire, unlogged, state_of_runs, after_run}
use Rattle.ads_outside.specs.Streams.{Streams, grown, none_taken, streams_after}
use Rattle.ads_outside.specs.WireAnswers.{Starts, Gives, Takes, TakesRun, Shuts}
use Rattle.ads_outside.specs.WireState.{WireState, WireHistory}
use Rattle.ads_outside.proofs.StreamLemmas.{streams_more, run_taken}
use Rattle.ads_outside.proofs.WireLemmas.{same_opened}

abbrev hide : WireHistory → WireHistory
hide h = record h { log = None }

pub starts_unlogged : (answer : Started) (old new : WireState) (a : Listening) → Starts answer old new a → Starts answer (unlogged old) (unlogged new) a
starts_unlogged started.Ready old new a ready = ap hide ready
starts_unlogged started.Failed old new a stops =
    record { same = ap hide stops.same; stopped = stops.stopped; faulted = stops.faulted }
starts_unlogged started.Memory old new a wants = record { same = ap hide wants.same; wanted = wants.wanted }

pub gives_unlogged : (answer : Next) (old new : WireState) → Gives answer old new → Gives answer (unlogged old) (unlogged new)
gives_unlogged (next.Event e) old new given = (given.0, ap hide given.1)
gives_unlogged next.End old new ended = ap hide ended
gives_unlogged next.Failed old new stops =
    record { same = ap hide stops.same; stopped = stops.stopped; faulted = stops.faulted }
gives_unlogged next.Memory old new wants = record { same = ap hide wants.same; wanted = wants.wanted }

pub takes_unlogged : (answer : Offer) (old new : WireState) (c : ℕ) (bytes : List ℕ) → Takes answer old new c bytes
    → Takes answer (unlogged old) (unlogged new) c bytes
takes_unlogged (offer.Took n) old new c bytes took = (took.0, ap hide took.1)
takes_unlogged offer.Failed old new c bytes lost = (ap hide lost.0, lost.1)
takes_unlogged offer.Memory old new c bytes wants = record { same = ap hide wants.same; wanted = wants.wanted }

pub shuts_unlogged : (answer : Shut) (old new : WireState) (c : ℕ) → Shuts answer old new c → Shuts answer (unlogged old) (unlogged new) c
shuts_unlogged shut.Done old new c done = ap hide done
shuts_unlogged shut.Memory old new c wants = record { same = ap hide wants.same; wanted = wants.wanted }

-- a run that was taken whole
pub takes_run_held : (taken : Bool) (old new : HeldWire) (c : ℕ) (run : List ℕ) → new ≡ after_run taken old c run
    → TakesRun taken (state_of_runs old) (state_of_runs new) c run
takes_run_held true old new c run is = λ frames joined.
    let m = move.Took c (length run) run in
    let before = (state_of_runs old).history in
    ap (λ (w : HeldWire). (state_of_runs w).history) is
    ∙ (ap (λ (opened : List ℕ). record before { streams = Some (streams_after none_taken (old.log ++ m ∷ [])); opened = opened })
    (same_opened old.log m refl)
    ∙ (ap (λ (s : Streams). record before { streams = Some s }) (streams_more none_taken old.log m)
    ∙ (ap (λ (bytes : List ℕ). record before { streams = Some (grown c bytes (streams_after none_taken old.log)) }) (sym joined)
    ∙ sym (run_taken before c frames refl))))
takes_run_held false old new c run is = ap state_of_runs is
