-- A wire that tells neither its log nor its streams may have taken any run.
use Rattle.std.proofs.Common.{◌≡◌, ℕ, List, true, false, refl, sym, ap, ◌∙◌}
use Rattle.std.specs.Prelude.{Bool, Option, Some, None}
use Rattle.std.specs.List.{concat}
use Rattle.std.specs.Option.{option_map}
use Rattle.ads_outside.specs.Streams.{Streams, grown}
use Rattle.ads_outside.specs.WireAnswers.{TakesRun}
use Rattle.ads_outside.specs.WireState.{WireState, WireHistory}
use Rattle.ads_outside.proofs.StreamLemmas.{run_taken}

still_none : (f : Streams → Streams) (o : Option Streams) → o ≡ None → option_map f o ≡ o
still_none f None e = refl
still_none f (Some s) e = cc

pub takes_run : (taken : Bool) (s : WireState) (c : ℕ) (run : List ℕ) → s.history.log ≡ None → s.history.streams ≡ None → TakesRun taken s s c run
takes_run true s c run no_log no_streams = λ frames joined.
    sym (run_taken s.history c frames no_log
    ∙ ap (λ (o : Option Streams). record s.history { streams = o }) (still_none (grown c (concat frames)) s.history.streams no_streams))
takes_run false s c run no_log no_streams = refl
