-- The count of Ends: moves leave it alone, and it rises for a reason.
use Rattle.std.proofs.Common.{◌≡◌, ℕ, List, [], ◌∷◌, ◌++◌, refl, ap, sym, ◌∙◌, length, append-nil, subst, ◌+◌, ◌<◌, arith}
use Rattle.std.specs.Prelude.{Bool, true, false}
use Rattle.std.specs.List.{concat}
use Rattle.ads_outside.specs.declared.moves.Move.{Move}
use Rattle.ads_outside.specs.declared.moves.Move.TheVariants as move
use Rattle.ads_outside.specs.Wholes.{wholes}
use Rattle.ads_outside.specs.declared.next.Next.{Next}
use Rattle.ads_outside.specs.declared.next.Next.TheVariants as next
use Rattle.ads_outside.specs.Rose.{raised}
use Rattle.ads_outside.specs.WireAnswers.{TakesRun, Gives}
use Rattle.ads_outside.specs.WireState.{WireHistory, WireState, logged, event_given, history_after, history_after_move}
use Rattle.daemon_outside.specs.Stops.{raised_if}
use Rattle.watched_wire.specs.Ends.{with_ends, state_with_ends}
use Rattle.watched_wire.specs.Ticks.{is_end}

-- moves behind a history in which End was answered so often
ends_kept : (n : ℕ) (ms : List Move) (h : WireHistory) → with_ends n (history_after h ms) ≡ history_after (with_ends n h) ms
unfolding history_after
ends_kept n [] h = refl
ends_kept n (move.Event e ∷ ms) h = ends_kept n ms (event_given e h)
ends_kept n (move.Took c offered bytes ∷ ms) h = ends_kept n ms (history_after_move h (move.Took c offered bytes))
ends_kept n (move.Lost c ∷ ms) h = ends_kept n ms (history_after_move h (move.Lost c))
ends_kept n (move.Shut c ∷ ms) h = ends_kept n ms (history_after_move h (move.Shut c))

-- a run that the wire takes, or not, it takes so whatever count of Ends is seen
pub takes_run : (taken : Bool) (n : ℕ) (old new : WireState) (c : ℕ) (run : List ℕ) → TakesRun taken old new c run
    → TakesRun taken (state_with_ends n old) (state_with_ends n new) c run
takes_run true n old new c run taken = λ frames are. ap (with_ends n) (taken frames are) ∙ ends_kept n (wholes c frames) old.history
takes_run false n old new c run same = ap (state_with_ends n) same

-- a run that is taken leaves the wire's own count
pub run_keeps_ends : (taken : Bool) (old new : WireState) (c : ℕ) (run : List ℕ) → TakesRun taken old new c run
    → new.history.ends ≡ old.history.ends
unfolding history_after
run_keeps_ends true old new c run taken = ap (λ h. h.ends) (taken (run ∷ []) (append-nil run))
run_keeps_ends false old new c run same = ap (λ s. s.history.ends) same

-- the answer of the wire inside, where the End that it gives is counted
pub gives_with_ends : (answer : Next) (n m : ℕ) (old new : WireState) → Gives answer old new → m ≡ raised_if (is_end answer) n
    → Gives answer (state_with_ends n old) (state_with_ends m new)
gives_with_ends (next.Event e) n m old new gives is = (gives.0, ap (with_ends m) gives.1 ∙ ap (λ k. with_ends k (event_given e old.history)) is)
gives_with_ends next.End n m old new gives is = ap (with_ends m) gives ∙ ap (λ k. with_ends k old.history) is
gives_with_ends next.Failed n m old new gives is = record {
  same = ap (with_ends m) gives.same ∙ ap (λ k. with_ends k (record old.history { stops = new.history.stops })) is;
  stopped = gives.stopped;
  faulted = gives.faulted;
}
gives_with_ends next.Memory n m old new gives is = record {
  same = ap (with_ends m) gives.same ∙ ap (λ k. with_ends k old.history) is;
  wanted = gives.wanted;
}

-- it ended for a reason: the wire inside did
pub end_reason : (answer : Next) (asked m : ℕ) (old new : WireState) → Gives answer old new → m ≡ raised_if (is_end answer) 0 → 0 < m
    → 0 < asked + new.history.ends
end_reason (next.Event e) asked m old new gives is some = absurd (omega (arith, is, some))
end_reason next.End asked m old new gives is some = let ends : new.history.ends ≡ raised old.history.ends = ap (λ h. h.ends) gives in omega (arith, ends)
end_reason next.Failed asked m old new gives is some = absurd (omega (arith, is, some))
end_reason next.Memory asked m old new gives is some = absurd (omega (arith, is, some))
