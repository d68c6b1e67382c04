-- All that waits for a connection is taken in one run, each frame by an offer of its own.
use Rattle.std.proofs.Common.{◌≡◌, ℕ, List, [], ◌∷◌, length, false, cond, refl, ap, ◌∙◌, subst, arith}
use Rattle.std.specs.Prelude.{Bool, Option, Some, None, option_map}
use Rattle.std.specs.List.{concat}
use Rattle.std.proofs.lemmas.Bool.{le-ltb}
use Rattle.std.proofs.lemmas.List.{take_all}
use Rattle.std.proofs.Math.Nat.{le_refl}
use Rattle.ads_outside.specs.declared.moves.Move.TheVariants as move
use Rattle.ads_outside.specs.Wholes.{wholes}
use Rattle.ads_outside.specs.WireState.{WireHistory, history_after}
use Rattle.spec_machine.specs.Moves.{EventStep, state_after}
use Rattle.spec_machine.specs.Offers.{waiting_at, is_among, blocked_after_move, blocked_after}
use Rattle.spec_machine.specs.Running.{Running, offer_at, first_frame}
use Rattle.spec_machine.proofs.Played.{took-waiting}
use Rattle.ads_served.specs.Due.{IsRun}
use Rattle.ads_served.specs.Standing.{Standing, Noting, standing_after_all, running_after_all}
use Rattle.serve_loop.specs.Leads.{Leads, events_in}
use Rattle.serve_loop.specs.Serving.{Begins}
use Rattle.serve_loop.proofs.OfferLemmas.{begins_took}
use Rattle.serve_loop.proofs.ServeLemmas.{begins_nothing, begins_begins}

-- a connection whose first frame is taken whole is not blocked
free_after : (c : ℕ) (f blocked : List ℕ) → is_among c blocked ≡ false → is_among c (blocked_after_move blocked (move.Took c (length f) f)) ≡ false
free_after c f blocked e = let whole = le-ltb (length f) (length f) (omega arith) in rw whole e

run_after : {W C : Type 0} (step : EventStep W C) (c : ℕ) (x : Running W C) (f : List ℕ) (fs : List (List ℕ)) → IsRun c x (f ∷ fs)
    → IsRun c (running_after_all step x (move.Took c (length f) f ∷ [])) fs
unfolding state_after blocked_after
run_after step c x f fs r = record { free = free_after c f x.blocked r.free; waits = took-waiting step c (length f) f fs x.state r.waits }

-- the first frame is an offer that is taken whole
begins_whole : {W C : Type 0} (step : EventStep W C) (c : ℕ) (x : Running W C) (f : List ℕ) (fs : List (List ℕ)) → IsRun c x (f ∷ fs)
    → Begins step c x (move.Took c (length f) f ∷ [])
begins_whole {W} {C} step c x f fs r =
    let offered : offer_at c x ≡ Some f = ap (λ (b : Bool). cond b None (first_frame (waiting_at c x.state))) r.free ∙ ap first_frame r.waits in
    let P : List ℕ → Type 0 = λ bytes. Begins step c x (move.Took c (length f) bytes ∷ []) in
    subst P (take_all (length f) f (le_refl (length f))) (begins_took step x c f (length f) offered (le_refl (length f)))

-- and so is each
begins_wholes : {W C : Type 0} (step : EventStep W C) (c : ℕ) (frames : List (List ℕ)) (x : Running W C) → IsRun c x frames
    → Begins step c x (wholes c frames)
begins_wholes step c [] x r = begins_nothing step c x
begins_wholes step c (f ∷ fs) x r =
    let first = move.Took c (length f) f ∷ [] in
    begins_begins step c x first (wholes c fs) (begins_whole step c x f fs r)
    (begins_wholes step c fs (running_after_all step x first) (run_after step c x f fs r))

no_events : (c : ℕ) (frames : List (List ℕ)) → events_in (wholes c frames) ≡ 0
no_events c [] = refl
no_events c (f ∷ fs) = no_events c fs

-- a run that was lent is taken
pub leads_run : {W C : Type 0} (step : EventStep W C) (noted : Noting W C) (old_serves new_serves : Standing W C → Type 0)
    (old new : WireHistory) (c : ℕ) (run : List ℕ) (lent : Option (List (List ℕ))) → Some run ≡ option_map concat lent
    → ((frames : List (List ℕ)) → concat frames ≡ run → new ≡ history_after old (wholes c frames))
    → ((x : Standing W C) (frames : List (List ℕ)) → old_serves x → lent ≡ Some frames → new_serves (standing_after_all step noted x (wholes c frames)))
    → ((x : Standing W C) (frames : List (List ℕ)) → old_serves x → lent ≡ Some frames → IsRun c x.running frames)
    → Leads step noted old_serves new_serves old new 0 (Begins step c)
leads_run step noted old_serves new_serves old new c run None e taken follows waits = cc
leads_run step noted old_serves new_serves old new c run (Some frames) e taken follows waits =
    let both : Some run ≡ Some (concat frames) = e in
    let joined : concat frames ≡ run = cc in
    record {
      moves = wholes c frames;
      logged = taken frames joined;
      events = no_events c frames;
      stands = λ x serves. follows x frames serves refl;
      are = λ x serves. begins_wholes step c frames x.running (waits x frames serves refl);
    }
