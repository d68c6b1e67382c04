-- Which calls leave the count of ticks, and what is due behind an answer.
use Rattle.std.proofs.Common.{◌≡◌, ℕ, ◌+◌, ◌-◌, ◌^◌, ◌<◌, List, [], ◌∷◌, ◌++◌, refl, ap, sym, ◌∙◌, length, append-nil, subst, arith}
use Rattle.std.specs.Prelude.{Bool, true, false, Option, Some, None, min, count_by, cond, take}
use Rattle.std.specs.Option.{option_map}
use Rattle.std.proofs.lemmas.List.Sums.{sum_by-append}
use Rattle.std.proofs.lemmas.Option.{none-some, same_Some}
use Rattle.ads_outside.specs.declared.listening.Listening.{Listening}
use Rattle.ads_outside.specs.declared.moves.Move.{Move}
use Rattle.ads_outside.specs.declared.moves.Move.TheVariants as move
use Rattle.ads_outside.specs.declared.next.Next.{Next}
use Rattle.ads_outside.specs.declared.next.Next.TheVariants as next
use Rattle.ads_outside.specs.declared.offer.Offer.{Offer}
use Rattle.ads_outside.specs.declared.offer.Offer.TheVariants as offer
use Rattle.ads_outside.specs.declared.shut.Shut.{Shut}
use Rattle.ads_outside.specs.declared.shut.Shut.TheVariants as shut
use Rattle.ads_outside.specs.declared.started.Started.{Started}
use Rattle.ads_outside.specs.declared.started.Started.TheVariants as started
use Rattle.ads_outside.specs.Rose.{raised}
use Rattle.ads_outside.specs.WireAnswers.{Starts, Gives, Takes, TakesRun, Shuts}
use Rattle.ads_outside.specs.WireState.{WireHistory, WireState, history_after}
use Rattle.daemon_outside.specs.Stops.{raised_if}
use Rattle.watched_wire.specs.Ticks.{TicksAre, is_tick_move, is_tick_next}

count_step : (b : Bool) (n total ticks : ℕ) → total ≡ n + (0 + cond b 1 0) → ticks ≡ min n (2 ^ 64 - 1)
    → raised_if b ticks ≡ min total (2 ^ 64 - 1)
count_step true n total ticks is are = omega (arith, is, are)
count_step false n total ticks is are = omega (arith, is, are)

-- the count with one more move in the log, where it is told
ticks_more : (m : Move) (ticks : ℕ) (o : Option (List Move)) → TicksAre ticks o
    → TicksAre (raised_if (is_tick_move m) ticks) (option_map (λ ms. ms ++ m ∷ []) o)
ticks_more m ticks None are = λ log is. absurd (none-some log is)
ticks_more m ticks (Some log) are = λ more is.
    subst (λ ms. raised_if (is_tick_move m) ticks ≡ min (count_by is_tick_move ms) (2 ^ 64 - 1)) (same_Some (log ++ m ∷ []) more is)
    (count_step (is_tick_move m) (count_by is_tick_move log) (count_by is_tick_move (log ++ m ∷ [])) ticks
    (sum_by-append (λ x. cond (is_tick_move x) 1 0) log (m ∷ [])) (are log refl))

-- a log that is the same
log_same : (ticks : ℕ) (old new : Option (List Move)) → new ≡ old → TicksAre ticks old → TicksAre ticks new
log_same ticks old new same are = subst (TicksAre ticks) (sym same) are

pub same_ticks : (ticks : ℕ) (old new : WireState) → new ≡ old → TicksAre ticks old.history.log → TicksAre ticks new.history.log
same_ticks ticks old new same are = log_same ticks old.history.log new.history.log (ap (λ s. s.history.log) same) are

-- no start and no offer is a tick, and no shutting
pub starts_ticks : (ticks : ℕ) (answer : Started) (old new : WireState) (a : Listening) → Starts answer old new a
    → TicksAre ticks old.history.log → TicksAre ticks new.history.log
starts_ticks ticks started.Ready old new a starts are = log_same ticks old.history.log new.history.log (ap (λ h. h.log) starts) are
starts_ticks ticks started.Failed old new a starts are = log_same ticks old.history.log new.history.log (ap (λ h. h.log) starts.same) are
starts_ticks ticks started.Memory old new a starts are = log_same ticks old.history.log new.history.log (ap (λ h. h.log) starts.same) are

pub takes_ticks : (ticks : ℕ) (answer : Offer) (old new : WireState) (c : ℕ) (bytes : List ℕ) → Takes answer old new c bytes
    → TicksAre ticks old.history.log → TicksAre ticks new.history.log
takes_ticks ticks (offer.Took n) old new c bytes takes are =
    subst (TicksAre ticks) (sym (ap (λ h. h.log) takes.1)) (ticks_more (move.Took c (length bytes) (take n bytes)) ticks old.history.log are)
takes_ticks ticks offer.Failed old new c bytes takes are =
    subst (TicksAre ticks) (sym (ap (λ h. h.log) takes.0)) (ticks_more (move.Lost c) ticks old.history.log are)
takes_ticks ticks offer.Memory old new c bytes takes are = log_same ticks old.history.log new.history.log (ap (λ h. h.log) takes.same) are

pub run_ticks : (ticks : ℕ) (taken : Bool) (old new : WireState) (c : ℕ) (run : List ℕ) → TakesRun taken old new c run
    → TicksAre ticks old.history.log → TicksAre ticks new.history.log
unfolding history_after
run_ticks ticks true old new c run taken are =
    subst (TicksAre ticks) (sym (ap (λ h. h.log) (taken (run ∷ []) (append-nil run))))
    (ticks_more (move.Took c (length run) run) ticks old.history.log are)
run_ticks ticks false old new c run same are = same_ticks ticks old new same are

pub shuts_ticks : (ticks : ℕ) (answer : Shut) (old new : WireState) (c : ℕ) → Shuts answer old new c
    → TicksAre ticks old.history.log → TicksAre ticks new.history.log
shuts_ticks ticks shut.Done old new c shuts are =
    subst (TicksAre ticks) (sym (ap (λ h. h.log) shuts)) (ticks_more (move.Shut c) ticks old.history.log are)
shuts_ticks ticks shut.Memory old new c shuts are = log_same ticks old.history.log new.history.log (ap (λ h. h.log) shuts.same) are

-- an answer counts where it is a tick
pub gives_ticks : (ticks now : ℕ) (answer : Next) (old new : WireState) → Gives answer old new → now ≡ raised_if (is_tick_next answer) ticks
    → TicksAre ticks old.history.log → TicksAre now new.history.log
gives_ticks ticks now (next.Event e) old new gives is are =
    subst (λ n. TicksAre n new.history.log) (sym is)
    (subst (TicksAre (raised_if (is_tick_next (next.Event e)) ticks)) (sym (ap (λ h. h.log) gives.1)) (ticks_more (move.Event e) ticks old.history.log are))
gives_ticks ticks now next.End old new gives is are =
    subst (λ n. TicksAre n new.history.log) (sym is) (log_same ticks old.history.log new.history.log (ap (λ h. h.log) gives) are)
gives_ticks ticks now next.Failed old new gives is are =
    subst (λ n. TicksAre n new.history.log) (sym is) (log_same ticks old.history.log new.history.log (ap (λ h. h.log) gives.same) are)
gives_ticks ticks now next.Memory old new gives is are =
    subst (λ n. TicksAre n new.history.log) (sym is) (log_same ticks old.history.log new.history.log (ap (λ h. h.log) gives.same) are)

-- behind a tick one more look is due
pub looks_due : (tick due : Bool) (looks ticks now : ℕ) → due ≡ tick → now ≡ raised_if tick ticks → looks ≡ raised ticks
    → raised_if due looks ≡ raised now
looks_due true due looks ticks now is more same = ap (λ d. raised_if d looks) is ∙ (ap raised same ∙ ap raised (sym more))
looks_due false due looks ticks now is more same = ap (λ d. raised_if d looks) is ∙ (same ∙ ap raised (sym more))
