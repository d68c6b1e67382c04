-- What the end of a run says of the wire's counts and of its log.
use Rattle.std.proofs.Common.{◌≡◌, ◌≢◌, ℕ, ◌+◌, List, [], ◌∷◌, ◌++◌, true, false, refl, sym, ap, ◌∙◌, subst, append_assoc, append-nil, suc, arith}
use Rattle.std.specs.Prelude.{Bool, Option, Some, None, ◌==◌, if◌then◌else◌}
use Rattle.std.specs.Option.{option_map}
use Rattle.ads_outside.specs.declared.end.End.{End}
use Rattle.ads_outside.specs.declared.end.End.TheVariants as end
use Rattle.ads_outside.specs.declared.moves.Move.{Move}
use Rattle.ads_outside.specs.declared.moves.Move.TheVariants as move
use Rattle.ads_outside.specs.Rose.{Rose, raised}
use Rattle.ads_outside.specs.Streams.{Streams, grown}
use Rattle.ads_outside.specs.WireState.{WireState, WireHistory, history_after_move, history_after, event_given}
use Rattle.spec_machine.specs.Moves.{EventStep}
use Rattle.spec_machine.specs.Offers.{taken_of}
use Rattle.spec_machine.specs.Running.{Running}
use Rattle.spec_machine.specs.Turns.{KeepsTurns, AreTurns}
use Rattle.ads_served.specs.Standing.{Standing, Noting}
use Rattle.serve_loop.specs.declared.loop_end.LoopEnd.TheVariants as loop
use Rattle.serve_loop.specs.Beside.{AfterLoop}
use Rattle.serve_loop.specs.Leads.{events_in}
use Rattle.serve_loop.specs.Looks.{Look}
use Rattle.serve_loop.specs.ToldLog.{WhereTold, LogsOffers, LogsTurns}
use Rattle.serve_loop.specs.ToldStreams.{grown_by, StreamsOfTurns}
use Rattle.serve_loop.specs.TurnTaken.{StandsOver, AreTurnsOf, TakesTurns, AfterServe, raised_by, GaveEvents}
use Rattle.serve_loop.proofs.LeadLemmas.{events-append, history-append}
use Rattle.serve_loop.proofs.TurnLemmas.{stops-after, ends-after}

-- what a loop leads to beside which nobody stands
pub served_alone : {W C K : Type 0} (body_of : W → List ℕ) (step : EventStep W C) (noted : Noting W C) (old_serves new_serves : Standing W C → Type 0)
    (old new : WireState) (limit : ℕ) (Seen : K → List Look → Type 0) (r : End)
    → AfterLoop (loop.Ended r) body_of step noted old_serves new_serves old new limit Seen
    → AfterServe r step noted old_serves new_serves old new limit
served_alone body_of step noted old_serves new_serves old new limit Seen end.Done after =
    record { last = after.last; count = after.count; fewer = after.fewer; turns = after.shows.turns; then_ = after.then_ }
served_alone body_of step noted old_serves new_serves old new limit Seen end.Budget after = after.turns
served_alone body_of step noted old_serves new_serves old new limit Seen end.LinkFault after =
    record { last = after.last; count = after.count; fewer = after.fewer; turns = after.shows.turns; then_ = after.then_ }
served_alone body_of step noted old_serves new_serves old new limit Seen end.Memory after =
    let ms = after.shows.turns.moves in
    let ns = after.later in
    record {
      count = after.count + events_in ns;
      within = after.most;
      breaks = record {
        moves = ms ++ ns;
        logged = after.logged ∙ (ap (λ h. history_after h ns) after.shows.turns.logged ∙ sym (history-append old.history ms ns));
        events = events-append ms ns ∙ ap (λ k. k + events_in ns) after.shows.turns.events;
        stands = λ x over. tt;
        are = λ x over. after.offers x over;
      };
    }

more : (m : Move) (o : Option (List Move)) (log : List Move) → o ≡ Some log → option_map (λ ms. ms ++ m ∷ []) o ≡ Some (log ++ m ∷ [])
more m o log told = ap (option_map (λ ms. ms ++ m ∷ [])) told

-- the log after further moves
pub log-after : (ms : List Move) (h : WireHistory) (log : List Move) → h.log ≡ Some log → (history_after h ms).log ≡ Some (log ++ ms)
unfolding history_after
log-after [] h log told = told ∙ ap Some (sym (append-nil log))
log-after (move.Event e ∷ ms) h log told =
    log-after ms (event_given e h) (log ++ move.Event e ∷ []) (more (move.Event e) h.log log told) ∙ ap Some (append_assoc log (move.Event e ∷ []) ms)
log-after (move.Took c offered bytes ∷ ms) h log told =
    let m = move.Took c offered bytes in
    log-after ms (history_after_move h m) (log ++ m ∷ []) (more m h.log log told) ∙ ap Some (append_assoc log (m ∷ []) ms)
log-after (move.Lost c ∷ ms) h log told =
    log-after ms (history_after_move h (move.Lost c)) (log ++ move.Lost c ∷ []) (more (move.Lost c) h.log log told)
    ∙ ap Some (append_assoc log (move.Lost c ∷ []) ms)
log-after (move.Shut c ∷ ms) h log told =
    log-after ms (history_after_move h (move.Shut c)) (log ++ move.Shut c ∷ []) (more (move.Shut c) h.log log told)
    ∙ ap Some (append_assoc log (move.Shut c ∷ []) ms)

taken_none : (o : Option Streams) → o ≡ option_map (grown_by []) o
unfolding taken_of
taken_none None = refl
taken_none (Some s) = ap Some (sym (λ i c. append-nil (s c) i))

more_where : (b : Bool) (xs ys zs : List ℕ)
    → (if b then xs ++ ys else xs) ++ zs ≡ xs ++ (if b then ys ++ zs else zs)
more_where true xs ys zs = append_assoc xs ys zs
more_where false xs ys zs = refl

taken_more : (n offered : ℕ) (bytes : List ℕ) (ms : List Move) (o : Option Streams)
    → option_map (grown_by ms) (option_map (grown n bytes) o) ≡ option_map (grown_by (move.Took n offered bytes ∷ ms)) o
unfolding taken_of
taken_more n offered bytes ms None = refl
taken_more n offered bytes ms (Some s) = ap Some (λ i c. more_where (n == c) (s c) bytes (taken_of c ms) i)

-- the streams after further moves, where they are told
pub streams-after : (ms : List Move) (h : WireHistory) → (history_after h ms).streams ≡ option_map (grown_by ms) h.streams
unfolding history_after taken_of
streams-after [] h = taken_none h.streams
streams-after (move.Event e ∷ ms) h = streams-after ms (event_given e h)
streams-after (move.Took c offered bytes ∷ ms) h =
    streams-after ms (history_after_move h (move.Took c offered bytes)) ∙ taken_more c offered bytes ms h.streams
streams-after (move.Lost c ∷ ms) h = streams-after ms (history_after_move h (move.Lost c))
streams-after (move.Shut c ∷ ms) h = streams-after ms (history_after_move h (move.Shut c))

raised_again : (n k : ℕ) → raised_by n (raised k) ≡ raised_by (n + 1) k
unfolding raised_by
raised_again n k = let e : suc n ≡ n + 1 = omega arith in ap (λ m. raised_by m k) e

-- how many events were given
pub events-after : (ms : List Move) (h : WireHistory) → (history_after h ms).events ≡ raised_by (events_in ms) h.events
unfolding history_after raised_by
events-after [] h = refl
events-after (move.Event e ∷ ms) h = events-after ms (event_given e h) ∙ raised_again (events_in ms) h.events
events-after (move.Took c offered bytes ∷ ms) h = events-after ms (history_after_move h (move.Took c offered bytes))
events-after (move.Lost c ∷ ms) h = events-after ms (history_after_move h (move.Lost c))
events-after (move.Shut c ∷ ms) h = events-after ms (history_after_move h (move.Shut c))

-- the turns of a run that memory did not end, up to a history with the same log and stops
record TurnsOf {W C : Type 0} (step : EventStep W C) (noted : Noting W C) (old_serves new_serves : Standing W C → Type 0) (old new : WireHistory) : Type 0 where
  last : WireHistory
  count : ℕ
  turns : TakesTurns step noted old_serves new_serves old last count
  log : new.log ≡ last.log
  streams : new.streams ≡ last.streams

turns_of : {W C : Type 0} (step : EventStep W C) (noted : Noting W C) (old_serves new_serves : Standing W C → Type 0)
    (old new : WireState) (limit : ℕ) (r : End) → r ≢ end.Memory → AfterServe r step noted old_serves new_serves old new limit
    → TurnsOf step noted old_serves new_serves old.history new.history
turns_of step noted old_serves new_serves old new limit end.Done other after =
    record {
      last = after.last;
      count = after.count;
      turns = after.turns;
      log = ap (λ (h : WireHistory). h.log) after.then_;
      streams = ap (λ (h : WireHistory). h.streams) after.then_;
    }
turns_of step noted old_serves new_serves old new limit end.Budget other after =
    record { last = new.history; count = limit; turns = after; log = refl; streams = refl }
turns_of step noted old_serves new_serves old new limit end.LinkFault other after =
    record {
      last = after.last;
      count = after.count;
      turns = after.turns;
      log = ap (λ (h : WireHistory). h.log) after.then_.same;
      streams = ap (λ (h : WireHistory). h.streams) after.then_.same;
    }
turns_of step noted old_serves new_serves old new limit end.Memory other after = absurd (other refl)

where_told : {T : Type 0} (o : Option T) (P : T → Type 0) → ((t : T) → o ≡ Some t → P t) → WhereTold o P
where_told None P told = tt
where_told (Some t) P told = told t refl

keeps_turns : {W C : Type 0} (step : EventStep W C) (x : Running W C) (ms : List Move) → AreTurnsOf step x ms → x.blocked ≡ [] → KeepsTurns step x.state ms
keeps_turns step x ms are none =
    let P : List ℕ → Type 0 = λ blocked. AreTurns step blocked x.state are.turns in
    record { turns = are.turns; whole = are.are; served = subst P none are.served }

-- what is told of the turns
pub logs_turns : {W C : Type 0} (step : EventStep W C) (noted : Noting W C) (old_serves new_serves : Standing W C → Type 0)
    (old new : WireState) (limit : ℕ) (r : End) → AfterServe r step noted old_serves new_serves old new limit → r ≢ end.Memory
    → (x : Standing W C) → StandsOver old_serves old.history.opened x → WhereTold old.history.log (λ log. LogsTurns step noted new_serves x log new.history.log)
logs_turns step noted old_serves new_serves old new limit r after other x over =
    let of_ = turns_of step noted old_serves new_serves old new limit r other after in
    where_told old.history.log (λ log. LogsTurns step noted new_serves x log new.history.log) (λ log told. record {
      moves = of_.turns.moves;
      told = of_.log ∙ (ap (λ (h : WireHistory). h.log) of_.turns.logged ∙ log-after of_.turns.moves old.history log told);
      stands = (of_.turns.stands x over).stands;
      keeps = keeps_turns step x.running of_.turns.moves (of_.turns.are x over);
    })

offers_of : {W C : Type 0} (step : EventStep W C) (noted : Noting W C) (old_serves new_serves : Standing W C → Type 0)
    (old new : WireState) (limit : ℕ) (r : End) → r ≢ end.Memory → AfterServe r step noted old_serves new_serves old new limit
    → (x : Standing W C) → StandsOver old_serves old.history.opened x → WhereTold old.history.log (λ log. LogsOffers step x.running.state log new.history.log)
offers_of step noted old_serves new_serves old new limit r other after x over =
    let of_ = turns_of step noted old_serves new_serves old new limit r other after in
    where_told old.history.log (λ log. LogsOffers step x.running.state log new.history.log) (λ log told. record {
      moves = of_.turns.moves;
      told = of_.log ∙ (ap (λ (h : WireHistory). h.log) of_.turns.logged ∙ log-after of_.turns.moves old.history log told);
      offers = (of_.turns.are x over).offers;
    })

-- and of the offers, in every end
pub logs_offers : {W C : Type 0} (step : EventStep W C) (noted : Noting W C) (old_serves new_serves : Standing W C → Type 0)
    (old new : WireState) (limit : ℕ) (r : End) → AfterServe r step noted old_serves new_serves old new limit
    → (x : Standing W C) → StandsOver old_serves old.history.opened x → WhereTold old.history.log (λ log. LogsOffers step x.running.state log new.history.log)
logs_offers step noted old_serves new_serves old new limit end.Memory after x over =
    where_told old.history.log (λ log. LogsOffers step x.running.state log new.history.log) (λ log told. record {
      moves = after.breaks.moves;
      told = ap (λ (h : WireHistory). h.log) after.breaks.logged ∙ log-after after.breaks.moves old.history log told;
      offers = after.breaks.are x over;
    })
logs_offers step noted old_serves new_serves old new limit end.Done after x over =
    offers_of step noted old_serves new_serves old new limit end.Done (λ e. (cc)) after x over
logs_offers step noted old_serves new_serves old new limit end.Budget after x over =
    offers_of step noted old_serves new_serves old new limit end.Budget (λ e. (cc)) after x over
logs_offers step noted old_serves new_serves old new limit end.LinkFault after x over =
    offers_of step noted old_serves new_serves old new limit end.LinkFault (λ e. (cc)) after x over

streams_of : {W C : Type 0} (step : EventStep W C) (noted : Noting W C) (old_serves new_serves : Standing W C → Type 0)
    (old new : WireState) (limit : ℕ) (r : End) → r ≢ end.Memory → AfterServe r step noted old_serves new_serves old new limit
    → (x : Standing W C) → StandsOver old_serves old.history.opened x
    → WhereTold old.history.streams (λ streams. StreamsOfTurns r step noted new_serves x streams new.history.streams)
streams_of step noted old_serves new_serves old new limit r other after x over =
    let of_ = turns_of step noted old_serves new_serves old new limit r other after in
    where_told old.history.streams (λ streams. StreamsOfTurns r step noted new_serves x streams new.history.streams) (λ streams told. record {
      moves = of_.turns.moves;
      told = of_.streams ∙ (ap (λ (h : WireHistory). h.streams) of_.turns.logged
          ∙ (streams-after of_.turns.moves old.history ∙ ap (option_map (grown_by of_.turns.moves)) told));
      offers = (of_.turns.are x over).offers;
      stands = λ _. (of_.turns.stands x over).stands;
      keeps = λ _. keeps_turns step x.running of_.turns.moves (of_.turns.are x over);
    })

-- what is told of the streams, in every end
pub streams_of_turns : {W C : Type 0} (step : EventStep W C) (noted : Noting W C) (old_serves new_serves : Standing W C → Type 0)
    (old new : WireState) (limit : ℕ) (r : End) → AfterServe r step noted old_serves new_serves old new limit
    → (x : Standing W C) → StandsOver old_serves old.history.opened x
    → WhereTold old.history.streams (λ streams. StreamsOfTurns r step noted new_serves x streams new.history.streams)
streams_of_turns step noted old_serves new_serves old new limit end.Memory after x over =
    where_told old.history.streams (λ streams. StreamsOfTurns end.Memory step noted new_serves x streams new.history.streams) (λ streams told. record {
      moves = after.breaks.moves;
      told = ap (λ (h : WireHistory). h.streams) after.breaks.logged
          ∙ (streams-after after.breaks.moves old.history ∙ ap (option_map (grown_by after.breaks.moves)) told);
      offers = after.breaks.are x over;
      stands = λ other. absurd (other refl);
      keeps = λ other none. absurd (other refl);
    })
streams_of_turns step noted old_serves new_serves old new limit end.Done after x over =
    streams_of step noted old_serves new_serves old new limit end.Done (λ e. (cc)) after x over
streams_of_turns step noted old_serves new_serves old new limit end.Budget after x over =
    streams_of step noted old_serves new_serves old new limit end.Budget (λ e. (cc)) after x over
streams_of_turns step noted old_serves new_serves old new limit end.LinkFault after x over =
    streams_of step noted old_serves new_serves old new limit end.LinkFault (λ e. (cc)) after x over

-- the counts: of stops
pub no_stops : {W C : Type 0} (step : EventStep W C) (noted : Noting W C) (old_serves new_serves : Standing W C → Type 0)
    (old new : WireState) (limit : ℕ) (r : End) → AfterServe r step noted old_serves new_serves old new limit
    → r ≢ end.LinkFault → new.history.stops ≡ old.history.stops
no_stops step noted old_serves new_serves old new limit end.Done after other =
    ap (λ (h : WireHistory). h.stops) after.then_ ∙ (ap (λ (h : WireHistory). h.stops) after.turns.logged ∙ stops-after after.turns.moves old.history)
no_stops step noted old_serves new_serves old new limit end.Budget after other =
    ap (λ (h : WireHistory). h.stops) after.logged ∙ stops-after after.moves old.history
no_stops step noted old_serves new_serves old new limit end.LinkFault after other = absurd (other refl)
no_stops step noted old_serves new_serves old new limit end.Memory after other =
    ap (λ (h : WireHistory). h.stops) after.breaks.logged ∙ stops-after after.breaks.moves old.history

pub stops_rose : {W C : Type 0} (step : EventStep W C) (noted : Noting W C) (old_serves new_serves : Standing W C → Type 0)
    (old new : WireState) (limit : ℕ) (r : End) → AfterServe r step noted old_serves new_serves old new limit
    → r ≡ end.LinkFault → Rose old.history.stops new.history.stops
stops_rose step noted old_serves new_serves old new limit end.Done after is = cc
stops_rose step noted old_serves new_serves old new limit end.Budget after is = cc
stops_rose step noted old_serves new_serves old new limit end.LinkFault after is = after.then_.stopped
stops_rose step noted old_serves new_serves old new limit end.Memory after is = cc

-- of ends
pub no_end : {W C : Type 0} (step : EventStep W C) (noted : Noting W C) (old_serves new_serves : Standing W C → Type 0)
    (old new : WireState) (limit : ℕ) (r : End) → AfterServe r step noted old_serves new_serves old new limit
    → r ≢ end.Done → new.history.ends ≡ old.history.ends
no_end step noted old_serves new_serves old new limit end.Done after other = absurd (other refl)
no_end step noted old_serves new_serves old new limit end.Budget after other =
    ap (λ (h : WireHistory). h.ends) after.logged ∙ ends-after after.moves old.history
no_end step noted old_serves new_serves old new limit end.LinkFault after other =
    ap (λ (h : WireHistory). h.ends) after.then_.same ∙ (ap (λ (h : WireHistory). h.ends) after.turns.logged ∙ ends-after after.turns.moves old.history)
no_end step noted old_serves new_serves old new limit end.Memory after other =
    ap (λ (h : WireHistory). h.ends) after.breaks.logged ∙ ends-after after.breaks.moves old.history

pub end_rose : {W C : Type 0} (step : EventStep W C) (noted : Noting W C) (old_serves new_serves : Standing W C → Type 0)
    (old new : WireState) (limit : ℕ) (r : End) → AfterServe r step noted old_serves new_serves old new limit
    → r ≡ end.Done → new.history.ends ≡ raised old.history.ends
end_rose step noted old_serves new_serves old new limit end.Done after is =
    ap (λ (h : WireHistory). h.ends) after.then_ ∙ ap raised (ap (λ (h : WireHistory). h.ends) after.turns.logged ∙ ends-after after.turns.moves old.history)
end_rose step noted old_serves new_serves old new limit end.Budget after is = cc
end_rose step noted old_serves new_serves old new limit end.LinkFault after is = cc
end_rose step noted old_serves new_serves old new limit end.Memory after is = cc

-- and of events
pub events_by : {W C : Type 0} (step : EventStep W C) (noted : Noting W C) (old_serves new_serves : Standing W C → Type 0)
    (old new : WireState) (limit : ℕ) (r : End) → AfterServe r step noted old_serves new_serves old new limit → GaveEvents r old.history new.history limit
events_by step noted old_serves new_serves old new limit end.Done after = record {
  count = after.count;
  most = omega (arith, after.fewer);
  exactly = after.fewer;
  events = ap (λ (h : WireHistory). h.events) after.then_
      ∙ (ap (λ (h : WireHistory). h.events) after.turns.logged
      ∙ (events-after after.turns.moves old.history ∙ ap (λ n. raised_by n old.history.events) after.turns.events));
}
events_by step noted old_serves new_serves old new limit end.Budget after = record {
  count = limit;
  most = omega arith;
  exactly = refl;
  events = ap (λ (h : WireHistory). h.events) after.logged ∙ (events-after after.moves old.history ∙ ap (λ n. raised_by n old.history.events) after.events);
}
events_by step noted old_serves new_serves old new limit end.LinkFault after = record {
  count = after.count;
  most = omega (arith, after.fewer);
  exactly = after.fewer;
  events = ap (λ (h : WireHistory). h.events) after.then_.same
      ∙ (ap (λ (h : WireHistory). h.events) after.turns.logged
      ∙ (events-after after.turns.moves old.history ∙ ap (λ n. raised_by n old.history.events) after.turns.events));
}
events_by step noted old_serves new_serves old new limit end.Memory after = record {
  count = after.count;
  most = after.within;
  exactly = tt;
  events = ap (λ (h : WireHistory). h.events) after.breaks.logged
      ∙ (events-after after.breaks.moves old.history ∙ ap (λ n. raised_by n old.history.events) after.breaks.events);
}
