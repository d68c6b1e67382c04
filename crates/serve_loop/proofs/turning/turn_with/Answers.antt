-- An event that the wire gave, and what follows it.
use Rattle.std.proofs.Common.{sym, ◌∙◌, inl}
use Rattle.serve_loop.proofs.TellLemmas.{told_event, told_broken, untold_turn, tells_after}
use Rattle.serve_loop.proofs.TurnLemmas.{event_leads, takes_event, breaks_event, breaks_none, told_after}
use Rattle.serve_loop.proofs.WantLemmas.{wanting_later, event_is_told}
use Rattle.serve_loop.proofs.turning.turn_with.Goals as goal

pub returns-in-Memory-clause-turn : goal.returns-in-Memory-clause-turn
returns-in-Memory-clause-turn g c = breaks_none _ _ _ _ _ c.in-Memory.ensures.gives.same

pub returns-in-Memory-clause-memory : goal.returns-in-Memory-clause-memory
returns-in-Memory-clause-memory g c = λ is. inl c.in-Memory.ensures.gives.wanted

pub returns-in-Ok-clause-memory : goal.returns-in-Ok-clause-memory
returns-in-Ok-clause-memory g c = λ is. absurd (event_is_told c.in-Event.event (sym c.give_back.ensures.told ∙ is))

pub returns-in-Err-clause-memory : goal.returns-in-Err-clause-memory
returns-in-Err-clause-memory g c = λ is.
    wanting_later _ (g.W.Wire.state c.args.wire.now) (g.W.Wire.state c.next.new.self)
    (g.W.Wire.state c.take_event.new.wire) c.next.ensures.wanted c.in-Err.ensures.memory

pub returns-in-Ok-clause-turn : goal.returns-in-Ok-clause-turn
returns-in-Ok-clause-turn g c =
    let gives = c.in-Event.ensures.gives in
    let takes = takes_event _ _ _ _ _ _ c.in-Event.event
    (event_leads _ _ g.met.M.Served.opens_alone _ _ _ _ _ c.in-Event.event gives.0 gives.1 c.in-Ok.ensures.ok) in
    told_after _ _ _ _ _ _ _ c.in-Event.event c.give_back.ensures.same takes _ c.give_back.ensures.told

pub returns-in-Err-clause-turn : goal.returns-in-Err-clause-turn
returns-in-Err-clause-turn g c =
    let gives = c.in-Event.ensures.gives in
    breaks_event _ _ _ _ _ _ c.in-Event.event gives.0 gives.1 c.in-Err.ensures.no_memory

pub returns-in-Memory-clause-told : goal.returns-in-Memory-clause-told
returns-in-Memory-clause-told g c = untold_turn _ _ _ _ _ _ _ _ c.in-Memory.ensures.gives.same (λ before old. old)

pub returns-in-Ok-clause-told : goal.returns-in-Ok-clause-told
returns-in-Ok-clause-told g c =
    let gives = c.in-Event.ensures.gives in
    let leads = event_leads _ _ g.met.M.Served.opens_alone _ _ _ _ _ c.in-Event.event gives.0 gives.1 c.in-Ok.ensures.ok in
    tells_after _ _ _ _ _ _ (g.W.Wire.state c.take_event.new.wire) (g.W.Wire.state c.give_back.new.wire) c.in-Event.event _ _ c.give_back.ensures.same
    (told_event _ _ _ _ _ _ _ c.in-Event.event _ _ leads c.in-Ok.ensures.told) _ c.give_back.ensures.told

pub returns-in-Err-clause-told : goal.returns-in-Err-clause-told
returns-in-Err-clause-told g c =
    told_broken _ _ _ _ _ _ _ c.in-Event.event _ _ c.in-Event.ensures.gives.1 c.in-Err.ensures.no_memory c.in-Err.ensures.untold
