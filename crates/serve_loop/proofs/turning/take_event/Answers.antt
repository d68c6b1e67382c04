-- The event, what is due, and the connections.
use Rattle.std.proofs.Common.{refl, inl, inr}
use Rattle.serve_loop.proofs.LeadLemmas.{breaks_nowhere, leads_from, on_err}
use Rattle.serve_loop.proofs.TurnLemmas.{comes_to}
use Rattle.serve_loop.proofs.turning.take_event.Goals as goal

pub returns-in_err-step_beside-clause-no_memory : goal.returns-in_err-step_beside-clause-no_memory
returns-in_err-step_beside-clause-no_memory g c = on_err _ (breaks_nowhere _ _ _ _ _ refl)

pub returns-in_err-step_beside-clause-memory : goal.returns-in_err-step_beside-clause-memory
returns-in_err-step_beside-clause-memory g c = on_err _ (inr c.in_err-step_beside.ensures.no_memory)

pub returns-in_err-due-clause-no_memory : goal.returns-in_err-due-clause-no_memory
returns-in_err-due-clause-no_memory g c = on_err _ (breaks_nowhere _ _ _ _ _ refl)

pub returns-in_err-due-clause-memory : goal.returns-in_err-due-clause-memory
returns-in_err-due-clause-memory g c = on_err _ (inr c.in_err-due.ensures.no_memory)

pub returns-in_err-serve_each-clause-no_memory : goal.returns-in_err-serve_each-clause-no_memory
returns-in_err-serve_each-clause-no_memory g c =
    on_err _ (leads_from _ _ _ _ _ _ _ _ _ _
    (λ y comes. c.in_ok-due.ensures.stays y (comes_to _ _ _ (g.M.Served.serves c.step_beside.new.served) _ c.in_ok-step_beside.ensures.follows y comes))
    (λ y ms serves offers. offers) c.in_err-serve_each.ensures.no_memory)

pub returns-in_err-serve_each-clause-memory : goal.returns-in_err-serve_each-clause-memory
returns-in_err-serve_each-clause-memory g c = on_err _ (inl c.in_err-serve_each.ensures.memory)

pub returns-clause-ok : goal.returns-clause-ok
returns-clause-ok g c =
    leads_from _ _ _ _ _ _ _ _ _ _
    (λ y comes. c.in_ok-due.ensures.stays y (comes_to _ _ _ (g.M.Served.serves c.step_beside.new.served) _ c.in_ok-step_beside.ensures.follows y comes))
    (λ y ms serves all. all (rw c.as_slice.ensures.value (c.in_ok-due.ensures.due y serves)) (g.met.M.Served.apart c.due.new.self y serves))
    c.in_ok-serve_each.ensures.ok

pub returns-in_err-step_beside-clause-untold : goal.returns-in_err-step_beside-clause-untold
returns-in_err-step_beside-clause-untold g c = on_err _ (inl (refl, c.in_err-step_beside.ensures.untold))

pub returns-in_err-due-clause-untold : goal.returns-in_err-due-clause-untold
returns-in_err-due-clause-untold g c = on_err _ (inr c.in_ok-step_beside.ensures.told)

pub returns-in_err-serve_each-clause-untold : goal.returns-in_err-serve_each-clause-untold
returns-in_err-serve_each-clause-untold g c = on_err _ (inr c.in_ok-step_beside.ensures.told)
