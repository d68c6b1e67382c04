use Rattle.connections.proofs.touched.two_without.Goals as goal

pub returns-else-b-i-clause-behind : goal.returns-else-b-i-clause-behind
returns-else-b-i-clause-behind c = λ k below untouched.
    (c.moved_up.ensures.behind k below untouched.0, c.moved_up-else-b-i.ensures.behind k below untouched.1)
