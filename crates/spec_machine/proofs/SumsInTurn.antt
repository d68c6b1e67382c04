-- To decide all parts of a sum first and to run them then is to run them one after another.
use Rattle.std.proofs.Common.{[], ◌∷◌, refl, ap}
use Rattle.spec_machine.specs.Acts.{outcomes_of, memory_after_acts, client_after_acts}
use Rattle.spec_machine.specs.Sums.{given_in_turn, left_in_turn}
use Rattle.spec_machine.specs.SumPackets.{acts_of}
use Rattle.spec_machine.specs.SumLaws.{single_outcome, party_after, RunsInTurn}

pub runs_in_turn : RunsInTurn
unfolding acts_of given_in_turn left_in_turn outcomes_of memory_after_acts client_after_acts
runs_in_turn w k [] p = record { outcomes = refl; memory = refl; client = refl }
runs_in_turn w k (r ∷ rs) p =
    let rest = runs_in_turn w k rs (party_after w k p r) in
    record { outcomes = ap (λ os. single_outcome w k p r ∷ os) rest.outcomes; memory = rest.memory; client = rest.client }
