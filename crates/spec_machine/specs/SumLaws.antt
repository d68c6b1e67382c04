-- The parts of a sum run one after another, each on the client and the bytes that the part before left.
use Rattle.std.specs.Prelude.{◌≡◌, List}
use Rattle.spec_plant.specs.World.{Block}
use Rattle.spec_formats.specs.Request.{Request}
use Rattle.spec_machine.specs.World.{Setup}
use Rattle.spec_machine.specs.Client.{Client, client_after}
use Rattle.spec_machine.specs.Acts.{Outcome, outcome_of, memory_after, effect_of, outcomes_of}
use Rattle.spec_machine.specs.Acts.{memory_after_acts, client_after_acts}
use Rattle.spec_machine.specs.Writes.{Asker}
use Rattle.spec_machine.specs.Requests.{act_of}
use Rattle.spec_machine.specs.Sums.{given_in_turn, left_in_turn}
use Rattle.spec_machine.specs.SumPackets.{acts_of}

-- a client, and the bytes
pub record Party : Type 0 where
  pub client : Client
  pub memory : List Block

-- the single request: how it ends, and what it leaves
abbrev pub single_outcome : Setup → Asker → Party → Request → Outcome
single_outcome d k p r = outcome_of p.memory (act_of d p.client k r)

abbrev pub party_after : Setup → Asker → Party → Request → Party
party_after d k p r = record {
  client = client_after p.client (effect_of (act_of d p.client k r));
  memory = memory_after p.memory (act_of d p.client k r);
}

pub record InTurn (d : Setup) (k : Asker) (requests : List Request) (p : Party) : Type 0 where
  pub outcomes : outcomes_of p.memory (acts_of d p.client k requests)
      ≡ given_in_turn (single_outcome d k) (party_after d k) p requests
  pub memory : memory_after_acts p.memory (acts_of d p.client k requests)
      ≡ (left_in_turn (party_after d k) p requests).memory
  pub client : client_after_acts p.client (acts_of d p.client k requests)
      ≡ (left_in_turn (party_after d k) p requests).client

-- To decide all parts first and to run them then is to run one after another.
abbrev pub RunsInTurn : Type 0
RunsInTurn = (d : Setup) (k : Asker) (requests : List Request) (p : Party)
    → InTurn d k requests p
