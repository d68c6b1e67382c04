-- A request is first decided without the bytes: a refusal, or what it reads, writes and changes of its
-- client. Only then it is run on the bytes. So no code hangs on a byte, and a refusal changes nothing.
use Rattle.std.specs.Prelude.{ℕ, List, [], ◌∷◌, ◌++◌, map, flat_map}
use Rattle.spec_plant.specs.World.{ByteName, Block}
use Rattle.spec_formats.specs.Codes.{no_error}
use Rattle.spec_machine.specs.Access.{Addressed, addressed_name, values_at, Put, memory_after_puts}
use Rattle.spec_machine.specs.Client.{Client, Effect, NoEffect, Grants, Releases, Adds, Deletes, client_after}

-- an accepted request: data that no byte decides, and behind it the bytes that are read; what is
-- written; and what becomes of the client
pub record Access : Type 0 where
  pub fixed : List ℕ
  pub reads : List Addressed
  pub writes : List Put
  pub effect : Effect

pub data Act : Type 0 where
  Refusal : ℕ → Act
  Allowed : Access → Act

abbrev pub fixed_data : List ℕ → Act
fixed_data bytes =
    Allowed (record { fixed = bytes; reads = []; writes = []; effect = NoEffect })

abbrev pub reading : List Addressed → Act
reading places = Allowed (record { fixed = []; reads = places; writes = []; effect = NoEffect })

abbrev pub writing : List Put → Act
writing puts = Allowed (record { fixed = []; reads = []; writes = puts; effect = NoEffect })

abbrev pub changing : List ℕ → Effect → Act
changing bytes effect =
    Allowed (record { fixed = bytes; reads = []; writes = []; effect = effect })

-- how a request ended: its code, and its data
pub record Outcome : Type 0 where
  pub code : ℕ
  pub bytes : List ℕ

abbrev pub outcome_of : List Block → Act → Outcome
outcome_of memory (Refusal code) = record { code = code; bytes = [] }
outcome_of memory (Allowed a) =
    record { code = no_error; bytes = a.fixed ++ values_at memory a.reads }

abbrev pub memory_after : List Block → Act → List Block
memory_after memory (Refusal code) = memory
memory_after memory (Allowed a) = memory_after_puts memory a.writes

abbrev pub effect_of : Act → Effect
effect_of (Refusal code) = NoEffect
effect_of (Allowed a) = a.effect

-- acts one after another, each on the bytes that those before it left
unfoldable pub outcomes_of : List Block → List Act → List Outcome
outcomes_of memory [] = []
outcomes_of memory (a ∷ as_) = outcome_of memory a ∷ outcomes_of (memory_after memory a) as_

unfoldable pub memory_after_acts : List Block → List Act → List Block
memory_after_acts memory [] = memory
memory_after_acts memory (a ∷ as_) = memory_after_acts (memory_after memory a) as_

unfoldable pub client_after_acts : Client → List Act → Client
client_after_acts c [] = c
client_after_acts c (a ∷ as_) = client_after_acts (client_after c (effect_of a)) as_

-- what a new notification reads
abbrev pub added_reads : Effect → List Addressed
added_reads NoEffect = []
added_reads (Grants port place) = []
added_reads (Releases handle) = []
added_reads (Adds w) = w.watched
added_reads (Deletes handle) = []

-- the names that an accepted request reads, also where it adds a notification
abbrev pub reads_of_act : Act → List ByteName
reads_of_act (Refusal code) = []
reads_of_act (Allowed a) = map addressed_name a.reads ++ map addressed_name (added_reads a.effect)

abbrev pub writes_of_act : Act → List ByteName
writes_of_act (Refusal code) = []
writes_of_act (Allowed a) = map (λ (p : Put). addressed_name p.place) a.writes

abbrev pub reads_of_acts : List Act → List ByteName
reads_of_acts acts = flat_map reads_of_act acts

abbrev pub writes_of_acts : List Act → List ByteName
writes_of_acts acts = flat_map writes_of_act acts
