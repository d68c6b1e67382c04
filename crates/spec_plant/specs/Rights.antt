-- The rights of a client: those of its machine's route.
use Rattle.std.specs.Prelude.{ℕ, List, find, Option, option_map, bytes_eq}
use Rattle.spec_plant.specs.Description.{Rights, Route}

-- the rights that a NetId has by its route; the first route of a machine counts
abbrev pub rights_of : List ℕ → List Route → Option Rights
rights_of net routes = option_map (λ (r : Route). r.rights) (find (λ (r : Route). bytes_eq r.net net) routes)
