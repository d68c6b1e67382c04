-- The rights that a server gives to a client: those of its machine's route, and without one those of all others.
use Rattle.std.specs.Prelude.{ℕ, List, Option}
use Rattle.std.specs.Option.{option_or}
use Rattle.spec_plant.specs.Description.{Rights, Route}
use Rattle.spec_plant.specs.Rights.{rights_of}

-- those of a NetId, where all others have these, or none
abbrev pub given_rights : Option Rights → List ℕ → List Route → Option Rights
given_rights others net routes = option_or (rights_of net routes) others
