-- Whose rights a machine has at a server: a route counts before what is given to all others, and only without a route it has
-- theirs. The strict profile gives others nothing.
use Rattle.std.specs.Prelude.{◌≡◌, ℕ, List, Option, Some, None}
use Rattle.spec_plant.specs.Description.{Rights, Route}
use Rattle.spec_plant.specs.Rights.{rights_of}
use Rattle.spec_machine.specs.Profile.{strict}
use Rattle.spec_machine.specs.GivenRights.{given_rights}

-- A machine with a route has the rights of its route, whatever others have.
abbrev pub RoutesCountFirst : Type 0
RoutesCountFirst = (others : Option Rights) (net : List ℕ) (routes : List Route) (rights : Rights)
    → rights_of net routes ≡ Some rights → given_rights others net routes ≡ Some rights

-- A machine without a route has the rights of all others, or none.
abbrev pub OthersShareOne : Type 0
OthersShareOne = (others : Option Rights) (net : List ℕ) (routes : List Route)
    → rights_of net routes ≡ None → given_rights others net routes ≡ others

-- At the strict profile rights are those of routes alone.
abbrev pub StrictKnowsRoutes : Type 0
StrictKnowsRoutes = (net : List ℕ) (routes : List Route) → given_rights strict.others net routes ≡ rights_of net routes
