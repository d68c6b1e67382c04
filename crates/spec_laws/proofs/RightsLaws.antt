-- Whose rights a machine has, by cases of its route.
use Rattle.std.proofs.Common.{◌≡◌, refl}
use Rattle.std.specs.Prelude.{Option, Some, None}
use Rattle.std.specs.Option.{option_or}
use Rattle.spec_plant.specs.Description.{Rights}
use Rattle.spec_plant.specs.Rights.{rights_of}
use Rattle.spec_laws.specs.RightsLaws.{RoutesCountFirst, OthersShareOne, StrictKnowsRoutes}

pub routes_count_first : RoutesCountFirst
routes_count_first others net routes rights there = rw there refl

pub others_share_one : OthersShareOne
others_share_one others net routes none = rw none refl

or_none : (o : Option Rights) → option_or o None ≡ o
or_none None = refl
or_none (Some rights) = refl

pub strict_knows_routes : StrictKnowsRoutes
strict_knows_routes net routes = or_none (rights_of net routes)
