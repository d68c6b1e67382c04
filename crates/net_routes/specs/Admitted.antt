-- Who is admitted to a server.
use Rattle.std.specs.Prelude.{List, Option, option_map}
use Rattle.spec_plant.specs.Description as plain
use Rattle.spec_plant.specs.Description.{Route}
use Rattle.type_layout.specs.Descriptions.{rights_of}
use Rattle.type_layout.specs.declared.description.Rights.{Rights}

-- the machines of these routes, and all others with this right, or none of them
pub record Admitted : Type 0 where
  pub routes : List Route
  pub others : Option plain.Rights

abbrev pub admitted_of : List Route → Option Rights → Admitted
admitted_of routes others = record { routes = routes; others = option_map rights_of others }
