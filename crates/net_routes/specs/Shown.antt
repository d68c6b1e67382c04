-- The route that an entry of the map is.
use Rattle.std.specs.Prelude.{ℕ, List, Option, Some, None, bytes_eq, if◌then◌else◌}
use Rattle.spec_plant.specs.Description as plain
use Rattle.spec_plant.specs.Description.{Route}
use Rattle.type_layout.specs.Descriptions.{rights_of}
use Rattle.type_layout.specs.declared.description.Rights.{Rights}

abbrev pub shown : List ℕ × Rights → Route
shown e = record { net = e.0; rights = rights_of e.1 }

-- the rights of a NetId by one route, where there is one and it is this machine's
abbrev pub rights_in : List ℕ → Option Route → Option plain.Rights
rights_in net None = None
rights_in net (Some r) = if bytes_eq r.net net then Some r.rights else None
