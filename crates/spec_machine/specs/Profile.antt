-- What a server is told beside its description: how it takes requests, and the rights of each NetId that no route names.
-- This project's own choice.
use Rattle.std.specs.Prelude.{Option, None}
use Rattle.spec_plant.specs.Description.{Rights}
use Rattle.spec_machine.specs.Manner.{Manner, Strict, Wide}

pub record Profile : Type 0 where
  pub manner : Manner
  pub others : Option Rights

-- the strict server, to which only machines with a route may connect: that of the program `ads`
abbrev pub strict : Profile
strict = record { manner = Strict; others = None }

-- the wide server, to which only machines with a route may connect
abbrev pub wide : Profile
wide = record { manner = Wide; others = None }
