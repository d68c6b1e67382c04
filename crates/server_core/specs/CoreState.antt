-- What a core stands for: a state of the machine that it serves, and the connections that are blocked.
use Rattle.std.specs.Prelude.{List, []}
use Rattle.signals.specs.Wave.{Wave}
use Rattle.ads_outside.specs.declared.event.Event.{Event}
use Rattle.ads_outside.specs.declared.moves.Move.{Move}
use Rattle.ads_outside.specs.declared.moves.Move.TheVariants as move
use Rattle.spec_plant.specs.Description.{Description}
use Rattle.spec_machine.specs.Profile.{Profile, strict}
use Rattle.spec_machine.specs.Running.{Running, running_after}
pub use Rattle.spec_machine.specs.Running.{OpensNew, offer_at, is_to_be_shut, is_to_be_shut_at}
use Rattle.spec_server.specs.Server.{start_in}
use Rattle.ads_served.specs.Standing.{running_after_all}
use Rattle.server_core.specs.Served.{World, Client, served_step}

abbrev pub CoreState : Type 0
CoreState = Running World Client

-- no move was made, of the server of a profile
abbrev pub started_in : Profile → Description → List Wave → CoreState
started_in profile description signals = record { state = start_in profile description signals; blocked = [] }

-- the same of the strict server, without a right for others
abbrev pub started : Description → List Wave → CoreState
started description signals = started_in strict description signals

abbrev pub after_move : CoreState → Move → CoreState
after_move x m = running_after served_step x m

abbrev pub after_moves : CoreState → List Move → CoreState
after_moves x ms = running_after_all served_step x ms

abbrev pub after_event : CoreState → Event → CoreState
after_event x e = after_move x (move.Event e)
