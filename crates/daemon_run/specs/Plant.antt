-- A plant, and how it is served.
use Rattle.std.specs.Prelude.{ℕ, List, Option, Some, None}
use Rattle.signals.specs.Wave.{Wave}
use Rattle.ads_outside.specs.declared.listening.Listening.{Listening}
use Rattle.spec_plant.specs.Description.{Description}
use Rattle.spec_machine.specs.Client.{Client}
use Rattle.spec_machine.specs.MachineState.{MachineState}
use Rattle.spec_machine.specs.Profile.{Profile}
use Rattle.spec_machine.specs.World.{World}
use Rattle.spec_server.specs.Server.{start_in}
use Rattle.spec_store.specs.Slots.{Standing}
use Rattle.keep_play.specs.KeptSaves.{description_kept}
use Rattle.run_tasks.specs.Service.{Service, OfServer}
use Rattle.run_tasks.specs.Verdict.{Verdict, Serves, verdict_of_file, verdict_of_serve_in}
use Rattle.daemon_run.specs.Endless.{endless, endless_kept}

-- what the wire is started with, and the description of the file
pub record Plant : Type 0 where
  pub start : Listening
  pub description : Description

abbrev pub plant_of : List ℕ → List ℕ → List ℕ → Description → Plant
plant_of name listen bytes d = record { start = record { listen = listen; name = name; first = bytes }; description = d }

-- by the server of a profile, with signals that begin so; where there is a store, with its name, and what is to be kept is looked at after each so manieth tick
pub record Serving : Type 0 where
  pub profile : Profile
  pub waves : List Wave
  pub store : Option (List ℕ)
  pub every : ℕ

abbrev pub serving : Profile → List Wave → Option (List ℕ) → ℕ → Serving
serving profile waves store every = record { profile = profile; waves = waves; store = store; every = every }

-- how many events are taken at most: one less with a store
abbrev pub events_with : Option (List ℕ) → ℕ
events_with None = endless
events_with (Some store) = endless_kept

-- the server of a plant, with the limit of its events
abbrev pub service_of : Serving → Plant → Service
service_of h x = record { start = x.start; machine = OfServer h.profile x.description h.waves; limit = events_with h.store }

-- that over what stood: the persistent symbols begin with the bytes of the body that stands
abbrev pub plant_kept : Option Standing → Plant → Plant
plant_kept standing x = record { start = x.start; description = description_kept x.description standing }

-- its state before any move
abbrev pub start_kept : Serving → Option Standing → Plant → MachineState World Client
start_kept h standing x = start_in h.profile (description_kept x.description standing) h.waves

-- the verdict on a plant's file, with this name, that listens there: its server is served, or the file decides
abbrev pub verdict_on : Serving → List ℕ → List ℕ → Option (List ℕ) → Verdict
verdict_on h name listen file = verdict_of_file (verdict_of_serve_in h.profile h.waves name listen (events_with h.store)) file

-- the verdict that a plant is served
abbrev pub serves_plant : Serving → Plant → Verdict
serves_plant h x = Serves (service_of h x)
