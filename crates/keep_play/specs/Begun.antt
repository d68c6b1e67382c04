-- A server that is about to begin. No public clause cites it.
use Rattle.std.specs.Prelude.{List, []}
use Rattle.signals.specs.Wave.{Wave}
use Rattle.spec_plant.specs.Description.{Description}
use Rattle.ads_served.specs.Standing.{Standing}
use Rattle.server_core.specs.CoreState.{started}
use Rattle.server_core.specs.Served.{World, Client}

-- before any move, with no reload noted
abbrev pub begun : Description → List Wave → Standing World Client
begun d waves = record { running = started d waves; notes = [] }
