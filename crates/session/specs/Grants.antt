-- A handle for a name. No public clause cites this file.
use Rattle.std.specs.Prelude.{ℕ, List, Some}
use Rattle.spec_formats.specs.Groups.{HandleByName}
use Rattle.spec_machine.specs.World.{setup_of}
use Rattle.spec_machine.specs.Acts.{Act}
use Rattle.spec_machine.specs.ByName.{read_write_group}
use Rattle.spec_machine.specs.Client as client
use Rattle.symbol_table.specs.declared.place.Place.{Place}
use Rattle.port_device.specs.Answers.{IsNamed}
use Rattle.session.specs.Asking.{Asking}

-- the place of the code is the place by name of the port that is asked
abbrev pub IsPlaceNamed : Asking → Place → client.Place → Type 0
IsPlaceNamed a place named = IsNamed a.world a.asker.port place named

-- a handle by a name is asked
abbrev pub handle_act : Asking → ℕ → List ℕ → Act
handle_act a len name = read_write_group (setup_of a.world) a.client a.asker.port (Some HandleByName) len name
