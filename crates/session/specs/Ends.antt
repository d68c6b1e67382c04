-- How a request ends that gives no data: its code, and what it leaves. No public clause cites this file.
use Rattle.std.specs.Prelude.{ℕ, List, length, not, if◌then◌else◌, Result}
use Rattle.return_codes.specs.declared.code.Code.{Code}
use Rattle.spec_formats.specs.Codes.{not_permitted}
use Rattle.spec_machine.specs.Acts.{Act, Refusal, outcome_of}
use Rattle.spec_machine.specs.Handles.{kept_status}
use Rattle.spec_machine.specs.Reach.{addressed_by_status}
use Rattle.spec_machine.specs.Writes.{may_write, write_act}
use Rattle.sym_handles.specs.Kept.{Kept}
use Rattle.port_device.specs.PortMemory.{PortMemory}
use Rattle.port_device.specs.Endings.{HasCode}
use Rattle.session.specs.Asking.{Asking, after_act}
use Rattle.session.specs.Asks.{Asks}

pub record EndsAct (a : Asking) (act : Act) (answer : Result (Unit {0}) Code) (port : PortMemory) (kept : Kept) : Type 0 where
  pub code : HasCode (outcome_of a.world.memory act).code answer
  pub after : Asks (after_act a act) port kept

-- a write of a value by its handle: the rights, then the handle, then the length, then who may write
abbrev pub value_write_act : Asking → ℕ → List ℕ → Act
value_write_act a handle bytes =
    if not (may_write a.asker.rights) then Refusal not_permitted
    else write_act a.asker bytes (addressed_by_status a.asker.port.number
    (kept_status a.client.handles handle a.asker.port.number) (length bytes))
