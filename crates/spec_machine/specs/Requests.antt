-- One request, or one part of a sum: a code in the order of the checks, or what it reads, writes and
-- changes of its client. The bytes of the device have no part in it.
-- Beckhoff Information System, "ADS Commands".
use Rattle.std.specs.Prelude.{ℕ, List, [], map, Bool, ◌&&◌, ◌==◌, if◌then◌else◌, unwrap_or}
use Rattle.std.specs.List.{list_any}
use Rattle.spec_formats.specs.Codes.{notification_handle_invalid}
use Rattle.spec_formats.specs.Request.{Request, ReadDeviceInfo, Read, Write, ReadState, WriteControl}
use Rattle.spec_formats.specs.Request.{AddDeviceNotification, DeleteDeviceNotification}
use Rattle.spec_formats.specs.Request.{DeviceNotification, ReadWrite}
use Rattle.spec_formats.specs.Reply.{facts_bytes}
use Rattle.spec_machine.specs.World.{Setup, state_names}
use Rattle.spec_machine.specs.Access.{Addressed, WholeByte}
use Rattle.spec_machine.specs.Watches.{Watch}
use Rattle.spec_machine.specs.Client.{Client, Deletes}
use Rattle.spec_machine.specs.Acts.{Act, Refusal, fixed_data, reading, changing}
use Rattle.spec_machine.specs.Answers.{answered_group, READ, WRITE, READ_WRITE}
use Rattle.spec_machine.specs.Answers.{ADD_DEVICE_NOTIFICATION}
use Rattle.spec_machine.specs.Reads.{read_group}
use Rattle.spec_machine.specs.Writes.{Asker, write_group, control_act}
use Rattle.spec_machine.specs.ByName.{read_write_group}
pub use Rattle.spec_machine.specs.Additions.{mode_of, MAX_WATCHED, MAX_WATCHES, next_watch, add_watch, add_reached, add_of_reach, add_act}
use Rattle.spec_machine.specs.Meanings.{meant_by}
use Rattle.spec_machine.specs.MoreActs.{more_act}

-- a notification of this port has the handle
abbrev pub is_watch_of : ℕ → ℕ → Watch (List Addressed) → Bool
is_watch_of port handle w = (w.handle == handle) && (w.port == port)

abbrev pub delete_act : Client → Asker → ℕ → Act
delete_act c k handle =
    if list_any (is_watch_of k.port.number handle) c.watches then changing [] (Deletes handle)
    else Refusal notification_handle_invalid

-- A request as it is written. A notification is none; the checks of a frame do not let it come here.
unfoldable pub plain_act : Setup → Client → Asker → Request → Act
plain_act d c k ReadDeviceInfo = fixed_data (facts_bytes k.port.facts)
plain_act d c k (Read group offset len) =
    read_group d c k.port (answered_group READ group) offset len
plain_act d c k (Write group offset bytes) =
    write_group c k (answered_group WRITE group) offset bytes
plain_act d c k ReadState = reading (map WholeByte (state_names k.port))
plain_act d c k (WriteControl ads device bytes) = control_act k ads device
plain_act d c k (AddDeviceNotification group offset len mode delay cycle) =
    add_act c k (answered_group ADD_DEVICE_NOTIFICATION group) offset len cycle (mode_of mode)
plain_act d c k (DeleteDeviceNotification handle) = delete_act c k handle
plain_act d c k (DeviceNotification bytes) = fixed_data []
plain_act d c k (ReadWrite group offset read_len bytes) =
    read_write_group d c k.port (answered_group READ_WRITE group) read_len bytes

-- what a request comes to: what this server does besides, else what the plain one does that it means to a server of this profile
unfoldable pub act_of : Setup → Client → Asker → Request → Act
act_of d c k r = unwrap_or (more_act d c k r) (plain_act d c k (meant_by d.profile c k.port r))
