-- What a server of a profile does besides what every one does: to the strict one all of this is unknown.
-- Beckhoff Information System, "ADS Read", "ADS Add Device Notification", "ADS Read Write".
use Rattle.std.specs.Prelude.{ℕ, ◌+◌, List, [], ◌∷◌, map, Bool, ◌||◌, ◌==◌, nat_lt, if◌then◌else◌, Option, Some, None, option_map, Result, Ok, Err}
use Rattle.spec_plant.specs.Trees.{TypeTree}
use Rattle.spec_plant.specs.World.{Plant}
use Rattle.spec_formats.specs.Codes.{symbol_not_found, invalid_offset, invalid_size}
use Rattle.spec_formats.specs.Groups.{symbol_version}
use Rattle.spec_formats.specs.Request.{Request, Read, AddDeviceNotification, ReadWrite}
use Rattle.spec_formats.specs.TypeEntry.{type_upload_bytes}
use Rattle.spec_machine.specs.Manner.{Manner, Strict, Wide}
use Rattle.spec_machine.specs.World.{Setup, own_names, VERSION_AT}
use Rattle.spec_machine.specs.Access.{Addressed, WholeByte}
use Rattle.spec_machine.specs.Client.{Client}
use Rattle.spec_machine.specs.Acts.{Act, Refusal}
use Rattle.spec_machine.specs.Reads.{read_act, type_upload_reply}
use Rattle.spec_machine.specs.Additions.{mode_of, add_of_reach}
use Rattle.spec_machine.specs.Writes.{Asker}
use Rattle.spec_machine.specs.Meanings.{up_to_nul, mode_in}
use Rattle.spec_machine.specs.TypesByText.{tree_of_text, entry_by_type}

-- the index group of the entry of a type by its text
abbrev pub type_by_text : ℕ
type_by_text = 0xF011

abbrev pub if_type : Option TypeTree → ℕ → Act
if_type None len = Refusal symbol_not_found
if_type (Some tree) len = type_upload_reply len (type_upload_bytes (entry_by_type tree ∷ []))

-- the entry of the type that a text names, which ends at its first NUL
abbrev pub type_act : Plant → ℕ → List ℕ → Act
type_act plant len text = if_type (tree_of_text plant.types (up_to_nul text)) len

abbrev pub wide_read_write : Setup → ℕ → ℕ → List ℕ → Option Act
wide_read_write d group len bytes = if group == type_by_text then Some (type_act d.plant len bytes) else None

abbrev pub more_read_write : Manner → Setup → ℕ → ℕ → List ℕ → Option Act
more_read_write Strict d group len bytes = None
more_read_write Wide d group len bytes = wide_read_write d group len bytes

-- ADSIGRP_DEVICE_DATA: a port's two state words, ADS state and device state; the offset is that of a byte in them
abbrev pub device_data : ℕ
device_data = 0xF100

-- so many bytes of the state words: an offset behind them comes first
abbrev pub states_reach : ℕ → ℕ → ℕ → Result (List Addressed) ℕ
states_reach port offset len =
    if nat_lt VERSION_AT offset then Err invalid_offset
    else if nat_lt VERSION_AT (offset + len) then Err invalid_size
    else Ok (map WholeByte (own_names port offset len))

-- the byte of the version, whatever the offset
abbrev pub version_reach : ℕ → ℕ → Result (List Addressed) ℕ
version_reach port len = if len == 1 then Ok (map WholeByte (own_names port VERSION_AT 1)) else Err invalid_size

abbrev pub wide_read : ℕ → ℕ → ℕ → ℕ → Option Act
wide_read port group offset len = if group == device_data then Some (read_act (states_reach port offset len)) else None

abbrev pub more_read : Manner → ℕ → ℕ → ℕ → ℕ → Option Act
more_read Strict port group offset len = None
more_read Wide port group offset len = wide_read port group offset len

-- the groups of a port's own bytes, which a notification may watch besides
abbrev pub is_own_group : ℕ → Bool
is_own_group group = (group == device_data) || (group == symbol_version)

abbrev pub own_reach : ℕ → ℕ → ℕ → ℕ → Option (Result (List Addressed) ℕ)
own_reach port group offset len =
    if group == device_data then Some (states_reach port offset len)
    else if group == symbol_version then Some (version_reach port len) else None

abbrev pub wide_add : Client → Asker → ℕ → ℕ → ℕ → ℕ → ℕ → Option Act
wide_add c k group offset len mode cycle =
    option_map (add_of_reach c k len cycle (mode_of (mode_in Wide mode))) (own_reach k.port.number group offset len)

abbrev pub more_add : Manner → Client → Asker → ℕ → ℕ → ℕ → ℕ → ℕ → Option Act
more_add Strict c k group offset len mode cycle = None
more_add Wide c k group offset len mode cycle = wide_add c k group offset len mode cycle

-- what is done besides; None where the request is one that every server knows, or that no server does
abbrev pub more_act : Setup → Client → Asker → Request → Option Act
more_act d c k (Read group offset len) = more_read d.profile.manner k.port.number group offset len
more_act d c k (AddDeviceNotification group offset len mode delay cycle) = more_add d.profile.manner c k group offset len mode cycle
more_act d c k (ReadWrite group offset len bytes) = more_read_write d.profile.manner d group len bytes
more_act d c k r = None
