-- A device of one number of 32 bits, over which the cases run sums: group 0x4020 is the number, and group 0x4040 is there
-- and has no bytes. An addition of the number gives the number as its handle.
use Rattle.std.specs.Prelude.{ℕ, List, [], length, nat_lt, not, ◌||◌, ◌==◌, if◌then◌else◌}
use Rattle.std.specs.Int.{w32, to_le_bytes}
use Rattle.spec_formats.specs.Codes.{no_error, invalid_group, invalid_size, notification_handle_invalid}
use Rattle.spec_formats.specs.Numbers.{number32}
use Rattle.spec_formats.specs.Request.{Request, Read, Write, ReadWrite, AddDeviceNotification, DeleteDeviceNotification}
use Rattle.spec_machine.specs.Acts.{Outcome}

abbrev pub gives : List ℕ → Outcome
gives bytes = record { code = no_error; bytes = bytes }

abbrev pub refuses : ℕ → Outcome
refuses code = record { code = code; bytes = [] }

-- how an access to a group ends, where that to the number ends so
abbrev pub in_group : ℕ → Outcome → Outcome
in_group group o = if group == 0x4040 then gives [] else if group == 0x4020 then o else refuses invalid_group

-- a read gives the number, and a read-write the number before it
abbrev pub register_given : ℕ → Request → Outcome
register_given number (Read group offset len) =
    in_group group (if nat_lt len 4 then refuses invalid_size else gives (to_le_bytes w32 number))
register_given number (Write group offset bytes) =
    in_group group (if length bytes == 4 then gives [] else refuses invalid_size)
register_given number (ReadWrite group offset read_len bytes) =
    in_group group (if not (length bytes == 4) || nat_lt read_len 4 then refuses invalid_size
    else gives (to_le_bytes w32 number))
-- the number is added whole, and is the handle
register_given number (AddDeviceNotification group offset len mode delay cycle) =
    if not (group == 0x4020) then refuses invalid_group
    else if len == 4 then gives (to_le_bytes w32 number) else refuses invalid_size
register_given number (DeleteDeviceNotification handle) =
    if handle == number then gives [] else refuses notification_handle_invalid
register_given number _ = refuses invalid_group

-- a write and a read-write leave the number that they write, an addition its cycle, and a deletion 0
abbrev pub register_left : ℕ → Request → ℕ
register_left number (Write group offset bytes) =
    if not (group == 0x4020) || not (length bytes == 4) then number else number32 0 bytes
register_left number (ReadWrite group offset read_len bytes) =
    if not (group == 0x4020) || not (length bytes == 4) || nat_lt read_len 4 then number else number32 0 bytes
register_left number (AddDeviceNotification group offset len mode delay cycle) =
    if not (group == 0x4020) || not (len == 4) then number else cycle
register_left number (DeleteDeviceNotification handle) = if handle == number then 0 else number
register_left number _ = number
