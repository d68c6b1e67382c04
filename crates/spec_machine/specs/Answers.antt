-- What the server answers: its commands, and the index groups of each command.
use Rattle.std.specs.Prelude.{ℕ, Bool, false, ◌&&◌, ◌==◌, nat_le, if◌then◌else◌}
use Rattle.std.specs.Prelude.{Option, Some, None, option_and_then}
pub use Rattle.spec_formats.specs.Commands.{READ_DEVICE_INFO, READ, WRITE, READ_STATE, WRITE_CONTROL}
pub use Rattle.spec_formats.specs.Commands.{ADD_DEVICE_NOTIFICATION, DELETE_DEVICE_NOTIFICATION, DEVICE_NOTIFICATION, READ_WRITE}
use Rattle.spec_formats.specs.Groups.{Group, group_of, is_read, is_written, is_read_written, is_value_group}

abbrev pub no_group : Group → Bool
no_group group = false

-- every group that a command has
abbrev pub groups_of_command : ℕ → Group → Bool
groups_of_command command =
    if command == READ then is_read
    else if command == WRITE then is_written
    else if command == ADD_DEVICE_NOTIFICATION then is_value_group
    else if command == READ_WRITE then is_read_written
    else no_group

-- the commands that are answered: all that the protocol has
abbrev pub is_answered : ℕ → Bool
is_answered command = nat_le READ_DEVICE_INFO command && nat_le command READ_WRITE

abbrev pub if_answered : ℕ → Group → Option Group
if_answered command group = if groups_of_command command group then Some group else None

-- the group of a number, where the command answers it
unfoldable pub answered_group : ℕ → ℕ → Option Group
answered_group command number = option_and_then (if_answered command) (group_of number)
