-- The groups of handles and of sums, which a session answers and no port does. No public clause cites this file.
use Rattle.std.specs.Prelude.{ℕ, Bool, true, false, ◌||◌, ◌==◌, Option, Some, is_some}
use Rattle.spec_formats.specs.Groups.{Group, HandleByName, ValueByHandle, ValueByName, InfoByName, ExtendedInfoByName}
use Rattle.spec_formats.specs.Groups.{ReleaseHandle, SumRead, SumWrite, SumReadWrite, group_of}
use Rattle.spec_machine.specs.Manner.{Manner, Strict, Wide}
use Rattle.spec_machine.specs.MoreActs.{device_data}
use Rattle.spec_machine.specs.MoreSums.{sums_in_manner}

-- whether a Read of the group of a number is of the state words, to a server of this manner
abbrev pub reads_states : Manner → ℕ → Bool
reads_states Strict number = false
reads_states Wide number = number == device_data

abbrev pub is_handle_by_name : Option Group → Bool
is_handle_by_name (Some HandleByName) = true
is_handle_by_name group = false

abbrev pub is_value_by_handle : Option Group → Bool
is_value_by_handle (Some ValueByHandle) = true
is_value_by_handle group = false

abbrev pub is_value_by_name : Option Group → Bool
is_value_by_name (Some ValueByName) = true
is_value_by_name group = false

-- the data is a name
abbrev pub takes_name : Option Group → Bool
takes_name (Some HandleByName) = true
takes_name (Some ValueByName) = true
takes_name (Some InfoByName) = true
takes_name (Some ExtendedInfoByName) = true
takes_name group = false

abbrev pub is_release : Option Group → Bool
is_release (Some ReleaseHandle) = true
is_release group = false

abbrev pub is_sum : Option Group → Bool
is_sum (Some SumRead) = true
is_sum (Some SumWrite) = true
is_sum (Some SumReadWrite) = true
is_sum group = false

-- whether a ReadWrite of the group of a number has parts, to a server of this manner
abbrev pub takes_parts : Manner → ℕ → Bool
takes_parts manner number = is_sum (group_of number) || is_some (sums_in_manner manner number)
