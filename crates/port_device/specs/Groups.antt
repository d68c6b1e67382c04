-- The groups that a port answers by itself.
use Rattle.std.specs.Prelude.{Bool, true, false, Option, Some, None, if◌then◌else◌}
use Rattle.spec_formats.specs.Groups.{Group, AreaBytes, AreaBit, HandleByName, ValueByHandle}

-- the groups that need no handle: a read of a value by its handle, and the handle of a name, are no port's
abbrev pub without_handles : Option Group → Option Group
without_handles (Some HandleByName) = None
without_handles (Some ValueByHandle) = None
without_handles group = group

-- the groups of Write that a port answers by itself: bytes and bits
abbrev pub is_written_by_port : Option Group → Bool
is_written_by_port (Some (AreaBytes area)) = true
is_written_by_port (Some (AreaBit area)) = true
is_written_by_port group = false

abbrev pub written_by_port : Option Group → Option Group
written_by_port group = if is_written_by_port group then group else None
