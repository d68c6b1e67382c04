-- The entries of the rows before this one are written.
use Rattle.std.proofs.Common.{◌≡◌, ◌++◌, take}
use Rattle.std.specs.Prelude.{flat_map}
use Rattle.std.specs.List.{All}
use Rattle.spec_store.specs.BodyText.{entry_bytes, FitsEntry}
use Rattle.port_device.specs.PersistentRows.{rows_entries}
use Rattle.port_device.proofs.persistent.append_rows.Given as goal

abbrev pub invariant-loop-row : goal.invariant-loop-row
invariant-loop-row l =
    (l.out ≡ l.initial.out ++ flat_map entry_bytes (rows_entries l.port (take l.row-index l.rows)))
    × All FitsEntry (rows_entries l.port (take l.row-index l.rows))
