-- What stands behind the rows that are left is what stands behind all.
use Rattle.std.proofs.Common.{◌≡◌, drop}
use Rattle.port_device.specs.Behind.{behind}
use Rattle.port_device.specs.PersistentRows.{row_entries}
use Rattle.port_device.proofs.BehindLemmas.{texts_of}
use Rattle.port_device.proofs.persists.behind_rows.Given as goal

abbrev pub invariant-loop-row : goal.invariant-loop-row
invariant-loop-row l =
    behind (texts_of (row_entries l.port) (drop l.row-index l.rows)) l.rest ≡ behind (texts_of (row_entries l.port) l.rows) l.bytes
