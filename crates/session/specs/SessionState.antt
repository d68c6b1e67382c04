-- What the session of one client keeps, as contracts see it.
use Rattle.ams_tcp.specs.Held.{Held}
use Rattle.sym_handles.specs.Kept.{Kept}
use Rattle.notify_table.specs.Table.{WatchTable}

-- the rest of its stream, its handles and its notifications
pub record SessionState : Type 0 where
  pub stream : Held
  pub handles : Kept
  pub watches : WatchTable
