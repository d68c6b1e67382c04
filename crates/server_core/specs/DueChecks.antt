-- How many notifications a tick checks, and on how many threads. Private: no public clause cites this file.
use Rattle.std.specs.Prelude.{ℕ, List, length, sum_by, if◌then◌else◌}
use Rattle.notify_table.specs.Table.{due_handles}
use Rattle.server_core.specs.declared.turned.Turned.{Turned}

-- the due notifications of a session; none of one that is left out
abbrev pub due_in : ℕ → Turned → ℕ
due_in now t = if t.skip then 0 else length (due_handles now t.session.watches)

-- those of all sessions
abbrev pub due_checks : ℕ → List Turned → ℕ
due_checks now ts = sum_by (due_in now) ts
