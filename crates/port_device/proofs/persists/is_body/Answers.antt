use Rattle.std.proofs.Common.{◌∙◌}
use Rattle.std.specs.Prelude.{Some, None}
use Rattle.port_device.specs.PersistentRows.{ports_entries}
use Rattle.port_device.proofs.BehindLemmas.{body-without, body-with}
use Rattle.port_device.proofs.persists.is_body.Goals as goal

pub returns-in-None-clause-same : goal.returns-in-None-clause-same
returns-in-None-clause-same c = body-without (ports_entries c.args.ports.now) c.count_all.result c.args.body.now c.count_all.ensures.count
    (rw c.to_le_bytes.ensures at c.in-None.ensures)

pub returns-in-Ok-Some-clause-same : goal.returns-in-Ok-Some-clause-same
returns-in-Ok-Some-clause-same c few = c.is_empty.ensures
    ∙ body-with (ports_entries c.args.ports.now) c.count_all.result c.args.body.now c.in-Some.entries.now (Some c.in-Ok-Some.rest.now)
    c.count_all.ensures.count (rw c.to_le_bytes.ensures at c.in-Some.ensures) (rw c.in-Ok-Some.field-0-is at c.in-Ok-Some.ensures) few

pub returns-in-Ok-None-clause-same : goal.returns-in-Ok-None-clause-same
returns-in-Ok-None-clause-same c =
    body-with (ports_entries c.args.ports.now) c.count_all.result c.args.body.now c.in-Some.entries.now None
    c.count_all.ensures.count (rw c.to_le_bytes.ensures at c.in-Some.ensures) (rw c.in-Ok-None.field-0-is at c.in-Ok-None.ensures)
