use Rattle.std.proofs.Common.{length, ◌≤◌, sym, ◌∙◌, ap, subst}
use Rattle.port_device.specs.PortMemory.{PortMemory}
use Rattle.port_device.specs.Ports.{memory_in}
use Rattle.port_device.specs.PersistentRows.{port_entries}
use Rattle.port_device.proofs.PersistentLemmas.{rows-count, rows_are_port}
use Rattle.port_device.proofs.PersistentCounts.{table-few}
use Rattle.port_device.proofs.port.Port.persistent_count.Goals as goal

pub returns-clause-count : goal.returns-clause-count
returns-clause-count c =
    let m : PortMemory = memory_in c.self.inside in
    let rows = c.symbols.result.now in
    c.count_rows.ensures ∙ sym (rows-count m rows) ∙ ap length (rows_are_port m rows c.symbols.ensures.rows)
    ∙ ap (λ x. length (port_entries x)) c.self.view_is

pub returns-clause-few : goal.returns-clause-few
returns-clause-few c =
    let m : PortMemory = memory_in c.self.inside in
    let rows = c.symbols.result.now in
    let counted = c.count_rows.ensures ∙ sym (rows-count m rows) ∙ ap length (rows_are_port m rows c.symbols.ensures.rows) in
    subst (λ n. n ≤ 10000) (sym counted) (table-few m c.self.invariant.port c.self.invariant.table)
