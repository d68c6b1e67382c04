-- The symbols of the ports so far, and of those that are left.
use Rattle.std.proofs.Common.{◌≡◌, ◌≤◌, ◌+◌, ◌*◌, length, drop}
use Rattle.std.specs.Prelude.{sum_by}
use Rattle.type_layout.specs.declared.port.PortDesc.{PortDesc}
use Rattle.run_tasks.specs.Report.{symbol_count}
use Rattle.type_layout.specs.Descriptions.{ports_of}
use Rattle.plant_commands.proofs.report.symbol_count.Given as goal

abbrev pub invariant-loop-port : goal.invariant-loop-port
invariant-loop-port l =
    (l.count + sum_by (λ (p : PortDesc). length p.symbols) (drop l.port-index l.d.ports) ≡ symbol_count (ports_of l.fn.d.ports))
    × (l.count ≤ 10000 * l.port-index)
