use Rattle.std.proofs.Common.{◌≡◌, subst}
use Rattle.std.specs.List.{All}
use Rattle.symbol_table.specs.Tables.{IsTableWith}
use Rattle.port_device.specs.PortMemory.{PortMemory}
use Rattle.port_device.specs.Ports.{memory_in}
use Rattle.port_device.specs.PersistentRows.{rows_entries, port_entries, IsStoredRow}
use Rattle.port_device.proofs.PersistentLemmas.{rows_are_port, as-port, fit-port, stored-rows}
use Rattle.port_device.proofs.port.Port.append_entries.Goals as goal

pub append_rows-requires : goal.append_rows-requires
append_rows-requires c =
    let m : PortMemory = memory_in c.self.inside in
    let rows = c.symbols.result.now in
    let with_ : IsTableWith m.types m.table = record { port = c.self.invariant.port; is_of = c.self.invariant.table } in
    record {
      rows = subst (λ x. All (IsStoredRow x) rows) c.self.view_is
          (stored-rows m rows c.symbols.ensures.rows with_ c.self.invariant.texts (c.symbols.ensures.sized m.types with_));
    }

pub returns-clause-ok : goal.returns-clause-ok
returns-clause-ok c =
    let m : PortMemory = memory_in c.self.inside in
    let rows = c.symbols.result.now in
    let same : rows_entries c.args.self.now rows ≡ port_entries c.args.self.now
    = subst (λ x. rows_entries x rows ≡ port_entries x) c.self.view_is (rows_are_port m rows c.symbols.ensures.rows) in
    as-port c.append_rows.result (rows_entries c.args.self.now rows) (port_entries c.args.self.now) c.args.out.now c.append_rows.new.out same
    c.append_rows.ensures.ok

pub returns-clause-fit : goal.returns-clause-fit
returns-clause-fit c =
    let m : PortMemory = memory_in c.self.inside in
    let rows = c.symbols.result.now in
    let same : rows_entries c.args.self.now rows ≡ port_entries c.args.self.now
    = subst (λ x. rows_entries x rows ≡ port_entries x) c.self.view_is (rows_are_port m rows c.symbols.ensures.rows) in
    fit-port c.append_rows.result (rows_entries c.args.self.now rows) (port_entries c.args.self.now) same c.append_rows.ensures.fit
