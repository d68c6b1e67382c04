use Rattle.std.proofs.Common.{◌≡◌, ℕ, List, subst}
use Rattle.std.specs.Prelude.{IfOk, option_map, flat_map}
use Rattle.std.specs.Borrow.{Bor}
use Rattle.std.specs.List.{All}
use Rattle.spec_store.specs.BodyText.{StoredEntry, entry_bytes}
use Rattle.symbol_table.specs.Tables.{IsTableWith}
use Rattle.port_device.specs.Behind.{behind}
use Rattle.port_device.specs.PortMemory.{PortMemory}
use Rattle.port_device.specs.Ports.{memory_in}
use Rattle.port_device.specs.PersistentRows.{rows_entries, port_entries, IsStoredRow}
use Rattle.port_device.proofs.PersistentLemmas.{rows_are_port, stored-rows}
use Rattle.port_device.proofs.port.Port.behind_entries.Goals as goal

pub behind_rows-requires : goal.behind_rows-requires
behind_rows-requires c =
    let m : PortMemory = memory_in c.self.inside in
    let rows = c.symbols.result.now in
    let with_ : IsTableWith m.types m.table = record { port = c.self.invariant.port; is_of = c.self.invariant.table } in
    record {
      rows = subst (λ x. All (IsStoredRow x) rows) c.self.view_is
          (stored-rows m rows c.symbols.ensures.rows with_ c.self.invariant.texts (c.symbols.ensures.sized m.types with_));
    }

pub returns : goal.returns
returns c =
    let m : PortMemory = memory_in c.self.inside in
    let rows = c.symbols.result.now in
    let same : rows_entries c.args.self.now rows ≡ port_entries c.args.self.now
    = subst (λ x. rows_entries x rows ≡ port_entries x) c.self.view_is (rows_are_port m rows c.symbols.ensures.rows) in
    let P : List StoredEntry → Type 0 = λ es. IfOk c.behind_rows.result (λ rest. option_map (λ (x : Bor (List ℕ)). x.now) rest
    ≡ behind (flat_map entry_bytes es) c.args.bytes.now) in
    subst P same c.behind_rows.ensures
