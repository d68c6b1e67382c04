use Rattle.std.proofs.Common.{◌≡◌, ℕ, List, map, sym, ◌∙◌, ap, subst}
use Rattle.std.specs.Prelude.{All}
use Rattle.spec_plant.specs.Description as plant
use Rattle.type_layout.specs.Descriptions.{sizes_of}
use Rattle.symbol_table.specs.Tables.{TableSymbol, IsTableWith}
use Rattle.port_device.specs.PlacedBytes.{PlacedBytes, placed_symbol, with_all_bytes}
use Rattle.port_device.specs.PortMemory.{PortMemory}
use Rattle.port_device.specs.Ports.{memory_in}
use Rattle.port_device.specs.Reloaded.{AreCompared, IsPlacedRow, reloaded_bytes}
use Rattle.port_device.specs.ReloadedPorts.{BeginsWhole, with_kept}
use Rattle.port_device.proofs.ReloadLemmas.{placed_rows, typed_rows, reloaded-rows}
use Rattle.port_device.proofs.port.Port.keep.Goals as goal

pub put_reloaded-requires-clause-each : goal.put_reloaded-requires-clause-each
put_reloaded-requires-clause-each c =
    let m : PortMemory = memory_in c.self.inside in
    let P : PortMemory → Type 0 = λ x. All BeginsWhole x.table.symbols in
    let whole = subst P (sym c.self.view_is) c.requires in
    let Q : plant.Sizes → Type 0 = λ x. All (IsPlacedRow x) c.symbols.result.now in
    subst Q c.self.invariant.sizes_are
    (placed_rows m.types m.table c.symbols.result.now (record { port = c.self.invariant.port; is_of = c.self.invariant.table }) whole c.symbols.ensures.rows)

pub returns : goal.returns
returns c =
    let m : PortMemory = memory_in c.self.inside in
    let was = c.args.was.now in
    let V : ℕ → ℕ → List ℕ → PortMemory = λ ads device image.
    record m { bytes = record { image = image; ads = ads; device = device; version = m.bytes.version } } in
    let P : PortMemory
    → Type 0 = λ x. AreCompared was.types x.types c.args.same.now → V c.was.inside.ads c.was.inside.device c.put_reloaded.new.image ≡ with_kept was x in
    subst P c.self.view_is (λ compared.
    let with_ : IsTableWith m.types m.table = record { port = c.self.invariant.port; is_of = c.self.invariant.table } in
    let put = c.in_ok-put_reloaded.ensures.ok m.types compared (typed_rows m.types m.table c.symbols.result.now with_ c.symbols.ensures.rows) in
    let symbols : List TableSymbol → List PlacedBytes = map (placed_symbol (reloaded_bytes m.types was)) in
    let rows = reloaded-rows m.types was c.symbols.result.now ∙ ap symbols c.symbols.ensures.rows in
    let image = put ∙ ap (λ bs. with_all_bytes (sizes_of c.self.inside.sizes) m.bytes.image bs) rows
    ∙ ap (λ z. with_all_bytes z m.bytes.image (symbols m.table.symbols)) (sym c.self.invariant.sizes_are) in
    ap (V c.was.inside.ads c.was.inside.device) image
    ∙ ap (λ (x : PortMemory). V x.bytes.ads x.bytes.device (with_all_bytes m.table.sizes m.bytes.image (symbols m.table.symbols))) c.was.view_is)
