use Rattle.std.proofs.Common.{◌≡◌, ◌+◌, ◌≤◌, sym, ◌∙◌, ap, subst, arith}
use Rattle.spec_plant.specs.Description as plant
use Rattle.spec_plant.specs.Description.{size_in}
use Rattle.spec_plant.specs.Accepted.{image_size}
use Rattle.type_layout.specs.Descriptions.{sizes_of, area_of}
use Rattle.port_device.specs.PortMemory.{PortMemory}
use Rattle.port_device.specs.Signals.{bound_at, port_after_step}
use Rattle.port_device.specs.Ports.{memory_in}
use Rattle.symbol_table.specs.Tables.{IsTableWith}
use Rattle.symbol_table.specs.Rows.{symbol_of_row}
use Rattle.symbol_table.proofs.PlacedSymbols.{sound_symbol}
use Rattle.port_device.proofs.BoundLemmas.{symbol_bound_to-within}
use Rattle.port_device.proofs.StepLemmas.{step-none, step-some, row_there, rows_count}
use Rattle.port_device.proofs.port.Port.follow.Goals as goal

pub bounds-symbols-number : goal.bounds-symbols-number
bounds-symbols-number c =
    let m : PortMemory = memory_in c.self.inside in
    let is_bound = c.in-Some.ensures ∙ ap (λ xs. bound_at xs c.args.signal) c.as_slice.ensures.value ∙ c.self.invariant.bound_are c.args.signal in
    let within = symbol_bound_to-within c.args.signal c.in-Some.number m.table.symbols (sym is_bound) in
    let count = rows_count c.symbols.result.now m.table.symbols c.symbols.ensures.rows in
    omega (arith, within, count)

pub put_low_bytes-requires-clause-within : goal.put_low_bytes-requires-clause-within
put_low_bytes-requires-clause-within c =
    let m : PortMemory = memory_in c.self.inside in
    let row = c.index-symbols-number.result in
    let is_bound = c.in-Some.ensures ∙ ap (λ xs. bound_at xs c.args.signal) c.as_slice.ensures.value ∙ c.self.invariant.bound_are c.args.signal in
    let within = symbol_bound_to-within c.args.signal c.in-Some.number m.table.symbols (sym is_bound) in
    let rows = c.symbols.result.now in
    let same = c.symbols.ensures.rows in
    let count = rows_count rows m.table.symbols same in
    let there = row_there rows c.in-Some.number row m.table.symbols same (omega (arith, within, count)) c.index-symbols-number.is in
    let table : IsTableWith m.types m.table = record { port = c.self.invariant.port; is_of = c.self.invariant.table } in
    let sound = sound_symbol m.types m.table c.in-Some.number (symbol_of_row row) table there in
    let P : plant.Sizes → Type 0 = λ s. row.«at» + row.len ≤ size_in s (area_of row.area) in
    subst P c.self.invariant.sizes_are sound.within

pub returns-in-None : goal.returns-in-None
returns-in-None c =
    let m : PortMemory = memory_in c.self.inside in
    let is_bound = c.in-None.ensures ∙ ap (λ xs. bound_at xs c.args.signal) c.as_slice.ensures.value ∙ c.self.invariant.bound_are c.args.signal in
    let P : PortMemory → Type 0 = λ x. x ≡ port_after_step c.args.signal c.args.value x in
    subst P c.self.view_is (step-none c.args.signal c.args.value m (sym is_bound))

pub returns-in-Some : goal.returns-in-Some
returns-in-Some c =
    let m : PortMemory = memory_in c.self.inside in
    let row = c.index-symbols-number.result in
    let is_bound = c.in-Some.ensures ∙ ap (λ xs. bound_at xs c.args.signal) c.as_slice.ensures.value ∙ c.self.invariant.bound_are c.args.signal in
    let within = symbol_bound_to-within c.args.signal c.in-Some.number m.table.symbols (sym is_bound) in
    let rows = c.symbols.result.now in
    let same = c.symbols.ensures.rows in
    let count = rows_count rows m.table.symbols same in
    let there = row_there rows c.in-Some.number row m.table.symbols same (omega (arith, within, count)) c.index-symbols-number.is in
    step-some c.args.signal c.args.value c.in-Some.number m (symbol_of_row row) (sizes_of c.self.inside.sizes) c.put_low_bytes.new.image (sym is_bound) there
    c.self.invariant.sizes_are c.put_low_bytes.ensures.bytes
    ∙ ap (port_after_step c.args.signal c.args.value) c.self.view_is

pub invariant_of-self : goal.invariant_of-self
invariant_of-self c = record {
  port = c.self.invariant.port;
  table = c.self.invariant.table;
  sizes_are = c.self.invariant.sizes_are;
  few = c.self.invariant.few;
  bytes = c.put_low_bytes.ensures.image ∙ ap image_size (sym c.self.invariant.sizes_are);
  texts = c.self.invariant.texts;
  uploads_are = c.self.invariant.uploads_are;
  bound_are = c.self.invariant.bound_are;
  marks_are = c.self.invariant.marks_are;
}
