use Rattle.std.proofs.Common.{◌≡◌, ◌+◌, ◌≤◌, true, false, sym, ◌∙◌, ap, subst}
use Rattle.std.specs.Prelude.{Option, Some, None}
use Rattle.spec_machine.specs.NumberedPlaces.{KeptSymbol}
use Rattle.symbol_table.specs.Tables.{IsTableWith, number_called}
use Rattle.symbol_table.specs.Rows.{symbol_of_row}
use Rattle.port_device.specs.KeptSymbols.{kept_symbol_of}
use Rattle.port_device.specs.Moved.{entry_of, EndsInReach}
use Rattle.port_device.specs.PortMemory.{PortMemory}
use Rattle.port_device.specs.Ports.{memory_in}
use Rattle.port_device.specs.Reloaded.{AreCompared, IsTypedRow}
use Rattle.port_device.proofs.EntryLemmas.{entry-some, ends_in_reach}
use Rattle.port_device.proofs.ReloadLemmas.{row_called, row-symbol, typed_row}
use Rattle.port_device.proofs.port.Port.entry_of.Goals as goal

pub returns-then-have_same_type-clause-fits : goal.returns-then-have_same_type-clause-fits
returns-then-have_same_type-clause-fits c =
    let m : PortMemory = memory_in c.self.inside in
    let with_ : IsTableWith m.types m.table = record { port = c.self.invariant.port; is_of = c.self.invariant.table } in
    let new = c.index-symbols-place.result in
    let number = sym c.in_ok-named.ensures ∙ c.in-Some.is in
    let there = row_called c.symbols.result.now m.table.symbols c.as_slice.result.now
    c.in-Some.place new c.symbols.ensures.rows number c.index-symbols-place.is in
    let ends : EndsInReach new =
    ends_in_reach m.types m.table c.symbols.result.now c.in-Some.place new with_ c.self.invariant.few c.symbols.ensures.rows there in
    let same = c.have_same_type.ensures.len c.if-have_same_type.true in
    let from_ = c.whole_place.ensures in
    let to_ = c.whole_place-then-have_same_type.ensures in
    let old_ends : c.args.row.now.«at» + c.args.row.now.len ≤ 4294967295 = c.requires in
    rw (from_, to_) (record { length = sym same; old_end = old_ends; new_end = ends })

pub returns-then-have_same_type-clause-entry : goal.returns-then-have_same_type-clause-entry
returns-then-have_same_type-clause-entry c = λ before.
    let m : PortMemory = memory_in c.self.inside in
    let with_ : IsTableWith m.types m.table = record { port = c.self.invariant.port; is_of = c.self.invariant.table } in
    let new = c.index-symbols-place.result in
    let s = symbol_of_row c.args.row.now in
    let found = sym c.in_ok-named.ensures ∙ c.in-Some.is in
    let number = ap (λ name. number_called name m.table.symbols) (sym c.as_slice.ensures) ∙ found in
    let there = row_called c.symbols.result.now m.table.symbols c.as_slice.result.now
    c.in-Some.place new c.symbols.ensures.rows found c.index-symbols-place.is in
    let symbol = row-symbol c.symbols.result.now m.table.symbols c.in-Some.place new c.symbols.ensures.rows there in
    let from_ = c.whole_place.ensures in
    let to_ = c.whole_place-then-have_same_type.ensures in
    let e : KeptSymbol = kept_symbol_of (record { port = c.args.ams_port; from = c.whole_place.result; to = c.whole_place-then-have_same_type.result }) in
    let P : PortMemory
    → Type 0 = λ x. AreCompared before x.types c.args.same.now → IsTypedRow before c.args.row.now → ◌≡◌ {A = Option KeptSymbol} (Some e)
    (entry_of before x c.args.ams_port c.args.number s) in
    subst P c.self.view_is (λ compared typed.
    let new_typed = typed_row m.types m.table c.symbols.result.now c.in-Some.place new with_ c.symbols.ensures.rows there in
    let same = sym (c.have_same_type.ensures.same before m.types compared typed new_typed) ∙ c.if-have_same_type.true in
    rw (from_, to_) (sym (entry-some before m c.args.ams_port c.args.number s c.in-Some.place (symbol_of_row new) true number symbol same)))

pub returns-else-have_same_type-clause-entry : goal.returns-else-have_same_type-clause-entry
returns-else-have_same_type-clause-entry c = λ before.
    let m : PortMemory = memory_in c.self.inside in
    let with_ : IsTableWith m.types m.table = record { port = c.self.invariant.port; is_of = c.self.invariant.table } in
    let new = c.index-symbols-place.result in
    let s = symbol_of_row c.args.row.now in
    let found = sym c.in_ok-named.ensures ∙ c.in-Some.is in
    let number = ap (λ name. number_called name m.table.symbols) (sym c.as_slice.ensures) ∙ found in
    let there = row_called c.symbols.result.now m.table.symbols c.as_slice.result.now
    c.in-Some.place new c.symbols.ensures.rows found c.index-symbols-place.is in
    let symbol = row-symbol c.symbols.result.now m.table.symbols c.in-Some.place new c.symbols.ensures.rows there in
    let P : PortMemory
    → Type 0 = λ x. AreCompared before x.types c.args.same.now → IsTypedRow before c.args.row.now → ◌≡◌ {A = Option KeptSymbol} None
    (entry_of before x c.args.ams_port c.args.number s) in
    subst P c.self.view_is (λ compared typed.
    let new_typed = typed_row m.types m.table c.symbols.result.now c.in-Some.place new with_ c.symbols.ensures.rows there in
    let same = sym (c.have_same_type.ensures.same before m.types compared typed new_typed) ∙ c.if-have_same_type.false in
    sym (entry-some before m c.args.ams_port c.args.number s c.in-Some.place (symbol_of_row new) false number symbol same))
