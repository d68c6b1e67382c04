use Rattle.std.proofs.Common.{◌≡◌, ◌+◌, ◌≤◌, length, true, false, sym, ◌∙◌, ap, subst}
use Rattle.spec_plant.specs.Description.{size_in}
use Rattle.spec_plant.specs.Description as plant
use Rattle.spec_machine.specs.PortBytes.{image_bytes}
use Rattle.type_layout.specs.Descriptions.{area_of}
use Rattle.symbol_table.specs.Tables.{IsTableWith}
use Rattle.symbol_table.specs.Rows.{symbol_of_row}
use Rattle.port_device.specs.PortMemory.{PortMemory}
use Rattle.port_device.specs.Ports.{memory_in}
use Rattle.port_device.specs.Reloaded.{AreCompared, IsTypedRow, reloaded_bytes, symbol_called}
use Rattle.port_device.proofs.ReloadLemmas.{row_called, row_within, row-symbol, typed_row, length-image_bytes}
use Rattle.port_device.proofs.ReloadLemmas.{called-number, called-none, reloaded-none, reloaded-some}
use Rattle.port_device.proofs.port.Port.bytes_after.Goals as goal

pub bytes_of-requires-clause-within : goal.bytes_of-requires-clause-within
bytes_of-requires-clause-within c =
    let m : PortMemory = memory_in c.self.inside in
    let with_ : IsTableWith m.types m.table = record { port = c.self.invariant.port; is_of = c.self.invariant.table } in
    let number = sym c.in_ok-named.ensures ∙ c.in-Some.is in
    let there = row_called c.symbols.result.now m.table.symbols c.as_slice.result.now
    c.in-Some.number c.index-symbols-number.result c.symbols.ensures.rows number
    c.index-symbols-number.is in
    let within = row_within m.types m.table c.symbols.result.now c.in-Some.number c.index-symbols-number.result with_ c.symbols.ensures.rows there in
    let P : plant.Sizes
    → Type 0 = λ x. c.index-symbols-number.result.«at» + c.index-symbols-number.result.len ≤ size_in x (area_of c.index-symbols-number.result.area) in
    subst P c.self.invariant.sizes_are within

pub returns-in-None-clause-bytes : goal.returns-in-None-clause-bytes
returns-in-None-clause-bytes c = λ types.
    let m : PortMemory = memory_in c.self.inside in
    let with_ : IsTableWith m.types m.table = record { port = c.self.invariant.port; is_of = c.self.invariant.table } in
    let P : PortMemory → Type 0 = λ x. AreCompared x.types types c.args.same.now → IsTypedRow types c.args.row.now
    → c.as_slice-in-None.result.now ≡ reloaded_bytes types x (symbol_of_row c.args.row.now) in
    let number = ap (λ name. symbol_called name m.table.symbols) (sym c.as_slice.ensures)
    ∙ called-none c.as_slice.result.now m.table.symbols (sym c.in_ok-named.ensures ∙ c.in-None.is) in
    subst P c.self.view_is (λ compared typed. c.as_slice-in-None.ensures ∙ sym (reloaded-none types m (symbol_of_row c.args.row.now) number))

pub returns-then-have_same_type-clause-len : goal.returns-then-have_same_type-clause-len
returns-then-have_same_type-clause-len c =
    let m : PortMemory = memory_in c.self.inside in
    let with_ : IsTableWith m.types m.table = record { port = c.self.invariant.port; is_of = c.self.invariant.table } in
    let old = c.index-symbols-number.result in
    let number = sym c.in_ok-named.ensures ∙ c.in-Some.is in
    let there = row_called c.symbols.result.now m.table.symbols c.as_slice.result.now c.in-Some.number old c.symbols.ensures.rows number
    c.index-symbols-number.is in
    let within = row_within m.types m.table c.symbols.result.now c.in-Some.number old with_ c.symbols.ensures.rows there in
    let P : plant.Sizes → Type 0 = λ x. length (image_bytes x c.self.inside.image (area_of old.area) old.«at» old.len) ≡ old.len in
    ap length c.bytes_of.ensures
    ∙ subst P c.self.invariant.sizes_are
    (length-image_bytes m.table.sizes c.self.inside.image (area_of old.area) old.«at» old.len c.self.invariant.bytes within)
    ∙ c.have_same_type.ensures.len c.if-have_same_type.true

pub returns-then-have_same_type-clause-bytes : goal.returns-then-have_same_type-clause-bytes
returns-then-have_same_type-clause-bytes c = λ types.
    let m : PortMemory = memory_in c.self.inside in
    let with_ : IsTableWith m.types m.table = record { port = c.self.invariant.port; is_of = c.self.invariant.table } in
    let P : PortMemory → Type 0 = λ x. AreCompared x.types types c.args.same.now → IsTypedRow types c.args.row.now
    → c.bytes_of.result.now ≡ reloaded_bytes types x (symbol_of_row c.args.row.now) in
    let number = sym c.in_ok-named.ensures ∙ c.in-Some.is in
    let there = row_called c.symbols.result.now m.table.symbols c.as_slice.result.now
    c.in-Some.number c.index-symbols-number.result c.symbols.ensures.rows number
    c.index-symbols-number.is in
    let called = ap (λ name. symbol_called name m.table.symbols) (sym c.as_slice.ensures)
    ∙ called-number c.as_slice.result.now m.table.symbols c.in-Some.number number
    ∙ row-symbol c.symbols.result.now m.table.symbols c.in-Some.number c.index-symbols-number.result c.symbols.ensures.rows there in
    subst P c.self.view_is (λ compared typed.
    let old = typed_row m.types m.table c.symbols.result.now c.in-Some.number c.index-symbols-number.result with_
    c.symbols.ensures.rows there in
    let same = sym (c.have_same_type.ensures.same m.types types compared old typed) ∙ c.if-have_same_type.true in
    c.bytes_of.ensures
    ∙ ap (λ x. image_bytes x c.self.inside.image (area_of c.index-symbols-number.result.area)
    c.index-symbols-number.result.«at» c.index-symbols-number.result.len)
    (sym c.self.invariant.sizes_are)
    ∙ sym (reloaded-some types m (symbol_of_row c.index-symbols-number.result) (symbol_of_row c.args.row.now) true called same))

pub returns-else-have_same_type-clause-bytes : goal.returns-else-have_same_type-clause-bytes
returns-else-have_same_type-clause-bytes c = λ types.
    let m : PortMemory = memory_in c.self.inside in
    let with_ : IsTableWith m.types m.table = record { port = c.self.invariant.port; is_of = c.self.invariant.table } in
    let P : PortMemory → Type 0 = λ x. AreCompared x.types types c.args.same.now → IsTypedRow types c.args.row.now
    → c.as_slice-else-have_same_type.result.now ≡ reloaded_bytes types x (symbol_of_row c.args.row.now) in
    let old = c.index-symbols-number.result in
    let number = sym c.in_ok-named.ensures ∙ c.in-Some.is in
    let there = row_called c.symbols.result.now m.table.symbols c.as_slice.result.now c.in-Some.number old c.symbols.ensures.rows number
    c.index-symbols-number.is in
    let called = ap (λ name. symbol_called name m.table.symbols) (sym c.as_slice.ensures)
    ∙ called-number c.as_slice.result.now m.table.symbols c.in-Some.number number
    ∙ row-symbol c.symbols.result.now m.table.symbols c.in-Some.number old c.symbols.ensures.rows there in
    subst P c.self.view_is (λ compared typed.
    let was = typed_row m.types m.table c.symbols.result.now c.in-Some.number old with_
    c.symbols.ensures.rows there in
    let same = sym (c.have_same_type.ensures.same m.types types compared was typed) ∙ c.if-have_same_type.false in
    c.as_slice-else-have_same_type.ensures
    ∙ sym (reloaded-some types m (symbol_of_row old) (symbol_of_row c.args.row.now) false called same))
