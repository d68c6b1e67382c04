use Rattle.std.proofs.Common.{sym, ◌∙◌, subst}
use Rattle.std.specs.Prelude.{Bool}
use Rattle.spec_machine.specs.TypesByText.{tree_of_text}
use Rattle.type_layout.specs.NamedTypes.{types_of}
use Rattle.port_device.specs.TypesPut.{IsPut}
use Rattle.port_device.proofs.TypesPut.{no_type, too_long, short_enough}
use Rattle.port_device.proofs.typed.entry_by_text.Goals as goal

pub returns-then-not-there-clause-answer : goal.returns-then-not-there-clause-answer
returns-then-not-there-clause-answer c = λ w.
    let o = tree_of_text (types_of c.args.types.now) c.args.text.now in
    let P : Bool → Type 0 = λ b. IsPut o b c.new-entry.result c.put_by_text.new.out in
    no_type w o c.args.len c.new-entry.result c.put_by_text.new.out c.args.out.now (subst P c.if-not-there.true c.in_ok-there.ensures.put)

pub returns-then-is_too_long-clause-answer : goal.returns-then-is_too_long-clause-answer
returns-then-is_too_long-clause-answer c = λ w.
    let o = tree_of_text (types_of c.args.types.now) c.args.text.now in
    let P : Bool → Type 0 = λ b. IsPut o b c.new-entry.result c.put_by_text.new.out in
    too_long w o c.args.len c.len.result c.new-entry.result c.put_by_text.new.out c.args.out.now (subst P c.if-not-there.false c.in_ok-there.ensures.put)
    c.new-entry.ensures c.len.ensures (sym c.is_too_long.ensures ∙ c.if-is_too_long.true)

pub returns-clause-answer : goal.returns-clause-answer
returns-clause-answer c = λ w.
    let o = tree_of_text (types_of c.args.types.now) c.args.text.now in
    let P : Bool → Type 0 = λ b. IsPut o b c.new-entry.result c.put_by_text.new.out in
    short_enough w o c.args.len c.len.result c.new-entry.result c.put_by_text.new.out c.args.out.now c.put.new.self
    (subst P c.if-not-there.false c.in_ok-there.ensures.put) c.new-entry.ensures c.len.ensures (sym c.is_too_long.ensures ∙ c.if-is_too_long.false)
    (rw c.as_slice.ensures at c.in_ok-put.ensures.ok)
