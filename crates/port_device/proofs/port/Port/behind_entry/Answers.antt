use Rattle.std.proofs.Common.{◌≡◌, ◌∙◌, ℕ, List, refl, sym, ap, subst}
use Rattle.std.specs.Prelude.{Some, None, IfOk, option_map}
use Rattle.std.specs.Borrow.{Bor}
use Rattle.spec_plant.specs.Trees.{tree_of}
use Rattle.spec_machine.specs.PortBytes.{image_bytes}
use Rattle.spec_store.specs.BodyText.{entry_bytes}
use Rattle.symbol_table.specs.Rows.{symbol_of_row}
use Rattle.type_layout.specs.Forms.{form_of}
use Rattle.type_layout.specs.NamedTypes.{types_of}
use Rattle.type_layout.specs.Shapes.{shape_of_ref}
use Rattle.port_device.specs.Behind.{behind}
use Rattle.port_device.specs.PortMemory.{PortMemory}
use Rattle.port_device.specs.Ports.{memory_in}
use Rattle.port_device.specs.Reloaded.{present_bytes}
use Rattle.port_device.specs.PersistentRows.{head_bytes, value_bytes, stored_entry}
use Rattle.port_device.proofs.BehindLemmas.{entry-none, entry-some}
use Rattle.port_device.proofs.port.Port.behind_entry.Goals as goal

pub returns-in-Some : goal.returns-in-Some
returns-in-Some c =
    let m : PortMemory = memory_in c.self.inside in
    let s = symbol_of_row c.args.row.now in
    let bytes = c.args.bytes.now in
    let rest = c.in-Some.rest.now in
    let answer = c.behind_typed.result in
    let head : Some rest ≡ behind (head_bytes m.number s.name) bytes = rw c.as_slice.ensures at c.in-Some.ensures in
    let value : c.bytes_of-value.result.now ≡ present_bytes m s =
    c.bytes_of-value.ensures ∙ ap (λ z. image_bytes z m.bytes.image s.area s.offset s.size) (sym c.self.invariant.sizes_are) in
    let form : form_of (tree_of (types_of c.deref.result.now) (shape_of_ref c.as_ref.result)) ≡ form_of (tree_of m.types s.shape) =
    rw (c.deref.ensures, c.as_ref.ensures) refl in
    let V : List ℕ → Type 0 = λ v. IfOk answer (λ x. option_map (λ (y : Bor (List ℕ)). y.now) x ≡ behind v rest) in
    let is = subst (λ b. V (value_bytes (form_of (tree_of m.types s.shape)) b)) value
    (subst (λ f. V (value_bytes f c.bytes_of-value.result.now)) form c.behind_typed.ensures) in
    subst (λ x. IfOk answer (λ o. option_map (λ (y : Bor (List ℕ)). y.now) o ≡ behind (entry_bytes (stored_entry x s)) bytes)) c.self.view_is
    (entry-some (stored_entry m s) answer bytes rest head is)

pub returns-in-None : goal.returns-in-None
returns-in-None c =
    let m : PortMemory = memory_in c.self.inside in
    let s = symbol_of_row c.args.row.now in
    subst (λ x. None ≡ behind (entry_bytes (stored_entry x s)) c.args.bytes.now) c.self.view_is
    (entry-none (stored_entry m s) c.args.bytes.now (rw c.as_slice.ensures at c.in-None.ensures))
