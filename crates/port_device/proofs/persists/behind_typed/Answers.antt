use Rattle.std.proofs.Common.{◌≡◌, ◌∙◌, List, ℕ, sym, ap, subst}
use Rattle.std.specs.Prelude.{◌++◌, length, option_map}
use Rattle.std.specs.Int.{w32, to_le_bytes}
use Rattle.std.specs.Borrow.{Bor}
use Rattle.type_layout.specs.NamedTypes.{types_of}
use Rattle.type_layout.specs.Shapes.{kind_of, shape_of_ref}
use Rattle.port_device.specs.Behind.{behind}
use Rattle.port_device.specs.PersistentRows.{value_bytes}
use Rattle.port_device.proofs.BehindLemmas.{plain-form, sized-parts}
use Rattle.port_device.proofs.persists.behind_typed.Goals as goal

pub returns-in-Some : goal.returns-in-Some
returns-in-Some c =
    let value = c.args.value.now in
    let bytes = c.args.bytes.now in
    let form = plain-form (types_of c.args.types.now) (shape_of_ref c.args.t) (kind_of c.in-Some.kind) c.in-Some.ensures in
    let P : List ℕ → Type 0 = λ f. option_map (λ (x : Bor (List ℕ)). x.now) c.behind_sized.result ≡ behind (value_bytes f value) bytes in
    let text = c.sized_form.ensures in
    subst P (sym form) (c.behind_sized.ensures
    ∙ ap (λ t. behind (t ++ (to_le_bytes w32 (length value) ++ value)) bytes) text ∙ ap (λ t. behind t bytes) (sized-parts _ value))
