-- An enumeration has no members.
use Rattle.std.proofs.Common.{◌≡◌, true, refl}
use Rattle.spec_plant.specs.AcceptedTypes.{is_elem}
use Rattle.spec_plant.specs.Listed.{Enum}
use Rattle.type_layout.specs.Shapes.{elem_of}
use Rattle.type_layout.specs.NamedTypes.{types_of}
use Rattle.type_layout.proofs.Leaves.{no_member}
use Rattle.symbol_table.proofs.members.elem_member.Goals as goal

pub returns-in-Enum : goal.returns-in-Enum
returns-in-Enum c =
    let named : is_elem (types_of c.args.types.now) (elem_of c.args.elem) ≡ true = c.requires.named in
    let there : is_elem (types_of c.args.types.now) (Enum c.in-Enum.field-0) ≡ true = rw c.in-Enum.is at named in
    let none = no_member (types_of c.args.types.now) c.in-Enum.field-0 c.args.name.now c.requires.types there in
    rw (c.in-Enum.is, none) refl
