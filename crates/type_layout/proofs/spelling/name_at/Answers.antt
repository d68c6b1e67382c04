-- The canonical text of a named type is its name.
use Rattle.std.proofs.Common.{sym, ◌∙◌, ap}
use Rattle.std.specs.Prelude.{Some}
use Rattle.spec_plant.proofs.TypeLemmas.{type_text-named}
use Rattle.type_layout.specs.NamedTypes.{types_of, named_type_of, structure_of, enumeration_of}
use Rattle.type_layout.proofs.Places.{read_at}
use Rattle.type_layout.proofs.spelling.name_at.Goals as goal

pub returns-in-Struct : goal.returns-in-Struct
returns-in-Struct c =
    let there = read_at named_type_of c.args.types.now c.args.place c.index-types-place.result c.requires c.index-types-place.is
    ∙ ap (λ y. Some (named_type_of y)) c.in-Struct.is in
    c.as_slice.ensures ∙ sym (type_text-named (types_of c.args.types.now) c.args.place (structure_of c.in-Struct.structure) there)

pub returns-in-Enum : goal.returns-in-Enum
returns-in-Enum c =
    let there = read_at named_type_of c.args.types.now c.args.place c.index-types-place.result c.requires c.index-types-place.is
    ∙ ap (λ y. Some (named_type_of y)) c.in-Enum.is in
    c.as_slice-in-Enum.ensures ∙ sym (type_text-named (types_of c.args.types.now) c.args.place (enumeration_of c.in-Enum.enumeration) there)
