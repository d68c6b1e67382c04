-- A structure stands there, or an enumeration.
use Rattle.std.proofs.Common.{◌≡◌, true, false, ◌∙◌, ap}
use Rattle.std.specs.Prelude.{Some}
use Rattle.std.specs.Option.{option_map_or}
use Rattle.spec_plant.specs.Listed.{is_structure, is_enumeration}
use Rattle.type_layout.specs.NamedTypes.{types_of, named_type_of}
use Rattle.type_layout.proofs.Places.{read_at}
use Rattle.type_layout.proofs.extents.extent_at.Goals as goal

pub struct_extent-requires-clause-there : goal.struct_extent-requires-clause-there
struct_extent-requires-clause-there c =
    ap (λ o. option_map_or is_structure o false)
    (read_at named_type_of c.args.types.now c.args.place c.index-types-place.result c.requires.there c.index-types-place.is
    ∙ ap (λ y. Some (named_type_of y)) c.in-Struct.is)

pub enum_extent-requires-clause-there : goal.enum_extent-requires-clause-there
enum_extent-requires-clause-there c =
    ap (λ o. option_map_or is_enumeration o false)
    (read_at named_type_of c.args.types.now c.args.place c.index-types-place.result c.requires.there c.index-types-place.is
    ∙ ap (λ y. Some (named_type_of y)) c.in-Enum.is)
