-- A structure stands there, or an enumeration.
use Rattle.std.proofs.Common.{◌<◌, length, sym, ◌∙◌, ap, arith}
use Rattle.std.proofs.lemmas.List.{length-map}
use Rattle.spec_plant.specs.Entries.{type_id}
use Rattle.type_layout.specs.NamedTypes.{named_type_of}
use Rattle.type_layout.proofs.Places.{structure_at, enumeration_at}
use Rattle.port_device.proofs.type_ids.named_id.Goals as goal

pub returns-in-Struct : goal.returns-in-Struct
returns-in-Struct c =
    let count = length-map c.args.types.now named_type_of in
    let there : c.args.place < length c.args.types.now = omega (arith, count, c.requires.there) in
    sym (ap type_id (structure_at c.args.types.now c.args.place c.index-types-place.result c.in-Struct.field-0 c.requires.types there
    c.index-types-place.is c.in-Struct.is).tree)

pub returns-in-Enum : goal.returns-in-Enum
returns-in-Enum c =
    let count = length-map c.args.types.now named_type_of in
    let there : c.args.place < length c.args.types.now = omega (arith, count, c.requires.there) in
    c.type_id.ensures ∙ sym (ap type_id (enumeration_at c.args.types.now c.args.place c.index-types-place.result c.in-Enum.e c.requires.types there
    c.index-types-place.is c.in-Enum.is).tree)
