-- The tree at the place is that of the enumeration which stands there.
use Rattle.std.proofs.Common.{◌<◌, length}
use Rattle.std.proofs.lemmas.List.{length-map}
use Rattle.spec_plant.specs.Sizes.{type_size, type_align}
use Rattle.spec_plant.specs.Listed.{is_enumeration}
use Rattle.spec_plant.proofs.TypeLemmas.{at-below}
use Rattle.type_layout.specs.NamedTypes.{types_of}
use Rattle.type_layout.proofs.Places.{enumeration_at}
use Rattle.type_layout.proofs.extent.enum_extent.Goals as goal

pub returns : goal.returns
unfolding type_size type_align
returns c =
    let below : c.args.place < length c.args.types.now =
    simp length-map at (at-below is_enumeration (types_of c.args.types.now) c.args.place c.requires.there) in
    let there = enumeration_at c.args.types.now c.args.place c.index-types-place.result
    c.in-Enum.enumeration c.requires.types below c.index-types-place.is c.in-Enum.is in
    rw there.tree (record { size = c.size.ensures.value; align = c.size-2.ensures.value })
