-- The tree at the place is that of the enumeration which stands there.
use Rattle.std.proofs.Common.{◌≡◌, ◌<◌, ◌++◌, length, append_assoc, refl}
use Rattle.std.specs.Prelude.{codes}
use Rattle.name_paths.specs.Identifier.{lower}
use Rattle.spec_plant.specs.Plain.{kind_name}
use Rattle.type_layout.specs.Shapes.{kind_of}
use Rattle.std.proofs.lemmas.List.{length-map}
use Rattle.spec_plant.specs.Listed.{is_enumeration}
use Rattle.spec_plant.proofs.TypeLemmas.{at-below}
use Rattle.type_layout.specs.Forms.{form_of}
use Rattle.type_layout.specs.NamedTypes.{types_of}
use Rattle.type_layout.proofs.Places.{enumeration_at}
use Rattle.type_layout.proofs.form.enumeration_form.Goals as goal

pub returns : goal.returns
unfolding form_of
returns c =
    let below : c.args.place < length c.args.types.now =
    simp length-map at (at-below is_enumeration (types_of c.args.types.now) c.args.place c.requires.there) in
    let there = enumeration_at c.args.types.now c.args.place c.index-types-place.result
    c.in-Enum.enumeration c.requires.types below c.index-types-place.is c.in-Enum.is in
    let name = lower c.in-Enum.enumeration.name in
    let base = lower (kind_name (kind_of c.in-Enum.enumeration.base)) in
    let text : (c.put_lower.new.out ++ (lower c.as_bytes.result.now ++ codes ")")) ≡ c.args.out.now ++ (name ++ codes "(" ++ base ++ codes ")")
    = rw (c.in_ok-put_lower.ensures, c.as_slice.ensures, c.as_bytes.ensures.value, c.name.ensures) (simp append_assoc refl) in
    rw there.tree (rw text at c.put_lower-2.ensures)
