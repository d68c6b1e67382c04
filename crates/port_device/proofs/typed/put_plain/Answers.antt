use Rattle.std.proofs.Common.{[], refl, ◌∙◌, ap}
use Rattle.spec_plant.specs.Listed.{Plain}
use Rattle.spec_plant.specs.Trees.{PlainTree}
use Rattle.spec_formats.specs.TypeEntry.{type_bytes}
use Rattle.type_layout.specs.NamedTypes.{types_of}
use Rattle.type_layout.specs.Shapes.{kind_of}
use Rattle.type_upload.specs.Alone.{entry_alone}
use Rattle.port_device.specs.TypesPut.{put_bytes}
use Rattle.port_device.proofs.TypesPut.{sized_elem, short_elem, plain_put, ok_as}
use Rattle.port_device.proofs.typed.put_plain.Goals as goal

pub put_type_alone-requires-clause-sized : goal.put_type_alone-requires-clause-sized
put_type_alone-requires-clause-sized c = sized_elem (types_of c.args.types.now) (Plain (kind_of c.args.kind)) c.requires refl

pub put_type_alone-requires-clause-text : goal.put_type_alone-requires-clause-text
put_type_alone-requires-clause-text c = short_elem (types_of c.args.types.now) (Plain (kind_of c.args.kind)) c.requires refl

pub returns-clause-ok : goal.returns-clause-ok
returns-clause-ok c =
    let k = kind_of c.args.kind in
    ok_as c.put_type_alone.result c.args.out.now c.put_type_alone.new.out (type_bytes (entry_alone (PlainTree k) c.type_id.result [])) (put_bytes (PlainTree k))
    (ap (λ n. type_bytes (entry_alone (PlainTree k) n [])) c.type_id.ensures ∙ plain_put k) c.put_type_alone.ensures.ok
