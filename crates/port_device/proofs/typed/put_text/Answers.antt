use Rattle.std.proofs.Common.{[]}
use Rattle.spec_plant.specs.Listed.{Text}
use Rattle.spec_plant.specs.Trees.{TextTree}
use Rattle.spec_formats.specs.TypeEntry.{type_bytes}
use Rattle.type_layout.specs.NamedTypes.{types_of}
use Rattle.type_upload.specs.Alone.{entry_alone}
use Rattle.port_device.specs.TypesPut.{put_bytes}
use Rattle.port_device.proofs.TypesPut.{sized_elem, short_elem, text_put, ok_as}
use Rattle.port_device.proofs.typed.put_text.Goals as goal

pub put_type_alone-requires-clause-sized : goal.put_type_alone-requires-clause-sized
put_type_alone-requires-clause-sized c = sized_elem (types_of c.args.types.now) (Text c.args.n) c.requires.types c.requires.short

pub put_type_alone-requires-clause-text : goal.put_type_alone-requires-clause-text
put_type_alone-requires-clause-text c = short_elem (types_of c.args.types.now) (Text c.args.n) c.requires.types c.requires.short

pub returns-clause-ok : goal.returns-clause-ok
returns-clause-ok c =
    let n = c.args.n in
    ok_as c.put_type_alone.result c.args.out.now c.put_type_alone.new.out (type_bytes (entry_alone (TextTree n) 30 [])) (put_bytes (TextTree n))
    (text_put n) c.put_type_alone.ensures.ok
