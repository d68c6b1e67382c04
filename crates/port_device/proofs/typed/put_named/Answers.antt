use Rattle.std.proofs.Common.{arith}
use Rattle.std.proofs.lemmas.List.{length-map}
use Rattle.spec_plant.specs.Trees.{tree_at, trees_of}
use Rattle.spec_formats.specs.TypeEntry.{type_upload_bytes}
use Rattle.spec_formats.specs.TypeUpload.{entry_of_type}
use Rattle.type_layout.specs.NamedTypes.{types_of, named_type_of}
use Rattle.port_device.specs.TypesPut.{put_bytes}
use Rattle.port_device.proofs.TypesPut.{place_put, ok_as}
use Rattle.port_device.proofs.typed.put_named.Goals as goal

pub put_type_at-requires-clause-there : goal.put_type_at-requires-clause-there
put_type_at-requires-clause-there c = let n = length-map c.args.types.now named_type_of in omega (arith, n, c.requires.there)

pub returns-clause-ok : goal.returns-clause-ok
returns-clause-ok c =
    let tree = tree_at (trees_of (types_of c.args.types.now)) c.args.place in
    ok_as c.put_type_at.result c.args.out.now c.put_type_at.new.out (type_upload_bytes (entry_of_type tree)) (put_bytes tree)
    (place_put (types_of c.args.types.now) c.args.place c.requires.types c.requires.there) c.put_type_at.ensures.ok
