-- The type behind the known ones stands at its place.
use Rattle.std.proofs.Common.{◌≡◌}
use Rattle.std.specs.Prelude.{Some, slice_get}
use Rattle.spec_plant.proofs.TypeLemmas.{stands_at}
use Rattle.type_layout.specs.NamedTypes.{types_of, named_type_of}
use Rattle.type_layout.proofs.Places.{read_at}
use Rattle.type_upload.proofs.alone.append_type_at.Goals as goal

pub returns-clause-ok : goal.returns-clause-ok
returns-clause-ok c =
    let types = types_of c.args.types.now in
    let t = named_type_of c.index-as_slice-place.result in
    let got : slice_get types c.args.place ≡ Some t =
    rw c.as_slice.ensures at
    (read_at named_type_of c.as_slice.result.now c.args.place c.index-as_slice-place.result (rw c.as_slice.ensures c.requires.there)
    c.index-as_slice-place.is) in
    let stands = stands_at types c.args.place t c.requires.types got in
    rw stands.tree c.in_ok-append_type.ensures.ok
