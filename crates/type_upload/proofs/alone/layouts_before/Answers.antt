-- The type at a place stands behind those before it.
use Rattle.std.proofs.Common.{◌≡◌, ◌<◌, [], ◌∷◌, length, arith, ap, length-append}
use Rattle.std.specs.Prelude.{Some, slice_get}
use Rattle.spec_plant.proofs.TypeLemmas.{stands_at}
use Rattle.type_layout.specs.NamedTypes.{types_of, named_type_of}
use Rattle.type_layout.proofs.Places.{read_at}
use Rattle.type_upload.proofs.LayoutLemmas.{AreKnown-push}
use Rattle.type_upload.proofs.alone.layouts_before.Goals as goal

pub loop-place-preserved : goal.loop-place-preserved
loop-place-preserved c =
    let types = types_of c.args.types.now in
    let i = c.loop-place.place in
    let t = named_type_of c.index-as_slice-place.result in
    let kept = c.loop-place.invariant in
    let there : i < length c.as_slice.result.now = rw c.as_slice.ensures (omega (arith, c.loop-place-test.true, c.requires.there)) in
    let got : slice_get types i ≡ Some t =
    rw c.as_slice.ensures at (read_at named_type_of c.as_slice.result.now i c.index-as_slice-place.result there c.index-as_slice-place.is) in
    let stands = stands_at types i t c.requires.types got in
    let longer = length-append c.loop-place.known (c.in_ok-layout.layout ∷ []) in
    let len = ap length c.in_ok-push.ensures.ok in
    let count = kept.count in
    record {
      known = AreKnown-push types c.loop-place.known c.push.new.self c.in_ok-layout.layout kept.known
          (rw (kept.count, stands.tree) c.in_ok-layout.ensures.layout) c.in_ok-push.ensures.ok;
      count = omega (arith, longer, len, count);
    }
