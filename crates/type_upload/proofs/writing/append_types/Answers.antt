-- Each entry is that of the tree at its place, and its layout is known behind it.
use Rattle.std.proofs.Common.{◌≡◌, ◌≤◌, [], ◌∷◌, length, ap, arith, length-append}
use Rattle.std.specs.Prelude.{Some, slice_get}
use Rattle.std.proofs.lemmas.List.{length-map}
use Rattle.std.proofs.lemmas.Option.{slice_get_within}
use Rattle.spec_plant.specs.Trees.{named_tree, trees_of}
use Rattle.spec_plant.proofs.TypeLemmas.{stands_at}
use Rattle.type_layout.specs.NamedTypes.{types_of, named_type_of}
use Rattle.type_layout.proofs.Places.{read_at}
use Rattle.type_upload.proofs.LayoutLemmas.{AreKnown-push}
use Rattle.type_upload.proofs.EntryLemmas.{trees_go_on, trees_whole}
use Rattle.type_upload.proofs.writing.append_types.Goals as goal

pub loop-named-preserved : goal.loop-named-preserved
loop-named-preserved c =
    let types = types_of c.args.types.now in
    let i = c.loop-named.named-index in
    let t = named_type_of c.named-item.result in
    let kept = c.loop-named.invariant in
    let got : slice_get types i ≡ Some t =
    rw c.as_slice-named-items.ensures at
    (read_at named_type_of c.as_slice-named-items.result.now i c.named-item.result c.loop-named-test.true c.named-item.is) in
    let stands = stands_at types i t c.requires got in
    let longer = length-append c.loop-named.known (c.in_ok-layout.layout ∷ []) in
    let len = ap length c.in_ok-push.ensures.ok in
    let count = kept.count in
    record {
      written = trees_go_on types i (named_tree (trees_of types) t) c.args.out.now
          c.loop-named.out c.append_type.new.out (slice_get_within types i t got) stands.tree
          kept.written c.in_ok-layout.ensures.ok;
      known = AreKnown-push types c.loop-named.known c.push.new.self c.in_ok-layout.layout kept.known
          (rw (kept.count, stands.tree) c.in_ok-layout.ensures.layout) c.in_ok-push.ensures.ok;
      count = omega (arith, longer, len, count);
    }

pub returns-clause-ok : goal.returns-clause-ok
returns-clause-ok c =
    let types = types_of c.args.types.now in
    let count = length-map c.args.types.now named_type_of in
    let items = ap length c.as_slice-named-items.ensures in
    let far : length types ≤ c.loop-named.named-index = omega (arith, count, items, c.loop-named-test.false) in
    trees_whole types c.loop-named.named-index c.args.out.now c.loop-named.out far c.loop-named.invariant.written
