-- Each member is sized and short, and stands where those before it end.
use Rattle.std.proofs.Common.{◌≤◌, ◌++◌, length, map, take, refl, ap, ◌∙◌, arith, length-append}
use Rattle.std.proofs.lemmas.List.{length-map}
use Rattle.ads_base.proofs.OctetsLemmas.{Extends-same, Extends-append}
use Rattle.spec_plant.specs.Listed.{Structure}
use Rattle.spec_plant.specs.Trees.{trees_of, member_trees}
use Rattle.spec_plant.proofs.SizeLemmas.{greatest_align-bounds}
use Rattle.spec_plant.proofs.TypeLemmas.{stands_at}
use Rattle.type_layout.specs.NamedTypes.{types_of, member_of}
use Rattle.type_layout.proofs.Places.{read_at}
use Rattle.type_layout.proofs.MemberTurns.{is_turn, drop-get}
use Rattle.type_upload.specs.NextMembers.{sub_of, subs_of}
use Rattle.type_upload.proofs.MemberLemmas.{next_member, few_members, subs_go_on, sub_of-short, is_whole}
use Rattle.type_upload.proofs.members.append_members.Goals as goal

pub loop-member-init : goal.loop-member-init
loop-member-init c =
    let low = (greatest_align-bounds (member_trees (trees_of (types_of c.args.types.now)) (map member_of c.as_slice-members.result.now))).0 in
    record {
      within = omega arith;
      written = refl;
      begins = Extends-same c.args.out.now c.args.out.now refl;
      short = omega arith;
      ends = refl;
      aligns = omega (arith, low);
      low = omega arith;
    }

pub append_member-requires-clause-next : goal.append_member-requires-clause-next
append_member-requires-clause-next c =
    let types = types_of c.args.types.now in
    let place = length c.args.known.now in
    let ms = map member_of c.as_slice-members.result.now in
    let stands = stands_at types place (Structure c.args.s.now.name ms) c.requires.types (rw c.as_slice-members.ensures c.requires.there) in
    let got = read_at member_of c.as_slice-members.result.now c.loop-member.member-index c.member-item.result c.loop-member-test.true c.member-item.is in
    next_member types place c.args.s.now.name ms c.loop-member.member-index (member_of c.member-item.result) c.loop-member.laid.end c.requires.types stands got
    c.loop-member.invariant.ends

pub loop-member-preserved : goal.loop-member-preserved
loop-member-preserved c =
    let types = types_of c.args.types.now in
    let place = length c.args.known.now in
    let name = c.args.s.now.name in
    let ms = map member_of c.as_slice-members.result.now in
    let i = c.loop-member.member-index in
    let m = member_of c.member-item.result in
    let end = c.loop-member.laid.end in
    let out = c.loop-member.out in
    let kept = c.loop-member.invariant in
    let stands = stands_at types place (Structure name ms) c.requires.types (rw c.as_slice-members.ensures c.requires.there) in
    let got = read_at member_of c.as_slice-members.result.now i c.member-item.result c.loop-member-test.true c.member-item.is in
    let turn = is_turn types place name ms i m end stands got kept.ends in
    let next = next_member types place name ms i m end c.requires.types stands got kept.ends in
    let left = drop-get ms i m got in
    let follows = c.in_ok-next.ensures.laid in
    let ok = c.in_ok-next.ensures.ok in
    let few = sub_of-short types place end m c.requires.types next in
    let longer = length-append out (sub_of types end m) in
    let len = ap length ok in
    let short = kept.short in
    let aligns = turn.aligns in
    let so_far = kept.aligns in
    let align = follows.align_is in
    let low = kept.low in
    record {
      within = omega (arith, c.loop-member-test.true);
      written = subs_go_on types ms i m end c.in_ok-next.next.end out c.append_member.new.out
          (c.args.out.now ++ subs_of types 0 ms) left follows.end_is ok kept.written;
      begins = Extends-append c.args.out.now out (sub_of types end m) c.append_member.new.out kept.begins ok;
      short = omega (arith, few, longer, len, short);
      ends = rw follows.end_is (kept.ends ∙ turn.next);
      aligns = omega (arith, aligns, so_far, align);
      low = omega (arith, align, low);
    }

pub next_multiple-requires-clause-fits : goal.next_multiple-requires-clause-fits
next_multiple-requires-clause-fits c =
    let types = types_of c.args.types.now in
    let place = length c.args.known.now in
    let ms = map member_of c.as_slice-members.result.now in
    let kept = c.loop-member.invariant in
    let stands = stands_at types place (Structure c.args.s.now.name ms) c.requires.types (rw c.as_slice-members.ensures c.requires.there) in
    let far : length ms ≤ c.loop-member.member-index = simp length-map c.loop-member-test.false in
    let whole = is_whole types place c.args.s.now.name ms c.loop-member.member-index
    c.loop-member.laid.end c.loop-member.laid.align stands far kept.ends kept.aligns kept.low in
    let ends = whole.ends in
    let high = whole.high in
    omega (arith, ends, high)

pub returns-clause-short : goal.returns-clause-short
returns-clause-short c =
    let types = types_of c.args.types.now in
    let place = length c.args.known.now in
    let ms = map member_of c.as_slice-members.result.now in
    let stands = stands_at types place (Structure c.args.s.now.name ms) c.requires.types (rw c.as_slice-members.ensures c.requires.there) in
    let few = few_members (take place types) c.args.s.now.name ms stands.parts in
    let count = length-map c.as_slice-members.result.now member_of in
    let within = c.loop-member.invariant.within in
    let short = c.loop-member.invariant.short in
    omega (arith, few, count, within, short)

pub returns-clause-layout : goal.returns-clause-layout
returns-clause-layout c =
    let types = types_of c.args.types.now in
    let place = length c.args.known.now in
    let ms = map member_of c.as_slice-members.result.now in
    let kept = c.loop-member.invariant in
    let stands = stands_at types place (Structure c.args.s.now.name ms) c.requires.types (rw c.as_slice-members.ensures c.requires.there) in
    let far : length ms ≤ c.loop-member.member-index = simp length-map c.loop-member-test.false in
    let whole = is_whole types place c.args.s.now.name ms c.loop-member.member-index
    c.loop-member.laid.end c.loop-member.laid.align stands far kept.ends kept.aligns kept.low in
    record {
      size_is = c.next_multiple.ensures ∙ (rw c.as_slice-members.ensures at whole.size);
      align_is = rw c.as_slice-members.ensures at whole.align;
      id_is = refl;
    }
