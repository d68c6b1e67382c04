-- The fields are short; with the sub entries behind them they are the entry.
use Rattle.std.proofs.Common.{◌≡◌, length, map, take, ap, sym, ◌∙◌, arith}
use Rattle.std.proofs.lemmas.List.{length-map}
use Rattle.spec_plant.specs.Listed.{Structure}
use Rattle.spec_plant.specs.Trees.{trees_of, member_trees}
use Rattle.spec_plant.proofs.TypeLemmas.{stands_at}
use Rattle.type_layout.specs.NamedTypes.{types_of, member_of}
use Rattle.type_upload.specs.NextMembers.{subs_of}
use Rattle.spec_plant.proofs.TextLengths.{short_type_name}
use Rattle.type_upload.proofs.MemberLemmas.{few_members, length-members_fields}
use Rattle.type_upload.proofs.EntryLemmas.{structure_written}
use Rattle.type_upload.proofs.writing.append_structure.Goals as goal

pub overflow_cast-len : goal.overflow_cast-len
overflow_cast-len c =
    let types = types_of c.args.types.now in
    let place = length c.args.known.now in
    let ms = map member_of c.args.s.now.members in
    let stands = stands_at types place (Structure c.args.s.now.name ms) c.requires.types c.requires.there in
    let few = few_members (take place types) c.args.s.now.name ms stands.parts in
    let count = length-map c.args.s.now.members member_of in
    omega (arith, few, count, c.len-2.ensures)

pub append_fields-requires-clause-short : goal.append_fields-requires-clause-short
append_fields-requires-clause-short c =
    let ms = map member_of c.args.s.now.members in
    let stands = stands_at (types_of c.args.types.now) (length c.args.known.now) (Structure c.args.s.now.name ms) c.requires.types c.requires.there in
    record {
      name = let short = short_type_name c.args.s.now.name stands.name in rw c.as_slice.ensures (omega (arith, short));
      kind = omega arith;
      comment = omega arith;
      dims = omega arith;
    }

pub returns-clause-ok : goal.returns-clause-ok
returns-clause-ok c =
    let types = types_of c.args.types.now in
    let ms = map member_of c.args.s.now.members in
    let layout = c.in_ok-layout.ensures.layout in
    let subs : c.append_members.new.out ≡ subs_of types 0 ms = rw c.new-subs.ensures at c.in_ok-layout.ensures.ok in
    let behind : c.len.result ≡ length c.as_slice-2.result.now = c.len.ensures ∙ ap length (sym c.as_slice-2.ensures) in
    let count = c.len-2.ensures ∙ sym (length-members_fields (trees_of types) 0 ms ∙ length-map c.args.s.now.members member_of) in
    structure_written c.args.s.now.name (member_trees (trees_of types) ms) c.in_ok-layout.layout.size c.in_ok-layout.layout.type_id c.len-2.result
    c.as_slice.result.now c.as_slice-2.result.now c.args.out.now c.append_fields.new.out c.put.new.self
    layout.size_is layout.id_is c.as_slice.ensures count (c.as_slice-2.ensures ∙ subs) (rw behind at c.in_ok-append_fields.ensures.ok) c.in_ok-put.ensures.ok
