use Rattle.std.proofs.Common.{◌≡◌, ◌+◌, None, length, map, take, sym, ap, ◌∙◌, arith}
use Rattle.spec_rules.specs.Written.{written_members}
use Rattle.spec_rules.specs.TypeRules.{wrong_member_of}
use Rattle.description_table.specs.Views.{type_view}
use Rattle.description_rules.specs.NameStarts.{is_none_of}
use Rattle.description_rules.proofs.FirstLemmas.{take-more}
use Rattle.description_rules.proofs.ThroughLemmas.{through_from, through_from-start, through_from-right, through_from-wrong}
use Rattle.description_rules.proofs.MemberLemmas.{wrong_member-named, type_names-more}
use Rattle.description_rules.proofs.type_rules.first_wrong_behind.Goals as goal

pub loop-kind-init : goal.loop-kind-init
loop-kind-init c = record {
  first = through_from-start (λ t. length (written_members t)) wrong_member_of type_view c.args.types.now;
  small = omega arith;
  named = λ text. ap (λ names. is_none_of names text) c.requires;
}

pub returns-in-Some : goal.returns-in-Some
returns-in-Some c =
    let xs = c.args.types.now in
    let i = c.loop-kind.kind-index in
    let x = c.kind-item.result in
    sym (through_from-wrong (λ t. length (written_members t)) wrong_member_of type_view
    xs i c.loop-kind.count c.in-Some.place x _ c.loop-kind-test.true c.kind-item.is
    (sym (wrong_member-named (map type_view (take i xs)) c.loop-kind.names c.loop-kind.invariant.named (type_view x))
    ∙ sym c.in_ok-place.ensures ∙ c.in-Some.is)
    c.loop-kind.invariant.first)

pub loop-kind-preserved : goal.loop-kind-preserved
loop-kind-preserved c =
    let xs = c.args.types.now in
    let i = c.loop-kind.kind-index in
    let x = c.kind-item.result in
    let none : c.in_ok-place.field-0 ≡ None = c.in_default.is in
    record {
      first =
          through_from-right (λ t. length (written_members t)) wrong_member_of type_view xs i c.loop-kind.count x _ c.loop-kind-test.true c.kind-item.is
          (sym (wrong_member-named (map type_view (take i xs)) c.loop-kind.names c.loop-kind.invariant.named (type_view x)) ∙ sym c.in_ok-place.ensures ∙ none)
          c.loop-kind.invariant.first
          ∙ ap (λ m. through_from (λ t. length (written_members t)) wrong_member_of type_view xs (i + 1) (c.loop-kind.count + m)) (sym c.member_count.ensures);
      small = omega arith;
      named = type_names-more (map type_view (take i xs)) (map type_view (take (i + 1) xs))
          (type_view x) c.loop-kind.names c.note_type.new.names c.loop-kind.invariant.named
          c.in_ok-note_type.ensures (take-more type_view xs i x c.loop-kind-test.true c.kind-item.is);
    }
