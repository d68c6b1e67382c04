use Rattle.std.proofs.Common.{◌≡◌, ◌+◌, [], ◌∷◌, ◌++◌, length, map, drop, refl, ap, sym, ◌∙◌, arith}
use Rattle.std.proofs.Common.{length-append}
use Rattle.std.proofs.lemmas.List.{drop_all, length-map}
use Rattle.spec_rules.specs.Described.{type_described, types_described}
use Rattle.spec_rules.specs.SizeRules.{wrong_size}
use Rattle.type_layout.specs.NamedTypes.{types_of, named_type_of}
use Rattle.description_table.specs.Views.{type_view}
use Rattle.description_rules.proofs.StructLemmas.{dropped}
use Rattle.description_rules.proofs.KnownLemmas.{AreKnown-none, wrong_size-start, types_described-left}
use Rattle.description_rules.proofs.KnownLemmas.{first_wrong-right, first_wrong-wrong, types_left-more}
use Rattle.description_rules.proofs.KnownLemmas.{known-end}
use Rattle.description_rules.proofs.size_rules.read_types.Goals as goal

pub loop-i-init : goal.loop-i-init
loop-i-init c = record {
  wrong = rw c.new.ensures (wrong_size-start (map type_view c.args.types.now));
  built = rw c.new.ensures (types_described-left (map type_view c.args.types.now));
  count = rw c.new.ensures refl;
  known = record {
    extents = rw (c.new.ensures, c.new-2.ensures.items) AreKnown-none;
    names = rw c.new.ensures c.new-3.ensures;
    few = rw c.new.ensures (omega arith);
  };
}

pub returns-then-not-branch : goal.returns-then-not-branch
returns-then-not-branch c =
    let ws = c.args.types.now in
    let i = c.loop-i.i in
    let known = types_of c.loop-i.known.types in
    let w = type_view c.index-types-i.result in
    first_wrong-wrong known (map type_view (drop i ws)) w (map type_view (drop (i + 1) ws)) i _
    (ap (map type_view) (dropped ws i c.index-types-i.result c.loop-i-test.true c.index-types-i.is))
    (sym c.in_ok-add_type.ensures.answer ∙ c.if-not-branch.true) c.loop-i.invariant.wrong

pub loop-i-preserved : goal.loop-i-preserved
loop-i-preserved c =
    let ws = c.args.types.now in
    let i = c.loop-i.i in
    let known = types_of c.loop-i.known.types in
    let w = type_view c.index-types-i.result in
    let left = ap (map type_view) (dropped ws i c.index-types-i.result c.loop-i-test.true c.index-types-i.is) in
    let more : types_of c.add_type.new.known.types ≡ known ++ type_described known w ∷ [] = c.in_ok-add_type.ensures.types c.if-not-branch.false in
    let longer : length (types_of c.add_type.new.known.types) ≡ length (known ++ type_described known w ∷ []) = ap length more in
    record {
      wrong = first_wrong-right known (types_of c.add_type.new.known.types) (map type_view (drop i ws)) w (map type_view (drop (i + 1) ws)) i _ left more
          (sym c.in_ok-add_type.ensures.answer ∙ c.if-not-branch.false) c.loop-i.invariant.wrong;
      built = types_left-more known (types_of c.add_type.new.known.types) (map type_view (drop i ws)) w
          (map type_view (drop (i + 1) ws)) _ left more c.loop-i.invariant.built;
      count = omega (
        arith,
        longer,
        length-append known (type_described known w ∷ []),
        length-map c.add_type.new.known.types named_type_of,
        length-map c.loop-i.known.types named_type_of,
      );
      known = c.in_ok-add_type.ensures.known c.if-not-branch.false;
    }

pub returns : goal.returns
returns c =
    let ws = c.args.types.now in
    let known = types_of c.loop-i.known.types in
    let end = known-end known (map type_view (drop c.loop-i.i ws)) c.loop-i.i
    (wrong_size (types_described (map type_view ws))) (types_described (map type_view ws))
    (ap (map type_view) (drop_all c.loop-i.i ws c.loop-i-test.false)) c.loop-i.invariant.wrong c.loop-i.invariant.built in
    record { right = end.0; types = end.1; is_known = c.loop-i.invariant.known }
