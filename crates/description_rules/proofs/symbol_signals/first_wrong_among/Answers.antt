use Rattle.std.proofs.Common.{◌+◌, get_or, map, take, sym, ◌∙◌, false, None}
use Rattle.std.proofs.lemmas.List.{get_or_default}
use Rattle.description_rules.specs.Placed.{use_view, is_right_use}
use Rattle.description_rules.proofs.FirstLemmas.{first_from-start, first_from-right, first_from-wrong, take-more}
use Rattle.description_rules.proofs.NumberSeenLemmas.{named-none, named-more, is_right_use-named}
use Rattle.description_rules.proofs.symbol_signals.first_wrong_among.Goals as goal

pub loop-i-init : goal.loop-i-init
loop-i-init c = rw c.requires (record { first = first_from-start is_right_use use_view c.args.uses.now; named = named-none })

pub returns-then-not-branch : goal.returns-then-not-branch
returns-then-not-branch c =
    let xs = c.args.uses.now in
    let i = c.loop-i.i in
    let x = get_or xs i (record { right = false; signal = None }) in
    let is = get_or_default xs i _ x c.loop-i-test.true in
    sym (first_from-wrong is_right_use use_view xs i x _ c.loop-i-test.true is
    (is_right_use-named (map use_view (take i xs)) (use_view x) c.loop-i.seen _ _ c.loop-i.invariant.named c.in_ok-is_right_use.ensures ∙ c.if-not-branch.true)
    c.loop-i.invariant.first)

pub loop-i-preserved : goal.loop-i-preserved
loop-i-preserved c =
    let xs = c.args.uses.now in
    let i = c.loop-i.i in
    let x = get_or xs i (record { right = false; signal = None }) in
    let is = get_or_default xs i _ x c.loop-i-test.true in
    let before = map use_view (take i xs) in
    record {
      first = first_from-right is_right_use use_view xs i x _ c.loop-i-test.true is
          (is_right_use-named before (use_view x) c.loop-i.seen _ _ c.loop-i.invariant.named c.in_ok-is_right_use.ensures ∙ c.if-not-branch.false)
          c.loop-i.invariant.first;
      named = named-more before (map use_view (take (i + 1) xs)) (use_view x) c.loop-i.seen
          _ _ c.loop-i.invariant.named c.in_ok-is_right_use.ensures c.if-not-branch.false
          (take-more use_view xs i x c.loop-i-test.true is);
    }
