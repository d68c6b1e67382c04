-- One entry more, which is ranked where it has a byte, and the ranks in order.
use Rattle.std.proofs.Common.{List, get_or, sym, ◌∙◌, ap, subst, arith, length, ◌≡◌, ◌+◌, ◌<◌, ℕ, true, false}
use Rattle.std.proofs.lemmas.List.{get_or_default}
use Rattle.std.proofs.lemmas.Bool.{lt-ltb, le-ltb}
use Rattle.std.specs.Global.{Vec}
use Rattle.type_layout.specs.declared.port.Area.TheVariants.{Inputs}
use Rattle.symbol_table.specs.declared.place.Place.{Place}
use Rattle.symbol_table.specs.declared.kept.KeptPlace.{KeptPlace}
use Rattle.symbol_table.specs.declared.ranks.Ranked.{Ranked}
use Rattle.symbol_table.specs.Ranks.{RanksFirst, rank_by_byte, has_any_byte}
use Rattle.symbol_table.proofs.Indexed.{ranks_more, ranks_past, ranks_permuted}
use Rattle.symbol_table.proofs.index.index_by_byte.Goals as goal
use Rattle.symbol_table.proofs.index.index_by_byte.Goals.{then-e-gt0+in_ok-push, else-e-gt0}

abbrev nowhere : Place
nowhere = record { symbol = 0; area = Inputs; «at» = 0; len = 0 }

abbrev no_place : KeptPlace
no_place = record { port = 0; from = nowhere; to = nowhere }

pub loop-entry-preserved : goal.loop-entry-preserved
loop-entry-preserved c =
    elim c.if-e-gt0.branch [
      | then-e-gt0+in_ok-push w ↦
          let any : has_any_byte first ≡ true = lt-ltb 0 first.from.len w.if-e-gt0.true in
          let more = ranks_more rank_by_byte has_any_byte kept i w.rank_of_byte-rank.result c.loop-entry.ranked.items c.loop-entry.invariant inside
          (λ d. ap has_any_byte (same d) ∙ any) (λ d. w.rank_of_byte-rank.ensures ∙ ap rank_by_byte (sym (same d))) in
          subst (λ (xs : List Ranked). RanksFirst rank_by_byte has_any_byte kept (i + 1) xs)
          (sym (ap (λ (v : Vec Ranked). v.items) w.ranked-is ∙ w.in_ok-push.ensures.items)) more
      | else-e-gt0 w ↦
          let none : has_any_byte first ≡ false = le-ltb 0 first.from.len w.if-e-gt0.false in
          let past = ranks_past rank_by_byte has_any_byte kept i c.loop-entry.ranked.items c.loop-entry.invariant (λ d. ap has_any_byte (same d) ∙ none) in
          subst (λ (xs : List Ranked). RanksFirst rank_by_byte has_any_byte kept (i + 1) xs) (sym (ap (λ (v : Vec Ranked). v.items) w.ranked-is)) past
    ]
  where
    kept : List KeptPlace
    kept = c.args.kept.now

    i : ℕ
    i = c.loop-entry.entry

    inside : i < length kept
    inside = c.loop-entry-test.true

    first : KeptPlace
    first = get_or kept i no_place

    same : (d : KeptPlace) → get_or kept i d ≡ first
    same d = get_or_default kept i d no_place inside

pub returns : goal.returns
returns c =
    let same : c.loop-entry.entry ≡ length c.args.kept.now = omega arith in
    let all = subst (λ n. RanksFirst rank_by_byte has_any_byte c.args.kept.now n c.loop-entry.ranked.items) same c.loop-entry.invariant in
    record { all = ranks_permuted rank_by_byte has_any_byte c.args.kept.now _ _ _ c.put_in_order.ensures.same all; rises = c.put_in_order.ensures.rises }
