use Rattle.std.proofs.Common.{◌≡◌, ap, sym, ◌∙◌, ◌∷◌, [], ◌++◌, map, true, w64, int_eq}
use Rattle.std.proofs.lemmas.Int.{to_z-of_z}
use Rattle.indexmap.specs.IndexMap.{insert_entry}
use Rattle.description_rules.specs.NextNumber.{is_no_number_of}
use Rattle.description_rules.proofs.NumberSeenLemmas.{insert_entry-new_number}
use Rattle.description_rules.proofs.seen_numbers.SeenNumbers.add.Goals as goal

pub returns-in_ok-insert-clause-noted : goal.returns-in_ok-insert-clause-noted
returns-in_ok-insert-clause-noted c =
    let n = c.args.n in
    let same = to_z-of_z w64 c.args.n c.ranges.n in
    let new : is_no_number_of c.args.self.now n ≡ true = ap (is_no_number_of c.args.self.now) (sym same) ∙ sym c.is_new-new.ensures ∙ c.if-new.true in
    rw c.if-new.true
    (ap (map (λ e. e.0)) (c.in_ok-insert.ensures.entries ∙ ap (λ m. insert_entry int_eq c.self.inside.numbers.entries m 0) same)
    ∙ insert_entry-new_number n 0 c.self.inside.numbers.entries (ap (λ numbers. is_no_number_of numbers n) c.self.view_is ∙ new)
    ∙ ap (λ numbers. numbers ++ n ∷ []) c.self.view_is)
