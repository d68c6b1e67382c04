use Rattle.std.proofs.Common.{◌≡◌, ap, sym, ◌∙◌, ◌∷◌, [], ◌++◌, map, true, not}
use Rattle.std.specs.Prelude.{bytes_eq}
use Rattle.std.specs.List.{list_all}
use Rattle.description_rules.proofs.TextLemmas.{insert_entry-absent}
use Rattle.description_rules.proofs.seen.SeenTexts.add.Goals as goal

pub returns-in_ok-insert-clause-noted : goal.returns-in_ok-insert-clause-noted
returns-in_ok-insert-clause-noted c =
    let text = c.args.text.items in
    let new : list_all (λ e. not (bytes_eq e text)) c.args.self.now ≡ true =
    ap (λ t. list_all (λ e. not (bytes_eq e t)) c.args.self.now) (sym c.as_slice.ensures.value) ∙ sym c.is_new-new.ensures ∙ c.if-new.true in
    rw c.if-new.true
    (ap (map (λ e. e.0.items)) c.in_ok-insert.ensures.entries
    ∙ insert_entry-absent c.args.text _ c.self.inside.texts.entries (ap (list_all (λ e. not (bytes_eq e text))) c.self.view_is ∙ new)
    ∙ ap (λ texts. texts ++ text ∷ []) c.self.view_is)
