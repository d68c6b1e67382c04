use Rattle.std.proofs.Common.{◌≡◌, List, ℕ, [], ◌∷◌, subst}
use Rattle.description_rules.specs.NameStarts.{IsAdded}
use Rattle.description_rules.proofs.NameStartLemmas.{added-one}
use Rattle.description_rules.proofs.seen.note.Goals as goal

pub returns : goal.returns
returns c =
    let same : c.in_ok-copy.copy.items ≡ c.args.text.now = c.in_ok-copy.ensures.items in
    subst (λ (text : List ℕ). IsAdded (text ∷ []) c.args.texts.now c.add.new.self) same
    (added-one c.in_ok-copy.copy.items c.args.texts.now c.add.new.self c.in_ok-add.field-0 c.in_ok-add.ensures.new c.in_ok-add.ensures.noted)
