-- The index and its brackets.
use Rattle.std.proofs.Common.{rules, ◌≡◌, [], ◌∷◌, ◌++◌, ◌∙◌, ap}
use Rattle.spec_plant.specs.PartTexts.{text_of_indexes}
use Rattle.spec_plant.specs.Spelling.{integer_text}
use Rattle.symbol_table.proofs.SpelledTexts.{row_text}
use Rattle.symbol_table.proofs.spelled.append_row.Goals as goal

pub returns-clause-ok : goal.returns-clause-ok
returns-clause-ok c =
    let one : c.append_index.new.out ≡ c.args.out.now ++ 91 ∷ integer_text c.args.i = search rules in
    let whole : c.append_index.new.out ++ 93 ∷ [] ≡ c.args.out.now ++ text_of_indexes (c.args.i ∷ []) =
    ap (λ t. t ++ 93 ∷ []) one ∙ row_text c.args.out.now c.args.i in
    rw whole at c.push.ensures.ok
