-- The indexes with commas between them, and their brackets.
use Rattle.std.proofs.Common.{rules, ◌≡◌, [], ◌∷◌, ◌++◌, ◌∙◌, ap}
use Rattle.spec_plant.specs.PartTexts.{text_of_indexes}
use Rattle.spec_plant.specs.Spelling.{integer_text}
use Rattle.symbol_table.proofs.SpelledTexts.{space_text}
use Rattle.symbol_table.proofs.spelled.append_space.Goals as goal

pub returns-clause-ok : goal.returns-clause-ok
returns-clause-ok c =
    let one : c.append_index.new.out ≡ c.args.out.now ++ 91 ∷ integer_text c.args.i = search rules in
    let two : c.append_index-2.new.out ≡ c.append_index.new.out ++ 44 ∷ integer_text c.args.j = search rules in
    let three : c.append_index-3.new.out ≡ c.append_index-2.new.out ++ 44 ∷ integer_text c.args.k = search rules in
    let before : c.append_index-2.new.out ≡ (c.args.out.now ++ 91 ∷ integer_text c.args.i) ++ 44 ∷ integer_text c.args.j =
    two ∙ ap (λ t. t ++ 44 ∷ integer_text c.args.j) one in
    let whole : c.append_index-3.new.out ++ 93 ∷ [] ≡ c.args.out.now ++ text_of_indexes (c.args.i ∷ c.args.j ∷ c.args.k ∷ [])
    = ap (λ t. t ++ 93 ∷ []) (three ∙ ap (λ t. t ++ 44 ∷ integer_text c.args.k) before) ∙ space_text c.args.out.now c.args.i c.args.j c.args.k in
    rw whole at c.push.ensures.ok
