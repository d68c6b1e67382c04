-- One more name, under the count so far.
use Rattle.std.proofs.Common.{◌≡◌, ◌+◌, [], ◌∷◌, ◌++◌, map, ◌∙◌, ap}
use Rattle.name_index.specs.Entries.{number_of, AddsEntry}
use Rattle.name_index.specs.Numbered.{NameNumbers}
use Rattle.name_index.proofs.EntryLemmas.{shown, AreNumbered-push}
use Rattle.name_index.proofs.name_index.NameIndex.add.Goals as goal

pub returns-clause-ok : goal.returns-clause-ok
returns-clause-ok c = λ names are.
    let old = c.args.self.now in
    let after = c.add_lower-2.new.self in
    let low = c.in_ok-low.low.items in
    let new : NameNumbers = record { entries = map shown c.self.inside.numbers.entries; count = c.self.inside.count + 1 } in
    let entries : new.entries ≡ after.entries = ap (λ (n : NameNumbers). n.entries) c.self.view_is in
    let number : c.add_lower.inside.count ≡ old.count = ap (λ (n : NameNumbers). n.count) c.add_lower.view_is in
    let added : AddsEntry (low, old.count) old.entries new.entries = λ l.
    ap (number_of l) entries ∙ c.in_ok-add_lower.ensures.ok l ∙ ap (λ k. number_of l (old.entries ++ (low, k) ∷ [])) number in
    let more : new.count ≡ old.count + 1 = ap (λ n. n + 1) (ap (λ (n : NameNumbers). n.count) c.self.view_is ∙ c.in_ok-add_lower.ensures.counted) in
    AreNumbered-push names c.args.name.now old new low are c.in_ok-low.ensures added more
