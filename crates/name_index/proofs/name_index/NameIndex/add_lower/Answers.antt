-- A name is added at the end where it is new; else nothing changes.
use Rattle.std.proofs.Common.{◌≡◌, [], ◌∷◌, ◌++◌, true, false, map, refl, sym, ◌∙◌, ap}
use Rattle.std.specs.Prelude.{None, is_some}
use Rattle.name_index.specs.Entries.{number_of}
use Rattle.name_index.specs.Numbered.{NameNumbers}
use Rattle.name_index.proofs.EntryLemmas.{shown, number_of-there, inserted, none_is}
use Rattle.name_index.proofs.name_index.NameIndex.add_lower.Goals as goal

pub returns-then-is_some-clause-ok : goal.returns-then-is_some-clause-ok
returns-then-is_some-clause-ok c =
    let there : is_some (number_of c.args.low.items c.args.self.now.entries) ≡ true
    = ap is_some (ap (λ low. number_of low c.args.self.now.entries) (sym c.as_slice.ensures.value) ∙ sym c.number.ensures)
    ∙ sym c.is_some.ensures ∙ c.if-is_some.true in
    number_of-there c.args.self.now.entries (c.args.low.items, c.args.number) there

pub returns-clause-ok : goal.returns-clause-ok
returns-clause-ok c =
    let missing : is_some c.number.result ≡ false = sym c.is_some.ensures ∙ c.if-is_some.false in
    let none : number_of c.args.low.items (map shown c.self.inside.numbers.entries) ≡ None
    = ap (λ (n : NameNumbers). number_of c.args.low.items n.entries) c.self.view_is
    ∙ ap (λ low. number_of low c.args.self.now.entries) (sym c.as_slice.ensures.value) ∙ sym c.number.ensures ∙ none_is c.number.result missing in
    let last = ap (map shown) c.in_ok-insert.ensures.entries ∙ inserted c.args.low c.args.number c.self.inside.numbers.entries none in
    let whole : map shown c.insert.new.self.entries ≡ c.args.self.now.entries ++ (c.args.low.items, c.args.number) ∷ []
    = last ∙ ap (λ (n : NameNumbers). n.entries ++ (c.args.low.items, c.args.number) ∷ []) c.self.view_is in
    λ name. ap (number_of name) whole
