-- A number is among the first ones where its place is before their end.
use Rattle.std.proofs.Common.{◌≡◌, ◌∙◌, sym, subst, false, take, List, ℕ, nat_lt}
use Rattle.spec_machine.specs.Reading.{is_among}
use Rattle.replay_script.proofs.NumberLemmas.{among_first, not_among}
use Rattle.replay_script.proofs.number_list.NumberList.has_among.Goals as goal

pub returns-in-Some : goal.returns-in-Some
returns-in-Some c =
    subst (λ (ns : List ℕ). nat_lt c.in-Some.at c.args.count ≡ is_among c.args.number (take c.args.count ns)) c.self.view_is
    (among_first c.args.number c.in-Some.at c.args.count c.self.inside.numbers.keys (sym c.get_index_of.ensures.index ∙ c.in-Some.is))

pub returns-in-None : goal.returns-in-None
returns-in-None c =
    subst (λ (ns : List ℕ). false ≡ is_among c.args.number (take c.args.count ns)) c.self.view_is
    (not_among c.args.number c.args.count c.self.inside.numbers.keys (sym c.get_index_of.ensures.index ∙ c.in-None.is))
