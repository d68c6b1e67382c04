use Rattle.std.proofs.Common.{nat_eq, sym, ap, ◌∙◌, subst}
use Rattle.std.specs.Prelude.{Some}
use Rattle.std.specs.List.{IsDistinct}
use Rattle.std.specs.Map.{keys_of}
use Rattle.std.proofs.lemmas.Bool.{eqb-true}
use Rattle.connections.specs.Outlets.{Outlets}
use Rattle.connections.proofs.EntryLemmas.{entry_of_key}
use Rattle.connections.proofs.outlets.Outlets.is_at.Goals as goal

pub returns-in-Some : goal.returns-in-Some
returns-in-Some c = λ same.
    entry_of_key c.args.self.now c.args.number c.args.i
    (subst (λ (es : Outlets). IsDistinct nat_eq (keys_of es)) c.self.view_is c.len.ensures.unique)
    (sym c.number_at.ensures ∙ c.in-Some.is ∙ ap (λ n. Some n) (eqb-true c.in-Some.there c.args.number same))
