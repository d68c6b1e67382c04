use Rattle.std.proofs.Common.{[], ◌∷◌, ◌++◌, sym, ap, ◌∙◌, subst, nat_eq}
use Rattle.indexmap.specs.IndexMap.{insert_entry}
use Rattle.connections.specs.Entries.{IsNoEntry}
use Rattle.connections.specs.Outlets.{Outlets, fresh_outlet}
use Rattle.connections.proofs.EntryLemmas.{entry_added}
use Rattle.connections.proofs.TouchedLemmas.{idle_inserted}
use Rattle.connections.proofs.outlets.Outlets.open.Goals as goal

pub invariant_of-self-2 : goal.invariant_of-self-2
invariant_of-self-2 c =
    let es = c.self.inside.entries.entries in
    let n = c.args.number in
    idle_inserted c.insert.result c.self.inside.touched es c.insert.new.self.entries n c.in_ok-outlet.outlet c.in_ok-outlet.ensures
    c.insert.ensures.entries c.insert.ensures.err (subst (λ (fs : Outlets). IsNoEntry fs n) (sym c.self.view_is) c.requires) c.self.invariant

pub returns-clause-ok : goal.returns-clause-ok
returns-clause-ok c =
    let es = c.self.inside.entries.entries in
    let n = c.args.number in
    c.in_ok-insert.ensures.entries ∙ ap (λ o. insert_entry nat_eq es n o) c.in_ok-outlet.ensures
    ∙ entry_added es n fresh_outlet (subst (λ (fs : Outlets). IsNoEntry fs n) (sym c.self.view_is) c.requires)
    ∙ ap (λ (fs : Outlets). fs ++ (n, fresh_outlet) ∷ []) c.self.view_is
