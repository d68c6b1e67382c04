use Rattle.std.proofs.Common.{refl, sym, subst}
use Rattle.ams_relay.specs.Taking.{Frees, DisownsIn}
use Rattle.ams_relay.proofs.OwnerLemmas.{frees_by}
use Rattle.ams_relay.proofs.router.Router.disown.Goals as goal

pub returns-in-Some : goal.returns-in-Some
returns-in-Some c =
    let os = c.args.self.now.owners.entries in
    let ps = c.swap_remove.new.self.entries in
    record {
      same = refl;
      disowned = subst (λ o. DisownsIn o os ps) (sym c.in-Some.is)
          (subst (λ net. Frees net os ps) c.as_slice.ensures
          (frees_by c.as_slice.result.now os ps c.swap_remove.ensures.updates.1 c.swap_remove.ensures.updates.3));
    }
