-- A relay without a connection.
use Rattle.std.proofs.Common.{◌≡◌, ℕ, List, [], refl, sym, ap, subst}
use Rattle.std.specs.Prelude.{Option, Some, None}
use Rattle.spec_plant.specs.Description.{Description}
use Rattle.spec_plant.specs.Rights.{rights_of}
use Rattle.spec_machine.specs.Connection.{connection_of}
use Rattle.spec_relay.specs.RelayState.{Owned, RelayConnection, relay_start}
use Rattle.connections.specs.Carries.{Carries}
use Rattle.connections.specs.Outlets.{Outlets}
use Rattle.ams_relay.specs.declared.router.Router.{Router}
use Rattle.ams_relay.specs.Counts.{counts_in}
use Rattle.ams_relay.specs.Holds.{AreBeside, IsPeerOf, HoldsOwners, Holds}

pub nothing_beside : {X : Type 0} (IsOf : X → RelayConnection → Type 0) (es : Outlets) (xs : List X) → es ≡ [] → xs ≡ [] → AreBeside IsOf es xs []
unfolding connection_of
nothing_beside IsOf es xs none empty =
    subst (λ fs. AreBeside IsOf fs xs []) (sym none) (subst (λ ys. AreBeside IsOf [] ys []) (sym empty)
    (record { count = refl; each = λ n x k at found there. absurd (let no : None ≡ Some k = found in cc) }))

pub starts : (r : Router) (d : Description) → ((net : List ℕ) → rights_of net r.routes ≡ rights_of net d.routes) → r.outlets ≡ [] → r.peers.items ≡ []
    → r.owners.entries ≡ [] → r.counts ≡ record { connections = 0; frames = 0; passed = 0; unknown = 0 } → Holds r [] (relay_start d)
unfolding connection_of
starts r d routes outlets peers owners counts = record {
  outlets = subst (λ es. Carries {C = Owned} es [] []) (sym outlets) (record { each = tt; apart = tt; marked = tt; known = λ n e. refl });
  known = record {
    routes = routes;
    peers = nothing_beside IsPeerOf r.outlets r.peers.items outlets peers;
    owners = subst (λ os. HoldsOwners os []) (sym owners) (record {
      owned = λ net n e. absurd (let no : ◌≡◌ {A = Option ℕ} None (Some n) = e in cc);
      owners = λ net n o. absurd (let no : None ≡ Some o.connection = o.found in cc);
    });
    requests = λ n p k at found heard. absurd (let no : None ≡ Some k = found in cc);
    named = tt;
    counts = ap counts_in counts;
    routed = λ n k net found owned. absurd (let no : None ≡ Some k = found in cc);
  };
}
