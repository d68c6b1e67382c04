-- What a router keeps stands for a state of the relay's machine, with the connections that are blocked.
-- No public clause cites this file but through Relays.
use Rattle.std.specs.Prelude.{◌≡◌, ℕ, ◌≤◌, List, [], ◌∷◌, length, filter, true, false}
use Rattle.std.specs.Prelude.{Option, Some, None, is_some, bytes_eq}
use Rattle.std.specs.Map.{lookup}
use Rattle.std.specs.Global.{Vec}
use Rattle.spec_plant.specs.Rights.{rights_of}
use Rattle.spec_machine.specs.Connection.{connection_of}
use Rattle.connections.specs.Carries.{Carries}
use Rattle.connections.specs.Outlets.{Outlets, beside}
use Rattle.spec_relay.specs.RelayState.{Request, RelayConnection, RelayState, is_heard, is_heard_among}
use Rattle.spec_relay.specs.Requests.{requests_heard, is_asked_by, MAX_REQUESTS}
use Rattle.spec_relay.specs.RelaySummary.{relay_summary_of}
use Rattle.ams_relay.specs.declared.asked.Asked.{Asked}
use Rattle.ams_relay.specs.declared.peer.Peer.{Peer}
use Rattle.ams_relay.specs.declared.router.Router.{Router}
use Rattle.ams_relay.specs.Asking.{requests_of}
use Rattle.ams_relay.specs.Counts.{counts_in}
use Rattle.ams_relay.specs.Peers.{Peers, peers_in, net_of}

-- of each connection that is there, what stands in a column beside its outlet stands for it
pub record AreBeside {X : Type 0} (IsOf : X → RelayConnection → Type 0) (es : Outlets) (xs : List X) (ks : List RelayConnection) : Type 0 where
  pub count : length xs ≡ length es
  pub each : (n : ℕ) (x : X) (k : RelayConnection) → beside n es xs ≡ Some x → connection_of n ks ≡ Some k → k.gone ≡ false → IsOf x k

-- a peer owns what its connection does
abbrev pub IsPeerOf : Peer → RelayConnection → Type 0
IsPeerOf p k = net_of p.owned ≡ k.client

abbrev pub Owners : Type 0
Owners = List (Vec ℕ × ℕ)

-- the number that stands at a NetId
abbrev pub owner_in : List ℕ → Owners → Option ℕ
owner_in net os = lookup (λ k. bytes_eq net k.items) os

-- a connection that is there, is not closing and owns a NetId
pub record IsOwner (net : List ℕ) (n : ℕ) (ks : List RelayConnection) : Type 0 where
  pub connection : RelayConnection
  pub found : connection_of n ks ≡ Some connection
  pub heard : is_heard connection ≡ true
  pub client : connection.client ≡ Some net

-- the owners are those of the machine
pub record HoldsOwners (os : Owners) (ks : List RelayConnection) : Type 0 where
  pub owned : (net : List ℕ) (n : ℕ) → owner_in net os ≡ Some n → IsOwner net n ks
  pub owners : (net : List ℕ) (n : ℕ) → IsOwner net n ks → owner_in net os ≡ Some n

-- what a connection remembers of a request: its source is its own NetId, and its asked was opened
pub record IsOwn (k : RelayConnection) (ks : List RelayConnection) (a : Asked) : Type 0 where
  pub source : k.client ≡ Some a.source.net.bytes
  pub opened : connection_of a.asked ks ≡ None → ⊥

abbrev pub AreOwn : RelayConnection → List RelayConnection → List Asked → Type 0
AreOwn k ks [] = Unit {0}
AreOwn k ks (a ∷ more) = IsOwn k ks a × AreOwn k ks more

-- the requests of a connection that are asked of one that is heard are those of the machine
pub record HoldsAsked (asked : List Asked) (n : ℕ) (k : RelayConnection) (s : RelayState) : Type 0 where
  pub same : filter (λ (r : Request). is_heard_among r.asked s.connections) (requests_of n asked)
      ≡ filter (is_asked_by n) (requests_heard s.connections s.world.requests)
  pub own : AreOwn k s.connections asked
  pub few : length asked ≤ MAX_REQUESTS

-- a request names connections that were opened
pub record IsNamed (ks : List RelayConnection) (r : Request) : Type 0 where
  pub asker : connection_of r.asker ks ≡ None → ⊥
  pub asked : connection_of r.asked ks ≡ None → ⊥

abbrev pub AreNamed : List RelayConnection → List Request → Type 0
AreNamed ks [] = Unit {0}
AreNamed ks (r ∷ rs) = IsNamed ks r × AreNamed ks rs

abbrev pub HoldsRequests : Peers → RelayState → Type 0
HoldsRequests ps s = (n : ℕ) (p : Peer) (k : RelayConnection) → ps n ≡ Some p → connection_of n s.connections ≡ Some k
    → is_heard k ≡ true → HoldsAsked p.asked.items n k s

-- whoever owns a NetId has a route
abbrev pub AreRouted : RelayState → Type 0
AreRouted s = (n : ℕ) (k : RelayConnection) (net : List ℕ) → connection_of n s.connections ≡ Some k → k.client ≡ Some net
    → is_some (rights_of net s.world.routes) ≡ true

-- what a router keeps beside its outlets
pub record Knows (r : Router) (s : RelayState) : Type 0 where
  pub routes : (net : List ℕ) → rights_of net r.routes ≡ rights_of net s.world.routes
  pub peers : AreBeside IsPeerOf r.outlets r.peers.items s.connections
  pub owners : HoldsOwners r.owners.entries s.connections
  pub requests : HoldsRequests (peers_in r) s
  pub named : AreNamed s.connections s.world.requests
  pub counts : counts_in r.counts ≡ relay_summary_of s
  pub routed : AreRouted s

pub record Holds (r : Router) (blocked : List ℕ) (s : RelayState) : Type 0 where
  pub outlets : Carries r.outlets blocked s.connections
  pub known : Knows r s
