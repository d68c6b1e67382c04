-- What a router keeps stands for the state after a change of one connection.
use Rattle.std.proofs.Common.{◌≡◌, ℕ, List, [], ◌∷◌, Bool, true, refl, sym, ap, ◌∙◌, subst, inl, inr}
use Rattle.std.specs.Prelude.{Option, Some, None, is_some, filter}
use Rattle.std.specs.Map.{keys_of}
use Rattle.std.proofs.lemmas.Bool.{cases_Bool, cases_eq}
use Rattle.spec_machine.specs.Connection.{connection_of}
use Rattle.spec_machine.specs.Summary.{count_of}
use Rattle.spec_plant.specs.Rights.{rights_of}
use Rattle.spec_relay.specs.RelayState.{Request, RelayWorld, RelayConnection, RelayState, is_heard, is_heard_among}
use Rattle.spec_relay.specs.RelaySummary.{relay_summary_of}
use Rattle.spec_relay.specs.Requests.{requests_heard, is_asked_by, with_requests_heard, without_first}
use Rattle.spec_machine.specs.Piece.{with_client}
use Rattle.spec_relay.specs.Routing.{at_connection, with_owner}
use Rattle.spec_relay.proofs.ChangeLemmas.{changed-other, world-change}
use Rattle.connections.specs.Outlets.{beside}
use Rattle.ams_relay.specs.declared.asked.Asked.{Asked}
use Rattle.ams_relay.specs.declared.peer.Peer.{Peer}
use Rattle.ams_relay.specs.declared.router.Router.{Router}
use Rattle.ams_relay.specs.Asking.{requests_of}
use Rattle.ams_relay.specs.Counts.{counts_in}
use Rattle.ams_relay.specs.Holds.{AreBeside, IsPeerOf, AreOwn, HoldsAsked, AreNamed, HoldsRequests, HoldsOwners, AreRouted, Knows}
use Rattle.ams_relay.specs.Peers.{Peers, peers_in}
use Rattle.ams_relay.proofs.BesideLemmas.{beside_keys, beside_same, beside_changed}
use Rattle.ams_relay.proofs.OwnerLemmas.{some_same, before_change, before_number, owners_quiet, heard_quiet}
use Rattle.ams_relay.proofs.RequestLemmas.{hearing, same_heard, same_dropped, heard_changed}
use Rattle.ams_relay.proofs.ListLemmas.{filter-yes, filter-no}
use Rattle.ams_relay.proofs.StateLemmas.{Quiet, changed-frames, changed-length, changed-none}

-- what names connections that were opened, where none is lost
pub own_changed_list : (k l : RelayConnection) (ks ls : List RelayConnection) → l.client ≡ k.client
    → ((c : ℕ) → connection_of c ls ≡ None → connection_of c ks ≡ None) → (asked : List Asked)
    → AreOwn k ks asked → AreOwn l ls asked
own_changed_list k l ks ls client opened [] own = tt
own_changed_list k l ks ls client opened (a ∷ more) own =
    (record { source = client ∙ own.0.source; opened = λ e. own.0.opened (opened a.asked e) }, own_changed_list k l ks ls client opened more own.1)

pub named_changed : (ks ls : List RelayConnection) → ((c : ℕ) → connection_of c ls ≡ None → connection_of c ks ≡ None)
    → (rs : List Request) → AreNamed ks rs → AreNamed ls rs
named_changed ks ls opened [] named = tt
named_changed ks ls opened (r ∷ rs) named =
    (record { asker = λ e. named.0.asker (opened r.asker e); asked = λ e. named.0.asked (opened r.asked e) }, named_changed ks ls opened rs named.1)

pub named_filter : (ks : List RelayConnection) (P : Request → Bool) (rs : List Request) → AreNamed ks rs → AreNamed ks (filter P rs)
named_filter ks P [] named = tt
named_filter ks P (r ∷ rs) named = elim (cases_Bool (P r)) [
  | inl t ↦ subst (AreNamed ks) (sym (filter-yes P r rs t)) (named.0, named_filter ks P rs named.1)
  | inr t ↦ subst (AreNamed ks) (sym (filter-no P r rs t)) (named_filter ks P rs named.1)
]

pub named_without : (ks : List RelayConnection) (P : Request → Bool) (rs : List Request) → AreNamed ks rs → AreNamed ks (without_first P rs)
unfolding without_first
named_without ks P [] named = tt
named_without ks P (r ∷ rs) named = elim (cases_Bool (P r)) [ inl t ↦ rw t named.1 | inr t ↦ rw t (named.0, named_without ks P rs named.1) ]

-- what was asked, after a quiet change
pub asked_kept : (asked : List Asked) (m : ℕ) (k l : RelayConnection) (s t : RelayState)
    → t.world.requests ≡ s.world.requests → ((c : ℕ) → is_heard_among c t.connections ≡ is_heard_among c s.connections)
    → l.client ≡ k.client → ((c : ℕ) → connection_of c t.connections ≡ None → connection_of c s.connections ≡ None)
    → HoldsAsked asked m k s → HoldsAsked asked m l t
asked_kept asked m k l s t same heard client opened h = record {
  same = subst (λ rs. AreSameIn rs) (sym same)
      (same_heard (hearing s.connections) (hearing t.connections) m (requests_of m asked) s.world.requests heard h.same);
  own = own_changed_list k l s.connections t.connections client opened asked h.own;
  few = h.few;
}
  where
    AreSameIn : List Request → Type 0
    AreSameIn rs = filter (λ (r : Request). is_heard_among r.asked t.connections)
        (requests_of m asked) ≡ filter (is_asked_by m) (requests_heard t.connections rs)

-- after a quiet change
requests_changed : (n : ℕ) (f : RelayConnection → RelayConnection) (ps : Peers) (s : RelayState)
    → Quiet f → HoldsRequests ps s → HoldsRequests ps (at_connection n f s)
requests_changed n f ps s quiet h m p k at found heard = elim (cases_eq m n) [
  | inr ne ↦
      let before = sym (changed-other n m f quiet.stays.number (λ e. ne (sym e)) s) ∙ found in
      asked_kept p.asked.items m k k s (at_connection n f s) requests (λ c. heard_changed n c f quiet.stays quiet.closing s) refl
      (λ c e. changed-none n c f s e) (h m p k at before heard)
  | inl e ↦
      let b = before_change n f quiet.stays s k (ap (λ j. connection_of j (at_connection n f s).connections) (sym e) ∙ found) in
      let heard_b : is_heard b.connection ≡ true = sym (heard_quiet f quiet b.connection) ∙ ap is_heard b.is ∙ heard in
      asked_kept p.asked.items m b.connection k s (at_connection n f s) requests (λ c. heard_changed n c f quiet.stays quiet.closing s)
      (sym (ap (λ (x : RelayConnection). x.client) b.is) ∙ quiet.client b.connection)
      (λ c e. changed-none n c f s e) (h m p b.connection at (ap (λ j. connection_of j s.connections) e ∙ b.found) heard_b)
]
  where
    requests : (at_connection n f s).world.requests ≡ s.world.requests
    requests = ap (λ (w : RelayWorld). w.requests) (world-change n f s)

pub named_at : (n : ℕ) (f : RelayConnection → RelayConnection) (s : RelayState) → AreNamed s.connections s.world.requests
    → AreNamed (at_connection n f s).connections (at_connection n f s).world.requests
named_at n f s named =
    subst (AreNamed (at_connection n f s).connections) (sym (ap (λ (w : RelayWorld). w.requests) (world-change n f s)))
    (named_changed s.connections (at_connection n f s).connections (λ c e. changed-none n c f s e) s.world.requests named)

-- the counts, after a change that takes no frame
pub counts_changed : (n : ℕ) (f : RelayConnection → RelayConnection) → ((k : RelayConnection) → (f k).number ≡ k.number)
    → ((k : RelayConnection) → (f k).frames_taken ≡ k.frames_taken) → (s : RelayState)
    → relay_summary_of (at_connection n f s) ≡ relay_summary_of s
counts_changed n f number taken s = λ i. record {
  connections = count_of (changed-length n f s i);
  frames = count_of (changed-frames n f number taken s i);
  passed = count_of (world-change n f s i).passed;
  unknown = count_of (world-change n f s i).unknown;
}

-- whoever owns a NetId has a route, after a change that leaves what is owned
pub routed_changed : (n : ℕ) (f : RelayConnection → RelayConnection) → ((k : RelayConnection) → (f k).number ≡ k.number)
    → ((k : RelayConnection) → (f k).client ≡ k.client) → (s : RelayState) → AreRouted s → AreRouted (at_connection n f s)
routed_changed n f number client s h m k net found owned =
    ap (λ (w : RelayWorld). is_some (rights_of net w.routes)) (world-change n f s) ∙ before
  where
    before : is_some (rights_of net s.world.routes) ≡ true
    before = elim (cases_eq m n) [
      | inl e ↦
          let b = before_number n f number s k (ap (λ j. connection_of j (at_connection n f s).connections) (sym e) ∙ found) in
          h n b.connection net b.found (sym (client b.connection) ∙ ap (λ (x : RelayConnection). x.client) b.is ∙ owned)
      | inr ne ↦ h m k net (sym (changed-other n m f number (λ e. ne (sym e)) s) ∙ found) owned
    ]

-- or gives one with a route to a connection
pub routed_owned : (n : ℕ) (net : List ℕ) (s : RelayState) → is_some (rights_of net s.world.routes) ≡ true → AreRouted s → AreRouted (with_owner n net s)
routed_owned n net s has h m k other found owned =
    ap (λ (w : RelayWorld). is_some (rights_of other w.routes)) (world-change n f s) ∙ before
  where
    f : RelayConnection → RelayConnection
    f = with_client (Some net)

    before : is_some (rights_of other s.world.routes) ≡ true
    before = elim (cases_eq m n) [
      | inl e ↦
          let b = before_number n f (λ l. refl) s k (ap (λ j. connection_of j (at_connection n f s).connections) (sym e) ∙ found) in
          let both : ◌≡◌ {A = Option (List ℕ)} (Some net) (Some other) = ap (λ (x : RelayConnection). x.client) b.is ∙ owned in
          ap (λ x. is_some (rights_of x s.world.routes)) (sym (some_same net other both)) ∙ has
      | inr ne ↦ h m k other (sym (changed-other n m f (λ l. refl) (λ e. ne (sym e)) s) ∙ found) owned
    ]

-- outlets with the same numbers beside what is the same
pub record SameBeside (old new : Router) : Type 0 where
  pub routes : new.routes ≡ old.routes
  pub numbers : keys_of new.outlets ≡ keys_of old.outlets
  pub peers : new.peers.items ≡ old.peers.items
  pub owners : new.owners.entries ≡ old.owners.entries

pub peers_same : (old new : Router) → SameBeside old new → (n : ℕ) → peers_in new n ≡ peers_in old n
peers_same old new same n = ap (λ (ps : List Peer). beside n new.outlets ps) same.peers ∙ beside_keys n old.outlets new.outlets old.peers.items same.numbers

pub column_same : (old new : Router) (ks : List RelayConnection) → SameBeside old new
    → AreBeside IsPeerOf old.outlets old.peers.items ks → AreBeside IsPeerOf new.outlets new.peers.items ks
column_same old new ks same h = subst (λ (ps : List Peer). AreBeside IsPeerOf new.outlets ps ks) (sym same.peers)
    (beside_same IsPeerOf old.outlets new.outlets old.peers.items ks same.numbers h)

requests_same : (ps qs : Peers) (s : RelayState) → ((n : ℕ) → qs n ≡ ps n) → HoldsRequests ps s → HoldsRequests qs s
requests_same ps qs s same h m p k at found heard = h m p k (sym (same m) ∙ at) found heard

-- after a quiet change; whatever it takes is counted
pub knows_counted : (n : ℕ) (f : RelayConnection → RelayConnection) (old new : Router) (s : RelayState) → Quiet f → SameBeside old new
    → counts_in new.counts ≡ relay_summary_of (at_connection n f s) → Knows old s → Knows new (at_connection n f s)
knows_counted n f old new s quiet same counted h = record {
  routes = λ net. ap (rights_of net) same.routes ∙ h.routes net ∙ ap (λ (w : RelayWorld). rights_of net w.routes) (sym (world-change n f s));
  peers = column_same old new (at_connection n f s).connections same
      (beside_changed IsPeerOf n f old.outlets old.peers.items s quiet.stays (λ p k is. is ∙ sym (quiet.client k)) h.peers);
  owners = subst (λ os. HoldsOwners os (at_connection n f s).connections) (sym same.owners) (owners_quiet old.owners.entries n f quiet s h.owners);
  requests = requests_same (peers_in old) (peers_in new) (at_connection n f s) (peers_same old new same)
      (requests_changed n f (peers_in old) s quiet h.requests);
  named = named_at n f s h.named;
  counts = counted;
  routed = routed_changed n f quiet.stays.number quiet.client s h.routed;
}

-- where it takes no frame
pub knows_changed : (n : ℕ) (f : RelayConnection → RelayConnection) (old new : Router) (s : RelayState) → Quiet f
    → ((k : RelayConnection) → (f k).frames_taken ≡ k.frames_taken) → SameBeside old new → new.counts ≡ old.counts
    → Knows old s → Knows new (at_connection n f s)
knows_changed n f old new s quiet taken same counts h =
    knows_counted n f old new s quiet same (ap counts_in counts ∙ h.counts ∙ sym (counts_changed n f quiet.stays.number taken s)) h

-- the outlets alone are others, with the same numbers
pub knows_same : (old new : Router) (s : RelayState) → SameBeside old new → new.counts ≡ old.counts → Knows old s → Knows new s
knows_same old new s same counts h = record {
  routes = λ net. ap (rights_of net) same.routes ∙ h.routes net;
  peers = column_same old new s.connections same h.peers;
  owners = subst (λ os. HoldsOwners os s.connections) (sym same.owners) h.owners;
  requests = requests_same (peers_in old) (peers_in new) s (peers_same old new same) h.requests;
  named = h.named;
  counts = ap counts_in counts ∙ h.counts;
  routed = h.routed;
}

-- requests that are not heard are dropped
pub knows_swept : (r : Router) (s : RelayState) → Knows r s → Knows r (with_requests_heard s)
knows_swept r s h = record {
  routes = h.routes;
  peers = h.peers;
  owners = h.owners;
  requests = λ n p k at found heard. (let a = h.requests n p k at found heard in record {
    same = same_dropped (hearing s.connections) n (requests_of n p.asked.items) s.world.requests a.same;
    own = a.own;
    few = a.few;
  });
  named = named_filter s.connections _ s.world.requests h.named;
  counts = h.counts;
  routed = h.routed;
}
