-- A connection owns the source of its frame, or the source is another's.
use Rattle.std.proofs.Common.{◌≡◌, ◌≢◌, ℕ, ◌<◌, List, [], ◌∷◌, length, Bool, true, false, cond, not, refl, sym, ap, ◌∙◌, subst, inl, inr, arith}
use Rattle.std.specs.Prelude.{Option, Some, None, option_map, is_some, bytes_eq, slice_get, slice_index_or, set}
use Rattle.std.specs.Map.{keys_of}
use Rattle.std.proofs.lemmas.List.{length-set}
use Rattle.std.proofs.lemmas.Option.{slice_get-get_or}
use Rattle.std.proofs.lemmas.Bool.{cases_eq, true≢false}
use Rattle.ads_base.specs.declared.net_id.NetId.{NetId}
use Rattle.spec_plant.specs.Rights.{rights_of}
use Rattle.spec_machine.specs.Connection.{connection_of}
use Rattle.spec_machine.specs.Piece.{with_client}
use Rattle.spec_relay.specs.RelayState.{RelayWorld, Owned, RelayConnection, RelayState, is_heard, is_heard_among, owner_of}
use Rattle.spec_relay.specs.Checks.{is_taken_net}
use Rattle.spec_relay.specs.Routing.{with_owner}
use Rattle.spec_relay.proofs.ChangeLemmas.{changed-own, changed-other, world-change}
use Rattle.connections.specs.Entries.{IsEntry, IsNoEntry}
use Rattle.connections.specs.Carries.{Carries}
use Rattle.connections.specs.Outlets.{closing_at, beside}
use Rattle.connections.proofs.BesideLemmas.{beside_at}
use Rattle.connections.proofs.CarryLemmas.{at_number}
use Rattle.ams_relay.specs.declared.asked.Asked.{Asked}
use Rattle.ams_relay.specs.declared.peer.Peer.{Peer}
use Rattle.ams_relay.specs.declared.router.Router.{Router}
use Rattle.ams_relay.specs.declared.seat.Seat.{Seat}
use Rattle.ams_relay.specs.Asking.{requests_of}
use Rattle.ams_relay.specs.Counts.{counts_in}
use Rattle.ams_relay.specs.Holds.{AreBeside, IsPeerOf, AreOwn, HoldsAsked, HoldsRequests, Holds, owner_in}
use Rattle.ams_relay.specs.Peers.{Peers, peers_in, IsSeat, Sets, net_of, owned_of, places_of}
use Rattle.ams_relay.specs.Taking.{IsHeardAt, IsOwnerSeat, number_of}
use Rattle.ams_relay.proofs.BesideLemmas.{beside_set, count_same, sets_at}
use Rattle.ams_relay.proofs.CarryLemmas.{closing_is, unseated, has_seat, value_there, carry_quiet}
use Rattle.ams_relay.proofs.HoldLemmas.{named_at, counts_changed, asked_kept, routed_owned}
use Rattle.ams_relay.proofs.OwnerLemmas.{bytes_same, bytes_refl, some_same, none_of, owner_is, owners_own}
use Rattle.ams_relay.proofs.RequestLemmas.{hearing, AreSame, same_heard, heard_changed, heard_parts, heard_of_parts}
use Rattle.ams_relay.proofs.StateLemmas.{Stays, changed-none, changed-nothing}

client_stays : (net : List ℕ) → Stays (with_client (Some net))
client_stays net = record { number = λ k. refl; gone = λ k. refl }

-- what stands at a place is found by the number of its entry
pub peer_at : (n i : ℕ) (b : List ℕ) (p : Peer) (r : Router) (s : RelayState) → Holds r b s → IsEntry r.outlets n i
    → slice_get r.peers.items i ≡ Some p → peers_in r n ≡ Some p
peer_at n i b p r s h at value = beside_at r.outlets r.peers.items n i at h.known.peers.count ∙ value

-- a connection that is there has a peer
pub record Kept (n : ℕ) (r : Router) : Type 0 where
  pub peer : Peer
  pub found : peers_in r n ≡ Some peer

pub peer_kept : (n : ℕ) (b : List ℕ) (k : RelayConnection) (r : Router) (s : RelayState) → Holds r b s
    → connection_of n s.connections ≡ Some k → k.gone ≡ false → Kept n r
peer_kept n b k r s h found there =
    let at = has_seat r.outlets b s.connections n k h.outlets found there in
    let p = value_there r.peers.items at.i (omega (arith, at.place.within, h.known.peers.count)) in
    record { peer = p.0; found = peer_at n at.i b p.0 r s h at.place p.1 }

-- one peer is another, which owns the same
pub record PeersAfter (n : ℕ) (q : Peer) (old new : Router) (s : RelayState) : Type 0 where
  pub sets : Sets n q (peers_in old) (peers_in new)
  pub column : AreBeside IsPeerOf new.outlets new.peers.items s.connections

pub peers_after : (n i : ℕ) (b : List ℕ) (p q : Peer) (old new : Router) (s : RelayState) → Holds old b s → IsEntry old.outlets n i
    → slice_get old.peers.items i ≡ Some p → new.outlets ≡ old.outlets → new.peers.items ≡ set old.peers.items i q → q.owned ≡ p.owned
    → PeersAfter n q old new s
peers_after n i b p q old new s h at value outlets peers owned =
    let sets = sets_at n i old.outlets old.peers.items q at h.known.peers.count in
    let still : Stays (λ (k : RelayConnection). k) = record { number = λ k. refl; gone = λ k. refl } in
    let column = beside_set IsPeerOf n (λ k. k) q old.outlets old.peers.items (set old.peers.items i q) s still sets (length-set old.peers.items i q)
    (λ k found there. ap net_of owned ∙ h.known.peers.each n p k (peer_at n i b p old s h at value) found there) h.known.peers in
    record {
      sets = subst (λ qs. Sets n q (peers_in old) qs) (λ j m. beside m (sym outlets j) (sym peers j)) sets;
      column = subst (λ es. AreBeside IsPeerOf es new.peers.items s.connections) (sym outlets)
          (subst (λ (ps : List Peer). AreBeside IsPeerOf old.outlets ps s.connections) (sym peers)
          (subst (λ t. AreBeside IsPeerOf old.outlets (set old.peers.items i q) t.connections) (changed-nothing n (λ k. k) s (λ k e. refl)) column));
    }

-- what a connection owns
pub owned_is : (n i : ℕ) (b : List ℕ) (k : RelayConnection) (p : Peer) (r : Router) (s : RelayState) → Holds r b s → IsEntry r.outlets n i
    → slice_get r.peers.items i ≡ Some p → IsHeardAt n k s → net_of p.owned ≡ k.client
owned_is n i b k p r s h at value heard = h.known.peers.each n p k (peer_at n i b p r s h at value) heard.found (heard_parts k heard.heard).1

-- whoever is not closing and owns a NetId is its owner
record OwnedOpen (closing : Bool) (u : Option Peer) (net : List ℕ) : Type 0 where
  pub peer : Peer
  pub there : u ≡ Some peer
  pub open_ : closing ≡ false
  pub owned : net_of peer.owned ≡ Some net

owned_open : (closing : Bool) (u : Option Peer) (net : List ℕ) → net_of (cond closing None (owned_of u)) ≡ Some net → OwnedOpen closing u net
owned_open true u net e = absurd (let no : ◌≡◌ {A = Option (List ℕ)} None (Some net) = e in cc)
owned_open false None net e = absurd (let no : ◌≡◌ {A = Option (List ℕ)} None (Some net) = e in cc)
owned_open false (Some p) net e = record { peer = p; there = refl; open_ = refl; owned = e }

pub owner_there : (seat : Seat) (net : List ℕ) (b : List ℕ) (r : Router) (s : RelayState) → Holds r b s → IsOwnerSeat r net seat
    → owner_in net r.owners.entries ≡ Some seat.number
owner_there seat net b r s h o =
    let i = seat.place in
    let n = seat.number in
    let at = at_number r.outlets b s.connections n i h.outlets o.seat.entry in
    let own = owned_open (closing_at r.outlets i) (slice_get r.peers.items i) net o.owned in
    let is_open : at.k.closing ≡ false = closing_is r.outlets n i b s.connections at ∙ own.open_ in
    let client = h.known.peers.each n own.peer at.k (peer_at n i b own.peer r s h o.seat.entry own.there) at.found at.there in
    h.known.owners.owners net n (record {
      connection = at.k;
      found = at.found;
      heard = heard_of_parts at.k is_open at.there;
      client = sym client ∙ own.owned;
    })

-- what the code finds is what the machine finds
pub owner_found : (net : List ℕ) (b : List ℕ) (r : Router) (s : RelayState) → Holds r b s
    → owner_in net r.owners.entries ≡ option_map number_of (owner_of net s.connections)
owner_found net b r s h = owner_is net r.owners.entries s.connections h.outlets.apart h.known.owners

-- whoever owns a NetId has an entry
pub owner_seated : (net : List ℕ) (n : ℕ) (b : List ℕ) (r : Router) (s : RelayState) → Holds r b s → owner_in net r.owners.entries ≡ Some n
    → IsNoEntry r.outlets n → ⊥
owner_seated net n b r s h owned none =
    let o = h.known.owners.owned net n owned in
    true≢false (sym (unseated r.outlets b s.connections n h.outlets none o.connection o.found) ∙ (heard_parts o.connection o.heard).1)

-- what stands at a place, by the element that was read there
pub value_at : {X : Type 0} (xs : List X) (i : ℕ) (x : X) → i < length xs → x ≡ slice_index_or xs i x → slice_get xs i ≡ Some x
value_at xs i x within is = slice_get-get_or xs i x within ∙ ap (λ y. Some y) (sym is)

-- a seat stays where numbers and peers do
pub seat_kept : (old new : Router) (at : Seat) → places_of new ≡ places_of old → IsSeat old at → IsSeat new at
seat_kept old new at same seat =
    let numbers : keys_of new.outlets ≡ keys_of old.outlets = ap (λ (x : List ℕ × ℕ). x.0) same in
    let count : length new.peers.items ≡ length old.peers.items = ap (λ (x : List ℕ × ℕ). x.1) same in
    let longer = count_same old.outlets new.outlets numbers in
    record {
      entry = record {
        within = omega (arith, seat.entry.within, longer);
        number = λ d. ap (λ ks. slice_index_or ks at.place d) numbers ∙ seat.entry.number d;
        first = λ k d below same. seat.entry.first k d below (sym (ap (λ ks. slice_index_or ks k d) numbers) ∙ same);
      };
      within = omega (arith, seat.within, count);
    }

-- the source is its own
pub taken_own : (net : List ℕ) (k : RelayConnection) (ks : List RelayConnection) → k.client ≡ Some net → is_taken_net net k ks ≡ false
taken_own net k ks e = by k.client e
  where
    by : (o : Owned) → o ≡ Some net → is_taken_net net (record k { client = o }) ks ≡ false
    by None e = absurd (let no : ◌≡◌ {A = Option (List ℕ)} None (Some net) = e in cc)
    by (Some x) e = ap (λ y. not (bytes_eq y net)) (some_same x net e) ∙ ap not (bytes_refl net)

-- the source is another's
pub taken_from_owned : (net : List ℕ) (owned : NetId) (k : RelayConnection) (ks : List RelayConnection)
    → Some owned.bytes ≡ k.client → not (bytes_eq owned.bytes net) ≡ is_taken_net net k ks
taken_from_owned net owned k ks e = by k.client e
  where
    by : (o : Owned) → Some owned.bytes ≡ o → not (bytes_eq owned.bytes net) ≡ is_taken_net net (record k { client = o }) ks
    by None e = absurd (let no : ◌≡◌ {A = Option (List ℕ)} (Some owned.bytes) None = e in cc)
    by (Some x) e = ap (λ y. not (bytes_eq y net)) (some_same owned.bytes x e)

pub taken_from_none : (net : List ℕ) (k : RelayConnection) (ks : List RelayConnection) → None ≡ k.client → is_some (owner_of net ks) ≡ is_taken_net net k ks
taken_from_none net k ks e = by k.client e
  where
    by : (o : Owned) → None ≡ o → is_some (owner_of net ks) ≡ is_taken_net net (record k { client = o }) ks
    by None e = refl
    by (Some x) e = absurd (let no : ◌≡◌ {A = Option (List ℕ)} None (Some x) = e in cc)

pub is_some-option_map : {X Y : Type 0} (f : X → Y) (o : Option X) → is_some (option_map f o) ≡ is_some o
is_some-option_map f None = refl
is_some-option_map f (Some x) = refl

pub owned_some : (o : Option NetId) → is_some o ≡ true → (net : NetId) × (o ≡ Some net)
owned_some None e = absurd (true≢false (sym e))
owned_some (Some net) e = (net, refl)

-- it owned it before
pub owned_already : (n i : ℕ) (b : List ℕ) (net : List ℕ) (owned : NetId) (k : RelayConnection) (p : Peer) (r : Router) (s : RelayState)
    → Holds r b s → IsEntry r.outlets n i → slice_get r.peers.items i ≡ Some p → IsHeardAt n k s
    → p.owned ≡ Some owned → is_taken_net net k s.connections ≡ false → Holds r b (with_owner n net s)
owned_already n i b net owned k p r s h at value heard own free =
    let client : Some owned.bytes ≡ k.client = sym (ap net_of own) ∙ owned_is n i b k p r s h at value heard in
    let differs : not (bytes_eq owned.bytes net) ≡ false = taken_from_owned net owned k s.connections client ∙ free in
    let same : owned.bytes ≡ net = bytes_same owned.bytes net (not_false (bytes_eq owned.bytes net) differs) in
    let is : k.client ≡ Some net = sym client ∙ ap (λ (x : List ℕ). Some x) same in
    subst (Holds r b) (sym
    (changed-nothing n (with_client (Some net)) s
    (λ l e. ap (λ (o : Owned). record l { client = o }) (sym (ap (λ (x : RelayConnection). x.client) (some_same l k (sym e ∙ heard.found)) ∙ is))))) h
  where
    not_false : (x : Bool) → not x ≡ false → x ≡ true
    not_false true e = refl
    not_false false e = absurd (true≢false e)

-- it owns it from here on: it asked nothing before
requests_owned : (c : ℕ) (net : List ℕ) (k : RelayConnection) (p q : Peer) (old new : Peers) (s : RelayState)
    → connection_of c s.connections ≡ Some k → is_heard k ≡ true → k.client ≡ None → HoldsRequests old s
    → old c ≡ Some p → Sets c q old new → q.asked.items ≡ p.asked.items → HoldsRequests new (with_owner c net s)
requests_owned c net k p q old new s found heard nothing h was sets asked m x l at found_l heard_l = elim (cases_eq m c) [
  | inr ne ↦
      let before = sym (changed-other c m f (λ y. refl) (λ e. ne (sym e)) s) ∙ found_l in
      asked_kept x.asked.items m l l s t requests same refl (λ d e. changed-none c d f s e) (h m x l (sym (sets.others m ne) ∙ at) before heard_l)
  | inl e ↦
      let x_is : x ≡ q = some_same x q (sym (ap new (sym e) ∙ at) ∙ sets.own) in
      let before = h c p k was found heard in
      let none : p.asked.items ≡ [] = nothing_asked p.asked.items before.own in
      let empty : x.asked.items ≡ [] = ap (λ (y : Peer). y.asked.items) x_is ∙ asked ∙ none in
      let machine = subst (λ xs. AreSame (hearing s.connections) c (requests_of c xs) s.world.requests) none before.same in
      let after = same_heard (hearing s.connections) (hearing t.connections) c [] s.world.requests same machine in
      subst (λ j. HoldsAsked x.asked.items j l t) (sym e)
      (subst (λ xs. HoldsAsked xs c l t) (sym empty)
      (record { same = subst (λ rs. AreSame (hearing t.connections) c [] rs) (sym requests) after; own = tt; few = omega arith }))
]
  where
    f : RelayConnection → RelayConnection
    f = with_client (Some net)

    t : RelayState
    t = with_owner c net s

    requests : t.world.requests ≡ s.world.requests
    requests = ap (λ (w : RelayWorld). w.requests) (world-change c f s)

    same : (d : ℕ) → is_heard_among d t.connections ≡ is_heard_among d s.connections
    same d = heard_changed c d f (client_stays net) (λ y. refl) s

    nothing_asked : (xs : List Asked) → AreOwn k s.connections xs → xs ≡ []
    nothing_asked [] own = refl
    nothing_asked (a ∷ more) own = absurd (let no : ◌≡◌ {A = Option (List ℕ)} None (Some a.source.net.bytes) = sym nothing ∙ own.0.source in cc)

pub owns_now : (n i : ℕ) (b : List ℕ) (net : NetId) (k : RelayConnection) (p q : Peer) (old new : Router) (s : RelayState)
    → Holds old b s → IsEntry old.outlets n i → slice_get old.peers.items i ≡ Some p → IsHeardAt n k s → p.owned ≡ None
    → is_taken_net net.bytes k s.connections ≡ false → is_some (rights_of net.bytes s.world.routes) ≡ true
    → q.owned ≡ Some net → q.asked.items ≡ p.asked.items
    → new.routes ≡ old.routes → new.outlets ≡ old.outlets → new.peers.items ≡ set old.peers.items i q → new.counts ≡ old.counts
    → owner_in net.bytes new.owners.entries ≡ Some n
    → ((other : List ℕ) → other ≢ net.bytes → owner_in other new.owners.entries ≡ owner_in other old.owners.entries)
    → Holds new b (with_owner n net.bytes s)
owns_now n i b net k p q old new s h at value heard own free has owns asked routes outlets peers counts now others =
    let f = with_client (Some net.bytes) in
    let t = with_owner n net.bytes s in
    let known = h.known in
    let nothing : k.client ≡ None = sym (sym (ap net_of own) ∙ owned_is n i b k p old s h at value heard) in
    let nobody : owner_of net.bytes s.connections ≡ None =
    none_of (owner_of net.bytes s.connections) (taken_from_none net.bytes k s.connections (sym nothing) ∙ free) in
    let sets = sets_at n i old.outlets old.peers.items q at known.peers.count in
    let count = length-set old.peers.items i q in
    let column = beside_set IsPeerOf n f q old.outlets old.peers.items (set old.peers.items i q) s (client_stays net.bytes) sets count
    (λ l found there. ap net_of owns) known.peers in
    let requests = requests_owned n net.bytes k p q (peers_in old) (λ m. beside m old.outlets (set old.peers.items i q)) s heard.found heard.heard nothing
    known.requests (peer_at n i b p old s h at value) sets asked in
    let in_new : (λ m. beside m old.outlets (set old.peers.items i q)) ≡ peers_in new =
    (λ j m. beside m (sym outlets j) (sym peers j)) in
    record {
      outlets = subst (λ es. Carries es b t.connections) (sym outlets)
          (carry_quiet n f b old.outlets s (record {
            number = λ l. refl;
            gone = λ l. refl;
            produced = λ l. refl;
            bytes_taken = λ l. refl;
            closing = λ l. refl;
          }) h.outlets);
      known = record {
        routes = λ m. ap (rights_of m) routes ∙ known.routes m ∙ ap (λ (w : RelayWorld). rights_of m w.routes) (sym (world-change n f s));
        peers = subst (λ es. AreBeside IsPeerOf es new.peers.items t.connections) (sym outlets)
            (subst (λ (ps : List Peer). AreBeside IsPeerOf old.outlets ps t.connections) (sym peers) column);
        owners = owners_own old.owners.entries new.owners.entries net.bytes n k (f k) s.connections t.connections
            (owner_is net.bytes old.owners.entries s.connections h.outlets.apart known.owners ∙ ap (option_map number_of) nobody) now others
            (λ m ne. changed-other n m f (λ l. refl) ne s) heard.found
            (changed-own n f (λ l. refl) s ∙ ap (option_map f) heard.found) heard.heard refl nothing known.owners;
        requests = subst (λ ps. HoldsRequests ps t) in_new requests;
        named = named_at n f s known.named;
        counts = ap counts_in counts ∙ known.counts ∙ sym (counts_changed n f (λ l. refl) (λ l. refl) s);
        routed = routed_owned n net.bytes s has known.routed;
      };
    }
