-- A connection is closing, gone or opened.
use Rattle.std.proofs.Common.{◌≡◌, ◌≢◌, ℕ, ◌+◌, List, [], ◌∷◌, ◌++◌, Bool, true, false, cond, refl, sym, ap, ◌∙◌, subst, inl, inr, arith}
use Rattle.std.specs.Prelude.{Option, Some, None, option_map, is_some, length, ◌&&◌, filter, remove, slice_get}
use Rattle.std.specs.Map.{keys_of}
use Rattle.std.proofs.lemmas.Bool.{cases_Bool, cases_eq, true≢false, cond-true, cond-false}
use Rattle.std.proofs.lemmas.List.{length-append}
use Rattle.ads_base.specs.declared.net_id.NetId.{NetId}
use Rattle.ads_outside.specs.declared.event.Event.TheVariants as event
use Rattle.spec_plant.specs.Rights.{rights_of}
use Rattle.spec_machine.specs.Connection.{connection_of, with_closing, fresh_connection}
use Rattle.spec_machine.specs.MachineState.{after_exchange}
use Rattle.spec_machine.specs.Moves.{with_gone}
use Rattle.spec_machine.specs.Summary.{count_of}
use Rattle.spec_machine.proofs.Find.{test_other, or_else, connection_of-append}
use Rattle.spec_relay.specs.RelayState.{Request, RelayWorld, Owned, RelayConnection, RelayState, is_heard, is_heard_among}
use Rattle.spec_relay.specs.RelayMoves.{relay_after_event}
use Rattle.spec_relay.specs.RelaySummary.{RelaySummary as CountsOfState, relay_summary_of}
use Rattle.spec_relay.specs.Requests.{requests_heard, is_asked_by}
use Rattle.spec_relay.specs.Routing.{at_connection}
use Rattle.spec_relay.proofs.ChangeLemmas.{changed-own, changed-other, world-change}
use Rattle.ams_tcp.specs.Held.{Held}
use Rattle.ams_tcp.specs.History.{Represents, nothing_fed}
use Rattle.connections.specs.Carries.{Carries, IsStreamOf}
use Rattle.connections.specs.Entries.{IsEntry, IsNoEntry}
use Rattle.connections.specs.Outlets.{Outlets, beside, closing_at, fresh_outlet, without_number}
use Rattle.connections.proofs.BesideLemmas.{beside_without, beside_at}
use Rattle.connections.proofs.CarryLemmas.{AtNumber, at_number, opened as carry_opened}
use Rattle.connections.proofs.MoveLemmas.{gone_is_ended}
use Rattle.connections.proofs.OutletLemmas.{without_none}
use Rattle.connections.proofs.StateLemmas.{was_none_append}
use Rattle.connections.proofs.StreamLemmas.{own_mark}
use Rattle.ams_relay.specs.declared.asked.Asked.{Asked}
use Rattle.ams_relay.specs.declared.peer.Peer.{Peer}
use Rattle.ams_relay.specs.declared.router.Router.{Router}
use Rattle.ams_relay.specs.Asking.{request_of, requests_of}
use Rattle.ams_relay.specs.Counts.{counts_in}
use Rattle.ams_relay.specs.Holds.{AreBeside, IsPeerOf, Owners, HoldsOwners, AreOwn, HoldsAsked, AreNamed, HoldsRequests, AreRouted, Knows, Holds}
use Rattle.ams_relay.specs.Peers.{Peers, Sets, peers_in, net_of, owned_of, owned_at}
use Rattle.ams_relay.specs.Taking.{DisownsIn, Disowns}
use Rattle.ams_relay.proofs.BesideLemmas.{beside_changed, beside_opened, beside_ended, sets_behind}
use Rattle.ams_relay.proofs.CarryLemmas.{unseated, closing_is, value_there}
use Rattle.ams_relay.proofs.HoldLemmas.{SameBeside, column_same, peers_same, own_changed_list, named_changed, named_filter, named_at, counts_changed}
use Rattle.ams_relay.proofs.HoldLemmas.{routed_changed}
use Rattle.ams_relay.proofs.ListLemmas.{filter-no}
use Rattle.ams_relay.proofs.OwnerLemmas.{IsUnheard, some_same, owners_unheard, owners_ended, owners_disowned, owners_opened, fresh_client}
use Rattle.ams_relay.proofs.RequestLemmas.{Hearing, hearing, AreSame, same_narrower, heard_found, heard_none}
use Rattle.ams_relay.proofs.RequestLemmas.{heard_there, heard_of_parts, deaf_closing, deaf_gone}
use Rattle.ams_relay.proofs.StateLemmas.{Stays, changed-none, changed-nothing, as_gone, with_fresh, opened_other, frames_in, frames-cons}

closing_stays : Stays with_closing
closing_stays = record { number = λ k. refl; gone = λ k. refl }

-- all others are as they were
abbrev SameOthers : ℕ → List RelayConnection → List RelayConnection → Type 0
SameOthers n ks ls = (m : ℕ) → n ≢ m → connection_of m ls ≡ connection_of m ks

others_at : (n : ℕ) (f : RelayConnection → RelayConnection) → ((k : RelayConnection) → (f k).number ≡ k.number)
    → (s : RelayState) → SameOthers n s.connections (at_connection n f s).connections
others_at n f number s m ne = changed-other n m f number ne s

-- nobody hears a connection that is deaf by its change
unheard_at : (n : ℕ) (f : RelayConnection → RelayConnection) → ((k : RelayConnection) → (f k).number ≡ k.number)
    → ((k : RelayConnection) → is_heard (f k) ≡ false) → (s : RelayState)
    → IsUnheard n (at_connection n f s).connections
unheard_at n f number deaf s k found = by (connection_of n s.connections) refl
  where
    by : (o : Option RelayConnection) → connection_of n s.connections ≡ o → is_heard k ≡ false
    by None e = absurd (let no : ◌≡◌ {A = Option RelayConnection} None (Some k) = sym (changed-own n f number s ∙ ap (option_map f) e) ∙ found in cc)
    by (Some j) e =
        let both : ◌≡◌ {A = Option RelayConnection} (Some (f j)) (Some k) = sym (changed-own n f number s ∙ ap (option_map f) e) ∙ found in
        sym (ap is_heard (some_same (f j) k both)) ∙ deaf j

-- requests that wait, where one connection is no longer heard
requests_narrowed : (n : ℕ) (old new : Peers) (s t : RelayState) → t.world.requests ≡ s.world.requests
    → SameOthers n s.connections t.connections → IsUnheard n t.connections
    → ((c : ℕ) → connection_of c t.connections ≡ None → connection_of c s.connections ≡ None)
    → ((m : ℕ) → m ≢ n → new m ≡ old m) → HoldsRequests old s → HoldsRequests new t
requests_narrowed n old new s t same others unheard opened peers h m p k at found heard = elim (cases_eq n m) [
  | inl e ↦ absurd (true≢false (sym heard ∙ unheard k (ap (λ j. connection_of j t.connections) e ∙ found)))
  | inr ne ↦
      let before = sym (others m ne) ∙ found in
      let a = h m p k (sym (peers m (λ e. ne (sym e))) ∙ at) before heard in
      record {
        same = subst (λ rs. AreSame (hearing t.connections) m (requests_of m p.asked.items) rs) (sym same)
            (same_narrower (hearing s.connections) (hearing t.connections) m
            (requests_of m p.asked.items) s.world.requests narrower (heard_found m k t.connections found ∙ heard) a.same);
        own = own_changed_list k k s.connections t.connections refl opened p.asked.items a.own;
        few = a.few;
      }
]
  where
    narrower : (c : ℕ) → is_heard_among c t.connections ≡ true → is_heard_among c s.connections ≡ true
    narrower c e =
        let there = heard_there c t.connections e in
        let other : n ≢ c = λ q. true≢false (sym there.heard ∙ unheard there.connection (ap (λ j. connection_of j t.connections) q ∙ there.found)) in
        heard_found c there.connection s.connections (sym (others c other) ∙ there.found) ∙ there.heard

requests_at : (n : ℕ) (f : RelayConnection → RelayConnection) (old new : Peers) (s : RelayState)
    → ((k : RelayConnection) → (f k).number ≡ k.number) → ((k : RelayConnection) → is_heard (f k) ≡ false)
    → ((m : ℕ) → m ≢ n → new m ≡ old m) → HoldsRequests old s → HoldsRequests new (at_connection n f s)
requests_at n f old new s number deaf peers h =
    requests_narrowed n old new s (at_connection n f s) (ap (λ (w : RelayWorld). w.requests) (world-change n f s))
    (others_at n f number s) (unheard_at n f number deaf s)
    (λ c e. changed-none n c f s e) peers h

-- owners, where one that was heard is so no longer, and what it owned is free
owners_freed : (owned : Option NetId) (os ps : Owners) (n : ℕ) (k : RelayConnection) (ks ls : List RelayConnection)
    → DisownsIn owned os ps → net_of owned ≡ k.client → SameOthers n ks ls
    → connection_of n ks ≡ Some k → is_heard k ≡ true → IsUnheard n ls → HoldsOwners os ks → HoldsOwners ps ls
owners_freed None os ps n k ks ls d client others found heard unheard h =
    subst (λ o. HoldsOwners o ls) (sym d) (owners_ended os n k ks ls others found (sym client) unheard h)
owners_freed (Some net) os ps n k ks ls d client others found heard unheard h =
    owners_disowned os ps net.bytes n k ks ls d.free d.others others found heard (sym client) unheard h

routes_at : (n : ℕ) (f : RelayConnection → RelayConnection) (r : Router) (s : RelayState)
    → Knows r s → (net : List ℕ) → rights_of net r.routes ≡ rights_of net (at_connection n f s).world.routes
routes_at n f r s h net = h.routes net ∙ ap (λ (w : RelayWorld). rights_of net w.routes) (sym (world-change n f s))

-- one that was heard is closing, and what it owned is free
pub closes : (n : ℕ) (owned : Option NetId) (k : RelayConnection) (old mid new : Router) (s : RelayState) → Knows old s
    → connection_of n s.connections ≡ Some k → is_heard k ≡ true → net_of owned ≡ k.client
    → SameBeside old mid → mid.counts ≡ old.counts → Disowns owned mid new → Knows new (at_connection n with_closing s)
closes n owned k old mid new s h found heard client same counts d =
    let t = at_connection n with_closing s in
    let number : (l : RelayConnection) → (with_closing l).number ≡ l.number = λ l. refl in
    let deaf : (l : RelayConnection) → is_heard (with_closing l) ≡ false = λ l. deaf_closing (with_closing l) refl in
    let same_new : SameBeside old (record new { owners = old.owners }) = record {
      routes = ap (λ (r : Router). r.routes) d.same ∙ same.routes;
      numbers = ap (λ (r : Router). keys_of r.outlets) d.same ∙ same.numbers;
      peers = ap (λ (r : Router). r.peers.items) d.same ∙ same.peers;
      owners = refl;
    } in
    let all = peers_same old (record new { owners = old.owners }) same_new in
    record {
      routes = λ net. ap (rights_of net) same_new.routes ∙ routes_at n with_closing old s h net;
      peers = column_same old (record new { owners = old.owners }) t.connections same_new
          (beside_changed IsPeerOf n with_closing old.outlets old.peers.items s closing_stays (λ p l is. is) h.peers);
      owners = owners_freed owned old.owners.entries new.owners.entries n k s.connections t.connections
          (subst (λ os. DisownsIn owned os new.owners.entries) same.owners d.disowned) client (others_at n with_closing number s) found
          heard (unheard_at n with_closing number deaf s) h.owners;
      requests = requests_at n with_closing (peers_in old) (peers_in new) s number deaf (λ m ne. all m) h.requests;
      named = named_at n with_closing s h.named;
      counts = ap (λ (r : Router). counts_in r.counts) d.same ∙ ap counts_in counts ∙ h.counts ∙ sym (counts_changed n with_closing number (λ l. refl) s);
      routed = routed_changed n with_closing number (λ l. refl) s h.routed;
    }

-- one that was closing, stays so
closed_twice : (k : RelayConnection) → k.closing ≡ true → with_closing k ≡ k
closed_twice k closing = ap (λ (b : Bool). record k { closing = b }) (sym closing)

pub closed_already : (n i : ℕ) (b : List ℕ) (r : Router) (s : RelayState) → Holds r b s
    → IsEntry r.outlets n i → closing_at r.outlets i ≡ true → Holds r b (at_connection n with_closing s)
closed_already n i b r s h at closing =
    let there = at_number r.outlets b s.connections n i h.outlets at in
    subst (Holds r b) (sym
    (changed-nothing n with_closing s
    (λ k e. closed_twice k (ap (λ (x : RelayConnection). x.closing) (some_same k there.k (sym e ∙ there.found))
    ∙ closing_is r.outlets n i b s.connections there ∙ closing)))) h

-- one that was not closing is, at its place
pub closes_at : (n i : ℕ) (b : List ℕ) (p : Peer) (old mid new : Router) (s : RelayState) → Holds old b s → IsEntry old.outlets n i
    → slice_get old.peers.items i ≡ Some p → closing_at old.outlets i ≡ false
    → mid ≡ record old { outlets = mid.outlets } → keys_of mid.outlets ≡ keys_of old.outlets
    → Carries mid.outlets b (at_connection n with_closing s).connections
    → Disowns p.owned mid new → Holds new b (at_connection n with_closing s)
closes_at n i b p old mid new s h at value is_open is numbers carried d =
    let there = at_number old.outlets b s.connections n i h.outlets at in
    let heard = heard_of_parts there.k (closing_is old.outlets n i b s.connections there ∙ is_open) there.there in
    let client = h.known.peers.each n p there.k (beside_at old.outlets old.peers.items n i at h.known.peers.count ∙ value) there.found there.there in
    record {
      outlets = subst (λ (r : Router). Carries r.outlets b (at_connection n with_closing s).connections) (sym d.same) carried;
      known = closes n p.owned there.k old mid new s h.known there.found heard client (record {
        routes = ap (λ (r : Router). r.routes) is;
        numbers = numbers;
        peers = ap (λ (r : Router). r.peers.items) is;
        owners = ap (λ (r : Router). r.owners.entries) is;
      }) (ap (λ (r : Router). r.counts) is) d;
    }

-- a connection that is there goes
pub ends : (n i : ℕ) (b : List ℕ) (owned : Option NetId) (old mid new : Router) (s : RelayState) → Holds old b s
    → IsEntry old.outlets n i → owned ≡ owned_at old i → Disowns owned old mid
    → new.routes ≡ mid.routes → new.owners ≡ mid.owners → new.counts ≡ mid.counts
    → new.outlets ≡ without_number n old.outlets → new.peers.items ≡ remove old.peers.items i
    → Holds new b (after_exchange (connection_of n s.connections) with_gone s)
ends n i b owned old mid new s h at owned_is d routes owners counts outlets peers =
    let known = h.known in
    let t = at_connection n as_gone s in
    let there = at_number old.outlets b s.connections n i h.outlets at in
    let number : (k : RelayConnection) → (as_gone k).number ≡ k.number = λ k. refl in
    let deaf : (k : RelayConnection) → is_heard (as_gone k) ≡ false = λ k. deaf_gone (as_gone k) refl in
    let column = beside_ended IsPeerOf n i old.outlets old.peers.items s at known.peers in
    let owners_are : new.owners.entries ≡ mid.owners.entries = ap (λ o. o.entries) owners in
    record {
      outlets = subst (λ es. Carries es b t.connections) (sym outlets) (gone_is_ended old.outlets b s n h.outlets);
      known = record {
        routes = λ net. ap (rights_of net) (routes ∙ ap (λ (r : Router). r.routes) d.same) ∙ routes_at n as_gone old s known net;
        peers = subst (λ es. AreBeside IsPeerOf es new.peers.items t.connections) (sym outlets)
            (subst (λ (ps : List Peer). AreBeside IsPeerOf (without_number n old.outlets) ps t.connections) (sym peers) column);
        owners = subst (λ os. HoldsOwners os t.connections) (sym owners_are) (owners_after there number deaf);
        requests = requests_at n as_gone (peers_in old) (peers_in new) s number deaf
            (λ m ne. (λ j. beside m (outlets j) (peers j)) ∙ beside_without old.outlets old.peers.items n m i at ne) known.requests;
        named = named_at n as_gone s known.named;
        counts = ap counts_in (counts ∙ ap (λ (r : Router). r.counts) d.same) ∙ known.counts ∙ sym (counts_changed n as_gone number (λ k. refl) s);
        routed = routed_changed n as_gone number (λ k. refl) s known.routed;
      };
    }
  where
    owners_after : AtNumber old.outlets b s.connections n i → ((k : RelayConnection) → (as_gone k).number ≡ k.number)
        → ((k : RelayConnection) → is_heard (as_gone k) ≡ false) → HoldsOwners mid.owners.entries (at_connection n as_gone s).connections
    owners_after there number deaf = elim (cases_Bool (closing_at old.outlets i)) [
      | inl closing ↦
          let none : owned ≡ None = owned_is ∙ cond-true (closing_at old.outlets i) None (owned_of (slice_get old.peers.items i)) closing in
          let same : mid.owners.entries ≡ old.owners.entries = subst (λ o. DisownsIn o old.owners.entries mid.owners.entries) none d.disowned in
          subst (λ os. HoldsOwners os (at_connection n as_gone s).connections) (sym same)
          (owners_unheard old.owners.entries n s.connections (at_connection n as_gone s).connections (others_at n as_gone number s)
          (λ k e. deaf_closing k (ap (λ (x : RelayConnection). x.closing) (some_same k there.k (sym e ∙ there.found))
          ∙ closing_is old.outlets n i b s.connections there ∙ closing))
          (unheard_at n as_gone number deaf s) h.known.owners)
      | inr opens ↦
          let p = value_there old.peers.items i (omega (arith, at.within, h.known.peers.count)) in
          let client : net_of owned ≡ there.k.client =
          ap net_of (owned_is ∙ cond-false (closing_at old.outlets i) None (owned_of (slice_get old.peers.items i)) opens ∙ ap owned_of p.1)
          ∙ h.known.peers.each n p.0 there.k (beside_at old.outlets old.peers.items n i at h.known.peers.count ∙ p.1) there.found there.there in
          owners_freed owned old.owners.entries mid.owners.entries n there.k s.connections (at_connection n as_gone s).connections
          d.disowned client (others_at n as_gone number s) there.found
          (heard_of_parts there.k (closing_is old.outlets n i b s.connections there ∙ opens) there.there) (unheard_at n as_gone number deaf s) h.known.owners
    ]

-- one that is not there
pub ended_already : (n : ℕ) (b : List ℕ) (r : Router) (s : RelayState) → Holds r b s
    → IsNoEntry r.outlets n → Holds r b (after_exchange (connection_of n s.connections) with_gone s)
ended_already n b r s h none =
    subst (Holds r b) (sym (changed-nothing n as_gone s
    (λ k e. ap (λ (g : Bool). record k { gone = g }) (sym (unseated r.outlets b s.connections n h.outlets none k e))))) h

-- among requests that name connections that were opened, none names the new one
not_new : (n c : ℕ) (ks : List RelayConnection) → connection_of n ks ≡ None → (connection_of c ks ≡ None → ⊥) → n ≢ c
not_new n c ks new opened e = opened (ap (λ j. connection_of j ks) (sym e) ∙ new)

module _ (n : ℕ) (s : RelayState) (is_new : connection_of n s.connections ≡ None) where
  abbrev H : Hearing
  H = hearing s.connections

  abbrev I : Hearing
  I = hearing (with_fresh n s).connections

  heard_same : (c : ℕ) → n ≢ c → I c ≡ H c
  heard_same c ne = by (connection_of c s.connections) refl
    where
      by : (o : Option RelayConnection) → connection_of c s.connections ≡ o → I c ≡ H c
      by None e = heard_none c (with_fresh n s).connections (opened_other n c s.connections ne ∙ e) ∙ sym (heard_none c s.connections e)
      by (Some k) e = heard_found c k (with_fresh n s).connections (opened_other n c s.connections ne ∙ e) ∙ sym (heard_found c k s.connections e)

  own_same : (m : ℕ) (k : RelayConnection) (asked : List Asked) → AreOwn k s.connections asked
      → filter (λ (r : Request). I r.asked) (requests_of m asked) ≡ filter (λ (r : Request). H r.asked) (requests_of m asked)
  own_same m k [] own = refl
  own_same m k (a ∷ more) own =
      let same = heard_same a.asked (not_new n a.asked s.connections is_new own.0.opened) in
      let rest = own_same m k more own.1 in
      (λ i. cond (same i) (request_of m a ∷ rest i) (rest i))

  named_same : (rs : List Request) → AreNamed s.connections rs → requests_heard (with_fresh n s).connections rs ≡ requests_heard s.connections rs
  named_same [] named = refl
  named_same (r ∷ rs) named =
      let asker = heard_same r.asker (not_new n r.asker s.connections is_new named.0.asker) in
      let asked = heard_same r.asked (not_new n r.asked s.connections is_new named.0.asked) in
      let rest = named_same rs named.1 in
      (λ i. cond (asker i && asked i) (r ∷ rest i) (rest i))

  -- nobody asked by the new number
  none_asked : (rs : List Request) → AreNamed s.connections rs → filter (is_asked_by n) rs ≡ []
  none_asked [] named = refl
  none_asked (r ∷ rs) named =
      let other = not_new n r.asker s.connections is_new named.0.asker in
      filter-no (is_asked_by n) r rs (test_other r.asker n (λ e. other (sym e))) ∙ none_asked rs named.1

  requests_opened : (p : Peer) (old new : Peers) → p.asked.items ≡ [] → Sets n p old new → AreNamed s.connections s.world.requests → HoldsRequests old s
      → HoldsRequests new (with_fresh n s)
  requests_opened p old new nothing_asked sets named h m q k at found heard = elim (cases_eq m n) [
    | inr ne ↦
        let a = h m q k (sym (sets.others m ne) ∙ at) (sym (opened_other n m s.connections (λ e. ne (sym e))) ∙ found) heard in
        record {
          same = own_same m k q.asked.items a.own ∙ a.same ∙ ap (filter (is_asked_by m)) (sym (named_same s.world.requests named));
          own = own_changed_list k k s.connections (with_fresh n s).connections refl
              (λ c e. was_none_append c s.connections (fresh_connection None n ∷ []) e) q.asked.items a.own;
          few = a.few;
        }
    | inl e ↦
        let is : q ≡ p = some_same q p (sym (ap new (sym e) ∙ at) ∙ sets.own) in
        let nothing : q.asked.items ≡ [] = ap (λ (x : Peer). x.asked.items) is ∙ nothing_asked in
        let none : filter (is_asked_by m) (requests_heard (with_fresh n s).connections s.world.requests) ≡ [] =
        ap (filter (is_asked_by m)) (named_same s.world.requests named) ∙ ap (λ j. filter (is_asked_by j) (requests_heard s.connections s.world.requests)) e
        ∙ none_asked (requests_heard s.connections s.world.requests) (named_filter s.connections _ s.world.requests named) in
        subst (λ xs. HoldsAsked xs m k (with_fresh n s)) (sym nothing) (record { same = sym none; own = tt; few = omega arith })
  ]

-- one more owns nothing
routed_opened : (n : ℕ) (s : RelayState) → AreRouted s → AreRouted (with_fresh n s)
routed_opened n s h m k net found owned = by (connection_of m s.connections) refl
  where
    at : (o : Option RelayConnection) → connection_of m s.connections ≡ o
        → or_else o (connection_of m (fresh_connection None n ∷ [])) ≡ Some k
    at o e = sym (connection_of-append m s.connections (fresh_connection None n ∷ [])
        ∙ ap (λ x. or_else x (connection_of m (fresh_connection None n ∷ []))) e) ∙ found

    by : (o : Option RelayConnection) → connection_of m s.connections ≡ o → is_some (rights_of net s.world.routes) ≡ true
    by (Some j) e = h m j net e (ap (λ (x : RelayConnection). x.client) (some_same j k (at (Some j) e)) ∙ owned)
    by None e = absurd (let no : ◌≡◌ {A = Option (List ℕ)} None (Some net) = sym (fresh_client n m k (at None e)) ∙ owned in cc)

pub opens : (n : ℕ) (b : List ℕ) (p : Peer) (old new : Router) (s : RelayState) → Holds old b s → connection_of n s.connections ≡ None
    → IsNoEntry old.outlets n → p.owned ≡ None → p.asked.items ≡ []
    → new.routes ≡ old.routes → new.owners ≡ old.owners → new.outlets ≡ old.outlets ++ (n, fresh_outlet) ∷ [] → new.peers.items ≡ old.peers.items ++ p ∷ []
    → new.counts ≡ (let c = old.counts in record c { connections = count_of (c.connections + 1) })
    → Holds new b (relay_after_event s (event.Opened n))
unfolding relay_after_event
opens n b p old new s h is_new none owns asked routes owners outlets peers counts =
    let known = h.known in
    let t = with_fresh n s in
    let column = beside_opened IsPeerOf n fresh_outlet p old.outlets old.peers.items s is_new none (ap net_of owns) known.peers in
    let sets = sets_behind n old.outlets fresh_outlet old.peers.items p none known.peers.count in
    let asked_new = requests_opened n s is_new p (peers_in old) (λ m. beside m (old.outlets ++ (n, fresh_outlet) ∷ []) (old.peers.items ++ p ∷ []))
    asked sets known.named known.requests in
    let in_new : (λ m. beside m (old.outlets ++ (n, fresh_outlet) ∷ []) (old.peers.items ++ p ∷ [])) ≡ peers_in new =
    (λ j m. beside m (sym outlets j) (sym peers j)) in
    record {
      outlets = subst (λ es. Carries es b t.connections) (sym outlets) (carry_opened None old.outlets b s.connections n h.outlets is_new);
      known = record {
        routes = λ net. ap (rights_of net) routes ∙ known.routes net;
        peers = subst (λ es. AreBeside IsPeerOf es new.peers.items t.connections) (sym outlets)
            (subst (λ (ps : List Peer). AreBeside IsPeerOf (old.outlets ++ (n, fresh_outlet) ∷ []) ps t.connections) (sym peers) column);
        owners = subst (λ os. HoldsOwners os t.connections) (sym (ap (λ o. o.entries) owners))
            (owners_opened old.owners.entries n s.connections is_new known.owners);
        requests = subst (λ ps. HoldsRequests ps t) in_new asked_new;
        named = named_changed s.connections t.connections (λ c e. was_none_append c s.connections (fresh_connection None n ∷ []) e)
            s.world.requests known.named;
        counts = ap counts_in counts ∙ counted;
        routed = routed_opened n s known.routed;
      };
    }
  where
    frames_more : (ks : List RelayConnection) → frames_in (ks ++ fresh_connection None n ∷ []) ≡ frames_in ks
    frames_more [] = refl
    frames_more (k ∷ ks) = frames-cons k (ks ++ fresh_connection None n ∷ []) ∙ ap (λ m. k.frames_taken + m) (frames_more ks) ∙ sym (frames-cons k ks)

    connections : count_of (old.counts.connections + 1) ≡ count_of (length (with_fresh n s).connections)
    connections =
        let before : old.counts.connections ≡ count_of (length s.connections) = ap (λ (c : CountsOfState). c.connections) h.known.counts in
        let more = length-append s.connections (fresh_connection {C = Owned} None n ∷ []) in
        omega (arith, before, more)

    frames : old.counts.frames ≡ count_of (frames_in (with_fresh n s).connections)
    frames = ap (λ (c : CountsOfState). c.frames) h.known.counts ∙ ap count_of (sym (frames_more s.connections))

    passed : old.counts.passed ≡ count_of s.world.passed
    passed = ap (λ (c : CountsOfState). c.passed) h.known.counts

    unknown : old.counts.unknown ≡ count_of s.world.unknown
    unknown = ap (λ (c : CountsOfState). c.unknown) h.known.counts

    counted : counts_in (let c = old.counts in record c { connections = count_of (c.connections + 1) }) ≡ relay_summary_of (with_fresh n s)
    counted = λ i. record { connections = connections i; frames = frames i; passed = passed i; unknown = unknown i }

-- a number that is there is not new
pub opened_again : (n i : ℕ) (b : List ℕ) (r : Router) (s : RelayState)
    → Holds r b s → IsEntry r.outlets n i → connection_of n s.connections ≡ None → ⊥
opened_again n i b r s h at new =
    let there = at_number r.outlets b s.connections n i h.outlets at in
    (let no : ◌≡◌ {A = Option RelayConnection} None (Some there.k) = sym new ∙ there.found in cc)

-- the streams, as a connection is opened
pub streams_opened : (n : ℕ) (held : Held) (es fs : Outlets) (xs ys : List Held) (s : RelayState) → fs ≡ es ++ (n, fresh_outlet) ∷ []
    → ys ≡ xs ++ held ∷ [] → connection_of n s.connections ≡ None → IsNoEntry es n → Represents held nothing_fed
    → AreBeside IsStreamOf es xs s.connections → AreBeside IsStreamOf fs ys (relay_after_event s (event.Opened n)).connections
unfolding relay_after_event
streams_opened n held es fs xs ys s outlets streams is_new none fresh h =
    subst (λ gs. AreBeside IsStreamOf gs ys (with_fresh n s).connections) (sym outlets)
    (subst (λ (zs : List Held). AreBeside IsStreamOf (es ++ (n, fresh_outlet) ∷ []) zs (with_fresh n s).connections) (sym streams)
    (beside_opened IsStreamOf n fresh_outlet held es xs s is_new none (own_mark held nothing_fed fresh) h))

-- or goes
pub streams_ended : (n i : ℕ) (es fs : Outlets) (xs ys : List Held) (s : RelayState) → fs ≡ without_number n es → ys ≡ remove xs i → IsEntry es n i
    → AreBeside IsStreamOf es xs s.connections → AreBeside IsStreamOf fs ys (after_exchange (connection_of n s.connections) with_gone s).connections
streams_ended n i es fs xs ys s outlets streams at h =
    subst (λ gs. AreBeside IsStreamOf gs ys (at_connection n as_gone s).connections) (sym outlets)
    (subst (λ (zs : List Held). AreBeside IsStreamOf (without_number n es) zs (at_connection n as_gone s).connections) (sym streams)
    (beside_ended IsStreamOf n i es xs s at h))

pub streams_absent : (n : ℕ) (b : List ℕ) (es fs : Outlets) (xs : List Held) (s : RelayState) → fs ≡ without_number n es → IsNoEntry es n
    → Carries es b s.connections → AreBeside IsStreamOf es xs s.connections
    → AreBeside IsStreamOf fs xs (after_exchange (connection_of n s.connections) with_gone s).connections
streams_absent n b es fs xs s outlets none c h =
    subst (λ gs. AreBeside IsStreamOf gs xs (at_connection n as_gone s).connections) (sym (outlets ∙ without_none es n none))
    (subst (λ (t : RelayState). AreBeside IsStreamOf es xs t.connections) (sym (changed-nothing n as_gone s
    (λ k e. ap (λ (g : Bool). record k { gone = g }) (sym (unseated es b s.connections n c none k e))))) h)
