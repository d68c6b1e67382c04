-- A request that was passed on waits for its response: of its asker the last ones do.
use Rattle.std.proofs.Common.{◌≡◌, ◌≢◌, ℕ, ◌+◌, ◌<◌, ◌≤◌, ◌⊎◌, List, [], ◌∷◌, ◌++◌, length, map, get_or, Bool}
use Rattle.std.proofs.Common.{true, false, cond, refl, sym, ap, ◌∙◌, subst, inl, inr, arith}
use Rattle.std.specs.Prelude.{Option, Some, None, filter, drop, take, set, slice_get, ◌&&◌, ◌==◌, nat_lt, nat_le, if◌then◌else◌}
use Rattle.std.proofs.lemmas.Bool.{cases_Bool, cases_eq, cases_lt, true≢false, and_parts, eqb-true, lt-ltb, le-ltb, le-leb, lt-leb, cond-true, cond-false}
use Rattle.std.proofs.lemmas.List.{append-nil, length-map, map-append, length-append, length-drop, take_more}
use Rattle.spec_plant.specs.Rights.{rights_of}
use Rattle.spec_formats.specs.Commands.{DEVICE_NOTIFICATION}
use Rattle.spec_formats.specs.Header.{AmsHeader}
use Rattle.spec_machine.specs.Connection.{connection_of}
use Rattle.spec_machine.proofs.Find.{test_same, test_other}
use Rattle.spec_relay.specs.RelayState.{Request, RelayConnection, RelayState}
use Rattle.spec_relay.specs.Requests.{requests_heard, without_first, is_asked_by, with_request, MAX_REQUESTS}
use Rattle.spec_relay.specs.Routing.{with_requests, request_from, with_request_of}
use Rattle.ams_relay.specs.declared.asked.Asked.{Asked}
use Rattle.ams_relay.specs.declared.peer.Peer.{Peer}
use Rattle.ams_relay.specs.declared.router.Router.{Router}
use Rattle.ams_relay.specs.Asking.{request_of, requests_of, with_room}
use Rattle.ams_relay.specs.Counts.{counts_in}
use Rattle.connections.specs.Carries.{Carries}
use Rattle.connections.specs.Entries.{IsEntry}
use Rattle.connections.specs.Outlets.{Outlets}
use Rattle.ams_relay.specs.Holds.{HoldsOwners, IsOwn, AreOwn, HoldsAsked, IsNamed, AreNamed, Holds}
use Rattle.ams_relay.specs.Peers.{peers_in}
use Rattle.ams_relay.specs.Taking.{IsHeardAt, IsOpenedAt, IsSwept, is_asked_heard}
use Rattle.ams_relay.proofs.CarryLemmas.{open_is}
use Rattle.ams_relay.proofs.OwnLemmas.{peer_at, peers_after}
use Rattle.ams_relay.proofs.ListLemmas.{Among, all-pass, filter-yes, filter-no, filter-all, filter-append}
use Rattle.ams_relay.proofs.ListLemmas.{filter-map, map-drop, filtered-among, length-filter, filter-without}
use Rattle.ams_relay.proofs.ListLemmas.{filter-without-other, without-all, without-among}
use Rattle.ams_relay.proofs.HoldLemmas.{named_without}
use Rattle.ams_relay.proofs.OwnerLemmas.{some_same}
use Rattle.ams_relay.proofs.RequestLemmas.{hearing, is_heard_in, is_asked_in, heard_found}

-- the machine's request of one asker more
module _ (s : RelayState) (swept : IsSwept s) (c d : ℕ) (k : RelayConnection) (heard : IsHeardAt c k s) (head : AmsHeader) where
  abbrev new : Request
  new = request_from c d head

  abbrev own : List Request
  own = filter (is_asked_by c) s.world.requests

  abbrev after : List Request
  after = with_request new s.world.requests

  abbrev H : ℕ → Bool
  H = hearing s.connections

  new_mine : is_asked_by c new ≡ true
  new_mine = test_same c c refl

  new_heard : is_heard_in H new ≡ is_asked_in H new
  new_heard = ap (λ a. a && H d) (heard_found c k s.connections heard.found ∙ heard.heard)

  -- a filter that the new one passes as far as its asked is heard
  last_heard : (rs : List Request) → filter (is_heard_in H) rs ≡ rs → filter (is_heard_in H) (rs ++ new ∷ []) ≡ rs ++ filter (is_asked_in H) (new ∷ [])
  last_heard rs all = filter-append (is_heard_in H) rs (new ∷ [])
      ∙ ap (λ xs. xs ++ filter (is_heard_in H) (new ∷ [])) all ∙ ap (λ (t : Bool). rs ++ cond t (new ∷ []) []) new_heard

  last_mine : filter (is_asked_by c) (filter (is_asked_in H) (new ∷ [])) ≡ filter (is_asked_in H) (new ∷ [])
  last_mine = elim (cases_Bool (is_asked_in H new)) [
    | inl t ↦ ap (filter (is_asked_by c)) (filter-yes (is_asked_in H) new [] t)
        ∙ filter-yes (is_asked_by c) new [] new_mine ∙ sym (filter-yes (is_asked_in H) new [] t)
    | inr t ↦ ap (filter (is_asked_by c)) (filter-no (is_asked_in H) new [] t) ∙ sym (filter-no (is_asked_in H) new [] t)
  ]

  last_other : (m : ℕ) → m ≢ c → filter (is_asked_by m) (filter (is_asked_in H) (new ∷ [])) ≡ []
  last_other m ne = elim (cases_Bool (is_asked_in H new)) [
    | inl t ↦ ap (filter (is_asked_by m)) (filter-yes (is_asked_in H) new [] t) ∙ filter-no (is_asked_by m) new [] (test_other c m (λ e. ne (sym e)))
    | inr t ↦ ap (filter (is_asked_by m)) (filter-no (is_asked_in H) new [] t)
  ]

  -- what was there before it
  abbrev before : List Request
  before = if nat_lt (length own) MAX_REQUESTS then s.world.requests else without_first (is_asked_by c) s.world.requests

  after_is : after ≡ before ++ new ∷ []
  after_is = elim (cases_Bool (nat_lt (length own) MAX_REQUESTS)) [ inl t ↦ rw t refl | inr t ↦ rw t refl ]

  before_heard : filter (is_heard_in H) before ≡ before
  before_heard = elim (cases_Bool (nat_lt (length own) MAX_REQUESTS)) [
    | inl t ↦ rw t swept
    | inr t ↦ rw t (filter-all (is_heard_in H) (without_first (is_asked_by c) s.world.requests)
        (λ q among. all-pass (is_heard_in H) s.world.requests swept q (without-among (is_asked_by c) q s.world.requests among)))
  ]

  abbrev kept : List Request
  kept = if nat_lt (length own) MAX_REQUESTS then own else drop 1 own

  before_mine : filter (is_asked_by c) before ≡ kept
  before_mine = elim (cases_Bool (nat_lt (length own) MAX_REQUESTS)) [
    | inl t ↦ rw t refl
    | inr t ↦ rw t (filter-without (is_asked_by c) (is_asked_by c) s.world.requests (λ q among e. e)
        ∙ without-all (is_asked_by c) own (λ q among. (filtered-among (is_asked_by c) q s.world.requests among).1))
  ]

  before_other : (m : ℕ) → m ≢ c → filter (is_asked_by m) before ≡ filter (is_asked_by m) s.world.requests
  before_other m ne = elim (cases_Bool (nat_lt (length own) MAX_REQUESTS)) [
    | inl t ↦ rw t refl
    | inr t ↦ rw t (filter-without-other (is_asked_by m) (is_asked_by c) s.world.requests
        (λ q among e. test_other q.asker m (λ f. ne (sym f ∙ eqb-true q.asker c e))))
  ]

  mine_after : filter (is_asked_by c) (requests_heard s.connections after) ≡ kept ++ filter (is_asked_in H) (new ∷ [])
  mine_after =
      ap (λ rs. filter (is_asked_by c) (requests_heard s.connections rs)) after_is
      ∙ ap (filter (is_asked_by c)) (last_heard before before_heard)
      ∙ filter-append (is_asked_by c) before (filter (is_asked_in H) (new ∷ []))
      ∙ ap (λ xs. xs ++ filter (is_asked_by c) (filter (is_asked_in H) (new ∷ []))) before_mine
      ∙ ap (λ xs. kept ++ xs) last_mine

  pub other_after : (m : ℕ) → m ≢ c
      → filter (is_asked_by m) (requests_heard s.connections after) ≡ filter (is_asked_by m) (requests_heard s.connections s.world.requests)
  other_after m ne =
      ap (λ rs. filter (is_asked_by m) (requests_heard s.connections rs)) after_is
      ∙ ap (filter (is_asked_by m)) (last_heard before before_heard)
      ∙ filter-append (is_asked_by m) before (filter (is_asked_in H) (new ∷ []))
      ∙ ap (λ xs. filter (is_asked_by m) before ++ xs) (last_other m ne)
      ∙ append-nil (filter (is_asked_by m) before)
      ∙ before_other m ne
      ∙ ap (filter (is_asked_by m)) (sym swept)

  -- the queue of the asker: its list before the new one, of whom the heard are those that are kept
  queued_after : (asked : List Asked) (a : Asked) → request_of c a ≡ new → filter (is_asked_in H) (requests_of c asked) ≡ kept
      → filter (is_asked_in H) (requests_of c (asked ++ a ∷ [])) ≡ filter (is_asked_by c) (requests_heard s.connections after)
  queued_after asked a is same =
      ap (filter (is_asked_in H)) (map-append (request_of c) asked (a ∷ []) ∙ ap (λ r. requests_of c asked ++ r ∷ []) is)
      ∙ filter-append (is_asked_in H) (requests_of c asked) (new ∷ [])
      ∙ ap (λ xs. xs ++ filter (is_asked_in H) (new ∷ [])) same
      ∙ sym mine_after

  -- where there was room
  pub kept_with_room : (asked : List Asked) → HoldsAsked asked c k s → length asked < MAX_REQUESTS → filter (is_asked_in H) (requests_of c asked) ≡ kept
  kept_with_room asked held room =
      let same = held.same ∙ ap (filter (is_asked_by c)) swept in
      let few = length-filter (is_asked_in H) (requests_of c asked) in
      let count = length-map asked (request_of c) in
      let sizes = ap length same in
      let less : length own < MAX_REQUESTS = omega (arith, few, count, sizes, room) in
      same ∙ sym (cond-true (nat_lt (length own) MAX_REQUESTS) own (drop 1 own) (lt-ltb (length own) MAX_REQUESTS less))

  -- where there was none: those that are heard, without the oldest where they are too many
  pub kept_without_room : (asked left : List Asked) → HoldsAsked asked c k s
      → requests_of c left ≡ own → filter (is_asked_in H) (requests_of c (with_room left)) ≡ kept
  kept_without_room asked left held is =
      let size : length left ≡ length own = sym (length-map left (request_of c)) ∙ ap length is in
      let own_heard : (xs : List Request) → ((q : Request) → Among q xs → Among q own) → filter (is_asked_in H) xs ≡ xs =
      λ xs sub. filter-all (is_asked_in H) xs (λ q among. asked_heard q (sub q among)) in
      elim (cases_Bool (nat_lt (length own) MAX_REQUESTS)) [
        | inl t ↦
            let less = ltb_less t in
            let all = cond-false (nat_le MAX_REQUESTS (length left)) (drop 1 left) left (lt-leb MAX_REQUESTS (length left) (omega (arith, less, size))) in
            ap (λ xs. filter (is_asked_in H) (requests_of c xs)) all ∙ ap (filter (is_asked_in H)) is ∙ own_heard own (λ q among. among)
            ∙ sym (cond-true (nat_lt (length own) MAX_REQUESTS) own (drop 1 own) t)
        | inr t ↦
            let more = ltb_more t in
            let all = cond-true (nat_le MAX_REQUESTS (length left)) (drop 1 left) left (le-leb MAX_REQUESTS (length left) (omega (arith, more, size))) in
            ap (λ xs. filter (is_asked_in H) (requests_of c xs)) all ∙ ap (filter (is_asked_in H)) (map-drop (request_of c) left ∙ ap (drop 1) is)
            ∙ own_heard (drop 1 own) (λ q among. among_drop q own among)
            ∙ sym (cond-false (nat_lt (length own) MAX_REQUESTS) own (drop 1 own) t)
      ]
    where
      asked_heard : (q : Request) → Among q own → is_asked_in H q ≡ true
      asked_heard q among =
          let there = filtered-among (is_asked_by c) q s.world.requests among in
          (and_parts (H q.asker) (H q.asked) (all-pass (is_heard_in H) s.world.requests swept q there.0)).1

      among_drop : (q : Request) (xs : List Request) → Among q (drop 1 xs) → Among q xs
      among_drop q [] among = absurd among
      among_drop q (x ∷ xs) among = inr among

      ltb_less : nat_lt (length own) MAX_REQUESTS ≡ true → length own < MAX_REQUESTS
      ltb_less t = elim (cases_lt (length own) MAX_REQUESTS) [ inl l ↦ l | inr l ↦ absurd (true≢false (sym t ∙ le-ltb (length own) MAX_REQUESTS l)) ]

      ltb_more : nat_lt (length own) MAX_REQUESTS ≡ false → MAX_REQUESTS ≤ length own
      ltb_more t = elim (cases_lt (length own) MAX_REQUESTS) [ inl l ↦ absurd (true≢false (sym (lt-ltb (length own) MAX_REQUESTS l) ∙ t)) | inr l ↦ l ]

  -- the new one is of opened connections
  named_append : (rs : List Request) (r : Request) → AreNamed s.connections rs → IsNamed s.connections r → AreNamed s.connections (rs ++ r ∷ [])
  named_append [] r named n = (n, tt)
  named_append (q ∷ qs) r named n = (named.0, named_append qs r named.1 n)

  named_after : IsOpenedAt d s → AreNamed s.connections s.world.requests → AreNamed s.connections after
  named_after opened named = subst (AreNamed s.connections) (sym after_is) (named_append before new named_before (record {
    asker = λ none. (let no : ◌≡◌ {A = Option RelayConnection} None (Some k) = sym none ∙ heard.found in cc);
    asked = opened;
  }))
    where
      named_before : AreNamed s.connections before
      named_before = elim (cases_Bool (nat_lt (length own) MAX_REQUESTS))
          [ inl t ↦ rw t named | inr t ↦ rw t (named_without s.connections (is_asked_by c) s.world.requests named) ]

-- those that are heard, as the code keeps them
pub heard_kept : (es : Outlets) (b : List ℕ) (s : RelayState) (n : ℕ) (asked : List Asked) → Carries es b s.connections
    → requests_of n (filter (is_asked_heard es) asked)
    ≡ filter (is_asked_in (hearing s.connections)) (requests_of n asked)
heard_kept es b s n asked h =
    sym (filter-map (request_of n) (is_asked_in (hearing s.connections)) asked
    ∙ (λ i. map (request_of n) (filter (λ a. sym (open_is es b s.connections a.asked h) i) asked)))

own_filtered : (k : RelayConnection) (ks : List RelayConnection) (P : Asked → Bool) (asked : List Asked) → AreOwn k ks asked → AreOwn k ks (filter P asked)
own_filtered k ks P [] own = tt
own_filtered k ks P (a ∷ more) own = elim (cases_Bool (P a)) [
  | inl t ↦ subst (AreOwn k ks) (sym (filter-yes P a more t)) (own.0, own_filtered k ks P more own.1)
  | inr t ↦ subst (AreOwn k ks) (sym (filter-no P a more t)) (own_filtered k ks P more own.1)
]

own_with_room : (k : RelayConnection) (ks : List RelayConnection) (asked : List Asked) → AreOwn k ks asked → AreOwn k ks (with_room asked)
own_with_room k ks asked own = elim (cases_Bool (nat_le MAX_REQUESTS (length asked))) [
  | inl t ↦ rw t (dropped asked own)
  | inr t ↦ rw t own
]
  where
    dropped : (xs : List Asked) → AreOwn k ks xs → AreOwn k ks (drop 1 xs)
    dropped [] own = tt
    dropped (x ∷ xs) own = own.1

own_pushed : (k : RelayConnection) (ks : List RelayConnection) (asked : List Asked) (a : Asked)
    → AreOwn k ks asked → IsOwn k ks a → AreOwn k ks (asked ++ a ∷ [])
own_pushed k ks [] a own one = (one, tt)
own_pushed k ks (x ∷ xs) a own one = (own.0, own_pushed k ks xs a own.1 one)

room_left : (xs : List Asked) → length xs ≤ MAX_REQUESTS → length (with_room xs) + 1 ≤ MAX_REQUESTS
room_left xs most = elim (cases_lt (length xs) MAX_REQUESTS) [
  | inl less ↦ let e = ap length (cond-false (nat_le MAX_REQUESTS (length xs)) (drop 1 xs) xs (lt-leb MAX_REQUESTS (length xs) less)) in omega (arith, e, less)
  | inr full ↦
      let e = ap length (cond-true (nat_le MAX_REQUESTS (length xs)) (drop 1 xs) xs (le-leb MAX_REQUESTS (length xs) full)) in
      let d = length-drop 1 xs in
      omega (arith, e, d, most, full)
]

-- one more of those that pass
pub kept_more : (P : Asked → Bool) (xs : List Asked) (i : ℕ) (a : Asked) (ys zs : List Asked)
    → i < length xs → a ≡ get_or xs i a → ys ≡ filter P (take i xs) → zs ≡ (if P a then ys ++ a ∷ [] else ys)
    → zs ≡ filter P (take (i + 1) xs)
kept_more P xs i a ys zs within at before more =
    let longer : take (i + 1) xs ≡ take i xs ++ a ∷ [] =
    take_more xs i a within ∙ ap (λ (x : Asked). take i xs ++ x ∷ []) (sym at) in
    let last : (if P a then ys ++ a ∷ [] else ys) ≡ ys ++ filter P (a ∷ []) =
    elim (cases_Bool (P a)) [ inl t ↦ rw t refl | inr t ↦ rw t (sym (append-nil ys)) ] in
    more ∙ last ∙ ap (λ zs. zs ++ filter P (a ∷ [])) before ∙ sym (filter-append P (take i xs) (a ∷ [])) ∙ ap (filter P) (sym longer)

-- what was left of the queue: all where there was room, else what with_room leaves of those that are heard
abbrev pub IsLeft : Outlets → List Asked → List Asked → Type 0
IsLeft es asked left = ((length asked < MAX_REQUESTS) × (left ≡ asked)) ⊎ (left ≡ with_room (filter (is_asked_heard es) asked))

-- whichever it was: the asker's queue before, what is kept of it, and one more
pub remembers : (i : ℕ) (old mid : Router) (b : List ℕ) (s : RelayState) (c d : ℕ) (k : RelayConnection)
    (head : AmsHeader) (p q : Peer) (left : List Asked) (a : Asked) → Holds old b s → IsSwept s → IsHeardAt c k s
    → IsOpenedAt d s → k.client ≡ Some head.source.net → (head.command == DEVICE_NOTIFICATION) ≡ false
    → IsEntry old.outlets c i → slice_get old.peers.items i ≡ Some p
    → mid.routes ≡ old.routes → mid.outlets ≡ old.outlets → mid.owners ≡ old.owners → mid.counts ≡ old.counts → mid.peers.items ≡ set old.peers.items i q
    → q.owned ≡ p.owned → q.asked.items ≡ left ++ a ∷ [] → request_of c a ≡ request_from c d head → a.asked ≡ d → a.source.net.bytes ≡ head.source.net
    → IsLeft old.outlets p.asked.items left → Holds mid b (with_request_of c d head s)
remembers i old mid b s c d k head p q left a h swept heard opened client asks entry value
    routes outlets owners counts peers owns asked is asked_is source_is rest =
    let at_q = peers_after c i b p q old mid s h entry value outlets peers owns in
    subst (Holds mid b) (sym
    (cond-false (head.command == DEVICE_NOTIFICATION) s (with_requests (with_request (request_from c d head) s.world.requests) s) asks)) (record {
      outlets = subst (λ es. Carries es b s.connections) (sym outlets) h.outlets;
      known = record {
        routes = λ net. ap (rights_of net) routes ∙ h.known.routes net;
        peers = at_q.column;
        owners = subst (λ os. HoldsOwners os s.connections) (sym (ap (λ o. o.entries) owners)) h.known.owners;
        requests = λ m x l at conn heard_l. elim (cases_eq m c) [
          | inl e ↦
              let x_is : x ≡ q = some_same x q (sym (ap (peers_in mid) (sym e) ∙ at) ∙ at_q.sets.own) in
              let l_is : l ≡ k = some_same l k (sym conn ∙ ap (λ j. connection_of j s.connections) e ∙ heard.found) in
              subst (λ j. HoldsAsked x.asked.items j l after) (sym e)
              (subst (λ (y : Peer). HoldsAsked y.asked.items c l after) (sym x_is)
              (subst (λ y. HoldsAsked q.asked.items c y after) (sym l_is)
              (subst (λ ys. HoldsAsked ys c k after) (sym asked) own)))
          | inr ne ↦
              let before = h.known.requests m x l (sym (at_q.sets.others m ne) ∙ at) conn heard_l in
              record { same = before.same ∙ sym (other_after s swept c d k heard head m ne); own = before.own; few = before.few }
        ];
        named = named_after s swept c d k heard head opened h.known.named;
        counts = ap counts_in counts ∙ h.known.counts;
        routed = h.known.routed;
      };
    })
  where
    after : RelayState
    after = with_requests (with_request (request_from c d head) s.world.requests) s

    held : HoldsAsked p.asked.items c k s
    held = h.known.requests c p k (peer_at c i b p old s h entry value) heard.found heard.heard

    one : IsOwn k s.connections a
    one = record {
      source = client ∙ ap (λ (x : List ℕ). Some x) (sym source_is);
      opened = λ none. opened (ap (λ j. connection_of j s.connections) (sym asked_is) ∙ none);
    }

    pushed : (xs : List Asked) → length (xs ++ a ∷ []) ≡ length xs + 1
    pushed xs = length-append xs (a ∷ [])

    own : HoldsAsked (left ++ a ∷ []) c k after
    own = by rest
      where
        by : IsLeft old.outlets p.asked.items left → HoldsAsked (left ++ a ∷ []) c k after
        by (inl room) = (let size = pushed left in let left_is = room.1 in record {
          same = queued_after s swept c d k heard head left a is
              (ap (λ xs. filter (is_asked_in (hearing s.connections)) (requests_of c xs)) room.1
              ∙ kept_with_room s swept c d k heard head p.asked.items held room.0);
          own = own_pushed k s.connections left a (subst (AreOwn k s.connections) (sym room.1) held.own) one;
          few = (let sizes = ap length room.1 in let less = room.0 in omega (arith, size, sizes, less));
        })
        by (inr none) = (
            let mine = heard_kept old.outlets b s c p.asked.items h.outlets ∙ held.same ∙ ap (filter (is_asked_by c)) swept in
            let heard_only = filter (is_asked_heard old.outlets) p.asked.items in
            let few = length-filter (is_asked_heard old.outlets) p.asked.items in
            let most = held.few in
            let less = room_left heard_only (omega (arith, few, most)) in
            let sizes = ap length none in
            let size = pushed left in
            record {
              same = queued_after s swept c d k heard head left a is
                  (ap (λ xs. filter (is_asked_in (hearing s.connections)) (requests_of c xs)) none
                  ∙ kept_without_room s swept c d k heard head p.asked.items heard_only held mine);
              own = own_pushed k s.connections left a
                  (subst (AreOwn k s.connections) (sym none)
                  (own_with_room k s.connections heard_only (own_filtered k s.connections (is_asked_heard old.outlets) p.asked.items held.own))) one;
              few = omega (arith, few, most, less, sizes, size);
            })
