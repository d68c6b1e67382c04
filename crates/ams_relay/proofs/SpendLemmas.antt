-- The oldest request that a response answers, in the queue of its asker and among all of the machine.
use Rattle.std.proofs.Common.{◌≡◌, ◌≢◌, ℕ, zero, suc, ◌<◌, ◌≤◌, List, [], ◌∷◌, length, Bool, true, refl, sym, ap, ◌∙◌, subst, inl, inr, arith}
use Rattle.std.specs.Prelude.{Option, Some, None, filter, find, remove, set, slice_get, position}
use Rattle.std.proofs.lemmas.Bool.{cases_eq, and_parts}
use Rattle.std.proofs.lemmas.List.Quantifiers.{position-Some}
use Rattle.spec_formats.specs.Header.{AmsHeader}
use Rattle.spec_machine.specs.Connection.{connection_of}
use Rattle.spec_machine.proofs.Find.{test_same, test_other}
use Rattle.spec_relay.specs.RelayState.{Request, RelayConnection, RelayState, is_heard_among}
use Rattle.spec_relay.specs.Requests.{requests_heard, is_answered_by, request_answered, without_first, is_asked_by}
use Rattle.spec_relay.specs.Routing.{with_requests}
use Rattle.spec_relay.proofs.AnswerLemmas.{answered-is}
use Rattle.ams_relay.specs.declared.asked.Asked.{Asked}
use Rattle.ams_relay.specs.declared.peer.Peer.{Peer}
use Rattle.ams_relay.specs.declared.router.Router.{Router}
use Rattle.spec_plant.specs.Rights.{rights_of}
use Rattle.ams_relay.specs.Counts.{counts_in}
use Rattle.ams_relay.specs.Asking.{request_of, requests_of}
use Rattle.connections.specs.Carries.{Carries}
use Rattle.connections.specs.Entries.{IsEntry}
use Rattle.ams_relay.specs.Holds.{IsOwner, AreOwn, HoldsAsked, HoldsOwners, Holds, owner_in}
use Rattle.ams_relay.specs.Peers.{peers_in}
use Rattle.ams_relay.specs.Taking.{IsHeardAt, IsSwept, SpendsOne}
use Rattle.ams_relay.proofs.OwnLemmas.{peer_kept, peer_at, peers_after}
use Rattle.ams_relay.proofs.ListLemmas.{Among, all-pass, among-filtered, filtered-among, filter-all}
use Rattle.ams_relay.proofs.ListLemmas.{filter-without, filter-without-other, find-found, find-filter}
use Rattle.ams_relay.proofs.ListLemmas.{find-none, find-position, find-nowhere, without-among}
use Rattle.ams_relay.proofs.HoldLemmas.{named_without}
use Rattle.ams_relay.proofs.OwnerLemmas.{some_same}
use Rattle.ams_relay.proofs.RequestLemmas.{hearing, is_heard_in, is_asked_in, heard_found, heard_there, heard_parts}

-- the facts of a response's request
record Answers (c : ℕ) (h : AmsHeader) (r : Request) : Type 0 where
  pub asked : r.asked ≡ c
  pub net : r.source.net ≡ h.target.net

answers_is : (c : ℕ) (h : AmsHeader) (r : Request) → is_answered_by c h r ≡ true → Answers c h r
answers_is c h r e =
    let is = answered-is c h r e in
    record { asked = sym (ap (λ (q : Request). q.asked) is); net = sym (ap (λ (q : Request). q.source.net) is) }

-- where the oldest request stands that a response answers
abbrev pub position_in : AmsHeader → ℕ → List Asked → Option ℕ
position_in h c asked = position (λ (a : Asked). is_answered_by c h (request_of 0 a)) asked

pub place_within : (T : Asked → Bool) (asked : List Asked) (i : ℕ) → position T asked ≡ Some i → i < length asked
place_within T [] i e = absurd (let no : ◌≡◌ {A = Option ℕ} None (Some i) = e in cc)
place_within T (a ∷ more) i e = (position-Some T (a ∷ more) i a e).0

-- a request whose source its asker owns
source_of : (k : RelayConnection) (ks : List RelayConnection) (n : ℕ) (asked : List Asked)
    → AreOwn k ks asked → (r : Request) → Among r (requests_of n asked) → k.client ≡ Some r.source.net
source_of k ks n [] own r among = absurd among
source_of k ks n (a ∷ more) own r (inl e) = own.0.source ∙ ap (λ (x : Request). Some x.source.net) e
source_of k ks n (a ∷ more) own r (inr among) = source_of k ks n more own.1 r among

module _ (r : Router) (b : List ℕ) (s : RelayState) (h : Holds r b s) (swept : IsSwept s) where
  -- whoever asked a request that waits owns its source
  owner_of_request : (q : Request) → Among q s.world.requests → IsOwner q.source.net q.asker s.connections
  owner_of_request q among =
      let both = and_parts (is_heard_among q.asker s.connections) (is_heard_among q.asked s.connections)
      (all-pass (is_heard_in (hearing s.connections)) s.world.requests swept q among) in
      let there = heard_there q.asker s.connections both.0 in
      let parts = heard_parts there.connection there.heard in
      let kept = peer_kept q.asker b there.connection r s h there.found parts.1 in
      let a = h.known.requests q.asker kept.peer there.connection kept.found there.found there.heard in
      let mine = among-filtered (is_asked_by q.asker) q s.world.requests among (test_same q.asker q.asker refl) in
      let heard = subst (Among q) (ap (filter (is_asked_by q.asker)) (sym swept) ∙ sym a.same) mine in
      let own = (filtered-among (is_asked_in (hearing s.connections)) q (requests_of q.asker kept.peer.asked.items) heard).0 in
      record {
        connection = there.connection;
        found = there.found;
        heard = there.heard;
        client = source_of there.connection s.connections q.asker kept.peer.asked.items a.own q own;
      }

  -- the asker of a response's request is the owner of its target
  asker_is_owner : (c : ℕ) (head : AmsHeader) (q : Request) → Among q s.world.requests
      → is_answered_by c head q ≡ true → owner_in head.target.net r.owners.entries ≡ Some q.asker
  asker_is_owner c head q among e =
      let facts = answers_is c head q e in
      ap (λ net. owner_in net r.owners.entries) (sym facts.net) ∙ h.known.owners.owners q.source.net q.asker (owner_of_request q among)

  -- nobody owns the target
  pub none_owned : (c : ℕ) (head : AmsHeader) → owner_in head.target.net r.owners.entries ≡ None → request_answered c head s.world.requests ≡ None
  none_owned c head none = find-none (is_answered_by c head) s.world.requests (λ q e.
      let found = find-found (is_answered_by c head) s.world.requests q e in
      (let no : ◌≡◌ {A = Option ℕ} None (Some q.asker) = sym none ∙ asker_is_owner c head q found.1 found.0 in cc))

  module _ (c : ℕ) (k : RelayConnection) (heard : IsHeardAt c k s) (head : AmsHeader) (a : ℕ) (owned : owner_in head.target.net r.owners.entries ≡ Some a) where
    abbrev test : Request → Bool
    test = is_answered_by c head

    asker_is : (q : Request) → Among q s.world.requests → test q ≡ true → q.asker ≡ a
    asker_is q among e = sym (some_same a q.asker (sym owned ∙ asker_is_owner c head q among e))

    mine : (q : Request) → Among q s.world.requests → test q ≡ true → is_asked_by a q ≡ true
    mine q among e = test_same q.asker a (asker_is q among e)

    asked_heard : (q : Request) → test q ≡ true → is_asked_in (hearing s.connections) q ≡ true
    asked_heard q e = ap (λ j. is_heard_among j s.connections) (answers_is c head q e).asked ∙ heard_found c k s.connections heard.found ∙ heard.heard

    -- the machine finds it in the queue of its asker
    found_in_queue : (asked : List Asked) (l : RelayConnection) → HoldsAsked asked a l s
        → request_answered c head s.world.requests ≡ find test (requests_of a asked)
    found_in_queue asked l held =
        sym (find-filter (is_asked_by a) test s.world.requests mine)
        ∙ ap (λ rs. find test (filter (is_asked_by a) rs)) (sym swept)
        ∙ ap (find test) (sym held.same)
        ∙ find-filter (is_asked_in (hearing s.connections)) test (requests_of a asked) (λ q among e. asked_heard q e)

    abbrev rest : List Request
    rest = without_first test s.world.requests

    -- what is left is heard
    rest_swept : requests_heard s.connections rest ≡ rest
    rest_swept = filter-all (is_heard_in (hearing s.connections)) rest
        (λ q among. all-pass (is_heard_in (hearing s.connections)) s.world.requests swept q (without-among test q s.world.requests among))

    -- the queue of its asker without it
    spent_own : (asked left : List Asked) (l : RelayConnection) → HoldsAsked asked a l s
        → requests_of a left ≡ without_first test (requests_of a asked) → AreOwn l s.connections left → length left ≤ length asked
        → HoldsAsked left a l (with_requests rest s)
    spent_own asked left l held is own fewer = record {
      same = ap (filter (is_asked_in (hearing s.connections))) is
          ∙ filter-without (is_asked_in (hearing s.connections)) test (requests_of a asked) (λ q among e. asked_heard q e)
          ∙ ap (without_first test) (held.same ∙ ap (filter (is_asked_by a)) swept)
          ∙ sym (filter-without (is_asked_by a) test s.world.requests mine)
          ∙ ap (filter (is_asked_by a)) (sym rest_swept);
      own = own;
      few = omega (arith, held.few, fewer);
    }

    -- all other queues
    spent_other : (asked : List Asked) (m : ℕ) (l : RelayConnection) → m ≢ a → HoldsAsked asked m l s → HoldsAsked asked m l (with_requests rest s)
    spent_other asked m l ne held = record {
      same = held.same ∙ ap (filter (is_asked_by m)) swept
          ∙ sym (filter-without-other (is_asked_by m) test s.world.requests (λ q among e. test_other q.asker m (λ f. ne (sym f ∙ asker_is q among e))))
          ∙ ap (filter (is_asked_by m)) (sym rest_swept);
      own = held.own;
      few = held.few;
    }

    -- the owner is heard
    owner : IsOwner head.target.net a s.connections
    owner = h.known.owners.owned head.target.net a owned

    -- its queue, and the peer that was found
    queue : (p : Peer) → peers_in r a ≡ Some p → HoldsAsked p.asked.items a owner.connection s
    queue p at = h.known.requests a p owner.connection at owner.found owner.heard

    pub none_waits : (p : Peer) → peers_in r a ≡ Some p
        → position (λ x. test (request_of a x)) p.asked.items ≡ None → request_answered c head s.world.requests ≡ None
    none_waits p at none = found_in_queue p.asked.items owner.connection (queue p at) ∙ find-nowhere (request_of a) test p.asked.items none

    own_removed : (l : RelayConnection) (ks : List RelayConnection) (asked : List Asked) (i : ℕ) → AreOwn l ks asked → AreOwn l ks (remove asked i)
    own_removed l ks [] zero own = tt
    own_removed l ks [] (suc i) own = tt
    own_removed l ks (x ∷ xs) zero own = own.1
    own_removed l ks (x ∷ xs) (suc i) own = (own.0, own_removed l ks xs i own.1)

    length_removed : (asked : List Asked) (i : ℕ) → length (remove asked i) ≤ length asked
    length_removed [] zero = omega arith
    length_removed [] (suc i) = omega arith
    length_removed (x ∷ xs) zero = omega arith
    length_removed (x ∷ xs) (suc i) = let rest = length_removed xs i in omega (arith, rest)

    pub spends : (i : ℕ) (new : Router) (p q : Peer) (at : ℕ) → IsEntry r.outlets a i → slice_get r.peers.items i ≡ Some p
        → new.routes ≡ r.routes → new.outlets ≡ r.outlets → new.owners ≡ r.owners → new.counts ≡ r.counts → new.peers.items ≡ set r.peers.items i q
        → q.owned ≡ p.owned → q.asked.items ≡ remove p.asked.items at
        → position (λ x. test (request_of a x)) p.asked.items ≡ Some at → SpendsOne a c head new b s
    spends i new p q at entry value routes outlets owners counts peers owns asked e =
        let found = find-position (request_of a) test p.asked.items at e in
        let was = peer_at a i b p r s h entry value in
        let held = queue p was in
        let left = q.asked.items in
        let left_is : requests_of a left ≡ without_first test (requests_of a p.asked.items) = ap (requests_of a) asked ∙ found.2 in
        let fewer : length left ≤ length p.asked.items = (let l = length_removed p.asked.items at in let same = ap length asked in omega (arith, l, same)) in
        let after = peers_after a i b p q r new s h entry value outlets peers owns in
        record {
          request = request_of a found.0;
          answered = found_in_queue p.asked.items owner.connection held ∙ found.1;
          asked = refl;
          holds = record {
            outlets = subst (λ es. Carries es b s.connections) (sym outlets) h.outlets;
            known = record {
              routes = λ net. ap (rights_of net) routes ∙ h.known.routes net;
              peers = after.column;
              owners = subst (λ os. HoldsOwners os s.connections) (sym (ap (λ o. o.entries) owners)) h.known.owners;
              requests = λ m x l is conn heard_l. elim (cases_eq m a) [
                | inl same ↦
                    let x_is : x ≡ q = some_same x q (sym (ap (peers_in new) (sym same) ∙ is) ∙ after.sets.own) in
                    let l_is : l ≡ owner.connection = some_same l owner.connection (sym conn ∙ ap (λ j. connection_of j s.connections) same ∙ owner.found) in
                    subst (λ j. HoldsAsked x.asked.items j l (with_requests rest s)) (sym same)
                    (subst (λ (y : Peer). HoldsAsked y.asked.items a l (with_requests rest s)) (sym x_is)
                    (subst (λ y. HoldsAsked left a y (with_requests rest s)) (sym l_is)
                    (spent_own p.asked.items left owner.connection held left_is
                    (subst (AreOwn owner.connection s.connections) (sym asked) (own_removed owner.connection s.connections p.asked.items at held.own)) fewer)))
                | inr ne ↦ spent_other x.asked.items m l ne (h.known.requests m x l (sym (after.sets.others m ne) ∙ is) conn heard_l)
              ];
              named = named_without s.connections test s.world.requests h.known.named;
              counts = ap counts_in counts ∙ h.known.counts;
              routed = h.known.routed;
            };
          };
        }
