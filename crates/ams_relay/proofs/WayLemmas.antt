-- A packet goes its way: what the router keeps stands for the state after it.
use Rattle.std.proofs.Common.{◌≡◌, ℕ, ◌+◌, List, length, Bool, true, false, cond, not, refl, sym, ap, ◌∙◌, subst, inl, inr, arith}
use Rattle.std.specs.Prelude.{Option, Some, None, option_map, ◌==◌, ◌%◌, ◌&&◌, ◌||◌, is_some, filter}
use Rattle.std.proofs.lemmas.Bool.{cases_eq, true≢false}
use Rattle.spec_plant.specs.Rights.{rights_of}
use Rattle.spec_formats.specs.Commands.{DEVICE_NOTIFICATION}
use Rattle.spec_formats.specs.Header.{AmsHeader, header_of, payload_of}
use Rattle.spec_machine.specs.Connection.{connection_of, with_closing, with_frame}
use Rattle.spec_machine.specs.Piece.{with_client}
use Rattle.spec_machine.specs.Summary.{count_of}
use Rattle.spec_relay.specs.RelayState.{Request, RelayWorld, RelayConnection, RelayState, is_heard_among, owner_of}
use Rattle.spec_relay.specs.RelaySummary.{RelaySummary as CountsOfState, relay_summary_of}
use Rattle.spec_relay.specs.Requests.{requests_heard, is_answered_by, request_answered, without_first}
use Rattle.spec_relay.specs.Checks.{is_closed_by, is_taken_net}
use Rattle.spec_relay.specs.Routing.{RelayOutcome, at_connection, framed, has_room, given_to, with_passed, with_unknown, with_requests}
use Rattle.spec_relay.specs.Routing.{not_found_packet, with_request_of, with_owner}
use Rattle.spec_relay.specs.Routing.{outcome_of_unknown, outcome_of_response, outcome_of_request, outcome_by_header}
use Rattle.spec_relay.proofs.ChangeLemmas.{changed-own, changed-other, world-change}
use Rattle.ams_relay.specs.declared.router.Router.{Router}
use Rattle.ams_relay.specs.Counts.{counts_in}
use Rattle.ams_relay.specs.Holds.{Holds}
use Rattle.ams_relay.specs.Taking.{IsHeardAt, IsOpenedAt, IsSwept, number_of, SpendsOne, SpendsNone, is_refused}
use Rattle.ams_relay.proofs.OwnerLemmas.{some_same}
use Rattle.ams_relay.proofs.GiveLemmas.{given_as_frame}
use Rattle.ams_relay.proofs.RequestLemmas.{heard_changed}
use Rattle.ams_relay.proofs.StateLemmas.{frame_quiet}

-- the counts alone change, of the router and of the state
recounted : (old new : Router) (b : List ℕ) (s : RelayState) (passed unknown : ℕ)
    → (let u : RelayState = record s { world = record s.world { passed = passed; unknown = unknown } } in
    new ≡ record old { counts = new.counts } → counts_in new.counts ≡ relay_summary_of u → Holds old b s → Holds new b u)
recounted old new b s passed unknown same counts h =
    let u : RelayState = record s { world = record s.world { passed = passed; unknown = unknown } } in
    subst (λ (r : Router). Holds r b u) (sym same) (record {
      outlets = h.outlets;
      known = record {
        routes = h.known.routes;
        peers = h.known.peers;
        owners = h.known.owners;
        requests = λ n p k at found heard. (let a = h.known.requests n p k at found heard in record { same = a.same; own = a.own; few = a.few });
        named = h.known.named;
        counts = counts;
        routed = h.known.routed;
      };
    })

-- one more frame was given to a connection, or has an unknown target
pub passed_counted : (old new : Router) (b : List ℕ) (s : RelayState) → new ≡ record old { counts = new.counts }
    → new.counts ≡ (let t = old.counts in record t { passed = count_of (t.passed + 1) })
    → Holds old b s → Holds new b (with_passed s)
passed_counted old new b s same counts h = recounted old new b s (s.world.passed + 1) s.world.unknown same (ap counts_in counts ∙ counted) h
  where
    more : count_of (old.counts.passed + 1) ≡ count_of (s.world.passed + 1)
    more = let before : old.counts.passed ≡ count_of s.world.passed = ap (λ (x : CountsOfState). x.passed) h.known.counts in omega (arith, before)

    counted : counts_in (let t = old.counts in record t { passed = count_of (t.passed + 1) }) ≡ relay_summary_of (with_passed s)
    counted = λ i. (let c = h.known.counts i in record { connections = c.connections; frames = c.frames; passed = more i; unknown = c.unknown })

pub unknown_counted : (old new : Router) (b : List ℕ) (s : RelayState) → new ≡ record old { counts = new.counts }
    → new.counts ≡ (let t = old.counts in record t { unknown = count_of (t.unknown + 1) })
    → Holds old b s → Holds new b (with_unknown s)
unknown_counted old new b s same counts h = recounted old new b s s.world.passed (s.world.unknown + 1) same (ap counts_in counts ∙ counted) h
  where
    more : count_of (old.counts.unknown + 1) ≡ count_of (s.world.unknown + 1)
    more = let before : old.counts.unknown ≡ count_of s.world.unknown = ap (λ (x : CountsOfState). x.unknown) h.known.counts in omega (arith, before)

    counted : counts_in (let t = old.counts in record t { unknown = count_of (t.unknown + 1) }) ≡ relay_summary_of (with_unknown s)
    counted = λ i. (let c = h.known.counts i in record { connections = c.connections; frames = c.frames; passed = c.passed; unknown = more i })

-- a frame of a notification is not answered, any other is
pub unknown_silent : (c : ℕ) (head : AmsHeader) (new : Router) (b : List ℕ) (s : RelayState)
    → (head.command == DEVICE_NOTIFICATION) ≡ true → Holds new b (with_unknown s) → Holds new b (outcome_of_unknown c head s).after
unknown_silent c head new b s t h = rw t h

pub unknown_told : (c : ℕ) (head : AmsHeader) (new : Router) (b : List ℕ) (s : RelayState) → (head.command == DEVICE_NOTIFICATION) ≡ false
    → Holds new b (given_to c (not_found_packet head) (with_unknown s)) → Holds new b (outcome_of_unknown c head s).after
unknown_told c head new b s t h = rw t h

-- the state after one of two outcomes
after_one : (t : Bool) (x y : RelayOutcome) (new : Router) (b : List ℕ) → Holds new b (cond t x.after y.after) → Holds new b (cond t x y).after
after_one true x y new b h = h
after_one false x y new b h = h

-- a response that answers no request
pub response_dropped : (c : ℕ) (head : AmsHeader) (packet : List ℕ) (new : Router) (b : List ℕ) (s : RelayState) → SpendsNone c head new b s
    → Holds new b (outcome_of_response c head packet s (request_answered c head s.world.requests)).after
unfolding outcome_of_response
response_dropped c head packet new b s none = subst (λ o. Holds new b (outcome_of_response c head packet s o).after) (sym none.none) none.holds

-- a response to the asker of its request
pub response_given : (c asker : ℕ) (head : AmsHeader) (packet : List ℕ) (mid new : Router) (b : List ℕ) (s : RelayState) (fitted : Bool)
    → SpendsOne asker c head mid b s
    → ((t : RelayState) → Holds mid b t → (fitted ≡ has_room (framed packet) (connection_of asker t.connections))
    × Holds new b (cond fitted (with_passed (given_to asker packet t)) (given_to asker packet t)))
    → Holds new b (outcome_of_response c head packet s (request_answered c head s.world.requests)).after
unfolding outcome_of_response
response_given c asker head packet mid new b s fitted one give =
    subst (λ o. Holds new b (outcome_of_response c head packet s o).after) (sym one.answered)
    (after_one (has_room (framed packet) (connection_of one.request.asker s.connections)) _ _ new b
    (subst (λ a. Holds new b (after a (has_room (framed packet) (connection_of a s.connections)))) (sym one.asked)
    (subst (λ t. Holds new b (after asker t)) given.0 given.1)))
  where
    spent : RelayState
    spent = with_requests (without_first (is_answered_by c head) s.world.requests) s

    after : ℕ → Bool → RelayState
    after a t = cond t (with_passed (given_to a packet spent)) (given_to a packet spent)

    given : (fitted ≡ has_room (framed packet) (connection_of asker s.connections)) × Holds new b (after asker fitted)
    given = give spent one.holds

-- nobody owns the target
pub request_unknown : (c : ℕ) (head : AmsHeader) (packet : List ℕ) (new : Router) (b : List ℕ) (s : RelayState)
    → None ≡ option_map number_of (owner_of head.target.net s.connections) → Holds new b (outcome_of_unknown c head s).after
    → Holds new b (outcome_of_request c head packet s (owner_of head.target.net s.connections)).after
unfolding outcome_of_request
request_unknown c head packet new b s none h = by (owner_of head.target.net s.connections) none
  where
    by : (o : Option RelayConnection) → None ≡ option_map number_of o → Holds new b (outcome_of_request c head packet s o).after
    by None e = h
    by (Some k) e = absurd (let no : ◌≡◌ {A = Option ℕ} None (Some k.number) = e in cc)

-- the owner of the target has room, or not
pub request_given : (c d : ℕ) (head : AmsHeader) (packet : List ℕ) (new : Router) (b : List ℕ) (s : RelayState) (fitted : Bool)
    → Some d ≡ option_map number_of (owner_of head.target.net s.connections)
    → fitted ≡ has_room (framed packet) (connection_of d s.connections)
    → (let given = given_to d packet s in Holds new b (cond fitted (with_passed (with_request_of c d head given)) (outcome_of_unknown c head given).after))
    → Holds new b (outcome_of_request c head packet s (owner_of head.target.net s.connections)).after
unfolding outcome_of_request
request_given c d head packet new b s fitted some room h = by (owner_of head.target.net s.connections) some
  where
    after : ℕ → Bool → RelayState
    after n t = cond t (with_passed (with_request_of c n head (given_to n packet s))) (outcome_of_unknown c head (given_to n packet s)).after

    by : (o : Option RelayConnection) → Some d ≡ option_map number_of o → Holds new b (outcome_of_request c head packet s o).after
    by None e = absurd (let no : ◌≡◌ {A = Option ℕ} (Some d) None = e in cc)
    by (Some k) e =
        after_one (has_room (framed packet) (connection_of k.number s.connections)) _ _ new b
        (subst (λ n. Holds new b (after n (has_room (framed packet) (connection_of n s.connections)))) (some_same d k.number e)
        (subst (λ t. Holds new b (after d t)) room h))

-- so the sender is heard behind it, what waits is swept, and the target was opened
pub record AfterGiven (c d : ℕ) (k : RelayConnection) (t : RelayState) : Type 0 where
  pub connection : RelayConnection
  pub heard : IsHeardAt c connection t
  pub client : connection.client ≡ k.client
  pub swept : IsSwept t
  pub opened : IsOpenedAt d t

pub after_given : (c d : ℕ) (packet : List ℕ) (k : RelayConnection) (s : RelayState)
    → IsHeardAt c k s → IsSwept s → has_room (framed packet) (connection_of d s.connections) ≡ true
    → AfterGiven c d k (given_to d packet s)
after_given c d packet k s heard swept room = subst (AfterGiven c d k) (sym (given_as_frame d packet s room)) (elim (cases_eq d c) [
  | inl e ↦ record {
    connection = with_frame (framed packet) k;
    heard = record {
      found = ap (λ j. connection_of j t.connections) (sym e) ∙ changed-own d (with_frame (framed packet)) (λ l. refl) s
          ∙ ap (option_map (with_frame (framed packet))) (ap (λ j. connection_of j s.connections) e ∙ heard.found);
      heard = heard.heard;
    };
    client = refl;
    swept = still;
    opened = there;
  }
  | inr ne ↦ record {
    connection = k;
    heard = record { found = changed-other d c (with_frame (framed packet)) (λ l. refl) ne s ∙ heard.found; heard = heard.heard };
    client = refl;
    swept = still;
    opened = there;
  }
])
  where
    t : RelayState
    t = at_connection d (with_frame (framed packet)) s

    still : IsSwept t
    still =
        let reqs = world-change d (with_frame (framed packet)) s in
        ap (λ (w : RelayWorld). requests_heard t.connections w.requests) reqs
        ∙ (λ i. filter (λ (r : Request). heard_changed d r.asker (with_frame (framed packet)) (frame_quiet packet).stays (λ k. refl) s i
        && heard_changed d r.asked (with_frame (framed packet)) (frame_quiet packet).stays (λ k. refl) s i) s.world.requests)
        ∙ swept ∙ sym (ap (λ (w : RelayWorld). w.requests) reqs)

    there : IsOpenedAt d t
    there none = at_d (connection_of d s.connections) refl room
      where
        at_d : (o : Option RelayConnection) → connection_of d s.connections ≡ o → has_room (framed packet) o ≡ true → ⊥
        at_d None e r = true≢false (sym r)
        at_d (Some l) e r =
            (let both : ◌≡◌ {A = Option RelayConnection} (Some (with_frame (framed packet) l)) None
            = sym (changed-own d (with_frame (framed packet)) (λ x. refl) s ∙ ap (option_map (with_frame (framed packet))) e) ∙ none in cc)

-- the sender is closed
pub header_closes : (c : ℕ) (packet : List ℕ) (k : RelayConnection) (head : AmsHeader) (new : Router) (b : List ℕ) (s : RelayState)
    → header_of packet ≡ Some head
    → is_closed_by (payload_of packet) head k s ≡ true → Holds new b (at_connection c with_closing s)
    → Holds new b (outcome_by_header c packet k s (header_of packet)).after
header_closes c packet k head new b s e closes h = subst (λ o. Holds new b (outcome_by_header c packet k s o).after) (sym e) (rw closes h)

-- it owns its source, and the packet goes its way
pub header_goes : (c : ℕ) (packet : List ℕ) (k : RelayConnection) (head : AmsHeader) (new : Router) (b : List ℕ) (s : RelayState) (response : Bool)
    → header_of packet ≡ Some head → is_closed_by (payload_of packet) head k s ≡ false → response ≡ (head.flags % 2 == 1)
    → (let owned = with_owner c head.source.net s in
    Holds new b (cond response (outcome_of_response c head packet owned (request_answered c head owned.world.requests))
    (outcome_of_request c head packet owned (owner_of head.target.net owned.connections))).after)
    → Holds new b (outcome_by_header c packet k s (header_of packet)).after
header_goes c packet k head new b s response e opens mark h =
    let owned = with_owner c head.source.net s in
    subst (λ o. Holds new b (outcome_by_header c packet k s o).after) (sym e)
    (rw opens (subst (λ t. Holds new b (cond t (outcome_of_response c head packet owned (request_answered c head owned.world.requests))
    (outcome_of_request c head packet owned (owner_of head.target.net owned.connections))).after) mark h))

-- the checks, one after another
pub closed_refused : (payload : List ℕ) (head : AmsHeader) (k : RelayConnection) (s : RelayState)
    → is_refused payload head s ≡ true → true ≡ is_closed_by payload head k s
closed_refused payload head k s e = by (not (head.len == length payload)) (not (is_some (rights_of head.source.net s.world.routes))) e
  where
    by : (x y : Bool) → (x || y) ≡ true → true ≡ cond x true (cond y true (is_taken_net head.source.net k s.connections))
    by true y e = refl
    by false true e = refl
    by false false e = absurd (true≢false (sym e))

pub closed_else : (payload : List ℕ) (head : AmsHeader) (k : RelayConnection) (s : RelayState)
    → is_refused payload head s ≡ false → is_taken_net head.source.net k s.connections ≡ is_closed_by payload head k s
closed_else payload head k s e = by (not (head.len == length payload)) (not (is_some (rights_of head.source.net s.world.routes))) e
  where
    by : (x y : Bool) → (x || y) ≡ false
        → is_taken_net head.source.net k s.connections ≡ cond x true (cond y true (is_taken_net head.source.net k s.connections))
    by true y e = absurd (true≢false e)
    by false true e = absurd (true≢false e)
    by false false e = refl

-- the sender owns its source, so it has a route
pub closed_owned : (payload : List ℕ) (head : AmsHeader) (k : RelayConnection) (s : RelayState)
    → is_taken_net head.source.net k s.connections ≡ false → is_some (rights_of head.source.net s.world.routes) ≡ true
    → not (head.len == length payload) ≡ is_closed_by payload head k s
closed_owned payload head k s own has =
    by (not (head.len == length payload)) (is_some (rights_of head.source.net s.world.routes)) (is_taken_net head.source.net k s.connections) has own
  where
    by : (x y t : Bool) → y ≡ true → t ≡ false → x ≡ cond x true (cond (not y) true t)
    by true y t e q = refl
    by false true false e q = refl
    by false true true e q = absurd (true≢false q)
    by false false t e q = absurd (true≢false (sym e))

-- a packet that is closed by none of the checks has a source with a route
pub has_route : (payload : List ℕ) (head : AmsHeader) (k : RelayConnection) (s : RelayState)
    → is_closed_by payload head k s ≡ false → is_some (rights_of head.source.net s.world.routes) ≡ true
has_route payload head k s e = by (not (head.len == length payload)) (is_some (rights_of head.source.net s.world.routes)) e
  where
    by : (x y : Bool) → cond x true (cond (not y) true (is_taken_net head.source.net k s.connections)) ≡ false → y ≡ true
    by true y q = absurd (true≢false q)
    by false true q = refl
    by false false q = absurd (true≢false q)

-- a packet that is closed by none of the checks has a source that is no other's
pub not_taken : (payload : List ℕ) (head : AmsHeader) (k : RelayConnection) (s : RelayState)
    → is_closed_by payload head k s ≡ false → is_taken_net head.source.net k s.connections ≡ false
not_taken payload head k s e = by (not (head.len == length payload)) (not (is_some (rights_of head.source.net s.world.routes))) e
  where
    by : (x y : Bool) → cond x true (cond y true (is_taken_net head.source.net k s.connections)) ≡ false → is_taken_net head.source.net k s.connections ≡ false
    by true y q = absurd (true≢false q)
    by false true q = absurd (true≢false q)
    by false false q = q

-- the state once the source is owned: its sender is heard, owns it, and what waits is swept
pub record AfterOwned (c : ℕ) (net : List ℕ) (t : RelayState) : Type 0 where
  pub connection : RelayConnection
  pub heard : IsHeardAt c connection t
  pub client : connection.client ≡ Some net
  pub swept : IsSwept t

pub after_owned : (c : ℕ) (net : List ℕ) (k : RelayConnection) (s : RelayState) → IsHeardAt c k s → IsSwept s → AfterOwned c net (with_owner c net s)
after_owned c net k s heard swept = record {
  connection = with_client (Some net) k;
  heard = record { found = changed-own c (with_client (Some net)) (λ l. refl) s ∙ ap (option_map (with_client (Some net))) heard.found; heard = heard.heard };
  client = refl;
  swept = ap (λ (w : RelayWorld). requests_heard (with_owner c net s).connections w.requests) reqs
      ∙ (λ i. filter (λ (r : Request). same r.asker i && same r.asked i) s.world.requests) ∙ swept ∙ sym (ap (λ (w : RelayWorld). w.requests) reqs);
}
  where
    reqs : (with_owner c net s).world ≡ s.world
    reqs = world-change c (with_client (Some net)) s

    same : (n : ℕ) → is_heard_among n (with_owner c net s).connections ≡ is_heard_among n s.connections
    same n = heard_changed c n (with_client (Some net)) (record { number = λ l. refl; gone = λ l. refl }) (λ l. refl) s
