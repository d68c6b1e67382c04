-- What becomes of offers and of connections that are writable leaves all that is kept beside the outlets.
use Rattle.std.proofs.Common.{◌≡◌, ℕ, ◌+◌, ◌≤◌, List, [], ◌∷◌, length, false, cond, refl, sym, ap, ◌∙◌, subst, inl, inr, append-nil}
use Rattle.std.specs.Prelude.{Option, Some, None}
use Rattle.std.specs.Map.{keys_of}
use Rattle.std.proofs.lemmas.Bool.{cases_Bool, cond-true, cond-false}
use Rattle.ads_outside.specs.declared.event.Event.TheVariants as event
use Rattle.ads_outside.specs.declared.moves.Move.TheVariants as move
use Rattle.ads_outside.specs.Wholes.{wholes}
use Rattle.ads_served.specs.Standing.{running_after_all, standing_after, standing_after_all}
use Rattle.spec_machine.specs.Connection.{connection_of}
use Rattle.spec_machine.specs.MachineState.{after_exchange}
use Rattle.spec_machine.specs.Moves.{with_took, state_after_move, state_after}
use Rattle.spec_machine.specs.Offers.{blocked_after_move, blocked_after}
use Rattle.spec_machine.specs.Running.{running_after}
use Rattle.spec_relay.specs.RelayState.{RelayConnection, RelayState}
use Rattle.spec_relay.specs.RelayMoves.{relay_after_event}
use Rattle.spec_relay.specs.Routing.{at_connection}
use Rattle.connections.specs.Carries.{Carries, IsStreamOf}
use Rattle.connections.specs.Outlets.{change_of, taken, emptied, freed, offer_among, run_among}
use Rattle.connections.proofs.MoveLemmas.{took_all, writable}
use Rattle.ams_tcp.specs.Held.{Held}
use Rattle.ams_relay.specs.declared.router.Relay.{Relay}
use Rattle.ams_relay.specs.declared.router.Router.{Router}
use Rattle.ams_relay.specs.Holds.{AreBeside, Knows}
use Rattle.ams_relay.specs.Relays.{RelayStanding, RelayRunning, StandsRunning, StandsFor, StandsAt, nothing_noted}
use Rattle.ams_relay.proofs.BesideLemmas.{beside_changed, beside_same}
use Rattle.ams_relay.proofs.CarryLemmas.{numbers_of, carry_took}
use Rattle.ams_relay.proofs.HoldLemmas.{knows_changed, knows_same}
use Rattle.ams_relay.proofs.StateLemmas.{Quiet}

-- bytes of one that is there are taken
abbrev took : ℕ → RelayConnection → RelayConnection
took m k = cond k.gone k (record k { bytes_taken = k.bytes_taken + m })

by_gone : {X : Type 0} (read : RelayConnection → X) (m : ℕ) (k : RelayConnection)
    → read (record k { bytes_taken = k.bytes_taken + m }) ≡ read k → read (took m k) ≡ read k
by_gone read m k same = elim (cases_Bool k.gone) [
  | inl t ↦ ap read (cond-true k.gone k (record k { bytes_taken = k.bytes_taken + m }) t)
  | inr t ↦ ap read (cond-false k.gone k (record k { bytes_taken = k.bytes_taken + m }) t) ∙ same
]

took_quiet : (m : ℕ) → Quiet (took m)
took_quiet m = record {
  stays = record {
    number = λ k. by_gone (λ (l : RelayConnection). l.number) m k refl;
    gone = λ k. by_gone (λ (l : RelayConnection). l.gone) m k refl;
  };
  client = λ k. by_gone (λ (l : RelayConnection). l.client) m k refl;
  closing = λ k. by_gone (λ (l : RelayConnection). l.closing) m k refl;
}

took_is : (n m : ℕ) (s : RelayState) → after_exchange (connection_of n s.connections) (with_took m) s ≡ at_connection n (took m) s
took_is n m s = go (connection_of n s.connections)
  where
    go : (o : Option RelayConnection) → after_exchange o (with_took m) s ≡ after_exchange o (λ x. record x { connection = took m x.connection }) s
    go None = refl
    go (Some k) = elim (cases_Bool k.gone) [ inl t ↦ rw t refl | inr t ↦ rw t refl ]

-- an offer is taken
knows_took : (n : ℕ) (offered : ℕ) (bytes : List ℕ) (r : Router) (s : RelayState) → Knows r s
    → Knows r (state_after_move relay_after_event s (move.Took n offered bytes))
unfolding state_after_move
knows_took n offered bytes r s h =
    subst (Knows r) (sym (took_is n (length bytes) s))
    (knows_changed n (took (length bytes)) r r s (took_quiet (length bytes)) (λ k. by_gone (λ (l : RelayConnection). l.frames_taken) (length bytes) k refl)
    (record { routes = refl; numbers = refl; peers = refl; owners = refl }) refl h)

streams_took : (n : ℕ) (offered : ℕ) (bytes : List ℕ) (relay : Relay) (s : RelayState)
    → AreBeside IsStreamOf relay.router.outlets relay.streams.items s.connections
    → AreBeside IsStreamOf relay.router.outlets relay.streams.items (state_after_move relay_after_event s (move.Took n offered bytes)).connections
unfolding state_after_move
streams_took n offered bytes relay s h =
    subst (λ (t : RelayState). AreBeside IsStreamOf relay.router.outlets relay.streams.items t.connections) (sym (took_is n (length bytes) s))
    (beside_changed IsStreamOf n (took (length bytes)) relay.router.outlets relay.streams.items s (took_quiet (length bytes)).stays
    (λ (x : Held) k is. stream_kept x k is) h)
  where
    stream_kept : (x : Held) (k : RelayConnection) → IsStreamOf x k → IsStreamOf x (took (length bytes) k)
    stream_kept x k is = elim (cases_Bool k.gone) [
      | inl t ↦ subst (IsStreamOf x) (sym (cond-true k.gone k (record k { bytes_taken = k.bytes_taken + length bytes }) t)) is
      | inr t ↦ subst (IsStreamOf x) (sym (cond-false k.gone k (record k { bytes_taken = k.bytes_taken + length bytes }) t)) is
    ]

-- what is kept beside the outlets
record Rest (relay : Relay) (s : RelayState) : Type 0 where
  pub known : Knows relay.router s
  pub streams : AreBeside IsStreamOf relay.router.outlets relay.streams.items s.connections

rest_took : (n : ℕ) (offered : ℕ) (bytes : List ℕ) (relay : Relay) (s : RelayState) → Rest relay s
    → Rest relay (state_after_move relay_after_event s (move.Took n offered bytes))
rest_took n offered bytes relay s h = record {
  known = knows_took n offered bytes relay.router s h.known;
  streams = streams_took n offered bytes relay s h.streams;
}

rest_wholes : (n : ℕ) (frames : List (List ℕ)) (relay : Relay) (s : RelayState) → Rest relay s → Rest relay (state_after relay_after_event s (wholes n frames))
unfolding state_after
rest_wholes n [] relay s h = h
rest_wholes n (f ∷ fs) relay s h =
    rest_wholes n fs relay (state_after_move relay_after_event s (move.Took n (length f) f)) (rest_took n (length f) f relay s h)

-- other outlets with the same numbers, which stand for the machine
stands_rest : (old new : Relay) (y : RelayRunning) → new.router ≡ record old.router { outlets = new.router.outlets } → new.streams ≡ old.streams
    → keys_of new.router.outlets ≡ keys_of old.router.outlets → Carries new.router.outlets y.blocked y.state.connections
    → Rest old y.state → StandsRunning new y
stands_rest old new y router streams numbers carried h = record {
  holds = record {
    outlets = carried;
    known = knows_same old.router new.router y.state (record {
      routes = ap (λ (r : Router). r.routes) router;
      numbers = numbers;
      peers = ap (λ (r : Router). r.peers.items) router;
      owners = ap (λ (r : Router). r.owners.entries) router;
    }) (ap (λ (r : Router). r.counts) router) h.known;
  };
  streams = subst (λ (xs : List Held). AreBeside IsStreamOf new.router.outlets xs y.state.connections) (sym (ap (λ x. x.items) streams))
      (beside_same IsStreamOf old.router.outlets new.router.outlets old.streams.items y.state.connections numbers h.streams);
}

-- an offer is taken
pub took_stands : (n m : ℕ) (left bytes : List ℕ) (old new : Relay) (x : RelayRunning) → StandsRunning old x → offer_among old.router.outlets n ≡ Some left
    → length bytes ≡ m → m ≤ length left → new.router ≡ record old.router { outlets = new.router.outlets } → new.streams ≡ old.streams
    → new.router.outlets ≡ change_of (taken m) n old.router.outlets
    → StandsRunning new (running_after relay_after_event x (move.Took n (length left) bytes))
took_stands n m left bytes old new x h offered count fits router streams outlets =
    let y = running_after relay_after_event x (move.Took n (length left) bytes) in
    stands_rest old new y router streams (ap keys_of outlets ∙ numbers_of (taken m) n old.router.outlets)
    (subst (λ es. Carries es y.blocked y.state.connections) (sym outlets) (carry_took n m left bytes old.router.outlets x offered count fits h.holds.outlets))
    (rest_took n (length left) bytes old x.state (record { known = h.holds.known; streams = h.streams }))

-- all that was lent is taken
pub run_stands : (n : ℕ) (frames : List (List ℕ)) (old new : Relay) (x : RelayRunning) → StandsRunning old x → run_among old.router.outlets n ≡ Some frames
    → new.router ≡ record old.router { outlets = new.router.outlets } → new.streams ≡ old.streams
    → new.router.outlets ≡ change_of emptied n old.router.outlets → StandsRunning new (running_after_all relay_after_event x (wholes n frames))
run_stands n frames old new x h some router streams outlets =
    let y = running_after_all relay_after_event x (wholes n frames) in
    stands_rest old new y router streams (ap keys_of outlets ∙ numbers_of emptied n old.router.outlets)
    (subst (λ es. Carries es y.blocked y.state.connections) (sym outlets) (took_all relay_after_event old.router.outlets x n frames h.holds.outlets some))
    (rest_wholes n frames old x.state (record { known = h.holds.known; streams = h.streams }))

-- a connection is writable
pub writable_stands : (n : ℕ) (b : List ℕ) (old new : Relay) (s : RelayState) → StandsFor old b s
    → new.router ≡ record old.router { outlets = new.router.outlets } → new.streams ≡ old.streams
    → new.router.outlets ≡ change_of freed n old.router.outlets → StandsFor new (blocked_after_move b (move.Event (event.Writable n))) s
writable_stands n b old new s h router streams outlets =
    let blocked = blocked_after_move b (move.Event (event.Writable n)) in
    stands_rest old new (record { state = s; blocked = blocked }) router streams (ap keys_of outlets ∙ numbers_of freed n old.router.outlets)
    (subst (λ es. Carries es blocked s.connections) (sym outlets) (writable old.router.outlets b s.connections n h.holds.outlets))
    (record { known = h.holds.known; streams = h.streams })

-- no note is made of frames that are taken
pub stands_wholes : (relay : Relay) (n : ℕ) (frames : List (List ℕ)) (x : RelayStanding) → relay.failed ≡ false
    → (let y = running_after_all relay_after_event x.running (wholes n frames) in StandsFor relay y.blocked y.state) → x.notes ≡ []
    → StandsAt relay (standing_after_all relay_after_event nothing_noted x (wholes n frames))
unfolding standing_after_all state_after blocked_after
stands_wholes relay n [] x working stands notes = record { working = working; holds = stands.holds; streams = stands.streams; notes = notes }
stands_wholes relay n (f ∷ fs) x working stands notes =
    stands_wholes relay n fs (standing_after relay_after_event nothing_noted x (move.Took n (length f) f)) working stands (append-nil x.notes ∙ notes)
