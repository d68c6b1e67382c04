-- A view of a connection that a frame keeps, whatever becomes of it.
use Rattle.std.proofs.Common.{◌≡◌, ℕ, List, refl, ◌∙◌, inl, inr}
use Rattle.std.specs.Prelude.{Option, Some, None, ◌==◌, ◌%◌}
use Rattle.std.proofs.lemmas.Bool.{cases_Bool}
use Rattle.spec_formats.specs.Header.{AmsHeader, payload_of}
use Rattle.spec_formats.specs.Commands.{DEVICE_NOTIFICATION}
use Rattle.spec_machine.specs.Device.{Produced}
use Rattle.spec_machine.specs.Connection.{connection_of, with_closing}
use Rattle.spec_machine.specs.Piece.{with_client}
use Rattle.spec_relay.specs.RelayState.{Request, Owned, RelayConnection, RelayState, owner_of}
use Rattle.spec_relay.specs.Requests.{request_answered}
use Rattle.spec_relay.specs.Checks.{is_closed_by}
use Rattle.spec_relay.specs.Routing.{framed, has_room, delivered, given_to, with_request_of, with_owner}
use Rattle.spec_relay.specs.Routing.{outcome_of_unknown, outcome_of_response, outcome_of_request, outcome_of_owned, outcome_by_header}
use Rattle.spec_relay.proofs.ChangeLemmas.{change-keeps}
use Rattle.spec_relay.proofs.GivenLemmas.{delivered-number}

-- a view that is the same once a frame is given to a connection, once it is closing, and once it owns a NetId
pub record IsKeptByFrames {V : Type 0} (view : Option RelayConnection → V) : Type 0 where
  pub given : (frame : Produced) (k : RelayConnection) → view (Some (delivered frame k)) ≡ view (Some k)
  pub closed : (k : RelayConnection) → view (Some (with_closing k)) ≡ view (Some k)
  pub client : (client : Owned) (k : RelayConnection) → view (Some (with_client client k)) ≡ view (Some k)

module _ {V : Type 0} (view : Option RelayConnection → V) (kept : IsKeptByFrames view) (d : ℕ) where
  abbrev pub seen : RelayState → V
  seen s = view (connection_of d s.connections)

  given-seen : (n : ℕ) (packet : List ℕ) (s : RelayState) → seen (given_to n packet s) ≡ seen s
  given-seen n packet s = change-keeps view n d (delivered (framed packet)) (delivered-number (framed packet)) (kept.given (framed packet)) s

  remembered-seen : (c n : ℕ) (h : AmsHeader) (s : RelayState) → seen (with_request_of c n h s) ≡ seen s
  remembered-seen c n h s = elim (cases_Bool (h.command == DEVICE_NOTIFICATION)) [ inl t ↦ rw t refl | inr t ↦ rw t refl ]

  unknown-seen : (c : ℕ) (h : AmsHeader) (s : RelayState) → seen (outcome_of_unknown c h s).after ≡ seen s
  unknown-seen c h s = elim (cases_Bool (h.command == DEVICE_NOTIFICATION)) [
    | inl t ↦ rw t refl
    | inr t ↦ rw t (given-seen c _ (record s { world = record s.world { unknown = _ } }))
  ]

  response-seen : (c : ℕ) (h : AmsHeader) (packet : List ℕ) (s : RelayState) (o : Option Request)
      → seen (outcome_of_response c h packet s o).after ≡ seen s
  unfolding outcome_of_response
  response-seen c h packet s None = refl
  response-seen c h packet s (Some r) = elim (cases_Bool (has_room (framed packet) (connection_of r.asker s.connections))) [
    | inl t ↦ rw t (given-seen r.asker packet (record s { world = record s.world { requests = _ } }))
    | inr t ↦ rw t (given-seen r.asker packet (record s { world = record s.world { requests = _ } }))
  ]

  request-seen : (c : ℕ) (h : AmsHeader) (packet : List ℕ) (s : RelayState) (o : Option RelayConnection)
      → seen (outcome_of_request c h packet s o).after ≡ seen s
  unfolding outcome_of_request
  request-seen c h packet s None = unknown-seen c h s
  request-seen c h packet s (Some k) = elim (cases_Bool (has_room (framed packet) (connection_of k.number s.connections))) [
    | inl t ↦ rw t (remembered-seen c k.number h (given_to k.number packet s) ∙ given-seen k.number packet s)
    | inr t ↦ rw t (unknown-seen c h (given_to k.number packet s) ∙ given-seen k.number packet s)
  ]

  owned-seen : (c : ℕ) (h : AmsHeader) (packet : List ℕ) (s : RelayState) → seen (outcome_of_owned c h packet s).after ≡ seen s
  owned-seen c h packet s = elim (cases_Bool (h.flags % 2 == 1)) [
    | inl t ↦ rw t (response-seen c h packet s (request_answered c h s.world.requests))
    | inr t ↦ rw t (request-seen c h packet s (owner_of h.target.net s.connections))
  ]

  pub header-seen : (c : ℕ) (packet : List ℕ) (k : RelayConnection) (s : RelayState) (o : Option AmsHeader)
      → seen (outcome_by_header c packet k s o).after ≡ seen s
  header-seen c packet k s None = refl
  header-seen c packet k s (Some h) = elim (cases_Bool (is_closed_by (payload_of packet) h k s)) [
    | inl t ↦ rw t (change-keeps view c d with_closing (λ k. refl) kept.closed s)
    | inr t ↦ rw t (owned-seen c h packet (with_owner c h.source.net s)
        ∙ change-keeps view c d (with_client (Some h.source.net)) (λ k. refl) (kept.client (Some h.source.net)) s)
  ]
