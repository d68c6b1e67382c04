-- A frame is given to a connection: it waits, closes it, or finds it closing.
use Rattle.std.proofs.Common.{◌≡◌, ℕ, List, Bool, true, false, not, refl, sym, ap, ◌∙◌, subst, arith}
use Rattle.std.specs.Prelude.{Option, Some, None, ◌&&◌, ◌||◌, slice_get}
use Rattle.std.specs.Map.{keys_of}
use Rattle.std.proofs.lemmas.Bool.{true≢false, and_parts, cond-true, cond-false}
use Rattle.spec_frames.specs.Frame.{frame_bytes}
use Rattle.spec_machine.specs.Device.{Produced}
use Rattle.spec_machine.specs.Connection.{connection_of, with_closing, with_frame, put_back, fits, produce}
use Rattle.spec_machine.specs.MachineState.{after_exchange}
use Rattle.spec_relay.specs.RelayState.{RelayConnection, RelayState, is_heard}
use Rattle.spec_relay.specs.Routing.{at_connection, framed, has_room, delivered, given_to}
use Rattle.connections.specs.Outlets.{Outlets, outlet_at, closing_at, is_fitting, test_in, change_at, given}
use Rattle.connections.specs.Carries.{Carries}
use Rattle.connections.specs.Entries.{IsEntry}
use Rattle.connections.proofs.CarryLemmas.{AtNumber, at_number, changed_by}
use Rattle.connections.proofs.OutletLemmas.{keys_changed}
use Rattle.connections.proofs.OutputLemmas.{room_is, given_stands, given_mark, produce_number, produce_gone}
use Rattle.ams_relay.specs.declared.peer.Peer.{Peer}
use Rattle.ams_relay.specs.declared.router.Router.{Router}
use Rattle.ams_relay.specs.Holds.{Knows, Holds}
use Rattle.ams_relay.specs.Taking.{Disowns}
use Rattle.ams_relay.proofs.CarryLemmas.{closing_is}
use Rattle.ams_relay.proofs.EndLemmas.{closes_at}
use Rattle.ams_relay.proofs.HoldLemmas.{knows_changed}
use Rattle.ams_relay.proofs.RequestLemmas.{heard_parts, heard_of_parts, deaf_closing}
use Rattle.ams_relay.proofs.StateLemmas.{changed-nothing, frame_quiet}

produce-fits : (frame : Produced) (k : RelayConnection) → k.closing ≡ false → fits frame k ≡ true → produce frame k ≡ with_frame frame k
unfolding produce
produce-fits frame k is_open room = cond-false k.closing k _ is_open ∙ cond-true (fits frame k) (with_frame frame k) (with_closing k) room

produce-over : (frame : Produced) (k : RelayConnection) → k.closing ≡ false → fits frame k ≡ false → produce frame k ≡ with_closing k
unfolding produce
produce-over frame k is_open over = cond-false k.closing k _ is_open ∙ cond-false (fits frame k) (with_frame frame k) (with_closing k) over

produce-closing : (frame : Produced) (k : RelayConnection) → k.closing ≡ true → produce frame k ≡ k
unfolding produce
produce-closing frame k closing = cond-true k.closing k _ closing

pub given_as_frame : (d : ℕ) (packet : List ℕ) (s : RelayState) → has_room (framed packet) (connection_of d s.connections) ≡ true
    → given_to d packet s ≡ at_connection d (with_frame (framed packet)) s
given_as_frame d packet s room = go (connection_of d s.connections) room
  where
    go : (o : Option RelayConnection) → has_room (framed packet) o ≡ true
        → after_exchange o (λ x. record x { connection = delivered (framed packet) x.connection }) s
        ≡ after_exchange o (λ x. record x { connection = with_frame (framed packet) x.connection }) s
    go None e = refl
    go (Some k) e =
        let both = and_parts (is_heard k) (fits (framed packet) k) e in
        let parts = heard_parts k both.0 in
        ap (λ (l : RelayConnection). record s { connections = put_back l s.connections })
        (cond-false k.gone k (produce (framed packet) k) parts.1 ∙ produce-fits (framed packet) k parts.0 both.1)

-- what is delivered to a connection, by what becomes of it
delivered_as : (n : ℕ) (packet : List ℕ) (k : RelayConnection) (f : RelayConnection → RelayConnection) (s : RelayState)
    → connection_of n s.connections ≡ Some k → delivered (framed packet) k ≡ f k → given_to n packet s ≡ at_connection n f s
delivered_as n packet k f s found same =
    ap (λ o. after_exchange o (λ x. record x { connection = delivered (framed packet) x.connection }) s) found
    ∙ ap (λ (l : RelayConnection). record s { connections = put_back l s.connections }) same
    ∙ sym (ap (λ o. after_exchange o (λ x. record x { connection = f x.connection }) s) found)

room_false : (a b : Bool) → a ≡ true → (a && b) ≡ false → b ≡ false
room_false true b e q = q
room_false false b e q = absurd (true≢false (sym e))

-- one that is heard and has no room closes
given_as_closed : (n : ℕ) (packet : List ℕ) (k : RelayConnection) (s : RelayState) → connection_of n s.connections ≡ Some k → is_heard k ≡ true
    → has_room (framed packet) (connection_of n s.connections) ≡ false → given_to n packet s ≡ at_connection n with_closing s
given_as_closed n packet k s found heard room =
    let parts = heard_parts k heard in
    let over = room_false (is_heard k) (fits (framed packet) k) heard (sym (ap (has_room (framed packet)) found) ∙ room) in
    delivered_as n packet k with_closing s found
    (cond-false k.gone k (produce (framed packet) k) parts.1 ∙ produce-over (framed packet) k parts.0 over)

-- one that is closing is given nothing
given_as_nothing : (n : ℕ) (packet : List ℕ) (k : RelayConnection) (s : RelayState) → connection_of n s.connections ≡ Some k → k.gone ≡ false
    → k.closing ≡ true → given_to n packet s ≡ s
given_as_nothing n packet k s found there closing =
    delivered_as n packet k (λ l. l) s found
    (cond-false k.gone k (produce (framed packet) k) there ∙ produce-closing (framed packet) k closing)
    ∙ changed-nothing n (λ l. l) s (λ l e. refl)

room_closing : (n : ℕ) (packet : List ℕ) (k : RelayConnection) (s : RelayState) → connection_of n s.connections ≡ Some k
    → k.closing ≡ true → false ≡ has_room (framed packet) (connection_of n s.connections)
room_closing n packet k s found closing =
    sym (ap (has_room (framed packet)) found ∙ ap (λ x. x && fits (framed packet) k) (deaf_closing k closing))

-- whether it has room, in the code and in the machine
room_there : (es : Outlets) (n i : ℕ) (b : List ℕ) (packet : List ℕ) (s : RelayState) → AtNumber es b s.connections n i
    → test_in (is_fitting (frame_bytes packet)) (outlet_at es i) ≡ has_room (framed packet) (connection_of n s.connections)
room_there es n i b packet s at =
    ap (test_in (is_fitting (frame_bytes packet))) at.outlet
    ∙ (λ j. not (at.stands.closing j) && room_is at.o at.k (framed packet) at.stands j)
    ∙ sym (ap (λ g. not (at.k.closing || g) && fits (framed packet) at.k) at.there ∙ or_no at.k.closing)
    ∙ sym (ap (has_room (framed packet)) at.found)
  where
    or_no : (c : Bool) → (not (c || false) && fits (framed packet) at.k) ≡ (not c && fits (framed packet) at.k)
    or_no true = refl
    or_no false = refl

-- outlets stand for the connections after a frame was given
carry_given : (n i : ℕ) (packet : List ℕ) (b : List ℕ) (es : Outlets) (s : RelayState) → IsEntry es n i → Carries es b s.connections
    → Carries (change_at (given (frame_bytes packet)) i es) b (given_to n packet s).connections
carry_given n i packet b es s place h =
    let at = at_number es b s.connections n i h place in
    let f = framed packet in
    let state : given_to n packet s ≡ at_connection n (produce f) s =
    delivered_as n packet at.k (produce f) s at.found (cond-false at.k.gone at.k (produce f at.k) at.there) in
    let moved : at_connection n (produce f) s ≡ record s { connections = put_back (produce f at.k) s.connections } =
    ap (λ o. after_exchange o (λ x. record x { connection = produce f x.connection }) s) at.found in
    subst (λ (t : RelayState). Carries (change_at (given (frame_bytes packet)) i es) b t.connections) (sym (state ∙ moved))
    (changed_by (given (frame_bytes packet)) es b b s.connections n i (produce f at.k) h at (given_stands at.o at.k f at.stands (omega arith))
    (produce_number f at.k ∙ at.number) (produce_gone f at.k ∙ at.there) (λ m other. refl) (given_mark at.o (frame_bytes packet) ∙ at.mark))

-- a frame that has room waits
pub given_fits : (n i : ℕ) (packet : List ℕ) (b : List ℕ) (es : Outlets) (old new : Router) (s : RelayState) → Holds old b s → IsEntry old.outlets n i
    → test_in (is_fitting (frame_bytes packet)) (outlet_at old.outlets i) ≡ true → new ≡ record old { outlets = es; nears = new.nears }
    → es ≡ change_at (given (frame_bytes packet)) i old.outlets → Holds new b (given_to n packet s)
given_fits n i packet b es old new s h place fits is same =
    let at = at_number old.outlets b s.connections n i h.outlets place in
    let room = sym (room_there old.outlets n i b packet s at) ∙ fits in
    let outlets : new.outlets ≡ change_at (given (frame_bytes packet)) i old.outlets = ap (λ (r : Router). r.outlets) is ∙ same in
    record {
      outlets = subst (λ es. Carries es b (given_to n packet s).connections) (sym outlets) (carry_given n i packet b old.outlets s place h.outlets);
      known = subst (Knows new) (sym (given_as_frame n packet s room))
          (knows_changed n (with_frame (framed packet)) old new s (frame_quiet packet) (λ l. refl) (record {
            routes = ap (λ (r : Router). r.routes) is;
            numbers = ap keys_of outlets ∙ keys_changed (given (frame_bytes packet)) old.outlets i;
            peers = ap (λ (r : Router). r.peers.items) is;
            owners = ap (λ (r : Router). r.owners.entries) is;
          }) (ap (λ (r : Router). r.counts) is) h.known);
    }

-- one without room closes its connection
pub given_over : (n i : ℕ) (packet : List ℕ) (b : List ℕ) (p : Peer) (old mid new : Router) (s : RelayState) → Holds old b s → IsEntry old.outlets n i
    → slice_get old.peers.items i ≡ Some p → closing_at old.outlets i ≡ false → test_in (is_fitting (frame_bytes packet)) (outlet_at old.outlets i) ≡ false
    → mid ≡ record old { outlets = mid.outlets } → mid.outlets ≡ change_at (given (frame_bytes packet)) i old.outlets
    → Disowns p.owned mid new → Holds new b (given_to n packet s)
given_over n i packet b p old mid new s h place value is_open over is outlets d =
    let at = at_number old.outlets b s.connections n i h.outlets place in
    let room = sym (room_there old.outlets n i b packet s at) ∙ over in
    let heard = heard_of_parts at.k (closing_is old.outlets n i b s.connections at ∙ is_open) at.there in
    let same = given_as_closed n packet at.k s at.found heard room in
    subst (Holds new b) (sym same)
    (closes_at n i b p old mid new s h place value is_open is (ap keys_of outlets ∙ keys_changed (given (frame_bytes packet)) old.outlets i)
    (subst (λ (t : RelayState). Carries mid.outlets b t.connections) same
    (subst (λ es. Carries es b (given_to n packet s).connections) (sym outlets) (carry_given n i packet b old.outlets s place h.outlets))) d)

-- one that is closing is given nothing
pub given_closing : (n i : ℕ) (packet : List ℕ) (b : List ℕ) (r : Router) (s : RelayState) → Holds r b s → IsEntry r.outlets n i
    → closing_at r.outlets i ≡ true → (false ≡ has_room (framed packet) (connection_of n s.connections)) × Holds r b (given_to n packet s)
given_closing n i packet b r s h place closing =
    let at = at_number r.outlets b s.connections n i h.outlets place in
    let closed = closing_is r.outlets n i b s.connections at ∙ closing in
    (room_closing n packet at.k s at.found closed, subst (Holds r b) (sym (given_as_nothing n packet at.k s at.found at.there closed)) h)

pub room_fits : (n i : ℕ) (packet : List ℕ) (b : List ℕ) (r : Router) (s : RelayState) → Holds r b s → IsEntry r.outlets n i
    → test_in (is_fitting (frame_bytes packet)) (outlet_at r.outlets i) ≡ has_room (framed packet) (connection_of n s.connections)
room_fits n i packet b r s h place = room_there r.outlets n i b packet s (at_number r.outlets b s.connections n i h.outlets place)
