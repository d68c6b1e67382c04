-- What all that is kept stands for, after each kind of move of one connection.
use Rattle.std.proofs.Common.{◌≡◌, ℕ, ◌+◌, List, [], ◌∷◌, ◌++◌, set, true, false, refl, sym, ap, ◌∙◌, subst}
use Rattle.std.specs.Prelude.{◌||◌, remove, slice_get, Option, Some, None}
use Rattle.std.proofs.lemmas.Bool.{cond-true, or_left, or_right}
use Rattle.signals.specs.Wave.{Wave}
use Rattle.ads_outside.specs.declared.event.Event.TheVariants as event
use Rattle.ads_outside.specs.declared.moves.Move.TheVariants as move
use Rattle.ams_tcp.specs.Held.{Held}
use Rattle.ams_tcp.specs.History.{nothing_fed, Represents}
use Rattle.spec_plant.specs.World.{Plant}
use Rattle.spec_machine.specs.Connection.{connection_of, fresh_connection, is_deaf, put_back}
use Rattle.spec_machine.specs.MachineState.{exchange_of, with_exchange, after_exchange}
use Rattle.spec_machine.specs.Piece.{after_piece}
use Rattle.spec_machine.specs.Moves.{with_gone, state_after_move}
use Rattle.spec_machine.specs.Events.{state_after_event}
use Rattle.spec_machine.specs.Summary.{count_of, summary_of}
use Rattle.connections.specs.Carries.{Carries, EachStream, IsOutlet, IsStreamOf}
use Rattle.connections.specs.Entries.{IsEntry, IsNoEntry}
use Rattle.connections.specs.Outlets.{Outlets, change_at, closing_at, fresh_outlet, frames_in}
use Rattle.connections.specs.Outlets.{holding, is_closing, outlet_at, test_in, with_nothing, without_number}
use Rattle.connections.specs.Present.{present}
use Rattle.connections.specs.declared.outlet.Outlet.{Outlet}
use Rattle.connections.proofs.CarryLemmas.{AtNumber, absent_is, at_number, changed_by, ended, opened, present_opened}
use Rattle.connections.proofs.ColumnLemmas.{each_added, each_read, each_removed, each_set}
use Rattle.connections.proofs.MoveLemmas.{gone_twice, unmoved}
use Rattle.connections.proofs.OutletLemmas.{change_twice}
use Rattle.connections.proofs.StateLemmas.{put_back-itself}
use Rattle.connections.proofs.StreamLemmas.{own_mark}
use Rattle.session.specs.SessionState.{SessionState}
use Rattle.session.specs.StandsFor.{StandsFor}
use Rattle.server_core.specs.declared.device.Device.{Device}
use Rattle.server_core.specs.declared.summary.Summary.{Summary}
use Rattle.server_core.specs.Served.{served, World, ServedConnection, ServedExchange, ServedState}
use Rattle.server_core.specs.Counts.{counts_in}
use Rattle.server_core.specs.HoldsWorld.{HoldsWorld, HoldsState}
use Rattle.server_core.specs.Stands.{Conn, IsClientOf, Stands, Goes}
use Rattle.server_core.specs.Taking.{KeepsDevice}
use Rattle.server_core.specs.CoreState.{CoreState, after_event, after_move}
use Rattle.server_core.specs.ServerView.{ServerView}
use Rattle.server_core.specs.Serves.{EachClient, ServesEach, FollowsEach}
use Rattle.server_core.proofs.SumLemmas.{counted_one, counted_fresh}

-- the connection of an entry
pub served_at : (v : ServerView) (waves : List Wave) (x : CoreState) (n i : ℕ) → ServesEach v waves x → IsEntry v.outlets n i
    → AtNumber v.outlets x.blocked x.state.connections n i
served_at v waves x n i serves place = at_number v.outlets x.blocked x.state.connections n i serves.outlets place

-- the same device holds a state of the same world and moment
pub held_on : (old new : Device) (waves : List Wave) (s t : ServedState) → new ≡ old
    → t.world ≡ s.world → t.moment ≡ s.moment → HoldsState old waves s → HoldsState new waves t
held_on old new waves s t device world moment held =
    subst (λ (d : Device). HoldsState d waves t) (sym device) (record {
      world = subst (λ (w : World). HoldsWorld old w) (sym world) held.world;
      signals = ap (λ (w : World). w.signals) world ∙ held.signals;
      count = held.count;
      few = held.few;
      moment = held.moment ∙ sym moment;
    })

-- the same of another state, by what a move leaves as it was
pub record KeepsServed (v : ServerView) (waves : List Wave) (s t : ServedState) : Type 0 where
  pub device : HoldsState v.device waves s → HoldsState v.device waves t
  pub plant : t.world.plant ≡ s.world.plant
  pub streams : EachStream v.streams (present s.connections) → EachStream v.streams (present t.connections)
  pub clients : (plant : Plant) → EachClient plant v.sessions (present s.connections) → EachClient plant v.sessions (present t.connections)
  pub counted : (c : Summary) → counts_in c ≡ summary_of s → counts_in c ≡ summary_of t

pub keeps_all : (v : ServerView) (waves : List Wave) (s t : ServedState) → t ≡ s → KeepsServed v waves s t
keeps_all v waves s t same = subst (λ (z : ServedState). KeepsServed v waves s z) (sym same)
    (record { device = λ h. h; plant = refl; streams = λ e. e; clients = λ plant e. e; counted = λ c e. e })

pub keeps_on : (v : ServerView) (waves : List Wave) (s t u : ServedState) → KeepsServed v waves s t → KeepsServed v waves t u → KeepsServed v waves s u
keeps_on v waves s t u first second = record {
  device = λ h. second.device (first.device h);
  plant = second.plant ∙ first.plant;
  streams = λ e. second.streams (first.streams e);
  clients = λ plant e. second.clients plant (first.clients plant e);
  counted = λ c e. second.counted c (first.counted c e);
}

-- other outlets stand for such a state
pub outlets_follow : (v : ServerView) (waves : List Wave) (x y : CoreState) (es : Outlets) → ServesEach v waves x
    → KeepsServed v waves x.state y.state → Carries es y.blocked y.state.connections
    → FollowsEach v (record v { outlets = es }) waves x y
outlets_follow v waves x y es serves keeps carries = record {
  serves = record {
    device = keeps.device serves.device;
    outlets = carries;
    streams = keeps.streams serves.streams;
    clients = subst (λ (p : Plant). EachClient p v.sessions (present y.state.connections)) (sym keeps.plant)
        (keeps.clients x.state.world.plant serves.clients);
  };
  counted = keeps.counted v.summary;
}

-- nothing changes
pub stays : (v : ServerView) (waves : List Wave) (x : CoreState) (state : ServedState) → state ≡ x.state → ServesEach v waves x
    → FollowsEach v v waves x (record { state = state; blocked = x.blocked })
stays v waves x state e serves =
    subst (λ (z : ServedState). FollowsEach v v waves x (record { state = z; blocked = x.blocked })) (sym e) (record { serves = serves; counted = λ c. c })

-- A piece.

-- a connection that takes its own place changes nothing
itself : (n : ℕ) (s : ServedState) (k : ServedConnection) → connection_of n s.connections ≡ Some k → with_exchange (exchange_of s k) s ≡ s
itself n s k found = ap (λ (ks : List ServedConnection). record s { connections = ks }) (put_back-itself n k s.connections found)

deaf_takes_nothing : (piece : List ℕ) (s : ServedState) (k : ServedConnection)
    → is_deaf k ≡ true → after_piece served piece (exchange_of s k) ≡ exchange_of s k
unfolding after_piece
deaf_takes_nothing piece s k deaf = cond-true (is_deaf k) (exchange_of s k) _ deaf

pub piece_absent : (v : ServerView) (waves : List Wave) (x : CoreState) (n : ℕ) (piece : List ℕ) → ServesEach v waves x → IsNoEntry v.outlets n
    → FollowsEach v v waves x (after_event x (event.Piece n piece))
unfolding state_after_move state_after_event
piece_absent v waves x n piece serves none =
    stays v waves x (after_exchange (connection_of n x.state.connections) (after_piece served piece) x.state)
    (unmoved n (after_piece served piece) x.state (absent_is v.outlets x.blocked x.state.connections n serves.outlets none)
    (λ k gone. deaf_takes_nothing piece x.state k (or_right k.closing k.gone gone))) serves

-- one that is closing takes none
pub piece_closing : (v : ServerView) (waves : List Wave) (x : CoreState) (n i : ℕ) (piece : List ℕ) → ServesEach v waves x → IsEntry v.outlets n i
    → closing_at v.outlets i ≡ true → FollowsEach v v waves x (after_event x (event.Piece n piece))
unfolding state_after_move state_after_event
piece_closing v waves x n i piece serves place closing =
    let at = served_at v waves x n i serves place in
    let closes : (let o = at.o in o.closing) ≡ true = sym (ap (test_in is_closing) at.outlet) ∙ closing in
    let deaf = or_left at.k.closing at.k.gone (sym at.stands.closing ∙ closes) in
    stays v waves x (after_exchange (connection_of n x.state.connections) (after_piece served piece) x.state)
    (ap (λ o. after_exchange o (after_piece served piece) x.state) at.found
    ∙ ap (λ e. with_exchange e x.state) (deaf_takes_nothing piece x.state at.k deaf) ∙ itself n x.state at.k at.found) serves

-- what the code keeps of a connection that is not closing, while its queue is out
pub stands_out : (v : ServerView) (waves : List Wave) (x : CoreState) (n i : ℕ) (conn : Conn) (serves : ServesEach v waves x)
    → (at : AtNumber v.outlets x.blocked x.state.connections n i)
    → slice_get v.streams i ≡ Some conn.stream → slice_get v.sessions i ≡ Some conn.session
    → conn.outlet.out ≡ frames_in (outlet_at v.outlets i) → closing_at v.outlets i ≡ conn.outlet.closing → Stands x.state.world.plant conn at.k
stands_out v waves x n i conn serves at stream session frames closing =
    let plant = x.state.world.plant in
    let ps = present x.state.connections in
    let out : conn.outlet.out ≡ (let o = at.o in o.out) = frames ∙ ap frames_in at.outlet in
    let closes : (let o = at.o in o.closing) ≡ conn.outlet.closing = sym (ap (test_in is_closing) at.outlet) ∙ closing in
    record {
      stream = each_read IsStreamOf v.streams ps i conn.stream at.k serves.streams stream at.machine;
      client = each_read (IsClientOf plant) v.sessions ps i conn.session at.k serves.clients session at.machine;
      outlet = record {
        waiting = out ∙ at.stands.waiting;
        bytes_taken = at.stands.bytes_taken;
        closing = sym closes ∙ at.stands.closing;
      };
    }

-- it comes back with what the piece left
pub piece_follows : (v w : ServerView) (waves : List Wave) (x : CoreState) (n i : ℕ) (conn new : Conn) (piece : List ℕ)
    → ServesEach v waves x → IsEntry v.outlets n i
    → slice_get v.streams i ≡ Some conn.stream → slice_get v.sessions i ≡ Some conn.session
    → conn.outlet.out ≡ frames_in (outlet_at v.outlets i) → closing_at v.outlets i ≡ false → conn.outlet.closing ≡ false
    → ((e : ServedExchange) → HoldsWorld v.device e.world → Stands e.world.plant conn e.connection → e.connection.gone ≡ false
    → Goes new w.device v.summary w.summary e (after_piece served piece e))
    → KeepsDevice v.device w.device
    → w.outlets ≡ change_at (holding new.outlet.out new.outlet.closing) i (change_at with_nothing i v.outlets)
    → w.streams ≡ set v.streams i new.stream → w.sessions ≡ set v.sessions i new.session
    → FollowsEach v w waves x (after_event x (event.Piece n piece))
unfolding state_after_move state_after_event
piece_follows v w waves x n i conn new piece serves place stream session frames closing opened goes device outlets streams sessions =
    let plant = x.state.world.plant in
    let ks = x.state.connections in
    let ps = present ks in
    let at = served_at v waves x n i serves place in
    let stands = stands_out v waves x n i conn serves at stream session frames (closing ∙ sym opened) in
    let e = after_piece served piece (exchange_of x.state at.k) in
    let l = e.connection in
    let go = goes (exchange_of x.state at.k) serves.device.world stands at.there in
    let number : l.number ≡ n = go.number ∙ at.number in
    let there : l.gone ≡ false = go.gone ∙ at.there in
    let p : Outlet = holding new.outlet.out new.outlet.closing (with_nothing at.o) in
    let closes : (let o = at.o in o.closing) ≡ false = sym (ap (test_in is_closing) at.outlet) ∙ closing in
    let back : IsOutlet p l = record {
      waiting = go.stands.outlet.waiting;
      bytes_taken = go.stands.outlet.bytes_taken;
      closing = ap (λ b. b || new.outlet.closing) closes ∙ go.stands.outlet.closing;
    } in
    let change : Outlet → Outlet = λ o. holding new.outlet.out new.outlet.closing (with_nothing o) in
    let put : w.outlets ≡ change_at change i v.outlets =
    outlets ∙ change_twice with_nothing (holding new.outlet.out new.outlet.closing) v.outlets i in
    let carries = changed_by change v.outlets x.blocked x.blocked ks n i l serves.outlets at back number there (λ m other. refl) at.mark in
    let here : present (put_back l ks) ≡ set ps i l = at.put l number there in
    subst (λ (o : Option ServedConnection). FollowsEach v w waves x
    (record { state = after_exchange o (after_piece served piece) x.state; blocked = x.blocked })) (sym at.found) (record {
      serves = record {
        device = record {
          world = go.holds;
          signals = go.signals ∙ serves.device.signals;
          count = device.signals ∙ serves.device.count;
          few = serves.device.few;
          moment = device.moment ∙ serves.device.moment;
        };
        outlets = subst (λ es. Carries es x.blocked (put_back l ks)) (sym put) carries;
        streams = subst (λ hs. EachStream hs (present (put_back l ks))) (sym streams)
            (subst (λ qs. EachStream (set v.streams i new.stream) qs) (sym here)
            (each_set IsStreamOf v.streams ps i new.stream l serves.streams go.stands.stream));
        clients = subst (λ (q : Plant). EachClient q w.sessions (present (put_back l ks))) (sym go.plant)
            (subst (λ ss. EachClient plant ss (present (put_back l ks))) (sym sessions)
            (subst (λ qs. EachClient plant (set v.sessions i new.session) qs) (sym here)
            (each_set (IsClientOf plant) v.sessions ps i new.session l serves.clients go.stands.client)));
      };
      counted = counted_one v.summary w.summary n at.k e x.state at.found number go.counted;
    })

-- An end.

pub ended_follows : (v w : ServerView) (waves : List Wave) (x : CoreState) (n i : ℕ) → ServesEach v waves x → IsEntry v.outlets n i
    → w.device ≡ v.device → w.summary ≡ v.summary → w.outlets ≡ without_number n v.outlets
    → w.streams ≡ remove v.streams i → w.sessions ≡ remove v.sessions i
    → FollowsEach v w waves x (after_event x (event.Closed n))
unfolding state_after_move state_after_event
ended_follows v w waves x n i serves place device summary outlets streams sessions =
    let plant = x.state.world.plant in
    let ks = x.state.connections in
    let ps = present ks in
    let at = served_at v waves x n i serves place in
    let l : ServedConnection = (let k = at.k in record k { gone = true }) in
    let y = with_exchange (exchange_of x.state l) x.state in
    let here : present (put_back l ks) ≡ remove ps i = at.ended l at.number refl in
    let counted = counted_one v.summary v.summary n at.k (exchange_of x.state l) x.state at.found at.number (record {
      connections = refl;
      requests = λ others c. c;
      replies = λ others c. c;
      samples = λ others c. c;
      accepted = refl;
      refused = refl;
    }) in
    let carries = ended v.outlets x.blocked ks n i l serves.outlets at place at.number refl in
    subst (λ (o : Option ServedConnection). FollowsEach v w waves x (record { state = after_exchange o with_gone x.state; blocked = x.blocked }))
    (sym at.found) (record {
      serves = record {
        device = held_on v.device w.device waves x.state y device refl refl serves.device;
        outlets = subst (λ es. Carries es x.blocked (put_back l ks)) (sym outlets) carries;
        streams = subst (λ hs. EachStream hs (present (put_back l ks))) (sym streams)
            (subst (λ qs. EachStream (remove v.streams i) qs) (sym here) (each_removed IsStreamOf v.streams ps i serves.streams));
        clients = subst (λ ss. EachClient plant ss (present (put_back l ks))) (sym sessions)
            (subst (λ qs. EachClient plant (remove v.sessions i) qs) (sym here) (each_removed (IsClientOf plant) v.sessions ps i serves.clients));
      };
      counted = λ c. ap counts_in summary ∙ counted c;
    })

pub ended_absent : (v w : ServerView) (waves : List Wave) (x : CoreState) (n : ℕ) → ServesEach v waves x
    → IsNoEntry v.outlets n → w ≡ v → FollowsEach v w waves x (after_event x (event.Closed n))
unfolding state_after_move state_after_event
ended_absent v w waves x n serves none same =
    subst (λ (u : ServerView). FollowsEach v u waves x (after_event x (event.Closed n))) (sym same)
    (stays v waves x (after_exchange (connection_of n x.state.connections) with_gone x.state)
    (unmoved n with_gone x.state (absent_is v.outlets x.blocked x.state.connections n serves.outlets none) (gone_twice x.state)) serves)

-- whatever is called lost or shut is gone as one that is closed
pub shut_is_closed : (x : CoreState) (n : ℕ) → after_event x (event.Closed n) ≡ after_move x (move.Shut n)
unfolding state_after_move state_after_event
shut_is_closed x n = refl

pub lost_is_closed : (x : CoreState) (n : ℕ) → after_event x (event.Closed n) ≡ after_move x (move.Lost n)
unfolding state_after_move state_after_event
lost_is_closed x n = refl

-- A connection is opened.
pub opened_follows : (v w : ServerView) (waves : List Wave) (x : CoreState) (n : ℕ) (h : Held) (s : SessionState)
    → ServesEach v waves x → connection_of n x.state.connections ≡ None
    → Represents h nothing_fed → ((plant : Plant) → StandsFor plant served.new_client s) → w.device ≡ v.device
    → w.summary ≡ (let c = v.summary in record c { connections = count_of (c.connections + 1) })
    → w.outlets ≡ v.outlets ++ (n, fresh_outlet) ∷ [] → w.streams ≡ v.streams ++ h ∷ [] → w.sessions ≡ v.sessions ++ s ∷ []
    → FollowsEach v w waves x (after_event x (event.Opened n))
unfolding state_after_move state_after_event
opened_follows v w waves x n h s serves new stream client device counts outlets streams sessions =
    let plant = x.state.world.plant in
    let ks = x.state.connections in
    let ps = present ks in
    let k = fresh_connection served.new_client n in
    let state : ServedState = (let z = x.state in record z { connections = z.connections ++ k ∷ [] }) in
    let here : present (ks ++ k ∷ []) ≡ ps ++ k ∷ [] = present_opened served.new_client ks n in
    record {
      serves = record {
        device = held_on v.device w.device waves x.state state device refl refl serves.device;
        outlets = subst (λ es. Carries es x.blocked (ks ++ k ∷ [])) (sym outlets)
            (opened served.new_client v.outlets x.blocked ks n serves.outlets new);
        streams = subst (λ hs. EachStream hs (present (ks ++ k ∷ []))) (sym streams)
            (subst (λ qs. EachStream (v.streams ++ h ∷ []) qs) (sym here)
            (each_added IsStreamOf v.streams ps h k serves.streams (own_mark h nothing_fed stream)));
        clients = subst (λ ss. EachClient plant ss (present (ks ++ k ∷ []))) (sym sessions)
            (subst (λ qs. EachClient plant (v.sessions ++ s ∷ []) qs) (sym here)
            (each_added (IsClientOf plant) v.sessions ps s k serves.clients (λ is_open. client plant)));
      };
      counted = counted_fresh v.summary w.summary n x.state state refl counts;
    }
