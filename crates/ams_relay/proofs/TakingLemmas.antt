-- Frames are taken one after another, down to a rest that is open or broken, or until their connection is closing.
use Rattle.std.proofs.Common.{◌≡◌, ◌≢◌, ℕ, ◌+◌, List, [], ◌∷◌, length, drop, Bool, true, false, cond, refl, sym, ap, ◌∙◌, subst, inl, inr, arith}
use Rattle.std.specs.Prelude.{Option, Some, None, option_map, ◌||◌, not, set, slice_get}
use Rattle.std.specs.Map.{keys_of}
use Rattle.std.proofs.lemmas.Bool.{cond-true, cond-false, cases_eq, true≢false}
use Rattle.std.proofs.lemmas.List.{length-set}
use Rattle.ads_outside.specs.declared.event.Event.TheVariants as event
use Rattle.spec_frames.specs.Division.{front_of, frames_of, rest_of, is_broken}
use Rattle.spec_formats.specs.Header.{header_of}
use Rattle.spec_machine.specs.Connection.{connection_of, with_closing, put_back, is_deaf}
use Rattle.spec_machine.specs.MachineState.{after_exchange}
use Rattle.spec_machine.specs.Piece.{with_received, with_one_taken, packets_left, after_rest}
use Rattle.spec_machine.specs.Summary.{count_of}
use Rattle.ams_tcp.specs.Held.{Held}
use Rattle.ams_tcp.specs.History.{History, Represents, after_feed, answer_of, after_next}
use Rattle.ams_tcp.specs.declared.cut.Cut.TheVariants as cut
use Rattle.spec_relay.specs.RelayState.{RelayWorld, Owned, RelayConnection, RelayState, is_heard_among}
use Rattle.spec_relay.specs.RelayMoves.{after_frames, after_piece_of, relay_after_event}
use Rattle.spec_relay.specs.RelaySummary.{RelaySummary as CountsOfState, relay_summary_of}
use Rattle.spec_relay.specs.Requests.{with_requests_heard}
use Rattle.spec_relay.specs.Routing.{at_connection, with_frame_taken, outcome_by_header, outcome_of_frame, after_frame_of, after_frame}
use Rattle.spec_relay.proofs.ChangeLemmas.{changed-own, world-change}
use Rattle.spec_relay.proofs.RelayDelivered.{gone_of, gone-kept, frame-seen, piece-seen}
use Rattle.spec_relay.proofs.TakenLemmas.{progress, frame-own, piece-progress}
use Rattle.connections.specs.Carries.{IsStreamOf}
use Rattle.connections.specs.Entries.{IsEntry}
use Rattle.connections.specs.Outlets.{beside, closing_at}
use Rattle.connections.proofs.BesideLemmas.{beside_at}
use Rattle.connections.proofs.CarryLemmas.{KeepsOutput, at_number}
use Rattle.connections.proofs.StreamLemmas.{packet_is_next, rest_is_open, rest_is_broken, own_mark, after_frame as one_given}
use Rattle.ams_relay.specs.declared.router.Router.{Router}
use Rattle.ams_relay.specs.Counts.{counts_in}
use Rattle.ams_relay.specs.Holds.{AreBeside, Holds}
use Rattle.ams_relay.specs.Taking.{IsHeardAt, IsSwept, packets_of, end_of_piece, HoldsWith, TakesOne}
use Rattle.ams_relay.proofs.BesideLemmas.{beside_keys, count_same, sets_at}
use Rattle.ams_relay.proofs.CarryLemmas.{closing_is, carry_quiet}
use Rattle.ams_relay.proofs.HoldLemmas.{knows_changed, knows_counted, knows_swept}
use Rattle.ams_relay.proofs.ListLemmas.{filter-finer}
use Rattle.ams_relay.proofs.OwnerLemmas.{some_same}
use Rattle.ams_relay.proofs.RequestLemmas.{is_heard_in, hearing, heard_found, heard_of_parts}
use Rattle.ams_relay.proofs.StateLemmas.{Quiet, changed-nothing, changed-length, changed-more-frames, frames_in}

-- the history of the stream of a connection
abbrev pub history_of : Held → RelayConnection → History
history_of held k = record { fed = k.received; given = k.frames_taken; told_broken = held.told_broken }

-- nothing more is taken of a connection that is closing
frames-closing : (c : ℕ) (k : RelayConnection) (packets : List (List ℕ)) (s : RelayState)
    → connection_of c s.connections ≡ Some k → k.closing ≡ true → after_frames c packets s ≡ s
unfolding after_frames after_frame
frames-closing c k [] s found closing = refl
frames-closing c k (packet ∷ packets) s found closing =
    let same : after_frame c packet s ≡ s =
    ap (after_frame_of c packet s) found ∙ cond-true k.closing s (outcome_of_frame c packet k s).after closing in
    ap (after_frames c packets) same ∙ frames-closing c k packets s found closing

rest-closing : (k : RelayConnection) → k.closing ≡ true → after_rest k ≡ k
rest-closing k closing = at_front (is_broken (front_of (rest_of k.received)))
  where
    at_front : (b : Bool) → cond b (with_closing k) k ≡ k
    at_front true = ap (λ (t : Bool). record k { closing = t }) (sym closing)
    at_front false = refl

end-closing : (c : ℕ) (k : RelayConnection) (s : RelayState) → connection_of c s.connections ≡ Some k → k.closing ≡ true → end_of_piece c s ≡ s
end-closing c k s found closing =
    ap (at_connection c after_rest) (frames-closing c k (packets_of (connection_of c s.connections)) s found closing)
    ∙ changed-nothing c after_rest s (λ j e. rest-closing j (ap (λ (x : RelayConnection). x.closing) (some_same j k (sym e ∙ found)) ∙ closing))

-- no packet is left
end-none : (c : ℕ) (k : RelayConnection) (s : RelayState) → connection_of c s.connections ≡ Some k
    → packets_left k ≡ [] → end_of_piece c s ≡ at_connection c after_rest s
unfolding after_frames
end-none c k s found none = ap (λ ps. at_connection c after_rest (after_frames c ps s)) (ap packets_of found ∙ none)

end-open : (c : ℕ) (k : RelayConnection) (s : RelayState) → connection_of c s.connections ≡ Some k
    → packets_left k ≡ [] → is_broken (front_of (rest_of k.received)) ≡ false → end_of_piece c s ≡ s
end-open c k s found none rest =
    end-none c k s found none
    ∙ changed-nothing c after_rest s
    (λ j e. subst (λ x. after_rest x ≡ x) (sym (some_same j k (sym e ∙ found)))
    (cond-false (is_broken (front_of (rest_of k.received))) (with_closing k) k rest))

end-broken : (c : ℕ) (k : RelayConnection) (s : RelayState) → connection_of c s.connections ≡ Some k
    → packets_left k ≡ [] → is_broken (front_of (rest_of k.received)) ≡ true
    → end_of_piece c s ≡ at_connection c with_closing s
end-broken c k s found none rest =
    end-none c k s found none
    ∙ ap (λ o. after_exchange o (λ x. record x { connection = after_rest x.connection }) s) found
    ∙ ap (λ (l : RelayConnection). record s { connections = put_back l s.connections })
    (cond-true (is_broken (front_of (rest_of k.received))) (with_closing k) k rest)
    ∙ sym (ap (λ o. after_exchange o (λ x. record x { connection = with_closing x.connection }) s) found)

-- a connection behind a frame of its own
record Behind (c : ℕ) (packet : List ℕ) (k : RelayConnection) (s : RelayState) : Type 0 where
  pub connection : RelayConnection
  pub found : connection_of c (after_frame c packet s).connections ≡ Some connection
  pub received : connection.received ≡ k.received
  pub taken : connection.frames_taken ≡ k.frames_taken + 1
  pub gone : connection.gone ≡ k.gone

behind : (c : ℕ) (packet : List ℕ) (k : RelayConnection) (s : RelayState) → connection_of c s.connections ≡ Some k → k.closing ≡ false → Behind c packet k s
behind c packet k s found is_open = by (connection_of c (after_frame c packet s).connections) refl
  where
    moved : progress (connection_of c (after_frame c packet s).connections) ≡ Some (k.received, k.frames_taken + 1)
    moved = frame-own c packet s k found is_open

    stayed : gone_of (connection_of c (after_frame c packet s).connections) ≡ Some k.gone
    stayed = frame-seen gone_of gone-kept c c packet s ∙ ap gone_of found

    by : (o : Option RelayConnection) → connection_of c (after_frame c packet s).connections ≡ o → Behind c packet k s
    by None e = absurd (let no : ◌≡◌ {A = Option Bool} None (Some k.gone) = sym (ap gone_of e) ∙ stayed in cc)
    by (Some l) e =
        let pair : ◌≡◌ {A = Option (List ℕ × ℕ)} (Some (l.received, l.frames_taken)) (Some (k.received, k.frames_taken + 1)) = sym (ap progress e) ∙ moved in
        let both = some_same (l.received, l.frames_taken) (k.received, k.frames_taken + 1) pair in
        let gone : ◌≡◌ {A = Option Bool} (Some l.gone) (Some k.gone) = sym (ap gone_of e) ∙ stayed in
        record {
          connection = l;
          found = e;
          received = ap (λ (x : List ℕ × ℕ). x.0) both;
          taken = ap (λ (x : List ℕ × ℕ). x.1) both;
          gone = some_same l.gone k.gone gone;
        }

-- one frame is taken, and the end is the same
takes_frame : (c : ℕ) (packet : List ℕ) (k : RelayConnection) (held given : Held) (new : Router) (b : List ℕ) (s : RelayState)
    → connection_of c s.connections ≡ Some k → k.closing ≡ false → k.gone ≡ false
    → cut.Frame packet ≡ answer_of (history_of held k) → Represents given (after_next (history_of held k))
    → Holds new b (after_frame c packet s) → TakesOne c given new b s
unfolding after_frames
takes_frame c packet k held given new b s found is_open there answer stream h =
    let l = behind c packet k s found is_open in
    let left = packet_is_next (history_of held k) packet answer in
    let rest = drop (k.frames_taken + 1) (frames_of k.received) in
    let next_left : packets_of (connection_of c (after_frame c packet s).connections) ≡ rest =
    ap packets_of l.found ∙ ap (λ n. drop n (frames_of l.connection.received)) l.taken ∙ ap (λ bs. drop (k.frames_taken + 1) (frames_of bs)) l.received in
    let one = one_given given (history_of held k) packet answer stream in
    let fed = subst (λ (bytes : List ℕ). Represents given (record { fed = bytes; given = k.frames_taken + 1; told_broken = given.told_broken }))
    (sym l.received) one in
    record {
      next = after_frame c packet s;
      holds = record {
        holds = h;
        connection = l.connection;
        found = l.found;
        there = l.gone ∙ there;
        stream = subst (λ (n : ℕ). Represents given (record { fed = l.connection.received; given = n; told_broken = given.told_broken })) (sym l.taken) fed;
      };
      same_end = ap (λ ps. at_connection c after_rest (after_frames c ps (after_frame c packet s))) next_left
          ∙ sym (ap (λ ps. at_connection c after_rest (after_frames c ps s)) (ap packets_of found ∙ left));
    }

-- what is heard is swept once the rest is dropped
swept_is : (s : RelayState) → IsSwept (with_requests_heard s)
swept_is s = filter-finer (is_heard_in (hearing s.connections)) (is_heard_in (hearing s.connections)) s.world.requests (λ q among e. e)

one_taken_quiet : Quiet with_one_taken
one_taken_quiet = record { stays = record { number = λ k. refl; gone = λ k. refl }; client = λ k. refl; closing = λ k. refl }

one_taken_still : KeepsOutput {C = Owned} with_one_taken
one_taken_still = record { number = λ k. refl; gone = λ k. refl; produced = λ k. refl; bytes_taken = λ k. refl; closing = λ k. refl }

-- a frame is taken and counted
pub frame_taken : (c : ℕ) (b : List ℕ) (k : RelayConnection) (old new : Router) (s : RelayState) → Holds old b s → connection_of c s.connections ≡ Some k
    → new ≡ record old { counts = new.counts } → new.counts ≡ (let t = old.counts in record t { frames = count_of (t.frames + 1) })
    → Holds new b (with_frame_taken c s)
frame_taken c b k old new s h found is counts = subst (λ (r : Router). Holds r b (with_frame_taken c s)) (sym is) (record {
  outlets = carry_quiet c with_one_taken b old.outlets s one_taken_still h.outlets;
  known = knows_swept mid (at_connection c with_one_taken s)
      (knows_counted c with_one_taken old mid s one_taken_quiet (record { routes = refl; numbers = refl; peers = refl; owners = refl })
      (ap counts_in counts ∙ counted) h.known);
})
  where
    mid : Router
    mid = record old { counts = new.counts }

    number : (l : RelayConnection) → (with_one_taken l).number ≡ l.number
    number l = refl

    connections : old.counts.connections ≡ count_of (length (at_connection c with_one_taken s).connections)
    connections = ap (λ (x : CountsOfState). x.connections) h.known.counts ∙ ap count_of (sym (changed-length c with_one_taken s))

    frames : count_of (old.counts.frames + 1) ≡ count_of (frames_in (at_connection c with_one_taken s).connections)
    frames =
        let before : old.counts.frames ≡ count_of (frames_in s.connections) = ap (λ (x : CountsOfState). x.frames) h.known.counts in
        let more = changed-more-frames c with_one_taken number (λ l. refl) s k found in
        omega (arith, before, more)

    passed : old.counts.passed ≡ count_of (at_connection c with_one_taken s).world.passed
    passed = ap (λ (x : CountsOfState). x.passed) h.known.counts ∙ ap (λ (w : RelayWorld). count_of w.passed) (sym (world-change c with_one_taken s))

    unknown : old.counts.unknown ≡ count_of (at_connection c with_one_taken s).world.unknown
    unknown = ap (λ (x : CountsOfState). x.unknown) h.known.counts ∙ ap (λ (w : RelayWorld). count_of w.unknown) (sym (world-change c with_one_taken s))

    counted : counts_in (let t = old.counts in record t { frames = count_of (t.frames + 1) }) ≡ relay_summary_of (at_connection c with_one_taken s)
    counted = λ i. record { connections = connections i; frames = frames i; passed = passed i; unknown = unknown i }

-- the connection of a seat is closing as its outlet is
seat_closing : (c i : ℕ) (held : Held) (b : List ℕ) (r : Router) (s : RelayState) (w : HoldsWith c held r b s) → IsEntry r.outlets c i
    → w.connection.closing ≡ closing_at r.outlets i
seat_closing c i held b r s w at =
    let there = at_number r.outlets b s.connections c i w.holds.outlets at in
    ap (λ (x : RelayConnection). x.closing) (some_same w.connection there.k (sym w.found ∙ there.found))
    ∙ closing_is r.outlets c i b s.connections there

-- and goes its way
pub passed_on : (c i : ℕ) (packet : List ℕ) (b : List ℕ) (held given : Held) (old mid new : Router) (s : RelayState)
    → (w : HoldsWith c held old b s) → IsEntry old.outlets c i → closing_at old.outlets i ≡ false
    → cut.Frame packet ≡ answer_of (history_of held w.connection) → Represents given (after_next (history_of held w.connection))
    → Holds mid b (with_frame_taken c s)
    → ((d : List ℕ) (t : RelayState) (l : RelayConnection) → Holds mid d t → IsHeardAt c l t
    → IsSwept t → Holds new d (outcome_by_header c packet l t (header_of packet)).after)
    → TakesOne c given new b s
unfolding after_frame
passed_on c i packet b held given old mid new s w at is_open answer stream taken pass =
    let k = w.connection in
    let open_k : k.closing ≡ false = seat_closing c i held b old s w at ∙ is_open in
    let found : connection_of c (with_frame_taken c s).connections ≡ Some (with_one_taken k) =
    changed-own c with_one_taken (λ l. refl) s ∙ ap (option_map with_one_taken) w.found in
    let heard : IsHeardAt c (with_one_taken k) (with_frame_taken c s) = record { found = found; heard = heard_of_parts (with_one_taken k) open_k w.there } in
    let after = pass b (with_frame_taken c s) (with_one_taken k) taken heard (swept_is (at_connection c with_one_taken s)) in
    let same : after_frame c packet s ≡ (outcome_of_frame c packet k s).after =
    ap (after_frame_of c packet s) w.found ∙ cond-false k.closing s (outcome_of_frame c packet k s).after open_k in
    takes_frame c packet k held given new b s w.found open_k w.there answer stream (subst (Holds new b) (sym same) after)

-- the rest is open
pub ends_open : (c : ℕ) (held : Held) (b : List ℕ) (r : Router) (s : RelayState) → (w : HoldsWith c held r b s)
    → cut.NotYet ≡ answer_of (history_of held w.connection) → HoldsWith c held r b (end_of_piece c s)
ends_open c held b r s w answer =
    let rest = rest_is_open (history_of held w.connection) answer in
    subst (HoldsWith c held r b) (sym (end-open c w.connection s w.found rest.none_left rest.rest)) w

-- the rest is broken
pub ends_broken : (c : ℕ) (held : Held) (b : List ℕ) (old new : Router) (s : RelayState) → (w : HoldsWith c held old b s)
    → cut.Broken ≡ answer_of (history_of held w.connection) → Holds new b (at_connection c with_closing s) → HoldsWith c held new b (end_of_piece c s)
ends_broken c held b old new s w answer closed =
    let rest = rest_is_broken (history_of held w.connection) answer in
    subst (HoldsWith c held new b) (sym (end-broken c w.connection s w.found rest.none_left rest.rest)) (record {
      holds = closed;
      connection = with_closing w.connection;
      found = changed-own c with_closing (λ l. refl) s ∙ ap (option_map with_closing) w.found;
      there = w.there;
      stream = w.stream;
    })

-- the connection is closing
pub ends_closing : (c i : ℕ) (held : Held) (b : List ℕ) (r : Router) (s : RelayState) → HoldsWith c held r b s
    → IsEntry r.outlets c i → closing_at r.outlets i ≡ true → HoldsWith c held r b (end_of_piece c s)
ends_closing c i held b r s w at closing =
    subst (HoldsWith c held r b) (sym (end-closing c w.connection s w.found (seat_closing c i held b r s w at ∙ closing))) w

-- a piece comes in
received_quiet : (piece : List ℕ) → Quiet (with_received piece)
received_quiet piece = record { stays = record { number = λ k. refl; gone = λ k. refl }; client = λ k. refl; closing = λ k. refl }

received_still : (piece : List ℕ) → KeepsOutput {C = Owned} (with_received piece)
received_still piece = record { number = λ k. refl; gone = λ k. refl; produced = λ k. refl; bytes_taken = λ k. refl; closing = λ k. refl }

pub fed : (c : ℕ) (piece : List ℕ) (b : List ℕ) (held given : Held) (r : Router) (s : RelayState) → (w : HoldsWith c held r b s)
    → Represents given (after_feed (history_of held w.connection) piece) → HoldsWith c given r b (at_connection c (with_received piece) s)
fed c piece b held given r s w stream = record {
  holds = record {
    outlets = carry_quiet c (with_received piece) b r.outlets s (received_still piece) w.holds.outlets;
    known = knows_changed c (with_received piece) r r s (received_quiet piece) (λ k. refl)
        (record { routes = refl; numbers = refl; peers = refl; owners = refl }) refl w.holds.known;
  };
  connection = with_received piece w.connection;
  found = changed-own c (with_received piece) (λ k. refl) s ∙ ap (option_map (with_received piece)) w.found;
  there = w.there;
  stream = own_mark given (after_feed (history_of held w.connection) piece) stream;
}

-- a piece of one that is heard: its frames are taken
piece_is : (c : ℕ) (piece : List ℕ) (k : RelayConnection) (s : RelayState) → connection_of c s.connections ≡ Some k → is_deaf k ≡ false
    → relay_after_event s (event.Piece c piece) ≡ end_of_piece c (at_connection c (with_received piece) s)
unfolding relay_after_event
piece_is c piece k s found hearing_k =
    let u = at_connection c (with_received piece) s in
    let packets : packets_of (connection_of c u.connections) ≡ packets_left (with_received piece k) =
    ap packets_of (changed-own c (with_received piece) (λ l. refl) s ∙ ap (option_map (with_received piece)) found) in
    ap (after_piece_of c piece s) found
    ∙ cond-false (is_deaf k) s (at_connection c after_rest (after_frames c (packets_left (with_received piece k)) u)) hearing_k
    ∙ ap (λ ps. at_connection c after_rest (after_frames c ps u)) (sym packets)

-- nothing is taken of one that is not heard
pub piece_unheard : (c : ℕ) (piece : List ℕ) (s : RelayState) → is_heard_among c s.connections ≡ false → relay_after_event s (event.Piece c piece) ≡ s
unfolding relay_after_event
piece_unheard c piece s deaf = by (connection_of c s.connections) refl
  where
    heard_not : (x : Bool) → not x ≡ false → x ≡ true
    heard_not true e = refl
    heard_not false e = absurd (true≢false e)

    by : (o : Option RelayConnection) → connection_of c s.connections ≡ o → after_piece_of c piece s o ≡ s
    by None e = refl
    by (Some k) e =
        cond-true (is_deaf k) s
        (at_connection c after_rest (after_frames c (packets_left (with_received piece k)) (at_connection c (with_received piece) s)))
        (heard_not (is_deaf k) (sym (heard_found c k s.connections e) ∙ deaf))

-- all other streams are as they were
stream_other : (n m : ℕ) (piece : List ℕ) (held : Held) (l : RelayConnection) (s : RelayState) → n ≢ m
    → connection_of m (relay_after_event s (event.Piece n piece)).connections ≡ Some l → l.gone ≡ false
    → ((k : RelayConnection) → connection_of m s.connections ≡ Some k → k.gone ≡ false → IsStreamOf held k) → IsStreamOf held l
unfolding relay_after_event
stream_other n m piece held l s ne found there before = by (connection_of m s.connections) refl
  where
    moved : progress (connection_of m s.connections) ≡ Some (l.received, l.frames_taken)
    moved = sym (piece-progress n m piece s ne) ∙ ap progress found

    stayed : gone_of (connection_of m s.connections) ≡ Some l.gone
    stayed = sym (piece-seen gone_of gone-kept m n piece s (connection_of n s.connections)) ∙ ap gone_of found

    by : (o : Option RelayConnection) → connection_of m s.connections ≡ o → IsStreamOf held l
    by None e = absurd (let no : ◌≡◌ {A = Option Bool} None (Some l.gone) = sym (ap gone_of e) ∙ stayed in cc)
    by (Some k) e =
        let pair : ◌≡◌ {A = Option (List ℕ × ℕ)} (Some (k.received, k.frames_taken)) (Some (l.received, l.frames_taken)) = sym (ap progress e) ∙ moved in
        let both = some_same (k.received, k.frames_taken) (l.received, l.frames_taken) pair in
        let gone : ◌≡◌ {A = Option Bool} (Some k.gone) (Some l.gone) = sym (ap gone_of e) ∙ stayed in
        let is = before k e (some_same k.gone l.gone gone ∙ there) in
        subst (λ (x : List ℕ × ℕ). Represents held (record { fed = x.0; given = x.1; told_broken = held.told_broken })) both is

-- the streams after a piece: that of its connection is another
streams_taken : (n i : ℕ) (piece : List ℕ) (held : Held) (b : List ℕ) (old new : Router) (helds : List Held) (s : RelayState)
    → IsEntry old.outlets n i → keys_of new.outlets ≡ keys_of old.outlets
    → HoldsWith n held new b (relay_after_event s (event.Piece n piece)) → AreBeside IsStreamOf old.outlets helds s.connections
    → AreBeside IsStreamOf new.outlets (set helds i held) (relay_after_event s (event.Piece n piece)).connections
streams_taken n i piece held b old new helds s at numbers w h =
    let sets = sets_at n i old.outlets helds held at h.count in
    record {
      count = length-set helds i held ∙ h.count ∙ sym (count_same old.outlets new.outlets numbers);
      each = λ m x l found_m found there. elim (cases_eq n m) [
        | inl e ↦
            let x_is : held ≡ x = some_same held x
            (sym sets.own ∙ ap (λ j. beside j old.outlets (set helds i held)) e
            ∙ sym (beside_keys m old.outlets new.outlets (set helds i held) numbers) ∙ found_m) in
            let l_is : w.connection ≡ l = some_same w.connection l
            (sym w.found ∙ ap (λ j. connection_of j (relay_after_event s (event.Piece n piece)).connections) e ∙ found) in
            subst (λ (k : RelayConnection). IsStreamOf x k) l_is (subst (λ (y : Held). IsStreamOf y w.connection) x_is w.stream)
        | inr ne ↦
            let value : beside m old.outlets helds ≡ Some x =
            sym (sets.others m (λ e. ne (sym e))) ∙ sym (beside_keys m old.outlets new.outlets (set helds i held) numbers) ∙ found_m in
            stream_other n m piece x l s ne found there (λ k found_k there_k. h.each m x k value found_k there_k)
      ];
    }

-- all frames of a piece were taken
pub piece_taken : (n i : ℕ) (piece : List ℕ) (b : List ℕ) (held given : Held) (old new : Router) (helds : List Held) (s : RelayState)
    → Holds old b s → AreBeside IsStreamOf old.outlets helds s.connections → IsEntry old.outlets n i → closing_at old.outlets i ≡ false
    → slice_get helds i ≡ Some held → keys_of new.outlets ≡ keys_of old.outlets
    → (HoldsWith n held old b s → HoldsWith n given new b (end_of_piece n (at_connection n (with_received piece) s)))
    → Holds new b (relay_after_event s (event.Piece n piece))
    × AreBeside IsStreamOf new.outlets (set helds i given) (relay_after_event s (event.Piece n piece)).connections
piece_taken n i piece b held given old new helds s h streams place is_open value numbers takes =
    let at = at_number old.outlets b s.connections n i h.outlets place in
    let hears : is_deaf at.k ≡ false = ap (λ x. x || at.k.gone) (closing_is old.outlets n i b s.connections at ∙ is_open) ∙ at.there in
    let stream = streams.each n held at.k (beside_at old.outlets helds n i place streams.count ∙ value) at.found at.there in
    let after = subst (HoldsWith n given new b) (sym (piece_is n piece at.k s at.found hears))
    (takes (record { holds = h; connection = at.k; found = at.found; there = at.there; stream = stream })) in
    (after.holds, streams_taken n i piece given b old new helds s place numbers after streams)

-- no frame was taken yet
pub takes_none : (c : ℕ) (held : Held) (r : Router) (b : List ℕ) (s : RelayState) → HoldsWith c held r b s → TakesOne c held r b s
takes_none c held r b s w = record { next = s; holds = w; same_end = refl }

-- one frame more was taken
pub then_takes : (c : ℕ) (held given : Held) (mid new : Router) (b : List ℕ) (s : RelayState) (first : TakesOne c held mid b s)
    → TakesOne c given new b first.next → TakesOne c given new b s
then_takes c held given mid new b s first second = record { next = second.next; holds = second.holds; same_end = second.same_end ∙ first.same_end }
