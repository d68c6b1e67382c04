-- A log that goes on being answered by a script.
use Rattle.std.proofs.Common.{◌≡◌, ℕ, ◌+◌, ◌<◌, ◌≤◌, List, [], ◌∷◌, ◌++◌, length, take, drop, zero, suc, true, false, refl}
use Rattle.std.proofs.Common.{sym, ap, ◌∙◌, subst, append_assoc, append-nil, add-one, inl, inr, arith}
use Rattle.std.specs.Prelude.{Bool, not, ◌||◌, ◌==◌, Option, Some, None, slice_get, IsTrue, IsSomeAnd}
use Rattle.std.proofs.Math.Seq.{drop-cons, take-length}
use Rattle.std.proofs.lemmas.List.{length-append}
use Rattle.std.proofs.lemmas.List.{drop_all}
use Rattle.std.proofs.lemmas.List.Folds.{list_any-append}
use Rattle.std.proofs.lemmas.Option.{slice_get_within, get_or_from_slice_get, slice_get-get_or}
use Rattle.std.proofs.lemmas.Bool.{cases_eq, cases_lt}
use Rattle.ads_outside.specs.declared.event.Event.{Event}
use Rattle.ads_outside.specs.declared.event.Event.TheVariants as event
use Rattle.ads_outside.specs.declared.moves.Move.{Move}
use Rattle.ads_outside.specs.declared.moves.Move.TheVariants as move
use Rattle.ads_outside.specs.Opened.{opened_by as opened_by_event, opened_in, is_new}
use Rattle.ads_outside.proofs.WireLemmas.{opened_in-more, same_opened}
use Rattle.spec_machine.proofs.Find.{test_same, test_other}
use Rattle.spec_machine.specs.Offers.{is_among}
use Rattle.spec_machine.specs.Peers.{Peers, Room, first_peers, with_room, with_failing, taken_by, rooms_after, peers_after_move}
use Rattle.spec_machine.specs.Reading.{is_among as is_listed, opened_by}
use Rattle.spec_machine.specs.ScriptLine.{ScriptLine, Happens, TakesAtMost, FailsNext}
use Rattle.serve_loop.specs.Leads.{events_in}
use Rattle.serve_loop.proofs.LeadLemmas.{events-append}
use Rattle.replay_script.specs.declared.rooms.Rooms.{Rooms}
use Rattle.replay_script.specs.Answering.{AnsweredBy, NextEvent, next_event_of}
use Rattle.replay_script.specs.Fresh.{OpenNew}
use Rattle.replay_script.specs.Rooms.{HoldsRooms}
use Rattle.replay_script.specs.ScriptWire.{PlaysOn, failing_behind, lines_ahead}

-- the line at a place, and those behind it
pub line_at : (lines : List ScriptLine) (i : ℕ) (line : ScriptLine) → slice_get lines i ≡ Some line → drop i lines ≡ line ∷ drop (i + 1) lines
line_at lines i line found =
    let within = slice_get_within lines i line found in
    let here = get_or_from_slice_get lines i line line found in
    rw add-one (drop-cons lines i line within ∙ ap (λ l. l ∷ drop (suc i) lines) here)

pub none_left : (lines : List ScriptLine) (i : ℕ) → slice_get lines i ≡ None → drop i lines ≡ []
none_left [] i e = drop_all i [] (omega arith)
none_left (line ∷ lines) i e = elim (cases_lt i (length (line ∷ lines))) [
  | inl within ↦ (let here = slice_get-get_or (line ∷ lines) i line within in let both = sym here ∙ e in cc)
  | inr past ↦ drop_all i (line ∷ lines) past
]

few_same : (lines left : List ScriptLine) (log : List Move) (m : Move) → events_in (m ∷ []) ≡ 0
    → events_in log + length left ≤ length lines → events_in (log ++ m ∷ []) + length left ≤ length lines
few_same lines left log m none few = omega (arith, events-append log (m ∷ []), none, few)

few_next : (lines left rest : List ScriptLine) (line : ScriptLine) (log : List Move) (m : Move) → events_in (m ∷ []) ≡ 1
    → left ≡ line ∷ rest → events_in log + length left ≤ length lines → events_in (log ++ m ∷ []) + length rest ≤ length lines
few_next lines left rest line log m one is few = let shorter : length left ≡ length rest + 1 =
    ap length is ∙ (omega arith) in omega (arith, events-append log (m ∷ []), one, few, shorter)

few_passed : (lines left rest : List ScriptLine) (line : ScriptLine) (log : List Move) → left ≡ line ∷ rest
    → events_in log + length left ≤ length lines → events_in log + length rest ≤ length lines
few_passed lines left rest line log is few = let shorter : length left ≡ length rest + 1 = ap length is ∙ (omega arith) in omega (arith, few, shorter)

-- the event behind lines that fail offers, or none
event_ahead : (ahead : List ℕ) (peers : Peers) (e : Event) (rest : List ScriptLine)
    → next_event_of peers (lines_ahead ahead (Happens e ∷ rest))
    ≡ Some (record { event = e; peers = record peers { failing = failing_behind ahead peers.failing }; behind = rest })
event_ahead [] peers e rest = refl
event_ahead (c ∷ cs) peers e rest = event_ahead cs (with_failing c peers) e rest

room_ahead : (ahead : List ℕ) (peers : Peers) (c n : ℕ) (rest : List ScriptLine)
    → next_event_of peers (lines_ahead ahead (TakesAtMost c n ∷ rest))
    ≡ Some (record { event = event.Writable c; peers = with_room c n (record peers { failing = failing_behind ahead peers.failing }); behind = rest })
room_ahead [] peers c n rest = refl
room_ahead (d ∷ ds) peers c n rest = room_ahead ds (with_failing d peers) c n rest

none_ahead : (ahead : List ℕ) (peers : Peers) → next_event_of peers (lines_ahead ahead []) ≡ None
none_ahead [] peers = refl
none_ahead (c ∷ cs) peers = none_ahead cs (with_failing c peers)

-- one line more that fails an offer
one_ahead : (ahead : List ℕ) (c : ℕ) (left : List ScriptLine) → lines_ahead (ahead ++ c ∷ []) left ≡ lines_ahead ahead (FailsNext c ∷ left)
one_ahead [] c left = refl
one_ahead (d ∷ ds) c left = ap (λ ls. FailsNext d ∷ ls) (one_ahead ds c left)

one_failing : (ahead : List ℕ) (c : ℕ) (failing : List ℕ) → failing_behind (ahead ++ c ∷ []) failing ≡ c ∷ failing_behind ahead failing
one_failing [] c failing = refl
one_failing (d ∷ ds) c failing = one_failing ds c (d ∷ failing)

-- the first numbers stay where one is appended
pub take_before : (n : ℕ) (xs ys : List ℕ) → n ≤ length xs → take n (xs ++ ys) ≡ take n xs
take_before zero xs ys within = refl
take_before (suc n) [] ys within = absurd (omega (arith, within))
take_before (suc n) (x ∷ xs) ys within = ap (λ l. x ∷ l) (take_before n xs ys (omega (arith, within)))

-- the play begins
pub plays_first : (lines : List ScriptLine) (rooms : Rooms) → HoldsRooms rooms [] → OpenNew [] lines → PlaysOn lines lines [] rooms [] 0 0
plays_first lines rooms holds new = record {
  peers = first_peers;
  ahead = [];
  so_far = λ ms answered. answered;
  rooms_are = holds;
  within = omega arith;
  failing_are = λ c. refl;
  ahead_are = λ c. refl;
  new = new;
  over = λ e. absurd (omega arith);
  few = omega arith;
}

-- End was answered
pub played_over : (lines left : List ScriptLine) (log : List Move) (rooms : Rooms) (failing : List ℕ) (settled ends : ℕ)
    → PlaysOn lines left log rooms failing settled ends → 0 < ends → AnsweredBy first_peers lines log
unfolding AnsweredBy
played_over lines left log rooms failing settled ends plays over =
    let none = ap (λ ls. next_event_of plays.peers (lines_ahead plays.ahead ls)) (plays.over over) ∙ none_ahead plays.ahead plays.peers in
    subst (AnsweredBy first_peers lines) (append-nil log) (plays.so_far [] none)

-- End is answered
pub plays_to_end : (lines left : List ScriptLine) (log : List Move) (rooms : Rooms) (failing : List ℕ) (settled ends more : ℕ)
    → PlaysOn lines left log rooms failing settled ends → left ≡ [] → PlaysOn lines left log rooms failing settled more
plays_to_end lines left log rooms failing settled ends more plays none = record {
  peers = plays.peers;
  ahead = plays.ahead;
  so_far = plays.so_far;
  rooms_are = plays.rooms_are;
  within = plays.within;
  failing_are = plays.failing_are;
  ahead_are = plays.ahead_are;
  new = plays.new;
  over = λ e. none;
  few = plays.few;
}

behind_log : (lines : List ScriptLine) (log : List Move) (m : Move) (ms : List Move)
    → AnsweredBy first_peers lines (log ++ m ∷ ms) → AnsweredBy first_peers lines ((log ++ m ∷ []) ++ ms)
behind_log lines log m ms answered = subst (AnsweredBy first_peers lines) (sym (append_assoc log (m ∷ []) ms)) answered

-- an offer was taken
pub plays_took : (lines left : List ScriptLine) (log : List Move) (rooms after : Rooms) (failing : List ℕ)
    (settled ends c offered : ℕ) (bytes : List ℕ) → PlaysOn lines left log rooms failing settled ends → is_listed c (take settled failing) ≡ false
    → ((rs : List Room) → HoldsRooms rooms rs → length bytes ≡ taken_by rs c offered)
    → ((rs : List Room) → HoldsRooms rooms rs → HoldsRooms after (rooms_after rs c (length bytes)))
    → PlaysOn lines left (log ++ move.Took c offered bytes ∷ []) after failing settled ends
unfolding AnsweredBy
plays_took lines left log rooms after failing settled ends c offered bytes plays free took taken =
    let m = move.Took c offered bytes in
    let O : List ℕ → Type 0 = λ opened. OpenNew opened left in
    record {
      peers = peers_after_move plays.peers m;
      ahead = plays.ahead;
      so_far = λ ms answered. behind_log lines log m ms
          (plays.so_far (m ∷ ms) ((sym (plays.failing_are c) ∙ free, took plays.peers.rooms plays.rooms_are), answered));
      rooms_are = taken plays.peers.rooms plays.rooms_are;
      within = plays.within;
      failing_are = plays.failing_are;
      ahead_are = plays.ahead_are;
      new = subst O (sym (same_opened log m refl)) plays.new;
      over = plays.over;
      few = few_same lines left log m refl plays.few;
    }

-- an offer failed
pub plays_lost : (lines left : List ScriptLine) (log : List Move) (rooms : Rooms) (failing : List ℕ) (settled ends c : ℕ)
    → PlaysOn lines left log rooms failing settled ends → is_listed c (take settled failing) ≡ true
    → PlaysOn lines left (log ++ move.Lost c ∷ []) rooms failing settled ends
unfolding AnsweredBy
plays_lost lines left log rooms failing settled ends c plays fails =
    let m = move.Lost c in
    let O : List ℕ → Type 0 = λ opened. OpenNew opened left in
    record {
      peers = peers_after_move plays.peers m;
      ahead = plays.ahead;
      so_far = λ ms answered. behind_log lines log m ms (plays.so_far (m ∷ ms) (sym (plays.failing_are c) ∙ fails, answered));
      rooms_are = plays.rooms_are;
      within = plays.within;
      failing_are = plays.failing_are;
      ahead_are = plays.ahead_are;
      new = subst O (sym (same_opened log m refl)) plays.new;
      over = plays.over;
      few = few_same lines left log m refl plays.few;
    }

-- a connection was shut
pub plays_shut : (lines left : List ScriptLine) (log : List Move) (rooms : Rooms) (failing : List ℕ) (settled ends c : ℕ)
    → PlaysOn lines left log rooms failing settled ends → PlaysOn lines left (log ++ move.Shut c ∷ []) rooms failing settled ends
unfolding AnsweredBy
plays_shut lines left log rooms failing settled ends c plays =
    let m = move.Shut c in
    let O : List ℕ → Type 0 = λ opened. OpenNew opened left in
    record {
      peers = peers_after_move plays.peers m;
      ahead = plays.ahead;
      so_far = λ ms answered. behind_log lines log m ms (plays.so_far (m ∷ ms) (tt, answered));
      rooms_are = plays.rooms_are;
      within = plays.within;
      failing_are = plays.failing_are;
      ahead_are = plays.ahead_are;
      new = subst O (sym (same_opened log m refl)) plays.new;
      over = plays.over;
      few = few_same lines left log m refl plays.few;
    }

opened_by_line : (e : Event) → opened_by (Happens e) ≡ opened_by_event e
opened_by_line (event.Opened c) = refl
opened_by_line (event.Piece c bytes) = refl
opened_by_line (event.Closed c) = refl
opened_by_line (event.Tick t) = refl
opened_by_line (event.Reload bytes) = refl
opened_by_line (event.Writable c) = refl

-- the event of a line is new
pub line_is_new : (e : Event) (rest : List ScriptLine) (opened : List ℕ) → OpenNew opened (Happens e ∷ rest) → IsTrue (is_new e opened)
unfolding OpenNew
line_is_new (event.Opened c) rest opened new = ap not new.0.0
line_is_new (event.Piece c bytes) rest opened new = refl
line_is_new (event.Closed c) rest opened new = refl
line_is_new (event.Tick t) rest opened new = refl
line_is_new (event.Reload bytes) rest opened new = refl
line_is_new (event.Writable c) rest opened new = refl

not_over : {X : Type 0} (left : List ScriptLine) (line : ScriptLine) (rest : List ScriptLine) (ends : ℕ)
    → left ≡ line ∷ rest → (0 < ends → left ≡ []) → 0 < ends → X
not_over left line rest ends is over e = let both : line ∷ rest ≡ [] = sym is ∙ over e in cc

-- the next event is answered
event_next : (e : Event) (o : Option NextEvent) (x : NextEvent) (ms : List Move) → o ≡ Some x → x.event ≡ e
    → AnsweredBy (peers_after_move x.peers (move.Event e)) x.behind ms
    → IsSomeAnd o (λ next. (next.event ≡ e) × AnsweredBy (peers_after_move next.peers (move.Event e)) next.behind ms)
event_next e o x ms is same answered =
    subst (λ p. IsSomeAnd p (λ next. (next.event ≡ e) × AnsweredBy (peers_after_move next.peers (move.Event e)) next.behind ms)) (sym is) (same, answered)

-- an event was given
pub plays_event : (lines left rest : List ScriptLine) (log : List Move) (rooms : Rooms) (failing : List ℕ) (settled ends : ℕ) (e : Event)
    → left ≡ Happens e ∷ rest → PlaysOn lines left log rooms failing settled ends
    → PlaysOn lines rest (log ++ move.Event e ∷ []) rooms failing (length failing) ends
unfolding AnsweredBy OpenNew
plays_event lines left rest log rooms failing settled ends e is plays =
    let m = move.Event e in
    let N : List ScriptLine → Type 0 = λ ls. OpenNew (opened_in log) ls in
    let new : N (Happens e ∷ rest) = subst N is plays.new in
    let O : List ℕ → Type 0 = λ opened. OpenNew opened rest in
    let peers : Peers = record plays.peers { failing = failing_behind plays.ahead plays.peers.failing } in
    let next = ap (λ ls. next_event_of plays.peers (lines_ahead plays.ahead ls)) is ∙ event_ahead plays.ahead plays.peers e rest in
    record {
      peers = peers_after_move peers m;
      ahead = [];
      so_far = λ ms answered. behind_log lines log m ms (plays.so_far (m ∷ ms) (event_next e _ _ ms next refl answered));
      rooms_are = plays.rooms_are;
      within = omega arith;
      failing_are = λ c. ap (is_listed c) (take-length failing) ∙ plays.ahead_are c;
      ahead_are = plays.ahead_are;
      new = subst O (ap (λ o. opened_in log ++ o) (opened_by_line e) ∙ sym (opened_in-more log m)) new.1;
      over = not_over left (Happens e) rest ends is plays.over;
      few = few_next lines left rest (Happens e) log m refl is plays.few;
    }

-- a connection has a room, and is writable
pub plays_room : (lines left rest : List ScriptLine) (log : List Move) (rooms after : Rooms) (failing : List ℕ) (settled ends c n : ℕ)
    → left ≡ TakesAtMost c n ∷ rest → PlaysOn lines left log rooms failing settled ends
    → ((rs : List Room) → HoldsRooms rooms rs → HoldsRooms after (record { number = c; left = n } ∷ rs))
    → PlaysOn lines rest (log ++ move.Event (event.Writable c) ∷ []) after failing (length failing) ends
unfolding AnsweredBy OpenNew
plays_room lines left rest log rooms after failing settled ends c n is plays set =
    let m = move.Event (event.Writable c) in
    let N : List ScriptLine → Type 0 = λ ls. OpenNew (opened_in log) ls in
    let new : N (TakesAtMost c n ∷ rest) = subst N is plays.new in
    let O : List ℕ → Type 0 = λ opened. OpenNew opened rest in
    let peers : Peers = with_room c n (record plays.peers { failing = failing_behind plays.ahead plays.peers.failing }) in
    let next = ap (λ ls. next_event_of plays.peers (lines_ahead plays.ahead ls)) is ∙ room_ahead plays.ahead plays.peers c n rest in
    record {
      peers = peers_after_move peers m;
      ahead = [];
      so_far = λ ms answered. behind_log lines log m ms (plays.so_far (m ∷ ms) (event_next (event.Writable c) _ _ ms next refl answered));
      rooms_are = set plays.peers.rooms plays.rooms_are;
      within = omega arith;
      failing_are = λ d. ap (is_listed d) (take-length failing) ∙ plays.ahead_are d;
      ahead_are = plays.ahead_are;
      new = subst O (sym (opened_in-more log m)) new.1;
      over = not_over left (TakesAtMost c n) rest ends is plays.over;
      few = few_next lines left rest (TakesAtMost c n) log m refl is plays.few;
    }

-- no move, or an event first
abbrev pub BeginsTurn : List Move → Type 0
BeginsTurn [] = Unit {0}
BeginsTurn (move.Event e ∷ ms) = Unit {0}
BeginsTurn (move.Took c offered bytes ∷ ms) = ⊥
BeginsTurn (move.Lost c ∷ ms) = ⊥
BeginsTurn (move.Shut c ∷ ms) = ⊥

-- the next offer to a connection fails
pub fails_answered : (peers : Peers) (c : ℕ) (rest : List ScriptLine) (ms : List Move)
    → BeginsTurn ms → AnsweredBy (with_failing c peers) rest ms → AnsweredBy peers (FailsNext c ∷ rest) ms
unfolding AnsweredBy
fails_answered peers c rest [] begins answered = answered
fails_answered peers c rest (move.Event e ∷ ms) begins answered = answered
fails_answered peers c rest (move.Took d offered bytes ∷ ms) begins answered = absurd begins
fails_answered peers c rest (move.Lost d ∷ ms) begins answered = absurd begins
fails_answered peers c rest (move.Shut d ∷ ms) begins answered = absurd begins

pub plays_fail : (lines left rest : List ScriptLine) (log : List Move) (rooms : Rooms) (failing after : List ℕ) (settled ends c : ℕ)
    → left ≡ FailsNext c ∷ rest → PlaysOn lines left log rooms failing settled ends
    → ((fs : List ℕ) → ((d : ℕ) → is_listed d failing ≡ is_among d fs) → (d : ℕ) → is_listed d after ≡ is_among d (c ∷ fs))
    → (settled ≤ length failing → (settled ≤ length after) × (take settled after ≡ take settled failing))
    → PlaysOn lines rest log rooms after settled ends
unfolding OpenNew
plays_fail lines left rest log rooms failing after settled ends c is plays listed settles =
    let N : List ScriptLine → Type 0 = λ ls. OpenNew (opened_in log) ls in
    let new : N (FailsNext c ∷ rest) = subst N is plays.new in
    let O : List ℕ → Type 0 = λ opened. OpenNew opened rest in
    let s = settles plays.within in
    let same : lines_ahead (plays.ahead ++ c ∷ []) rest ≡ lines_ahead plays.ahead left
    = one_ahead plays.ahead c rest ∙ ap (lines_ahead plays.ahead) (sym is) in
    record {
      peers = plays.peers;
      ahead = plays.ahead ++ c ∷ [];
      so_far = λ ms answered. plays.so_far ms (subst (λ ls. AnsweredBy plays.peers ls ms) same answered);
      rooms_are = plays.rooms_are;
      within = s.0;
      failing_are = λ d. ap (is_listed d) s.1 ∙ plays.failing_are d;
      ahead_are = λ d. listed (failing_behind plays.ahead plays.peers.failing) plays.ahead_are d
          ∙ ap (is_among d) (sym (one_failing plays.ahead c plays.peers.failing));
      new = subst O (append-nil (opened_in log)) new.1;
      over = not_over left (FailsNext c) rest ends is plays.over;
      few = few_passed lines left rest (FailsNext c) log is plays.few;
    }

or_last : (a b : Bool) → (a || (b || false)) ≡ (b || a)
or_last true true = refl
or_last true false = refl
or_last false true = refl
or_last false false = refl

-- a number more
pub listed_more : (c : ℕ) (failing fs : List ℕ) → ((d : ℕ) → is_listed d failing ≡ is_among d fs)
    → (d : ℕ) → is_listed d (failing ++ c ∷ []) ≡ is_among d (c ∷ fs)
listed_more c failing fs same d =
    list_any-append (λ n. n == d) failing (c ∷ []) ∙ (or_last (is_listed d failing) (c == d) ∙ ap (λ b. (c == d) || b) (same d))

-- one that is there already
pub listed_again : (c : ℕ) (failing : List ℕ) → is_listed c failing ≡ true → (fs : List ℕ)
    → ((d : ℕ) → is_listed d failing ≡ is_among d fs) → (d : ℕ) → is_listed d failing ≡ is_among d (c ∷ fs)
listed_again c failing there fs same d = elim (cases_eq c d) [
  | inl e ↦ (let t = test_same c d e in rw t (sym (ap (λ n. is_listed n failing) e) ∙ there))
  | inr e ↦ (let t = test_other c d e in rw t (same d))
]

-- the numbers that hold stay
pub settled_more : (c : ℕ) (failing : List ℕ) (settled : ℕ) → settled ≤ length failing
    → (settled ≤ length (failing ++ c ∷ [])) × (take settled (failing ++ c ∷ []) ≡ take settled failing)
settled_more c failing settled within =
    let more = length-append failing (c ∷ []) in (omega (arith, within, more), take_before settled failing (c ∷ []) within)

-- rooms that are kept otherwise
pub plays_rooms : (lines left : List ScriptLine) (log : List Move) (rooms after : Rooms) (failing : List ℕ) (settled ends : ℕ)
    → PlaysOn lines left log rooms failing settled ends → ((rs : List Room) → HoldsRooms rooms rs → HoldsRooms after rs)
    → PlaysOn lines left log after failing settled ends
plays_rooms lines left log rooms after failing settled ends plays same = record {
  peers = plays.peers;
  ahead = plays.ahead;
  so_far = plays.so_far;
  rooms_are = same plays.peers.rooms plays.rooms_are;
  within = plays.within;
  failing_are = plays.failing_are;
  ahead_are = plays.ahead_are;
  new = plays.new;
  over = plays.over;
  few = plays.few;
}
