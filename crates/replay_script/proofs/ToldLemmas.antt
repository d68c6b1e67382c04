-- The lines of a script, the first events of which a log has.
use Rattle.std.proofs.Common.{◌≡◌, ℕ, zero, suc, ◌+◌, ◌≤◌, ◌<◌, List, [], ◌∷◌, ◌++◌, length, take, drop, get_or}
use Rattle.std.proofs.Common.{map, Option, Some, None, true, false, refl, sym, ap, ◌∙◌, subst, append-nil, add-one, arith}
use Rattle.std.specs.Prelude.{slice_get, slice_set}
use Rattle.std.specs.Option.{option_map}
use Rattle.std.proofs.lemmas.List.{length-append, length-map, map-set}
use Rattle.std.proofs.lemmas.Option.{get_or_from_slice_get}
use Rattle.ads_outside.specs.declared.event.Event.{Event}
use Rattle.ads_outside.specs.declared.event.Event.TheVariants as event
use Rattle.ads_outside.specs.declared.moves.Move.{Move}
use Rattle.ads_outside.specs.declared.moves.Move.TheVariants as move
use Rattle.ads_outside.specs.Rose.{raised}
use Rattle.ads_outside.specs.declared.listening.Listening.{Listening}
use Rattle.spec_machine.specs.Offers.{is_among}
use Rattle.spec_machine.specs.Peers.{Room, taken_by, rooms_after}
use Rattle.spec_machine.specs.Reading.{is_among as is_listed}
use Rattle.spec_machine.specs.ScriptLine.{ScriptLine, Happens, TakesAtMost, FailsNext}
use Rattle.replay_script.specs.declared.rooms.Rooms.{Rooms}
use Rattle.replay_script.specs.declared.script_line.ScriptLine as declared
use Rattle.replay_script.specs.declared.script_line.ScriptLine.TheVariants as line
use Rattle.replay_script.specs.Fresh.{OpenNew}
use Rattle.replay_script.specs.Rooms.{HoldsRooms}
use Rattle.replay_script.specs.Script.{line_meant, is_event, event_count}
use Rattle.replay_script.specs.ScriptWire.{PlayedScript, PlaysOn, state_of_played, told_after, unplayed}
use Rattle.replay_script.specs.ToldLines.{IsHappening, events_of, with_events, lines_told, PlaysFrom}
use Rattle.replay_script.proofs.AnswerLemmas.{line_at, none_left, plays_first, plays_to_end, plays_fail, plays_event, plays_room}
use Rattle.replay_script.proofs.AnswerLemmas.{plays_took, plays_lost, plays_shut, plays_rooms}

pub events_of-append : (ms ns : List Move) → events_of (ms ++ ns) ≡ events_of ms ++ events_of ns
unfolding events_of
events_of-append [] ns = refl
events_of-append (move.Event e ∷ ms) ns = ap (λ es. e ∷ es) (events_of-append ms ns)
events_of-append (move.Took c offered bytes ∷ ms) ns = events_of-append ms ns
events_of-append (move.Lost c ∷ ms) ns = events_of-append ms ns
events_of-append (move.Shut c ∷ ms) ns = events_of-append ms ns

events_of-event : (log : List Move) (e : Event) → events_of (log ++ move.Event e ∷ []) ≡ events_of log ++ e ∷ []
unfolding events_of
events_of-event log e = events_of-append log (move.Event e ∷ [])

-- a move that is no event
pub events_of-took : (log : List Move) (c offered : ℕ) (bytes : List ℕ) → events_of (log ++ move.Took c offered bytes ∷ []) ≡ events_of log
unfolding events_of
events_of-took log c offered bytes = events_of-append log (move.Took c offered bytes ∷ []) ∙ append-nil (events_of log)

pub events_of-lost : (log : List Move) (c : ℕ) → events_of (log ++ move.Lost c ∷ []) ≡ events_of log
unfolding events_of
events_of-lost log c = events_of-append log (move.Lost c ∷ []) ∙ append-nil (events_of log)

pub events_of-shut : (log : List Move) (c : ℕ) → events_of (log ++ move.Shut c ∷ []) ≡ events_of log
unfolding events_of
events_of-shut log c = events_of-append log (move.Shut c ∷ []) ∙ append-nil (events_of log)

pub length-with_events : (es : List Event) (lines : List ScriptLine) → length (with_events es lines) ≡ length lines
unfolding with_events
length-with_events [] lines = refl
length-with_events (e ∷ es) [] = refl
length-with_events (e ∷ es) (Happens taken ∷ lines) = ap suc (length-with_events es lines)
length-with_events (e ∷ es) (TakesAtMost c n ∷ lines) = ap suc (length-with_events es lines)
length-with_events (e ∷ es) (FailsNext c ∷ lines) = ap suc (length-with_events (e ∷ es) lines)

-- from the place on the lines are as they are
line_told : (n : ℕ) (lines : List ScriptLine) (es : List Event) → event_count (take n lines) ≡ length es
    → slice_get (with_events es lines) n ≡ slice_get lines n
unfolding with_events
line_told n lines [] told = refl
line_told zero lines (e ∷ es) told = absurd (omega arith)
line_told (suc n) [] (e ∷ es) told = refl
line_told (suc n) (Happens taken ∷ lines) (e ∷ es) told = line_told n lines es (omega arith)
line_told (suc n) (TakesAtMost c k ∷ lines) (e ∷ es) told = line_told n lines es (omega arith)
line_told (suc n) (FailsNext c ∷ lines) (e ∷ es) told = line_told n lines (e ∷ es) told

-- the event of the line at the place is taken, and is the next of the log
with_taken : (n : ℕ) (lines : List ScriptLine) (es : List Event) (e t : Event) → event_count (take n lines) ≡ length es
    → slice_get lines n ≡ Some (Happens e) → with_events (es ++ e ∷ []) (slice_set lines n (Happens t)) ≡ with_events es lines
unfolding with_events
with_taken zero [] es e t told here = cc
with_taken zero (line ∷ lines) [] e t told here = cc
with_taken zero (line ∷ lines) (d ∷ es) e t told here = absurd (omega arith)
with_taken (suc n) [] es e t told here = cc
with_taken (suc n) (Happens u ∷ lines) [] e t told here = absurd (omega arith)
with_taken (suc n) (TakesAtMost c k ∷ lines) [] e t told here = absurd (omega arith)
with_taken (suc n) (FailsNext c ∷ lines) [] e t told here = ap (λ ls. FailsNext c ∷ ls) (with_taken n lines [] e t told here)
with_taken (suc n) (Happens u ∷ lines) (d ∷ es) e t told here = ap (λ ls. Happens d ∷ ls) (with_taken n lines es e t (omega arith) here)
with_taken (suc n) (TakesAtMost c k ∷ lines) (d ∷ es) e t told here =
    ap (λ ls. TakesAtMost c k ∷ ls) (with_taken n lines es e t (omega arith) here)
with_taken (suc n) (FailsNext c ∷ lines) (d ∷ es) e t told here = ap (λ ls. FailsNext c ∷ ls) (with_taken n lines (d ∷ es) e t told here)

-- the line at the place says how much a connection takes, which is the next event of the log
with_room_taken : (n : ℕ) (lines : List ScriptLine) (es : List Event) (c k : ℕ) (e : Event) → event_count (take n lines) ≡ length es
    → slice_get lines n ≡ Some (TakesAtMost c k) → with_events (es ++ e ∷ []) lines ≡ with_events es lines
unfolding with_events
with_room_taken zero [] es c k e told here = cc
with_room_taken zero (Happens u ∷ lines) [] c k e told here = cc
with_room_taken zero (TakesAtMost d m ∷ lines) [] c k e told here = refl
with_room_taken zero (FailsNext d ∷ lines) [] c k e told here = cc
with_room_taken zero (line ∷ lines) (d ∷ es) c k e told here = absurd (omega arith)
with_room_taken (suc n) [] es c k e told here = cc
with_room_taken (suc n) (Happens u ∷ lines) [] c k e told here = absurd (omega arith)
with_room_taken (suc n) (TakesAtMost d m ∷ lines) [] c k e told here = absurd (omega arith)
with_room_taken (suc n) (FailsNext d ∷ lines) [] c k e told here = ap (λ ls. FailsNext d ∷ ls) (with_room_taken n lines [] c k e told here)
with_room_taken (suc n) (Happens u ∷ lines) (d ∷ es) c k e told here =
    ap (λ ls. Happens d ∷ ls) (with_room_taken n lines es c k e (omega arith) here)
with_room_taken (suc n) (TakesAtMost b m ∷ lines) (d ∷ es) c k e told here =
    ap (λ ls. TakesAtMost b m ∷ ls) (with_room_taken n lines es c k e (omega arith) here)
with_room_taken (suc n) (FailsNext b ∷ lines) (d ∷ es) c k e told here =
    ap (λ ls. FailsNext b ∷ ls) (with_room_taken n lines (d ∷ es) c k e told here)

-- how many events there are before the next place
count_taken : (n : ℕ) (lines : List ScriptLine) (line : ScriptLine) (t : Event) → slice_get lines n ≡ Some line
    → event_count (take (suc n) (slice_set lines n (Happens t))) ≡ event_count (take n lines) + 1
count_taken zero [] line t here = cc
count_taken zero (l ∷ lines) line t here = refl
count_taken (suc n) [] line t here = cc
count_taken (suc n) (Happens u ∷ lines) line t here = omega (arith, count_taken n lines line t here)
count_taken (suc n) (TakesAtMost c k ∷ lines) line t here = omega (arith, count_taken n lines line t here)
count_taken (suc n) (FailsNext c ∷ lines) line t here = count_taken n lines line t here

count_room : (n : ℕ) (lines : List ScriptLine) (c k : ℕ) → slice_get lines n ≡ Some (TakesAtMost c k)
    → event_count (take (suc n) lines) ≡ event_count (take n lines) + 1
count_room zero [] c k here = cc
count_room zero (Happens u ∷ lines) c k here = cc
count_room zero (TakesAtMost d m ∷ lines) c k here = refl
count_room zero (FailsNext d ∷ lines) c k here = cc
count_room (suc n) [] c k here = cc
count_room (suc n) (Happens u ∷ lines) c k here = omega (arith, count_room n lines c k here)
count_room (suc n) (TakesAtMost d m ∷ lines) c k here = omega (arith, count_room n lines c k here)
count_room (suc n) (FailsNext d ∷ lines) c k here = count_room n lines c k here

count_fail : (n : ℕ) (lines : List ScriptLine) (c : ℕ) → slice_get lines n ≡ Some (FailsNext c)
    → event_count (take (suc n) lines) ≡ event_count (take n lines)
count_fail zero [] c here = cc
count_fail zero (Happens u ∷ lines) c here = cc
count_fail zero (TakesAtMost d m ∷ lines) c here = cc
count_fail zero (FailsNext d ∷ lines) c here = refl
count_fail (suc n) [] c here = cc
count_fail (suc n) (Happens u ∷ lines) c here = omega (arith, count_fail n lines c here)
count_fail (suc n) (TakesAtMost d m ∷ lines) c here = omega (arith, count_fail n lines c here)
count_fail (suc n) (FailsNext d ∷ lines) c here = count_fail n lines c here

module _ (lines : List ScriptLine) (place : ℕ) (log : List Move) (told : event_count (take place lines) ≡ length (events_of log)) where
  -- the line at the place is the script's
  pub line_is : slice_get (lines_told lines log) place ≡ slice_get lines place
  line_is = line_told place lines (events_of log) told

  -- an event was given: the lines of the script are as they were
  pub told_event : (e t : Event) → slice_get (lines_told lines log) place ≡ Some (Happens e)
      → lines_told (slice_set lines place (Happens t)) (log ++ move.Event e ∷ []) ≡ lines_told lines log
  told_event e t here =
      ap (λ es. with_events es (slice_set lines place (Happens t))) (events_of-event log e)
      ∙ with_taken place lines (events_of log) e t told (sym line_is ∙ here)

  pub told_room : (c k : ℕ) (e : Event) → slice_get (lines_told lines log) place ≡ Some (TakesAtMost c k)
      → lines_told lines (log ++ move.Event e ∷ []) ≡ lines_told lines log
  told_room c k e here =
      ap (λ es. with_events es lines) (events_of-event log e) ∙ with_room_taken place lines (events_of log) c k e told (sym line_is ∙ here)

  more_told : (e : Event) → length (events_of (log ++ move.Event e ∷ [])) ≡ length (events_of log) + 1
  more_told e = ap length (events_of-event log e) ∙ length-append (events_of log) (e ∷ [])

  pub count_event : (e t : Event) → slice_get (lines_told lines log) place ≡ Some (Happens e)
      → event_count (take (place + 1) (slice_set lines place (Happens t))) ≡ length (events_of (log ++ move.Event e ∷ []))
  count_event e t here =
      let next : event_count (take (place + 1) (slice_set lines place (Happens t))) ≡ event_count (take place lines) + 1 =
      rw add-one (count_taken place lines (Happens e) t (sym line_is ∙ here)) in
      next ∙ (ap (λ n. n + 1) told ∙ sym (more_told e))

  pub count_event_room : (c k : ℕ) (e : Event) → slice_get (lines_told lines log) place ≡ Some (TakesAtMost c k)
      → event_count (take (place + 1) lines) ≡ length (events_of (log ++ move.Event e ∷ []))
  count_event_room c k e here =
      let next : event_count (take (place + 1) lines) ≡ event_count (take place lines) + 1 = rw add-one (count_room place lines c k (sym line_is ∙ here)) in
      next ∙ (ap (λ n. n + 1) told ∙ sym (more_told e))

  pub count_event_fail : (c : ℕ) → slice_get (lines_told lines log) place ≡ Some (FailsNext c)
      → event_count (take (place + 1) lines) ≡ length (events_of log)
  count_event_fail c here =
      let next : event_count (take (place + 1) lines) ≡ event_count (take place lines) = rw add-one (count_fail place lines c (sym line_is ∙ here)) in
      next ∙ told

pub told_nothing : (lines : List ScriptLine) → lines_told lines [] ≡ lines
unfolding events_of with_events
told_nothing lines = refl

-- the play begins
pub from_first : (lines : List ScriptLine) (rooms : Rooms) → HoldsRooms rooms [] → OpenNew [] lines → PlaysFrom lines 0 [] rooms [] 0 0
unfolding events_of with_events
from_first lines rooms holds new = record { plays = plays_first lines rooms holds new; told = refl }

-- the wire of a script that is played
module _ (lines : List ScriptLine) (place : ℕ) (log : List Move) (rooms : Rooms) (failing : List ℕ) (settled ends : ℕ)
    (from : PlaysFrom lines place log rooms failing settled ends) where
  -- End is answered
  pub from_end : (more : ℕ) → slice_get (lines_told lines log) place ≡ None → PlaysFrom lines place log rooms failing settled more
  from_end more none = record {
    plays = plays_to_end _ _ _ _ _ _ _ more from.plays (none_left (lines_told lines log) place none);
    told = from.told;
  }

  -- the next offer to a connection fails
  pub from_fail : (after : List ℕ) (c : ℕ) → slice_get (lines_told lines log) place ≡ Some (FailsNext c)
      → ((fs : List ℕ) → ((d : ℕ) → is_listed d failing ≡ is_among d fs) → (d : ℕ) → is_listed d after ≡ is_among d (c ∷ fs))
      → (settled ≤ length failing → (settled ≤ length after) × (take settled after ≡ take settled failing))
      → PlaysFrom lines (place + 1) log rooms after settled ends
  from_fail after c here listed settles = record {
    plays = plays_fail _ _ _ _ _ _ after _ _ c (line_at (lines_told lines log) place (FailsNext c) here) from.plays listed settles;
    told = count_event_fail lines place log from.told c here;
  }

  -- an event was given, which was taken out of its line
  pub from_event : (e t : Event) → slice_get (lines_told lines log) place ≡ Some (Happens e)
      → PlaysFrom (slice_set lines place (Happens t)) (place + 1) (log ++ move.Event e ∷ []) rooms failing (length failing) ends
  from_event e t here =
      let P : List ScriptLine → Type 0 = λ ls. PlaysOn ls (drop (place + 1) ls) (log ++ move.Event e ∷ []) rooms failing (length failing) ends in
      let after = plays_event _ _ _ _ _ _ _ _ e (line_at (lines_told lines log) place (Happens e) here) from.plays in
      record { plays = subst P (sym (told_event lines place log from.told e t here)) after; told = count_event lines place log from.told e t here }

  -- a connection has a room, and is writable
  pub from_room : (after : Rooms) (c k : ℕ) → slice_get (lines_told lines log) place ≡ Some (TakesAtMost c k)
      → ((rs : List Room) → HoldsRooms rooms rs → HoldsRooms after (record { number = c; left = k } ∷ rs))
      → PlaysFrom lines (place + 1) (log ++ move.Event (event.Writable c) ∷ []) after failing (length failing) ends
  from_room after c k here set =
      let P : List ScriptLine → Type 0 = λ ls.
      PlaysOn ls (drop (place + 1) ls) (log ++ move.Event (event.Writable c) ∷ []) after failing (length failing) ends in
      let plays = plays_room _ _ _ _ _ after _ _ _ c k (line_at (lines_told lines log) place (TakesAtMost c k) here) from.plays set in
      record {
        plays = subst P (sym (told_room lines place log from.told c k (event.Writable c) here)) plays;
        told = count_event_room lines place log from.told c k (event.Writable c) here;
      }

  -- a move that is no event
  from_offer : (m : Move) (after : Rooms) → events_of (log ++ m ∷ []) ≡ events_of log
      → PlaysOn (lines_told lines log) (drop place (lines_told lines log)) (log ++ m ∷ []) after failing settled ends
      → PlaysFrom lines place (log ++ m ∷ []) after failing settled ends
  from_offer m after same plays =
      let P : List ScriptLine → Type 0 = λ ls. PlaysOn ls (drop place ls) (log ++ m ∷ []) after failing settled ends in
      record { plays = subst P (ap (λ es. with_events es lines) (sym same)) plays; told = from.told ∙ ap length (sym same) }

  pub from_took : (after : Rooms) (c offered : ℕ) (bytes : List ℕ) → is_listed c (take settled failing) ≡ false
      → ((rs : List Room) → HoldsRooms rooms rs → length bytes ≡ taken_by rs c offered)
      → ((rs : List Room) → HoldsRooms rooms rs → HoldsRooms after (rooms_after rs c (length bytes)))
      → PlaysFrom lines place (log ++ move.Took c offered bytes ∷ []) after failing settled ends
  from_took after c offered bytes free took taken =
      from_offer (move.Took c offered bytes) after (events_of-took log c offered bytes)
      (plays_took _ _ _ _ after _ _ _ c offered bytes from.plays free took taken)

  pub from_lost : (c : ℕ) → is_listed c (take settled failing) ≡ true → PlaysFrom lines place (log ++ move.Lost c ∷ []) rooms failing settled ends
  from_lost c fails = from_offer (move.Lost c) rooms (events_of-lost log c) (plays_lost _ _ _ _ _ _ _ c from.plays fails)

  pub from_shut : (c : ℕ) → PlaysFrom lines place (log ++ move.Shut c ∷ []) rooms failing settled ends
  from_shut c = from_offer (move.Shut c) rooms (events_of-shut log c) (plays_shut _ _ _ _ _ _ _ c from.plays)

  -- rooms that are kept otherwise
  pub from_rooms : (after : Rooms) → ((rs : List Room) → HoldsRooms rooms rs → HoldsRooms after rs)
      → PlaysFrom lines place log after failing settled ends
  from_rooms after same = record { plays = plays_rooms _ _ _ _ after _ _ _ from.plays same; told = from.told }

-- a line of the program that means an event
pub meant_at : (items : List declared.ScriptLine) (n : ℕ) (e : Event) → slice_get (map line_meant items) n ≡ Some (Happens e)
    → slice_get items n ≡ Some (line.Happens e)
meant_at [] n e here = cc
meant_at (line.Happens d ∷ items) zero e here = cc
meant_at (line.TakesAtMost c k ∷ items) zero e here = cc
meant_at (line.FailsNext c ∷ items) zero e here = cc
meant_at (l ∷ items) (suc n) e here = meant_at items n e here

meant_get : (items : List declared.ScriptLine) (n : ℕ) → option_map line_meant (slice_get items n) ≡ slice_get (map line_meant items) n
meant_get [] n = refl
meant_get (l ∷ items) zero = refl
meant_get (l ∷ items) (suc n) = meant_get items n

-- the next line of the script is the next one of the program's
pub peeked : (items : List declared.ScriptLine) (place : ℕ) (log : List Move) (rooms : Rooms) (failing : List ℕ) (settled ends : ℕ)
    → PlaysFrom (map line_meant items) place log rooms failing settled ends
    → option_map line_meant (slice_get items place) ≡ slice_get (lines_told (map line_meant items) log) place
peeked items place log rooms failing settled ends from = meant_get items place ∙ sym (line_is (map line_meant items) place log from.told)

pub length-lines_told : (items : List declared.ScriptLine) (log : List Move) → length (lines_told (map line_meant items) log) ≡ length items
length-lines_told items log = length-with_events (events_of log) (map line_meant items) ∙ length-map items line_meant

-- all that is seen of a wire
abbrev pub seen : List ScriptLine → ℕ → List Move → List Listening → ℕ → ℕ → ℕ → ℕ → PlayedScript
seen lines place log starts events ends faults wants = record {
  lines = lines_told lines log;
  at = place;
  log = log;
  starts = starts;
  events = events;
  ends = ends;
  faults = faults;
  wants = wants;
}

-- one move more that is no event
pub took_is : (w : PlayedScript) (lines : List ScriptLine) (place : ℕ) (log now : List Move) (starts : List Listening)
    (events ends faults wants c offered : ℕ) (bytes taken : List ℕ) → seen lines place log starts events ends faults wants ≡ w
    → now ≡ log ++ move.Took c offered bytes ∷ [] → bytes ≡ taken
    → seen lines place now starts events ends faults wants ≡ record w { log = w.log ++ move.Took c offered taken ∷ [] }
took_is w lines place log now starts events ends faults wants c offered bytes taken is logged same =
    let P : PlayedScript → Type 0 = λ v.
    seen lines place now starts events ends faults wants ≡ record v { log = v.log ++ move.Took c offered taken ∷ [] } in
    let long = ap (λ es. with_events es lines) (events_of-took log c offered taken) in
    let R : List ScriptLine → PlayedScript = λ ls. record {
      lines = ls;
      at = place;
      log = log ++ move.Took c offered taken ∷ [];
      starts = starts;
      events = events;
      ends = ends;
      faults = faults;
      wants = wants;
    } in
    subst P is (rw (logged, same) (ap R long))

pub lost_is : (w : PlayedScript) (lines : List ScriptLine) (place : ℕ) (log now : List Move) (starts : List Listening)
    (events ends faults more wants c : ℕ) → seen lines place log starts events ends faults wants ≡ w
    → now ≡ log ++ move.Lost c ∷ [] → more ≡ raised faults
    → seen lines place now starts events ends more wants ≡ record w { log = w.log ++ move.Lost c ∷ []; faults = raised w.faults }
lost_is w lines place log now starts events ends faults more wants c is logged rose =
    let P : PlayedScript → Type 0 = λ v.
    seen lines place now starts events ends more wants ≡ record v { log = v.log ++ move.Lost c ∷ []; faults = raised v.faults } in
    let long = ap (λ es. with_events es lines) (events_of-lost log c) in
    let R : List ScriptLine → PlayedScript = λ ls. record {
      lines = ls;
      at = place;
      log = log ++ move.Lost c ∷ [];
      starts = starts;
      events = events;
      ends = ends;
      faults = raised faults;
      wants = wants;
    } in
    subst P is (rw (logged, rose) (ap R long))

pub shut_is : (w : PlayedScript) (lines : List ScriptLine) (place : ℕ) (log now : List Move) (starts : List Listening)
    (events ends faults wants c : ℕ) → seen lines place log starts events ends faults wants ≡ w
    → now ≡ log ++ move.Shut c ∷ [] → seen lines place now starts events ends faults wants ≡ record w { log = w.log ++ move.Shut c ∷ [] }
shut_is w lines place log now starts events ends faults wants c is logged =
    let P : PlayedScript → Type 0 = λ v. seen lines place now starts events ends faults wants ≡ record v { log = v.log ++ move.Shut c ∷ [] } in
    let long = ap (λ es. with_events es lines) (events_of-shut log c) in
    let R : List ScriptLine → PlayedScript = λ ls. record {
      lines = ls;
      at = place;
      log = log ++ move.Shut c ∷ [];
      starts = starts;
      events = events;
      ends = ends;
      faults = faults;
      wants = wants;
    } in
    subst P is (rw logged (ap R long))

pub unplayed_is : (lines told : List ScriptLine) (log : List Move) (starts : List Listening) → told ≡ lines → log ≡ [] → starts ≡ []
    → (record { lines = told; at = 0; log = log; starts = starts; events = 0; ends = 0; faults = 0; wants = 0 }) ≡ unplayed lines
unplayed_is lines told log starts same none begun = rw (same, none, begun) refl

-- the line of the program that is given
module _ (items : List declared.ScriptLine) (place : ℕ) (log : List Move) (rooms : Rooms) (failing : List ℕ) (settled ends : ℕ)
    (from : PlaysFrom (map line_meant items) place log rooms failing settled ends)
    (e : Event) (here : slice_get (lines_told (map line_meant items) log) place ≡ Some (Happens e)) where
  pub own_line : slice_get items place ≡ Some (line.Happens e)
  own_line = meant_at items place e (sym (line_is (map line_meant items) place log from.told) ∙ here)

  own_at : (l : declared.ScriptLine) → l ≡ get_or items place l → l ≡ line.Happens e
  own_at l value = value ∙ get_or_from_slice_get items place (line.Happens e) l own_line

  pub happens_at : (l : declared.ScriptLine) → l ≡ get_or items place l → IsHappening l
  happens_at l value = subst IsHappening (sym (own_at l value)) tt

  pub given_is : (l : declared.ScriptLine) (given : Event) → l ≡ get_or items place l → l ≡ line.Happens given → given ≡ e
  given_is l given value taken = let both : line.Happens given ≡ line.Happens e = sym taken ∙ own_at l value in cc

  meant_set : (after : declared.ScriptLine) (t : Event) → after ≡ line.Happens t
      → map line_meant (slice_set items place after) ≡ slice_set (map line_meant items) place (Happens t)
  meant_set after t left = ap (λ l. map line_meant (slice_set items place l)) left ∙ map-set line_meant items place (line.Happens t)

  pub given_lines : (after : declared.ScriptLine) (t : Event) (now : List Move) → after ≡ line.Happens t → now ≡ log ++ move.Event e ∷ []
      → lines_told (map line_meant (slice_set items place after)) now ≡ lines_told (map line_meant items) log
  given_lines after t now left logged =
      ap (λ ls. lines_told ls now) (meant_set after t left) ∙ ap (λ ms. lines_told (slice_set (map line_meant items) place (Happens t)) ms) logged
      ∙ told_event (map line_meant items) place log from.told e t here

  pub given_from : (after : declared.ScriptLine) (t : Event) (now : List Move) (count : ℕ) → after ≡ line.Happens t
      → now ≡ log ++ move.Event e ∷ [] → count ≡ length failing
      → PlaysFrom (map line_meant (slice_set items place after)) (place + 1) now rooms failing count ends
  given_from after t now count left logged counted =
      let L : List ScriptLine → Type 0 = λ ls. PlaysFrom ls (place + 1) now rooms failing count ends in
      let M : List Move → Type 0 = λ ms. PlaysFrom (slice_set (map line_meant items) place (Happens t)) (place + 1) ms rooms failing count ends in
      let N : ℕ → Type 0 = λ n.
      PlaysFrom (slice_set (map line_meant items) place (Happens t)) (place + 1) (log ++ move.Event e ∷ []) rooms failing n ends in
      subst L (sym (meant_set after t left))
      (subst M (sym logged) (subst N (sym counted) (from_event (map line_meant items) place log rooms failing settled ends from e t here)))

-- what is told after an event
pub told_is : (w : PlayedScript) (lines more : List ScriptLine) (place next : ℕ) (log now : List Move) (starts : List Listening)
    (events count ends faults wants : ℕ) (e : Event) → seen lines place log starts events ends faults wants ≡ w
    → now ≡ log ++ move.Event e ∷ [] → count ≡ raised events
    → state_of_played (seen more next now starts count ends faults wants) ≡ told_after (Some e) w
told_is w lines more place next log now starts events count ends faults wants e is logged counted =
    let P : PlayedScript → Type 0 = λ v. state_of_played (seen more next now starts count ends faults wants) ≡ told_after (Some e) v in
    subst P is (rw (logged, counted) refl)
