-- A wire in memory.
use Rattle.std.specs.Prelude.{ℕ, ◌+◌, List, [], ◌∷◌, ◌++◌, length, take, min, slice_get, Bool, true}
use Rattle.std.specs.Prelude.{false, Option, Some, None, if◌then◌else◌, nat_lt, ◌&&◌, not}
use Rattle.ads_outside.specs.declared.event.Event.{Event}
use Rattle.ads_outside.specs.declared.listening.Listening.{Listening}
use Rattle.ads_outside.specs.declared.moves.Move.{Move}
use Rattle.ads_outside.specs.declared.moves.Move.TheVariants as move
use Rattle.ads_outside.specs.declared.next.Next.{Next}
use Rattle.ads_outside.specs.declared.next.Next.TheVariants as next
use Rattle.ads_outside.specs.declared.offer.Offer.{Offer}
use Rattle.ads_outside.specs.declared.offer.Offer.TheVariants as offer
use Rattle.ads_outside.specs.declared.shut.Shut.{Shut}
use Rattle.ads_outside.specs.declared.shut.Shut.TheVariants as shut
use Rattle.ads_outside.specs.declared.started.Started.{Started}
use Rattle.ads_outside.specs.declared.started.Started.TheVariants as started
use Rattle.ads_outside.specs.FailingCalls.{FailingCalls, none_made, fails_next, fails_later, called, faulted}
use Rattle.ads_outside.specs.Opened.{opened_in}
use Rattle.ads_outside.specs.Rose.{raised}
use Rattle.ads_outside.specs.Streams.{none_taken, streams_after}
use Rattle.ads_outside.specs.WireState.{WireState}

pub record HeldWire : Type 0 where
  -- the events that it gives, in order, and how many of them were given
  pub events : List Event
  pub given : ℕ
  pub log : List Move
  pub starts : List Listening
  pub failing : FailingCalls
  -- how many bytes the offers take at most, in order, and how many offers were made
  pub cuts : List ℕ
  pub offers : ℕ
  pub counted : ℕ
  pub ends : ℕ
  pub stops : ℕ
  pub wants : ℕ

abbrev pub unused_wire : List Event → List ℕ → List ℕ → HeldWire
unused_wire events fails cuts = record {
  events = events;
  given = 0;
  log = [];
  starts = [];
  failing = none_made fails;
  cuts = cuts;
  offers = 0;
  counted = 0;
  ends = 0;
  stops = 0;
  wants = 0;
}

-- it tells all
abbrev pub state_of_held : HeldWire → WireState
state_of_held w = record {
  history = record {
    log = Some w.log;
    streams = Some (streams_after none_taken w.log);
    starts = Some w.starts;
    opened = opened_in w.log;
    events = w.counted;
    ends = w.ends;
    stops = w.stops;
  };
  faults = w.failing.faults;
  wants = w.wants;
}

-- a wire that does not tell its log
abbrev pub unlogged : WireState → WireState
unlogged s = record s { history = record s.history { log = None } }

-- what a wire in memory tells that takes runs
abbrev pub state_of_runs : HeldWire → WireState
state_of_runs w = unlogged (state_of_held w)

-- what is answered, want of memory aside
abbrev pub started_of : HeldWire → Started
started_of w = if fails_next w.failing then started.Failed else started.Ready

abbrev pub next_event : Option Event → Next
next_event None = next.End
next_event (Some e) = next.Event e

abbrev pub next_of : HeldWire → Next
next_of w = if fails_next w.failing then next.Failed else next_event (slice_get w.events w.given)

-- how many of so many bytes the next offer takes: all where no number is given
abbrev pub taken_at_most : Option ℕ → ℕ → ℕ
taken_at_most None n = n
taken_at_most (Some cut) n = min cut n

abbrev pub offer_of : HeldWire → List ℕ → Offer
offer_of w bytes =
    if fails_next w.failing then offer.Failed
    else offer.Took (taken_at_most (slice_get w.cuts w.offers) (length bytes))

-- whether every offer is taken whole from here on, and no call fails
abbrev pub takes_all : HeldWire → Bool
takes_all w = not (fails_later w.failing) && not (nat_lt w.offers (length w.cuts))

-- what is held after such an answer
abbrev pub after_start : Started → HeldWire → Listening → HeldWire
after_start started.Ready w a = record w { starts = w.starts ++ a ∷ []; failing = called w.failing }
after_start started.Failed w a = record w {
  starts = w.starts ++ a ∷ [];
  failing = faulted w.failing;
  stops = raised w.stops;
}
after_start started.Memory w a = record w { failing = called w.failing; wants = raised w.wants }

abbrev pub after_next : Next → HeldWire → HeldWire
after_next (next.Event e) w = record w {
  given = w.given + 1;
  log = w.log ++ move.Event e ∷ [];
  failing = called w.failing;
  counted = raised w.counted;
}
after_next next.End w = record w { failing = called w.failing; ends = raised w.ends }
after_next next.Failed w = record w { failing = faulted w.failing; stops = raised w.stops }
after_next next.Memory w = record w { failing = called w.failing; wants = raised w.wants }

abbrev pub after_offer : Offer → HeldWire → ℕ → List ℕ → HeldWire
after_offer (offer.Took n) w c bytes = record w {
  log = w.log ++ move.Took c (length bytes) (take n bytes) ∷ [];
  failing = called w.failing;
  offers = raised w.offers;
}
after_offer offer.Failed w c bytes = record w {
  log = w.log ++ move.Lost c ∷ [];
  failing = faulted w.failing;
  offers = raised w.offers;
}
after_offer offer.Memory w c bytes = record w { failing = called w.failing; wants = raised w.wants }

-- a run stands in the log as one offer that was taken whole
abbrev pub after_run : Bool → HeldWire → ℕ → List ℕ → HeldWire
after_run true w c run = record w { log = w.log ++ move.Took c (length run) run ∷ [] }
after_run false w c run = w

abbrev pub after_shut : Shut → HeldWire → ℕ → HeldWire
after_shut shut.Done w c = record w { log = w.log ++ move.Shut c ∷ []; failing = called w.failing }
after_shut shut.Memory w c = record w { failing = called w.failing; wants = raised w.wants }

-- after an event was given, if there was one
abbrev pub given_to : Option Event → HeldWire → HeldWire
given_to None w = w
given_to (Some e) w = record w { given = w.given + 1; log = w.log ++ move.Event e ∷ [] }
