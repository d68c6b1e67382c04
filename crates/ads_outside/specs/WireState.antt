-- What is known of a wire: what its calls led to, how many of them failed, and how often memory was wanting.
use Rattle.std.specs.Prelude.{ℕ, List, [], ◌∷◌, ◌++◌, Option}
use Rattle.std.specs.Option.{option_map}
use Rattle.ads_outside.specs.declared.event.Event.{Event}
use Rattle.ads_outside.specs.declared.listening.Listening.{Listening}
use Rattle.ads_outside.specs.declared.moves.Move.{Move}
use Rattle.ads_outside.specs.declared.moves.Move.TheVariants as move
use Rattle.ads_outside.specs.Opened.{opened_by}
use Rattle.ads_outside.specs.Rose.{raised}
use Rattle.ads_outside.specs.Streams.{Streams, grown}

pub record WireHistory : Type 0 where
  -- the log, where it is told
  pub log : Option (List Move)
  -- the bytes that each connection took, where they are told: also by a wire that does not tell in which pieces
  pub streams : Option Streams
  -- what it was started with, in order, where that is told
  pub starts : Option (List Listening)
  -- the numbers that were opened
  pub opened : List ℕ
  -- how many events were given
  pub events : ℕ
  -- how often End was answered
  pub ends : ℕ
  -- how often a start or a next event failed
  pub stops : ℕ

pub record WireState : Type 0 where
  pub history : WireHistory
  -- how many calls failed
  pub faults : ℕ
  -- in how many calls memory was wanting
  pub wants : ℕ

-- a move is logged
abbrev pub logged : Move → WireHistory → WireHistory
logged m h = record h { log = option_map (λ ms. ms ++ m ∷ []) h.log }

-- a connection takes these first bytes of so many that it was offered
abbrev pub bytes_taken : ℕ → ℕ → List ℕ → WireHistory → WireHistory
bytes_taken c offered bytes h = record h {
  log = option_map (λ ms. ms ++ move.Took c offered bytes ∷ []) h.log;
  streams = option_map (grown c bytes) h.streams;
}

-- an event is given
abbrev pub event_given : Event → WireHistory → WireHistory
event_given e h = record h {
  log = option_map (λ ms. ms ++ move.Event e ∷ []) h.log;
  opened = h.opened ++ opened_by e;
  events = raised h.events;
}

-- End is answered
abbrev pub end_answered : WireHistory → WireHistory
end_answered h = record h { ends = raised h.ends }

-- the wire is started
abbrev pub listened : Listening → WireHistory → WireHistory
listened a h = record h { starts = option_map (λ as_. as_ ++ a ∷ []) h.starts }

abbrev pub history_after_move : WireHistory → Move → WireHistory
history_after_move h (move.Event e) = event_given e h
history_after_move h (move.Took c offered bytes) = bytes_taken c offered bytes h
history_after_move h (move.Lost c) = logged (move.Lost c) h
history_after_move h (move.Shut c) = logged (move.Shut c) h

-- a wire whose log grew by these moves
unfoldable pub history_after : WireHistory → List Move → WireHistory
history_after h [] = h
history_after h (m ∷ ms) = history_after (history_after_move h m) ms
