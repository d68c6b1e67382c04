-- The ticks of a wire, counted.
use Rattle.std.specs.Prelude.{◌≡◌, ℕ, ◌-◌, ◌^◌, min, count_by, List, Option, Bool, true, false}
use Rattle.std.specs.Option.{ForSome}
use Rattle.ads_outside.specs.declared.event.Event.{Event}
use Rattle.ads_outside.specs.declared.event.Event.TheVariants as event
use Rattle.ads_outside.specs.declared.moves.Move.{Move}
use Rattle.ads_outside.specs.declared.moves.Move.TheVariants as move
use Rattle.ads_outside.specs.declared.next.Next.{Next}
use Rattle.ads_outside.specs.declared.next.Next.TheVariants as next

-- an event is a tick
abbrev pub is_tick : Event → Bool
is_tick (event.Opened conn) = false
is_tick (event.Piece conn bytes) = false
is_tick (event.Closed conn) = false
is_tick (event.Tick moment) = true
is_tick (event.Reload bytes) = false
is_tick (event.Writable conn) = false

-- a move of a log, an answer of a wire is one
abbrev pub is_tick_move : Move → Bool
is_tick_move (move.Event e) = is_tick e
is_tick_move (move.Took conn offered bytes) = false
is_tick_move (move.Lost conn) = false
is_tick_move (move.Shut conn) = false

abbrev pub is_tick_next : Next → Bool
is_tick_next (next.Event e) = is_tick e
is_tick_next next.End = false
is_tick_next next.Failed = false
is_tick_next next.Memory = false

-- there are no more events
abbrev pub is_end : Next → Bool
is_end (next.Event e) = false
is_end next.End = true
is_end next.Failed = false
is_end next.Memory = false

-- so many ticks stand in a log, where it is told; the count stands still at the end of 64 bits
abbrev pub TicksAre : ℕ → Option (List Move) → Type 0
TicksAre ticks told = ForSome told (λ log. ticks ≡ min (count_by is_tick_move log) (2 ^ 64 - 1))
