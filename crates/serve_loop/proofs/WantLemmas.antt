-- Counts that rose behind other calls, and why memory was wanting.
use Rattle.std.proofs.Common.{◌≡◌, ℕ, ◌≤◌, arith, inl, inr}
use Rattle.ads_outside.specs.declared.event.Event.{Event}
use Rattle.ads_outside.specs.declared.event.Event.TheVariants as event
use Rattle.ads_outside.specs.Rose.{Rose}
use Rattle.ads_outside.specs.WireState.{WireState}
use Rattle.serve_loop.specs.declared.turn_end.Turn.TheVariants as turn
use Rattle.serve_loop.specs.TurnTaken.{turn_of_event}
use Rattle.serve_loop.specs.Wanting.{WasWanting}

pub rose_later : (a b c : ℕ) → a ≤ b → Rose b c → Rose a c
rose_later a b c later rose = omega arith

-- behind other calls
pub wanting_later : (has_failed : Type 0) (old mid new : WireState) → old.wants ≤ mid.wants → WasWanting has_failed mid new → WasWanting has_failed old new
wanting_later has_failed old mid new later (inl rose) = inl (rose_later old.wants mid.wants new.wants later rose)
wanting_later has_failed old mid new later (inr failed) = inr failed

-- no event is told so
pub event_is_told : (e : Event) → turn_of_event e ≡ turn.Memory → ⊥
event_is_told (event.Opened c) is = cc
event_is_told (event.Piece c bytes) is = cc
event_is_told (event.Closed c) is = cc
event_is_told (event.Tick t) is = cc
event_is_told (event.Reload bytes) is = cc
event_is_told (event.Writable c) is = cc
