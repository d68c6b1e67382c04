-- What a log delivers, over any machine: how an event changes the state is an argument.
use Rattle.std.specs.Prelude.{◌≡◌, ◌⊎◌, ℕ, List, [], ◌∷◌, ◌++◌, length, Bool, false, ◌||◌, nat_lt, ◌==◌}
use Rattle.std.specs.Prelude.{if◌then◌else◌, Option, Some, None}
use Rattle.ads_outside.specs.declared.event.Event.{Event}
use Rattle.ads_outside.specs.declared.event.Event.TheVariants as event
use Rattle.ads_outside.specs.declared.moves.Move.{Move}
use Rattle.ads_outside.specs.declared.moves.Move.TheVariants as move
use Rattle.spec_machine.specs.Connection.{Connection, connection_of, bytes_of_all}
use Rattle.spec_machine.specs.MachineState.{MachineState, start_of, output_of}
use Rattle.spec_machine.specs.Moves.{EventStep, state_after_move, state_after}
use Rattle.spec_machine.specs.Offers.{waiting_at, not_taken, taken_of}
use Rattle.spec_machine.specs.Turns.{IsOffer, KeepsTurns}
use Rattle.spec_machine.specs.ScriptLine.{ScriptLine}
use Rattle.spec_machine.specs.Play.{play_of}

abbrev pub IsPrefix : List ℕ → List ℕ → Type 0
IsPrefix first whole = (rest : List ℕ) × (whole ≡ first ++ rest)

-- The play of a script keeps the turns.
abbrev pub PlayKeepsTurns : (W C : Type 0) → Type 0
PlayKeepsTurns W C = (step : EventStep W C) (s : MachineState W C) (lines : List ScriptLine)
    → KeepsTurns step s (play_of step s lines)

-- an offer names the whole rest of the first frame that waits, and what is taken begins it
abbrev pub IsOfferOfMove : {W C : Type 0} → MachineState W C → Move → Type 0
IsOfferOfMove s (move.Took c offered bytes) = IsOffer (waiting_at c s) offered bytes
IsOfferOfMove s m = Unit {0}

unfoldable pub AreOffers : {W C : Type 0} → EventStep W C → MachineState W C → List Move → Type 0
AreOffers step s [] = Unit {0}
AreOffers step s (m ∷ ms) = IsOfferOfMove s m × AreOffers step (state_after_move step s m) ms

-- A log that keeps the turns makes such offers, wherever it is cut off: also in the middle of a turn.
abbrev pub OffersWhole : (W C : Type 0) → Type 0
OffersWhole W C = (step : EventStep W C) (s : MachineState W C) (log later : List Move)
    → KeepsTurns step s (log ++ later) → AreOffers step s log

-- a connection was given more at its end, and took no more
pub record Adds {C : Type 0} (k l : Connection C) : Type 0 where
  pub more : List ℕ
  pub given : bytes_of_all l.produced ≡ bytes_of_all k.produced ++ more
  pub bytes_taken : l.bytes_taken ≡ k.bytes_taken

-- what an event makes of the connection of a number: more is given to it, or it is opened, or it is not
-- there still
abbrev pub AddsTo : {C : Type 0} → Option (Connection C) → Option (Connection C) → Type 0
AddsTo None None = Unit {0}
AddsTo None (Some l) = l.bytes_taken ≡ 0
AddsTo (Some k) None = ⊥
AddsTo (Some k) (Some l) = Adds k l

abbrev pub OnlyAdds : {W C : Type 0} → EventStep W C → Type 0
OnlyAdds {W} {C} step = (s : MachineState W C) (e : Event) (c : ℕ)
    → AddsTo (connection_of c s.connections) (connection_of c (step s e).connections)

-- What a connection took begins what it was given, at every end of a log.
abbrev pub TakesOutput : (W C : Type 0) → Type 0
TakesOutput W C = (step : EventStep W C) (world : W) (c : ℕ) (log : List Move) → OnlyAdds step
    → AreOffers step (start_of world) log
    → IsPrefix (taken_of c log) (output_of c (state_after step (start_of world) log))

-- whether a connection was closed by its peer, or lost
unfoldable pub is_cut_off : ℕ → List Move → Bool
is_cut_off c [] = false
is_cut_off c (move.Event (event.Closed n) ∷ ms) = (n == c) || is_cut_off c ms
is_cut_off c (move.Lost n ∷ ms) = (n == c) || is_cut_off c ms
is_cut_off c (m ∷ ms) = is_cut_off c ms

-- whether the last offer to a connection was short: not taken whole
abbrev pub is_short_after : ℕ → Bool → Move → Bool
is_short_after c short (move.Took n offered bytes) =
    if n == c then nat_lt (length bytes) offered else short
is_short_after c short m = short

unfoldable pub is_short_from : ℕ → Bool → List Move → Bool
is_short_from c short [] = short
is_short_from c short (m ∷ ms) = is_short_from c (is_short_after c short m) ms

abbrev pub is_short : ℕ → List Move → Bool
is_short c log = is_short_from c false log

-- a connection has not taken what it had not taken before, or it is there
abbrev pub PassesOn : {C : Type 0} → Option (Connection C) → Option (Connection C) → Type 0
PassesOn {C} o p = (not_taken p ≡ not_taken o) ⊎ ((l : Connection C) × (p ≡ Some l) × (l.gone ≡ false))

-- an event keeps connections there, but for the one that its peer closes
abbrev pub KeepsThere : {W C : Type 0} → EventStep W C → Type 0
KeepsThere {W} {C} step = (s : MachineState W C) (e : Event) (c : ℕ)
    → is_cut_off c (move.Event e ∷ []) ≡ false
    → PassesOn (connection_of c s.connections) (connection_of c (step s e).connections)

-- A connection took all that it was given, unless its last offer was short, or it was closed by its
-- peer or lost.
abbrev pub TakesAll : (W C : Type 0) → Type 0
TakesAll W C = (step : EventStep W C) (world : W) (c : ℕ) (log : List Move)
    → OnlyAdds step → KeepsThere step → KeepsTurns step (start_of world) log
    → is_short c log ≡ false → is_cut_off c log ≡ false
    → taken_of c log ≡ output_of c (state_after step (start_of world) log)
