-- The numbers of connections: which an event opens, and that no two are the same.
use Rattle.std.specs.Prelude.{◌≡◌, ℕ, List, [], ◌∷◌, false, None}
use Rattle.ads_outside.specs.declared.event.Event.{Event}
pub use Rattle.ads_outside.specs.Opened.{opened_by, is_opened}
use Rattle.spec_machine.specs.Connection.{Connection, connection_of}
use Rattle.spec_machine.specs.MachineState.{MachineState}
use Rattle.spec_machine.specs.Moves.{EventStep}

-- no two connections have one number
abbrev pub AreApart : {C : Type 0} → List (Connection C) → Type 0
AreApart [] = Unit {0}
AreApart (k ∷ ks) = (connection_of k.number ks ≡ None) × AreApart ks

-- each connection of a state has one of these numbers
abbrev pub HasNumbersIn : {W C : Type 0} → List ℕ → MachineState W C → Type 0
HasNumbersIn opened s = (n : ℕ) → is_opened n opened ≡ false → connection_of n s.connections ≡ None

-- an event brings no connection but the one that it opens
abbrev pub OpensAlone : {W C : Type 0} → EventStep W C → Type 0
OpensAlone {W} {C} step = (s : MachineState W C) (e : Event) (n : ℕ) → is_opened n (opened_by e) ≡ false
    → connection_of n s.connections ≡ None → connection_of n (step s e).connections ≡ None
