-- What real sockets give next.
use Rattle.std.specs.Prelude.{◌≡◌, ℕ, Option, IsSome}
use Rattle.ads_edge.specs.declared.happened.Happened.{Happened}
use Rattle.ads_edge.specs.declared.happened.Happened.TheVariants as happened

-- a connection is opened only where there is a number for it
abbrev pub OpensBy : Option ℕ → Happened → Type 0
OpensBy number happened.Opened = IsSome number
OpensBy number _ = Unit {0}

-- it is told of this connection alone, or memory was wanting
abbrev pub TellsOf : ℕ → Happened → Type 0
TellsOf number happened.Opened = ⊥
TellsOf number (happened.Piece n _) = n ≡ number
TellsOf number (happened.Closed n) = n ≡ number
TellsOf number (happened.Writable n) = n ≡ number
TellsOf number (happened.Tick _) = ⊥
TellsOf number (happened.Reload _) = ⊥
TellsOf number happened.Failed = ⊥
TellsOf number happened.Memory = Unit {0}

-- the clock or the poll failed, or memory was wanting
abbrev pub IsFault : Happened → Type 0
IsFault happened.Failed = Unit {0}
IsFault happened.Memory = Unit {0}
IsFault _ = ⊥

-- a beat gave a tick
abbrev pub IsTick : Happened → Type 0
IsTick (happened.Tick _) = Unit {0}
IsTick _ = ⊥

-- a tick, a reload, or a clock that failed
abbrev pub IsOfTime : Happened → Type 0
IsOfTime (happened.Tick _) = Unit {0}
IsOfTime (happened.Reload _) = Unit {0}
IsOfTime happened.Failed = Unit {0}
IsOfTime _ = ⊥

-- a connection's peer is gone, or takes bytes again, or memory was wanting
abbrev pub IsTold : Happened → Type 0
IsTold (happened.Closed _) = Unit {0}
IsTold (happened.Writable _) = Unit {0}
IsTold happened.Memory = Unit {0}
IsTold _ = ⊥
