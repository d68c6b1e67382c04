-- The state of a wire that counts by itself how often it answered End.
use Rattle.std.specs.Prelude.{ℕ}
use Rattle.ads_outside.specs.WireState.{WireHistory, WireState}

-- a history in which End was answered so often
abbrev pub with_ends : ℕ → WireHistory → WireHistory
with_ends n h = record h { ends = n }

abbrev pub state_with_ends : ℕ → WireState → WireState
state_with_ends n s = record s { history = with_ends n s.history }
