-- What a line of a script says: an event, or how a connection answers the offers to it.
use Rattle.std.specs.Prelude.{ℕ}
use Rattle.ads_outside.specs.declared.event.Event.{Event}

pub data ScriptLine : Type 0 where
  Happens : Event → ScriptLine
  -- from here on the connection takes at most so many further bytes; and it is writable
  TakesAtMost : ℕ → ℕ → ScriptLine
  -- the next offer to the connection fails
  FailsNext : ℕ → ScriptLine
