-- What is always known of a link: its last moment, its answers since it was connected, and how many of its calls failed.
use Rattle.std.specs.Prelude.{ℕ, ◌≤◌, Bool, true, false}
use Rattle.ads_outside.specs.Rose.{raised}

pub record LinkHistory : Type 0 where
  -- of the last answer, in 100 ns
  pub moment : ℕ
  -- how often it answered what came, since it was connected
  pub answers : ℕ
  -- how often in a row it answered that nothing came
  pub quiet : ℕ
  -- it answered that the peer closed the connection, since it was connected
  pub closed : Bool
  -- to receive failed, since it was connected
  pub broken : Bool

pub record LinkState : Type 0 where
  pub history : LinkHistory
  -- how many calls failed
  pub faults : ℕ

-- before any answer
abbrev pub not_connected : LinkHistory
not_connected = record { moment = 0; answers = 0; quiet = 0; closed = false; broken = false }

-- it is connected at this moment
abbrev pub connected_at : ℕ → LinkHistory
connected_at now = record { moment = now; answers = 0; quiet = 0; closed = false; broken = false }

-- one more answer, at this moment
abbrev pub answered : ℕ → LinkHistory → LinkHistory
answered now h = record h { moment = now; answers = raised h.answers }

-- bytes came
abbrev pub bytes_came : ℕ → LinkHistory → LinkHistory
bytes_came now h = record h { moment = now; answers = raised h.answers; quiet = 0 }

-- nothing came
abbrev pub quiet_came : ℕ → LinkHistory → LinkHistory
quiet_came now h = record h { moment = now; answers = raised h.answers; quiet = raised h.quiet }

-- the peer closed the connection
abbrev pub closed_came : ℕ → LinkHistory → LinkHistory
closed_came now h = record h { moment = now; answers = raised h.answers; quiet = 0; closed = true }

-- to receive failed
abbrev pub broke_off : LinkHistory → LinkHistory
broke_off h = record h { broken = true }

-- neither the moment nor the count of faults falls
pub record LinkNeverFalls (old new : LinkState) : Type 0 where
  pub moment : old.history.moment ≤ new.history.moment
  pub faults : old.faults ≤ new.faults
