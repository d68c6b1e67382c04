-- A stop in memory.
use Rattle.std.specs.Prelude.{ℕ, Bool, nat_le, if◌then◌else◌}
use Rattle.ads_outside.specs.Rose.{raised}

-- from which look on it asks for an end, how often it was looked at, and how often it asked
pub record HeldStop : Type 0 where
  pub from_look : ℕ
  pub looks : ℕ
  pub asks : ℕ

abbrev pub not_looked_at : ℕ → HeldStop
not_looked_at from_look = record { from_look = from_look; looks = 0; asks = 0 }

-- whether the next look finds that it asks
abbrev pub asks_next : HeldStop → Bool
asks_next s = nat_le s.from_look (raised s.looks)

-- after one more look
abbrev pub looked_at : HeldStop → HeldStop
looked_at s = record s { looks = raised s.looks; asks = if asks_next s then raised s.asks else s.asks }
