-- The rooms of connections, as they are kept. No public clause cites this file.
use Rattle.std.specs.Prelude.{◌≡◌, ℕ, List, [], ◌∷◌, ◌==◌, nat_eq, if◌then◌else◌, Option, Some, None}
use Rattle.indexmap.specs.IndexMap.{get}
use Rattle.spec_machine.specs.Peers.{Room}
use Rattle.replay_script.specs.declared.rooms.Rooms.{Rooms}

-- how many further bytes a connection takes, where that is bounded
abbrev pub room_at : List Room → ℕ → Option ℕ
room_at [] c = None
room_at (r ∷ rs) c = if r.number == c then Some r.left else room_at rs c

-- for each connection that room is kept
pub record HoldsRooms (rooms : Rooms) (rs : List Room) : Type 0 where
  pub at : (c : ℕ) → get nat_eq rooms.map c ≡ room_at rs c
