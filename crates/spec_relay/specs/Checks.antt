-- Whether the relay closes the sender of an AMS packet. Beckhoff Information System, "AMS Header"; the rules are this project's own.
use Rattle.std.specs.Prelude.{ℕ, List, length, Bool, true, ◌==◌, not, if◌then◌else◌, Some, None, is_some, bytes_eq}
use Rattle.spec_plant.specs.Rights.{rights_of}
use Rattle.spec_formats.specs.Header.{AmsHeader}
use Rattle.spec_relay.specs.RelayState.{Owned, RelayConnection, RelayState, owner_of}

-- whether the source of a frame of this connection is another's: the connection owns another NetId, or none and some
-- other connection owns it
abbrev pub is_taken_net : List ℕ → RelayConnection → List RelayConnection → Bool
is_taken_net net k ks = is_taken_from k.client
  where
    is_taken_from : Owned → Bool
    is_taken_from None = is_some (owner_of net ks)
    is_taken_from (Some owned) = not (bytes_eq owned net)

-- the first three checks: the data length, the route of the source, and its owner
abbrev pub is_closed_by : List ℕ → AmsHeader → RelayConnection → RelayState → Bool
is_closed_by payload h k s =
    if not (h.len == length payload) then true
    else if not (is_some (rights_of h.source.net s.world.routes)) then true
    else is_taken_net h.source.net k s.connections
