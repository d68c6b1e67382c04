-- What the first bytes of a connection are: a packet to the router, the beginning of one, or neither.
use Rattle.std.specs.Prelude.{ℕ, List, length, take, drop, min, Bool, bytes_eq, nat_lt, ◌==◌, if◌then◌else◌}
use Rattle.std.specs.Int.{w16, from_le_bytes}
use Rattle.local_router.specs.declared.ask.Ask.TheVariants as ask
use Rattle.local_router.specs.declared.front.Front.{Front}
use Rattle.local_router.specs.declared.front.Front.TheVariants as front
use Rattle.local_router.specs.Asks.{connect_head, local_net_id_head}

-- both texts are the same as far as both go
unfoldable pub agrees : List ℕ → List ℕ → Bool
agrees text head = bytes_eq (take (min (length text) (length head)) text) (take (min (length text) (length head)) head)

-- by the length of a text that agrees with the head of a connect: what it is, where the wanted port stands behind the head
abbrev pub connect_front : List ℕ → Front
connect_front text =
    if nat_lt (length text) 8 then front.Begun
    else if length text == 8 then front.Asks (ask.Connect (from_le_bytes w16 (take 2 (drop 6 text))))
    else front.Foreign

-- the same of a packet that asks the NetId
abbrev pub local_net_id_front : List ℕ → Front
local_net_id_front text =
    if nat_lt (length text) 6 then front.Begun else if length text == 6 then front.Asks ask.LocalNetId else front.Foreign

unfoldable pub front_of : List ℕ → Front
front_of text =
    if agrees text connect_head then connect_front text
    else if agrees text local_net_id_head then local_net_id_front text
    else front.Foreign
