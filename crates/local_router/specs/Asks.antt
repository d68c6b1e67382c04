-- What a client asks of the AMS router on its own machine, and the answers: packets with the head of AMS/TCP, command 2 bytes and
-- length 4, and data behind it. Every number is little-endian.
-- This project's own choice: any port is 32768.
use Rattle.std.specs.Prelude.{ℕ, ◌<◌, ◌^◌, List, [], ◌∷◌, ◌++◌, ◌==◌, if◌then◌else◌}
use Rattle.std.specs.Int.{w16, to_le_bytes}
use Rattle.local_router.specs.declared.ask.Ask.{Ask}
use Rattle.local_router.specs.declared.ask.Ask.TheVariants as ask

-- command 0x1000, length 2
abbrev pub connect_head : List ℕ
connect_head = 0 ∷ 16 ∷ 2 ∷ 0 ∷ 0 ∷ 0 ∷ []

-- command 0x1002, length 0
abbrev pub local_net_id_head : List ℕ
local_net_id_head = 2 ∷ 16 ∷ 0 ∷ 0 ∷ 0 ∷ 0 ∷ []

-- a packet to the router: its head, and of a connect the wanted port 2
abbrev pub ask_bytes : Ask → List ℕ
ask_bytes (ask.Connect port) = connect_head ++ to_le_bytes w16 port
ask_bytes ask.LocalNetId = local_net_id_head

-- the port that is given where this one is wanted
abbrev pub given_port : ℕ → ℕ
given_port port = if port == 0 then 32768 else port

-- the answer of a machine: command 2, length 4, NetId 6, and of a connect the given port 2
abbrev pub reply_bytes : List ℕ → Ask → List ℕ
reply_bytes net (ask.Connect port) = (0 ∷ 16 ∷ 8 ∷ 0 ∷ 0 ∷ 0 ∷ []) ++ net ++ to_le_bytes w16 (given_port port)
reply_bytes net ask.LocalNetId = (2 ∷ 16 ∷ 6 ∷ 0 ∷ 0 ∷ 0 ∷ []) ++ net

-- a port has 16 bits
abbrev pub HasPort : Ask → Type 0
HasPort (ask.Connect port) = port < 2 ^ 16
HasPort ask.LocalNetId = Unit {0}

-- each of these numbers is a byte
abbrev pub AreBytes : List ℕ → Type 0
AreBytes [] = Unit {0}
AreBytes (b ∷ bs) = (b < 256) × AreBytes bs
