-- What a buffer for a peer holds.
use Rattle.std.specs.Prelude.{ℕ, List, drop, ◌-◌, vec_len}
use Rattle.ads_edge.specs.declared.out_buffer.OutBuffer.{OutBuffer}
use Rattle.ads_edge.specs.declared.out_buffer.TheConstants.{OUT_ROOM}

-- the bytes that are still to be sent, in order
abbrev pub waiting : OutBuffer → List ℕ
waiting b = drop b.sent b.bytes.items

-- how many further bytes it takes
abbrev pub room_left : OutBuffer → ℕ
room_left b = OUT_ROOM - vec_len b.bytes
