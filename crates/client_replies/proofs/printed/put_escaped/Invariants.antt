use Rattle.std.proofs.Common.{◌≡◌, ◌++◌, take}
use Rattle.spec_client.specs.Printed.{escaped}
use Rattle.client_replies.proofs.printed.put_escaped.Given as goal

-- the bytes before this one are written
abbrev pub invariant-loop-byte : goal.invariant-loop-byte
invariant-loop-byte l = l.text ≡ l.initial.text ++ escaped (take l.byte-index l.bytes)
