use Rattle.std.proofs.Common.{◌≡◌, ◌++◌, ◌*◌, ◌≤◌, length, drop}
use Rattle.spec_client.specs.ReadNames.{handle_parts}
use Rattle.client_calls.proofs.names.parts_of.Given as goal

-- the parts so far, and those that are left, are all parts
abbrev pub invariant-loop-i : goal.invariant-loop-i
invariant-loop-i l =
    (l.parts ++ handle_parts (drop l.i l.handles) (drop l.i l.sizes) ≡ handle_parts l.handles l.sizes) × (length l.parts ≡ 12 * l.i)
