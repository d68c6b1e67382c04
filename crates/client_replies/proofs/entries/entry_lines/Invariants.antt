use Rattle.std.proofs.Common.{◌≡◌, ◌-◌, map, []}
use Rattle.spec_client.specs.Entries.{entries_in}
use Rattle.client_replies.specs.Stages.{output_kept}
use Rattle.client_replies.specs.Parts.{outputs_behind}
use Rattle.client_replies.proofs.entries.entry_lines.Given as goal

-- the lines so far, and those of the entries that are left, are those of all
abbrev pub invariant-entries : goal.invariant-entries
invariant-entries l =
    outputs_behind (map output_kept l.outputs) (entries_in (l.fn.count - l.i) l.rest)
    ≡ outputs_behind [] (entries_in l.fn.count l.fn.bytes)
