use Rattle.client_leaves.specs.Entries.{entries_meant}
use Rattle.client_leaves.proofs.MemberLemmas.{MembersSoFar}
use Rattle.client_leaves.proofs.reading.with_members.Given as goal

-- the sub entries so far are read, and the others stand behind
abbrev pub invariant-members : goal.invariant-members
invariant-members l = MembersSoFar (entries_meant l.fn.entries) l.fn.entry.subs l.i l.members.items l.fn.entry.sub_bytes.now l.rest
