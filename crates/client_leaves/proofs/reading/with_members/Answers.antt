-- Each sub entry is read, since they stand whole.
use Rattle.std.proofs.Common.{◌≡◌}
use Rattle.std.specs.Prelude.{Some}
use Rattle.spec_formats.specs.TypeEntryReading.{type_entry_of}
use Rattle.type_upload.specs.Entry.{entry_meant}
use Rattle.client_leaves.specs.Entries.{entries_meant}
use Rattle.client_leaves.proofs.MemberLemmas.{members_there, members_more}
use Rattle.client_leaves.proofs.reading.with_members.Goals as goal

pub unreachable-requires : goal.unreachable-requires
unreachable-requires c =
    members_there (entries_meant c.args.entries.now) c.args.entry.subs c.members.i
    c.members.members.items c.args.entry.sub_bytes.now c.members.rest.now c.members-test.true
    c.members.invariant c.in-None.ensures.entry

pub members-preserved : goal.members-preserved
members-preserved c =
    let read : Some (entry_meant c.member_of.result.entry, c.in-Some.behind.now) ≡ type_entry_of c.members.rest.now =
    rw c.member_of.ensures.entry c.in-Some.ensures.entry in
    members_more (entries_meant c.args.entries.now) c.args.entry.subs c.members.i
    c.members.members.items c.push.new.self.items c.args.entry.sub_bytes.now c.members.rest.now
    c.in-Some.behind.now c.member_of.result c.members-test.true c.members.invariant read c.member_of.ensures.found c.in_ok-push-in-Some.ensures.items
