use Rattle.std.proofs.Common.{ap, ◌∙◌, sym, set}
use Rattle.std.proofs.lemmas.Result.{on_ok_weaker}
use Rattle.notify_table.specs.Specs.{address_of}
use Rattle.session.specs.NoteGroups.{GroupText, addressed, group_with}
use Rattle.session.proofs.NotesGrouped.{joined_at, joined_none}
use Rattle.session.proofs.notes_groups.NoteGroups.add.Goals as goal

pub returns-in-Some-clause-groups : goal.returns-in-Some-clause-groups
returns-in-Some-clause-groups c =
    let s = addressed c.args.port (address_of c.args.to) c.args.handle c.args.bytes.now in
    rw (← c.self.view_is) (on_ok_weaker c.add.result (λ e.
    ap (λ (g : GroupText). set c.self.inside.groups.items c.in-Some.at g) (e ∙ ap (group_with s.sample) c.index_mut.ensures.value)
    ∙ sym (joined_at s c.self.inside.groups.items c.in-Some.at c.index_mut.result.now (sym c.group_for.ensures ∙ c.in-Some.is))) c.add.ensures.ok)

pub returns-in-None-clause-groups : goal.returns-in-None-clause-groups
returns-in-None-clause-groups c =
    let s = addressed c.args.port (address_of c.args.to) c.args.handle c.args.bytes.now in
    rw (← c.self.view_is) (on_ok_weaker c.begin.result (λ e.
    e ∙ sym (joined_none s c.self.inside.groups.items (sym c.group_for.ensures ∙ c.in-None.is))) c.begin.ensures.ok)
