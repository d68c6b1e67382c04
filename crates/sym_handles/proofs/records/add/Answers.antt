-- The new record stands at a key that no entry has.
use Rattle.std.proofs.Common.{List, [], ◌∷◌, ◌++◌, ◌∙◌, ap}
use Rattle.sym_handles.specs.declared.entries.Entry.{Entry}
use Rattle.sym_handles.specs.Records.{all_held}
use Rattle.sym_handles.proofs.Slots.{all_held-added}
use Rattle.sym_handles.proofs.records.add.Goals as goal

pub returns-clause-held : goal.returns-clause-held
returns-clause-held c =
    let e : Entry = record { handle = c.args.handle; key = c.in_ok-key.key } in
    let items = c.push_reserved.ensures.items ∙ ap (λ (es : List Entry). es ++ e ∷ []) c.in_ok-reserve.ensures.items in
    ap (all_held c.insert.new.self.slots) items
    ∙ all_held-added c.args.records.now.slots c.insert.new.self.slots c.args.entries.now.items e
    c.args.granted c.requires.index c.in_ok-key.ensures.was_vacant c.in_ok-key.ensures.updates.changed
    c.in_ok-key.ensures.updates.others
