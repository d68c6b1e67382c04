-- One record more is moved, and in the end all are.
use Rattle.std.proofs.Common.{ℕ, ◌+◌, ◌<◌, length, sym, ◌∙◌, subst, arith}
use Rattle.std.proofs.lemmas.List.{get_or-map, length-map}
use Rattle.sym_handles.specs.declared.entries.Entry.{Entry}
use Rattle.sym_handles.specs.Kept.{HasPlaceInOldWorld}
use Rattle.sym_handles.specs.Records.{held}
use Rattle.sym_handles.proofs.Slots.{HasMoved, moved_more, moved_all, live_all}
use Rattle.sym_handles.proofs.records.move_all.Goals as goal

pub move_record-live-requires-clause-in_range : goal.move_record-live-requires-clause-in_range
move_record-live-requires-clause-in_range c =
    let old = c.args.records.now.slots in
    let i = c.loop-entry.entry-index in
    let d : Entry = record { handle = 0; key = 0 } in
    let e = held old d in
    let entries = c.args.entries.now in
    let n = length-map entries (held old) in
    let inside : i < length entries = c.loop-entry-test.true in
    let in_range = c.requires.in_range i e (omega (arith, inside, n)) in
    let same = get_or-map (held old) entries i d e inside ∙ sym (c.loop-entry.invariant.left i d (omega arith) inside) in
    subst (HasPlaceInOldWorld c.args.moves.now) same in_range

pub loop-entry-preserved : goal.loop-entry-preserved
loop-entry-preserved c =
    let old = c.args.records.now.slots in
    let new = c.move_record-live.new.records.slots in
    let i = c.loop-entry.entry-index in
    let d : Entry = record { handle = 0; key = 0 } in
    let entries = c.args.entries.now in
    let more = moved_more c.args.moves.now entries old c.loop-entry.records.slots new i
    c.loop-entry.live d c.requires.index c.loop-entry.invariant c.loop-entry-test.true
    c.move_record-live.ensures.moved.changed c.move_record-live.ensures.moved.others c.move_record-live.ensures.no_more in
    subst (λ (n : ℕ). HasMoved c.args.moves.now entries old new (i + 1) (c.loop-entry.live + n)) (sym c.move_record-live.ensures.live) more

pub returns-clause-held : goal.returns-clause-held
returns-clause-held c = moved_all c.args.moves.now c.args.entries.now c.args.records.now.slots
    c.loop-entry.records.slots c.loop-entry.entry-index c.loop-entry.live c.loop-entry-test.false c.loop-entry.invariant

pub returns-clause-live : goal.returns-clause-live
returns-clause-live c = live_all c.args.moves.now c.args.entries.now c.args.records.now.slots
    c.loop-entry.records.slots c.loop-entry.entry-index c.loop-entry.live c.loop-entry-test.false c.loop-entry.invariant
