use Rattle.std.proofs.Common.{get_or, [], ◌∷◌}
use Rattle.std.proofs.lemmas.List.{get_or_default}
use Rattle.description_rules.specs.NameStarts.{IsAdded, starts_of}
use Rattle.description_rules.proofs.StartTurns.{left-none, left-more, left-end, on_ok}
use Rattle.description_rules.proofs.symbol_names.note_starts.Goals as goal

pub loop-i-init : goal.loop-i-init
loop-i-init c = left-none c.args.texts.now c.args.text.now

pub loop-i-preserved : goal.loop-i-preserved
loop-i-preserved c =
    let text = c.args.text.now in
    let i = c.loop-i.i in
    let x = get_or text i 0 in
    left-more c.args.texts.now c.loop-i.texts c.note_start.new.texts text i x c.loop-i-test.true
    (get_or_default text i 0 x c.loop-i-test.true) c.in_ok-note_start.ensures c.loop-i.invariant

pub returns : goal.returns
returns c =
    let text = c.args.text.now in
    on_ok (IsAdded (text ∷ []) c.loop-i.texts c.note.new.texts) (IsAdded (starts_of text) c.args.texts.now c.note.new.texts) c.note.result
    (λ added. left-end c.args.texts.now c.loop-i.texts c.note.new.texts text c.loop-i.i c.loop-i-test.false added c.loop-i.invariant) c.note.ensures
