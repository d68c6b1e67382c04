use Rattle.std.proofs.Common.{◌≡◌, ◌≢◌, sym, ◌∙◌, length}
use Rattle.std.specs.Prelude.{Some, None}
use Rattle.std.proofs.lemmas.Bool.{eqb-true, eq-eqb, false≢true}
use Rattle.symbol_info.specs.Entry.{entry_meant}
use Rattle.client_replies.specs.Parts.{taken_entry_in}
use Rattle.client_replies.proofs.EntryLines.{lines_begin, lines_more, lines_none, lines_end, lines_beyond}
use Rattle.client_replies.proofs.entries.entry_lines.Goals as goal

pub entries-init : goal.entries-init
entries-init c = lines_begin c.args.count c.new-outputs.result c.args.bytes.now c.new-outputs.ensures

pub entries-preserved : goal.entries-preserved
entries-preserved c =
    let taken : taken_entry_in c.entries.rest.now ≡ Some (entry_meant c.in-Some.entry, c.in-Some.behind.now) = sym c.in-Some.ensures.entry in
    lines_more c.args.count c.entries.i c.entries.outputs c.push.new.self c.args.bytes.now c.entries.rest.now c.in-Some.behind.now (entry_meant c.in-Some.entry)
    c.in_ok-line-in-Some.line c.entries-test.true taken c.in_ok-line-in-Some.ensures c.in_ok-push-in-Some.ensures.ok c.entries.invariant

pub returns-in-None : goal.returns-in-None
returns-in-None c =
    let taken : taken_entry_in c.entries.rest.now ≡ None = sym c.in-None.ensures.entry in
    lines_none c.args.count c.entries.i c.entries.outputs c.args.bytes.now c.entries.rest.now c.entries-test.true taken c.entries.invariant

pub returns-then-is_empty : goal.returns-then-is_empty
returns-then-is_empty c =
    let none : length c.entries.rest.now ≡ 0 = eqb-true (length c.entries.rest.now) 0 (sym c.is_empty.ensures ∙ c.if-is_empty.true) in
    lines_end c.args.count c.entries.i c.entries.outputs c.args.bytes.now c.entries.rest.now c.entries-test.false none c.entries.invariant

pub returns-else-is_empty : goal.returns-else-is_empty
returns-else-is_empty c =
    let some : length c.entries.rest.now ≢ 0 = λ e. false≢true (sym c.if-is_empty.false ∙ (c.is_empty.ensures ∙ eq-eqb (length c.entries.rest.now) 0 e)) in
    lines_beyond c.args.count c.entries.i c.entries.outputs c.args.bytes.now c.entries.rest.now c.entries-test.false some c.entries.invariant
