use Rattle.std.proofs.Common.{◌+◌, ℕ, get_or, drop, sym, ◌∙◌, ap}
use Rattle.std.specs.Prelude.{Bool, ◌&&◌}
use Rattle.std.specs.List.{list_all}
use Rattle.std.proofs.lemmas.List.{at_drop_more}
use Rattle.std.proofs.lemmas.List.Folds.{list_all_at}
use Rattle.symbol_table.specs.Rows.{symbols_of_rows}
use Rattle.port_device.specs.Changed.{is_writable_number}
use Rattle.port_device.proofs.WritableLemmas.{number_writable}
use Rattle.port_device.proofs.writable.may_write_all.Goals as goal

pub returns-then-not-is_writable : goal.returns-then-not-is_writable
returns-then-not-is_writable c =
    let rows = c.args.rows.now in
    let numbers = c.args.numbers.now in
    let i = c.loop-number.number-index in
    let test = number_writable c.args.source.bytes rows (get_or numbers i 0) c.index-rows-number.result (c.requires i 0 c.loop-number-test.true)
    c.index-rows-number.is in
    sym (list_all_at (is_writable_number c.args.source.bytes (symbols_of_rows rows)) numbers i 0 c.loop-number-test.true
    (test ∙ sym c.is_writable.ensures ∙ c.if-not-is_writable.true))

pub loop-number-preserved : goal.loop-number-preserved
loop-number-preserved c =
    let rows = c.args.rows.now in
    let numbers = c.args.numbers.now in
    let i = c.loop-number.number-index in
    let may : ℕ → Bool = is_writable_number c.args.source.bytes (symbols_of_rows rows) in
    let test = number_writable c.args.source.bytes rows (get_or numbers i 0) c.index-rows-number.result (c.requires i 0 c.loop-number-test.true)
    c.index-rows-number.is in
    sym (at_drop_more (list_all may) numbers i 0 c.loop-number-test.true
    ∙ ap (λ b. b && list_all may (drop (i + 1) numbers)) (test ∙ sym c.is_writable.ensures ∙ c.if-not-is_writable.false))
    ∙ c.loop-number.invariant
