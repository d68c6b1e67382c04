use Rattle.std.proofs.Common.{◌∙◌, sym, subst, ◌≡◌}
use Rattle.spec_formats.specs.Ranges.{range_of}
use Rattle.index_groups.specs.Access.{answer_meant, IsWithin}
use Rattle.std.specs.Prelude.{Ok, Err, IfOk}
use Rattle.return_codes.specs.declared.code.Code.{Code}
use Rattle.index_groups.specs.declared.access.Reach.{Reach}
use Rattle.session.proofs.WatchedReach.{watched_in_area, area_len, watched_nowhere, watched_by_value}
use Rattle.session.proofs.watching.watched_plain.Goals as goal

pub returns-then-is_value_by_handle-clause-watched : goal.returns-then-is_value_by_handle-clause-watched
returns-then-is_value_by_handle-clause-watched c = λ a asks.
    let x = c.args.asked.now in
    watched_by_value a x.group x.offset x.len c.watched_by_handle.result
    (sym c.is_value_by_handle.ensures ∙ c.if-is_value_by_handle.true) (c.watched_by_handle.ensures.watched a c.args.port.now c.number.ensures asks)

pub returns-then-not-is_bytes_or_bit-clause-watched : goal.returns-then-not-is_bytes_or_bit-clause-watched
returns-then-not-is_bytes_or_bit-clause-watched c = λ a asks.
    let x = c.args.asked.now in
    watched_nowhere a x.group x.offset x.len (sym c.is_bytes_or_bit.ensures ∙ c.if-not-is_bytes_or_bit.true)
    (sym c.is_value_by_handle.ensures ∙ c.if-is_value_by_handle.false)

pub returns-in-Ok-clause-watched : goal.returns-in-Ok-clause-watched
returns-in-Ok-clause-watched c = λ a asks.
    let x = c.args.asked.now in
    watched_in_area a c.args.port.now x.group x.offset x.len (Ok c.in-Ok.range) asks.held
    (sym c.is_bytes_or_bit.ensures ∙ c.if-not-is_bytes_or_bit.false)
    (subst (λ s. answer_meant (Ok c.in-Ok.range) ≡ range_of s x.group x.offset x.len) c.sizes.ensures c.in-Ok.ensures.rule)
    (subst (λ s. IfOk {E = Code} (Ok c.in-Ok.range) (IsWithin s)) c.sizes.ensures c.in-Ok.ensures.within)

pub returns-in-Err-clause-watched : goal.returns-in-Err-clause-watched
returns-in-Err-clause-watched c = λ a asks.
    let x = c.args.asked.now in
    watched_in_area a c.args.port.now x.group x.offset x.len (Err c.in-Err.code) asks.held
    (sym c.is_bytes_or_bit.ensures ∙ c.if-not-is_bytes_or_bit.false)
    (subst (λ s. answer_meant (Err c.in-Err.code) ≡ range_of s x.group x.offset x.len) c.sizes.ensures c.in-Err.ensures.rule)
    (subst (λ s. IfOk {T = Reach} (Err c.in-Err.code) (IsWithin s)) c.sizes.ensures c.in-Err.ensures.within)

pub returns-in-Ok-clause-len : goal.returns-in-Ok-clause-len
returns-in-Ok-clause-len c =
    let x = c.args.asked.now in
    area_len _ x.group x.offset x.len (Ok c.in-Ok.range) (sym c.is_bytes_or_bit.ensures ∙ c.if-not-is_bytes_or_bit.false) c.in-Ok.ensures.rule
