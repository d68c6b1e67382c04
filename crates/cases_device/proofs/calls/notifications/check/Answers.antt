use Rattle.std.proofs.Common.{◌≡◌, sym, ap, ◌∙◌, nat_eq, true, length}
use Rattle.std.specs.List.{list_any}
use Rattle.notify_table.specs.Table.{due_handles}
use Rattle.cases_device.proofs.Checkable.{checkable}
use Rattle.cases_device.proofs.calls.notifications.check.Goals as goal

-- it is among those that are due, and watches as many bytes
pub checked-requires : goal.checked-requires
checked-requires c =
    let listed : list_any (λ h. nat_eq h c.args.handle) (due_handles c.args.now c.args.watches.now) ≡ true =
    ap (list_any (λ h. nat_eq h c.args.handle)) (sym c.in_ok-handles.ensures.due ∙ sym c.as_slice.ensures) ∙ sym c.is_among.ensures ∙ c.if-not-is_among.false in
    checkable c.args.now c.args.handle (length c.args.bytes.now) c.args.watches.now c.spec-spec.result c.spec-spec.ensures.table listed c.spec-spec.ensures.spec
    (sym c.has_bytes.ensures ∙ c.if-not-has_bytes.false)
