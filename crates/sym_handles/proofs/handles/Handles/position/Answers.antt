-- The handle of the number, where its port is the one that is asked for.
use Rattle.std.proofs.Common.{◌≡◌, List, get_or, sym, ◌∙◌, ap, subst}
use Rattle.std.specs.Prelude.{All, None, ◌≢◌}
use Rattle.sym_handles.specs.declared.entries.Entry.{Entry}
use Rattle.sym_handles.specs.Found.{kept_handle, IsHandleAt}
use Rattle.sym_handles.specs.Kept.{KeptHandle, Kept}
use Rattle.sym_handles.specs.Records.{all_held, IsAt}
use Rattle.sym_handles.proofs.Slots.{not_there, found_here, other_port}
use Rattle.sym_handles.proofs.handles.Handles.position.Goals as goal

pub returns-in_err-place : goal.returns-in_err-place
returns-in_err-place c =
    let slots = c.self.inside.records.slots in
    let none = subst (λ (es : List Entry). All (λ (e : Entry). e.handle ≢ c.args.handle) es) c.as_slice.ensures.value c.in_err-place.ensures in
    rw c.from_residual.ensures
    (subst (λ (k : Kept). kept_handle c.args.handle c.args.port k.handles ≡ None) c.self.view_is
    (not_there slots c.self.inside.entries.items c.args.handle c.args.port none))

pub returns-then-record_at-port : goal.returns-then-record_at-port
returns-then-record_at-port c =
    let slots = c.self.inside.records.slots in
    let entries = c.self.inside.entries.items in
    let i = c.in_ok-place.place in
    let is_at = subst (λ (es : List Entry). IsAt es c.args.handle i) c.as_slice.ensures.value c.in_ok-place.ensures in
    let port = λ (d : KeptHandle). ap (λ (k : Kept). (get_or k.handles i d).port) c.self.view_is
    ∙ sym (c.record_at.ensures.port d) ∙ c.if-record_at-port.true in
    subst (λ (k : Kept). IsHandleAt k.handles c.args.handle c.args.port i) c.self.view_is
    (found_here slots entries c.args.handle c.args.port i c.self.invariant.index is_at port)

pub returns-else-record_at-port : goal.returns-else-record_at-port
returns-else-record_at-port c =
    let slots = c.self.inside.records.slots in
    let entries = c.self.inside.entries.items in
    let i = c.in_ok-place.place in
    let is_at = subst (λ (es : List Entry). IsAt es c.args.handle i) c.as_slice.ensures.value c.in_ok-place.ensures in
    let d : KeptHandle = record { number = 0; port = 0; place = None } in
    let ne : (get_or (all_held slots entries) i d).port ≢ c.args.port =
    λ e. c.if-record_at-port.false (c.record_at.ensures.port d ∙ sym (ap (λ (k : Kept). (get_or k.handles i d).port) c.self.view_is) ∙ e) in
    subst (λ (k : Kept). kept_handle c.args.handle c.args.port k.handles ≡ None) c.self.view_is
    (other_port slots entries c.args.handle c.args.port i d c.self.invariant.index is_at ne)
