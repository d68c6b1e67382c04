-- A handle that is kept is taken out.
use Rattle.std.proofs.Common.{sym, ap}
use Rattle.std.specs.Prelude.{None}
use Rattle.sym_handles.specs.Kept.{Kept, without}
use Rattle.sym_handles.proofs.Histories.{kept_is, release_none, release_some, represents_released}
use Rattle.sym_handles.proofs.Slots.{left_is}
use Rattle.sym_handles.proofs.handles.Handles.release.Goals as goal

pub returns-in-None-clause-answer : goal.returns-in-None-clause-answer
returns-in-None-clause-answer c = λ history r. sym (release_none c.args.self.now history c.args.handle c.args.port r c.in-None.ensures)

pub returns-clause-answer : goal.returns-clause-answer
returns-clause-answer c = λ history r. sym
    (release_some c.args.self.now history c.args.handle c.args.port _ r (c.in-Some.ensures.found (record { number = 0; port = 0; place = None })))

pub returns-clause-kept : goal.returns-clause-kept
returns-clause-kept c =
    let left = left_is c.self.inside.records.slots c.self.inside.entries.items c.args.self.now.handles _ c.args.handle
    c.args.port c.in-Some.place (ap (λ (k : Kept). k.handles) c.self.view_is) c.in-Some.ensures c.take-taken.ensures.held in
    kept_is _ c.args.self.now.granted (without c.args.handle c.args.self.now.handles) (ap (λ (k : Kept). k.granted) c.self.view_is) left

pub returns-clause-ok : goal.returns-clause-ok
returns-clause-ok c = λ history r.
    let left = left_is c.self.inside.records.slots c.self.inside.entries.items c.args.self.now.handles _ c.args.handle
    c.args.port c.in-Some.place (ap (λ (k : Kept). k.handles) c.self.view_is) c.in-Some.ensures c.take-taken.ensures.held in
    represents_released c.args.self.now _ history c.args.handle r (ap (λ (k : Kept). k.granted) c.self.view_is) left
