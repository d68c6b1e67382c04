-- What is found among those that are kept is what the history says.
use Rattle.std.proofs.Common.{sym, ◌∙◌, ap}
use Rattle.std.specs.Prelude.{Option, None, ok_or}
use Rattle.return_codes.specs.declared.code.Code.TheVariants.{C711}
use Rattle.symbol_table.specs.declared.place.Place.{Place}
use Rattle.sym_handles.specs.Found.{look_among}
use Rattle.sym_handles.specs.Kept.{KeptHandle}
use Rattle.sym_handles.proofs.Histories.{look_in, place_or_code-ok_or}
use Rattle.sym_handles.proofs.KeptHandles.{place_contained}
use Rattle.sym_handles.proofs.handles.Handles.look.Goals as goal

pub returns-in-None-clause-answer : goal.returns-in-None-clause-answer
returns-in-None-clause-answer c = λ history r. ap look_among (sym c.in-None.ensures) ∙ sym (look_in c.args.self.now history c.args.handle c.args.port r)

pub returns-in-Some-clause-answer : goal.returns-in-Some-clause-answer
returns-in-Some-clause-answer c = λ history r.
    let d : KeptHandle = record { number = 0; port = 0; place = None } in
    let place = c.record_at.ensures.place d in
    c.ok_or.ensures.value ∙ ap (λ (o : Option Place). ok_or o C711) place ∙ place_or_code-ok_or _
    ∙ ap look_among (sym (c.in-Some.ensures.found d)) ∙ sym (look_in c.args.self.now history c.args.handle c.args.port r)

pub returns-in-Some-clause-kept : goal.returns-in-Some-clause-kept
returns-in-Some-clause-kept c =
    place_contained c.args.self.now.handles c.args.handle c.args.port c.in-Some.place
    c.record_at.result.place c.ok_or.result c.in-Some.ensures c.record_at.ensures.place c.ok_or.ensures.value
