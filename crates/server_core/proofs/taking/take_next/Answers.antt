use Rattle.std.proofs.Common.{refl, sym, ◌∙◌}
use Rattle.spec_machine.specs.Piece.{with_one_taken}
use Rattle.server_core.specs.Stands.{conn_of, history_of}
use Rattle.server_core.proofs.TakingLemmas.{with_one, goes_still, taken_one, counts_request, takes_frame, takes_open, takes_broken}
use Rattle.server_core.proofs.taking.take_next.Goals as goal

pub returns-in_ok-answer-in-Frame-clause-takes : goal.returns-in_ok-answer-in-Frame-clause-takes
returns-in_ok-answer-in-Frame-clause-takes c = λ x held s.
    let conn = conn_of c.args.stream.now c.args.session.now c.args.queue.now c.args.closes.now in
    let passed = c.pass_frame.new.self in
    let mid = conn_of passed c.args.session.now c.args.queue.now c.args.closes.now in
    let new = conn_of passed c.answer.new.session c.answer.new.queue c.answer.new.closes in
    let d = c.args.device.now in
    let k = x.connection in
    let is_open = sym s.outlet.closing ∙ c.requires.open in
    let h = history_of c.args.stream.now k in
    let packet = c.in-Frame.packet.now in
    let is_next = c.in-Frame.ensures.answer h s.stream in
    let stands = taken_one x.world.plant conn mid k packet s is_next (c.pass_frame.ensures.stands h s.stream) refl refl refl in
    let first = goes_still mid d c.args.summary.now c.count_request.new.self x (with_one_taken k) held stands
    (counts_request c.args.summary.now c.count_request.new.self k c.count_request.ensures) refl refl in
    let second = c.in_ok-answer-in-Frame.ensures.goes passed (with_one x) held stands in
    takes_frame conn mid new d c.answer.new.device c.args.summary.now c.count_request.new.self c.answer.new.summary x packet is_open is_next first second

pub returns-in-NotYet-clause-takes : goal.returns-in-NotYet-clause-takes
returns-in-NotYet-clause-takes c = λ x held s.
    let conn = conn_of c.args.stream.now c.args.session.now c.args.queue.now c.args.closes.now in
    takes_open conn c.args.device.now c.args.summary.now x held s (c.in-NotYet.ensures.answer (history_of c.args.stream.now x.connection) s.stream)

pub returns-in-Broken-clause-takes : goal.returns-in-Broken-clause-takes
returns-in-Broken-clause-takes c = λ x held s.
    let conn = conn_of c.args.stream.now c.args.session.now c.args.queue.now c.args.closes.now in
    takes_broken conn _ c.args.device.now c.args.summary.now x held s (c.in-Broken.ensures.answer (history_of c.args.stream.now x.connection) s.stream)
    refl refl refl
