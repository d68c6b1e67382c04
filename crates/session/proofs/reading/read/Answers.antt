use Rattle.std.proofs.Common.{sym, ◌∙◌}
use Rattle.spec_formats.specs.Request.{Read}
use Rattle.spec_machine.specs.MoreActs.{states_reach}
use Rattle.spec_machine.specs.Reads.{read_act}
use Rattle.session.specs.Asking.{plain_asked, meant_in}
use Rattle.session.proofs.OwnLemmas.{data-is-no-state, states-asked, meant-asked, act-answers, states-answer}
use Rattle.session.proofs.ReadLemmas.{read-asked}
use Rattle.session.proofs.reading.read.Goals as goal

pub returns-then-asked-eq-PROCESS_BYTES-clause-answer : goal.returns-then-asked-eq-PROCESS_BYTES-clause-answer
returns-then-asked-eq-PROCESS_BYTES-clause-answer c =
    let asked = c.args.asked.now in
    let port = c.args.port.now in
    let kept = c.args.handles.now in
    act-answers port kept (Read asked.group asked.offset asked.len) (λ a. plain_asked a (meant_in a (Read asked.group asked.offset asked.len)))
    c.read_meant.result _ _
    (λ a asks. meant-asked a port kept asked.group asked.offset asked.len asks (data-is-no-state port.manner asked.group c.if-asked-eq-PROCESS_BYTES.true))
    c.read_meant.ensures.answer

pub returns-then-asked-eq-PROCESS_BYTES-clause-asked : goal.returns-then-asked-eq-PROCESS_BYTES-clause-asked
returns-then-asked-eq-PROCESS_BYTES-clause-asked c =
    let asked = c.args.asked.now in
    read-asked c.args.port.now c.args.handles.now asked.group asked.offset asked.len c.read_meant.result _ _ c.requires.some
    (returns-then-asked-eq-PROCESS_BYTES-clause-answer c)

pub returns-then-is_device_data-clause-answer : goal.returns-then-is_device_data-clause-answer
returns-then-is_device_data-clause-answer c =
    let asked = c.args.asked.now in
    let port = c.args.port.now in
    let kept = c.args.handles.now in
    act-answers port kept (Read asked.group asked.offset asked.len) (λ a. read_act (states_reach a.asker.port.number asked.offset asked.len))
    c.read_states.result _ _
    (λ a asks. states-asked a port kept asked.group asked.offset asked.len asks (sym c.is_device_data.ensures ∙ c.if-is_device_data.true))
    (states-answer port kept asked.offset asked.len c.read_states.result _ _ c.read_states.ensures.answer)

pub returns-then-is_device_data-clause-asked : goal.returns-then-is_device_data-clause-asked
returns-then-is_device_data-clause-asked c =
    let asked = c.args.asked.now in
    read-asked c.args.port.now c.args.handles.now asked.group asked.offset asked.len c.read_states.result _ _ c.requires.some
    (returns-then-is_device_data-clause-answer c)

pub returns-clause-answer : goal.returns-clause-answer
returns-clause-answer c =
    let asked = c.args.asked.now in
    let port = c.args.port.now in
    let kept = c.args.handles.now in
    act-answers port kept (Read asked.group asked.offset asked.len) (λ a. plain_asked a (meant_in a (Read asked.group asked.offset asked.len)))
    c.read_meant-2.result _ _
    (λ a asks. meant-asked a port kept asked.group asked.offset asked.len asks (sym c.is_device_data.ensures ∙ c.if-is_device_data.false))
    c.read_meant-2.ensures.answer

pub returns-clause-asked : goal.returns-clause-asked
returns-clause-asked c =
    let asked = c.args.asked.now in
    read-asked c.args.port.now c.args.handles.now asked.group asked.offset asked.len c.read_meant-2.result _ _ c.requires.some
    (returns-clause-answer c)
