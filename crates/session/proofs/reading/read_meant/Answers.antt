use Rattle.spec_formats.specs.Request.{Read}
use Rattle.session.proofs.MeaningLemmas.{read-is-meant}
use Rattle.session.proofs.OwnLemmas.{plain-answers}
use Rattle.session.proofs.reading.read_meant.Goals as goal

pub returns-clause-answer : goal.returns-clause-answer
returns-clause-answer c =
    let asked = c.args.asked.now in
    plain-answers c.args.port.now c.args.handles.now (Read asked.group asked.offset asked.len) (Read asked.group asked.offset c.read_len-len.result)
    c.read_plain.result _ _ (λ a asks. read-is-meant a asked.group asked.offset asked.len c.read_len-len.result (c.read_len-len.ensures a asks))
    c.read_plain.ensures.answer
