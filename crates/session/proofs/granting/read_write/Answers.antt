use Rattle.std.proofs.Common.{sym, ◌∙◌}
use Rattle.spec_formats.specs.Request.{ReadWrite}
use Rattle.std.proofs.lemmas.Bool.{eq-eqb, ne_eqb}
use Rattle.spec_machine.specs.MoreActs.{type_by_text}
use Rattle.session.proofs.MeaningLemmas.{is-plain, read_write-is-meant, nothing-strict, nothing-other, typed-answers, typed-leaves, meant-answers, meant-leaves}
use Rattle.session.proofs.GrantLemmas.{read_write-asked}
use Rattle.session.proofs.granting.read_write.Goals as goal

pub returns-then-not-is_wide-clause-answer : goal.returns-then-not-is_wide-clause-answer
returns-then-not-is_wide-clause-answer c =
    let asked = c.args.asked.now in
    let r = ReadWrite asked.group asked.offset asked.len asked.bytes.now in
    meant-answers c.args.port.now c.args.handles.now r r c.read_write_plain.result _ _
    (λ a asks. is-plain a r c.args.port.now c.args.handles.now asks (sym c.is_wide.ensures ∙ c.if-not-is_wide.true))
    (λ a asks. nothing-strict a r c.args.port.now c.args.handles.now asks (sym c.is_wide.ensures ∙ c.if-not-is_wide.true))
    c.read_write_plain.ensures.answer

pub returns-then-not-is_wide-clause-leaves : goal.returns-then-not-is_wide-clause-leaves
returns-then-not-is_wide-clause-leaves c =
    let asked = c.args.asked.now in
    let r = ReadWrite asked.group asked.offset asked.len asked.bytes.now in
    meant-leaves c.args.port.now c.args.handles.now _ r r c.read_write_plain.result
    (λ a asks. is-plain a r c.args.port.now c.args.handles.now asks (sym c.is_wide.ensures ∙ c.if-not-is_wide.true))
    (λ a asks. nothing-strict a r c.args.port.now c.args.handles.now asks (sym c.is_wide.ensures ∙ c.if-not-is_wide.true))
    c.read_write_plain.ensures.leaves

pub returns-then-not-is_wide-clause-asked : goal.returns-then-not-is_wide-clause-asked
returns-then-not-is_wide-clause-asked c =
    let asked = c.args.asked.now in
    read_write-asked c.args.port.now c.args.handles.now asked.group asked.offset asked.len asked.bytes.now c.read_write_plain.result _ _ c.requires.some
    (returns-then-not-is_wide-clause-answer c)

pub returns-clause-answer : goal.returns-clause-answer
returns-clause-answer c =
    let asked = c.args.asked.now in
    let r = ReadWrite asked.group asked.offset asked.len asked.bytes.now in
    let meant = ReadWrite asked.group asked.offset c.value_len-len.result c.name_meant-bytes.result.now in
    meant-answers c.args.port.now c.args.handles.now r meant c.read_write_plain-2.result _ _
    (λ a asks. read_write-is-meant a asked.group asked.offset asked.len asked.bytes.now c.value_len-len.result c.name_meant-bytes.result.now
    c.args.port.now c.args.handles.now asks (sym c.is_wide.ensures ∙ c.if-not-is_wide.false)
    c.name_meant-bytes.ensures (c.value_len-len.ensures a c.args.handles.now asks))
    (λ a asks. nothing-other a asked.group asked.offset asked.len asked.bytes.now (ne_eqb asked.group type_by_text c.if-asked-eq-TYPE_BY_TEXT.false))
    c.read_write_plain-2.ensures.answer

pub returns-clause-leaves : goal.returns-clause-leaves
returns-clause-leaves c =
    let asked = c.args.asked.now in
    let r = ReadWrite asked.group asked.offset asked.len asked.bytes.now in
    let meant = ReadWrite asked.group asked.offset c.value_len-len.result c.name_meant-bytes.result.now in
    meant-leaves c.args.port.now c.args.handles.now _ r meant c.read_write_plain-2.result
    (λ a asks. read_write-is-meant a asked.group asked.offset asked.len asked.bytes.now c.value_len-len.result c.name_meant-bytes.result.now
    c.args.port.now c.args.handles.now asks (sym c.is_wide.ensures ∙ c.if-not-is_wide.false)
    c.name_meant-bytes.ensures (c.value_len-len.ensures a c.args.handles.now asks))
    (λ a asks. nothing-other a asked.group asked.offset asked.len asked.bytes.now (ne_eqb asked.group type_by_text c.if-asked-eq-TYPE_BY_TEXT.false))
    c.read_write_plain-2.ensures.leaves

pub returns-clause-asked : goal.returns-clause-asked
returns-clause-asked c =
    let asked = c.args.asked.now in
    read_write-asked c.args.port.now c.args.handles.now asked.group asked.offset asked.len asked.bytes.now c.read_write_plain-2.result _ _ c.requires.some
    (returns-clause-answer c)

pub returns-then-asked-eq-TYPE_BY_TEXT-clause-answer : goal.returns-then-asked-eq-TYPE_BY_TEXT-clause-answer
returns-then-asked-eq-TYPE_BY_TEXT-clause-answer c =
    let asked = c.args.asked.now in
    typed-answers c.args.port.now c.args.handles.now asked.group asked.offset asked.len asked.bytes.now c.type_by_text.result _ _
    (sym c.is_wide.ensures ∙ c.if-not-is_wide.false) (eq-eqb asked.group type_by_text c.if-asked-eq-TYPE_BY_TEXT.true) c.type_by_text.ensures.answer

pub returns-then-asked-eq-TYPE_BY_TEXT-clause-leaves : goal.returns-then-asked-eq-TYPE_BY_TEXT-clause-leaves
returns-then-asked-eq-TYPE_BY_TEXT-clause-leaves c =
    let asked = c.args.asked.now in
    typed-leaves c.args.port.now c.args.handles.now asked.group asked.offset asked.len asked.bytes.now c.type_by_text.result
    (sym c.is_wide.ensures ∙ c.if-not-is_wide.false) (eq-eqb asked.group type_by_text c.if-asked-eq-TYPE_BY_TEXT.true)

pub returns-then-asked-eq-TYPE_BY_TEXT-clause-asked : goal.returns-then-asked-eq-TYPE_BY_TEXT-clause-asked
returns-then-asked-eq-TYPE_BY_TEXT-clause-asked c =
    let asked = c.args.asked.now in
    read_write-asked c.args.port.now c.args.handles.now asked.group asked.offset asked.len asked.bytes.now c.type_by_text.result _ _ c.requires.some
    (returns-then-asked-eq-TYPE_BY_TEXT-clause-answer c)
