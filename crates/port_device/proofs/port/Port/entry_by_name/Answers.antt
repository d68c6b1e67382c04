use Rattle.std.proofs.Common.{sym, ◌∙◌, ap}
use Rattle.std.specs.Prelude.{Some}
use Rattle.name_paths.specs.Path.{steps_of}
use Rattle.spec_formats.specs.Groups.{ExtendedInfoByName}
use Rattle.spec_machine.specs.World.{setup_of}
use Rattle.spec_machine.specs.ByName.{read_write_group}
use Rattle.port_device.specs.Answers.{path_entry_act}
use Rattle.port_device.proofs.AskLemmas.{entry_asked, entry_unknown}
use Rattle.port_device.proofs.ReadLemmas.{reads_as}
use Rattle.port_device.proofs.port.Port.entry_by_name.Goals as goal

pub returns-in-Some-clause-answer : goal.returns-in-Some-clause-answer
returns-in-Some-clause-answer c =
    reads_as c.args.self.now c.entry_by_path.result (λ w p. path_entry_act w.profile.manner p c.in-Some.path c.args.len)
    (λ w d p. read_write_group (setup_of w) d p (Some ExtendedInfoByName) c.args.len c.args.name.now) c.args.out.now c.entry_by_path.new.out
    (λ w d p h. entry_asked (setup_of w) d p c.in-Some.path c.args.len c.args.name.now
    (ap steps_of (sym c.without_nul.ensures) ∙ sym c.read.ensures ∙ c.in-Some.is))
    c.entry_by_path.ensures.answer

pub returns-in-None-clause-answer : goal.returns-in-None-clause-answer
returns-in-None-clause-answer c = λ w d p h.
    entry_unknown w d p c.args.len c.args.name.now c.args.out.now (ap steps_of (sym c.without_nul.ensures) ∙ sym c.read.ensures ∙ c.in-None.is)
