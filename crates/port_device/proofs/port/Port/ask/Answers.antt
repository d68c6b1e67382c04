use Rattle.std.proofs.Common.{rules, ◌≡◌, false, ap, sym, ◌∙◌, refl}
use Rattle.std.specs.Prelude.{None, Some}
use Rattle.return_codes.specs.declared.code.Code.TheVariants.{C702}
use Rattle.spec_formats.specs.Groups.{group_of}
use Rattle.spec_machine.specs.World.{setup_of}
use Rattle.spec_machine.specs.ByName.{read_write_group}
use Rattle.port_device.specs.Groups.{without_handles}
use Rattle.port_device.proofs.AskLemmas.{is_name, asked_nothing, asked_otherwise}
use Rattle.port_device.proofs.GroupLemmas.{known, unknown}
use Rattle.port_device.proofs.ReadLemmas.{refusal_answers}
use Rattle.port_device.proofs.port.Port.ask.Goals as goal

pub returns-in_default : goal.returns-in_default
returns-in_default c =
    let x = c.args in
    let g = c.in_default.field-0 in
    let other : is_name g ≡ false = search rules in
    record {
      answer = λ w d p h. refusal_answers w (read_write_group (setup_of w) d p (without_handles (group_of x.group)) x.len x.name.now) C702 x.out.now
          (ap (λ o. read_write_group (setup_of w) d p (without_handles o) x.len x.name.now)
          (sym (known c.of.result g g x.group c.in_default.is refl c.of.ensures))
          ∙ asked_otherwise (setup_of w) d p g x.len x.name.now other);
      no_memory = tt;
    }

pub returns-in_default-2-clause-answer : goal.returns-in_default-2-clause-answer
returns-in_default-2-clause-answer c = λ w d p h.
    let x = c.args in
    refusal_answers w (read_write_group (setup_of w) d p (without_handles (group_of x.group)) x.len x.name.now) C702 x.out.now
    (ap (λ o. read_write_group (setup_of w) d p (without_handles o) x.len x.name.now) (sym (unknown c.of.result x.group c.in_default.is c.of.ensures))
    ∙ asked_nothing (setup_of w) d p x.len x.name.now)
