use Rattle.std.proofs.Common.{◌≡◌, true, false, sym, ◌∙◌, ap, rules}
use Rattle.std.specs.Prelude.{Some, not, is_none, bytes_eq, option_map}
use Rattle.spec_machine.specs.Packets.{source_rights}
use Rattle.spec_machine.specs.World.{World, setup_of, port_numbered}
use Rattle.type_layout.specs.Descriptions.{rights_of}
use Rattle.ams_header.specs.Header.{ams_header_of}
use Rattle.port_device.specs.Holds.{HoldsPorts}
use Rattle.port_device.specs.PortMemory.{memory_numbered}
use Rattle.session.specs.Takes.{HasAddress}
use Rattle.session.proofs.CheckLemmas.{given-are, passed, port-there, some-of, stopped}
use Rattle.session.proofs.checks.examined_addresses.Goals as goal

pub returns-then-is_none : goal.returns-then-is_none
returns-then-is_none c = λ w x ams held address checks pay.
    let h = ams_header_of c.args.h in
    let source : source_rights (setup_of w) h ≡ Some (rights_of c.in-Some.rights) =
    sym (c.rights.ensures ∙ given-are w c.args.net.bytes c.args.admission.now address h.source.net) ∙ ap (option_map rights_of) c.in-Some.is in
    let own : not (bytes_eq h.target.net c.args.net.bytes) ≡ false = search rules in
    let none : is_none (memory_numbered h.target.port c.args.ports.now.ports) ≡ true = search rules in
    let asked = passed _ _ _ _ checks.decision (ap is_none source) in
    let here = passed _ _ _ _ asked (ap (λ n. not (bytes_eq h.target.net n)) address.net_is ∙ own) in
    (checks.header, stopped _ _ _ _ here (port-there w c.args.ports.now h.target.port held ∙ none))

pub returns : goal.returns
returns c = λ w x ams held address checks pay.
    let h = ams_header_of c.args.h in
    let source : source_rights (setup_of w) h ≡ Some (rights_of c.in-Some.rights) =
    sym (c.rights.ensures ∙ given-are w c.args.net.bytes c.args.admission.now address h.source.net) ∙ ap (option_map rights_of) c.in-Some.is in
    let own : not (bytes_eq h.target.net c.args.net.bytes) ≡ false = search rules in
    let some : is_none (memory_numbered h.target.port c.args.ports.now.ports) ≡ false = search rules in
    let there = port-there w c.args.ports.now h.target.port held ∙ some in
    let port = some-of (port_numbered h.target.port w.plant.ports) there in
    let asked = passed _ _ _ _ checks.decision (ap is_none source) in
    let here = passed _ _ _ _ asked (ap (λ n. not (bytes_eq h.target.net n)) address.net_is ∙ own) in
    c.examined_command.ensures w x ams port.0 (record { header = checks.header; decision = passed _ _ _ _ here there }) source port.1 pay
