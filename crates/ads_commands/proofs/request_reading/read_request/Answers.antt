use Rattle.std.proofs.Common.{◌≡◌, ◌<◌, ◌⊎◌, sym, arith, inl, inr}
use Rattle.spec_formats.proofs.RequestLemmas.{request_of-no_command}
use Rattle.ads_commands.proofs.RequestLemmas.{text_read, refused_size}
use Rattle.ads_commands.proofs.request_reading.read_request.Goals as goal

pub returns-then-command-eq0-clause-read : goal.returns-then-command-eq0-clause-read
returns-then-command-eq0-clause-read c =
    let off : (c.args.command ≡ 0) ⊎ (9 < c.args.command) = elim c.then-command-eq0.either [ inl zero ↦ inl zero | inr above ↦ inr above.1 ] in
    sym (request_of-no_command c.args.command c.args.bytes.now off)

pub returns-clause-text : goal.returns-clause-text
returns-clause-text c = rw c.ok_or.ensures.value
    (text_read c.request_in.result c.args.command c.args.bytes.now (λ i. omega (arith, c.type_inv.bytes i)) c.request_in.ensures)

pub returns-clause-bad_size : goal.returns-clause-bad_size
returns-clause-bad_size c = rw c.ok_or.ensures.value
    (refused_size c.request_in.result c.args.command c.args.bytes.now (λ i. omega (arith, c.type_inv.bytes i)) (omega arith, omega arith) c.request_in.ensures)
