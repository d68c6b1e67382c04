use Rattle.std.proofs.Common.{◌∙◌, ap, sym}
use Rattle.std.proofs.lemmas.List.{append-nil}
use Rattle.spec_formats.specs.Header.{header_bytes, response_header}
use Rattle.spec_machine.specs.Replies.{response_packet}
use Rattle.ams_header.specs.Header.{ams_header_of}
use Rattle.ams_relay.proofs.giving.not_found.Goals as goal

pub returns : goal.returns
unfolding response_packet
returns c =
    c.put.ensures ∙ ap header_bytes c.answer_of.ensures ∙ ap (λ code. header_bytes (response_header (ams_header_of c.args.h.now) code 0)) c.number.ensures
    ∙ sym (append-nil (header_bytes (response_header (ams_header_of c.args.h.now) 7 0)))
