use Rattle.std.proofs.Common.{◌≡◌, refl, rules, [], ◌∷◌, ap, ◌∙◌, length, ◌-◌}
use Rattle.ams_header.specs.Header.{ams_header_of}
use Rattle.spec_formats.specs.Header.{header_bytes, response_header}
use Rattle.session.proofs.FrameLemmas.{framed-is}
use Rattle.session.proofs.framing.fill_headers.Goals as goal

pub returns-clause-frame : goal.returns-clause-frame
returns-clause-frame c =
    let h = ams_header_of c.args.h.now in
    let header : c.put.new.out ≡ header_bytes (response_header h c.args.error (c.len.result - c.args.start - 38)) =
    c.put.ensures ∙ ap header_bytes c.answer_of.ensures in
    let long : length c.put.new.out ≡ 32 = search rules in
    framed-is h c.args.error c.args.start (c.len.result - c.args.start) c.args.out.now c.write_at.new.out c.write_at-2.new.out c.write_at-3.new.out
    (0 ∷ 0 ∷ []) c.to_le_bytes.result c.put.new.out c.requires.room (ap (λ n. n - c.args.start) c.len.ensures) refl c.to_le_bytes.ensures header long
    c.write_at.ensures c.write_at-2.ensures c.write_at-3.ensures
