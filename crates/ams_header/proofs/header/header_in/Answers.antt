use Rattle.std.proofs.Common.{◌≤◌, length, drop, Some, ap, refl, ◌∙◌, arith}
use Rattle.spec_formats.specs.Header.{AmsHeader}
use Rattle.spec_formats.proofs.HeaderLemmas.{header_of-long, header_bytes-header_at}
use Rattle.ams_header.proofs.HeaderLemmas.{header_at-is, text_in_front}
use Rattle.ams_header.proofs.header.header_in.Goals as goal

pub returns-clause-header : goal.returns-clause-header
returns-clause-header c =
    header_of-long c.args.ams.now c.requires ∙ ap (λ (h : AmsHeader). Some h) (header_at-is c.args.ams.now _ _ _ _ _ _ _
    c.address_from.ensures c.address_from-2.ensures c.get16.ensures c.get16-2.ensures c.get32.ensures c.get32-2.ensures c.get32-3.ensures)

pub returns-clause-text : goal.returns-clause-text
returns-clause-text c =
    let text = header_bytes-header_at c.args.ams.now (λ i. omega (arith, c.type_inv.ams i)) c.requires in
    let same = header_at-is c.args.ams.now _ _ _ _ _ _ _
    c.address_from.ensures c.address_from-2.ensures c.get16.ensures c.get16-2.ensures c.get32.ensures c.get32-2.ensures c.get32-3.ensures in
    text_in_front c.args.ams.now (drop 32 c.args.ams.now) _ _ text same refl
