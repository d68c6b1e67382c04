use Rattle.std.proofs.Common.{◌++◌, sym, ap, ◌∙◌}
use Rattle.std.proofs.lemmas.List.{take_rest}
use Rattle.spec_formats.specs.Header.{header_bytes}
use Rattle.ams_header.specs.Header.{ams_header_of}
use Rattle.ams_header.proofs.header.read.Goals as goal

pub returns-clause-payload : goal.returns-clause-payload
returns-clause-payload c = take_rest c.args.ams.now 32

pub returns-clause-text : goal.returns-clause-text
returns-clause-text c =
    c.header_in.ensures.text ∙ ap (λ l. header_bytes (ams_header_of c.header_in.result) ++ l) (sym (take_rest c.args.ams.now 32))
