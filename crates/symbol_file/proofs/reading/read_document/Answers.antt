use Rattle.std.proofs.Common.{◌<◌, ◌^◌, arith}
use Rattle.symbol_file.specs.Judged.{IsRight}
use Rattle.symbol_file.proofs.FitLemmas.{document_fits}
use Rattle.symbol_file.proofs.reading.read_document.Goals as goal

pub build-requires-clause-fits : goal.build-requires-clause-fits
build-requires-clause-fits c =
    let most : c.args.signals < 2 ^ 32 = omega arith in
    let right : IsRight c.args.signals c.args.d.now c.in-Ok-Ok.known = rw c.in-Ok-Ok.field-0-is at c.in-Ok-Ok.ensures in
    document_fits c.args.signals c.requires.table c.args.d.now most c.requires.is right.right
