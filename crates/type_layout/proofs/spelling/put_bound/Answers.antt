-- The text that is put is the bound's.
use Rattle.std.proofs.Common.{◌≡◌, arith}
use Rattle.std.proofs.lemmas.Grind.{common_steps}
use Rattle.spec_plant.specs.Spelling.{bound_text}
use Rattle.type_layout.specs.Shapes.{bound_of}
use Rattle.type_layout.proofs.spelling.put_bound.Goals as goal

pub returns-clause-ok : goal.returns-clause-ok
returns-clause-ok c =
    let text : c.as_bytes.result.now ≡ bound_text (bound_of c.args.bound) = grind (arith, common_steps) in
    rw text at c.put.ensures.ok
