use Rattle.std.proofs.lemmas.Bool.{eq-eqb, ne_eqb}
use Rattle.load_maker.proofs.turns.put_access.Goals as goal

pub returns-then-x-eq0 : goal.returns-then-x-eq0
returns-then-x-eq0 c = rw (eq-eqb _ 0 c.if-x-eq0.true) c.put_read.ensures

pub returns-else-x-eq0 : goal.returns-else-x-eq0
returns-else-x-eq0 c = rw (ne_eqb _ 0 c.if-x-eq0.false) c.put_write.ensures
