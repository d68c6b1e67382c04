use Rattle.std.proofs.Common.{refl, arith}
use Rattle.std.proofs.lemmas.Bool.{le-leb, lt-leb, eqb-false}
use Rattle.std.proofs.lemmas.Bool.Decides.{nat_tests}
use Rattle.notify_table.specs.Table.{handle_of}
use Rattle.notify_table.proofs.NumberedLemmas.{length-by_number}
use Rattle.notify_table.proofs.TableLemmas.{full_table}
use Rattle.notify_table.proofs.watches.Watches.is_full.Goals as goal

pub returns-then-len-ge-MAX_LIVE-clause-full : goal.returns-then-len-ge-MAX_LIVE-clause-full
returns-then-len-ge-MAX_LIVE-clause-full c =
    let full = full_table c.self.inside.schedule c.self.inside.granted c.self.invariant in
    rw (← c.self.view_is, full, ← c.len.ensures) (rw (le-leb 512 c.len.result (omega arith)) refl)

pub returns-else-len-ge-MAX_LIVE-clause-full : goal.returns-else-len-ge-MAX_LIVE-clause-full
returns-else-len-ge-MAX_LIVE-clause-full c =
    let full = full_table c.self.inside.schedule c.self.inside.granted c.self.invariant in
    rw (← c.self.view_is, full, ← c.len.ensures) (rw (lt-leb 512 c.len.result (omega arith)) (grind (arith, nat_tests)))

pub returns-else-len-ge-MAX_LIVE-clause-room : goal.returns-else-len-ge-MAX_LIVE-clause-room
returns-else-len-ge-MAX_LIVE-clause-room c = λ room.
    let live = length-by_number handle_of c.self.inside.granted c.self.inside.schedule c.self.invariant.within in
    let last = eqb-false _ _ room in
    rw (← c.self.view_is) (omega (arith, live, c.len.ensures), omega arith)
