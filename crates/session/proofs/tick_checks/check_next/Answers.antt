use Rattle.std.proofs.Common.{◌≡◌, length, arith, rules}
use Rattle.notify_table.specs.Rounds.{next_handle}
use Rattle.notify_table.specs.Specs.{watched_meant}
use Rattle.notify_table.specs.Table.{watched_len}
use Rattle.session.proofs.TickChecks.{found_is_short}
use Rattle.session.proofs.tick_checks.check_next.Goals as goal

pub check_found-requires-clause-short : goal.check_found-requires-clause-short
check_found-requires-clause-short c =
    let short = found_is_short (next_handle c.args.round.now) c.args.round.now.table c.spec-spec.result c.spec-spec.ensures.table c.spec-spec.ensures.spec in
    let long : length c.bytes_in-bytes.result.now ≡ watched_len (watched_meant c.spec-spec.result.watched) = search rules in
    omega (arith, short, long)
