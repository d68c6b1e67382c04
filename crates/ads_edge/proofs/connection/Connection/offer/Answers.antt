use Rattle.std.proofs.Common.{◌≡◌, ◌++◌, take, drop, arith}
use Rattle.std.proofs.lemmas.Grind.{common_steps}
use Rattle.ads_edge.specs.Waiting.{waiting}
use Rattle.ads_edge.proofs.RestLemmas.{rest_taken}
use Rattle.ads_edge.proofs.connection.Connection.offer.Goals as goal

-- a first part was taken, some was sent, and more was taken
pub returns-clause-taken : goal.returns-clause-taken
returns-clause-taken c =
    let bytes = c.args.bytes.now in
    let first = c.in_ok-first.first in
    let more = c.in_ok-more.more in
    let behind : waiting c.put-2.new.self ≡ waiting c.send.new.self.out ++ take more (drop first bytes) =
    grind (arith, common_steps, c.in_ok-more.ensures.ok) in
    rest_taken (waiting c.args.self.now.out) (waiting c.put.new.self) (waiting c.send.new.self.out) (waiting c.put-2.new.self) bytes first more
    c.in_ok-first.ensures.ok c.send.ensures.rest behind
