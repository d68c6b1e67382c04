use Rattle.std.proofs.Common.{◌≡◌, ◌++◌, rules}
use Rattle.std.specs.Prelude.{OnOk}
use Rattle.std.proofs.lemmas.Result.{on_ok_weaker}
use Rattle.server_core.specs.Checking.{AreAsked}
use Rattle.server_core.proofs.CheckLemmas.{halves_asked}
use Rattle.server_core.proofs.checking.+check_parts+fn-check_parts-join_mut+arg2+fn-check_parts-join_mut+arg3.Goals as goal

pub returns : goal.returns
returns g t c =
    let front = c.split_at_mut-front.result.0.now in
    let back = c.split_at_mut-front.result.1.now in
    let first : AreAsked c.args.ports.now c.args.net.bytes c.args.now front c.front-1.given.0 = search rules in
    let second : OnOk c.join_mut-first.result.1 (AreAsked c.args.ports.now c.args.net.bytes c.args.now back c.back-1.given.0) = search rules in
    let whole : front ++ back ≡ c.args.list.now = search rules in
    on_ok_weaker c.join_mut-first.result.1 (λ asked.
    halves_asked c.args.ports.now c.args.net.bytes c.args.now front c.front-1.given.0 back c.back-1.given.0 c.args.list.now first asked whole) second
