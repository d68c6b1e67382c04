use Rattle.std.proofs.Common.{◌≡◌, length, rules}
use Rattle.session.proofs.HeaderWords.{headed-behind}
use Rattle.session.proofs.framing.put_answer.Goals as goal

pub returns-in-Ok-clause-frame : goal.returns-in-Ok-clause-frame
returns-in-Ok-clause-frame g c = λ h is.
    let count : length c.headers_for.result ≡ 38 = search rules in
    headed-behind h _ c.args.out.now c.headers_for.result c.put_array.new.self c.args.payload.now c.put_array-2.new.self (c.headers_for.ensures h is) count
    (search rules) c.in_ok-put_array.ensures.ok c.in-Ok.ensures.ok
