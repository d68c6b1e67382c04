use Rattle.std.proofs.Common.{◌≡◌, length, refl, rules}
use Rattle.session.proofs.HeaderWords.{data-behind}
use Rattle.session.proofs.RunLemmas.{ok-then}
use Rattle.session.proofs.data_frame.append_parts.Goals as goal

pub returns-clause-frame : goal.returns-clause-frame
returns-clause-frame c =
    let count : length c.headers_for.result ≡ 38 = search rules in
    ok-then c.put.result _ _ (λ put h is.
    data-behind h _ _ c.args.out.now c.headers_for.result c.put_array.new.self c.put32.new.out c.put32-2.new.out c.args.bytes.now c.put.new.self
    (c.headers_for.ensures h is) count refl refl c.in_ok-put_array.ensures.ok c.in_ok-put32.ensures.ok c.in_ok-put32-2.ensures.ok put)
    c.put.ensures.ok
