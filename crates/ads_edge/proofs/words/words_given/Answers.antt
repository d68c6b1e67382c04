use Rattle.std.proofs.Common.{◌≡◌, List, length, refl}
use Rattle.std.specs.Prelude.{IfOk, vec_len}
use Rattle.std.specs.Vec.Iter.{into_iter_items, into_iter_len}
use Rattle.std.proofs.lemmas.Iterator.Adapters.{YieldsList-from_vec, fact_from_collect}
use Rattle.ads_edge.proofs.words.words_given.Goals as goal

pub returns-in-Ok-collect-clause-words : goal.returns-in-Ok-collect-clause-words
returns-in-Ok-collect-clause-words c =
    let given = into_iter_items c.in-Ok.args in
    let len : into_iter_len c.in-Ok.args ≡ length given = c.in-Ok.args.rest.ok.0 in
    let all = fact_from_collect (λ xs v. (v.items ≡ xs) × (vec_len v ≡ length xs)) c.collect.result c.collect.ensures.ran
    (YieldsList-from_vec given refl len) in
    let one : IfOk c.collect.result (λ v. (v.items ≡ given) × (vec_len v ≡ length given)) = all in
    rw c.in-Ok.is ((rw c.in-Ok-collect.is at one).0)
