use Rattle.std.proofs.Common.{refl, sym, ◌∙◌, arith, w8}
use borrow.Author.Rules.{elem_Fits}
use Rattle.ads_base.specs.NetId.{IsNetId}
use Rattle.cli_words.proofs.NetIdLemmas.{net_id_of-text, net_id_of-none}
use Rattle.cli_words.proofs.values.net_id.Goals as goal

pub returns-in-Some : goal.returns-in-Some
returns-in-Some c =
    let held = rw c.in-Some.is at c.read.type_inv in
    let array = held.1.1.1.1.0.1.1.0.1 in
    let valid : IsNetId c.in-Some.net.bytes = record { six = array.0.1; are_bytes = λ k. omega (arith, elem_Fits w8 w8 c.in-Some.net.bytes _ k array.1 tt) } in
    net_id_of-text c.in-Some.net c.args.word.now valid (sym (c.as_bytes.ensures.value ∙ c.as_str.ensures) ∙ c.in-Some.ensures.some)

pub returns-in-None : goal.returns-in-None
returns-in-None c = net_id_of-none c.args.word.now (λ bytes valid e. c.in-None.ensures.none refl bytes valid (c.as_bytes.ensures.value ∙ c.as_str.ensures ∙ e))
