-- A text with a slash is that of its parts, and one without that of an address.
use Rattle.std.proofs.Common.{◌≡◌, ◌==◌, ◌∷◌, ◌++◌, ◌∙◌, ap, sym, inr, arith}
use Rattle.std.specs.List.{after_first}
use Rattle.daemon_words.specs.declared.ip_net.IpNet.{IpNet}
use Rattle.daemon_words.specs.Nets.{HasParts, IsNetText, IsPlain}
use Rattle.daemon_words.proofs.NetLemmas.{no_slash, one_slash, rebuilt}
use Rattle.daemon_words.proofs.TextLemmas.{if_some}
use Rattle.daemon_words.proofs.ip_net.IpNet.of_text.Goals as goal

pub returns-in-Some-clause-some : goal.returns-in-Some-clause-some
returns-in-Some-clause-some c =
    let parts = c.in-Some.ensures.byte (omega arith) (λ w o found. found) in
    let split : c.args.text.now ≡ c.in-Some.address.now ++ 47 ∷ c.in-Some.bits.now =
    rebuilt c.args.text.now parts.2 ∙ (ap (λ a. a ++ 47 ∷ after_first (λ b. b == 47) c.args.text.now) (sym parts.0)
    ∙ ap (λ b. c.in-Some.address.now ++ 47 ∷ b) (sym parts.1)) in
    if_some c.slashed.result (λ net. IsPlain net.address × HasParts c.in-Some.address.now c.in-Some.bits.now net) (IsNetText c.args.text.now)
    (λ net is. (is.0, inr (c.in-Some.address.now, c.in-Some.bits.now, split, is.1))) c.slashed.ensures.some

pub returns-in-Some-clause-none : goal.returns-in-Some-clause-none
returns-in-Some-clause-none c =
    let parts = c.in-Some.ensures.byte (omega arith) (λ w o found. found) in λ none.
    one_slash c.args.text.now c.in-Some.address.now c.in-Some.bits.now parts.0 parts.1 parts.2 (c.slashed.ensures.none none)

pub returns-in-None-clause-none : goal.returns-in-None-clause-none
returns-in-None-clause-none c = λ none.
    no_slash c.args.text.now (c.in-None.ensures.byte (omega arith) (λ w o found. found)) (c.lone.ensures.none none)
