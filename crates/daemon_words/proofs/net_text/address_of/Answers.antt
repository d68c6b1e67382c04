-- The text is that of one address, and it is a mapped one.
use Rattle.std.proofs.Common.{refl, subst}
use Rattle.std.specs.Net.Grammar.{IsIpText}
use Rattle.daemon_words.proofs.NetLemmas.{not_plain}
use Rattle.daemon_words.proofs.net_text.address_of.Goals as goal

pub returns-in-Some-clause-none : goal.returns-in-Some-clause-none
returns-in-Some-clause-none c = λ _ a plain is.
    not_plain c.args.text.now c.in-Ok-V6.address (subst (IsIpText c.args.text.now) c.in-Ok-V6.field-0-is c.in-Ok-V6.ensures.value)
    (c.in-Some.ensures.found.0 refl) a plain is
