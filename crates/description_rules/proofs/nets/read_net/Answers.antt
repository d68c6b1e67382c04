use Rattle.std.proofs.Common.{◌≡◌, ℕ, List, Option, Some, None, refl, sym, ap, ◌∙◌}
use Rattle.ads_base.specs.NetId.{IsNetId, net_text}
use Rattle.spec_rules.specs.Nets.{net_of}
use Rattle.description_rules.proofs.NetLemmas.{net_of-net_text, text_of_net}
use Rattle.description_rules.proofs.nets.read_net.Goals as goal

unread : (text : List ℕ) → ((bytes : List ℕ) → IsNetId bytes → text ≡ net_text bytes → ⊥) → (o : Option (List ℕ)) → net_of text ≡ o → None ≡ o
unread text none None e = refl
unread text none (Some bytes) e = let is = text_of_net text bytes e in absurd (none bytes is.0 is.1)

pub returns-in-None : goal.returns-in-None
returns-in-None c = unread c.args.text.now (c.in-None.ensures.none refl) (net_of c.args.text.now) refl

pub returns-in-Some : goal.returns-in-Some
returns-in-Some c =
    sym (net_of-net_text c.args.text.now c.six_bytes.result (c.in-Some.ensures.some ∙ ap net_text (sym c.six_bytes.ensures.same)) c.six_bytes.ensures.net)
