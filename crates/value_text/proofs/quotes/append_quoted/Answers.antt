use Rattle.std.proofs.Common.{ap, ◌∙◌, ◌++◌, take, flat_map, arith}
use Rattle.spec_formats.specs.ValueText.{quoted_byte}
use Rattle.value_text.proofs.QuoteLemmas.{quoted-end}
use Rattle.value_text.proofs.quotes.append_quoted.Goals as goal

pub returns-clause-ok : goal.returns-clause-ok
returns-clause-ok c = quoted-end c.args.out.now c.args.content.now c.loop-byte.out c.push-2.new.self c.loop-byte.byte-index
    (omega arith) (c.loop-byte.invariant ∙ ap (λ x. x ++ flat_map quoted_byte (take c.loop-byte.byte-index c.args.content.now)) c.in_ok-push.ensures.ok)
    c.in_ok-push-2.ensures.ok
