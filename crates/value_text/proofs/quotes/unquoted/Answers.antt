use Rattle.std.proofs.Common.{refl}
use Rattle.std.proofs.lemmas.Bool.{false≢true}
use Rattle.std.proofs.lemmas.List.{take_rest}
use Rattle.value_text.proofs.QuoteLemmas.{begins_quoted, quote_first, quoted-whole, one_more, no_more, nul_free-none, nul_free-push}
use Rattle.value_text.proofs.quotes.unquoted.Goals as goal

pub returns-then-not-begins_with_quote-clause-none : goal.returns-then-not-begins_with_quote-clause-none
returns-then-not-begins_with_quote-clause-none c = λ none content each free e.
    false≢true (c.if-not-begins_with_quote.ensures.1 (begins_quoted content c.args.text.now e))

pub bytes-init : goal.bytes-init
bytes-init c =
    let begins = c.if-not-begins_with_quote.ensures.0 refl in
    record {
      whole = rw (c.new-content.ensures, take_rest) (quote_first c.args.text.now begins.0 begins.1);
      no_nul = rw c.new-content.ensures nul_free-none;
    }

pub returns-in_default-clause-none : goal.returns-in_default-clause-none
returns-in_default-clause-none c = λ none content each free e.
    no_more c.bytes.content c.bytes.rest.now c.args.text.now content c.bytes.invariant.whole
    (λ last. false≢true (c.bytes-test.ensures.1 last)) (λ byte behind small some left. c.in_default.ensures.none refl byte behind small some left) each free e

pub bytes-preserved : goal.bytes-preserved
bytes-preserved c = record {
  whole = rw c.in_ok-push.ensures.ok
      (one_more c.bytes.content c.bytes.rest.now c.in-Some.behind.now c.args.text.now c.in-Some.byte c.bytes.invariant.whole c.in-Some.ensures.some);
  no_nul = rw c.in_ok-push.ensures.ok (nul_free-push c.bytes.content c.in-Some.byte c.bytes.invariant.no_nul c.in-Some.ensures.no_nul);
}

pub returns-clause-some : goal.returns-clause-some
returns-clause-some c =
    (quoted-whole c.bytes.content c.args.text.now c.bytes.rest.now c.bytes.invariant.whole (c.bytes-test.ensures.0 refl), c.bytes.invariant.no_nul)
