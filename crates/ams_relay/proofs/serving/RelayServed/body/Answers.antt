use Rattle.std.proofs.Common.{◌≡◌, [], true, refl, ◌∙◌, ap}
use Rattle.std.proofs.lemmas.Result.{IfOk-weaker}
use Rattle.spec_store.specs.BodyText.{body_text, is_body_text, entries_in, entries_of}
use Rattle.ams_relay.proofs.serving.RelayServed.body.Goals as goal

-- no entries are a body text
none_are_text : is_body_text (body_text []) ≡ true
unfolding entries_in entries_of
none_are_text = refl

pub returns-clause-text : goal.returns-clause-text
returns-clause-text c =
    IfOk-weaker c.copy_of.result (λ body. body ≡ body_text []) _ (λ body same. λ x s. ap is_body_text same ∙ none_are_text) c.copy_of.ensures
