use Rattle.std.proofs.Common.{◌≡◌, ◌<◌, ◌^◌, ◌++◌, sym, ◌∙◌, ap, append_assoc, rules}
use Rattle.std.specs.Int.{w16, w32, to_le_bytes}
use Rattle.spec_formats.specs.Reply.{written_bytes, ReadState}
use Rattle.session.proofs.RunLemmas.{ok-then, state-runs, state-written}
use Rattle.session.proofs.session.Session.state.Goals as goal

pub returns-clause-runs : goal.returns-clause-runs
returns-clause-runs c =
    let ads : c.state-ads.result.0 < 2 ^ 16 = search rules in
    let device : c.state-ads.result.1 < 2 ^ 16 = search rules in
    let code = to_le_bytes w32 0 in
    let first = to_le_bytes w16 c.state-ads.result.0 in
    let second = to_le_bytes w16 c.state-ads.result.1 in
    ok-then c.put16-2.result _ _ (λ put a h.
    let whole : c.put16-2.new.out ≡ c.args.out.now ++ written_bytes (ReadState 0 c.state-ads.result.0 c.state-ads.result.1) =
    put ∙ ap (λ x. x ++ second) (c.in_ok-put16.ensures.ok ∙ ap (λ x. x ++ first) c.in_ok-put32.ensures.ok)
    ∙ append_assoc (c.args.out.now ++ code) first second ∙ append_assoc c.args.out.now code (first ++ second)
    ∙ ap (λ x. c.args.out.now ++ x) (sym (state-written c.state-ads.result.0 c.state-ads.result.1)) in
    state-runs a c.args.port.now c.args.self.now c.state-ads.result.0 c.state-ads.result.1
    _ _ h c.state-ads.ensures.ads c.state-ads.ensures.device ads device whole)
    c.put16-2.ensures.ok
