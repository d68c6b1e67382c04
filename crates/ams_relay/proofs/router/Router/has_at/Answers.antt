use Rattle.std.proofs.Common.{List, ℕ, sym, ap, ◌∙◌}
use Rattle.std.specs.Prelude.{Some}
use Rattle.ams_relay.specs.Peers.{net_of}
use Rattle.ams_relay.proofs.OwnerLemmas.{bytes_same}
use Rattle.ams_relay.proofs.router.Router.has_at.Goals as goal

pub returns-in-Some : goal.returns-in-Some
returns-in-Some c = λ same.
    ap net_of (sym c.owned_at.ensures ∙ c.in-Some.is)
    ∙ ap (λ (x : List ℕ). Some x) (bytes_same c.in-Some.owned.bytes c.args.net.bytes (sym c.is.ensures ∙ same))
