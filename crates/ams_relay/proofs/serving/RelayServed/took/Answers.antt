use Rattle.std.proofs.Common.{refl, subst, ◌∙◌}
use Rattle.std.proofs.lemmas.List.{append-nil}
use Rattle.ads_served.specs.Due.{FitsOffer}
use Rattle.ams_relay.proofs.MoveLemmas.{took_stands}
use Rattle.ams_relay.proofs.serving.RelayServed.took.Goals as goal

pub returns-clause-follows : goal.returns-clause-follows
returns-clause-follows c = λ x left bytes s offered count.
    let old = c.args.self.now in
    let new = record old { router = record old.router { outlets = c.took.new.self } } in
    let stands = took_stands c.args.conn c.args.n left bytes old new x.running (record { holds = s.holds; streams = s.streams }) offered count
    (subst (FitsOffer c.args.n) offered c.requires) refl refl c.took.ensures.taken in
    record { working = s.working; holds = stands.holds; streams = stands.streams; notes = append-nil x.notes ∙ s.notes }
