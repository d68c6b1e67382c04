use Rattle.std.proofs.Common.{take, sym, ap, ◌∙◌}
use Rattle.spec_frames.specs.Division.{front_of}
use Rattle.ams_tcp.specs.Held.{Held}
use Rattle.ams_tcp.proofs.HistoryLemmas.{told_bytes}
use Rattle.ams_tcp.proofs.splitter.Splitter.broken.Goals as goal

pub returns : goal.returns
returns c = λ h s. told_bytes c.args.self.now h c.header_at.result
    (sym (ap (λ (held : Held). held.told_broken) c.self.view_is) ∙ c.if-not-self.false)
    (ap (λ (held : Held). front_of held.rest) (sym c.self.view_is) ∙ (c.self.invariant.1 c.if-not-self.false).0)
    s (c.header_at.ensures ∙ ap (λ bs. take 6 bs) c.rest.ensures)
