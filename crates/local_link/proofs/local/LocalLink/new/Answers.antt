use Rattle.std.proofs.Common.{sym, ap, ◌∙◌}
use Rattle.ads_outside.specs.LinkState.{LinkHistory}
use Rattle.spec_local.specs.LinkLog.{IsLogOf, machine_after_log}
use Rattle.local_link.proofs.local.LocalLink.new.Goals as goal

pub returns-clause-told : goal.returns-clause-told
unfolding IsLogOf machine_after_log
returns-clause-told g c = λ s serves moment. record {
  is_log = tt;
  stands = λ works. record { core = serves; moment = ap (λ (h : LinkHistory). h.moment) c.new.ensures ∙ sym moment };
}
