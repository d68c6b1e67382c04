use Rattle.std.proofs.Common.{refl}
use Rattle.type_layout.specs.Descriptions.{description_of}
use Rattle.server_core.proofs.ReloadLemmas.{exchanged_aligned, accepts_all}
use Rattle.server_core.proofs.server.Server.accept.Goals as goal

pub deliver-requires : goal.deliver-requires
deliver-requires c = exchanged_aligned c.args.self.now c.exchange.new.self
    (description_of c.args.d.now) c.in_ok-version.version c.requires.serving c.in_ok-version.ensures

pub returns : goal.returns
returns c =
    accepts_all c.args.self.now c.exchange.new.self _ (description_of c.args.d.now)
    c.in_ok-version.version c.in_ok-version.ensures c.count_accepted.ensures c.in_ok-deliver.ensures
    refl c.in_ok-push.ensures.ok refl
