-- One signal more.
use Rattle.std.proofs.Common.{rules, ◌≡◌, ◌∙◌, get_or, refl, subst, sym}
use Rattle.daemon_signals.specs.Values.{IsPlayed}
use Rattle.daemon_signals.specs.contracts.played.PlayedSignal.TheImpl as played
use Rattle.daemon_signals.proofs.PlayedLemmas.{none_played, played_next}
use Rattle.daemon_signals.proofs.reading.read_sources.Goals as goal

pub loop-table-init : goal.loop-table-init
loop-table-init g c = record { played = none_played played.ghosts.wave c.new-list.result c.new-list.ensures; held = refl }

pub loop-table-preserved : goal.loop-table-preserved
loop-table-preserved g c =
    let at : get_or c.args.tables.now c.loop-table.table-index c.table-item.result ≡ c.table-item.result = search rules in
    let one = subst (λ t. IsPlayed t (played.ghosts.wave c.in-Ok.played)) (sym at) c.in-Ok.ensures.played in
    record {
      played = played_next played.ghosts.wave c.args.tables.now c.loop-table.table-index c.table-item.result c.loop-table.list c.put.new.list
          c.in-Ok.played c.loop-table-test.true c.in_ok-put-in-Ok.ensures c.loop-table.invariant.played one;
      held = c.played_of.ensures.held ∙ c.loop-table.invariant.held;
    }
