use Rattle.ams_relay.proofs.EndLemmas.{streams_opened}
use Rattle.ams_relay.proofs.PromiseLemmas.{on_both}
use Rattle.ams_relay.proofs.router.Relay.open_new.Goals as goal

pub returns-clause-follows : goal.returns-clause-follows
returns-clause-follows c = on_both c.open.result (λ follows outlets b s h is_new.
    let old = c.args.self.now in
    record {
      holds = follows b s h.holds is_new;
      streams = streams_opened c.args.number c.in_ok-stream.stream old.router.outlets c.open.new.self.outlets old.streams.items c.push.new.self.items s outlets
          c.in_ok-push.ensures.items is_new c.requires c.in_ok-stream.ensures.nothing h.streams;
    }) c.open.ensures.follows c.open.ensures.outlets
