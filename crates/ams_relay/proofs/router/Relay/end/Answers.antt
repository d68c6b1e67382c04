use Rattle.ams_relay.proofs.EndLemmas.{streams_ended, streams_absent}
use Rattle.ams_relay.proofs.router.Relay.end.Goals as goal

pub returns-in-Some-clause-follows : goal.returns-in-Some-clause-follows
returns-in-Some-clause-follows c = λ b s h.
    let old = c.args.self.now in
    record {
      holds = c.end.ensures.follows b s h.holds;
      streams = streams_ended c.args.number c.in-Some.place old.router.outlets c.end.new.self.outlets old.streams.items c.remove_at.new.column.items s
          c.end.ensures.gone c.remove_at.ensures c.in-Some.ensures.found h.streams;
    }

pub returns-in_default-clause-follows : goal.returns-in_default-clause-follows
returns-in_default-clause-follows c = λ b s h.
    let old = c.args.self.now in
    record {
      holds = c.end.ensures.follows b s h.holds;
      streams = streams_absent c.args.number b old.router.outlets c.end.new.self.outlets old.streams.items s c.end.ensures.gone c.in_default.ensures.absent
          h.holds.outlets h.streams;
    }
