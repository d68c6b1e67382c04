-- A connection is shut.
use Rattle.std.proofs.Common.{map}
use Rattle.replay_script.specs.Script.{line_meant}
use Rattle.replay_script.proofs.ToldLemmas.{from_shut, shut_is}
use Rattle.replay_script.proofs.script_wire.ScriptWire.put_shut.Goals as goal

pub invariant_of-self-2 : goal.invariant_of-self-2
invariant_of-self-2 c = rw c.in_ok-push.ensures.items (from_shut _ _ _ _ _ _ _ c.self.invariant c.args.conn)

pub returns-clause-ok : goal.returns-clause-ok
returns-clause-ok c =
    shut_is c.args.self.now (map line_meant c.self.inside.lines.items) c.self.inside.at c.self.inside.log.items c.push.new.self.items
    c.self.inside.starts c.self.inside.events c.self.inside.ends c.self.inside.faults c.self.inside.wants
    c.args.conn c.self.view_is c.in_ok-push.ensures.items
