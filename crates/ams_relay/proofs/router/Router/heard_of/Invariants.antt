use Rattle.std.proofs.Common.{◌≡◌, take}
use Rattle.std.specs.Prelude.{filter}
use Rattle.ams_relay.specs.Taking.{is_asked_heard}
use Rattle.ams_relay.proofs.router.Router.heard_of.Given as goal

-- those so far that are heard
abbrev pub invariant-loop-i : goal.invariant-loop-i
invariant-loop-i l = l.kept.items ≡ filter (is_asked_heard l.self.outlets) (take l.i l.asked.items)
