-- The offer fails, as its line says, or as much is taken as there is room.
use Rattle.std.proofs.Common.{◌≡◌, ℕ, ◌≤◌, length, take, map, rules, sym, ap, ◌∙◌, subst}
use Rattle.std.proofs.lemmas.List.{length-take-le}
use Rattle.spec_machine.specs.Peers.{rooms_after}
use Rattle.replay_script.specs.Rooms.{HoldsRooms}
use Rattle.replay_script.specs.Script.{line_meant}
use Rattle.replay_script.proofs.ToldLemmas.{from_took, from_lost, took_is, lost_is}
use Rattle.replay_script.proofs.script_wire.ScriptWire.put_offer.Goals as goal

pub invariant_of-self-then-has_among : goal.invariant_of-self-then-has_among
invariant_of-self-then-has_among c =
    rw c.in_ok-push.ensures.items (from_lost _ _ _ _ _ _ _ c.self.invariant c.args.conn (sym c.has_among.ensures ∙ c.if-has_among.true))

pub invariant_of-self-2 : goal.invariant_of-self-2
invariant_of-self-2 c =
    let n = c.most-n.result in
    let taken = c.in_ok-taken.taken in
    let is : taken ≡ take n c.args.bytes.now = search rules in
    let within : n ≤ length c.args.bytes.now = c.most-n.ensures.within in
    let lengthy : length taken ≡ n = ap length is ∙ length-take-le n c.args.bytes.now within in
    rw c.in_ok-push-2.ensures.items
    (from_took _ _ _ _ _ _ _ c.self.invariant _ c.args.conn (length c.args.bytes.now) taken (sym c.has_among.ensures ∙ c.if-has_among.false)
    (λ rs holds. lengthy ∙ c.most-n.ensures.most rs holds)
    (λ rs holds. let P : ℕ → Type 0 = λ k. HoldsRooms c.take.new.self (rooms_after rs c.args.conn k) in subst P (sym lengthy) (c.take.ensures rs holds)))

pub returns-then-has_among-clause-lost : goal.returns-then-has_among-clause-lost
returns-then-has_among-clause-lost c =
    lost_is c.args.self.now (map line_meant c.self.inside.lines.items) c.self.inside.at c.self.inside.log.items c.push.new.self.items
    c.self.inside.starts c.self.inside.events c.self.inside.ends c.self.inside.faults c.saturating_add-self-inside.result c.self.inside.wants
    c.args.conn c.self.view_is c.in_ok-push.ensures.items c.saturating_add-self-inside.ensures

pub returns-clause-taken : goal.returns-clause-taken
returns-clause-taken c =
    let is : c.in_ok-taken.taken ≡ take c.most-n.result c.args.bytes.now = search rules in
    took_is c.args.self.now (map line_meant c.self.inside.lines.items) c.self.inside.at c.self.inside.log.items c.push-2.new.self.items
    c.self.inside.starts c.self.inside.events c.self.inside.ends c.self.inside.faults c.self.inside.wants
    c.args.conn (length c.args.bytes.now) c.in_ok-taken.taken (take c.most-n.result c.args.bytes.now) c.self.view_is c.in_ok-push-2.ensures.items is
