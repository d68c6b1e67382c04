use Rattle.std.proofs.Common.{refl, subst, ◌∙◌}
use Rattle.ams_relay.specs.Taking.{HoldsWith, Takes}
use Rattle.ams_relay.proofs.OwnLemmas.{seat_kept}
use Rattle.ams_relay.proofs.TakingLemmas.{history_of, fed, takes_none, then_takes}
use Rattle.ams_relay.proofs.router.Router.take_fed.Goals as goal

pub loop-init : goal.loop-init
loop-init c = record { takes = λ b s w. takes_none c.args.from.number _ c.args.self.now b s w; places = refl }

pub take_next-requires : goal.take_next-requires
take_next-requires c = seat_kept c.args.self.now c.loop.self c.args.from c.loop.invariant.places c.requires

pub returns-in_err-take_next-clause-places : goal.returns-in_err-take_next-clause-places
returns-in_err-take_next-clause-places c = c.take_next.ensures.places ∙ c.loop.invariant.places

pub loop-preserved : goal.loop-preserved
loop-preserved c = record {
  takes = λ b s w.
      let n = c.args.from.number in
      let first = c.loop.invariant.takes b s w in
      then_takes n c.loop.stream c.take_next.new.stream c.loop.self c.take_next.new.self b s first
      (subst (λ more. Takes more n c.take_next.new.stream c.take_next.new.self b first.next) c.if-branch.true
      (c.in_ok-take_next.ensures.takes b first.next first.holds));
  places = c.take_next.ensures.places ∙ c.loop.invariant.places;
}

pub returns-clause-takes : goal.returns-clause-takes
returns-clause-takes c = λ b s w.
    let n = c.args.from.number in
    let new = c.take_next.new.self in
    let stream = c.take_next.new.stream in
    let start = fed n c.args.bytes.now b c.args.stream.now c.feed.new.self c.args.self.now s w
    (c.in_ok-feed.ensures.ok (history_of c.args.stream.now w.connection) w.stream) in
    let first = c.loop.invariant.takes b _ start in
    let last = subst (λ more. Takes more n stream new b first.next) c.if-branch.false (c.in_ok-take_next.ensures.takes b first.next first.holds) in
    subst (HoldsWith n stream new b) first.same_end last

pub returns-clause-places : goal.returns-clause-places
returns-clause-places c = c.take_next.ensures.places ∙ c.loop.invariant.places
