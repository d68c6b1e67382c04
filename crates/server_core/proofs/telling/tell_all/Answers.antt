use Rattle.std.proofs.Common.{refl, sym, ap, ◌∙◌, subst, arith}
use Rattle.std.proofs.lemmas.List.{get_or-set_other, get_or_default}
use Rattle.std.proofs.Math.ListN.{length-set}
use Rattle.spec_machine.specs.Reloads.{client_reloaded}
use Rattle.session.specs.Reloading.{IsReloadable}
use Rattle.server_core.specs.declared.turned.Turned.{Turned}
use Rattle.server_core.specs.Asked.{IsAsked}
use Rattle.server_core.proofs.AskedLemmas.{each_asked, asked_more}
use Rattle.server_core.proofs.telling.tell_all.Goals as goal

pub loop-i-init : goal.loop-i-init
loop-i-init c = record { many = refl; others = λ k d at. refl; asked = λ w v held net k d below. absurd (omega arith) }

pub tell_one-requires : goal.tell_one-requires
tell_one-requires c =
    let i = c.loop-i.i in
    let t = c.index-list-i.result in
    let same = c.loop-i.invariant.others i t (omega arith) in
    λ open_. subst (λ (u : Turned). IsReloadable c.args.moves.now c.args.ports.now u.session) (sym same)
    (c.requires i t (omega (arith, c.loop-i.invariant.many)) (sym (ap (λ (u : Turned). u.skip) same) ∙ open_))

pub loop-i-preserved : goal.loop-i-preserved
loop-i-preserved c =
    let i = c.loop-i.i in
    let list = c.loop-i.list in
    let t = c.index-list-i.result in
    let new = c.tell_one.new.turned in
    let inv = c.loop-i.invariant in
    record {
      many = length-set list i new ∙ inv.many;
      others = λ k d at. get_or-set_other list i k new d (λ e. absurd (omega (arith, at, e))) ∙ inv.others k d (omega (arith, at));
      asked = λ w v held net.
          asked_more (λ (a : Turned) (b : Turned). IsAsked w.plant v.plant (client_reloaded c.args.time w v) a b)
          c.args.list.now list i new (omega (arith, inv.many))
          (λ d. subst (λ (a : Turned). IsAsked w.plant v.plant (client_reloaded c.args.time w v) a new)
          (get_or_default list i t d (omega (arith, inv.many)) ∙ inv.others i d (omega arith)) (c.in_ok-tell_one.ensures w v held net))
          (inv.asked w v held net);
    }

pub returns : goal.returns
returns c = λ w v held net.
    let inv = c.loop-i.invariant in
    each_asked w.plant v.plant (client_reloaded c.args.time w v) c.args.list.now c.loop-i.list inv.many
    (λ k d below. inv.asked w v held net k d (omega (arith, below)))
