-- The three steps, one after another.
use Rattle.std.proofs.lemmas.Result.{on_ok_weaker}
use Rattle.persist_store.proofs.StepLemmas.{full_after, two_leave, before_at_least, three_leave, stands_after}
use Rattle.persist_store.proofs.save_steps.write_slot.Goals as goal

pub returns-in_err-fill_slot-clause-stop : goal.returns-in_err-fill_slot-clause-stop
returns-in_err-fill_slot-clause-stop g c = λ file body here saving.
    before_at_least g.D.Disk.contents g.D.Disk.may_leave g.D.Disk.moment g.D.Disk.left_since c.args.disk.now c.fill_slot.new.disk file body
    (two_leave g.D.Disk.contents g.D.Disk.may_leave g.D.Disk.moment g.D.Disk.left_since c.args.disk.now
    c.close_gate.new.disk c.fill_slot.new.disk c.args.place file body c.args.behind.now saving
    (c.close_gate.ensures.stop file here saving.place_is) (c.in_ok-close_gate.ensures.done file here saving.place_is) c.fill_slot.ensures.stop)

pub returns-clause-done : goal.returns-clause-done
returns-clause-done g c =
    on_ok_weaker c.open_gate.result
    (λ done file body here saving. stands_after g.D.Disk.contents g.D.Disk.may_leave g.D.Disk.moment
    g.D.Disk.left_since c.fill_slot.new.disk c.open_gate.new.disk c.args.place file body c.args.behind.now saving
    (full_after g.D.Disk.contents g.D.Disk.may_leave g.D.Disk.moment g.D.Disk.left_since c.close_gate.new.disk c.fill_slot.new.disk
    c.args.place file body c.args.behind.now saving (c.in_ok-close_gate.ensures.done file here saving.place_is) c.in_ok-fill_slot.ensures.done)
    done)
    c.open_gate.ensures.done

pub returns-clause-stop : goal.returns-clause-stop
returns-clause-stop g c = λ file body here saving.
    three_leave g.D.Disk.contents g.D.Disk.may_leave g.D.Disk.moment g.D.Disk.left_since c.args.disk.now
    c.fill_slot.new.disk c.open_gate.new.disk c.args.place file body c.args.behind.now saving
    (two_leave g.D.Disk.contents g.D.Disk.may_leave g.D.Disk.moment g.D.Disk.left_since c.args.disk.now
    c.close_gate.new.disk c.fill_slot.new.disk c.args.place file body c.args.behind.now saving
    (c.close_gate.ensures.stop file here saving.place_is) (c.in_ok-close_gate.ensures.done file here saving.place_is) c.fill_slot.ensures.stop)
    (full_after g.D.Disk.contents g.D.Disk.may_leave g.D.Disk.moment g.D.Disk.left_since c.close_gate.new.disk c.fill_slot.new.disk
    c.args.place file body c.args.behind.now saving (c.in_ok-close_gate.ensures.done file here saving.place_is) c.in_ok-fill_slot.ensures.done)
    c.open_gate.ensures.stop
