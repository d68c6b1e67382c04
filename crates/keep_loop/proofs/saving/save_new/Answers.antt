-- What the answer of the store's save makes of a body that does not stand.
use Rattle.std.proofs.Common.{◌∙◌, refl, sym, inr}
use Rattle.keep_loop.proofs.SavingLemmas.{left_by_save, told_by_save, done_within, failed_within}
use Rattle.keep_loop.proofs.saving.save_new.Goals as goal

pub returns-in-Ok-Done-clause-saved : goal.returns-in-Ok-Done-clause-saved
returns-in-Ok-Done-clause-saved g c = record {
  body = c.args.body.now;
  is = refl;
  differs = sym c.stands.ensures ∙ c.if-stands.false;
  within = done_within c.args.store.now c.args.body.now c.requires.open (rw c.in-Ok-Done.field-0-is at c.in-Ok-Done.ensures.refused);
  store = rw c.in-Ok-Done.field-0-is at c.in-Ok-Done.ensures.store;
  told = told_by_save g.D.Disk.contents g.D.Disk.may_leave g.D.Disk.moment g.D.Disk.left_since
      c.args.disk.now c.save.new.disk c.args.body.now _ c.in-Ok-Done.field-0-is c.in-Ok-Done.ensures.done;
  left = left_by_save g.D.Disk.contents g.D.Disk.may_leave g.D.Disk.moment g.D.Disk.left_since c.args.disk.now
      c.save.new.disk c.args.store.now c.args.body.now c.requires.ready c.requires.open c.save.ensures.stop;
}

pub returns-in-Ok-Failed-clause-saved : goal.returns-in-Ok-Failed-clause-saved
returns-in-Ok-Failed-clause-saved g c = (
  record {
    body = c.args.body.now;
    is = refl;
    differs = sym c.stands.ensures ∙ c.if-stands.false;
    left = left_by_save g.D.Disk.contents g.D.Disk.may_leave g.D.Disk.moment g.D.Disk.left_since c.args.disk.now
        c.save.new.disk c.args.store.now c.args.body.now c.requires.ready c.requires.open c.save.ensures.stop;
  },
  failed_within c.args.store.now c.args.body.now c.requires.open (rw c.in-Ok-Failed.field-0-is at c.in-Ok-Failed.ensures.refused),
)

pub returns-in-Ok-Limit-clause-saved : goal.returns-in-Ok-Limit-clause-saved
returns-in-Ok-Limit-clause-saved g c = (
  record { body = c.args.body.now; is = refl; differs = sym c.stands.ensures ∙ c.if-stands.false },
  (c.in-Ok-Limit.ensures.refused.1.0 c.in-Ok-Limit.field-0-is).1,
  rw c.in-Ok-Limit.field-0-is at c.in-Ok-Limit.ensures.untouched,
)

pub returns-in-Err-clause-saved : goal.returns-in-Err-clause-saved
returns-in-Err-clause-saved g c = inr (record {
  body = c.args.body.now;
  is = refl;
  differs = sym c.stands.ensures ∙ c.if-stands.false;
  left = left_by_save g.D.Disk.contents g.D.Disk.may_leave g.D.Disk.moment g.D.Disk.left_since c.args.disk.now
      c.save.new.disk c.args.store.now c.args.body.now c.requires.ready c.requires.open c.save.ensures.stop;
})
