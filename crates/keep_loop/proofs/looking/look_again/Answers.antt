-- The store is open, and the body is looked at; or it could not be opened.
use Rattle.std.proofs.Common.{inl, inr, refl, subst, sym}
use Rattle.persist_store.specs.Disk.{OpensOnly}
use Rattle.keep_loop.proofs.SavingLemmas.{saved_to}
use Rattle.keep_loop.proofs.looking.look_again.Goals as goal

pub returns-in-Open-clause-looked : goal.returns-in-Open-clause-looked
returns-in-Open-clause-looked g c = λ x stands. record {
  mid_disk = c.open_again.new.disk;
  mid = c.open_again.new.store;
  opens = c.in-Open.ensures.opens;
  looks = inr (record {
    open_ = c.in-Open.ensures.open refl;
    saves = saved_to c.save_body.result _ _ g.D.Disk.contents g.D.Disk.moment g.D.Disk.left_since
        c.open_again.new.disk c.save_body.new.disk c.open_again.new.store c.save_body.new.store
        (λ body is. is x stands) c.save_body.ensures.saved;
    told = c.save_body.ensures.told;
    ready = c.save_body.ensures.ready;
  });
}

pub returns-in-Failed-clause-looked : goal.returns-in-Failed-clause-looked
returns-in-Failed-clause-looked g c = λ x stands. record {
  mid_disk = c.open_again.new.disk;
  mid = c.open_again.new.store;
  opens = c.in-Failed.ensures.opens;
  looks = inl (tt, refl);
}

pub returns-in-Memory-clause-looked : goal.returns-in-Memory-clause-looked
returns-in-Memory-clause-looked g c = λ x stands. record {
  mid_disk = c.open_again.new.disk;
  mid = c.open_again.new.store;
  opens = c.in-Memory.ensures.opens;
  looks = inl (tt, refl);
}

pub returns-in-Open-clause-named : goal.returns-in-Open-clause-named
returns-in-Open-clause-named g c =
    subst (λ names. OpensOnly (g.D.Disk.names c.args.disk.now) names c.args.name.now) (sym c.save_body.ensures.names) c.in-Open.ensures.named
