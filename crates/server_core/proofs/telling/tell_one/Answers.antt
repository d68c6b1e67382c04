use Rattle.std.proofs.Common.{refl, sym, ◌∙◌}
use Rattle.std.proofs.lemmas.Bool.{true≢false}
use Rattle.server_core.proofs.telling.tell_one.Goals as goal

pub returns-then-turned : goal.returns-then-turned
returns-then-turned c = λ w v moved net. record {
  skip = refl;
  left_out = λ _. refl;
  stream = refl;
  gives = λ open_ k st. absurd (true≢false (sym c.if-turned.true ∙ open_));
}

pub returns : goal.returns
returns c = λ w v moved net. record {
  skip = refl;
  left_out = λ skipped. absurd (true≢false (sym skipped ∙ c.if-turned.false));
  stream = c.reloaded.ensures.stream;
  gives = λ open_ k st. record {
    frames = c.in_ok-turned.ensures.frames w v k moved st net;
    fit = c.in_ok-turned.ensures.fits;
    stands = c.in_ok-turned.ensures.stands w v k moved st;
  };
}
