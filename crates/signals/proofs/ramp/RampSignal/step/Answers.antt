-- A ramp's value at a place is the place, and its wave is as long as the ramp.
use Rattle.std.proofs.Common.{sym, ◌∙◌, ap, zero-add, ℕ}
use Rattle.std.specs.List.{range_with_len}
use Rattle.std.proofs.lemmas.List.FromFn.{length-range_with_len, get_or-range_with_len}
use Rattle.signals.specs.Wave.{place_after, Wave}
use Rattle.signals.proofs.ramp.RampSignal.step.Goals as goal

pub returns-clause-value : goal.returns-clause-value
returns-clause-value c = c.from-value.ensures
    ∙ sym (get_or-range_with_len 0 c.args.self.now.len c.args.self.now.place 0 c.args.self.now.within ∙ zero-add c.args.self.now.place)

pub returns-clause-moved : goal.returns-clause-moved
returns-clause-moved c = let wave : ℕ → Wave = λ n. record { values = range_with_len 0 c.args.self.now.len; place = n } in
    ap wave (c.place_after.ensures ∙ (ap (λ p. place_after p c.from.result) c.from-value.ensures
    ∙ ap (place_after c.args.self.now.place) (c.from.ensures ∙ sym (length-range_with_len 0 c.args.self.now.len))))
