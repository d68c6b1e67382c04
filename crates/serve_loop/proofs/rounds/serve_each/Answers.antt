-- One connection behind others.
use Rattle.std.proofs.Common.{refl, ◌∙◌}
use Rattle.std.proofs.Math.Nat.{le_refl, le_trans}
use Rattle.serve_loop.proofs.LeadLemmas.{leads_nowhere, leads_then, leads_so, breaks_then, on_err}
use Rattle.serve_loop.proofs.RoundLemmas.{from_first, from_next, from_last}
use Rattle.serve_loop.proofs.WantLemmas.{rose_later}
use Rattle.serve_loop.proofs.rounds.serve_each.Goals as goal

pub loop-number-init : goal.loop-number-init
loop-number-init g c = record {
  led = leads_nowhere _ _ _ _ _ _ _ refl (λ x serves. serves) (λ x serves. from_first _ c.args.numbers.now x.running);
  kept = refl;
  later = le_refl _;
  wanted = le_refl _;
}

pub returns-in_err-serve_one-clause-no_memory : goal.returns-in_err-serve_one-clause-no_memory
returns-in_err-serve_one-clause-no_memory g c =
    on_err _ (breaks_then _ _ _ _ _ _ _ 0 0 _ (λ x ms from. from.offers) c.loop-number.invariant.led c.in_err-serve_one.ensures.no_memory)

pub returns-in_err-serve_one-clause-memory : goal.returns-in_err-serve_one-clause-memory
returns-in_err-serve_one-clause-memory g c = on_err _ (rose_later _ _ _ c.loop-number.invariant.wanted c.in_err-serve_one.ensures.memory)

pub loop-number-preserved : goal.loop-number-preserved
loop-number-preserved g c = record {
  led = leads_then _ _ _ _ _ _ _ _ 0 0 _ _ _ (from_next _ c.args.numbers.now c.loop-number.number-index c.loop-number-test.true)
      c.loop-number.invariant.led c.in_ok-serve_one.ensures.ok;
  kept = c.serve_one.ensures.kept ∙ c.loop-number.invariant.kept;
  later = le_trans c.loop-number.invariant.later c.serve_one.ensures.later;
  wanted = le_trans c.loop-number.invariant.wanted c.serve_one.ensures.wanted;
}

pub returns-clause-ok : goal.returns-clause-ok
returns-clause-ok g c =
    leads_so _ _ _ _ _ _ _ _ _ (from_last _ c.args.numbers.now c.loop-number.number-index c.loop-number-test.false) c.loop-number.invariant.led
