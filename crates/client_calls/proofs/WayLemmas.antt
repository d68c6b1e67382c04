-- A turn on its way.
use Rattle.std.proofs.Common.{◌≡◌, ℕ, ◌+◌, ◌*◌, ◌^◌, ◌≤◌, ◌<◌, List, [], ◌∷◌, length, refl, sym, ap, ◌∙◌, subst, arith, lit≤}
use Rattle.spec_client.specs.Stages.{Output, entries_taken}
use Rattle.spec_client.specs.Runner.{Runner, Turned, turn}
use Rattle.client_calls.specs.Kept.{RunnerKept, hearings_kept, turns_left, with_first}
use Rattle.client_calls.specs.Represents.{StandsFor, IsGoingOn}
use Rattle.client_calls.specs.Steps.{step_meant, UnlessOver, IfGives, IsKeepable}
use Rattle.client_calls.specs.Turns.{IsTurned, Turns, Passes, PassesAll, Gives, GoesOn, Rests, IsRest, Steps, OnItsWay}
use Rattle.client_calls.specs.declared.call_step.CallStep.{CallStep}
use Rattle.client_calls.specs.declared.call_step.CallStep.TheVariants as out

pub way_begins : (now : ℕ) (k : RunnerKept) → IsGoingOn k → OnItsWay now k k
way_begins now k going = record {
  passes = λ r s. record { behind = r; stands = s; same = refl };
  going = going;
  left = omega arith;
}

passed_on : (now : ℕ) (new : RunnerKept) (r : Runner) → Passes now new r → (middle : RunnerKept) → PassesAll now new middle → Passes now middle r
passed_on now new r p middle passes =
    let more = passes p.behind p.stands in
    record { behind = more.behind; stands = more.stands; same = p.same ∙ more.same }

fewer_left : (hearings before short pending : ℕ) → hearings < before → short < 2 ^ 64 → hearings * 2 ^ 64 + short ≤ before * 2 ^ 64 + pending
fewer_left hearings before short pending fewer less = omega arith

-- something was heard
pub way_goes_on : (now : ℕ) (old new behind : RunnerKept) → OnItsWay now old new → GoesOn new behind → OnItsWay now old behind
way_goes_on now old new behind way g = record {
  passes = λ r s. passed_on now new r (way.passes r s) behind (g.passes now);
  going =
      let r = way.going.0 in
      let p = g.passes now r way.going.1 in
      (p.behind, p.stands);
  left = omega (
    arith,
    way.left,
    fewer_left (hearings_kept behind.client) (hearings_kept new.client) (length behind.pending) (length new.pending) g.fewer g.short,
  );
}

turned_behind : (now : ℕ) (end : RunnerKept) (step : CallStep) (new : RunnerKept) (r : Runner)
    → Passes now new r → Turns now new end step → IsTurned now end step r
turned_behind now end step new r p turned =
    let t = turned p.behind p.stands in
    record {
      step_is = t.step_is ∙ ap (λ (x : Turned). x.step) (sym p.same);
      stands = subst (λ (x : Turned). UnlessOver step (StandsFor end x.runner)) (sym p.same) t.stands;
      entries = t.entries ∙ ap (λ (x : Turned). entries_taken x.runner.stage) (sym p.same);
      keepable = t.keepable;
    }

-- the step is that of the turn
pub way_turned : (now : ℕ) (old new end : RunnerKept) (step : CallStep) → OnItsWay now old new → Turns now new end step → Turns now old end step
way_turned now old new end step way turned r s = turned_behind now end step new r (way.passes r s) turned

if_gives : (step : CallStep) (P : Type 0) → P → IfGives step P
if_gives (out.Send bytes) P p = p
if_gives (out.Print text) P p = p
if_gives (out.Keep row) P p = p
if_gives out.Wait P p = tt
if_gives (out.Over e) P p = tt

-- what was taken out is given
pub given_steps : (now : ℕ) (old given end : RunnerKept) (output : Output) (step : CallStep) → old ≡ with_first output given
    → Turns now (with_first output given) end step → Gives given end → Steps now old end step
given_steps now old given end output step is turned g =
    let before : turns_left old ≡ turns_left (with_first output given) = ap turns_left is in
    let pending : length end.pending ≡ length given.pending = ap length g.pending in
    let hearings : hearings_kept end.client * 2 ^ 64 ≡ hearings_kept given.client * 2 ^ 64 = ap (λ n. n * 2 ^ 64) g.hearings in
    record {
      turned = λ r s. turned r (subst (λ k. StandsFor k r) is s);
      falls = if_gives step (turns_left end < turns_left old) (omega arith);
      left = omega arith;
    }

rest_falls : (step : CallStep) (P : Type 0) → IsRest step → IfGives step P
rest_falls (out.Send bytes) P e = absurd e
rest_falls (out.Print text) P e = absurd e
rest_falls (out.Keep row) P e = absurd e
rest_falls out.Wait P e = tt
rest_falls (out.Over end) P e = tt

-- it waits, or the call is over
pub rest_steps : (now : ℕ) (old new : RunnerKept) (step : CallStep) → Rests old new step → Steps now old new step
rest_steps now old new step r = record { turned = r.turned now; falls = rest_falls step (turns_left new < turns_left old) r.rests; left = r.left }

falls_less : (step : CallStep) (a b c : ℕ) → b ≤ c → IfGives step (a < b) → IfGives step (a < c)
falls_less (out.Send bytes) a b c more less = omega arith
falls_less (out.Print text) a b c more less = omega arith
falls_less (out.Keep row) a b c more less = omega arith
falls_less out.Wait a b c more less = tt
falls_less (out.Over end) a b c more less = tt

pub way_falls : (now : ℕ) (old new end : RunnerKept) (step : CallStep) → OnItsWay now old new → Steps now new end step
    → IfGives step (turns_left end < turns_left old)
way_falls now old new end step way s = falls_less step (turns_left end) (turns_left new) (turns_left old) way.left s.falls

pub way_left : (now : ℕ) (old new end : RunnerKept) (step : CallStep) → OnItsWay now old new → Steps now new end step → turns_left end ≤ turns_left old
way_left now old new end step way s = omega (arith, way.left, s.left)

pub step_told : (now : ℕ) (old new : RunnerKept) (step : CallStep) → Turns now old new step
    → (r : Runner) → StandsFor old r → step_meant step ≡ (turn now r).step
step_told now old new step turned r s = (turned r s).step_is

pub stands_told : (now : ℕ) (old new : RunnerKept) (step : CallStep) → Turns now old new step
    → UnlessOver step ((r : Runner) → StandsFor old r → StandsFor new (turn now r).runner)
stands_told now old new (out.Send bytes) turned = λ r s. (turned r s).stands
stands_told now old new (out.Print text) turned = λ r s. (turned r s).stands
stands_told now old new (out.Keep row) turned = λ r s. (turned r s).stands
stands_told now old new out.Wait turned = λ r s. (turned r s).stands
stands_told now old new (out.Over e) turned = tt

pub entries_told : (now : ℕ) (old new : RunnerKept) (step : CallStep) → Turns now old new step → (r : Runner) → StandsFor old r
    → entries_taken new.stage ≡ entries_taken (turn now r).runner.stage
entries_told now old new step turned r s = (turned r s).entries

pub keepable_told : (now : ℕ) (old new : RunnerKept) (step : CallStep) → Turns now old new step → IsGoingOn old → IsKeepable step
keepable_told now old new step turned going = (turned going.0 going.1).keepable
