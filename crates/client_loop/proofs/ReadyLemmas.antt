-- A call stays ready for its next row.
use Rattle.std.proofs.Common.{◌≡◌, ℕ, ◌+◌, List, [], ◌∷◌, ◌++◌, length, Option, Some, None, refl, sym, ap, ◌∙◌, subst, arith}
use Rattle.std.proofs.lemmas.List.{length-append}
use Rattle.spec_samples.specs.Row.{Row}
use Rattle.spec_samples.specs.Rows.{rows_after_put, rows_after}
use Rattle.spec_samples.specs.Laws.{AreCountedFrom}
use Rattle.spec_samples.proofs.CountLemmas.{put_last, counted-last}
use Rattle.sample_store.specs.Keeper.{IsNext}
use Rattle.spec_client.specs.Runner.{Runner, CallStep, Send, Print, Keep, Wait, Over, turn}
use Rattle.spec_client_laws.proofs.KeptLemmas.{Counts, StepCounts, turn_counted}
use Rattle.client_calls.specs.Kept.{RunnerKept}
use Rattle.client_calls.specs.Represents.{StandsFor}
use Rattle.client_loop.specs.Outlets.{Adds}
use Rattle.client_loop.specs.Ready.{IsBehind, Fits, IsReady}

-- nothing is told of the rows
pub ready_untold : (k : RunnerKept) (r : Runner) → StandsFor k r → IsReady k None
ready_untold k r stands = record { runner = r; stands = stands; fits = tt }

-- bytes and ticks leave what it gives next
pub fits_after : (rows : Option (List Row)) (r q : Runner) → q.stage ≡ r.stage → q.pending ≡ r.pending → Fits rows r → Fits rows q
fits_after None r q stage pending f = tt
fits_after (Some there) r q stage pending f =
    let counts : Counts f.first f.limit f.kept q = record { rows = rw pending f.counts.rows; stands = rw (pending, stage) f.counts.stands } in
    record { first = f.first; limit = f.limit; kept = f.kept; counted = f.counted; counts = counts; next = f.next }

-- a step that gives no row
abbrev pub IsNoRow : CallStep → Type 0
IsNoRow (Keep row) = ⊥
IsNoRow step = Unit {0}

plain_counts : (first limit kept : ℕ) (step : CallStep) (r : Runner) → IsNoRow step → StepCounts first limit kept step r → Counts first limit kept r
plain_counts first limit kept (Send bytes) r plain c = c
plain_counts first limit kept (Print text) r plain c = c
plain_counts first limit kept (Keep row) r plain c = absurd plain
plain_counts first limit kept Wait r plain c = c
plain_counts first limit kept (Over end) r plain c = c

-- behind such a step
pub fits_plain : (now : ℕ) (rows : Option (List Row)) (r : Runner) (step : CallStep) → step ≡ (turn now r).step → IsNoRow step
    → Fits rows r → Fits rows (turn now r).runner
fits_plain now None r step is plain f = tt
fits_plain now (Some there) r step is plain f =
    let all = turn_counted f.first f.limit f.kept now r f.counts in
    let behind : StepCounts f.first f.limit f.kept step (turn now r).runner =
    subst (λ s. StepCounts f.first f.limit f.kept s (turn now r).runner) (sym is) all in
    record {
      first = f.first;
      limit = f.limit;
      kept = f.kept;
      counted = f.counted;
      counts = plain_counts f.first f.limit f.kept step (turn now r).runner plain behind;
      next = f.next;
    }

row_counts : (now : ℕ) (there : List Row) (r : Runner) (row : Row) → Keep row ≡ (turn now r).step → (f : IsBehind there r)
    → StepCounts f.first f.limit f.kept (Keep row) (turn now r).runner
row_counts now there r row is f =
    subst (λ s. StepCounts f.first f.limit f.kept s (turn now r).runner) (sym is) (turn_counted f.first f.limit f.kept now r f.counts)

-- the row that it gives may be put
pub next_fits : (now : ℕ) (rows : Option (List Row)) (r : Runner) (row : Row) → Keep row ≡ (turn now r).step → Fits rows r → IsNext rows row.number
next_fits now None r row is f = tt
next_fits now (Some there) r row is f =
    let number : row.number ≡ f.first + f.kept = (row_counts now there r row is f).0 in
    let next = f.next in
    omega (arith, number, next)

put_row : (there : List Row) (row : Row) → rows_after there (row ∷ []) ≡ rows_after_put there row
unfolding rows_after
put_row there row = refl

-- and the next one behind it
pub fits_row : (now : ℕ) (rows new : Option (List Row)) (r : Runner) (row : Row) → Keep row ≡ (turn now r).step → Adds rows new (row ∷ [])
    → Fits rows r → Fits new (turn now r).runner
fits_row now None new r row is adds f = subst (λ x. Fits x (turn now r).runner) (sym adds) tt
fits_row now (Some there) new r row is adds f =
    let behind = row_counts now there r row is f in
    let number : row.number ≡ f.first + f.kept = behind.0 in
    let next = f.next in
    let last : row.number ≡ 1 + length there = omega (arith, number, next) in
    let counted : AreCountedFrom 1 (there ++ row ∷ []) = counted-last 1 there row f.counted last in
    let both : length (there ++ row ∷ []) ≡ length there + 1 = length-append there (row ∷ []) in
    let more : f.first + (f.kept + 1) ≡ length (there ++ row ∷ []) + 1 = omega (arith, both, next) in
    let all : new ≡ Some (there ++ row ∷ []) = adds ∙ ap Some (put_row there row ∙ put_last 1 there row f.counted last) in
    let fits : IsBehind (there ++ row ∷ []) (turn now r).runner = record {
      first = f.first;
      limit = f.limit;
      kept = f.kept + 1;
      counted = counted;
      counts = behind.2;
      next = more;
    } in
    subst (λ x. Fits x (turn now r).runner) (sym all) fits

-- behind a step, what is kept stands for the runner
pub ready_plain : (now : ℕ) (k new : RunnerKept) (rows : Option (List Row)) (step : CallStep) (h : IsReady k rows)
    → step ≡ (turn now h.runner).step → IsNoRow step
    → StandsFor new (turn now h.runner).runner → IsReady new rows
ready_plain now k new rows step h is plain stands =
    record { runner = (turn now h.runner).runner; stands = stands; fits = fits_plain now rows h.runner step is plain h.fits }

pub ready_row : (now : ℕ) (k new : RunnerKept) (rows new_rows : Option (List Row)) (row : Row) (h : IsReady k rows) → Keep row ≡ (turn now h.runner).step
    → Adds rows new_rows (row ∷ []) → StandsFor new (turn now h.runner).runner → IsReady new new_rows
ready_row now k new rows new_rows row h is adds stands =
    record { runner = (turn now h.runner).runner; stands = stands; fits = fits_row now rows new_rows h.runner row is adds h.fits }

-- behind bytes or a tick
pub ready_heard : (k new : RunnerKept) (rows : Option (List Row)) (h : IsReady k rows) (r : Runner) → r.stage ≡ h.runner.stage → r.pending ≡ h.runner.pending
    → StandsFor new r → IsReady new rows
ready_heard k new rows h r stage pending stands = record { runner = r; stands = stands; fits = fits_after rows h.runner r stage pending h.fits }
