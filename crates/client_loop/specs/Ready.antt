-- A call that goes on, and whose next row may be put. No public clause cites this file.
use Rattle.std.specs.Prelude.{◌≡◌, ℕ, ◌+◌, List, length, Option, Some, None}
use Rattle.spec_samples.specs.Row.{Row}
use Rattle.spec_samples.specs.Laws.{AreCountedFrom}
use Rattle.spec_client.specs.Runner.{Runner}
use Rattle.spec_client_laws.proofs.KeptLemmas.{Counts}
use Rattle.client_calls.specs.Kept.{RunnerKept}
use Rattle.client_calls.specs.Represents.{StandsFor}

-- the next row that the runner gives has the number behind these
pub record IsBehind (rows : List Row) (r : Runner) : Type 0 where
  pub first : ℕ
  pub limit : ℕ
  pub kept : ℕ
  pub counted : AreCountedFrom 1 rows
  pub counts : Counts first limit kept r
  pub next : first + kept ≡ length rows + 1

-- where the rows are told
abbrev pub Fits : Option (List Row) → Runner → Type 0
Fits None r = Unit {0}
Fits (Some rows) r = IsBehind rows r

pub record IsReady (k : RunnerKept) (rows : Option (List Row)) : Type 0 where
  pub runner : Runner
  pub stands : StandsFor k runner
  pub fits : Fits rows runner

-- it is ready whatever the rows were that it was ready for
abbrev pub ReadyStill : RunnerKept → RunnerKept → Type 0
ReadyStill old new = (rows : Option (List Row)) → IsReady old rows → IsReady new rows
