-- A recording that begins is stood for.
use Rattle.std.proofs.Common.{◌≡◌, ℕ, ◌+◌, ◌≤◌, ◌<◌, ◌^◌, List, [], ap, ◌∙◌, arith}
use Rattle.spec_formats.specs.Header.{AmsAddress}
use Rattle.spec_client.specs.Recordings.{recording_begun}
use Rattle.spec_client.specs.Runner.{new_runner}
use Rattle.spec_client.specs.Stages as stages
use Rattle.spec_client.specs.Steps.{begun}
use Rattle.client_core.specs.Represents.{Represents}
use Rattle.client_replies.specs.Sound.{HasShortTexts}
use Rattle.client_replies.specs.Stages.{mode_meant, watching_of}
use Rattle.client_calls.specs.Kept.{RunnerKept}
use Rattle.client_calls.specs.Represents.{StandsFor}
use Rattle.client_calls.specs.Recording.{AreNames, CanRecord, record_meant}
use Rattle.client_calls.specs.declared.record_spec.RecordSpec.{RecordSpec}
use Rattle.client_calls.proofs.StandingLemmas.{stands_new}

numbered : (spec : RecordSpec) → CanRecord spec → (0 < spec.first) × (spec.first + spec.count ≤ 2 ^ 63)
numbered spec can =
    let some = can.first in
    let last = can.last in
    let most = can.most in
    (omega (arith, some), omega (arith, last, most))

pub recording_stands : (k : RunnerKept) (me peer : AmsAddress) (names : List (List ℕ)) (spec : RecordSpec) → AreNames names → CanRecord spec
    → Represents me peer k.client [] → stages.progress k.stage k.pending ≡ begun (record_meant names spec)
    → StandsFor k (new_runner me peer (record_meant names spec))
recording_stands k me peer names spec are can client is =
    let n = numbered spec can in
    stands_new k me peer (record_meant names spec) (are.short, n.0, n.1) client is

-- what a recording of these names begins with is what that call begins with
pub recording_begins : (names given : List (List ℕ)) (spec : RecordSpec) (p : stages.Progress) → given ≡ names
    → p ≡ recording_begun given (watching_of (mode_meant spec.mode) spec.cycle spec.count) spec.first → p ≡ begun (record_meant names spec)
unfolding begun
recording_begins names given spec p same e =
    e ∙ ap (λ ns. recording_begun ns (watching_of (mode_meant spec.mode) spec.cycle spec.count) spec.first) same
