-- Which step of the definitions a step is.
use Rattle.std.specs.Prelude.{◌<◌, ◌^◌, ℕ, Option, Some, None}
use Rattle.sample_store.specs.Views.{row_kept}
use Rattle.spec_client.specs.Stages as stages
use Rattle.spec_client.specs.Runner as runner
use Rattle.client_replies.specs.Stages.{end_meant}
use Rattle.client_calls.specs.declared.call_step.CallStep.{CallStep}
use Rattle.client_calls.specs.declared.call_step.CallStep.TheVariants as step

abbrev pub step_meant : CallStep → runner.CallStep
step_meant (step.Send bytes) = runner.Send bytes
step_meant (step.Print text) = runner.Print text
step_meant (step.Keep row) = runner.Keep (row_kept row)
step_meant step.Wait = runner.Wait
step_meant (step.Over end) = runner.Over (end_meant end)

-- the call goes on
abbrev pub UnlessOver : CallStep → Type 0 → Type 0
UnlessOver (step.Send bytes) P = P
UnlessOver (step.Print text) P = P
UnlessOver (step.Keep row) P = P
UnlessOver step.Wait P = P
UnlessOver (step.Over end) P = Unit {0}

-- something is given
abbrev pub IfGives : CallStep → Type 0 → Type 0
IfGives (step.Send bytes) P = P
IfGives (step.Print text) P = P
IfGives (step.Keep row) P = P
IfGives step.Wait P = Unit {0}
IfGives (step.Over end) P = Unit {0}

-- the number of a row that is to be kept is from 1 to 2 ^ 63 - 1
abbrev pub IsKeepable : CallStep → Type 0
IsKeepable (step.Keep row) = (0 < row.number) × (row.number < 2 ^ 63)
IsKeepable step = Unit {0}

-- how a call that is over ended
abbrev pub end_in : stages.Stage → Option stages.CallEnd
end_in (stages.Finished end) = Some end
end_in (stages.FinishedRecording end entries) = Some end
end_in stage = None
