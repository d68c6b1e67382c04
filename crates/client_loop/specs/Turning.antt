-- What one turn of a call over a link leaves, and what all turns at a moment leave.
use Rattle.std.specs.Prelude.{◌≡◌, ◌⊎◌, ℕ, List, [], ◌∷◌, ◌++◌, Option, Some, None, Result, Ok, Err}
use Rattle.ads_base.specs.declared.no_memory.NoMemory.{NoMemory}
use Rattle.ads_outside.specs.declared.link_move.LinkMove.{LinkMove}
use Rattle.ads_outside.specs.declared.link_move.LinkMove.TheVariants as move
use Rattle.ads_outside.specs.LinkAnswers.{with_part}
use Rattle.ads_outside.specs.LinkState.{LinkState}
use Rattle.ads_outside.specs.Puts.{Appends, AppendsPart}
use Rattle.ads_outside.specs.Rose.{Rose}
use Rattle.ads_outside.specs.SinkState.{SinkState}
use Rattle.spec_samples.specs.Row.{Row}
use Rattle.sample_store.specs.Keeper.{KeeperState}
use Rattle.spec_client.specs.Stages.{entries_taken}
use Rattle.spec_client.specs.Conversation.{CallEnded, sent_by, printed_by, kept_by, end_of_stage}
use Rattle.spec_client.specs.Runner.{Runner, CallStep, Wait, Over, turn, turns, after_step, joined}
use Rattle.client_replies.specs.Stages.{end_meant}
use Rattle.client_calls.specs.Kept.{RunnerKept}
use Rattle.client_calls.specs.Represents.{StandsFor}
use Rattle.client_loop.specs.declared.turning.Turned.{Turned}
use Rattle.client_loop.specs.declared.turning.Turned.TheVariants as turned
use Rattle.client_loop.specs.Outlets.{Outlets, Adds}
use Rattle.client_loop.specs.Due.{AtSend, AtPrint, Anywhere, StopsAt}
use Rattle.client_loop.specs.Said.{Gives, GivesSome}

-- bytes are sent whole
abbrev pub SendsAll : {O : Type 0} → List ℕ → (O → List LinkMove → Type 0) → (O → List LinkMove → Type 0) → Type 0
SendsAll {O} bytes old_tells new_tells =
    (o : O) (log : List LinkMove) → old_tells o log → new_tells o (log ++ move.Sent bytes ∷ [])

-- or some first part of them
abbrev pub SendsPart : {O : Type 0} → List ℕ → (O → List LinkMove → Type 0) → (O → List LinkMove → Type 0) → Type 0
SendsPart {O} bytes old_tells new_tells =
    (o : O) (log : List LinkMove) → old_tells o log → (n : ℕ) × new_tells o (with_part n bytes log)

-- these steps were given, where so many answers stand before them
abbrev pub GivesSteps : {O : Type 0} → ℕ → List CallStep → (O → List LinkMove → Type 0) → (O → List LinkMove → Type 0)
    → Outlets → Outlets → Type 0
GivesSteps n steps old_tells new_tells out new_out =
    Gives (sent_by n steps) (printed_by steps) (kept_by steps) old_tells new_tells out new_out

-- they stopped at one of them, by which all text before it was put
pub record GivesSomeSteps {O : Type 0} (IsStop : List CallStep → Type 0) (n : ℕ) (steps : List CallStep)
    (old_tells new_tells : O → List LinkMove → Type 0) (out new_out : Outlets) : Type 0 where
  pub some : GivesSome (sent_by n steps) (kept_by steps) old_tells new_tells out new_out
  pub stops : StopsAt IsStop [] steps out.sink.held new_out.sink.held

-- what became of bytes that were to be sent
abbrev pub AfterSend : {O : Type 0} → Result (Option Turned) NoMemory → (O → List LinkMove → Type 0)
    → (O → List LinkMove → Type 0) → LinkState → LinkState → List ℕ → Type 0
AfterSend (Ok None) old_tells new_tells link new_link bytes = SendsAll bytes old_tells new_tells
AfterSend (Ok (Some turned.LinkFault)) old_tells new_tells link new_link bytes =
    Rose link.faults new_link.faults × SendsPart bytes old_tells new_tells
AfterSend (Ok (Some other)) old_tells new_tells link new_link bytes = ⊥
AfterSend (Err e) old_tells new_tells link new_link bytes = SendsPart bytes old_tells new_tells

-- what became of a text that was to be put
abbrev pub AfterPut : Result (Option Turned) NoMemory → SinkState → SinkState → List ℕ → Type 0
AfterPut (Ok None) out new_out text = Appends out.held new_out.held text
AfterPut (Ok (Some turned.WriteFault)) out new_out text =
    AppendsPart out.held new_out.held text × Rose out.faults new_out.faults
AfterPut (Ok (Some other)) out new_out text = ⊥
AfterPut (Err e) out new_out text = AppendsPart out.held new_out.held text

-- what became of a row that was to be kept
abbrev pub AfterKeep : Result (Option Turned) NoMemory → KeeperState → KeeperState → Row → Type 0
AfterKeep (Ok None) old new row = Adds old.rows new.rows (row ∷ [])
AfterKeep (Ok (Some turned.KeeperFault)) old new row = (new.rows ≡ old.rows) × Rose old.faults new.faults
AfterKeep (Ok (Some other)) old new row = ⊥
AfterKeep (Err e) old new row = new.rows ≡ old.rows

-- what became of rows that were brought to where they stay, behind turns that ended so
abbrev pub AfterSettle : Result Turned NoMemory → Turned → KeeperState → KeeperState → Type 0
AfterSettle (Ok told) ended old new = (told ≡ ended) ⊎ ((told ≡ turned.KeeperFault) × Rose old.faults new.faults)
AfterSettle (Err e) ended old new = Unit {0}

-- what became of one turn of a runner, which gives a step or rests
abbrev pub AfterTurn : {O : Type 0} → Result (Option Turned) NoMemory → ℕ → RunnerKept → (O → List LinkMove → Type 0)
    → (O → List LinkMove → Type 0) → LinkState → LinkState → Outlets → Outlets → ℕ → Runner → Type 0
AfterTurn (Ok None) now new old_tells new_tells link new_link out new_out n r =
    StandsFor new (turn now r).runner × (turns now r ≡ after_step (turn now r) (turns now (turn now r).runner))
    × GivesSteps n ((turn now r).step ∷ []) old_tells new_tells out new_out
AfterTurn (Ok (Some turned.Waits)) now new old_tells new_tells link new_link out new_out n r =
    StandsFor new (turn now r).runner × ((turn now r).step ≡ Wait) × GivesSteps n [] old_tells new_tells out new_out
AfterTurn (Ok (Some (turned.Over end))) now new old_tells new_tells link new_link out new_out n r =
    ((turn now r).step ≡ Over (end_meant end)) × GivesSteps n [] old_tells new_tells out new_out
    × (entries_taken new.stage ≡ entries_taken (turn now r).runner.stage)
AfterTurn (Ok (Some turned.LinkFault)) now new old_tells new_tells link new_link out new_out n r =
    Rose link.faults new_link.faults
    × (turns now r ≡ after_step (turn now r) (turns now (turn now r).runner))
    × GivesSomeSteps AtSend n ((turn now r).step ∷ []) old_tells new_tells out new_out
AfterTurn (Ok (Some turned.KeeperFault)) now new old_tells new_tells link new_link out new_out n r =
    Rose out.keeper.faults new_out.keeper.faults
    × (turns now r ≡ after_step (turn now r) (turns now (turn now r).runner))
    × GivesSomeSteps Anywhere n ((turn now r).step ∷ []) old_tells new_tells out new_out
AfterTurn (Ok (Some turned.WriteFault)) now new old_tells new_tells link new_link out new_out n r =
    Rose out.sink.faults new_out.sink.faults
    × (turns now r ≡ after_step (turn now r) (turns now (turn now r).runner))
    × GivesSomeSteps AtPrint n ((turn now r).step ∷ []) old_tells new_tells out new_out
AfterTurn (Err e) now new old_tells new_tells link new_link out new_out n r =
    GivesSomeSteps Anywhere n (turns now r).steps old_tells new_tells out new_out

-- all turns of a runner, up to a wait or the end
abbrev pub AfterTurns : {O : Type 0} → Result Turned NoMemory → ℕ → RunnerKept → (O → List LinkMove → Type 0)
    → (O → List LinkMove → Type 0) → LinkState → LinkState → Outlets → Outlets → ℕ → Runner → Type 0
AfterTurns (Ok turned.Waits) now new old_tells new_tells link new_link out new_out n r =
    StandsFor new (turns now r).runner × (end_of_stage (turns now r).runner.stage ≡ None)
    × GivesSteps n (turns now r).steps old_tells new_tells out new_out
AfterTurns (Ok (turned.Over end)) now new old_tells new_tells link new_link out new_out n r =
    (end_of_stage (turns now r).runner.stage ≡ Some (CallEnded (end_meant end)))
    × GivesSteps n (turns now r).steps old_tells new_tells out new_out
    × (entries_taken new.stage ≡ entries_taken (turns now r).runner.stage)
AfterTurns (Ok turned.LinkFault) now new old_tells new_tells link new_link out new_out n r =
    Rose link.faults new_link.faults × GivesSomeSteps AtSend n (turns now r).steps old_tells new_tells out new_out
AfterTurns (Ok turned.KeeperFault) now new old_tells new_tells link new_link out new_out n r =
    Rose out.keeper.faults new_out.keeper.faults × GivesSomeSteps Anywhere n (turns now r).steps old_tells new_tells out new_out
AfterTurns (Ok turned.WriteFault) now new old_tells new_tells link new_link out new_out n r =
    Rose out.sink.faults new_out.sink.faults × GivesSomeSteps AtPrint n (turns now r).steps old_tells new_tells out new_out
AfterTurns (Err e) now new old_tells new_tells link new_link out new_out n r =
    GivesSomeSteps Anywhere n (turns now r).steps old_tells new_tells out new_out

-- the call waits for more
abbrev pub IfWaits : Result Turned NoMemory → Type 0 → Type 0
IfWaits (Ok turned.Waits) P = P
IfWaits other P = Unit {0}

-- something was given, or the call waits
abbrev pub UnlessTurned : Result (Option Turned) NoMemory → Type 0 → Type 0
UnlessTurned (Ok None) P = P
UnlessTurned (Ok (Some turned.Waits)) P = P
UnlessTurned other P = Unit {0}

-- some turns of a runner were taken: what is kept stands for the runner behind them
pub record TakesTurns {O : Type 0} (now : ℕ) (new : RunnerKept) (old_tells new_tells : O → List LinkMove → Type 0)
    (out new_out : Outlets) (n : ℕ) (r : Runner) : Type 0 where
  pub steps : List CallStep
  pub behind : Runner
  pub stands : StandsFor new behind
  pub same : turns now r ≡ joined steps (turns now behind)
  pub gives : GivesSteps n steps old_tells new_tells out new_out
