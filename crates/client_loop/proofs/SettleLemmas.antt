-- Rows that are brought to where they stay, behind the turns that gave them.
use Rattle.std.proofs.Common.{◌≡◌, ℕ, ◌≤◌, List, [], inl, inr, sym, subst, arith}
use Rattle.std.specs.Prelude.{Result, Ok, Err}
use Rattle.std.proofs.lemmas.List.{append-nil}
use Rattle.ads_base.specs.declared.no_memory.NoMemory.{NoMemory}
use Rattle.ads_outside.specs.declared.link_move.LinkMove.{LinkMove}
use Rattle.ads_outside.specs.LinkState.{LinkState}
use Rattle.ads_outside.specs.Rose.{Rose}
use Rattle.ads_outside.specs.SinkState.{SinkState}
use Rattle.spec_samples.specs.Row.{Row}
use Rattle.spec_client.specs.Conversation.{Sent, sent_by, printed_by, kept_by}
use Rattle.spec_client.specs.Runner.{Runner, CallStep, turns}
use Rattle.sample_store.specs.Keeper.{KeeperState}
use Rattle.client_calls.specs.Kept.{RunnerKept}
use Rattle.client_loop.specs.declared.turning.Turned.{Turned}
use Rattle.client_loop.specs.declared.turning.Turned.TheVariants as turned
use Rattle.client_loop.specs.Due.{AtSend, AtPrint, Anywhere}
use Rattle.client_loop.specs.Outlets.{Outlets, outlets, Adds, AddsPart}
use Rattle.client_loop.specs.Ready.{IsReady}
use Rattle.client_loop.specs.Said.{Gives}
use Rattle.client_loop.specs.Turning.{GivesSteps, GivesSomeSteps, AfterSettle, IfWaits, AfterTurns}
use Rattle.client_loop.proofs.DueLemmas.{stops_anywhere}
use Rattle.client_loop.proofs.TurnLemmas.{some_steps_then, no_steps}

rose_on : (a b c : ℕ) → Rose a b → b ≤ c → Rose a c
rose_on a b c rose more = omega arith

rose_before : (a b c : ℕ) → a ≤ b → Rose b c → Rose a c
rose_before a b c more rose = omega arith

-- what was given stands in a keeper whose rows are the same
gives_on : {O : Type 0} (s : List Sent) (t : List ℕ) (p : List Row) (first second : O → List LinkMove → Type 0) (out : Outlets)
    (sink : SinkState) (k settled : KeeperState) → settled.rows ≡ k.rows
    → Gives s t p first second out (outlets sink k) → Gives s t p first second out (outlets sink settled)
gives_on s t p first second out sink k settled same gives = record {
  put = gives.put;
  kept = subst (λ rows. Adds out.keeper.rows rows p) (sym same) gives.kept;
  told = gives.told;
}

gives_some_on : {O : Type 0} (IsStop : List CallStep → Type 0) (n : ℕ) (steps : List CallStep) (first second : O → List LinkMove → Type 0)
    (out : Outlets) (sink : SinkState) (k settled : KeeperState) → settled.rows ≡ k.rows
    → GivesSomeSteps IsStop n steps first second out (outlets sink k) → GivesSomeSteps IsStop n steps first second out (outlets sink settled)
gives_some_on IsStop n steps first second out sink k settled same gives = record {
  some = record { kept = subst (λ rows. AddsPart out.keeper.rows rows (kept_by steps)) (sym same) gives.some.kept; told = gives.some.told };
  stops = gives.stops;
}

-- all of it is some of it
some_of_all : {O : Type 0} (n : ℕ) (steps : List CallStep) (first second : O → List LinkMove → Type 0) (out new_out : Outlets)
    → GivesSteps n steps first second out new_out → GivesSomeSteps Anywhere n steps first second out new_out
some_of_all n steps first second out new_out gives =
    subst (λ (all : List CallStep). GivesSomeSteps Anywhere n all first second out new_out) (append-nil steps)
    (some_steps_then Anywhere n steps [] first second second out new_out new_out gives (no_steps n [] second new_out))

-- wherever they stop
some_anywhere : {O : Type 0} (IsStop : List CallStep → Type 0) (n : ℕ) (steps : List CallStep) (first second : O → List LinkMove → Type 0)
    (out new_out : Outlets) → GivesSomeSteps IsStop n steps first second out new_out → GivesSomeSteps Anywhere n steps first second out new_out
some_anywhere IsStop n steps first second out new_out gives =
    record { some = gives.some; stops = stops_anywhere IsStop [] steps out.sink.held new_out.sink.held gives.stops }

-- however turns ended, some of their steps were given
some_given : {O : Type 0} (ended : Turned) (now : ℕ) (new : RunnerKept) (first second : O → List LinkMove → Type 0) (link new_link : LinkState)
    (out new_out : Outlets) (n : ℕ) (r : Runner) → AfterTurns (Ok ended) now new first second link new_link out new_out n r
    → GivesSomeSteps Anywhere n (turns now r).steps first second out new_out
some_given turned.Waits now new first second link new_link out new_out n r after =
    some_of_all n (turns now r).steps first second out new_out after.2
some_given (turned.Over end) now new first second link new_link out new_out n r after =
    some_of_all n (turns now r).steps first second out new_out after.1
some_given turned.LinkFault now new first second link new_link out new_out n r after =
    some_anywhere AtSend n (turns now r).steps first second out new_out after.1
some_given turned.WriteFault now new first second link new_link out new_out n r after =
    some_anywhere AtPrint n (turns now r).steps first second out new_out after.1
some_given turned.KeeperFault now new first second link new_link out new_out n r after = after.1

some_given_on : {O : Type 0} (ended : Turned) (now : ℕ) (new : RunnerKept) (first second : O → List LinkMove → Type 0) (link new_link : LinkState)
    (out : Outlets) (sink : SinkState) (k settled : KeeperState) (n : ℕ) (r : Runner) → settled.rows ≡ k.rows
    → AfterTurns (Ok ended) now new first second link new_link out (outlets sink k) n r
    → GivesSomeSteps Anywhere n (turns now r).steps first second out (outlets sink settled)
some_given_on ended now new first second link new_link out sink k settled n r same after =
    gives_some_on Anywhere n (turns now r).steps first second out sink k settled same
    (some_given ended now new first second link new_link out (outlets sink k) n r after)

-- the rows are where they stay, and all else is as the turns left it
settled_so : {O : Type 0} (ended : Turned) (now : ℕ) (new : RunnerKept) (first second : O → List LinkMove → Type 0) (link new_link : LinkState)
    (out : Outlets) (sink : SinkState) (k settled : KeeperState) (n : ℕ) (r : Runner) → settled.rows ≡ k.rows → k.faults ≤ settled.faults
    → AfterTurns (Ok ended) now new first second link new_link out (outlets sink k) n r
    → AfterTurns (Ok ended) now new first second link new_link out (outlets sink settled) n r
settled_so turned.Waits now new first second link new_link out sink k settled n r same later after = (
  after.0,
  after.1,
  gives_on (sent_by n (turns now r).steps) (printed_by (turns now r).steps) (kept_by (turns now r).steps) first second out sink k settled same after.2,
)
settled_so (turned.Over end) now new first second link new_link out sink k settled n r same later after = (
  after.0,
  gives_on (sent_by n (turns now r).steps) (printed_by (turns now r).steps) (kept_by (turns now r).steps) first second out sink k settled same after.1,
  after.2,
)
settled_so turned.LinkFault now new first second link new_link out sink k settled n r same later after =
    (after.0, gives_some_on AtSend n (turns now r).steps first second out sink k settled same after.1)
settled_so turned.WriteFault now new first second link new_link out sink k settled n r same later after =
    (after.0, gives_some_on AtPrint n (turns now r).steps first second out sink k settled same after.1)
settled_so turned.KeeperFault now new first second link new_link out sink k settled n r same later after = (
  rose_on out.keeper.faults k.faults settled.faults after.0 later,
  some_given_on turned.KeeperFault now new first second link new_link out sink k settled n r same after,
)

-- or the keeper failed
pub settled_behind : {O : Type 0} (result : Result Turned NoMemory) (ended : Turned) (now : ℕ) (new : RunnerKept)
    (first second : O → List LinkMove → Type 0) (link new_link : LinkState) (out : Outlets) (sink : SinkState) (k settled : KeeperState)
    (n : ℕ) (r : Runner) → AfterSettle result ended k settled → settled.rows ≡ k.rows → k.faults ≤ settled.faults
    → out.keeper.faults ≤ k.faults → AfterTurns (Ok ended) now new first second link new_link out (outlets sink k) n r
    → AfterTurns result now new first second link new_link out (outlets sink settled) n r
settled_behind (Err e) ended now new first second link new_link out sink k settled n r how same later before after =
    some_given_on ended now new first second link new_link out sink k settled n r same after
settled_behind (Ok told) ended now new first second link new_link out sink k settled n r how same later before after = elim how [
  | inl is ↦ subst (λ (t : Turned). AfterTurns (Ok t) now new first second link new_link out (outlets sink settled) n r) (sym is)
      (settled_so ended now new first second link new_link out sink k settled n r same later after)
  | inr failed ↦ subst (λ (t : Turned). AfterTurns (Ok t) now new first second link new_link out (outlets sink settled) n r) (sym failed.0) (
    rose_before out.keeper.faults k.faults settled.faults before failed.1,
    some_given_on ended now new first second link new_link out sink k settled n r same after,
  )
]

-- a call that waits is ready for the same rows
pub ready_settled : (result : Result Turned NoMemory) (ended : Turned) (kept : RunnerKept) (k settled : KeeperState)
    → AfterSettle result ended k settled → settled.rows ≡ k.rows → IfWaits (Ok ended) (IsReady kept k.rows) → IfWaits result (IsReady kept settled.rows)
ready_settled (Err e) ended kept k settled how same ready = tt
ready_settled (Ok told) ended kept k settled how same ready = elim how [
  | inl is ↦ subst (λ (t : Turned). IfWaits (Ok t) (IsReady kept settled.rows)) (sym is)
      (subst (λ rows. IfWaits (Ok ended) (IsReady kept rows)) (sym same) ready)
  | inr failed ↦ subst (λ (t : Turned). IfWaits (Ok t) (IsReady kept settled.rows)) (sym failed.0) tt
]
