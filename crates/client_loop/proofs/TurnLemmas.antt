-- Turns of a call over a link, one after another.
use Rattle.std.proofs.Common.{◌≡◌, ℕ, ◌≤◌, List, [], ◌∷◌, ◌++◌, Option, Some, None, refl, sym, ap, ◌∙◌, subst, arith}
use Rattle.std.specs.Prelude.{Result, Ok, Err}
use Rattle.std.proofs.lemmas.List.{append-nil}
use Rattle.ads_base.specs.declared.no_memory.NoMemory.{NoMemory}
use Rattle.ads_outside.specs.declared.link_move.LinkMove.{LinkMove}
use Rattle.ads_outside.specs.LinkState.{LinkState}
use Rattle.ads_outside.specs.Puts.{Appends}
use Rattle.ads_outside.specs.Rose.{Rose}
use Rattle.ads_outside.specs.SinkState.{SinkState}
use Rattle.spec_samples.specs.Row.{Row}
use Rattle.spec_client.specs.Conversation.{CallEnded, sent_by, printed_by, kept_by, end_of_stage}
use Rattle.sample_store.specs.Keeper.{KeeperState}
use Rattle.spec_client.specs.Stages.{entries_taken}
use Rattle.spec_client.specs.Runner.{Runner, CallStep, Send, Print, Keep, Wait, Over, turn, Turns, turns, after_step, joined}
use Rattle.client_replies.specs.Stages.{end_meant}
use Rattle.client_calls.specs.Kept.{RunnerKept}
use Rattle.client_calls.specs.Represents.{StandsFor}
use Rattle.client_loop.specs.declared.turning.Turned.{Turned}
use Rattle.client_loop.specs.declared.turning.Turned.TheVariants as turned
use Rattle.client_loop.specs.Due.{AtSend, AtPrint, Anywhere}
use Rattle.client_loop.specs.Outlets.{Outlets, outlets, IsLater, Adds, AddsPart}
use Rattle.client_loop.specs.Said.{Gives, GivesSome}
use Rattle.client_loop.specs.Turning.{GivesSteps, GivesSomeSteps, AfterSend, AfterPut, AfterKeep, AfterTurn, IfWaits, UnlessTurned, AfterTurns, TakesTurns}
use Rattle.client_loop.proofs.SaidLemmas.{puts_nothing, puts_none, puts_more, adds_nothing, adds_none}
use Rattle.client_loop.proofs.SaidLemmas.{tells_same, gives_nothing, gives_none, gives_then, gives_some_then}
use Rattle.client_loop.proofs.SaidLemmas.{gives_some_more, part_sent}
use Rattle.client_loop.proofs.DueLemmas.{StopsLonger, send_longer, print_longer, any_longer}
use Rattle.client_loop.proofs.DueLemmas.{stops_at_once, stops_before, stops_then, stops_longer}
use Rattle.client_loop.proofs.RestLemmas.{turn_rests, unfolds_sent, unfolds_printed, unfolds_kept}
use Rattle.client_loop.proofs.RestLemmas.{unfolds_waiting, unfolds_over, sent-append, printed-append}
use Rattle.client_loop.proofs.RestLemmas.{kept-append, joined_step}

pub rose_later : (a b c : ℕ) → a ≤ b → Rose b c → Rose a c
rose_later a b c more rose = omega arith

abbrev Gave : {O : Type 0} → ℕ → List CallStep → List Row → (O → List LinkMove → Type 0) → (O → List LinkMove → Type 0) → Outlets → Outlets → Type 0
Gave n steps rows first third out new_out = Gives (sent_by n steps) (printed_by steps) rows first third out new_out

abbrev GaveSome : {O : Type 0} → ℕ → List CallStep → List Row → (O → List LinkMove → Type 0) → (O → List LinkMove → Type 0) → Outlets → Outlets → Type 0
GaveSome n steps rows first third out new_out = GivesSome (sent_by n steps) rows first third out new_out

pub steps_then : {O : Type 0} (n : ℕ) (a b : List CallStep) (first second third : O → List LinkMove → Type 0) (out mid new_out : Outlets)
    → GivesSteps n a first second out mid → GivesSteps n b second third mid new_out → GivesSteps n (a ++ b) first third out new_out
steps_then n a b first second third out mid new_out x y =
    subst (λ p. Gave n (a ++ b) p first third out new_out) (sym (kept-append a b))
    (subst (λ s. Gives s (printed_by (a ++ b)) (kept_by a ++ kept_by b) first third out new_out) (sym (sent-append n a b))
    (subst (λ t. Gives (sent_by n a ++ sent_by n b) t (kept_by a ++ kept_by b) first third out new_out) (sym (printed-append a b))
    (gives_then (sent_by n a) (sent_by n b) (printed_by a) (printed_by b) (kept_by a) (kept_by b) first second third out mid new_out x y)))

pub some_steps_then : {O : Type 0} (IsStop : List CallStep → Type 0) (n : ℕ) (a b : List CallStep) (first second third : O → List LinkMove → Type 0)
    (out mid new_out : Outlets)
    → GivesSteps n a first second out mid → GivesSomeSteps IsStop n b second third mid new_out → GivesSomeSteps IsStop n (a ++ b) first third out new_out
some_steps_then IsStop n a b first second third out mid new_out x y = record {
  some =
      subst (λ p. GaveSome n (a ++ b) p first third out new_out) (sym (kept-append a b))
      (subst (λ s. GivesSome s (kept_by a ++ kept_by b) first third out new_out) (sym (sent-append n a b))
      (gives_some_then (sent_by n a) (sent_by n b) (printed_by a) (kept_by a) (kept_by b) first second third out mid new_out x y.some));
  stops = stops_then IsStop a b out.sink.held mid.sink.held new_out.sink.held x.put y.stops;
}

some_steps_more : {O : Type 0} (IsStop : List CallStep → Type 0) → StopsLonger IsStop → (n : ℕ) (a b : List CallStep)
    (first second : O → List LinkMove → Type 0) (out new_out : Outlets)
    → GivesSomeSteps IsStop n a first second out new_out → GivesSomeSteps IsStop n (a ++ b) first second out new_out
some_steps_more IsStop longer n a b first second out new_out x = record {
  some =
      subst (λ p. GaveSome n (a ++ b) p first second out new_out) (sym (kept-append a b))
      (subst (λ s. GivesSome s (kept_by a ++ kept_by b) first second out new_out) (sym (sent-append n a b))
      (gives_some_more (sent_by n a) (sent_by n b) (kept_by a) (kept_by b) first second out new_out x.some));
  stops = stops_longer IsStop longer [] a b out.sink.held new_out.sink.held x.stops;
}

-- no step was given
pub no_steps : {O : Type 0} (n : ℕ) (steps : List CallStep) (tells : O → List LinkMove → Type 0) (out : Outlets)
    → GivesSomeSteps Anywhere n steps tells tells out out
no_steps n steps tells out =
    record { some = gives_none (sent_by n steps) (kept_by steps) tells out; stops = stops_before steps out.sink.held }

-- where a step of a turn is cut short, all turns are
cut_behind : {O : Type 0} (IsStop : List CallStep → Type 0) → StopsLonger IsStop → (now n : ℕ) (r : Runner)
    (first second : O → List LinkMove → Type 0) (out new_out : Outlets)
    → turns now r ≡ after_step (turn now r) (turns now (turn now r).runner) → GivesSomeSteps IsStop n ((turn now r).step ∷ []) first second out new_out
    → GivesSomeSteps IsStop n (turns now r).steps first second out new_out
cut_behind IsStop longer now n r first second out new_out is x =
    subst (λ (ts : Turns). GivesSomeSteps IsStop n ts.steps first second out new_out) (sym is)
    (some_steps_more IsStop longer n ((turn now r).step ∷ []) (turns now (turn now r).runner).steps first second out new_out x)

-- bytes were sent, or not
pub turn_sent : {O : Type 0} (result : Result (Option Turned) NoMemory) (now : ℕ) (new : RunnerKept) (old_tells new_tells : O → List LinkMove → Type 0)
    (link new_link : LinkState) (out : Outlets) (bytes : List ℕ) (n : ℕ) (r : Runner) → AfterSend result old_tells new_tells link new_link bytes
    → Send bytes ≡ (turn now r).step → StandsFor new (turn now r).runner → AfterTurn result now new old_tells new_tells link new_link out out n r
turn_sent (Ok None) now new old_tells new_tells link new_link out bytes n r sent is stands = (
  stands,
  unfolds_sent now r bytes is,
  subst (λ step. GivesSteps n (step ∷ []) old_tells new_tells out out) is
      (record { put = puts_nothing out.sink.held; kept = adds_nothing out.keeper.rows; told = sent }),
)
turn_sent (Ok (Some turned.LinkFault)) now new old_tells new_tells link new_link out bytes n r sent is stands = (
  sent.0,
  unfolds_sent now r bytes is,
  subst (λ step. GivesSomeSteps AtSend n (step ∷ []) old_tells new_tells out out) is (record {
    some = record {
      kept = adds_none out.keeper.rows [];
      told = λ o log told. let part = sent.1 o log told in part_sent new_tells o log (record { answers = n; bytes = bytes }) part.0 part.1;
    };
    stops = stops_at_once AtSend (Send bytes) out.sink.held out.sink.held tt (puts_none out.sink.held []);
  }),
)
turn_sent (Ok (Some other)) now new old_tells new_tells link new_link out bytes n r sent is stands = absurd sent
turn_sent (Err e) now new old_tells new_tells link new_link out bytes n r sent is stands =
    cut_behind Anywhere any_longer now n r old_tells new_tells out out (unfolds_sent now r bytes is)
    (subst (λ step. GivesSomeSteps Anywhere n (step ∷ []) old_tells new_tells out out) is (record {
      some = record {
        kept = adds_none out.keeper.rows [];
        told = λ o log told. let part = sent o log told in part_sent new_tells o log (record { answers = n; bytes = bytes }) part.0 part.1;
      };
      stops = stops_at_once Anywhere (Send bytes) out.sink.held out.sink.held tt (puts_none out.sink.held []);
    }))

text_alone : (held new : Option (List ℕ)) (text : List ℕ) → Appends held new text → Appends held new (text ++ [])
text_alone held new text put = subst (λ t. Appends held new t) (sym (append-nil text)) put

-- nothing was sent
gives_none_but : {O : Type 0} {rows : List Row} (tells : O → List LinkMove → Type 0) (out new_out : Outlets)
    → AddsPart out.keeper.rows new_out.keeper.rows rows → GivesSome [] rows tells tells out new_out
gives_none_but tells out new_out kept =
    record { kept = kept; told = λ o log told. record { moves = []; told = tells_same tells o log told; some = tt } }

-- a text was put, or not
pub turn_printed : {O : Type 0} (result : Result (Option Turned) NoMemory) (now : ℕ) (new : RunnerKept) (tells : O → List LinkMove → Type 0)
    (link : LinkState) (out new_out : SinkState) (keeper : KeeperState) (text : List ℕ) (n : ℕ) (r : Runner) → AfterPut result out new_out text
    → Print text ≡ (turn now r).step → StandsFor new (turn now r).runner
    → AfterTurn result now new tells tells link link (outlets out keeper) (outlets new_out keeper) n r
turn_printed (Ok None) now new tells link out new_out keeper text n r put is stands = (
  stands,
  unfolds_printed now r text is,
  subst (λ step. GivesSteps n (step ∷ []) tells tells (outlets out keeper) (outlets new_out keeper)) is (record {
    put = text_alone out.held new_out.held text put;
    kept = adds_nothing keeper.rows;
    told = λ o log told. tells_same tells o log told;
  }),
)
turn_printed (Ok (Some turned.WriteFault)) now new tells link out new_out keeper text n r put is stands = (
  put.1,
  unfolds_printed now r text is,
  subst (λ step. GivesSomeSteps AtPrint n (step ∷ []) tells tells (outlets out keeper) (outlets new_out keeper)) is (record {
    some = gives_none_but tells (outlets out keeper) (outlets new_out keeper) (adds_none keeper.rows []);
    stops = stops_at_once AtPrint (Print text) out.held new_out.held tt (puts_more out.held new_out.held text [] put.0);
  }),
)
turn_printed (Ok (Some other)) now new tells link out new_out keeper text n r put is stands = absurd put
turn_printed (Err e) now new tells link out new_out keeper text n r put is stands =
    cut_behind Anywhere any_longer now n r tells tells (outlets out keeper) (outlets new_out keeper) (unfolds_printed now r text is)
    (subst (λ step. GivesSomeSteps Anywhere n (step ∷ []) tells tells (outlets out keeper) (outlets new_out keeper)) is (record {
      some = gives_none_but tells (outlets out keeper) (outlets new_out keeper) (adds_none keeper.rows []);
      stops = stops_at_once Anywhere (Print text) out.held new_out.held tt (puts_more out.held new_out.held text [] put);
    }))

rows_none : (old new : Option (List Row)) (row : Row) → new ≡ old → AddsPart old new (row ∷ [])
rows_none old new row same = subst (λ x. AddsPart old x (row ∷ [])) (sym same) (adds_none old (row ∷ []))

-- a row was put, or not
pub turn_kept : {O : Type 0} (result : Result (Option Turned) NoMemory) (now : ℕ) (new : RunnerKept) (tells : O → List LinkMove → Type 0)
    (link : LinkState) (out : SinkState) (keeper new_keeper : KeeperState) (row : Row) (n : ℕ) (r : Runner) → AfterKeep result keeper new_keeper row
    → Keep row ≡ (turn now r).step → StandsFor new (turn now r).runner
    → AfterTurn result now new tells tells link link (outlets out keeper) (outlets out new_keeper) n r
turn_kept (Ok None) now new tells link out keeper new_keeper row n r kept is stands = (
  stands,
  unfolds_kept now r row is,
  subst (λ step. GivesSteps n (step ∷ []) tells tells (outlets out keeper) (outlets out new_keeper)) is (record {
    put = puts_nothing out.held;
    kept = kept;
    told = λ o log told. tells_same tells o log told;
  }),
)
turn_kept (Ok (Some turned.KeeperFault)) now new tells link out keeper new_keeper row n r kept is stands = (
  kept.1,
  unfolds_kept now r row is,
  subst (λ step. GivesSomeSteps Anywhere n (step ∷ []) tells tells (outlets out keeper) (outlets out new_keeper)) is (record {
    some = gives_none_but tells (outlets out keeper) (outlets out new_keeper) (rows_none keeper.rows new_keeper.rows row kept.0);
    stops = stops_at_once Anywhere (Keep row) out.held out.held tt (puts_none out.held []);
  }),
)
turn_kept (Ok (Some other)) now new tells link out keeper new_keeper row n r kept is stands = absurd kept
turn_kept (Err e) now new tells link out keeper new_keeper row n r kept is stands =
    cut_behind Anywhere any_longer now n r tells tells (outlets out keeper) (outlets out new_keeper) (unfolds_kept now r row is)
    (subst (λ step. GivesSomeSteps Anywhere n (step ∷ []) tells tells (outlets out keeper) (outlets out new_keeper)) is (record {
      some = gives_none_but tells (outlets out keeper) (outlets out new_keeper) (rows_none keeper.rows new_keeper.rows row kept);
      stops = stops_at_once Anywhere (Keep row) out.held out.held tt (puts_none out.held []);
    }))

pub unless_turned : (result : Result (Option Turned) NoMemory) (P : Type 0) → P → UnlessTurned result P
unless_turned (Ok None) P p = p
unless_turned (Ok (Some turned.Waits)) P p = p
unless_turned (Ok (Some (turned.Over end))) P p = tt
unless_turned (Ok (Some turned.LinkFault)) P p = tt
unless_turned (Ok (Some turned.WriteFault)) P p = tt
unless_turned (Ok (Some turned.KeeperFault)) P p = tt
unless_turned (Err e) P p = tt

pub after_keep : (result : Result (Option Turned) NoMemory) (keeper new_keeper : KeeperState) (row : Row) (P : Type 0)
    → AfterKeep result keeper new_keeper row → (Adds keeper.rows new_keeper.rows (row ∷ []) → P) → UnlessTurned result P
after_keep (Ok None) keeper new_keeper row P kept p = p kept
after_keep (Ok (Some turned.Waits)) keeper new_keeper row P kept p = absurd kept
after_keep (Ok (Some (turned.Over end))) keeper new_keeper row P kept p = tt
after_keep (Ok (Some turned.LinkFault)) keeper new_keeper row P kept p = tt
after_keep (Ok (Some turned.WriteFault)) keeper new_keeper row P kept p = tt
after_keep (Ok (Some turned.KeeperFault)) keeper new_keeper row P kept p = tt
after_keep (Err e) keeper new_keeper row P kept p = tt

pub if_waits : (result : Turned) (P : Type 0) → UnlessTurned (Ok (Some result)) P → IfWaits (Ok result) P
if_waits turned.Waits P p = p
if_waits (turned.Over end) P p = tt
if_waits turned.LinkFault P p = tt
if_waits turned.WriteFault P p = tt
if_waits turned.KeeperFault P p = tt

-- no turn was taken
pub takes_none : {O : Type 0} (now : ℕ) (k : RunnerKept) (tells : O → List LinkMove → Type 0) (out : Outlets) (n : ℕ) (r : Runner)
    → StandsFor k r → TakesTurns now k tells tells out out n r
takes_none now k tells out n r stands = record { steps = []; behind = r; stands = stands; same = refl; gives = gives_nothing tells out }

-- one more
pub takes_more : {O : Type 0} (now : ℕ) (k new : RunnerKept) (first second third : O → List LinkMove → Type 0) (mid_link new_link : LinkState)
    (out mid new_out : Outlets) (n : ℕ) (r : Runner) → TakesTurns now k first second out mid n r
    → ((b : Runner) (m : ℕ) → StandsFor k b → AfterTurn (Ok None) now new second third mid_link new_link mid new_out m b)
    → TakesTurns now new first third out new_out n r
takes_more now k new first second third mid_link new_link out mid new_out n r t after =
    let b = t.behind in
    let more = after b n t.stands in
    record {
      steps = t.steps ++ (turn now b).step ∷ [];
      behind = (turn now b).runner;
      stands = more.0;
      same = joined_step t.steps (turns now b) (turns now (turn now b).runner) (turn now b) (turns now r) t.same more.1;
      gives = steps_then n t.steps ((turn now b).step ∷ []) first second third out mid new_out t.gives more.2;
    }

abbrev Cut : {O : Type 0} → (List CallStep → Type 0) → ℕ → Runner → ℕ → (O → List LinkMove → Type 0) → (O → List LinkMove → Type 0)
    → Outlets → Outlets → Type 0
Cut IsStop now r n first third out new_out = GivesSomeSteps IsStop n (turns now r).steps first third out new_out

-- the turns behind those that were taken are cut short
cut_later : {O : Type 0} (IsStop : List CallStep → Type 0) (now : ℕ) (k : RunnerKept) (first second third : O → List LinkMove → Type 0)
    (out mid new_out : Outlets) (n : ℕ) (r : Runner)
    (t : TakesTurns now k first second out mid n r) → Cut IsStop now t.behind n second third mid new_out → Cut IsStop now r n first third out new_out
cut_later IsStop now k first second third out mid new_out n r t cut =
    subst (λ (ts : Turns). GivesSomeSteps IsStop n ts.steps first third out new_out) (sym t.same)
    (some_steps_then IsStop n t.steps (turns now t.behind).steps first second third out mid new_out t.gives cut)

-- and then the runner rests, or breaks off
pub turned_so : {O : Type 0} (result : Turned) (now : ℕ) (k new : RunnerKept)
    (first second third : O → List LinkMove → Type 0) (link mid_link new_link : LinkState)
    (out mid new_out : Outlets) (n : ℕ) (r : Runner) → link.faults ≤ mid_link.faults → IsLater out mid → TakesTurns now k first second out mid n r
    → ((b : Runner) (m : ℕ) → StandsFor k b → AfterTurn (Ok (Some result)) now new second third mid_link new_link mid new_out m b)
    → AfterTurns (Ok result) now new first third link new_link out new_out n r
turned_so turned.Waits now k new first second third link mid_link new_link out mid new_out n r linked outed t after =
    let b = t.behind in
    let rest = after b n t.stands in
    let is : turns now r ≡ joined t.steps (record { steps = []; runner = (turn now b).runner }) = t.same ∙ ap (joined t.steps) (unfolds_waiting now b rest.1) in
    subst (λ (ts : Turns). StandsFor new ts.runner × (end_of_stage ts.runner.stage ≡ None) × GivesSteps n ts.steps first third out new_out) (sym is)
    (rest.0, turn_rests now b Wait rest.1, steps_then n t.steps [] first second third out mid new_out t.gives rest.2)
turned_so (turned.Over end) now k new first second third link mid_link new_link out mid new_out n r linked outed t after =
    let b = t.behind in
    let rest = after b n t.stands in
    let is : turns now r ≡ joined t.steps (record { steps = []; runner = (turn now b).runner }) =
    t.same ∙ ap (joined t.steps) (unfolds_over now b (end_meant end) rest.0) in
    subst
    (λ (ts : Turns). (end_of_stage ts.runner.stage ≡ Some (CallEnded (end_meant end))) × GivesSteps n ts.steps first third out new_out
    × (entries_taken new.stage ≡ entries_taken ts.runner.stage)) (sym is)
    (turn_rests now b (Over (end_meant end)) rest.0, steps_then n t.steps [] first second third out mid new_out t.gives rest.1, rest.2)
turned_so turned.LinkFault now k new first second third link mid_link new_link out mid new_out n r linked outed t after =
    let b = t.behind in
    let rest = after b n t.stands in (
      rose_later link.faults mid_link.faults new_link.faults linked rest.0,
      cut_later AtSend now k first second third out mid new_out n r t (cut_behind AtSend send_longer now n b second third mid new_out rest.1 rest.2),
    )
turned_so turned.WriteFault now k new first second third link mid_link new_link out mid new_out n r linked outed t after =
    let b = t.behind in
    let rest = after b n t.stands in (
      rose_later out.sink.faults mid.sink.faults new_out.sink.faults outed.sink.faults rest.0,
      cut_later AtPrint now k first second third out mid new_out n r t (cut_behind AtPrint print_longer now n b second third mid new_out rest.1 rest.2),
    )
turned_so turned.KeeperFault now k new first second third link mid_link new_link out mid new_out n r linked outed t after =
    let b = t.behind in
    let rest = after b n t.stands in (
      rose_later out.keeper.faults mid.keeper.faults new_out.keeper.faults outed.keeper rest.0,
      cut_later Anywhere now k first second third out mid new_out n r t (cut_behind Anywhere any_longer now n b second third mid new_out rest.1 rest.2),
    )

-- memory was wanting
pub turned_not : {O : Type 0} (e : NoMemory) (now : ℕ) (k new : RunnerKept)
    (first second third : O → List LinkMove → Type 0) (link mid_link new_link : LinkState)
    (out mid new_out : Outlets) (n : ℕ) (r : Runner) → TakesTurns now k first second out mid n r
    → ((b : Runner) (m : ℕ) → StandsFor k b → AfterTurn (Err e) now new second third mid_link new_link mid new_out m b)
    → AfterTurns (Err e) now new first third link new_link out new_out n r
turned_not e now k new first second third link mid_link new_link out mid new_out n r t after =
    cut_later Anywhere now k first second third out mid new_out n r t (after t.behind n t.stands)
