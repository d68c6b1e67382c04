-- What the readings of a description and of a script give.
use Rattle.std.proofs.Common.{◌≡◌, ◌≤◌, ℕ, List, [], Option, Some, None, Err, inl, inr, subst, ap, sym, ◌∙◌}
use Rattle.std.specs.Prelude.{IfOk, Result, Ok}
use Rattle.ads_outside.specs.declared.named_file.NamedFile.{NamedFile}
use Rattle.ads_outside.specs.Named.{bytes_of}
use Rattle.ads_outside.specs.Rose.{Rose}
use Rattle.signals.specs.Wave.{Wave}
use Rattle.spec_plant.specs.Description.{Description}
use Rattle.spec_machine.specs.ScriptLine.{ScriptLine}
use Rattle.spec_rules.specs.TextVerdict.{TextVerdict, Described, text_verdict}
use Rattle.spec_server.specs.Server.{server_script}
use Rattle.ads_base.specs.declared.no_memory.NoMemory.{NoMemory}
use Rattle.run_tasks.specs.declared.file_task.FileTask.{FileTask}
use Rattle.run_tasks.specs.declared.file_task.FileTask.TheVariants as file_task
use Rattle.run_tasks.specs.declared.outcome.Outcome.{Outcome}
use Rattle.plant_commands.specs.declared.scripted.Scripted.{Scripted}
use Rattle.run_tasks.specs.Verdict.{Verdict, Play, verdict_of_file, verdict_of_lines, verdict_of_script, verdict_of_described, verdict_of_both}
use Rattle.run_tasks.specs.Verdict.{verdict_of_load, verdict_of_file_task}
use Rattle.run_tasks.specs.Outcomes.{IsOutcome, Decides, HasBytes}
use Rattle.plant_commands.specs.FileOutcomes.{IsScriptOf, GivesScript, GivesBoth}
use Rattle.run_tasks.specs.Readings.{OverFile, OverFiles}
use Rattle.run_tasks.proofs.ReadingLemmas.{at_bytes, map_file, map_files, over_both, rose_from}

-- what is given by a verdict is given by the same one where more may have failed
gives_weaker : (play : Play) (verdict : Verdict) (failed later : Type 0) (found : Result Scripted Outcome) → (later → failed)
    → GivesBoth play verdict later found → GivesBoth play verdict failed found
gives_weaker play verdict failed later (Ok both) weaker h = h
gives_weaker play verdict failed later (Err o) weaker (inl is) = inl is
gives_weaker play verdict failed later (Err o) weaker (inr fault) = inr (weaker fault.0, fault.1)

-- a description that was read, and what is given by the script's file over it
gives_found : (held : Option (List NamedFile)) (play : Play) (over : List NamedFile → List ℕ → Verdict) (name bytes : List ℕ)
    (failed later : Type 0) (found : Result Scripted Outcome) → (later → failed) → OverFile held (HasBytes name bytes)
    → OverFile held (λ second. GivesBoth play (over second bytes) later found)
    → OverFiles held (λ first second. GivesBoth play (verdict_of_file (over second) (bytes_of first name)) failed found)
gives_found held play over name bytes failed later found weaker has gives =
    over_both held (HasBytes name bytes) (λ second. GivesBoth play (over second bytes) later found)
    (λ first second. GivesBoth play (verdict_of_file (over second) (bytes_of first name)) failed found)
    (λ first second h d. subst (λ verdict. GivesBoth play verdict failed found) (sym (at_bytes (over second) name bytes first h))
    (gives_weaker play (over second bytes) failed later found weaker d))
    has gives

-- what the script's file gives over a description that was read is given of both files
pub gives_both : (held mid_held : Option (List NamedFile)) (play : Play) (signals : ℕ) (script name bytes : List ℕ) (d : Description) (old mid new : ℕ)
    (found : Result Scripted Outcome) → mid_held ≡ held → old ≤ mid → OverFile held (HasBytes name bytes) → Described d ≡ text_verdict signals bytes
    → OverFile mid_held (λ second. GivesBoth play (verdict_of_file (verdict_of_script (play d)) (bytes_of second script)) (Rose mid new) found)
    → OverFiles held (λ first second. GivesBoth play (verdict_of_both signals play name script first second) (Rose old new) found)
gives_both held mid_held play signals script name bytes d old mid new found same later has is gives =
    let over : List NamedFile → List ℕ → Verdict = λ second bytes. verdict_of_described play (bytes_of second script) (text_verdict signals bytes) in
    gives_found held play over name bytes (Rose old new) (Rose mid new) found (rose_from old mid new later) has
    (subst (λ (v : TextVerdict). OverFile held (λ second. GivesBoth play (verdict_of_described play (bytes_of second script) v) (Rose mid new) found)) is
    (subst (λ (h : Option (List NamedFile)). OverFile h (λ second. GivesBoth play (verdict_of_file (verdict_of_script (play d)) (bytes_of second script))
    (Rose mid new) found)) same gives))

-- lines that were read are what a verdict is made of, and a line off the grammar ends the run
pub lines_of_script : (play : List ScriptLine → Verdict) (bytes : List ℕ) (answer : Result (List ScriptLine) ℕ) → server_script bytes ≡ answer
    → verdict_of_lines play answer ≡ verdict_of_script play bytes
lines_of_script play bytes answer is = sym (ap (verdict_of_lines play) is)

-- the script of a file that was read
pub gives_script : (held : Option (List NamedFile)) (play : List ScriptLine → Verdict) (name bytes text : List ℕ) (failed : Type 0)
    (found : Result (List ScriptLine) Outcome) → text ≡ bytes → OverFile held (HasBytes name bytes) → IsScriptOf play (verdict_of_script play text) found
    → OverFile held (λ second. GivesScript play (verdict_of_file (verdict_of_script play) (bytes_of second name)) failed found)
gives_script held play name bytes text failed found is has h =
    map_file held (HasBytes name bytes) (λ second. GivesScript play (verdict_of_file (verdict_of_script play) (bytes_of second name)) failed found)
    (λ files k. subst (λ v. GivesScript play v failed found) (sym (at_bytes (verdict_of_script play) name bytes files k))
    (subst (λ (b : List ℕ). GivesScript play (verdict_of_script play b) failed found) is (given (verdict_of_script play text) found h))) has
  where
    given : (verdict : Verdict) (r : Result (List ScriptLine) Outcome) → IsScriptOf play verdict r → GivesScript play verdict failed r
    given verdict (Ok lines) h = h
    given verdict (Err o) h = inl h

-- where a script was read, how the run ends is that of its play
pub decided_played : (held : Option (List NamedFile)) (verdict_for : List NamedFile → List NamedFile → Verdict) (verdict : Verdict) (failed : Type 0)
    (o : Outcome) → IsOutcome verdict o → OverFiles held (λ first second. verdict ≡ verdict_for first second)
    → OverFiles held (λ first second. Decides (verdict_for first second) failed o)
decided_played held verdict_for verdict failed o is same =
    map_files held (λ first second. verdict ≡ verdict_for first second) (λ first second. Decides (verdict_for first second) failed o)
    (λ first second k. inl (is ∙ k)) same

-- the same over a description that is known
pub decided_built : (play : Play) (d known : Description) (lines : List ScriptLine) (bytes : List ℕ) (answer : Result Outcome NoMemory) → d ≡ known
    → play known lines ≡ verdict_of_script (play known) bytes → IfOk answer (IsOutcome (play d lines))
    → IfOk answer (IsOutcome (verdict_of_script (play known) bytes))
decided_built play d known lines bytes answer is same h =
    let P : Verdict → Type 0 = λ v. IfOk answer (IsOutcome v) in
    subst P (ap (λ (x : Description). play x lines) is ∙ same) h

-- what is decided whatever the files hold
pub decided_alone : (held : Option (List NamedFile)) (verdict : Verdict) (failed : Type 0) (o : Outcome) → IsOutcome verdict o
    → OverFiles held (λ first second. Decides verdict failed o)
decided_alone None verdict failed o is = ([], [], inl is)
decided_alone (Some files) verdict failed o is = inl is

pub load_decided : (held : Option (List NamedFile)) (waves : List Wave) (t : FileTask) (n : ℕ) (failed : Type 0) (answer : Result Outcome NoMemory)
    → t ≡ file_task.Load n → IfOk answer (IsOutcome (verdict_of_load waves n))
    → IfOk answer (λ o. OverFiles held (λ first second. Decides (verdict_of_file_task waves t first second) failed o))
load_decided held waves t n failed (Err e) is h = tt
load_decided held waves t n failed (Ok o) is h =
    let P : FileTask → Type 0 = λ u. OverFiles held (λ first second. Decides (verdict_of_file_task waves u first second) failed o) in
    subst P (sym is) (decided_alone held (verdict_of_load waves n) failed o h)
