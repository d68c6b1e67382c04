-- What holds of each verdict on files.
use Rattle.std.proofs.Common.{ℕ, List, Option, Some, None, length}
use Rattle.std.specs.Prelude.{Bool, true, false, Result, Ok, Err, nat_lt, if◌then◌else◌}
use Rattle.signals.specs.Wave.{Wave}
use Rattle.ads_outside.specs.declared.named_file.NamedFile.{NamedFile}
use Rattle.ads_outside.specs.Limit.{file_limit}
use Rattle.ads_outside.specs.Named.{bytes_of}
use Rattle.spec_plant.specs.Description.{Description}
use Rattle.spec_machine.specs.ScriptLine.{ScriptLine}
use Rattle.spec_rules.specs.TextVerdict.{TextVerdict, Described, Breaks, NoDocument, text_verdict}
use Rattle.spec_server.specs.Server.{server_script}
use Rattle.run_tasks.specs.declared.file_task.FileTask.{FileTask}
use Rattle.run_tasks.specs.declared.file_task.FileTask.TheVariants as file_task
use Rattle.run_tasks.specs.declared.status.Status.TheVariants as status
use Rattle.run_tasks.specs.BuiltIn.{built_in}
use Rattle.run_tasks.specs.Verdict.{Verdict, Play, ended, prints, over_server, over_relay, verdict_of_lines, verdict_of_script}
use Rattle.description_migration.specs.Migration.{migrated_text}
use Rattle.run_tasks.specs.Report.{report_of}
use Rattle.run_tasks.specs.Verdict.{if_accepted, verdict_of_description, verdict_of_description_file, verdict_of_file, verdict_of_described, verdict_of_both}
use Rattle.run_tasks.specs.Verdict.{verdict_of_migrated, verdict_of_file_task}

-- what holds of each ending of a task that asks its files alone, and of one that was refused
pub record Holds (P : Verdict → Type 0) : Type 0 where
  pub prints_ : (text : List ℕ) → P (prints text)
  pub bad : (number item : ℕ) → P (ended (status.BadDescription number item))
  pub script : (n : ℕ) → P (ended (status.BadScript n))
  pub unread : P (ended status.ReadFault)
  pub long : P (ended status.TooLong)

pub of_file : (P : Verdict → Type 0) (v : List ℕ → Verdict) (o : Option (List ℕ)) → P (ended status.ReadFault) → P (ended status.TooLong)
    → ((bytes : List ℕ) → P (v bytes))
    → P (verdict_of_file v o)
of_file P v None unread long all = unread
of_file P v (Some bytes) unread long all = go (nat_lt file_limit (length bytes))
  where
    go : (b : Bool) → P (if b then ended status.TooLong else v bytes)
    go true = long
    go false = all bytes

of_lines : (P : Verdict → Type 0) → Holds P → (play : List ScriptLine → Verdict) → ((lines : List ScriptLine) → P (play lines))
    → (r : Result (List ScriptLine) ℕ) → P (verdict_of_lines play r)
of_lines P h play all (Ok lines) = all lines
of_lines P h play all (Err n) = h.script n

of_script : (P : Verdict → Type 0) → Holds P → (play : List ScriptLine → Verdict) → ((lines : List ScriptLine) → P (play lines))
    → (o : Option (List ℕ)) → P (verdict_of_file (verdict_of_script play) o)
of_script P h play all o = of_file P (verdict_of_script play) o h.unread h.long (λ bytes. of_lines P h play all (server_script bytes))

-- what holds of what is made of a description holds of the verdict on its text
pub of_accepted : (P : Verdict → Type 0) (made : Description → Verdict) (v : TextVerdict) → ((n item : ℕ) → P (ended (status.BadDescription n item)))
    → ((d : Description) → P (made d)) → P (if_accepted made v)
of_accepted P made (Described d) bad all = all d
of_accepted P made (Breaks n item) bad all = bad n item
of_accepted P made NoDocument bad all = bad 0 0

-- and of the verdict on its file
pub of_description_file : (P : Verdict → Type 0) (signals : ℕ) (made : List ℕ → Description → Verdict) (file : Option (List ℕ))
    → P (ended status.ReadFault) → P (ended status.TooLong) → ((n item : ℕ) → P (ended (status.BadDescription n item)))
    → ((bytes : List ℕ) (d : Description) → P (made bytes d)) → P (verdict_of_description_file signals made file)
of_description_file P signals made file unread long bad all =
    of_file P (λ bytes. if_accepted (made bytes) (text_verdict signals bytes)) file unread long
    (λ bytes. of_accepted P (made bytes) (text_verdict signals bytes) bad (all bytes))

of_check : (P : Verdict → Type 0) → Holds P → (v : TextVerdict) → P (verdict_of_description v)
of_check P h v = of_accepted P (λ d. prints (report_of d)) v h.bad (λ d. h.prints_ _)

of_described : (P : Verdict → Type 0) → Holds P → (play : Play) → ((d : Description) (lines : List ScriptLine) → P (play d lines))
    → (script : Option (List ℕ)) (v : TextVerdict) → P (verdict_of_described play script v)
of_described P h play all script v =
    of_accepted P (λ d. verdict_of_file (verdict_of_script (play d)) script) v h.bad (λ d. of_script P h (play d) (all d) script)

pub of_both : (P : Verdict → Type 0) → Holds P → (play : Play) → ((d : Description) (lines : List ScriptLine) → P (play d lines))
    → (signals : ℕ) (description script : List ℕ) (first second : List NamedFile) → P (verdict_of_both signals play description script first second)
of_both P h play all signals description script first second =
    of_file P (λ bytes. verdict_of_described play (bytes_of second script) (text_verdict signals bytes)) (bytes_of first description) h.unread h.long
    (λ bytes. of_described P h play all (bytes_of second script) (text_verdict signals bytes))

of_migrated : (P : Verdict → Type 0) → Holds P → (bytes : List ℕ) (v : TextVerdict) → P (verdict_of_migrated bytes v)
of_migrated P h bytes v = of_accepted P (λ d. prints (migrated_text bytes)) v h.bad (λ d. h.prints_ _)

pub of_file_task : (P : Verdict → Type 0) → Holds P → (waves : List Wave) (t : FileTask) (first second : List NamedFile)
    → P (verdict_of_file_task waves t first second)
of_file_task P h waves (file_task.Selftest script) first second =
    of_script P h (over_server waves built_in) (λ lines. h.prints_ _) (bytes_of first script)
of_file_task P h waves (file_task.Check d) first second =
    of_file P (λ bytes. verdict_of_description (text_verdict (length waves) bytes)) (bytes_of first d) h.unread h.long
    (λ bytes. of_check P h (text_verdict (length waves) bytes))
of_file_task P h waves (file_task.Replay d script) first second =
    of_both P h (over_server waves) (λ x lines. h.prints_ _) (length waves) d script first second
of_file_task P h waves (file_task.Relay d script) first second =
    of_both P h over_relay (λ x lines. h.prints_ _) (length waves) d script first second
of_file_task P h waves (file_task.Load n) first second = h.prints_ _
of_file_task P h waves (file_task.Migrate d) first second =
    of_file P (λ bytes. verdict_of_migrated bytes (text_verdict (length waves) bytes)) (bytes_of first d) h.unread h.long
    (λ bytes. of_migrated P h bytes (text_verdict (length waves) bytes))
