-- How a run ends that printed its outcome or wanted memory, or whose description was read.
use Rattle.std.proofs.Common.{◌≡◌, ℕ, List, [], Option, Some, None, inl, inr, subst, ap, sym, ◌∙◌, refl}
use Rattle.std.specs.Prelude.{Result, Ok, Err, OnErr}
use Rattle.ads_outside.specs.declared.named_file.NamedFile.{NamedFile}
use Rattle.ads_outside.specs.Named.{bytes_of}
use Rattle.ads_outside.specs.SinkState.{SinkState}
use Rattle.spec_plant.specs.Description.{Description}
use Rattle.spec_rules.specs.TextVerdict.{Described, text_verdict}
use Rattle.symbol_file.specs.declared.fault.DescFault.{DescFault}
use Rattle.symbol_file.specs.declared.fault.DescFault.TheVariants as fault
use Rattle.symbol_file.specs.Reading.{answer_of, IsVerdict}
use Rattle.type_layout.specs.declared.description.Description as layout
use Rattle.run_tasks.specs.declared.outcome.Outcome.{Outcome}
use Rattle.run_tasks.specs.declared.status.Status.{Status}
use Rattle.run_tasks.specs.declared.status.Status.TheVariants as status
use Rattle.run_tasks.specs.Ending.{Ending, line_alone}
use Rattle.run_tasks.specs.EndsOr.{WantsMemory, IsPrinted, EndsOr, EndsOrBy}
use Rattle.run_tasks.specs.Outcomes.{IsOutcome, Decides, HasBytes, Finds, IsRead, status_of_fault}
use Rattle.run_tasks.specs.Prints.{PrintsEnding}
use Rattle.run_tasks.specs.Readings.{OverFile, OverFiles}
use Rattle.run_tasks.specs.Verdict.{Verdict, Ends, ended, if_accepted, verdict_of_description_file}
use Rattle.run_tasks.proofs.ReadingLemmas.{map_file, map_files, at_bytes, decided_none}
use Rattle.run_tasks.proofs.VerdictLemmas.{Holds, of_description_file}

abbrev pub ending_in : Outcome → Ending
ending_in o = record { status = o.status; text = o.text }

pub on_err : {T E P : Type 0} (r : Result T E) → P → OnErr r P
on_err (Ok x) p = tt
on_err (Err e) p = p

-- the same text
pub prints_same : (r : Status) (text other : List ℕ) (s : Status) (old new : SinkState) → text ≡ other
    → PrintsEnding (record { status = r; text = text }) s old new → PrintsEnding (record { status = r; text = other }) s old new
prints_same r text other s old new is printed = let P : List ℕ → Type 0 = λ t. PrintsEnding (record { status = r; text = t }) s old new in subst P is printed

-- what the reading of a file gave, seen by its variant
pub finds_here : (held : Option (List NamedFile)) (name : List ℕ) (failed : Type 0) (found other : Result (List ℕ) Outcome) → found ≡ other
    → Finds held name failed found → Finds held name failed other
finds_here held name failed found other is finds = let P : Result (List ℕ) Outcome → Type 0 = λ r. Finds held name failed r in subst P is finds

-- the verdict of the reader is that of the text
pub verdict_here : (answer other : Result layout.Description DescFault) (n m : ℕ) (bytes : List ℕ) → answer ≡ other → n ≡ m → IsVerdict n bytes answer
    → answer_of other ≡ text_verdict m bytes
verdict_here answer other n m bytes same count is = sym (ap answer_of same) ∙ (is ∙ ap (λ k. text_verdict k bytes) count)

-- what holds whatever the files are
pub any_file : (held : Option (List NamedFile)) (P : List NamedFile → Type 0) → ((files : List NamedFile) → P files) → OverFile held P
any_file None P all = ([], all [])
any_file (Some files) P all = all files

pub any_files : (held : Option (List NamedFile)) (P : List NamedFile → List NamedFile → Type 0)
    → ((first second : List NamedFile) → P first second) → OverFiles held P
any_files None P all = ([], [], all [] [])
any_files (Some files) P all = all files files

-- what holds of the files at the first reading, whatever they are at the second
pub at_first : (held : Option (List NamedFile)) (P : List NamedFile → List NamedFile → Type 0)
    → ((second : List NamedFile) → OverFile held (λ first. P first second)) → OverFiles held P
at_first None P all = let one = all [] in (one.0, [], one.1)
at_first (Some files) P all = all files

-- an ending for which memory was wanting
pub wants_ending : (Still : Type 0) (e : Ending) (s : Status) (out out_new : SinkState) → Still → WantsMemory s out out_new
    → IsPrinted Still (Ends e) s out out_new
wants_ending Still e s out out_new still wants = record { ending = e; is = refl; printed = inr (inr (wants.0, inl wants.1)); still = still }

pub wants_endings : {X : Type 0} (kind : X → Verdict) (C : X → Type 0) (Still : Type 0) (s : Status) (out out_new : SinkState) → Still
    → WantsMemory s out out_new → Holds (λ v. EndsOr kind C Still v s out out_new)
wants_endings kind C Still s out out_new still wants = record {
  prints_ = λ text. inl (wants_ending Still (record { status = status.Done; text = text }) s out out_new still wants);
  bad = λ n item. inl (wants_ending Still (line_alone (status.BadDescription n item)) s out out_new still wants);
  script = λ n. inl (wants_ending Still (line_alone (status.BadScript n)) s out out_new still wants);
  unread = inl (wants_ending Still (line_alone status.ReadFault) s out out_new still wants);
  long = inl (wants_ending Still (line_alone status.TooLong) s out out_new still wants);
}

-- memory was wanting before or behind the reading of a description
pub wants_described : {X : Type 0} (kind : X → Verdict) (C : X → Type 0) (Still : Type 0) (held : Option (List NamedFile)) (signals : ℕ)
    (made : List ℕ → Description → Verdict) (name : List ℕ) (failed : Type 0) (s : Status) (out out_new : SinkState) → Still → WantsMemory s out out_new
    → ((bytes : List ℕ) (d : Description) → EndsOr kind C Still (made bytes d) s out out_new)
    → OverFile held (λ files. EndsOrBy kind C Still (verdict_of_description_file signals made (bytes_of files name)) failed s out out_new)
wants_described kind C Still held signals made name failed s out out_new still wants all =
    let P : Verdict → Type 0 = λ v. EndsOr kind C Still v s out out_new in
    let h = wants_endings kind C Still s out out_new still wants in
    any_file held (λ files. EndsOrBy kind C Still (verdict_of_description_file signals made (bytes_of files name)) failed s out out_new)
    (λ files. inl (of_description_file P signals made (bytes_of files name) h.unread h.long h.bad all))

-- what is printed of an outcome is what its verdict says
printed_so : (Still : Type 0) (v : Verdict) (o : Outcome) (s : Status) (out out_new : SinkState) → Still → IsOutcome v o
    → PrintsEnding (ending_in o) s out out_new → IsPrinted Still v s out out_new
printed_so Still v o s out out_new still is printed = record { ending = ending_in o; is = is; printed = printed; still = still }

by_decided : {X : Type 0} (kind : X → Verdict) (C : X → Type 0) (Still : Type 0) (v : Verdict) (failed : Type 0) (o : Outcome) (s : Status)
    (out out_new : SinkState) → Still → PrintsEnding (ending_in o) s out out_new → Decides v failed o → EndsOrBy kind C Still v failed s out out_new
by_decided kind C Still v failed o s out out_new still printed (inl is) = inl (inl (printed_so Still v o s out out_new still is printed))
by_decided kind C Still v failed o s out out_new still printed (inr fault) =
    inr (fault.0, printed_so Still (ended status.ReadFault) o s out out_new still fault.1 printed)

-- a run that printed what was decided ends by the verdict
pub ends_as_decided : {X : Type 0} (kind : X → Verdict) (C : X → Type 0) (Still : Type 0) (held : Option (List NamedFile))
    (v : List NamedFile → List NamedFile → Verdict) (failed : Type 0) (o : Outcome) (s : Status) (out out_new : SinkState) → Still
    → PrintsEnding (ending_in o) s out out_new → OverFiles held (λ first second. Decides (v first second) failed o)
    → OverFiles held (λ first second. EndsOrBy kind C Still (v first second) failed s out out_new)
ends_as_decided kind C Still held v failed o s out out_new still printed decided =
    map_files held (λ first second. Decides (v first second) failed o) (λ first second. EndsOrBy kind C Still (v first second) failed s out out_new)
    (λ first second d. by_decided kind C Still (v first second) failed o s out out_new still printed d) decided

-- the same of one file
pub ends_as_told : {X : Type 0} (kind : X → Verdict) (C : X → Type 0) (Still : Type 0) (held : Option (List NamedFile)) (v : List NamedFile → Verdict)
    (failed : Type 0) (o : Outcome) (s : Status) (out out_new : SinkState) → Still → PrintsEnding (ending_in o) s out out_new
    → OverFile held (λ files. Decides (v files) failed o) → OverFile held (λ files. EndsOrBy kind C Still (v files) failed s out out_new)
ends_as_told kind C Still held v failed o s out out_new still printed decided =
    map_file held (λ files. Decides (v files) failed o) (λ files. EndsOrBy kind C Still (v files) failed s out out_new)
    (λ files d. by_decided kind C Still (v files) failed o s out out_new still printed d) decided

-- the verdict on the file of a description that was read
at_described : (signals : ℕ) (made : List ℕ → Description → Verdict) (name bytes : List ℕ) (d : Description) (files : List NamedFile)
    → HasBytes name bytes files → Described d ≡ text_verdict signals bytes → verdict_of_description_file signals made (bytes_of files name) ≡ made bytes d
at_described signals made name bytes d files has is =
    at_bytes (λ b. if_accepted (made b) (text_verdict signals b)) name bytes files has ∙ ap (if_accepted (made bytes)) (sym is)

-- a description that was read decides
pub ends_read : {X : Type 0} (kind : X → Verdict) (C : X → Type 0) (Still : Type 0) (held : Option (List NamedFile)) (signals : ℕ)
    (made : List ℕ → Description → Verdict) (name bytes : List ℕ) (d : Description) (failed : Type 0) (s : Status) (out out_new : SinkState)
    → OverFile held (HasBytes name bytes) → Described d ≡ text_verdict signals bytes → EndsOr kind C Still (made bytes d) s out out_new
    → OverFile held (λ files. EndsOrBy kind C Still (verdict_of_description_file signals made (bytes_of files name)) failed s out out_new)
ends_read kind C Still held signals made name bytes d failed s out out_new has is ends =
    let P : Verdict → Type 0 = λ v. EndsOrBy kind C Still v failed s out out_new in
    map_file held (HasBytes name bytes) (λ files. EndsOrBy kind C Still (verdict_of_description_file signals made (bytes_of files name)) failed s out out_new)
    (λ files h. subst P (sym (at_described signals made name bytes d files h is)) (inl ends)) has

-- a verdict of the kind that was run
pub ends_run : {X : Type 0} (kind : X → Verdict) (C : X → Type 0) (Still : Type 0) (held : Option (List NamedFile))
    (v : List NamedFile → List NamedFile → Verdict) (x : X) (failed : Type 0) (s : Status) (out out_new : SinkState) → C x
    → OverFiles held (λ first second. kind x ≡ v first second) → OverFiles held (λ first second. EndsOrBy kind C Still (v first second) failed s out out_new)
ends_run kind C Still held v x failed s out out_new comes same =
    map_files held (λ first second. kind x ≡ v first second) (λ first second. EndsOrBy kind C Still (v first second) failed s out out_new)
    (λ first second k. inl (inr (record { made = x; is = k; comes = comes }))) same

-- the file of a description that is refused decides
pub told_refused : (held : Option (List NamedFile)) (signals : ℕ) (made : List ℕ → Description → Verdict) (name bytes : List ℕ) (f : DescFault)
    (failed : Type 0) (o : Outcome) → OverFile held (HasBytes name bytes) → answer_of (Err f) ≡ text_verdict signals bytes
    → IsOutcome (ended (status_of_fault f)) o
    → OverFile held (λ files. Decides (verdict_of_description_file signals made (bytes_of files name)) failed o)
told_refused held signals made name bytes f failed o has is out =
    map_file held (HasBytes name bytes) (λ files. Decides (verdict_of_description_file signals made (bytes_of files name)) failed o)
    (λ files h. inl (out ∙ (refused f is ∙ sym (at_bytes (λ b. if_accepted (made b) (text_verdict signals b)) name bytes files h)))) has
  where
    refused : (f : DescFault) → answer_of (Err f) ≡ text_verdict signals bytes
        → ended (status_of_fault f) ≡ if_accepted (made bytes) (text_verdict signals bytes)
    refused fault.Syntax e = ap (if_accepted (made bytes)) e
    refused (fault.Rule number item) e = ap (if_accepted (made bytes)) e

-- or the file of a description that gives no bytes
pub told_unread : (held : Option (List NamedFile)) (signals : ℕ) (made : List ℕ → Description → Verdict) (name : List ℕ) (failed : Type 0) (o : Outcome)
    → Finds held name failed (Err o) → OverFile held (λ files. Decides (verdict_of_description_file signals made (bytes_of files name)) failed o)
told_unread held signals made name failed o finds =
    decided_none held (λ bytes. if_accepted (made bytes) (text_verdict signals bytes)) name failed o finds

-- a description that was read, seen by its variant
pub read_here : (signals : ℕ) (name : List ℕ) (held : Option (List NamedFile)) (bytes text : List ℕ) (d : layout.Description)
    → text ≡ bytes → OverFile held (HasBytes name bytes) → answer_of (Ok d) ≡ text_verdict signals text
    → IsRead signals name held (record { bytes = bytes; description = d })
read_here signals name held bytes text d same has is = record { has = has; is = is ∙ ap (text_verdict signals) same }

-- an outcome over a description that was read
pub decided_read : (held : Option (List NamedFile)) (signals : ℕ) (made : List ℕ → Description → Verdict) (name bytes : List ℕ) (d : Description)
    (failed : Type 0) (o : Outcome) → OverFile held (HasBytes name bytes) → Described d ≡ text_verdict signals bytes → IsOutcome (made bytes d) o
    → OverFile held (λ files. Decides (verdict_of_description_file signals made (bytes_of files name)) failed o)
decided_read held signals made name bytes d failed o has is out =
    map_file held (HasBytes name bytes) (λ files. Decides (verdict_of_description_file signals made (bytes_of files name)) failed o)
    (λ files h. inl (out ∙ sym (at_described signals made name bytes d files h is))) has
