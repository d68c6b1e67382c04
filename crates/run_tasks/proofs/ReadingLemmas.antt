-- What the readings of files decide.
use Rattle.std.proofs.Common.{rules, ◌≡◌, ◌<◌, ◌≤◌, ℕ, List, [], ◌∷◌, Option, Some, None, Err, inl, inr, subst, ap, sym, ◌∙◌, refl, length, zero, suc, true}
use Rattle.std.proofs.Common.{Bool, arith}
use Rattle.std.specs.Prelude.{if◌then◌else◌, IsSomeAnd}
use Rattle.std.specs.Str.{bytes_eq}
use Rattle.std.proofs.lemmas.Bool.{le-ltb, lt-ltb}
use Rattle.std.proofs.lemmas.Slice.Eq.{bytes_eq-Decides}
use Rattle.ads_outside.specs.declared.named_file.NamedFile.{NamedFile}
use Rattle.ads_outside.specs.declared.got.Got.TheVariants as got
use Rattle.ads_outside.specs.Limit.{file_limit}
use Rattle.ads_outside.specs.Named.{bytes_of}
use Rattle.ads_outside.specs.Reads.{Reads}
use Rattle.ads_outside.specs.Rose.{Rose}
use Rattle.run_tasks.specs.declared.outcome.Outcome.{Outcome}
use Rattle.run_tasks.specs.declared.status.Status.TheVariants as status
use Rattle.run_tasks.specs.Verdict.{Verdict, ended, verdict_of_file}
use Rattle.run_tasks.specs.Outcomes.{IsOutcome, Decides, HasBytes, IsLong, Finds}
use Rattle.run_tasks.specs.Readings.{OverFile, OverFiles}

bytes_itself : (xs : List ℕ) → bytes_eq xs xs ≡ true
bytes_itself xs = let d = bytes_eq-Decides xs xs in d.1 refl

-- a file of these bytes alone
only_file : List ℕ → List ℕ → List NamedFile
only_file name bytes = record { name = name; bytes = bytes } ∷ []

bytes_of-only_file : (name bytes : List ℕ) → bytes_of (only_file name bytes) name ≡ Some bytes
unfolding only_file
bytes_of-only_file name bytes = ap (λ (b : Bool). if b then Some bytes else None) (bytes_itself name)

-- some list of each length
list_of : (n : ℕ) → (bytes : List ℕ) × (length bytes ≡ n)
list_of zero = ([], refl)
list_of (suc n) = (0 ∷ (list_of n).0, ap suc (list_of n).1)

long_list : (limit : ℕ) → (bytes : List ℕ) × (limit < length bytes)
long_list limit = let more = list_of (suc limit) in (more.0, omega (arith, more.1))

-- bytes that were read are those of the file
pub over_bytes : (held : Option (List NamedFile)) (name bytes : List ℕ) → Reads held name (got.Bytes bytes) → length bytes ≤ file_limit
    → OverFile held (HasBytes name bytes)
over_bytes None name bytes read short = (only_file name bytes, record { are = bytes_of-only_file name bytes; short = short })
over_bytes (Some files) name bytes read short = record { are = read; short = short }

-- so is a file that is too long
pub over_long : (held : Option (List NamedFile)) (name : List ℕ) → Reads held name got.TooLong → OverFile held (IsLong name)
over_long None name read =
    let long = long_list file_limit in
    (only_file name long.0, subst (λ o. IsSomeAnd o (λ bytes. file_limit < length bytes)) (sym (bytes_of-only_file name long.0)) long.1)
over_long (Some files) name read = read

-- the verdict on a file with these bytes
pub at_bytes : (v : List ℕ → Verdict) (name bytes : List ℕ) (files : List NamedFile) → HasBytes name bytes files
    → verdict_of_file v (bytes_of files name) ≡ v bytes
at_bytes v name bytes files h =
    ap (verdict_of_file v) h.are ∙ ap (λ (b : Bool). if b then ended status.TooLong else v bytes) (le-ltb file_limit (length bytes) h.short)

-- the verdict on a file above the limit
pub at_long : (v : List ℕ → Verdict) (name : List ℕ) (files : List NamedFile) → IsLong name files
    → verdict_of_file v (bytes_of files name) ≡ ended status.TooLong
at_long v name files h = long (bytes_of files name) h
  where
    long : (o : Option (List ℕ)) → IsSomeAnd o (λ bytes. file_limit < length bytes) → verdict_of_file v o ≡ ended status.TooLong
    long None h = absurd h
    long (Some bytes) h = ap (λ (b : Bool). if b then ended status.TooLong else v bytes) (lt-ltb file_limit (length bytes) h)

pub map_file : (held : Option (List NamedFile)) (P Q : List NamedFile → Type 0) → ((files : List NamedFile) → P files → Q files)
    → OverFile held P → OverFile held Q
map_file None P Q all h = (h.0, all h.0 h.1)
map_file (Some files) P Q all h = all files h

-- bytes that were read decide
pub decided_bytes : (held : Option (List NamedFile)) (v : List ℕ → Verdict) (name bytes : List ℕ) (failed : Type 0) (o : Outcome)
    → OverFile held (HasBytes name bytes) → IsOutcome (v bytes) o
    → OverFile held (λ files. Decides (verdict_of_file v (bytes_of files name)) failed o)
decided_bytes held v name bytes failed o has is =
    map_file held (HasBytes name bytes) (λ files. Decides (verdict_of_file v (bytes_of files name)) failed o)
    (λ files h. inl (is ∙ sym (at_bytes v name bytes files h))) has

-- so does a file that gave none
pub decided_none : (held : Option (List NamedFile)) (v : List ℕ → Verdict) (name : List ℕ) (failed : Type 0) (o : Outcome)
    → Finds held name failed (Err o) → OverFile held (λ files. Decides (verdict_of_file v (bytes_of files name)) failed o)
decided_none held v name failed o (inl h) =
    map_file held (IsLong name) (λ files. Decides (verdict_of_file v (bytes_of files name)) failed o)
    (λ files long. inl (h.1 ∙ sym (at_long v name files long))) h.0
decided_none None v name failed o (inr h) = ([], inr h)
decided_none (Some files) v name failed o (inr h) = inr h

-- a fact about the files at the first reading
pub over_first : (held : Option (List NamedFile)) (P : List NamedFile → Type 0) → OverFile held P → OverFiles held (λ first second. P first)
over_first None P h = (h.0, [], h.1)
over_first (Some files) P h = h

-- facts about the files at each reading
pub over_both : (held : Option (List NamedFile)) (P Q : List NamedFile → Type 0) (R : List NamedFile → List NamedFile → Type 0)
    → ((first second : List NamedFile) → P first → Q second → R first second) → OverFile held P → OverFile held Q → OverFiles held R
over_both None P Q R all p q = (p.0, q.0, all p.0 q.0 p.1 q.1)
over_both (Some files) P Q R all p q = all files files p q

pub map_files : (held : Option (List NamedFile)) (P Q : List NamedFile → List NamedFile → Type 0)
    → ((first second : List NamedFile) → P first second → Q first second) → OverFiles held P → OverFiles held Q
map_files None P Q all h = (h.0, h.1, all h.0 h.1 h.2)
map_files (Some files) P Q all h = all files files h

-- a fault behind a later count is one behind an earlier one
pub rose_from : (old mid new : ℕ) → old ≤ mid → Rose mid new → Rose old new
rose_from old mid new later rose = search rules
