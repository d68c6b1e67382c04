-- What is written of a read is what its form says.
use Rattle.std.proofs.Common.{◌≡◌, inl, inr, true, false, ℕ, ◌-◌, ◌≤◌, List, ◌++◌, length, replicate, refl, ◌∙◌, ap, arith, append_assoc, length-append}
use Rattle.std.specs.Prelude.{◌⊎◌}
use Rattle.std.proofs.lemmas.List.{append-nil, length-replicate}
use Rattle.spec_formats.specs.Numbers.{number32}
use Rattle.spec_formats.specs.Request.{Read}
use Rattle.spec_machine.specs.Acts.{Outcome}
use Rattle.sum_commands.specs.declared.form.Form.{Form}
use Rattle.sum_commands.specs.declared.form.Form.TheVariants as form
use Rattle.sum_commands.specs.Forms.{front_width, part_of}
use Rattle.sum_commands.specs.Parts.{written_over}
use Rattle.sum_commands.specs.Packing.{front_of, data_of}
use Rattle.sum_commands.specs.Reads.{is_of_reads, read_width, read_front, zeros_of}

front_of-read : (form : Form) (o : Outcome) → is_of_reads form ≡ true → read_front form o.code (length o.bytes) ≡ front_of form o
front_of-read form.Reads o reads = refl
front_of-read form.ToldReads o reads = refl
front_of-read form.ShortReads o reads = refl
front_of-read form.Writes o reads = absurd (let no : false ≡ true = reads in cc)
front_of-read form.ReadWrites o reads = absurd (let no : false ≡ true = reads in cc)
front_of-read form.Additions o reads = absurd (let no : false ≡ true = reads in cc)
front_of-read form.ShortAdditions o reads = absurd (let no : false ≡ true = reads in cc)
front_of-read form.Deletions o reads = absurd (let no : false ≡ true = reads in cc)

data_of-read : (form : Form) (group offset len : ℕ) (o : Outcome) → is_of_reads form ≡ true
    → o.bytes ++ replicate (zeros_of form (len - length o.bytes)) 0 ≡ data_of form (Read group offset len) o
data_of-read form.Reads group offset len o reads = refl
data_of-read form.ToldReads group offset len o reads = refl
data_of-read form.ShortReads group offset len o reads = append-nil o.bytes
data_of-read form.Writes group offset len o reads = absurd (let no : false ≡ true = reads in cc)
data_of-read form.ReadWrites group offset len o reads = absurd (let no : false ≡ true = reads in cc)
data_of-read form.Additions group offset len o reads = absurd (let no : false ≡ true = reads in cc)
data_of-read form.ShortAdditions group offset len o reads = absurd (let no : false ≡ true = reads in cc)
data_of-read form.Deletions group offset len o reads = absurd (let no : false ≡ true = reads in cc)

length-data_of-read : (form : Form) (group offset len : ℕ) (o : Outcome) → is_of_reads form ≡ true → length o.bytes ≤ len
    → length (data_of form (Read group offset len) o) ≤ len
length-data_of-read form.Reads group offset len o reads short =
    let zeros = len - length o.bytes in
    omega (arith, short, length-append o.bytes (replicate zeros 0), length-replicate {A = ℕ} zeros 0)
length-data_of-read form.ToldReads group offset len o reads short =
    let zeros = len - length o.bytes in
    omega (arith, short, length-append o.bytes (replicate zeros 0), length-replicate {A = ℕ} zeros 0)
length-data_of-read form.ShortReads group offset len o reads short = short
length-data_of-read form.Writes group offset len o reads short = absurd (let no : false ≡ true = reads in cc)
length-data_of-read form.ReadWrites group offset len o reads short = absurd (let no : false ≡ true = reads in cc)
length-data_of-read form.Additions group offset len o reads short = absurd (let no : false ≡ true = reads in cc)
length-data_of-read form.ShortAdditions group offset len o reads short = absurd (let no : false ≡ true = reads in cc)
length-data_of-read form.Deletions group offset len o reads short = absurd (let no : false ≡ true = reads in cc)

-- a read ended so: its result and its data are those of its form
pub record IsRead (form : Form) (group offset len : ℕ) (o : Outcome) (at : ℕ) (base out : List ℕ) : Type 0 where
  pub bytes : out ≡ written_over at (front_of form o) (base ++ data_of form (Read group offset len) o)
  pub asked : length (data_of form (Read group offset len) o) ≤ len

pub read-ends : (form : Form) (group offset len code given : ℕ) (o : Outcome) (at : ℕ) (base read out : List ℕ)
    → is_of_reads form ≡ true → code ≡ o.code → read ≡ base ++ o.bytes → given ≡ length o.bytes → given ≤ len
    → out ≡ written_over at (read_front form code given) (read ++ replicate (zeros_of form (len - given)) 0)
    → IsRead form group offset len o at base out
read-ends form group offset len code given o at base read out reads same_code appended same_len short written =
    let zeros = replicate (zeros_of form (len - length o.bytes)) 0 in
    let text : (base ++ o.bytes) ++ zeros ≡ base ++ data_of form (Read group offset len) o =
    append_assoc base o.bytes zeros ∙ ap (λ x. base ++ x) (data_of-read form group offset len o reads) in
    record {
      bytes = written
          ∙ ap (λ c. written_over at (read_front form c given) (read ++ replicate (zeros_of form (len - given)) 0)) same_code
          ∙ ap (λ n. written_over at (read_front form o.code n) (read ++ replicate (zeros_of form (len - n)) 0)) same_len
          ∙ ap (λ x. written_over at (read_front form o.code (length o.bytes)) (x ++ zeros)) appended
          ∙ ap (λ x. written_over at (read_front form o.code (length o.bytes)) x) text
          ∙ ap (λ x. written_over at x (base ++ data_of form (Read group offset len) o)) (front_of-read form o reads);
      asked = length-data_of-read form group offset len o reads (omega (arith, short, same_len));
    }

-- one of the three forms
pub reads-of : (f : Form) → (f ≡ form.Reads) ⊎ ((f ≡ form.ToldReads) ⊎ (f ≡ form.ShortReads)) → is_of_reads f ≡ true
reads-of f (inl e) = ap is_of_reads e
reads-of f (inr (inl e)) = ap is_of_reads e
reads-of f (inr (inr e)) = ap is_of_reads e

-- the room of a read's result
pub read_width-front : (form : Form) → is_of_reads form ≡ true → read_width form ≡ front_width form
read_width-front form.Reads reads = refl
read_width-front form.ToldReads reads = refl
read_width-front form.ShortReads reads = refl
read_width-front form.Writes reads = absurd (let no : false ≡ true = reads in cc)
read_width-front form.ReadWrites reads = absurd (let no : false ≡ true = reads in cc)
read_width-front form.Additions reads = absurd (let no : false ≡ true = reads in cc)
read_width-front form.ShortAdditions reads = absurd (let no : false ≡ true = reads in cc)
read_width-front form.Deletions reads = absurd (let no : false ≡ true = reads in cc)

-- a part of such a sum is a read
pub part_of-read : (form : Form) (heads written : List ℕ) → is_of_reads form ≡ true
    → part_of form heads written ≡ Read (number32 0 heads) (number32 4 heads) (number32 8 heads)
part_of-read form.Reads heads written reads = refl
part_of-read form.ToldReads heads written reads = refl
part_of-read form.ShortReads heads written reads = refl
part_of-read form.Writes heads written reads = absurd (let no : false ≡ true = reads in cc)
part_of-read form.ReadWrites heads written reads = absurd (let no : false ≡ true = reads in cc)
part_of-read form.Additions heads written reads = absurd (let no : false ≡ true = reads in cc)
part_of-read form.ShortAdditions heads written reads = absurd (let no : false ≡ true = reads in cc)
part_of-read form.Deletions heads written reads = absurd (let no : false ≡ true = reads in cc)
