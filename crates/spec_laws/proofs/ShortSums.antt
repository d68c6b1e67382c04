-- What a sum gives has the length that its refusal is decided by.
use Rattle.std.proofs.Common.{◌≡◌, ℕ, zero, suc, ◌-◌, ◌*◌, ◌≤◌, List, [], ◌∷◌, ◌++◌, length, Bool, true, false, refl, ap, subst, arith, inl, inr}
use Rattle.std.specs.Prelude.{Option, Some, None, IfSome, drop, take, sum, flat_map, replicate, nat_lt, not, ◌==◌, ◌||◌}
use Rattle.std.specs.Int.{w32, to_le_bytes}
use Rattle.std.proofs.lemmas.Bool.{cases_Bool, ltb-false}
use Rattle.std.proofs.lemmas.List.{length-append, length-replicate}
use Rattle.std.proofs.lemmas.List.Sums.{sum_by-cons}
use Rattle.spec_plant.specs.World.{Block}
use Rattle.spec_formats.specs.Numbers.{number32}
use Rattle.spec_formats.specs.Ranges.{greatest_len}
use Rattle.spec_formats.specs.Request.{Request, Read, ReadWrite}
use Rattle.spec_machine.specs.World.{Setup}
use Rattle.spec_machine.specs.Client.{Client}
use Rattle.spec_machine.specs.Acts.{Outcome, outcome_of, memory_after, outcomes_of}
use Rattle.spec_machine.specs.Writes.{Asker}
use Rattle.spec_machine.specs.Requests.{act_of}
use Rattle.spec_machine.specs.Sums.{SumRequest, numbers_of_heads, read_parts, write_parts, read_write_parts, addition_width, addition_parts, deletion_parts}
use Rattle.spec_machine.specs.Sums.{sum_of_reads, sum_of_writes, sum_of_read_writes, sum_refusal, MAX_PARTS}
use Rattle.spec_machine.specs.Sums.{sum_of_told_reads, sum_of_short_reads, sum_of_additions, sum_of_deletions}
use Rattle.spec_machine.specs.Sums.{codes_of, told, with_handles, filled, filled_data, packed, given_in_turn}
use Rattle.spec_machine.specs.MoreSums.{more_sums}
use Rattle.spec_machine.proofs.MoreSums.{EachSum, more_sums-cases}
use Rattle.spec_machine.specs.SumPackets.{client_after_request, acts_of}
use Rattle.spec_laws.proofs.ShortActs.{given-short, read-act-asked, read_write-act-asked}

-- how the parts end
abbrev pub ends_of : Setup → Asker → Client → List Block → List Request → List Outcome
ends_of d k c memory rs = outcomes_of memory (acts_of d c k rs)

ends-len : (d : Setup) (k : Asker) (rs : List Request) (c : Client) (memory : List Block) → length (ends_of d k c memory rs) ≡ length rs
unfolding acts_of given_in_turn outcomes_of
ends-len d k [] c memory = refl
ends-len d k (r ∷ rs) c memory = ap suc (ends-len d k rs (client_after_request d k c r) (memory_after memory (act_of d c k r)))

codes-len : (os : List Outcome) → length (codes_of os) ≡ 4 * length os
codes-len [] = refl
codes-len (o ∷ os) =
    let e = length-append (to_le_bytes w32 o.code) (codes_of os) in
    let ih = codes-len os in
    omega (arith, e, ih)

told-len : (os : List Outcome) → length (told os) ≡ 8 * length os
told-len [] = refl
told-len (o ∷ os) =
    let e = length-append (to_le_bytes w32 o.code ++ to_le_bytes w32 (length o.bytes)) (told os) in
    let ih = told-len os in
    omega (arith, e, ih)

with_handles-len : (os : List Outcome) → length (with_handles os) ≡ 8 * length os
with_handles-len [] = refl
with_handles-len (o ∷ os) =
    let e = length-append (to_le_bytes w32 o.code ++ to_le_bytes w32 (number32 0 o.bytes)) (with_handles os) in
    let ih = with_handles-len os in
    omega (arith, e, ih)

read_parts-len : (n : ℕ) (heads : List ℕ) → length (read_parts n heads) ≡ n
read_parts-len zero heads = refl
read_parts-len (suc n) heads = ap suc (read_parts-len n (drop 12 heads))

write_parts-len : (n : ℕ) (heads bytes : List ℕ) → length (write_parts n heads bytes) ≡ n
write_parts-len zero heads bytes = refl
write_parts-len (suc n) heads bytes = ap suc (write_parts-len n (drop 12 heads) (drop (number32 8 heads) bytes))

read_write_parts-len : (n : ℕ) (heads bytes : List ℕ) → length (read_write_parts n heads bytes) ≡ n
read_write_parts-len zero heads bytes = refl
read_write_parts-len (suc n) heads bytes = ap suc (read_write_parts-len n (drop 16 heads) (drop (number32 12 heads) bytes))

addition_parts-len : (n width : ℕ) (heads : List ℕ) → length (addition_parts n width heads) ≡ n
addition_parts-len zero width heads = refl
addition_parts-len (suc n) width heads = ap suc (addition_parts-len n width (drop width heads))

deletion_parts-len : (n : ℕ) (heads : List ℕ) → length (deletion_parts n heads) ≡ n
deletion_parts-len zero heads = refl
deletion_parts-len (suc n) heads = ap suc (deletion_parts-len n (drop 4 heads))

filled-short : (len : ℕ) (bytes : List ℕ) → length bytes ≤ len → length (filled len bytes) ≤ len
filled-short len bytes h =
    let e = length-append bytes (replicate (len - length bytes) 0) in
    let r = length-replicate {A = ℕ} (len - length bytes) 0 in
    omega (arith, h, e, r)

reads-filled : (d : Setup) (k : Asker) (n : ℕ) (heads : List ℕ) (c : Client) (memory : List Block)
    → length (filled_data (numbers_of_heads n 12 8 heads) (ends_of d k c memory (read_parts n heads))) ≤ sum (numbers_of_heads n 12 8 heads)
unfolding acts_of given_in_turn outcomes_of
reads-filled d k zero heads c memory = omega arith
reads-filled d k (suc n) heads c memory =
    let len = number32 8 heads in
    let r : Request = Read (number32 0 heads) (number32 4 heads) len in
    let a = act_of d c k r in
    let gave = (outcome_of memory a).bytes in
    let one = filled-short len gave (given-short len memory a (read-act-asked d c k (number32 0 heads) (number32 4 heads) len)) in
    let rest = reads-filled d k n (drop 12 heads) (client_after_request d k c r) (memory_after memory a) in
    let all = length-append (filled len gave)
    (filled_data (numbers_of_heads n 12 8 (drop 12 heads))
    (ends_of d k (client_after_request d k c r) (memory_after memory a) (read_parts n (drop 12 heads)))) in
    let total = sum_by-cons (λ x. x) len (numbers_of_heads n 12 8 (drop 12 heads)) in
    omega (arith, one, rest, all, total)

abbrev data_of : List Outcome → List ℕ
data_of os = flat_map (λ (o : Outcome). o.bytes) os

read_writes-given : (d : Setup) (k : Asker) (n : ℕ) (heads bytes : List ℕ) (c : Client) (memory : List Block)
    → length (data_of (ends_of d k c memory (read_write_parts n heads bytes))) ≤ sum (numbers_of_heads n 16 8 heads)
unfolding acts_of given_in_turn outcomes_of
read_writes-given d k zero heads bytes c memory = omega arith
read_writes-given d k (suc n) heads bytes c memory =
    let len = number32 8 heads in
    let own = take (number32 12 heads) bytes in
    let r : Request = ReadWrite (number32 0 heads) (number32 4 heads) len own in
    let a = act_of d c k r in
    let gave = (outcome_of memory a).bytes in
    let one = given-short len memory a (read_write-act-asked d c k (number32 0 heads) (number32 4 heads) len own) in
    let rest = read_writes-given d k n (drop 16 heads) (drop (number32 12 heads) bytes) (client_after_request d k c r) (memory_after memory a) in
    let all = length-append gave
    (data_of (ends_of d k (client_after_request d k c r) (memory_after memory a) (read_write_parts n (drop 16 heads) (drop (number32 12 heads) bytes)))) in
    let total = sum_by-cons (λ x. x) len (numbers_of_heads n 16 8 (drop 16 heads)) in
    omega (arith, one, rest, all, total)

-- a sum is packed in no more bytes than its reply's greatest length
pub record IsPackedShort (d : Setup) (k : Asker) (c : Client) (s : SumRequest) : Type 0 where
  pub short : (memory : List Block) → length (packed s.form (ends_of d k c memory s.parts)) ≤ s.reply_len

pub reads-packed : (d : Setup) (k : Asker) (c : Client) (n : ℕ) (bytes : List ℕ) → IsPackedShort d k c (sum_of_reads n bytes)
unfolding packed
reads-packed d k c n bytes = record {
  short = λ memory.
      let os = ends_of d k c memory (read_parts n bytes) in
      let all = length-append (codes_of os) (filled_data (numbers_of_heads n 12 8 bytes) os) in
      let codes = codes-len os in
      let ends = ends-len d k (read_parts n bytes) c memory in
      let parts = read_parts-len n bytes in
      let gave = reads-filled d k n bytes c memory in
      omega (arith, all, codes, ends, parts, gave);
}

pub writes-packed : (d : Setup) (k : Asker) (c : Client) (n : ℕ) (bytes : List ℕ) → IsPackedShort d k c (sum_of_writes n bytes)
unfolding packed
writes-packed d k c n bytes = record {
  short = λ memory.
      let rs = write_parts n bytes (drop (12 * n) bytes) in
      let codes = codes-len (ends_of d k c memory rs) in
      let ends = ends-len d k rs c memory in
      let parts = write_parts-len n bytes (drop (12 * n) bytes) in
      omega (arith, codes, ends, parts);
}

pub read_writes-packed : (d : Setup) (k : Asker) (c : Client) (n : ℕ) (bytes : List ℕ) → IsPackedShort d k c (sum_of_read_writes n bytes)
unfolding packed
read_writes-packed d k c n bytes = record {
  short = λ memory.
      let rs = read_write_parts n bytes (drop (16 * n) bytes) in
      let os = ends_of d k c memory rs in
      let all = length-append (told os) (data_of os) in
      let heads = told-len os in
      let ends = ends-len d k rs c memory in
      let parts = read_write_parts-len n bytes (drop (16 * n) bytes) in
      let gave = read_writes-given d k n bytes (drop (16 * n) bytes) c memory in
      omega (arith, all, heads, ends, parts, gave);
}

-- as long as it is, each read gives at most what it asks
reads-given : (d : Setup) (k : Asker) (n : ℕ) (heads : List ℕ) (c : Client) (memory : List Block)
    → length (data_of (ends_of d k c memory (read_parts n heads))) ≤ sum (numbers_of_heads n 12 8 heads)
unfolding acts_of given_in_turn outcomes_of
reads-given d k zero heads c memory = omega arith
reads-given d k (suc n) heads c memory =
    let len = number32 8 heads in
    let r : Request = Read (number32 0 heads) (number32 4 heads) len in
    let a = act_of d c k r in
    let gave = (outcome_of memory a).bytes in
    let one = given-short len memory a (read-act-asked d c k (number32 0 heads) (number32 4 heads) len) in
    let rest = reads-given d k n (drop 12 heads) (client_after_request d k c r) (memory_after memory a) in
    let all = length-append gave
    (data_of (ends_of d k (client_after_request d k c r) (memory_after memory a) (read_parts n (drop 12 heads)))) in
    let total = sum_by-cons (λ x. x) len (numbers_of_heads n 12 8 (drop 12 heads)) in
    omega (arith, one, rest, all, total)

told_reads-packed : (d : Setup) (k : Asker) (c : Client) (n : ℕ) (bytes : List ℕ) → IsPackedShort d k c (sum_of_told_reads n bytes)
unfolding packed
told_reads-packed d k c n bytes = record {
  short = λ memory.
      let os = ends_of d k c memory (read_parts n bytes) in
      let all = length-append (told os) (filled_data (numbers_of_heads n 12 8 bytes) os) in
      let heads = told-len os in
      let ends = ends-len d k (read_parts n bytes) c memory in
      let parts = read_parts-len n bytes in
      let gave = reads-filled d k n bytes c memory in
      omega (arith, all, heads, ends, parts, gave);
}

short_reads-packed : (d : Setup) (k : Asker) (c : Client) (n : ℕ) (bytes : List ℕ) → IsPackedShort d k c (sum_of_short_reads n bytes)
unfolding packed
short_reads-packed d k c n bytes = record {
  short = λ memory.
      let os = ends_of d k c memory (read_parts n bytes) in
      let all = length-append (told os) (data_of os) in
      let heads = told-len os in
      let ends = ends-len d k (read_parts n bytes) c memory in
      let parts = read_parts-len n bytes in
      let gave = reads-given d k n bytes c memory in
      omega (arith, all, heads, ends, parts, gave);
}

additions-packed : (d : Setup) (k : Asker) (c : Client) (n : ℕ) (bytes : List ℕ) → IsPackedShort d k c (sum_of_additions n bytes)
unfolding packed
additions-packed d k c n bytes = record {
  short = λ memory.
      let rs = addition_parts n (addition_width n bytes) bytes in
      let heads = with_handles-len (ends_of d k c memory rs) in
      let ends = ends-len d k rs c memory in
      let parts = addition_parts-len n (addition_width n bytes) bytes in
      omega (arith, heads, ends, parts);
}

deletions-packed : (d : Setup) (k : Asker) (c : Client) (n : ℕ) (bytes : List ℕ) → IsPackedShort d k c (sum_of_deletions n bytes)
unfolding packed
deletions-packed d k c n bytes = record {
  short = λ memory.
      let rs = deletion_parts n bytes in
      let codes = codes-len (ends_of d k c memory rs) in
      let ends = ends-len d k rs c memory in
      let parts = deletion_parts-len n bytes in
      omega (arith, codes, ends, parts);
}

-- so is each sum that a server of a profile knows besides
pub more-packed : (d : Setup) (k : Asker) (c : Client) (group : ℕ) (sum : ℕ → List ℕ → SumRequest) → more_sums d.profile group ≡ Some sum
    → (n : ℕ) (bytes : List ℕ) → IsPackedShort d k c (sum n bytes)
more-packed d k c group sum is n bytes =
    let P : (ℕ → List ℕ → SumRequest) → Type 0 = λ s. IsPackedShort d k c (s n bytes) in
    let Q : Option (ℕ → List ℕ → SumRequest) → Type 0 = λ o. IfSome o P in
    let each : EachSum group Q = record {
      no_more = tt;
      told_reads = λ own. told_reads-packed d k c n bytes;
      short_reads = λ own. short_reads-packed d k c n bytes;
      additions = λ own. additions-packed d k c n bytes;
      deletions = λ own. deletions-packed d k c n bytes;
    } in
    subst Q is (more_sums-cases d.profile group Q each)

-- a sum that is not refused has a reply that fits
pub unrefused-short : (n data_len len reply_len read_len : ℕ) → sum_refusal n data_len len reply_len read_len ≡ None → reply_len ≤ greatest_len
unfolding sum_refusal
unrefused-short n data_len len reply_len read_len =
    elim (cases_Bool (nat_lt MAX_PARTS n)) [
      | inl t ↦ rw t (λ e. cc)
      | inr t ↦ rw t (elim (cases_Bool (not (data_len == len))) [
        | inl u ↦ rw u (λ e. cc)
        | inr u ↦ rw u (elim (cases_Bool (nat_lt read_len reply_len || nat_lt greatest_len reply_len)) [
          | inl v ↦ rw v (λ e. cc)
          | inr v ↦ rw v (λ e. ltb-false greatest_len reply_len (or_right (nat_lt read_len reply_len) (nat_lt greatest_len reply_len) v))
        ])
      ])
    ]
  where
    or_right : (a b : Bool) → (a || b) ≡ false → b ≡ false
    or_right true b e = cc
    or_right false b e = e
