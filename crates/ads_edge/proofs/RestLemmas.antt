-- What was taken stands in order behind what waited.
use Rattle.std.proofs.Common.{◌≡◌, ℕ, ◌+◌, ◌≤◌, List, ◌++◌, length, take, drop, ap, sym, ◌∙◌, arith, length-append, append_assoc, subst}
use Rattle.std.proofs.lemmas.List.{drop-append-le}
use Rattle.std.proofs.Math.Seq.{take-add}
use Rattle.ads_edge.specs.Connection.{IsRest}
use Rattle.ads_edge.specs.Written.{WrittenWithin, taken_of}
use Rattle.ads_edge.specs.declared.written.Written.{Written}
use Rattle.ads_edge.specs.declared.written.Written.TheVariants as written

-- nothing was sent
pub rest_same : (before now : List ℕ) → now ≡ before → IsRest before now
rest_same before now e = record { sent = 0; within = omega arith; rest = e }

-- so many first bytes were sent
pub rest_sent : (before now : List ℕ) (n : ℕ) → n ≤ length before → now ≡ drop n before → IsRest before now
rest_sent before now n within e = record { sent = n; within = within; rest = e }

-- so many bytes were taken by a writing
pub rest_written : (before now : List ℕ) (w : Written) → WrittenWithin w (length before) → now ≡ drop (taken_of w) before
    → IsRest before now
rest_written before now (written.Bytes n) within e = rest_sent before now n within e
rest_written before now written.Full within e = rest_sent before now 0 (omega arith) e
rest_written before now written.Failed within e = rest_sent before now 0 (omega arith) e

-- a rest of a list, with more behind it, is a rest of the list with that behind it
rest_append : (before now more : List ℕ) → IsRest before now → IsRest (before ++ more) (now ++ more)
rest_append before now more r = record {
  sent = r.sent;
  within = rw length-append (omega (arith, r.within));
  rest = ap (λ xs. xs ++ more) r.rest ∙ sym (drop-append-le r.sent before more r.within);
}

-- a first part of the bytes was taken, some were sent, and more were taken
rest_together : (waited now bytes : List ℕ) (first more : ℕ) → IsRest (waited ++ take first bytes) now
    → IsRest (waited ++ take (first + more) bytes) (now ++ take more (drop first bytes))
rest_together waited now bytes first more r =
    let all : waited ++ take (first + more) bytes ≡ (waited ++ take first bytes) ++ take more (drop first bytes) =
    rw take-add (sym (append_assoc waited (take first bytes) (take more (drop first bytes)))) in
    let P : List ℕ → Type 0 = λ xs. IsRest xs (now ++ take more (drop first bytes)) in
    subst P (sym all) (rest_append (waited ++ take first bytes) now (take more (drop first bytes)) r)

-- the same of what stood there meanwhile and in the end
pub rest_taken : (waited meanwhile now end bytes : List ℕ) (first more : ℕ) → meanwhile ≡ waited ++ take first bytes → IsRest meanwhile now
    → end ≡ now ++ take more (drop first bytes) → IsRest (waited ++ take (first + more) bytes) end
rest_taken waited meanwhile now end bytes first more e r f =
    let P : List ℕ → Type 0 = λ xs. IsRest xs now in
    let Q : List ℕ → Type 0 = λ xs. IsRest (waited ++ take (first + more) bytes) xs in
    subst Q (sym f) (rest_together waited now bytes first more (subst P e r))
