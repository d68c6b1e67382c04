-- NetIds: the definition that reads beside the one that writes.
use Rattle.std.proofs.Common.{◌≡◌, ℕ, zero, suc, cond, ◌==◌, subst, ◌^◌, ◌<◌, Bool, true, false, ◌&&◌, List}
use Rattle.std.proofs.Common.{[], ◌∷◌, length, get_or, refl, ap, sym, ◌∙◌, arith, nat_le, Some, None}
use Rattle.std.specs.Prelude.{decimal, bytes_eq}
use Rattle.std.specs.Str.Parse.{AllDigits}
use Rattle.std.specs.List.{list_all, All}
use Rattle.std.proofs.lemmas.List.{get_or_default}
use Rattle.std.proofs.lemmas.Fmt.{digits_value-decimal}
use Rattle.std.proofs.lemmas.Str.Parse.{IsNumeralModel, numerals_by_fold, tells_digits}
use Rattle.name_paths.specs.Number.{number_from, number_of_digits}
use Rattle.std.proofs.lemmas.List.Splits.{slice_split_none, slice_split_at}
use Rattle.std.proofs.lemmas.Bool.{and_parts, and_from, leb-true, le-leb, eqb-true, eq-eqb, ne_eqb}
use Rattle.std.proofs.lemmas.Slice.Eq.{bytes_eq-Decides}
use Rattle.ads_base.specs.NetId.{IsNetId, net_text}
use Rattle.ads_base.proofs.DecimalLemmas.{decimal-free}
use Rattle.name_paths.specs.Name.{is_full_stop}
use Rattle.spec_rules.specs.Nets.{net_of, numbers_in, is_net}

abbrev are_bytes : List ℕ → Bool
are_bytes = list_all (λ n. nat_le n 255)

no_full_stop : (n : ℕ) → n < 2 ^ 64 → All (λ c. is_full_stop c ≡ false) (decimal n)
no_full_stop n small = λ k d below. ne_eqb _ 46 (λ e. decimal-free 46 n (omega arith) small k below (get_or_default (decimal n) k 0 d below ∙ e))

numerals : IsNumeralModel (AllDigits 10) number_of_digits
numerals = numerals_by_fold (AllDigits 10) tells_digits number_from (record {
  empty = λ n. refl;
  more = λ n c cs h. ap (λ m. number_from m cs) (omega arith);
})

value-decimal : (n : ℕ) → nat_le n 255 ≡ true → number_of_digits (decimal n) ≡ n
value-decimal n h = let small = leb-true n 255 h in digits_value-decimal numerals n (omega arith)

numbers_in-net_text : (b : ℕ) (bs : List ℕ) → are_bytes (b ∷ bs) ≡ true → numbers_in (net_text (b ∷ bs)) ≡ b ∷ bs
numbers_in-net_text b [] h =
    let one = and_parts (nat_le b 255) true h in
    let small = leb-true b 255 one.0 in
    rw (slice_split_none is_full_stop (decimal b) (no_full_stop b (omega arith))) (ap (λ n. n ∷ []) (value-decimal b one.0))
numbers_in-net_text b (c ∷ cs) h =
    let parts = and_parts (nat_le b 255) (are_bytes (c ∷ cs)) h in
    let small = leb-true b 255 parts.0 in
    rw (slice_split_at is_full_stop (decimal b) 46 (net_text (c ∷ cs)) (no_full_stop b (omega arith)) refl)
    (ap (λ n. n ∷ numbers_in (net_text (c ∷ cs))) (value-decimal b parts.0) ∙ ap (λ ns. b ∷ ns) (numbers_in-net_text c cs parts.1))

are_bytes-from_index : (bs : List ℕ) → ((k : ℕ) → get_or bs k 0 < 256) → are_bytes bs ≡ true
are_bytes-from_index [] h = refl
are_bytes-from_index (b ∷ bs) h =
    let small = h 0 in and_from (nat_le b 255) (are_bytes bs) (le-leb b 255 (omega arith)) (are_bytes-from_index bs (λ k. h (suc k)))

index_from_are_bytes : (bs : List ℕ) → are_bytes bs ≡ true → (k : ℕ) → get_or bs k 0 < 256
index_from_are_bytes [] h k = omega arith
index_from_are_bytes (b ∷ bs) h zero =
    let small = leb-true b 255 (and_parts (nat_le b 255) (are_bytes bs) h).0 in omega arith
index_from_are_bytes (b ∷ bs) h (suc k) = index_from_are_bytes bs (and_parts (nat_le b 255) (are_bytes bs) h).1 k

net_of_numbers : (text ns : List ℕ) → numbers_in text ≡ ns → net_of text ≡ cond (is_net ns && bytes_eq (net_text ns) text) (Some ns) None
net_of_numbers text ns e = ap (λ (ns : List ℕ). cond (is_net ns && bytes_eq (net_text ns) text) (Some ns) None) e

parts_of_some : (b : Bool) (x y : List ℕ) → cond b (Some x) None ≡ Some y → (b ≡ true) × (x ≡ y)
parts_of_some true x y e = (refl, cc)
parts_of_some false x y e = absurd cc

-- a NetId is the one that its text is read as
pub net_of-net_text : (text bytes : List ℕ) → text ≡ net_text bytes → IsNetId bytes → net_of text ≡ Some bytes
net_of-net_text text [] e is = absurd (let six = is.six in omega arith)
net_of-net_text text (b ∷ bs) e is =
    let bytes = are_bytes-from_index (b ∷ bs) is.are_bytes in
    let read : numbers_in text ≡ b ∷ bs = ap numbers_in e ∙ numbers_in-net_text b bs bytes in
    let same : bytes_eq (net_text (b ∷ bs)) text ≡ true = (bytes_eq-Decides (net_text (b ∷ bs)) text).1 (sym e) in
    let net : is_net (b ∷ bs) ≡ true = and_from (length (b ∷ bs) == 6) (are_bytes (b ∷ bs)) (eq-eqb (length (b ∷ bs)) 6 is.six) bytes in
    net_of_numbers text (b ∷ bs) read
    ∙ ap (λ t. cond t (Some (b ∷ bs)) None) (and_from (is_net (b ∷ bs)) (bytes_eq (net_text (b ∷ bs)) text) net same)

-- a text that is read is that of a NetId
pub text_of_net : (text bytes : List ℕ) → net_of text ≡ Some bytes → IsNetId bytes × (text ≡ net_text bytes)
text_of_net text bytes e =
    let ns = numbers_in text in
    let parts = parts_of_some (is_net ns && bytes_eq (net_text ns) text) ns bytes e in
    let tests = and_parts (is_net ns) (bytes_eq (net_text ns) text) parts.0 in
    let net = and_parts (length ns == 6) (are_bytes ns) tests.0 in
    let P : List ℕ → Type 0 = λ ns. IsNetId ns × (text ≡ net_text ns) in
    subst P parts.1 (
      record { six = eqb-true (length ns) 6 net.0; are_bytes = index_from_are_bytes ns net.1 },
      sym ((bytes_eq-Decides (net_text ns) text).0 tests.1),
    )
