-- Decimal bytes joined by full stops.
use Rattle.std.proofs.Common.{◌≡◌, ℕ, zero, suc, ◌<◌, List, [], ◌∷◌, ◌++◌, length, get_or, map, Some, None, cond, leb, refl, ap, ◌∙◌, subst, arith, lit≤}
use Rattle.std.proofs.lemmas.Bool.{and_from, le-leb}
use Rattle.std.specs.Fmt.{decimal}
use Rattle.std.specs.List.{join_with_byte}
use Rattle.ads_base.proofs.DecimalLemmas.{decimal-free}
use Rattle.cli_words.specs.Reading.{◌>>=◌}
use Rattle.cli_words.specs.Words.{parted}
use Rattle.cli_words.specs.Values.{number_of, stopped_bytes}
use Rattle.cli_words.proofs.PartedLemmas.{parted-join, parted-parts}
use Rattle.cli_words.proofs.NumberLemmas.{IsNumber, number_of-decimal, number_of-some}
use Rattle.cli_words.proofs.ReadingLemmas.{bind_some}

-- so many bytes, and the text of them
pub record AreStopped (count : ℕ) (bytes text : List ℕ) : Type 0 where
  pub counted : length bytes ≡ count
  pub small : (k : ℕ) → get_or bytes k 0 < 256
  pub text_is : text ≡ join_with_byte 46 (map decimal bytes)

number_of-byte : (byte : ℕ) → byte < 256 → number_of 0 255 (decimal byte) ≡ Some byte
number_of-byte byte small =
    let in_range = and_from (leb 0 byte) (leb byte 255) (le-leb 0 byte (omega arith)) (le-leb byte 255 (omega arith)) in
    number_of-decimal 0 255 byte (decimal byte) (omega arith) refl ∙ ap (λ b. cond b (Some byte) None) in_range

pub stopped_bytes-all : (count : ℕ) (bytes text : List ℕ) → AreStopped (suc count) bytes text → stopped_bytes (suc count) text ≡ Some bytes
unfolding stopped_bytes
stopped_bytes-all zero [] text stopped = absurd (omega (arith, stopped.counted))
stopped_bytes-all zero (byte ∷ []) text stopped = rw (stopped.text_is, number_of-byte byte (stopped.small 0)) refl
stopped_bytes-all zero (byte ∷ (next ∷ bytes)) text stopped = absurd (omega (arith, stopped.counted))
stopped_bytes-all (suc count) [] text stopped = absurd (omega (arith, stopped.counted))
stopped_bytes-all (suc count) (byte ∷ []) text stopped = absurd (omega (arith, stopped.counted))
stopped_bytes-all (suc count) (byte ∷ (next ∷ bytes)) text stopped =
    let rest = join_with_byte 46 (map decimal (next ∷ bytes)) in
    let small = stopped.small 0 in
    let parts : parted 46 text ≡ Some (decimal byte, rest) =
    ap (parted 46) stopped.text_is ∙ parted-join 46 (decimal byte) rest (decimal-free 46 byte (lit≤ tt) (omega arith)) in
    let others = stopped_bytes-all count (next ∷ bytes) rest
    (record { counted = omega (arith, stopped.counted); small = λ k. stopped.small (suc k); text_is = refl }) in
    rw (parts, number_of-byte byte small, others) refl

small_more : (byte : ℕ) (bytes : List ℕ) → byte < 256 → ((k : ℕ) → get_or bytes k 0 < 256) → (k : ℕ) → get_or (byte ∷ bytes) k 0 < 256
small_more byte bytes small others zero = small
small_more byte bytes small others (suc k) = others k

one_stopped : (byte : ℕ) (bytes text : List ℕ) → IsNumber 0 255 byte text → Some (byte ∷ []) ≡ Some bytes → AreStopped 1 bytes text
one_stopped byte bytes text number e =
    let P : List ℕ → Type 0 = λ bs. AreStopped 1 bs text in
    let same : byte ∷ [] ≡ bytes = cc in
    subst P same (record { counted = refl; small = small_more byte [] (omega (arith, number.high)) (λ k. omega arith); text_is = number.text_is })

more_stopped : (count byte : ℕ) (others bytes front rest text : List ℕ) → IsNumber 0 255 byte front → AreStopped (suc count) others rest
    → text ≡ front ++ 46 ∷ rest → Some (byte ∷ others) ≡ Some bytes → AreStopped (suc (suc count)) bytes text
more_stopped count byte [] bytes front rest text number stopped parts e = absurd (omega (arith, stopped.counted))
more_stopped count byte (next ∷ others) bytes front rest text number stopped parts e =
    let P : List ℕ → Type 0 = λ bs. AreStopped (suc (suc count)) bs text in
    let same : byte ∷ (next ∷ others) ≡ bytes = cc in
    subst P same (record {
      counted = omega (arith, stopped.counted);
      small = small_more byte (next ∷ others) (omega (arith, number.high)) stopped.small;
      text_is = parts ∙ ap (λ x. x ++ 46 ∷ rest) number.text_is ∙ ap (λ y. decimal byte ++ 46 ∷ y) stopped.text_is;
    })

pub stopped_bytes-some : (count : ℕ) (bytes text : List ℕ) → stopped_bytes count text ≡ Some bytes → AreStopped count bytes text
unfolding stopped_bytes
stopped_bytes-some zero bytes text e = absurd cc
stopped_bytes-some (suc zero) bytes text e =
    let byte = bind_some (number_of 0 255 text) (λ byte. Some (byte ∷ [])) bytes e in
    one_stopped byte.0 bytes text (number_of-some 0 255 byte.0 text byte.1) byte.2
stopped_bytes-some (suc (suc count)) bytes text e =
    let parts = bind_some (parted 46 text)
    (λ parts. number_of 0 255 parts.0 >>= (λ byte. stopped_bytes (suc count) parts.1 >>= (λ others. Some (byte ∷ others)))) bytes e in
    let byte = bind_some (number_of 0 255 parts.0.0) (λ byte. stopped_bytes (suc count) parts.0.1 >>= (λ others. Some (byte ∷ others))) bytes parts.2 in
    let others = bind_some (stopped_bytes (suc count) parts.0.1) (λ others. Some (byte.0 ∷ others)) bytes byte.2 in
    more_stopped count byte.0 others.0 bytes parts.0.0 parts.0.1 text (number_of-some 0 255 byte.0 parts.0.0 byte.1)
    (stopped_bytes-some (suc count) others.0 parts.0.1 others.1) (parted-parts 46 text parts.0 parts.1) others.2
