-- The parts of a sum, one behind another.
use Rattle.std.proofs.Common.{◌≡◌, ℕ, suc, ◌+◌, ◌<◌, ◌≤◌, List, [], ◌∷◌, ◌++◌, length, get_or, drop, refl, sym}
use Rattle.std.proofs.Common.{ap, ◌∙◌, append_assoc, arith, add-one, drop-cons}
use Rattle.std.proofs.lemmas.List.{append-nil, drop_all}
use Rattle.spec_formats.specs.Groups.{value_by_handle}
use Rattle.spec_formats.specs.Request.{access_bytes}
use Rattle.spec_client.specs.ReadNames.{handle_parts}

abbrev pub Along : List ℕ → List ℕ → ℕ → List ℕ → Type 0
Along hs ss i parts = parts ++ handle_parts (drop i hs) (drop i ss) ≡ handle_parts hs ss

parts_at : (hs ss : List ℕ) (i : ℕ) → i < length hs → i < length ss
    → handle_parts (drop i hs) (drop i ss) ≡ access_bytes value_by_handle (get_or hs i 0) (get_or ss i 0) ++ handle_parts (drop (i + 1) hs) (drop (i + 1) ss)
unfolding handle_parts
parts_at hs ss i less short = rw (add-one, drop-cons hs i 0 less, drop-cons ss i 0 short) refl

pub parts_more : (hs ss : List ℕ) (i : ℕ) (old new : List ℕ) → i < length hs → length hs ≡ length ss
    → new ≡ old ++ access_bytes value_by_handle (get_or hs i 0) (get_or ss i 0) → Along hs ss i old → Along hs ss (i + 1) new
parts_more hs ss i old new less same is so_far =
    let part = access_bytes value_by_handle (get_or hs i 0) (get_or ss i 0) in
    let rest = handle_parts (drop (i + 1) hs) (drop (i + 1) ss) in
    let at = parts_at hs ss i less (omega arith) in
    ap (λ x. x ++ rest) is ∙ (append_assoc old part rest ∙ (ap (λ x. old ++ x) (sym at) ∙ so_far))

none_left : (i : ℕ) (hs : List ℕ) → length hs ≤ i → drop i hs ≡ []
none_left i hs all = drop_all i hs all

pub parts_all : (hs ss : List ℕ) (i : ℕ) (parts : List ℕ) → length hs ≤ i → length hs ≡ length ss → Along hs ss i parts → parts ≡ handle_parts hs ss
unfolding handle_parts
parts_all hs ss i parts all same so_far =
    let none : drop i hs ≡ [] = none_left i hs all in
    let last : parts ++ handle_parts (drop i hs) (drop i ss) ≡ parts = rw none (append-nil parts) in
    sym last ∙ so_far

-- three texts one behind another
pub three_behind : (old a b c x y z : List ℕ) → x ≡ old ++ a → y ≡ x ++ b → z ≡ y ++ c → z ≡ old ++ ((a ++ b) ++ c)
three_behind old a b c x y z first second third =
    third ∙ (ap (λ v. v ++ c) (second ∙ ap (λ v. v ++ b) first) ∙ (ap (λ v. v ++ c) (append_assoc old a b) ∙ append_assoc old (a ++ b) c))
