-- What a search by halving knows of the names that it passed.
use Rattle.std.proofs.Common.{◌≡◌, ℕ, ◌+◌, ◌<◌, ◌≤◌, List, [], length, map, get_or, sym, ◌∙◌, ap, arith}
use Rattle.std.specs.declared.cmp.Ordering.TheVariants.{Less, Equal, Greater}
use Rattle.std.specs.Global.{Vec}
use Rattle.std.proofs.lemmas.List.{get_or-map, length-map}
use Rattle.symbol_table.specs.NameKeys.{NameKey, key_of, order_to_path, identifiers_at, identifiers_in, IsRising, IsPrefixFree, IsMatch}
use Rattle.symbol_table.proofs.PathOrder.{none_upto, none_from}

pub record Narrowed (keys : List NameKey) (names : List (List ℕ)) (low high : ℕ) : Type 0 where
  pub ordered : low ≤ high
  pub within : high ≤ length keys
  pub below : (i : ℕ) → i < low → order_to_path (identifiers_at keys i) names ≡ Equal → ⊥
  pub above : (i : ℕ) → high ≤ i → i < length keys → order_to_path (identifiers_at keys i) names ≡ Equal → ⊥

-- the middle name stands before the path
pub narrowed_up : (keys : List NameKey) (names : List (List ℕ)) (low high middle : ℕ)
    → IsRising keys → IsPrefixFree keys → Narrowed keys names low high → low ≤ middle → middle < high
    → order_to_path (identifiers_at keys middle) names ≡ Less → Narrowed keys names (middle + 1) high
narrowed_up keys names low high middle rising free n from below less =
    let within = n.within in
    record {
      ordered = omega (arith, below);
      within = n.within;
      below = λ i upto. none_upto keys names middle rising free (omega (arith, below, within)) less i (omega (arith, upto));
      above = n.above;
    }

-- the middle name stands behind the path
pub narrowed_down : (keys : List NameKey) (names : List (List ℕ)) (low high middle : ℕ)
    → IsRising keys → Narrowed keys names low high → low ≤ middle → middle < high
    → order_to_path (identifiers_at keys middle) names ≡ Greater → Narrowed keys names low middle
narrowed_down keys names low high middle rising n from below greater =
    let within = n.within in
    record {
      ordered = from;
      within = omega (arith, below, within);
      below = n.below;
      above = λ i least there. none_from keys names middle rising greater i least there;
    }

-- an entry that is read
pub key_read : (entries : List (Vec (Vec ℕ) × ℕ)) (i : ℕ) (e : Vec (Vec ℕ) × ℕ) → i < length entries → e ≡ get_or entries i e
    → get_or (map key_of entries) i (record { identifiers = []; symbol = 0 }) ≡ key_of e
key_read entries i e below read = get_or-map key_of entries i e (record { identifiers = []; symbol = 0 }) below ∙ ap key_of (sym read)

-- the middle name is one that the path begins with
pub match_at : (entries : List (Vec (Vec ℕ) × ℕ)) (names : List (List ℕ)) (i : ℕ) (e : Vec (Vec ℕ) × ℕ) (count : ℕ)
    → i < length entries → e ≡ get_or entries i e → count ≡ length e.0.items
    → order_to_path (identifiers_in e.0.items) names ≡ Equal → IsMatch (map key_of entries) names (e.1, count)
match_at entries names i e count below read counted equal =
    let key = key_read entries i e below read in
    let there : i < length (map key_of entries) = rw (length-map entries key_of) below in
    record {
      place = i;
      there = there;
      symbol = sym (ap (λ k. k.symbol) key);
      count = counted ∙ sym (ap (λ k. length k.identifiers) key ∙ length-map e.0.items (λ v. v.items));
      is_match = ap (λ k. order_to_path k.identifiers names) key ∙ equal;
    }
