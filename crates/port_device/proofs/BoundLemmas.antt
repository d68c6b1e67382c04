-- Tables of the symbols that signals write.
use Rattle.std.proofs.Common.{◌≡◌, ℕ, suc, ◌<◌, List, [], ◌∷◌, ◌++◌, length, cond, Bool, true, false, refl, sym, ◌∙◌, ap, arith}
use Rattle.std.specs.Prelude.{◌==◌, max, Option, Some, None, option_map}
use Rattle.std.specs.Option.{option_map_or}
use Rattle.symbol_table.specs.Tables.{TableSymbol}
use Rattle.port_device.specs.Signals.{is_bound_to, symbol_bound_to}
use Rattle.port_device.specs.BoundTables.{first_of, bound_with, entries_for, entry_count}

one_symbol : (o : Option ℕ) (n : ℕ) → cond (option_map_or (λ m. m == n) o false) (Some 0) None ≡ bound_with o 0 None n
one_symbol None n = refl
one_symbol (Some signal) n = refl

first_of-suc : (q : Option ℕ) (k : ℕ) → first_of (option_map (λ i. suc i) q) (suc k) ≡ option_map (λ i. suc i) (first_of q k)
first_of-suc None k = refl
first_of-suc (Some i) k = refl

behind_one : (o : Option ℕ) (len n : ℕ) (b : Bool) (q : Option ℕ)
    → cond b (Some 0) (option_map (λ i. suc i) (bound_with o len q n)) ≡ bound_with o (suc len) (cond b (Some 0) (option_map (λ i. suc i) q)) n
behind_one None len n b q = refl
behind_one (Some signal) len n true q = elim (signal == n) as (λ t. Some 0 ≡ cond t (first_of (Some 0) (suc len)) (Some 0)) [ true ↦ refl | false ↦ refl ]
behind_one (Some signal) len n false q =
    let P : Bool → Type 0 = λ t. option_map (λ i. suc i) (cond t (first_of q len) q)
    ≡ cond t (first_of (option_map (λ i. suc i) q) (suc len)) (option_map (λ i. suc i) q) in
    elim (signal == n) as P [ true ↦ sym (first_of-suc q len) | false ↦ refl ]

-- one symbol more behind all others
pub symbol_bound_to-more : (n : ℕ) (ss : List TableSymbol) (s : TableSymbol)
    → symbol_bound_to n (ss ++ s ∷ []) ≡ bound_with s.signal (length ss) (symbol_bound_to n ss) n
symbol_bound_to-more n [] s = one_symbol s.signal n
symbol_bound_to-more n (t ∷ ss) s =
    ap (λ o. cond (is_bound_to n t) (Some 0) (option_map (λ i. suc i) o)) (symbol_bound_to-more n ss s)
    ∙ behind_one s.signal (length ss) n (is_bound_to n t) (symbol_bound_to n ss)

-- one symbol more needs no entries but its own
pub entry_count-more : (ss : List TableSymbol) (s : TableSymbol) → entry_count (ss ++ s ∷ []) ≡ max (entry_count ss) (entries_for s.signal)
entry_count-more [] s = omega arith
entry_count-more (t ∷ ss) s = let rest = entry_count-more ss s in omega (arith, rest)

pub symbol_bound_to-within : (n k : ℕ) (ss : List TableSymbol) → symbol_bound_to n ss ≡ Some k → k < length ss
symbol_bound_to-within n k [] e = cc
symbol_bound_to-within n k (s ∷ ss) e = either (is_bound_to n s) (symbol_bound_to n ss) (λ i. symbol_bound_to-within n i ss) e
  where
    either : (b : Bool) (o : Option ℕ) → ((i : ℕ) → o ≡ Some i → i < length ss) → cond b (Some 0) (option_map (λ i. suc i) o) ≡ Some k → k < suc (length ss)
    either true o rest q = let first : 0 ≡ k = cc in omega (arith, first)
    either false None rest q = cc
    either false (Some i) rest q = let next : suc i ≡ k = cc in let u = rest i refl in omega (arith, next, u)
