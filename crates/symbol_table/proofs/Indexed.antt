-- What an index of ranks says of the entries that pass a test.
use Rattle.std.proofs.Common.{◌≡◌, ℕ, ◌+◌, ◌*◌, ◌^◌, ◌<◌, ◌≤◌, Bool, true, false, cond, List, [], ◌∷◌, ◌++◌}
use Rattle.std.proofs.Common.{length, get_or, refl, lit<, sym, subst, inl, inr, arith, ◌==◌}
use Rattle.std.specs.Prelude.{Some, None, find, All, Contains, nat_le}
use Rattle.std.specs.List.Sorted.{IsPermutation}
use Rattle.std.proofs.lemmas.Bool.{both_ways, eqb-true, leb-true, ltb-true, and_parts, cases_eq, lt-ltb}
use Rattle.std.proofs.lemmas.List.{get_or_default}
use Rattle.std.proofs.lemmas.List.Elements.{All-nil, All-push, All-contains, Contains-push, Contains-append_left}
use Rattle.std.proofs.lemmas.List.Sorted.{All-permutation, Contains-permutation}
use Rattle.spec_plant.specs.World.{is_same_area}
use Rattle.type_layout.specs.Descriptions.{area_of}
use Rattle.type_layout.specs.declared.port.Area.{Area}
use Rattle.type_layout.specs.declared.port.Area.TheVariants.{Inputs, Outputs, Memory, Process}
use Rattle.symbol_table.specs.declared.kept.KeptPlace.{KeptPlace}
use Rattle.symbol_table.specs.declared.ranks.Ranked.{Ranked}
use Rattle.symbol_table.specs.Moves.{AreKept, IsSameSymbol, Overlap, is_symbol, has_bytes}
use Rattle.symbol_table.specs.Ranks.{area_rank, symbol_rank, byte_rank, rank_by_symbol, rank_by_byte, is_any}
use Rattle.symbol_table.specs.Ranks.{has_any_byte, Ranks, RanksFirst, IsIndex, IsLastAtMost}
use Rattle.symbol_table.proofs.OnlyOne.{find-none, find-only, find-passes, one_place}

-- nothing is ranked before the first entry
pub ranks_none : (rank : KeptPlace → ℕ) (is_in : KeptPlace → Bool) (kept : List KeptPlace) → RanksFirst rank is_in kept 0 []
ranks_none rank is_in kept = record { sound = All-nil _; whole = λ k d h t. absurd (omega (arith, h)) }

-- one entry more, which is in the index
pub ranks_more : (rank : KeptPlace → ℕ) (is_in : KeptPlace → Bool) (kept : List KeptPlace) (i x : ℕ) (ranked : List Ranked)
    → RanksFirst rank is_in kept i ranked → i < length kept
    → ((d : KeptPlace) → is_in (get_or kept i d) ≡ true) → ((d : KeptPlace) → x ≡ rank (get_or kept i d))
    → RanksFirst rank is_in kept (i + 1) (ranked ++ record { rank = x; entry = i } ∷ [])
ranks_more rank is_in kept i x ranked before inside t by_rank = record {
  sound = All-push (Ranks rank is_in kept) ranked new before.sound (record { there = inside; by_rank = by_rank; in_index = t });
  whole = λ k d h p. elim (cases_eq k i) [
    | inl e ↦
        let here = subst (λ (w : ℕ). Contains longer (record { rank = w; entry = i })) (by_rank d) (Contains-push ranked new) in
        subst (λ (v : ℕ). Contains longer (record { rank = rank (get_or kept v d); entry = v })) (sym e) here
    | inr n ↦ Contains-append_left ranked (new ∷ []) _ (before.whole k d (omega (arith, h, n)) p)
  ];
}
  where
    new : Ranked
    new = record { rank = x; entry = i }

    longer : List Ranked
    longer = ranked ++ new ∷ []

-- one entry more, which is not in the index
pub ranks_past : (rank : KeptPlace → ℕ) (is_in : KeptPlace → Bool) (kept : List KeptPlace) (i : ℕ) (ranked : List Ranked)
    → RanksFirst rank is_in kept i ranked → ((d : KeptPlace) → is_in (get_or kept i d) ≡ false) → RanksFirst rank is_in kept (i + 1) ranked
ranks_past rank is_in kept i ranked before f = record {
  sound = before.sound;
  whole = λ k d h p. elim (cases_eq k i) [
    | inl e ↦ absurd (both_ways (is_in (get_or kept k d)) (subst (λ (v : ℕ). is_in (get_or kept v d) ≡ false) (sym e) (f d)) p)
    | inr n ↦ before.whole k d (omega (arith, h, n)) p
  ];
}

-- the same ranks in another order
pub ranks_permuted : (rank : KeptPlace → ℕ) (is_in : KeptPlace → Bool) (kept : List KeptPlace) (n : ℕ) (xs ys : List Ranked)
    → IsPermutation xs ys → RanksFirst rank is_in kept n xs → RanksFirst rank is_in kept n ys
ranks_permuted rank is_in kept n xs ys same before = record {
  sound = All-permutation (Ranks rank is_in kept) xs ys same before.sound;
  whole = λ k d h p. Contains-permutation xs ys _ same (before.whole k d h p);
}

-- where all ranks are above that of each entry that passes, none passes
pub none_passes : (rank : KeptPlace → ℕ) (is_in : KeptPlace → Bool) (kept : List KeptPlace) (ranked : List Ranked) (high : ℕ) (test : KeptPlace → Bool)
    → IsIndex rank is_in kept ranked → All (λ (r : Ranked). high < r.rank) ranked
    → ((e : KeptPlace) → test e ≡ true → (is_in e ≡ true) × (rank e ≤ high)) → find test kept ≡ None
none_passes rank is_in kept ranked high test index above passing =
    find-none test kept (λ k d h t.
    let p = passing (get_or kept k d) t in
    let over = All-contains (λ (r : Ranked). high < r.rank) ranked _ above (index.all.whole k d h p.0) in
    omega (arith, over, p.1))

-- the entry of the last rank that is at most this one, if it passes, where no other can
pub last_passes : (rank : KeptPlace → ℕ) (is_in : KeptPlace → Bool) (kept : List KeptPlace)
    (ranked : List Ranked) (high : ℕ) (test : KeptPlace → Bool) (last : Ranked) (d : KeptPlace)
    → IsIndex rank is_in kept ranked → IsLastAtMost ranked high last
    → ((e : KeptPlace) → test e ≡ true → (is_in e ≡ true) × (rank e ≤ high))
    → ((k : ℕ) → k < length kept → test (get_or kept k d) ≡ true
    → rank (get_or kept k d) ≤ rank (get_or kept last.entry d) → rank (get_or kept last.entry d) ≤ high → k ≡ last.entry)
    → find test kept ≡ cond (test (get_or kept last.entry d)) (Some (get_or kept last.entry d)) None
last_passes rank is_in kept ranked high test last d index greatest passing one =
    find-only test kept last.entry d ranks.there (λ k e h t.
    let same = get_or_default kept k e d h in
    let t' : test (get_or kept k d) ≡ true = subst (λ (v : KeptPlace). test v ≡ true) same t in
    let p = passing (get_or kept k d) t' in
    let up = All-contains (λ (r : Ranked). r.rank ≤ high → r.rank ≤ last.rank) ranked _ greatest.greatest (index.all.whole k d h p.0) p.1 in
    let by = ranks.by_rank d in
    one k h t' (omega (arith, up, by)) (omega (arith, by, greatest.at_most)))
  where
    ranks : Ranks rank is_in kept last
    ranks = All-contains (Ranks rank is_in kept) ranked last index.all.sound greatest.there

symbol_parts : (port symbol : ℕ) (e : KeptPlace) → is_symbol port symbol e ≡ true → (e.port ≡ port) × (e.from.symbol ≡ symbol)
symbol_parts port symbol e t = let p = and_parts _ _ t in (eqb-true _ _ p.0, eqb-true _ _ p.1)

-- an entry of the symbol has its rank
pub symbol_passes : (port symbol : ℕ) (e : KeptPlace) → is_symbol port symbol e ≡ true → (is_any e ≡ true) × (rank_by_symbol e ≤ symbol_rank port symbol)
symbol_passes port symbol e t = let p = symbol_parts port symbol e t in let a = p.0 in let b = p.1 in (refl, omega (arith, a, b))

pub one_symbol : (port symbol : ℕ) (kept : List KeptPlace) (last : Ranked) (d : KeptPlace) → AreKept kept
    → last.entry < length kept → symbol < 2 ^ 32 → (get_or kept last.entry d).from.symbol < 2 ^ 32
    → (k : ℕ) → k < length kept → is_symbol port symbol (get_or kept k d) ≡ true
    → rank_by_symbol (get_or kept k d) ≤ rank_by_symbol (get_or kept last.entry d)
    → rank_by_symbol (get_or kept last.entry d) ≤ symbol_rank port symbol → k ≡ last.entry
one_symbol port symbol kept last d are inside small small' k h t low high =
    let p = symbol_parts port symbol (get_or kept k d) t in
    let a = p.0 in
    let b = p.1 in
    let e : (get_or kept k d).port ≡ (get_or kept last.entry d).port = omega (arith, a, b, small, small', low, high) in
    let f : (get_or kept k d).from.symbol ≡ (get_or kept last.entry d).from.symbol = omega (arith, a, b, small, small', low, high) in
    one_place IsSameSymbol kept (λ x y r. (sym r.0, sym r.1)) are.symbols k last.entry d h inside (e, f)

-- what it says that a symbol has bytes
pub record Bytes (port : ℕ) (area : Area) (first len : ℕ) (e : KeptPlace) : Type 0 where
  pub port_is : e.port ≡ port
  pub area_is : area_rank e.from.area ≡ area_rank area
  pub begins : e.from.at ≤ first
  pub ends : first + len ≤ e.from.at + e.from.len

bytes_parts : (port : ℕ) (area : Area) (first len : ℕ) (e : KeptPlace) → has_bytes port area first len e ≡ true → Bytes port area first len e
bytes_parts port area first len e t =
    let p = and_parts _ (nat_le (first + len) (e.from.at + e.from.len)) t in
    let q = and_parts _ (nat_le e.from.at first) p.0 in
    let r = and_parts (e.port == port) (is_same_area (area_of e.from.area) (area_of area)) q.0 in
    record { port_is = eqb-true _ _ r.0; area_is = eqb-true _ _ r.1; begins = leb-true _ _ q.1; ends = leb-true _ _ p.1 }

-- a symbol that has bytes begins at most at the first of them
pub bytes_pass : (port : ℕ) (area : Area) (first len : ℕ) → 0 < len → (e : KeptPlace)
    → has_bytes port area first len e ≡ true → (has_any_byte e ≡ true) × (rank_by_byte e ≤ byte_rank port area first)
bytes_pass port area first len some e t =
    let b = bytes_parts port area first len e t in
    let p = b.port_is in
    let a = b.area_is in
    let g = b.begins in
    let n = b.ends in
    (lt-ltb 0 e.from.len (omega (arith, g, n, some)), omega (arith, p, a, g))

area_rank-small : (a : Area) → area_rank a < 4
area_rank-small Inputs = lit< tt
area_rank-small Outputs = lit< tt
area_rank-small Memory = lit< tt
area_rank-small Process = lit< tt

same_area : (a b : Area) → area_rank a ≡ area_rank b → a ≡ b
same_area Inputs Inputs e = refl
same_area Inputs Outputs e = cc
same_area Inputs Memory e = cc
same_area Inputs Process e = cc
same_area Outputs Inputs e = cc
same_area Outputs Outputs e = refl
same_area Outputs Memory e = cc
same_area Outputs Process e = cc
same_area Memory Inputs e = cc
same_area Memory Outputs e = cc
same_area Memory Memory e = refl
same_area Memory Process e = cc
same_area Process Inputs e = cc
same_area Process Outputs e = cc
same_area Process Memory e = cc
same_area Process Process e = refl

pub one_with_bytes : (port : ℕ) (area : Area) (first len : ℕ) (kept : List KeptPlace) (last : Ranked) (d : KeptPlace)
    → AreKept kept → last.entry < length kept → 0 < len → first < 2 ^ 32
    → (get_or kept last.entry d).from.at < 2 ^ 32 → has_any_byte (get_or kept last.entry d) ≡ true
    → (k : ℕ) → k < length kept → has_bytes port area first len (get_or kept k d) ≡ true
    → rank_by_byte (get_or kept k d) ≤ rank_by_byte (get_or kept last.entry d)
    → rank_by_byte (get_or kept last.entry d) ≤ byte_rank port area first → k ≡ last.entry
one_with_bytes port area first len kept last d are inside some small small' any k h t low high =
    let e = get_or kept k d in
    let f = get_or kept last.entry d in
    let b = bytes_parts port area first len e t in
    let p = b.port_is in
    let a = b.area_is in
    let g = b.begins in
    let n = b.ends in
    let few = area_rank-small area in
    let few' = area_rank-small f.from.area in
    let full = ltb-true 0 f.from.len any in
    let both : f.port * 4 + area_rank f.from.area ≡ port * 4 + area_rank area = omega (arith, p, a, g, small, small', low, high) in
    let same_port : e.port ≡ f.port = omega (arith, both, p, few, few') in
    let same_rank : area_rank e.from.area ≡ area_rank f.from.area = omega (arith, both, a, few, few') in
    let later : e.from.at ≤ f.from.at = omega (arith, low, both, p, a) in
    let before : f.from.at ≤ first = omega (arith, high, both) in
    let overlap : Overlap e f = (same_port, same_area _ _ same_rank, f.from.at, (later, omega (arith, before, n, some)), (omega arith, omega (arith, full))) in
    one_place Overlap kept (λ x y r. (sym r.0, sym r.1, r.2, r.4, r.3)) are.bytes k last.entry d h inside overlap

-- where all ranks are above that of a symbol, it has no entry
pub no_symbol : (port symbol : ℕ) (kept : List KeptPlace) (ranked : List Ranked)
    → IsIndex rank_by_symbol is_any kept ranked → All (λ (r : Ranked). symbol_rank port symbol < r.rank) ranked
    → find (is_symbol port symbol) kept ≡ None
no_symbol port symbol kept ranked index above =
    none_passes rank_by_symbol is_any kept ranked (symbol_rank port symbol) (is_symbol port symbol) index above (symbol_passes port symbol)

-- else it has this one or none
pub this_symbol : (port symbol : ℕ) (kept : List KeptPlace) (ranked : List Ranked) (last : Ranked) (e : KeptPlace)
    → AreKept kept → IsIndex rank_by_symbol is_any kept ranked
    → IsLastAtMost ranked (symbol_rank port symbol) last → symbol < 2 ^ 32 → e ≡ get_or kept last.entry e → e.from.symbol < 2 ^ 32
    → find (is_symbol port symbol) kept ≡ cond (is_symbol port symbol e) (Some e) None
this_symbol port symbol kept ranked last e are index greatest small here small' =
    let small'' = subst (λ (v : KeptPlace). v.from.symbol < 2 ^ 32) here small' in
    let found = last_passes rank_by_symbol is_any kept ranked (symbol_rank port symbol) (is_symbol port symbol) last e index greatest
    (symbol_passes port symbol) (one_symbol port symbol kept last e are inside small small'') in
    subst (λ (v : KeptPlace). find (is_symbol port symbol) kept ≡ cond (is_symbol port symbol v) (Some v) None) (sym here) found
  where
    inside : last.entry < length kept
    inside = (All-contains (Ranks rank_by_symbol is_any kept) ranked last index.all.sound greatest.there).there

-- where all ranks are above that of a byte, no symbol has it
pub no_bytes : (port : ℕ) (area : Area) (first len : ℕ) (kept : List KeptPlace) (ranked : List Ranked) → IsIndex rank_by_byte has_any_byte kept ranked → 0 < len
    → All (λ (r : Ranked). byte_rank port area first < r.rank) ranked → find (has_bytes port area first len) kept ≡ None
no_bytes port area first len kept ranked index some above =
    none_passes rank_by_byte has_any_byte kept ranked (byte_rank port area first)
    (has_bytes port area first len) index above (bytes_pass port area first len some)

-- else this one has it, or none
pub these_bytes : (port : ℕ) (area : Area) (first len : ℕ) (kept : List KeptPlace) (ranked : List Ranked) (last : Ranked) (e : KeptPlace)
    → AreKept kept → IsIndex rank_by_byte has_any_byte kept ranked
    → IsLastAtMost ranked (byte_rank port area first) last → 0 < len → first < 2 ^ 32 → e ≡ get_or kept last.entry e
    → find (has_bytes port area first len) kept ≡ cond (has_bytes port area first len e) (Some e) None
these_bytes port area first len kept ranked last e are index greatest some small here =
    let found = last_passes rank_by_byte has_any_byte kept ranked (byte_rank port area first)
    (has_bytes port area first len) last e index greatest (bytes_pass port area first len some)
    (one_with_bytes port area first len kept last e are ranks.there some small small' (ranks.in_index e)) in
    subst (λ (v : KeptPlace). find (has_bytes port area first len) kept ≡ cond (has_bytes port area first len v) (Some v) None) (sym here) found
  where
    ranks : Ranks rank_by_byte has_any_byte kept last
    ranks = All-contains (Ranks rank_by_byte has_any_byte kept) ranked last index.all.sound greatest.there

    small' : (get_or kept last.entry e).from.at < 2 ^ 32
    small' = let old_end = (are.each last.entry e ranks.there).old_end in omega (arith, old_end)

-- what is found has the bytes
pub kept_bytes-parts : (port : ℕ) (area : Area) (first len : ℕ) (kept : List KeptPlace) (e : KeptPlace)
    → find (has_bytes port area first len) kept ≡ Some e → Bytes port area first len e
kept_bytes-parts port area first len kept e found = bytes_parts port area first len e (find-passes (has_bytes port area first len) kept e found)
