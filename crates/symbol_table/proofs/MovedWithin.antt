-- For crates above: what goes on after a reload lies within its symbol's new place.
use Rattle.std.proofs.Common.{◌≡◌, ℕ, ◌+◌, ◌≤◌, Bool, List, [], ◌∷◌, get_or, refl, subst, add-one, arith, inl, inr}
use Rattle.std.specs.Prelude.{Option, Some, None, find, option_map, Contains}
use Rattle.std.proofs.lemmas.Bool.{cases_Bool}
use Rattle.type_layout.specs.declared.port.Area.{Area}
use Rattle.symbol_table.specs.declared.place.Place.{Place}
use Rattle.symbol_table.specs.declared.kept.KeptPlace.{KeptPlace}
use Rattle.symbol_table.specs.Moves.{AreKept, IsKeptPlace, IsWithin, IsInOldWorld, is_symbol, kept_symbol}
use Rattle.symbol_table.specs.Moves.{part_in, moved_place, has_bytes, kept_bytes, bytes_in, moved_span}
use Rattle.symbol_table.proofs.Indexed.{kept_bytes-parts}

found_among : {X : Type 0} (test : X → Bool) (xs : List X) (x : X) → find test xs ≡ Some x → Contains xs x
found_among test [] x e = cc
found_among test (y ∷ xs) x e =
    elim (cases_Bool (test y)) [
      | inl t ↦ let same : Some y ≡ Some x = rw t at e in let is : y ≡ x = cc in (0, omega arith, is)
      | inr t ↦ let rest : find test xs ≡ Some x = rw t at e in let c = found_among test xs x rest in
          (c.0 + 1, (let l = c.1 in omega (arith, l)), behind y xs x c.0 c.2)
    ]
  where
    behind : {X : Type 0} (y : X) (xs : List X) (x : X) (k : ℕ) → get_or xs k x ≡ x → get_or (y ∷ xs) (k + 1) x ≡ x
    behind y xs x k e = rw add-one e

-- a place that goes on is a part of the symbol of an entry
pub record GoesOn (kept : List KeptPlace) (port : ℕ) (p q : Place) (e : KeptPlace) : Type 0 where
  pub there : Contains kept e
  pub entry : kept_symbol kept port p.symbol ≡ Some e
  pub symbol : q.symbol ≡ e.to.symbol
  pub within : IsWithin q e.to

pub place_goes_on : (kept : List KeptPlace) (port : ℕ) (p q : Place) → AreKept kept
    → IsInOldWorld kept port p → moved_place kept port p ≡ Some q → (e : KeptPlace) × GoesOn kept port p q e
unfolding moved_place
place_goes_on kept port p q are in_old moved = go (kept_symbol kept port p.symbol) refl moved
  where
    go : (o : Option KeptPlace) → kept_symbol kept port p.symbol ≡ o → option_map (part_in p) o ≡ Some q → (e : KeptPlace) × GoesOn kept port p q e
    go None found m = cc
    go (Some e) found m =
        let there = found_among (is_symbol port p.symbol) kept e found in
        let w = in_old e found in
        let k = subst (λ (v : KeptPlace). IsKeptPlace v) there.2 (are.each there.0 e there.1) in
        let is : part_in p e ≡ q = cc in
        let part : GoesOn kept port p (part_in p e) e = record {
          there = there;
          entry = found;
          symbol = refl;
          within = record { area = refl; begins = omega arith; ends = omega (arith, w.begins, w.ends, k.length) };
        } in
        (e, subst (λ (v : Place). GoesOn kept port p v e) is part)

-- bytes that go on are those of the symbol of an entry
pub record BytesGoOn (kept : List KeptPlace) (len : ℕ) (area : Area) (first : ℕ) (e : KeptPlace) : Type 0 where
  pub there : Contains kept e
  pub area_is : area ≡ e.to.area
  pub begins : e.to.at ≤ first
  pub ends : first + len ≤ e.to.at + e.to.len

pub bytes_go_on : (kept : List KeptPlace) (port : ℕ) (area : Area) (first len : ℕ) (to : Area × ℕ) → AreKept kept
    → moved_span kept port area first len ≡ Some to → (e : KeptPlace) × BytesGoOn kept len to.0 to.1 e
unfolding moved_span
bytes_go_on kept port area first len to are moved = go (kept_bytes kept port area first len) refl moved
  where
    go : (o : Option KeptPlace) → kept_bytes kept port area first len ≡ o
        → option_map (bytes_in first) o ≡ Some to → (e : KeptPlace) × BytesGoOn kept len to.0 to.1 e
    go None found m = cc
    go (Some e) found m =
        let there = found_among (has_bytes port area first len) kept e found in
        let w = kept_bytes-parts port area first len kept e found in
        let k = subst (λ (v : KeptPlace). IsKeptPlace v) there.2 (are.each there.0 e there.1) in
        let is : bytes_in first e ≡ to = cc in
        let part : BytesGoOn kept len (bytes_in first e).0 (bytes_in first e).1 e = record {
          there = there;
          area_is = refl;
          begins = omega arith;
          ends = omega (arith, w.begins, w.ends, k.length);
        } in
        (e, subst (λ (v : Area × ℕ). BytesGoOn kept len v.0 v.1 e) is part)
