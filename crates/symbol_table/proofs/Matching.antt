-- The one symbol whose name a path begins with.
use Rattle.std.proofs.Common.{◌≡◌, ℕ, zero, suc, ◌<◌, true, false, List, [], ◌∷◌, map, length, get_or, refl, sym, ◌∙◌, ap, arith, inl, inr}
use Rattle.std.specs.Prelude.{Bool, Some, None, find, slice_get, bytes_eq, ◌&&◌, not, nat_lt, nat_eq, ◌⊎◌, option_map}
use Rattle.std.specs.declared.cmp.Ordering.TheVariants.{Equal}
use Rattle.std.specs.Ordering.{nat_cmp}
use Rattle.std.specs.Cmp.Lexicographic.{slice_cmp}
use Rattle.std.specs.List.{starts_with}
use Rattle.std.proofs.lemmas.Bool.{cases_Bool, and_parts, ltb-true, eqb-true}
use Rattle.std.proofs.lemmas.Bool.Decides.{nat_tests}
use Rattle.std.proofs.lemmas.Cmp.{nat_list_cmp_total, tied_itself}
use Rattle.std.proofs.lemmas.List.{length-map, get_or_default}
use Rattle.std.proofs.lemmas.Slice.Eq.{bytes_eq-Decides}
use Rattle.std.proofs.lemmas.Option.{slice_get-map}
use Rattle.name_paths.specs.Identifier.{lower}
use Rattle.name_paths.specs.Name.{identifiers_of, lower_identifiers}
use Rattle.name_paths.specs.Path.{Step, first_names}
use Rattle.spec_plant.specs.Listed.{NamedType}
use Rattle.spec_plant.specs.Description.{Symbol}
use Rattle.spec_plant.specs.World.{PlantSymbol, plant_symbol}
use Rattle.spec_plant.specs.Finding.{is_named_by}
use Rattle.spec_plant.specs.AcceptedTypes.{all_pairs}
use Rattle.spec_plant.specs.Accepted.{are_two_names}
use Rattle.symbol_table.specs.Tables.{TableSymbol, table_symbol}
use Rattle.symbol_table.specs.NameKeys.{NameKey, order_to_path, identifiers_at, IsPrefixFree, IsMatch, HasNoMatch}
use Rattle.symbol_table.specs.NamesInOrder.{name_key, AreKeysOf}
use Rattle.symbol_table.proofs.PathOrder.{then_equal, same_text}
use Rattle.symbol_table.proofs.PlacesInOrder.{pair_at, mapped_at}

-- a name that the path begins with, and how it stands to the path

pub equal-starts : (k names : List (List ℕ)) → order_to_path k names ≡ Equal → starts_with bytes_eq names k ≡ true
equal-starts [] names e = refl
equal-starts (i ∷ is) [] e = cc
equal-starts (i ∷ is) (n ∷ ns) e =
    let both = then_equal (slice_cmp nat_cmp i n) (order_to_path is ns) e in
    let head : bytes_eq i n ≡ true = (bytes_eq-Decides i n).1 (same_text i n both.0) in
    rw (head, equal-starts is ns both.1) refl

pub starts-equal : (k names : List (List ℕ)) → starts_with bytes_eq names k ≡ true → order_to_path k names ≡ Equal
starts-equal [] names e = refl
starts-equal (i ∷ is) [] e = cc
starts-equal (i ∷ is) (n ∷ ns) e =
    let both = and_parts (bytes_eq i n) (starts_with bytes_eq ns is) e in
    let same : i ≡ n = (bytes_eq-Decides i n).0 both.0 in
    let head : slice_cmp nat_cmp i n ≡ Equal = ap (slice_cmp nat_cmp i) (sym same) ∙ tied_itself nat_list_cmp_total i in
    rw (head, starts-equal is ns both.1) refl

-- of two names that a path begins with, one begins with the other
pub one_begins : (k l names : List (List ℕ)) → starts_with bytes_eq names k ≡ true
    → starts_with bytes_eq names l ≡ true → (starts_with bytes_eq l k ≡ true) ⊎ (starts_with bytes_eq k l ≡ true)
one_begins [] l names e f = inl refl
one_begins (i ∷ is) [] names e f = inr refl
one_begins (i ∷ is) (j ∷ js) [] e f = cc
one_begins (i ∷ is) (j ∷ js) (n ∷ ns) e f =
    let one = and_parts (bytes_eq i n) (starts_with bytes_eq ns is) e in
    let other = and_parts (bytes_eq j n) (starts_with bytes_eq ns js) f in
    let same_i : i ≡ n = (bytes_eq-Decides i n).0 one.0 in
    let same_j : j ≡ n = (bytes_eq-Decides j n).0 other.0 in
    let there : bytes_eq i j ≡ true = (bytes_eq-Decides i j).1 (same_i ∙ sym same_j) in
    let back : bytes_eq j i ≡ true = (bytes_eq-Decides j i).1 (same_j ∙ sym same_i) in
    elim (one_begins is js ns one.1 other.1) [
      | inl h ↦ inl (rw (there, h) refl)
      | inr h ↦ inr (rw (back, h) refl)
    ]

-- searches

pub find_unique : {X : Type 0} (p : X → Bool) (xs : List X) (n : ℕ) (x : X) → slice_get xs n ≡ Some x
    → p x ≡ true → ((i : ℕ) (y : X) → slice_get xs i ≡ Some y → p y ≡ true → i ≡ n) → find p xs ≡ Some x
find_unique p [] n x e h only = cc
find_unique p (y ∷ ys) zero x e h only = let same : y ≡ x = cc in rw (ap p same ∙ h) e
find_unique p (y ∷ ys) (suc n) x e h only =
    elim (cases_Bool (p y)) [
      | inl t ↦ let first = only zero y refl t in absurd (omega (arith, first))
      | inr t ↦ rw t (find_unique p ys n x e h (λ i z f g. let next = only (suc i) z f g in omega (arith, next)))
    ]

pub find_none : {X : Type 0} (p : X → Bool) (xs : List X) → ((i : ℕ) (y : X) → slice_get xs i ≡ Some y → p y ≡ true → ⊥) → find p xs ≡ None
find_none p [] none = refl
find_none p (y ∷ ys) none =
    elim (cases_Bool (p y)) [
      | inl t ↦ absurd (none zero y refl t)
      | inr t ↦ rw t (find_none p ys (λ i z f g. none (suc i) z f g))
    ]

-- two symbols at different numbers, by rule that no name begins with another
two_names : (symbols : List Symbol) (m n : ℕ) (s t : Symbol) → all_pairs are_two_names symbols ≡ true
    → nat_eq m n ≡ false → slice_get symbols m ≡ Some s → slice_get symbols n ≡ Some t
    → (starts_with bytes_eq (lower_identifiers s.name) (lower_identifiers t.name) ≡ false)
    × (starts_with bytes_eq (lower_identifiers t.name) (lower_identifiers s.name) ≡ false)
two_names symbols m n s t names other e f =
    elim (cases_Bool (nat_lt m n)) [
      | inl less ↦ apart (starts_with bytes_eq (lower_identifiers s.name) (lower_identifiers t.name))
          (starts_with bytes_eq (lower_identifiers t.name) (lower_identifiers s.name))
          (pair_at are_two_names symbols m n s t names (ltb-true m n less) e f)
      | inr most ↦
          let more : n < m = grind (arith, nat_tests) in
          let both = apart (starts_with bytes_eq (lower_identifiers t.name) (lower_identifiers s.name))
          (starts_with bytes_eq (lower_identifiers s.name) (lower_identifiers t.name))
          (pair_at are_two_names symbols n m t s names more f e) in
          (both.1, both.0)
    ]
  where
    apart : (a b : Bool) → (not a && not b) ≡ true → (a ≡ false) × (b ≡ false)
    apart true b h = cc
    apart false true h = cc
    apart false false h = (refl, refl)

-- a key of the list, and the symbol whose it is
record IsOwned (symbols : List Symbol) (keys : List NameKey) (i : ℕ) : Type 0 where
  pub number : ℕ
  pub owner : Symbol
  pub number_is : number ≡ (get_or keys i (record { identifiers = []; symbol = 0 })).symbol
  pub there : slice_get symbols number ≡ Some owner
  pub name : identifiers_at keys i ≡ lower_identifiers owner.name

module _ (types : List NamedType) (symbols : List Symbol) (keys : List NameKey)
    (are : AreKeysOf (map (table_symbol types) symbols) keys) (names : all_pairs are_two_names symbols ≡ true) where
  owned : (i : ℕ) → i < length keys → IsOwned symbols keys i
  owned i below =
      let among = are.each i (record { identifiers = []; symbol = 0 }) below in
      let found = mapped_at (table_symbol types) symbols (get_or keys i (record { identifiers = []; symbol = 0 })).symbol among.owner among.there in
      record {
        number = (get_or keys i (record { identifiers = []; symbol = 0 })).symbol;
        owner = found.0;
        number_is = refl;
        there = found.1;
        name = among.name ∙ ap (λ (s : TableSymbol). lower_identifiers s.name) (sym found.2);
      }

  pub prefix_free : IsPrefixFree keys
  prefix_free i j below_i below_j begins =
      let one = owned i below_i in
      let other = owned j below_j in
      let begins_names : starts_with bytes_eq (lower_identifiers other.owner.name) (lower_identifiers one.owner.name) ≡ true =
      rw (one.name, other.name) at begins in
      elim (cases_Bool (nat_eq one.number other.number)) [
        | inl same ↦
            let number : one.number ≡ other.number = eqb-true one.number other.number same in
            let both : Some one.owner ≡ Some other.owner = sym one.there ∙ ap (slice_get symbols) number ∙ other.there in
            let owner : one.owner ≡ other.owner = cc in
            other.name ∙ ap (λ (s : Symbol). lower_identifiers s.name) (sym owner) ∙ sym one.name
        | inr differ ↦
            let two = two_names symbols one.number other.number one.owner other.owner names differ one.there other.there in
            let clash : true ≡ false = sym begins_names ∙ two.1 in
            cc
      ]

  -- at most one symbol is one that the path begins with
  only_one : (path : List Step) (m n : ℕ) (s t : Symbol) → slice_get symbols m ≡ Some s → slice_get symbols n ≡ Some t
      → starts_with bytes_eq (map lower (first_names path)) (lower_identifiers s.name) ≡ true
      → starts_with bytes_eq (map lower (first_names path)) (lower_identifiers t.name) ≡ true → m ≡ n
  only_one path m n s t e f one other =
      elim (cases_Bool (nat_eq m n)) [
        | inl same ↦ eqb-true m n same
        | inr differ ↦
            let two = two_names symbols m n s t names differ e f in
            elim (one_begins (lower_identifiers s.name) (lower_identifiers t.name) (map lower (first_names path)) one other) [
              | inl back ↦ let clash : true ≡ false = sym back ∙ two.1 in cc
              | inr there ↦ let clash : true ≡ false = sym there ∙ two.0 in cc
            ]
      ]

  pub match_found : (path : List Step) (found : ℕ × ℕ) → IsMatch keys (map lower (first_names path)) found
      → (s : Symbol) × (slice_get symbols found.0 ≡ Some s) × (found.1 ≡ length (identifiers_of s.name))
      × (find (is_named_by path) (map (plant_symbol types) symbols) ≡ Some (plant_symbol types s))
  match_found path found m =
      let own = owned m.place m.there in
      let there : slice_get symbols found.0 ≡ Some own.owner = ap (slice_get symbols) (m.symbol ∙ sym own.number_is) ∙ own.there in
      let count : found.1 ≡ length (identifiers_of own.owner.name) =
      m.count ∙ ap (λ (k : List (List ℕ)). length k) own.name ∙ length-map (identifiers_of own.owner.name) lower in
      let named : starts_with bytes_eq (map lower (first_names path)) (lower_identifiers own.owner.name) ≡ true
      = ap (starts_with bytes_eq (map lower (first_names path))) (sym own.name)
      ∙ equal-starts (identifiers_at keys m.place) (map lower (first_names path)) m.is_match in
      let seen : slice_get (map (plant_symbol types) symbols) found.0 ≡ Some (plant_symbol types own.owner) =
      slice_get-map (plant_symbol types) symbols found.0 ∙ ap (option_map (plant_symbol types)) there in (
        own.owner,
        there,
        count,
        find_unique (is_named_by path) (map (plant_symbol types) symbols) found.0
            (plant_symbol types own.owner) seen named (λ i y e h. only i y own.owner there named e h),
      )
    where
      only : (i : ℕ) (y : PlantSymbol) (s : Symbol) → slice_get symbols found.0 ≡ Some s
          → starts_with bytes_eq (map lower (first_names path)) (lower_identifiers s.name) ≡ true
          → slice_get (map (plant_symbol types) symbols) i ≡ Some y → is_named_by path y ≡ true → i ≡ found.0
      only i y s there named e h =
          let other = mapped_at (plant_symbol types) symbols i y e in
          let named_other : starts_with bytes_eq (map lower (first_names path)) (lower_identifiers (other.0).name) ≡ true =
          ap (is_named_by path) (other.2) ∙ h in
          only_one path i found.0 other.0 s other.1 there named_other named

  pub match_none : (path : List Step) → HasNoMatch keys (map lower (first_names path)) → find (is_named_by path) (map (plant_symbol types) symbols) ≡ None
  match_none path none = find_none (is_named_by path) (map (plant_symbol types) symbols) (λ i y e h. no_one i y e h)
    where
      no_one : (i : ℕ) (y : PlantSymbol) → slice_get (map (plant_symbol types) symbols) i ≡ Some y → is_named_by path y ≡ true → ⊥
      no_one i y e h =
          let s = mapped_at (plant_symbol types) symbols i y e in
          let seen : slice_get (map (table_symbol types) symbols) i ≡ Some (table_symbol types s.0) =
          slice_get-map (table_symbol types) symbols i ∙ ap (option_map (table_symbol types)) s.1 in
          let key = are.whole i (table_symbol types s.0) seen in
          let read : get_or keys key.0 (record { identifiers = []; symbol = 0 }) ≡ name_key (s.0).name i =
          get_or_default keys key.0 (record { identifiers = []; symbol = 0 }) (name_key (s.0).name i) key.1 ∙ key.2 in
          let name : identifiers_at keys key.0 ≡ lower_identifiers (s.0).name = ap (λ (k : NameKey). k.identifiers) read in
          let named : starts_with bytes_eq (map lower (first_names path)) (lower_identifiers (s.0).name) ≡ true = ap (is_named_by path) (s.2) ∙ h in
          none key.0 key.1 (ap (λ k. order_to_path k (map lower (first_names path))) name
          ∙ starts-equal (lower_identifiers (s.0).name) (map lower (first_names path)) named)
