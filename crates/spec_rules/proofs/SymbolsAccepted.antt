-- Where rules 9 to 15 hold, each port of a document is accepted.
use Rattle.std.proofs.Common.{◌≡◌, ℕ, zero, suc, Bool, true, false, List, [], ◌∷◌, length, map, replicate, refl, sym, ◌∙◌, ap, subst, inl, inr}
use Rattle.std.specs.Prelude.{Option, Some, None, is_some, unwrap_or, option_map, ◌&&◌, ◌==◌, not, nat_le, nat_lt, bytes_eq, slice_get, ℤ, pos, negsuc}
use Rattle.std.specs.Option.{option_map_or}
use Rattle.std.specs.List.{list_all}
use Rattle.std.proofs.lemmas.Bool.{cases_Bool, and_parts, eqb-true, eq-eqb}
use Rattle.std.proofs.lemmas.List.{length-map}
use Rattle.std.proofs.lemmas.Slice.Eq.{bytes_eq-Decides}
use Rattle.ads_base.specs.NetId.{net_text}
use Rattle.name_paths.specs.Name.{is_symbol_name}
use Rattle.spec_plant.specs.Plain.{Kind, BOOL, SINT, USINT, BYTE, INT, UINT, WORD, DINT, UDINT, DWORD, TIME, LINT, ULINT, LWORD, REAL, LREAL, kind_size}
use Rattle.spec_plant.proofs.TypeLemmas.{stands_at}
use Rattle.spec_plant.specs.Listed.{Plain, Text, Struct, Enum, Shape, One, Array, NamedType, Structure, Enumeration, is_enumeration}
use Rattle.spec_plant.specs.Description.{Sizes}
use Rattle.spec_plant.specs.Trees.{tree_of}
use Rattle.spec_plant.specs.Sizes.{type_size}
use Rattle.spec_plant.specs.AcceptedTypes.{AreTypes, is_enumeration_at, all_pairs, is_comment, is_shape, is_small_shape, LIMIT}
use Rattle.spec_plant.specs.Accepted.{number_bytes, are_two_nets, begins_with_value, may_have_signal, is_signal_right, is_symbol}
use Rattle.spec_rules.specs.Written.{WrittenSymbol}
use Rattle.spec_rules.specs.Places.{first_wrong}
use Rattle.spec_rules.specs.Nets.{net_of, is_net, numbers_in}
use Rattle.spec_plant.specs.Shapes.{shape_of_text}
use Rattle.spec_rules.specs.Described.{shape_described, symbol_described, nets_described, initial_described, default_bytes, bytes_of_hex, natural_of}
use Rattle.spec_rules.specs.SymbolRules.{is_small, fits_area, are_right_bytes, is_right_initial}
use Rattle.spec_rules.specs.SymbolRules.{is_right_writer, are_right_writers, is_right_content, is_signal}
use Rattle.spec_rules.specs.SymbolRules.{has_other_signal}
use Rattle.spec_rules.proofs.FirstWrong.{both_true, none_of, are_right}
use Rattle.spec_plant.proofs.TextsRead.{shape_of_text-good}

-- NetIds of two texts that differ are two
record IsNetText (text net : List ℕ) : Type 0 where
  text_of : net_text net ≡ text

net_of-text : (text net : List ℕ) → net_of text ≡ Some net → IsNetText text net
net_of-text text net h =
    elim (cases_Bool (is_net (numbers_in text) && bytes_eq (net_text (numbers_in text)) text)) [
      | inl t ↦
          let f : Some (numbers_in text) ≡ Some net = rw t at h in
          let same : numbers_in text ≡ net = cc in
          let equal = (and_parts (is_net (numbers_in text)) (bytes_eq (net_text (numbers_in text)) text) t).1 in
          let P : List ℕ → Type 0 = λ n. IsNetText text n in
          subst P same (record { text_of = (bytes_eq-Decides (net_text (numbers_in text)) text).0 equal })
      | inr t ↦ let f = rw t at h in cc
    ]

abbrev net_described : List ℕ → List ℕ
net_described text = unwrap_or (net_of text) []

some_of : {X : Type 0} (o : Option X) → is_some o ≡ true → (x : X) × (o ≡ Some x)
some_of None e = cc
some_of (Some x) e = (x, refl)

pub two_nets : (a b : List ℕ) → is_some (net_of a) ≡ true → is_some (net_of b) ≡ true
    → not (bytes_eq a b) ≡ true → are_two_nets (net_described a) (net_described b) ≡ true
two_nets a b f g h =
    let x = some_of (net_of a) f in
    let y = some_of (net_of b) g in
    let s = (net_of-text a (x.0) (x.1)).text_of in
    let t = (net_of-text b (y.0) (y.1)).text_of in
    elim (cases_Bool (bytes_eq (x.0) (y.0))) [
      | inl e ↦
          let same : x.0 ≡ y.0 = (bytes_eq-Decides (x.0) (y.0)).0 e in
          let texts : a ≡ b = sym s ∙ ap net_text same ∙ t in
          let equal : bytes_eq a b ≡ true = (bytes_eq-Decides a b).1 texts in
          let no = rw equal at h in
          cc
      | inr e ↦ rw (x.1, y.1, e) refl
    ]

-- pairs of what is right are pairs of what it is described as
pub all_pairs-described : {X Y : Type 0} (p : X → Bool) (r : X → X → Bool) (q : Y → Y → Bool) (f : X → Y)
    → ((x y : X) → p x ≡ true → p y ≡ true → r x y ≡ true → q (f x) (f y) ≡ true)
    → (xs : List X) → list_all p xs ≡ true → all_pairs r xs ≡ true → all_pairs q (map f xs) ≡ true
all_pairs-described p r q f says [] h g = refl
all_pairs-described {X} p r q f says (x ∷ xs) h g =
    let a = and_parts (p x) (list_all p xs) h in
    let b = and_parts (list_all (r x) xs) (all_pairs r xs) g in
    both_true (list_all (q (f x)) (map f xs)) (all_pairs q (map f xs)) (beside xs (a.1) (b.0) (a.0)) (all_pairs-described p r q f says xs (a.1) (b.1))
  where
    beside : (ys : List X) → list_all p ys ≡ true → list_all (r x) ys ≡ true → p x ≡ true → list_all (q (f x)) (map f ys) ≡ true
    beside [] h g e = refl
    beside (y ∷ ys) h g e =
        let a = and_parts (p y) (list_all p ys) h in
        let b = and_parts (r x y) (list_all (r x) ys) g in
        both_true (q (f x) (f y)) (list_all (q (f x)) (map f ys)) (says x y e (a.0) (b.0)) (beside ys (a.1) (b.1) e)

-- writers
writers_good : (o : Option (List (List ℕ))) → are_right_writers o ≡ true
    → (nat_le (length (nets_described o)) 64 && all_pairs are_two_nets (nets_described o)) ≡ true
writers_good None h = refl
writers_good (Some texts) h =
    let outer = and_parts _ _ h in
    let inner = and_parts (nat_lt 0 (length texts)) (nat_le (length texts) 64) (outer.0) in
    let none : first_wrong is_right_writer [] texts ≡ None = none_of (first_wrong is_right_writer [] texts) (outer.1) in
    let right = are_right is_right_writer (λ text. is_some (net_of text)) (λ e text. not (bytes_eq e text)) (λ before x g. and_parts _ _ g) [] texts none in
    let few : nat_le (length (map net_described texts)) 64 ≡ true = rw (length-map texts net_described) (inner.1) in
    both_true (nat_le (length (map net_described texts)) 64) (all_pairs are_two_nets (map net_described texts)) few
    (all_pairs-described (λ text. is_some (net_of text)) (λ e text. not (bytes_eq e text)) are_two_nets net_described two_nets texts right.each right.pairs)

-- the bytes that a symbol begins with
record IsGoodInitial (types : List NamedType) (shape : Shape) (bytes : List ℕ) : Type 0 where
  size : length bytes ≡ type_size (tree_of types shape)
  value : begins_with_value types shape bytes ≡ true

length-replicate_zeros : (n : ℕ) → length {A = ℕ} (replicate n 0) ≡ n
length-replicate_zeros zero = refl
length-replicate_zeros (suc n) = ap suc (length-replicate_zeros n)

length-number_bytes : (base : Kind) (z : ℤ) → length (number_bytes base z) ≡ kind_size base
length-number_bytes BOOL (pos n) = refl
length-number_bytes SINT (pos n) = refl
length-number_bytes USINT (pos n) = refl
length-number_bytes BYTE (pos n) = refl
length-number_bytes INT (pos n) = refl
length-number_bytes UINT (pos n) = refl
length-number_bytes WORD (pos n) = refl
length-number_bytes DINT (pos n) = refl
length-number_bytes UDINT (pos n) = refl
length-number_bytes DWORD (pos n) = refl
length-number_bytes TIME (pos n) = refl
length-number_bytes LINT (pos n) = refl
length-number_bytes ULINT (pos n) = refl
length-number_bytes LWORD (pos n) = refl
length-number_bytes REAL (pos n) = refl
length-number_bytes LREAL (pos n) = refl
length-number_bytes BOOL (negsuc n) = refl
length-number_bytes SINT (negsuc n) = refl
length-number_bytes USINT (negsuc n) = refl
length-number_bytes BYTE (negsuc n) = refl
length-number_bytes INT (negsuc n) = refl
length-number_bytes UINT (negsuc n) = refl
length-number_bytes WORD (negsuc n) = refl
length-number_bytes DINT (negsuc n) = refl
length-number_bytes UDINT (negsuc n) = refl
length-number_bytes DWORD (negsuc n) = refl
length-number_bytes TIME (negsuc n) = refl
length-number_bytes LINT (negsuc n) = refl
length-number_bytes ULINT (negsuc n) = refl
length-number_bytes LWORD (negsuc n) = refl
length-number_bytes REAL (negsuc n) = refl
length-number_bytes LREAL (negsuc n) = refl

-- an enumeration has a first value
default_enum : (types : List NamedType) (place : ℕ) → AreTypes types → is_enumeration_at types place ≡ true
    → IsGoodInitial types (One (Enum place)) (default_bytes types (One (Enum place)))
unfolding type_size
default_enum types place a h = go (slice_get types place) refl h
  where
    go : (o : Option NamedType) → slice_get types place ≡ o → option_map_or is_enumeration o false ≡ true
        → IsGoodInitial types (One (Enum place)) (default_bytes types (One (Enum place)))
    go None e f = cc
    go (Some (Structure name ms)) e f = cc
    go (Some (Enumeration name base [])) e f =
        let none = (stands_at types place (Enumeration name base []) a e).parts in
        cc
    go (Some (Enumeration name base (v ∷ vs))) e f =
        let there = (stands_at types place (Enumeration name base (v ∷ vs)) a e).tree in
        let same : bytes_eq (number_bytes base v.number) (number_bytes base v.number) ≡ true =
        (bytes_eq-Decides (number_bytes base v.number) (number_bytes base v.number)).1 refl in
        record {
          size = rw (there, e) (length-number_bytes base v.number);
          value = rw e (rw same refl);
        }

default_good : (types : List NamedType) (shape : Shape) → AreTypes types → is_shape types shape ≡ true → IsGoodInitial types shape (default_bytes types shape)
default_good types (One (Plain k)) a h = record { size = length-replicate_zeros (type_size (tree_of types (One (Plain k)))); value = refl }
default_good types (One (Text n)) a h = record { size = length-replicate_zeros (type_size (tree_of types (One (Text n)))); value = refl }
default_good types (One (Struct p)) a h = record { size = length-replicate_zeros (type_size (tree_of types (One (Struct p)))); value = refl }
default_good types (One (Enum p)) a h = default_enum types p a h
default_good types (Array bs e) a h = record { size = length-replicate_zeros (type_size (tree_of types (Array bs e))); value = refl }

initial_good : (types : List NamedType) (shape : Shape) (o : Option (List ℕ)) → AreTypes types → is_shape types shape ≡ true
    → is_right_initial types shape o ≡ true → IsGoodInitial types shape (initial_described types shape o)
initial_good types shape None a s h = default_good types shape a s
initial_good types shape (Some text) a s h = go (bytes_of_hex text) h
  where
    go : (o : Option (List ℕ)) → option_map_or (are_right_bytes types shape) o false ≡ true → IsGoodInitial types shape (unwrap_or o [])
    go None f = cc
    go (Some bytes) f =
        let parts = and_parts (length bytes == type_size (tree_of types shape)) (begins_with_value types shape bytes) f in
        record { size = eqb-true (length bytes) (type_size (tree_of types shape)) (parts.0); value = parts.1 }

-- a symbol's signal
pub signal_good : (types : List NamedType) (signals : ℕ) (shape : Shape) (before : List WrittenSymbol) (o : Option ℤ)
    → option_map_or (λ n. is_signal signals n && list_all (has_other_signal n) before && may_have_signal shape) o true ≡ true
    → is_signal_right signals shape (option_map natural_of o) ≡ true
signal_good types signals shape before None h = refl
signal_good types signals shape before (Some (pos n)) h =
    let outer = and_parts (nat_lt n signals && list_all (has_other_signal (pos n)) before) (may_have_signal shape) h in
    let inner = and_parts (nat_lt n signals) (list_all (has_other_signal (pos n)) before) (outer.0) in
    both_true (nat_lt n signals) (may_have_signal shape) (inner.0) (outer.1)
signal_good types signals shape before (Some (negsuc n)) h = cc

-- a shape of a symbol
record IsGoodShape (types : List NamedType) (shape : Shape) : Type 0 where
  shape_ : is_shape types shape ≡ true
  elements : is_small_shape shape ≡ true
  bytes : nat_le (type_size (tree_of types shape)) LIMIT ≡ true

symbol_shape : (types : List NamedType) (text : List ℕ)
    → option_map_or (is_small types) (shape_of_text types text) false ≡ true → IsGoodShape types (shape_described types text)
symbol_shape types text h = go (shape_of_text types text) refl h
  where
    go : (o : Option Shape) → shape_of_text types text ≡ o → option_map_or (is_small types) o false ≡ true → IsGoodShape types (unwrap_or o (One (Plain BOOL)))
    go None e f = cc
    go (Some s) e f =
        let parts = and_parts (is_small_shape s) (nat_le (type_size (tree_of types s)) LIMIT) f in
        record { shape_ = shape_of_text-good types text s e; elements = parts.0; bytes = parts.1 }

-- what rules 10 to 14 say of one symbol
pub record IsRightSymbol (types : List NamedType) (sizes : Sizes) (signals : ℕ) (s : WrittenSymbol) : Type 0 where
  pub name : is_symbol_name s.name ≡ true
  pub type_ : option_map_or (is_small types) (shape_of_text types s.type) false ≡ true
  pub place : fits_area types sizes (symbol_described types s) ≡ true
  pub content : is_right_content types s ≡ true
  pub signal_ : is_signal_right signals (shape_described types s.type) (option_map natural_of s.signal) ≡ true

pub symbol_good : (types : List NamedType) (sizes : Sizes) (signals : ℕ) (s : WrittenSymbol) → AreTypes types
    → IsRightSymbol types sizes signals s → is_symbol types sizes signals (symbol_described types s) ≡ true
symbol_good types sizes signals s a r =
    let shape = shape_described types s.type in
    let bytes = initial_described types shape s.initial in
    let typed = symbol_shape types s.type r.type_ in
    let outer = and_parts (is_right_initial types shape s.initial && is_comment s.comment) (are_right_writers s.writers) r.content in
    let inner = and_parts (is_right_initial types shape s.initial) (is_comment s.comment) (outer.0) in
    let good = initial_good types shape s.initial a typed.shape_ (inner.0) in
    let size_is : (length bytes == type_size (tree_of types shape)) ≡ true = eq-eqb (length bytes) (type_size (tree_of types shape)) good.size in
    let writers = writers_good s.writers (outer.1) in
    and7 (is_symbol_name s.name) (is_shape types shape && is_small_shape shape && nat_le (type_size (tree_of types shape)) LIMIT)
    (fits_area types sizes (symbol_described types s))
    ((length bytes == type_size (tree_of types shape)) && begins_with_value types shape bytes) (is_comment s.comment)
    (nat_le (length (nets_described s.writers)) 64 && all_pairs are_two_nets (nets_described s.writers))
    (is_signal_right signals shape (option_map natural_of s.signal))
    r.name (both_true (is_shape types shape && is_small_shape shape) (nat_le (type_size (tree_of types shape)) LIMIT)
    (both_true (is_shape types shape) (is_small_shape shape) typed.shape_ typed.elements) typed.bytes)
    r.place (both_true (length bytes == type_size (tree_of types shape)) (begins_with_value types shape bytes) size_is good.value) (inner.1) writers r.signal_
  where
    and7 : (a b c d e f g : Bool) → a ≡ true → b ≡ true → c ≡ true → d ≡ true → e ≡ true → f ≡ true → g ≡ true → (a && b && c && d && e && f && g) ≡ true
    and7 a b c d e f g p q r s t u v = rw (p, q, r, s, t, u, v) refl
