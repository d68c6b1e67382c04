-- Where rules 9 to 15 hold, the ports of a document are accepted.
use Rattle.std.proofs.Common.{◌≡◌, ℕ, zero, suc, ◌-◌, ◌≤◌, Bool, true, false, List, [], ◌∷◌, ◌++◌, length, map, replicate, refl, arith, length-append}
use Rattle.std.specs.Prelude.{None, is_some, option_map, ◌&&◌, ◌==◌, not, nat_le, nat_lt, ℤ, pos, negsuc}
use Rattle.std.specs.Option.{option_map_or}
use Rattle.std.specs.List.{list_all}
use Rattle.std.proofs.lemmas.Bool.{and_parts, leb-true, le-leb, eq-eqb}
use Rattle.std.proofs.lemmas.List.{length-map, length-replicate}
use Rattle.spec_plant.specs.Listed.{NamedType}
use Rattle.spec_plant.specs.Entries.{upload_size}
use Rattle.spec_plant.specs.Description.{Sizes}
use Rattle.spec_plant.specs.AcceptedTypes.{AreTypes, all_pairs, is_same_number}
use Rattle.name_paths.specs.Name.{is_symbol_name}
use Rattle.spec_plant.specs.Accepted.{are_two_names, are_apart, is_symbol, is_signal_right, is_device_name, are_facts, image_size, IMAGE_LIMIT, is_port}
use Rattle.spec_rules.specs.Written.{WrittenSymbol, WrittenPort}
use Rattle.spec_rules.specs.Places.{first_wrong}
use Rattle.spec_plant.specs.Shapes.{shape_of_text}
use Rattle.spec_rules.specs.Described.{symbol_described, sizes_described, facts_described, port_described, shape_described, natural_of, area_of}
use Rattle.spec_rules.specs.PortRules.{is_between, is_natural, is_port_name, has_right_sizes, is_right_port, has_right_upload}
use Rattle.spec_rules.specs.SymbolRules.{neither_begins, is_right_name, is_small, fits_area, is_right_place, is_right_content}
use Rattle.spec_rules.proofs.FirstWrong.{both_true, first_right, AreRight, are_right, all_pairs-mapped}
use Rattle.spec_rules.proofs.SymbolsAccepted.{symbol_good}

-- what the rules on symbols say of the symbols of one port
pub record AreRightSymbols (types : List NamedType) (signals : ℕ) (p : WrittenPort) : Type 0 where
  pub names : first_wrong is_right_name [] p.symbols ≡ None
  pub types_ : first_wrong (λ before (s : WrittenSymbol). option_map_or (is_small types) (shape_of_text types s.type) false) [] p.symbols ≡ None
  pub places : first_wrong (is_right_place types p) [] p.symbols ≡ None
  pub contents : first_wrong (λ before (s : WrittenSymbol). is_right_content types s) [] p.symbols ≡ None
  pub signals_ : list_all (λ (s : WrittenSymbol). is_signal_right signals (shape_described types s.type) (option_map natural_of s.signal)) p.symbols ≡ true

each_of : {X : Type 0} (test : X → Bool) (before xs : List X) → first_wrong (λ b x. test x) before xs ≡ None → list_all test xs ≡ true
each_of test before [] h = refl
each_of test before (x ∷ xs) h =
    let first = first_right (λ b y. test y) before x xs h in
    both_true (test x) (list_all test xs) (first.0) (each_of test (before ++ x ∷ []) xs (first.1))

yes : {X : Type 0} (xs : List X) → list_all (λ x. true) xs ≡ true
yes [] = refl
yes (x ∷ xs) = yes xs

right_names : (ss : List WrittenSymbol) → first_wrong is_right_name [] ss ≡ None
    → AreRight (λ (s : WrittenSymbol). is_symbol_name s.name) (λ (e s : WrittenSymbol). neither_begins e.name s.name) [] ss
right_names ss h = are_right is_right_name (λ (s : WrittenSymbol). is_symbol_name s.name)
    (λ (e s : WrittenSymbol). neither_begins e.name s.name) (λ before s g. and_parts _ _ g) [] ss h

right_places : (types : List NamedType) (p : WrittenPort) (ss : List WrittenSymbol) → first_wrong (is_right_place types p) [] ss ≡ None
    → AreRight (λ s. fits_area types (sizes_described p) (symbol_described types s))
    (λ e s. are_apart types (symbol_described types e) (symbol_described types s)) [] ss
right_places types p ss h =
    are_right (is_right_place types p) (λ s. fits_area types (sizes_described p) (symbol_described types s))
    (λ e s. are_apart types (symbol_described types e) (symbol_described types s)) says [] ss h
  where
    says : (before : List WrittenSymbol) (s : WrittenSymbol) → is_right_place types p before s ≡ true
        → (fits_area types (sizes_described p) (symbol_described types s) ≡ true)
        × (list_all (λ e. are_apart types (symbol_described types e) (symbol_described types s)) before ≡ true)
    says before s g =
        let fits = fits_area types (sizes_described p) (symbol_described types s) in
        let a = and_parts (is_some (area_of s.area) && is_natural s.offset && fits)
        (list_all (λ e. are_apart types (symbol_described types e) (symbol_described types s)) before) g in
        let b = and_parts (is_some (area_of s.area) && is_natural s.offset) fits (a.0) in
        (b.1, a.1)

symbols_good : (types : List NamedType) (sizes : Sizes) (signals : ℕ) (ss : List WrittenSymbol) → AreTypes types
    → list_all (λ (s : WrittenSymbol). is_symbol_name s.name) ss ≡ true
    → list_all (λ (s : WrittenSymbol). option_map_or (is_small types) (shape_of_text types s.type) false) ss ≡ true
    → list_all (λ s. fits_area types sizes (symbol_described types s)) ss ≡ true
    → list_all (λ (s : WrittenSymbol). is_right_content types s) ss ≡ true
    → list_all (λ (s : WrittenSymbol). is_signal_right signals (shape_described types s.type) (option_map natural_of s.signal)) ss ≡ true
    → list_all (is_symbol types sizes signals) (map (symbol_described types) ss) ≡ true
symbols_good types sizes signals [] a n t p c g = refl
symbols_good types sizes signals (s ∷ ss) a n t p c g =
    let n' = and_parts _ _ n in
    let t' = and_parts _ _ t in
    let p' = and_parts _ _ p in
    let c' = and_parts _ _ c in
    let g' = and_parts _ _ g in
    both_true (is_symbol types sizes signals (symbol_described types s)) (list_all (is_symbol types sizes signals) (map (symbol_described types) ss))
    (symbol_good types sizes signals s a (record { name = n'.0; type_ = t'.0; place = p'.0; content = c'.0; signal_ = g'.0 }))
    (symbols_good types sizes signals ss a (n'.1) (t'.1) (p'.1) (c'.1) (g'.1))

-- numbers of a range
between_most : (least most : ℕ) (z : ℤ) → is_between least most z ≡ true → (nat_le least (natural_of z) ≡ true) × (nat_le (natural_of z) most ≡ true)
between_most least most (pos n) h = and_parts (nat_le least n) (nat_le n most) h
between_most least most (negsuc n) h = cc

-- a name that is filled up
device_name : (name : List ℕ) (n : ℕ) → list_all (λ c. nat_le 0x20 c && nat_le c 0x7E) name ≡ true → is_device_name (name ++ replicate n 0) ≡ true
device_name [] n h = nuls n
  where
    zeros : (n : ℕ) → list_all (λ x. x == 0) (replicate n 0) ≡ true
    zeros zero = refl
    zeros (suc n) = zeros n

    nuls : (n : ℕ) → is_device_name (replicate n 0) ≡ true
    nuls zero = refl
    nuls (suc n) = zeros n
device_name (c ∷ cs) n h =
    let parts = and_parts (nat_le 0x20 c && nat_le c 0x7E) (list_all (λ x. nat_le 0x20 x && nat_le x 0x7E) cs) h in
    rw (parts.0, device_name cs n (parts.1)) refl

length-filled : (name : List ℕ) → length name ≤ 16 → length (name ++ replicate (16 - length name) 0) ≡ 16
length-filled name h = simp (length-append, length-replicate) (omega (arith, h))

-- what rule 9 says of a port
pub record IsGoodPort (p : WrittenPort) : Type 0 where
  pub number : (nat_lt 0 (natural_of p.number) && nat_le (natural_of p.number) 65535) ≡ true
  pub facts : are_facts (facts_described p) ≡ true
  pub sizes : nat_le (image_size (sizes_described p)) IMAGE_LIMIT ≡ true
  pub count : nat_le (length p.symbols) 10000 ≡ true

pub facts_good : (limit : ℕ) (before : List WrittenPort) (p : WrittenPort) → is_right_port limit before p ≡ true → limit ≤ IMAGE_LIMIT → IsGoodPort p
facts_good limit before p h most =
    let numbered = is_between 1 65535 p.number in
    let apart = list_all (λ (e : WrittenPort). not (is_same_number e.number p.number)) before in
    let version = is_between 0 255 p.major && is_between 0 255 p.minor && is_between 0 65535 p.build in
    let a = and_parts (numbered && apart && is_port_name p.name && version && has_right_sizes limit p) (nat_le (length p.symbols) 10000) h in
    let b = and_parts (numbered && apart && is_port_name p.name && version) (has_right_sizes limit p) (a.0) in
    let c = and_parts (numbered && apart && is_port_name p.name) version (b.0) in
    let d = and_parts (numbered && apart) (is_port_name p.name) (c.0) in
    let e = and_parts numbered apart (d.0) in
    let v = and_parts (is_between 0 255 p.major && is_between 0 255 p.minor) (is_between 0 65535 p.build) (c.1) in
    let w = and_parts (is_between 0 255 p.major) (is_between 0 255 p.minor) (v.0) in
    let n = and_parts (nat_le (length p.name) 16) (list_all (λ x. nat_le 0x20 x && nat_le x 0x7E) p.name) (d.1) in
    let number = between_most 1 65535 p.number (e.0) in
    let major = (between_most 0 255 p.major (w.0)).1 in
    let minor = (between_most 0 255 p.minor (w.1)).1 in
    let build = (between_most 0 65535 p.build (v.1)).1 in
    let sizes = (and_parts (is_natural p.inputs && is_natural p.outputs && is_natural p.memory && is_natural p.process)
    (nat_le (image_size (sizes_described p)) limit) (b.1)).1 in
    let image = leb-true (image_size (sizes_described p)) limit sizes in
    let short = leb-true (length p.name) 16 (n.0) in
    let filled = p.name ++ replicate (16 - length p.name) 0 in
    let sixteen : (length filled == 16) ≡ true = eq-eqb (length filled) 16 (length-filled p.name short) in
    let named = device_name p.name (16 - length p.name) (n.1) in
    record {
      number = both_true (nat_lt 0 (natural_of p.number)) (nat_le (natural_of p.number) 65535) (number.0) (number.1);
      facts = both_true (nat_le (natural_of p.major) 255 && nat_le (natural_of p.minor) 255 && nat_le (natural_of p.build) 65535)
          ((length filled == 16) && is_device_name filled)
          (both_true (nat_le (natural_of p.major) 255 && nat_le (natural_of p.minor) 255) (nat_le (natural_of p.build) 65535)
          (both_true (nat_le (natural_of p.major) 255) (nat_le (natural_of p.minor) 255) major minor) build)
          (both_true (length filled == 16) (is_device_name filled) sixteen named);
      sizes = le-leb (image_size (sizes_described p)) IMAGE_LIMIT (omega (arith, image, most));
      count = a.1;
    }

-- a port
pub port_good : (types : List NamedType) (signals : ℕ) (p : WrittenPort) → AreTypes types → IsGoodPort p
    → AreRightSymbols types signals p → has_right_upload types p ≡ true → is_port types signals (port_described types p) ≡ true
port_good types signals p a g r upload =
    let ss = p.symbols in
    let sizes = sizes_described p in
    let described = map (symbol_described types) ss in
    let names = right_names ss r.names in
    let places = right_places types p ss r.places in
    let each = symbols_good types sizes signals ss a names.each
    (each_of (λ (s : WrittenSymbol). option_map_or (is_small types) (shape_of_text types s.type) false) [] ss r.types_)
    places.each (each_of (λ (s : WrittenSymbol). is_right_content types s) [] ss r.contents) r.signals_ in
    let two = all_pairs-mapped (symbol_described types) are_two_names ss names.pairs in
    let apart = all_pairs-mapped (symbol_described types) (are_apart types) ss places.pairs in
    let count : nat_le (length described) 10000 ≡ true = rw (length-map ss (symbol_described types)) g.count in
    and6 (nat_lt 0 (natural_of p.number) && nat_le (natural_of p.number) 65535) (are_facts (facts_described p)) (nat_le (image_size sizes) IMAGE_LIMIT)
    (nat_le (length described) 10000 && list_all (is_symbol types sizes signals) described)
    (all_pairs are_two_names described && all_pairs (are_apart types) described) (nat_le (upload_size types described) 2000000)
    g.number g.facts g.sizes (both_true (nat_le (length described) 10000) (list_all (is_symbol types sizes signals) described) count each)
    (both_true (all_pairs are_two_names described) (all_pairs (are_apart types) described) two apart) upload
  where
    and6 : (a b c d e f : Bool) → a ≡ true → b ≡ true → c ≡ true → d ≡ true → e ≡ true → f ≡ true → (a && b && c && d && e && f) ≡ true
    and6 a b c d e f p q r s t u = rw (p, q, r, s, t, u) refl

-- two ports have two numbers
pub two_numbers : (m n : ℤ) → is_between 1 65535 m ≡ true → is_between 1 65535 n ≡ true
    → not (is_same_number m n) ≡ true → not (natural_of m == natural_of n) ≡ true
two_numbers (pos m) (pos n) f g h = h
two_numbers (pos m) (negsuc n) f g h = cc
two_numbers (negsuc m) n f g h = cc
