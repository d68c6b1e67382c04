-- What an accepted description says of a port's texts and of its upload.
use Rattle.std.proofs.Common.{◌≡◌, ℕ, ◌≤◌, List, [], ◌∷◌, map, length, Bool, true, refl}
use Rattle.std.specs.Prelude.{nat_le, ◌&&◌}
use Rattle.std.specs.List.{list_all}
use Rattle.std.proofs.lemmas.Bool.{and_parts, leb-true, le-leb}
use Rattle.name_paths.specs.Identifier.{is_identifier}
use Rattle.name_paths.specs.Name.{identifiers_of, is_symbol_name}
use Rattle.spec_plant.specs.Listed.{NamedType}
use Rattle.spec_plant.specs.Description.{Symbol, Port, Sizes}
use Rattle.spec_plant.specs.Entries.{upload_size}
use Rattle.spec_plant.specs.AcceptedTypes.{LIMIT, all_pairs, is_comment, is_shape, is_small_shape}
use Rattle.spec_plant.specs.Accepted.{is_port, is_symbol, are_facts, size_of_symbol, are_two_names, are_apart}
use Rattle.spec_plant.proofs.TextLengths.{short_comment}
use Rattle.symbol_table.specs.Tables.{table_symbol, table_of}
use Rattle.port_device.specs.Uploads.{has_short_texts}

both : (s t : Bool) → s ≡ true → t ≡ true → (s && t) ≡ true
both s t h k = rw (h, k) refl

short_texts : (types : List NamedType) (sizes : Sizes) (signals : ℕ) (s : Symbol) → is_symbol types sizes signals s ≡ true
    → has_short_texts (table_symbol types s) ≡ true
short_texts types sizes signals s e =
    let d = two (is_symbol_name s.name)
    (is_shape types s.shape && is_small_shape s.shape && nat_le (size_of_symbol types s) LIMIT) _ _ (is_comment s.comment) _ _ e in
    let n = and_parts (nat_le (length s.name) 255) (list_all is_identifier (identifiers_of s.name)) (d.0) in
    both (nat_le (length s.name) 255) (nat_le (length s.comment) 255) n.0 (le-leb (length s.comment) 255 (short_comment s.comment (d.1)))
  where
    two : (a b c d x y z : Bool) → ((((((a && b) && c) && d) && x) && y) && z) ≡ true → (a ≡ true) × (x ≡ true)
    two a b c d x y z q =
        let q1 = and_parts (((((a && b) && c) && d) && x) && y) z q in
        let q2 = and_parts ((((a && b) && c) && d) && x) y (q1.0) in
        let q3 = and_parts (((a && b) && c) && d) x (q2.0) in
        let q4 = and_parts ((a && b) && c) d (q3.0) in
        let q5 = and_parts (a && b) c (q4.0) in
        let q6 = and_parts a b (q5.0) in
        (q6.0, q3.1)

each_short : (types : List NamedType) (sizes : Sizes) (signals : ℕ) (ss : List Symbol) → list_all (is_symbol types sizes signals) ss ≡ true
    → list_all has_short_texts (map (table_symbol types) ss) ≡ true
each_short types sizes signals [] e = refl
each_short types sizes signals (s ∷ ss) e =
    let q = and_parts (is_symbol types sizes signals s) (list_all (is_symbol types sizes signals) ss) e in
    both (has_short_texts (table_symbol types s)) (list_all has_short_texts (map (table_symbol types) ss)) (short_texts types sizes signals s (q.0))
    (each_short types sizes signals ss (q.1))

-- what is_port says of symbols and upload
parts : (a b c d x y z w : Bool) → (((((a && b) && c) && (d && x)) && (y && z)) && w) ≡ true → (x ≡ true) × (w ≡ true)
parts a b c d x y z w q =
    let q1 = and_parts (((a && b) && c) && (d && x) && (y && z)) w q in
    let q2 = and_parts (((a && b) && c) && (d && x)) (y && z) (q1.0) in
    let q3 = and_parts ((a && b) && c) (d && x) (q2.0) in
    let q4 = and_parts d x (q3.1) in
    (q4.1, q1.1)

port_parts : (types : List NamedType) (signals : ℕ) (p : Port) → is_port types signals p ≡ true
    → (list_all (is_symbol types p.sizes signals) p.symbols ≡ true) × (nat_le (upload_size types p.symbols) 2000000 ≡ true)
port_parts types signals p e =
    parts _ (are_facts p.facts) _ _ (list_all (is_symbol types p.sizes signals) p.symbols)
    (all_pairs are_two_names p.symbols) (all_pairs (are_apart types) p.symbols)
    (nat_le (upload_size types p.symbols) 2000000) e

-- names and comments are short
pub port_texts : (types : List NamedType) (signals : ℕ) (p : Port) → is_port types signals p ≡ true
    → list_all has_short_texts (table_of types p).symbols ≡ true
port_texts types signals p e = each_short types p.sizes signals p.symbols (port_parts types signals p e).0

-- the upload is small
pub port_upload : (types : List NamedType) (signals : ℕ) (p : Port) → is_port types signals p ≡ true → upload_size types p.symbols ≤ 2000000
port_upload types signals p e = leb-true (upload_size types p.symbols) 2000000 (port_parts types signals p e).1
