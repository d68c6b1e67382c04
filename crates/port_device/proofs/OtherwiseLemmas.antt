-- What an accepted description says of a port's symbols, and what does not depend on their initial bytes.
use Rattle.std.proofs.Common.{◌≡◌, ℕ, ◌+◌, ◌≤◌, List, [], ◌∷◌, map, Bool, true, refl, sym, ◌∙◌, ap, subst}
use Rattle.std.specs.List.{list_all, AllZip}
use Rattle.std.proofs.lemmas.List.Elements.{length_all_zip}
use Rattle.std.proofs.lemmas.List.Sums.{sum_by-cons}
use Rattle.spec_plant.specs.Listed.{NamedType}
use Rattle.spec_plant.specs.Description.{Symbol, Port}
use Rattle.spec_plant.specs.Entries.{symbol_entry_length, upload_size}
use Rattle.spec_plant.specs.AcceptedTypes.{all_pairs}
use Rattle.spec_plant.specs.Accepted.{are_two_names, are_apart}
use Rattle.spec_persistent.specs.Otherwise.{SymbolBeginsOtherwise, PortBeginsOtherwise}
use Rattle.symbol_table.specs.Tables.{table_symbol, table_of, is_placed, IsPlaced}
use Rattle.port_device.specs.Uploads.{has_short_texts}

-- a symbol with other initial bytes
abbrev begun : Symbol → List ℕ → Symbol
begun s bytes = record s { initial = bytes }

-- two tests of which one gives for a symbol with any bytes what the other does
all-otherwise : (f g : Symbol → Bool) → ((s : Symbol) (bytes : List ℕ) → g (begun s bytes) ≡ f s) → (ss ts : List Symbol)
    → AllZip SymbolBeginsOtherwise ss ts → list_all g ts ≡ list_all f ss
all-otherwise f g same [] [] e = refl
all-otherwise f g same [] (t ∷ ts) e = absurd e
all-otherwise f g same (s ∷ ss) [] e = absurd e
all-otherwise f g same (s ∷ ss) (t ∷ ts) e =
    let b = e.0 in
    let head : g t ≡ f s = ap g b.same ∙ same s b.bytes in
    rw (head, all-otherwise f g same ss ts (e.1)) refl

-- a test of two symbols that does not look at their bytes
pairs-otherwise : (test : Symbol → Symbol → Bool) → ((s t : Symbol) (xs ys : List ℕ) → test (begun s xs) (begun t ys) ≡ test s t) → (ss ts : List Symbol)
    → AllZip SymbolBeginsOtherwise ss ts → all_pairs test ts ≡ all_pairs test ss
pairs-otherwise test same [] [] e = refl
pairs-otherwise test same [] (t ∷ ts) e = absurd e
pairs-otherwise test same (s ∷ ss) [] e = absurd e
pairs-otherwise test same (s ∷ ss) (t ∷ ts) e =
    let b = e.0 in
    let head : list_all (test t) ts ≡ list_all (test s) ss
    = all-otherwise (test s) (test t) (λ x ys. ap (λ y. test y (begun x ys)) b.same ∙ same s x b.bytes ys) ss ts (e.1) in
    rw (head, pairs-otherwise test same ss ts (e.1)) refl

-- the table of the port can be built
pub placed-otherwise : (types : List NamedType) (first p : Port) → PortBeginsOtherwise first p → IsPlaced types first → IsPlaced types p
placed-otherwise types first p o placed = subst (IsPlaced types) (sym o.same) (record {
  types = placed.types;
  count = subst (λ n. n ≤ 10000) (length_all_zip SymbolBeginsOtherwise first.symbols o.symbols o.each) placed.count;
  each = all-otherwise (is_placed types first.sizes) (is_placed types first.sizes) (λ s bytes. refl) first.symbols o.symbols o.each ∙ placed.each;
  names = pairs-otherwise are_two_names (λ s t xs ys. refl) first.symbols o.symbols o.each ∙ placed.names;
  apart = pairs-otherwise (are_apart types) (λ s t xs ys. refl) first.symbols o.symbols o.each ∙ placed.apart;
})

texts-begun : (types : List NamedType) (ss ts : List Symbol) → AllZip SymbolBeginsOtherwise ss ts
    → list_all has_short_texts (map (table_symbol types) ts) ≡ list_all has_short_texts (map (table_symbol types) ss)
texts-begun types [] [] e = refl
texts-begun types [] (t ∷ ts) e = absurd e
texts-begun types (s ∷ ss) [] e = absurd e
texts-begun types (s ∷ ss) (t ∷ ts) e =
    let head : has_short_texts (table_symbol types t) ≡ has_short_texts (table_symbol types s) = ap (λ x. has_short_texts (table_symbol types x)) (e.0).same in
    rw (head, texts-begun types ss ts (e.1)) refl

-- its names and comments are as short
pub texts-otherwise : (types : List NamedType) (first p : Port) → PortBeginsOtherwise first p → list_all has_short_texts (table_of types first).symbols ≡ true
    → list_all has_short_texts (table_of types p).symbols ≡ true
texts-otherwise types first p o short =
    subst (λ (x : Port). list_all has_short_texts (table_of types x).symbols ≡ true) (sym o.same) (texts-begun types first.symbols o.symbols o.each ∙ short)

upload-begun : (types : List NamedType) (ss ts : List Symbol) → AllZip SymbolBeginsOtherwise ss ts → upload_size types ts ≡ upload_size types ss
upload-begun types [] [] e = refl
upload-begun types [] (t ∷ ts) e = absurd e
upload-begun types (s ∷ ss) [] e = absurd e
upload-begun types (s ∷ ss) (t ∷ ts) e =
    let size = symbol_entry_length types in
    sum_by-cons size t ts ∙ ap (λ k. k + upload_size types ts) (ap size (e.0).same) ∙ ap (λ k. size s + k) (upload-begun types ss ts (e.1))
    ∙ sym (sum_by-cons size s ss)

-- its upload is as long
pub upload-otherwise : (types : List NamedType) (first p : Port) → PortBeginsOtherwise first p → upload_size types p.symbols ≡ upload_size types first.symbols
upload-otherwise types first p o = ap (λ (x : Port). upload_size types x.symbols) o.same ∙ upload-begun types first.symbols o.symbols o.each
