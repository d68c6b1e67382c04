-- The tables of a load, one by one.
use Rattle.std.proofs.Common.{◌≡◌, ℕ, ◌+◌, List, [], ◌∷◌, ◌++◌, map, refl, sym, ap, ◌∙◌, arith}
use Rattle.std.specs.Prelude.{codes, pos}
use Rattle.std.specs.List.{range_with_len}
use Rattle.std.proofs.lemmas.List.FromFn.{map-range_with_len_more}
use Rattle.toml.specs.Data.{Data, string, integer, array, table, Items, item, no_items, push_item, Members, no_members}
use Rattle.table_text.specs.SetMember.{set_member}
use Rattle.toml.specs.View.{items_of}
use Rattle.load_maker.specs.LoadDescription.{symbol_table, symbol_tables, route_table, route_tables, port_table, load_table}

items_of-push : (ds : List Data) (d : Data) → items_of (ds ++ d ∷ []) ≡ push_item (items_of ds) d
items_of-push [] d = refl
items_of-push (e ∷ ds) d = ap (item e) (items_of-push ds d)

pub symbols-none : items_of (symbol_tables 0) ≡ no_items
unfolding symbol_tables
symbols-none = refl

-- one more symbol
pub symbols-more : (old new : Items) (i : ℕ) → old ≡ items_of (symbol_tables i)
    → new ≡ push_item old (table (symbol_table i)) → new ≡ items_of (symbol_tables (i + 1))
unfolding symbol_tables
symbols-more old new i so_far is =
    is ∙ (ap (λ ds. push_item ds (table (symbol_table i))) so_far
    ∙ (sym (items_of-push (map (λ n. table (symbol_table n)) (range_with_len 0 i)) (table (symbol_table i)))
    ∙ ap items_of (sym (map-range_with_len_more (λ n. table (symbol_table n)) 0 i i (omega arith)))))

-- the four routes
pub four_routes : (a b c d e : Items) → a ≡ no_items → b ≡ push_item a (table (route_table (codes "10.0.0.1.1.1")))
    → c ≡ push_item b (table (route_table (codes "10.0.0.2.1.1")))
    → d ≡ push_item c (table (route_table (codes "10.0.0.3.1.1"))) → e ≡ push_item d (table (route_table (codes "10.0.0.4.1.1"))) → e ≡ items_of route_tables
unfolding route_tables
four_routes a b c d e e0 e1 e2 e3 e4 = rw (e4, e3, e2, e1, e0) refl

-- the document
pub top_table : (t0 t1 t2 t3 t4 : Members) (ports routes : Items) → t0 ≡ no_members → t1 ≡ set_member (codes "net") (string (codes "5.1.2.3.1.1")) t0
    → t2 ≡ set_member (codes "port") (array ports) t1 → t3 ≡ set_member (codes "route") (array routes) t2
    → t4 ≡ set_member (codes "schema") (integer (pos 1)) t3
    → ports ≡ items_of (table (port_table (items_of (symbol_tables 100))) ∷ []) → routes ≡ items_of route_tables → t4 ≡ load_table
unfolding load_table
top_table t0 t1 t2 t3 t4 ports routes e0 e1 e2 e3 e4 p r = rw (e4, e3, e2, e1, e0, p, r) refl
