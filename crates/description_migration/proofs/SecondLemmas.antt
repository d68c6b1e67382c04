-- A document that is read under its schema is read as the same under schema 2.
use Rattle.std.proofs.Common.{◌≡◌, Bool, true, false, List, [], ◌∷◌, Option, Some, None, option_map, refl, ap, ◌∙◌}
use Rattle.std.specs.Prelude.{codes, pos, option_and_then}
use Rattle.toml.specs.Data.{Data, integer, Items, no_items, item, Members, get_member, as_integer, as_str, as_array, as_table}
use Rattle.spec_rules.specs.Fields.{only_keys, or_absent, items_in, array_of, table_of, tables_of}
use Rattle.spec_rules.specs.Written.{WrittenType, WrittenSymbol, WrittenPort, Document}
use Rattle.spec_rules.specs.Tables.{route_in, structure_in, type_in, symbol_keys_of_schema_1, symbol_in, port_in, is_two, document_keys, document_in}
use Rattle.table_text.specs.SetMember.{set_member}
use Rattle.description_migration.specs.Migration.{SCHEMA, second_schema}
use Rattle.description_migration.proofs.MemberLemmas.{get_member-set, get_member-other, only_keys-set, get_member-unknown, only_keys-more}
use Rattle.description_migration.proofs.ReadLemmas.{bind_some, so_some, map_some, document_read, document_from, port_read, port_from}

-- whatever one kind reads, another reads as the same
abbrev Follows : {X : Type 0} → (Data → Option X) → (Data → Option X) → Type 0
Follows {X} first second = (d : Data) (x : X) → first d ≡ Some x → second d ≡ Some x

items_follow : {X : Type 0} (first second : Data → Option X) → Follows first second
    → (ds : Items) (xs : List X) → items_in first ds ≡ Some xs → items_in second ds ≡ Some xs
items_follow first second f no_items xs h = h
items_follow {X} first second f (item d ds) xs h =
    let (x, here, more) = bind_some (λ x. option_map (λ ys. x ∷ ys) (items_in first ds)) (first d) xs h in
    let (ys, rest, whole) = map_some (λ ys. x ∷ ys) (items_in first ds) xs more in
    rw (f d x here, items_follow first second f ds ys rest) (ap (λ (zs : List X). Some zs) whole)

array_follows : {X : Type 0} (first second : Data → Option X) → Follows first second → Follows (array_of first) (array_of second)
array_follows {X} first second f d xs h =
    let (ds, is, items) = bind_some (items_in first) (as_array d) xs h in
    ap (option_and_then (items_in second)) is ∙ items_follow first second f ds xs items

table_follows : {X : Type 0} (first second : Members → Option X)
    → ((t : Members) (x : X) → first t ≡ Some x → second t ≡ Some x) → Follows (table_of first) (table_of second)
table_follows first second f d x h =
    let (t, is, read) = bind_some first (as_table d) x h in
    ap (option_and_then second) is ∙ f t x read

tables_follow : {X : Type 0} (first second : Members → Option X)
    → ((t : Members) (x : X) → first t ≡ Some x → second t ≡ Some x) → Follows (tables_of first) (tables_of second)
tables_follow first second f = array_follows (table_of first) (table_of second) (table_follows first second f)

absent_follows : {X : Type 0} (first second : Data → Option X) (absent : X) → Follows first second
    → (o : Option Data) (x : X) → or_absent first absent o ≡ Some x → or_absent second absent o ≡ Some x
absent_follows first second absent f None x h = h
absent_follows first second absent f (Some d) x h = f d x h

-- a table of schema 1 is one of schema 2
no_base : (t : Members) (w : WrittenType) → structure_in t ≡ Some w → get_member (codes "base") t ≡ None
unfolding structure_in
no_base t w h =
    let keys = codes "name" ∷ codes "member" ∷ [] in
    get_member-unknown keys (codes "base") t refl (so_some (only_keys keys t) _ w h).0

type_up : (second : Bool) (t : Members) (w : WrittenType) → type_in second t ≡ Some w → type_in true t ≡ Some w
unfolding type_in
type_up true t w h = h
type_up false t w h = rw (no_base t w h) h

symbol_up : (second : Bool) (t : Members) (w : WrittenSymbol) → symbol_in second t ≡ Some w → symbol_in true t ≡ Some w
unfolding symbol_in
symbol_up true t w h = h
symbol_up false t w h =
    let (keys, body) = so_some (only_keys symbol_keys_of_schema_1 t) _ w h in
    rw (only_keys-more (codes "writers") symbol_keys_of_schema_1 t keys) body

port_up : (second : Bool) (t : Members) (w : WrittenPort) → port_in second t ≡ Some w → port_in true t ≡ Some w
port_up second t w h =
    let r = port_read second t w h in
    port_from true t w (record {
      keys = r.keys;
      number = r.number;
      name = r.name;
      major = r.major;
      minor = r.minor;
      build = r.build;
      inputs = r.inputs;
      outputs = r.outputs;
      memory = r.memory;
      process = r.process;
      symbols = absent_follows (tables_of (symbol_in second)) (tables_of (symbol_in true)) []
          (tables_follow (symbol_in second) (symbol_in true) (symbol_up second)) (get_member (codes "symbol") t) w.symbols r.symbols;
    })

-- the document under schema 2
abbrev pub under_second : Document → Document
under_second d = record d { schema = pos 2 }

pub document_up : (t : Members) (d : Document) → document_in t ≡ Some d → document_in (second_schema t) ≡ Some (under_second d)
unfolding second_schema
document_up t d h =
    let r = document_read t d h in
    let set = set_member SCHEMA (integer (pos 2)) in
    let routes_at : get_member (codes "route") (set t) ≡ get_member (codes "route") t = get_member-other (codes "route") SCHEMA (integer (pos 2)) t refl in
    let types_at : get_member (codes "type") (set t) ≡ get_member (codes "type") t = get_member-other (codes "type") SCHEMA (integer (pos 2)) t refl in
    let ports_at : get_member (codes "port") (set t) ≡ get_member (codes "port") t = get_member-other (codes "port") SCHEMA (integer (pos 2)) t refl in
    let net_at : get_member (codes "net") (set t) ≡ get_member (codes "net") t = get_member-other (codes "net") SCHEMA (integer (pos 2)) t refl in
    let second = is_two d.schema in
    let types_up = absent_follows (tables_of (type_in second)) (tables_of (type_in true)) []
    (tables_follow (type_in second) (type_in true) (type_up second)) (get_member (codes "type") t) d.types r.types in
    let kinds = tables_follow (port_in second) (port_in true) (port_up second) in
    let (value, found, read) = bind_some (tables_of (port_in second)) (get_member (codes "port") t) d.ports r.ports in
    document_from (set t) (under_second d) (record {
      keys = only_keys-set document_keys SCHEMA (integer (pos 2)) t refl r.keys;
      schema = ap (option_and_then as_integer) (get_member-set SCHEMA (integer (pos 2)) t);
      net = ap (option_and_then as_str) net_at ∙ r.net;
      routes = ap (or_absent (tables_of route_in) []) routes_at ∙ r.routes;
      types = ap (or_absent (tables_of (type_in true)) []) types_at ∙ types_up;
      ports = ap (option_and_then (tables_of (port_in true))) (ports_at ∙ found) ∙ kinds value d.ports read;
    })
