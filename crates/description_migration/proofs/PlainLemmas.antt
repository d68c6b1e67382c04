-- The table of a description's document is plain and shallow.
use Rattle.std.proofs.Common.{◌≡◌, ℕ, suc, ◌≤◌, Bool, true, false, ◌&&◌, List, [], ◌∷◌, Option, Some, None}
use Rattle.std.proofs.Common.{option_map, refl, sym, ap, ◌∙◌, subst, arith, inl, inr}
use Rattle.std.specs.Prelude.{codes, ℤ, pos, option_and_then, is_some, bytes_eq, if◌then◌else◌}
use Rattle.std.specs.List.{list_any, AllByRecursion}
use Rattle.std.specs.Cmp.{tied_itself}
use Rattle.std.proofs.lemmas.Bool.{cases_Bool, and_parts}
use Rattle.std.proofs.lemmas.Cmp.{nat_list_cmp_total}
use Rattle.std.proofs.lemmas.Slice.Eq.{bytes_eq-Decides}
use Rattle.toml.specs.Data.{Data, string, integer, float, boolean, datetime, array, table, Items, no_items}
use Rattle.toml.specs.Data.{item, Members, no_members, member, get_member, as_str, as_integer, as_bool}
use Rattle.toml.specs.Data.{is_before, is_sorted, items_are_sorted, members_are_sorted, depth, items_depth}
use Rattle.toml.specs.Data.{members_depth}
use Rattle.toml.proofs.Blanks.{below, below_from, greater_from}
use Rattle.toml.proofs.Filled.{AllAbove}
use Rattle.spec_rules.specs.Fields.{only_keys, required, or_absent, optional, maybe, items_in, array_of, table_of, tables_of}
use Rattle.spec_rules.specs.Written.{WrittenRoute, WrittenMember, EnumValue, WrittenType, WrittenSymbol, WrittenPort, Document}
use Rattle.spec_rules.specs.Tables.{route_in, member_in, value_in, structure_in, enumeration_in, type_in}
use Rattle.spec_rules.specs.Tables.{symbol_keys, symbol_in, port_keys, port_in, is_two, document_keys}
use Rattle.spec_rules.specs.Tables.{document_in}
use Rattle.table_text.specs.PlainTable.{is_plain, are_plain, is_plain_table}
use Rattle.description_migration.proofs.ReadLemmas.{bind_some, so_some, map_some, document_read, port_read}

-- a plain value, so deep at most; and so of tables and items
record Fits (n : ℕ) (d : Data) : Type 0 where
  plain : is_plain d ≡ true
  shallow : depth d ≤ n

pub record TableFits (n : ℕ) (ms : Members) : Type 0 where
  pub plain : is_plain_table ms ≡ true
  pub shallow : members_depth ms ≤ n

record ItemsFit (n : ℕ) (ds : Items) : Type 0 where
  plain : are_plain ds ≡ true
  shallow : items_depth ds ≤ n

abbrev KindFits : {X : Type 0} → ℕ → (Data → Option X) → Type 0
KindFits {X} n kind = (d : Data) (x : X) → is_sorted d ≡ true → kind d ≡ Some x → Fits n d

abbrev ReadFits : {X : Type 0} → ℕ → (Members → Option X) → Type 0
ReadFits {X} n read = (ms : Members) (x : X) → members_are_sorted ms ≡ true → read ms ≡ Some x → TableFits n ms

-- ---- values

text_fits : (n : ℕ) (d : Data) (x : List ℕ) → is_sorted d ≡ true → as_str d ≡ Some x → Fits n d
text_fits n (string s) x o h = record { plain = refl; shallow = omega arith }
text_fits n (integer z) x o h = cc
text_fits n (float f) x o h = cc
text_fits n (boolean b) x o h = cc
text_fits n (datetime t) x o h = cc
text_fits n (array ds) x o h = cc
text_fits n (table ms) x o h = cc

number_fits : (n : ℕ) (d : Data) (x : ℤ) → is_sorted d ≡ true → as_integer d ≡ Some x → Fits n d
number_fits n (string s) x o h = cc
number_fits n (integer z) x o h = record { plain = refl; shallow = omega arith }
number_fits n (float f) x o h = cc
number_fits n (boolean b) x o h = cc
number_fits n (datetime t) x o h = cc
number_fits n (array ds) x o h = cc
number_fits n (table ms) x o h = cc

flag_fits : (n : ℕ) (d : Data) (x : Bool) → is_sorted d ≡ true → as_bool d ≡ Some x → Fits n d
flag_fits n (string s) x o h = cc
flag_fits n (integer z) x o h = cc
flag_fits n (float f) x o h = cc
flag_fits n (boolean b) x o h = record { plain = refl; shallow = omega arith }
flag_fits n (datetime t) x o h = cc
flag_fits n (array ds) x o h = cc
flag_fits n (table ms) x o h = cc

items_fit : {X : Type 0} (n : ℕ) (kind : Data → Option X) → KindFits n kind
    → (ds : Items) (xs : List X) → items_are_sorted ds ≡ true → items_in kind ds ≡ Some xs → ItemsFit n ds
items_fit n kind f no_items xs o h = record { plain = refl; shallow = omega arith }
items_fit n kind f (item d ds) xs o h =
    let (sorted, later) = and_parts (is_sorted d) (items_are_sorted ds) o in
    let (x, here, more) = bind_some (λ x. option_map (λ ys. x ∷ ys) (items_in kind ds)) (kind d) xs h in
    let (ys, rest, whole) = map_some (λ ys. x ∷ ys) (items_in kind ds) xs more in
    let first = f d x sorted here in
    let others = items_fit n kind f ds ys later rest in
    record { plain = rw (first.plain, others.plain) refl; shallow = omega (arith, first.shallow, others.shallow) }

array_fits : {X : Type 0} (n : ℕ) (kind : Data → Option X) → KindFits n kind
    → (d : Data) (xs : List X) → is_sorted d ≡ true → array_of kind d ≡ Some xs → Fits (suc n) d
array_fits n kind f (string s) xs o h = cc
array_fits n kind f (integer z) xs o h = cc
array_fits n kind f (float x) xs o h = cc
array_fits n kind f (boolean b) xs o h = cc
array_fits n kind f (datetime t) xs o h = cc
array_fits n kind f (array ds) xs o h =
    let i = items_fit n kind f ds xs o h in record { plain = i.plain; shallow = omega (arith, i.shallow) }
array_fits n kind f (table ms) xs o h = cc

table_kind_fits : {X : Type 0} (n : ℕ) (read : Members → Option X) → ReadFits n read
    → (d : Data) (x : X) → is_sorted d ≡ true → table_of read d ≡ Some x → Fits (suc n) d
table_kind_fits n read f (string s) x o h = cc
table_kind_fits n read f (integer z) x o h = cc
table_kind_fits n read f (float y) x o h = cc
table_kind_fits n read f (boolean b) x o h = cc
table_kind_fits n read f (datetime t) x o h = cc
table_kind_fits n read f (array ds) x o h = cc
table_kind_fits n read f (table ms) x o h =
    let i = f ms x o h in record { plain = i.plain; shallow = omega (arith, i.shallow) }

tables_fit : {X : Type 0} (n : ℕ) (read : Members → Option X) → ReadFits n read
    → (d : Data) (xs : List X) → is_sorted d ≡ true → tables_of read d ≡ Some xs → Fits (suc (suc n)) d
tables_fit n read f = array_fits (suc n) (table_of read) (table_kind_fits n read f)

-- ---- the members of a table

-- each of these members is found in the table
abbrev IsWithin : Members → Members → Type 0
IsWithin all no_members = Unit {0}
IsWithin all (member k d ms) = (get_member k all ≡ Some d) × IsWithin all ms

above_earlier : (ms : Members) (j k : List ℕ) → below j k → AllAbove ms k → AllAbove ms j
above_earlier no_members j k order h = tt
above_earlier (member l d ms) j k order h = (nat_list_cmp_total.trans j k l order h.0, above_earlier ms j k order h.1)

above_sorted : (ms : Members) (k : List ℕ) → is_before k ms ≡ true → members_are_sorted ms ≡ true → AllAbove ms k
above_sorted no_members k order sorted = tt
above_sorted (member l d ms) k order sorted =
    let (front, more) = and_parts (is_before l ms && is_sorted d) (members_are_sorted ms) sorted in
    let (next, here) = and_parts (is_before l ms) (is_sorted d) front in
    let first_order = below_from k l order in
    (first_order, above_earlier ms k l first_order (above_sorted ms l next more))

within_under : (l : List ℕ) (e : Data) (all ms : Members) → AllAbove ms l → IsWithin all ms → IsWithin (member l e all) ms
within_under l e all no_members a w = tt
within_under l e all (member k d ms) a w = (rw (greater_from l k a.0) w.0, within_under l e all ms a.1 w.1)

all_within : (ms : Members) → members_are_sorted ms ≡ true → IsWithin ms ms
all_within no_members s = tt
all_within (member l e ms) s =
    let (front, more) = and_parts (is_before l ms && is_sorted e) (members_are_sorted ms) s in
    let (next, here) = and_parts (is_before l ms) (is_sorted e) front in
    (rw (tied_itself nat_list_cmp_total l) refl, within_under l e ms ms (above_sorted ms l next more) (all_within ms more))

-- what holds of each known key
known : (P : List ℕ → Type 0) (keys : List (List ℕ)) → AllByRecursion P keys → (k : List ℕ) → list_any (bytes_eq k) keys ≡ true → P k
known P [] h k is = cc
known P (l ∷ ls) h k is =
    elim (cases_Bool (bytes_eq k l)) [
      | inl same ↦ subst P (sym ((bytes_eq-Decides k l).0 same)) h.0
      | inr other ↦ known P ls h.1 k (rw other at is)
    ]

-- what is found at a key fits
abbrev MemberFits : Members → ℕ → List ℕ → Type 0
MemberFits all n k = (d : Data) → get_member k all ≡ Some d → is_sorted d ≡ true → Fits n d

some_fit : (n : ℕ) (keys : List (List ℕ)) (all : Members) → AllByRecursion (MemberFits all n) keys
    → (ms : Members) → only_keys keys ms ≡ true → members_are_sorted ms ≡ true → IsWithin all ms → TableFits n ms
some_fit n keys all h no_members k s w = record { plain = refl; shallow = omega arith }
some_fit n keys all h (member l e ms) k s w =
    let (here, more) = and_parts (list_any (bytes_eq l) keys) (only_keys keys ms) k in
    let (front, later) = and_parts (is_before l ms && is_sorted e) (members_are_sorted ms) s in
    let (next, sorted) = and_parts (is_before l ms) (is_sorted e) front in
    let first = known (MemberFits all n) keys h l here e w.0 sorted in
    let others = some_fit n keys all h ms more later w.1 in
    record { plain = rw (first.plain, others.plain) refl; shallow = omega (arith, first.shallow, others.shallow) }

table_fits : (n : ℕ) (keys : List (List ℕ)) (ms : Members) → members_are_sorted ms ≡ true
    → only_keys keys ms ≡ true → AllByRecursion (MemberFits ms n) keys → TableFits n ms
table_fits n keys ms s k h = some_fit n keys ms h ms k s (all_within ms s)

required_fits : {X : Type 0} (n : ℕ) (kind : Data → Option X) (k : List ℕ) (t : Members) (v : X)
    → KindFits n kind → required kind k t ≡ Some v → MemberFits t n k
required_fits n kind k t v f h d at_ sorted = f d v sorted (sym (ap (option_and_then kind) at_) ∙ h)

optional_fits : {X : Type 0} (n : ℕ) (kind : Data → Option X) (absent : X) (k : List ℕ) (t : Members) (v : X)
    → KindFits n kind → optional kind absent k t ≡ Some v → MemberFits t n k
optional_fits n kind absent k t v f h d at_ sorted = f d v sorted (sym (ap (or_absent kind absent) at_) ∙ h)

maybe_fits : {X : Type 0} (n : ℕ) (kind : Data → Option X) (k : List ℕ) (t : Members) (v : Option X)
    → KindFits n kind → maybe kind k t ≡ Some v → MemberFits t n k
maybe_fits {X} n kind k t v f h =
    optional_fits n (λ value. option_map (λ (x : X). Some x) (kind value)) None k t v
    (λ d x s e. let (y, is, whole) = map_some (λ (z : X). Some z) (kind d) x e in f d y s is) h

-- ---- the tables

route_fits : (n : ℕ) (t : Members) (x : WrittenRoute) → members_are_sorted t ≡ true → route_in t ≡ Some x → TableFits n t
unfolding route_in
route_fits n t x s h =
    let keys = codes "net" ∷ codes "rights" ∷ [] in
    let (all, b0) = so_some (only_keys keys t) _ x h in
    let (net, net_is, b1) = bind_some _ (required as_str (codes "net") t) x b0 in
    let (rights, rights_is, b2) = bind_some _ (required as_str (codes "rights") t) x b1 in
    table_fits n keys t s all (
      required_fits n as_str (codes "net") t net (text_fits n) net_is,
      (required_fits n as_str (codes "rights") t rights (text_fits n) rights_is, tt),
    )

member_fits : (n : ℕ) (t : Members) (x : WrittenMember) → members_are_sorted t ≡ true → member_in t ≡ Some x → TableFits n t
unfolding member_in
member_fits n t x s h =
    let keys = codes "name" ∷ codes "type" ∷ codes "comment" ∷ [] in
    let (all, b0) = so_some (only_keys keys t) _ x h in
    let (name, name_is, b1) = bind_some _ (required as_str (codes "name") t) x b0 in
    let (type, type_is, b2) = bind_some _ (required as_str (codes "type") t) x b1 in
    let (comment, comment_is, b3) = bind_some _ (optional as_str [] (codes "comment") t) x b2 in
    table_fits n keys t s all (
      required_fits n as_str (codes "name") t name (text_fits n) name_is,
      (
        required_fits n as_str (codes "type") t type (text_fits n) type_is,
        (optional_fits n as_str [] (codes "comment") t comment (text_fits n) comment_is, tt),
      ),
    )

value_fits : (n : ℕ) (t : Members) (x : EnumValue) → members_are_sorted t ≡ true → value_in t ≡ Some x → TableFits n t
unfolding value_in
value_fits n t x s h =
    let keys = codes "name" ∷ codes "number" ∷ [] in
    let (all, b0) = so_some (only_keys keys t) _ x h in
    let (name, name_is, b1) = bind_some _ (required as_str (codes "name") t) x b0 in
    let (number, number_is, b2) = bind_some _ (required as_integer (codes "number") t) x b1 in
    table_fits n keys t s all (
      required_fits n as_str (codes "name") t name (text_fits n) name_is,
      (required_fits n as_integer (codes "number") t number (number_fits n) number_is, tt),
    )

structure_fits : (n : ℕ) (t : Members) (x : WrittenType) → members_are_sorted t ≡ true → structure_in t ≡ Some x → TableFits (suc (suc n)) t
unfolding structure_in
structure_fits n t x s h =
    let keys = codes "name" ∷ codes "member" ∷ [] in
    let (all, b0) = so_some (only_keys keys t) _ x h in
    let (name, name_is, b1) = bind_some _ (required as_str (codes "name") t) x b0 in
    let (members, members_is, b2) = bind_some _ (required (tables_of member_in) (codes "member") t) x b1 in
    table_fits (suc (suc n)) keys t s all (
      required_fits (suc (suc n)) as_str (codes "name") t name (text_fits (suc (suc n))) name_is,
      (required_fits (suc (suc n)) (tables_of member_in) (codes "member") t members (tables_fit n member_in (member_fits n)) members_is, tt),
    )

enumeration_fits : (n : ℕ) (t : Members) (x : WrittenType) → members_are_sorted t ≡ true → enumeration_in t ≡ Some x → TableFits (suc (suc n)) t
unfolding enumeration_in
enumeration_fits n t x s h =
    let keys = codes "name" ∷ codes "base" ∷ codes "value" ∷ [] in
    let (all, b0) = so_some (only_keys keys t) _ x h in
    let (name, name_is, b1) = bind_some _ (required as_str (codes "name") t) x b0 in
    let (base, base_is, b2) = bind_some _ (required as_str (codes "base") t) x b1 in
    let (values, values_is, b3) = bind_some _ (required (tables_of value_in) (codes "value") t) x b2 in
    table_fits (suc (suc n)) keys t s all (
      required_fits (suc (suc n)) as_str (codes "name") t name (text_fits (suc (suc n))) name_is,
      (
        required_fits (suc (suc n)) as_str (codes "base") t base (text_fits (suc (suc n))) base_is,
        (required_fits (suc (suc n)) (tables_of value_in) (codes "value") t values (tables_fit n value_in (value_fits n)) values_is, tt),
      ),
    )

type_fits : (second : Bool) (n : ℕ) (t : Members) (x : WrittenType) → members_are_sorted t ≡ true → type_in second t ≡ Some x → TableFits (suc (suc n)) t
unfolding type_in
type_fits second n t x s h = go (second && is_some (get_member (codes "base") t)) h
  where
    go : (b : Bool) → (if b then enumeration_in t else structure_in t) ≡ Some x → TableFits (suc (suc n)) t
    go true e = enumeration_fits n t x s e
    go false e = structure_fits n t x s e

-- the keys of schema 1 are among those of schema 2, whose `writers` are texts in an array
symbol_fits : (second : Bool) (n : ℕ) (t : Members) (x : WrittenSymbol) → members_are_sorted t ≡ true → symbol_in second t ≡ Some x → TableFits (suc n) t
unfolding symbol_in
symbol_fits second n t x s h =
    let m = suc n in
    let (all, b0) = so_some (only_keys (symbol_keys second) t) _ x h in
    let (name, name_is, b1) = bind_some _ (required as_str (codes "name") t) x b0 in
    let (type, type_is, b2) = bind_some _ (required as_str (codes "type") t) x b1 in
    let (area, area_is, b3) = bind_some _ (required as_str (codes "area") t) x b2 in
    let (offset, offset_is, b4) = bind_some _ (required as_integer (codes "offset") t) x b3 in
    let (comment, comment_is, b5) = bind_some _ (optional as_str [] (codes "comment") t) x b4 in
    let (persistent, persistent_is, b6) = bind_some _ (optional as_bool false (codes "persistent") t) x b5 in
    let (read_only, read_only_is, b7) = bind_some _ (optional as_bool false (codes "read_only") t) x b6 in
    let (initial, initial_is, b8) = bind_some _ (maybe as_str (codes "initial") t) x b7 in
    let (signal, signal_is, b9) = bind_some _ (maybe as_integer (codes "signal") t) x b8 in
    let (writers, writers_is, b10) = bind_some _ (maybe (array_of as_str) (codes "writers") t) x b9 in
    let writers_fit = maybe_fits m (array_of as_str) (codes "writers") t writers (array_fits n as_str (text_fits n)) writers_is in
    let first : AllByRecursion (MemberFits t m) (symbol_keys false) = (
      required_fits m as_str (codes "name") t name (text_fits m) name_is,
      (
        required_fits m as_str (codes "type") t type (text_fits m) type_is,
        (
          required_fits m as_str (codes "area") t area (text_fits m) area_is,
          (
            required_fits m as_integer (codes "offset") t offset (number_fits m) offset_is,
            (
              optional_fits m as_str [] (codes "comment") t comment (text_fits m) comment_is,
              (
                optional_fits m as_bool false (codes "persistent") t persistent (flag_fits m) persistent_is,
                (
                  optional_fits m as_bool false (codes "read_only") t read_only (flag_fits m) read_only_is,
                  (
                    maybe_fits m as_str (codes "initial") t initial (text_fits m) initial_is,
                    (maybe_fits m as_integer (codes "signal") t signal (number_fits m) signal_is, tt),
                  ),
                ),
              ),
            ),
          ),
        ),
      ),
    ) in
    table_fits m (symbol_keys second) t s all (both second first writers_fit)
  where
    both : (second : Bool) → AllByRecursion (MemberFits t (suc n)) (symbol_keys false)
        → MemberFits t (suc n) (codes "writers") → AllByRecursion (MemberFits t (suc n)) (symbol_keys second)
    both true first writers = (writers, first)
    both false first writers = first

port_fits : (second : Bool) (n : ℕ) (t : Members) (x : WrittenPort) → members_are_sorted t ≡ true → port_in second t ≡ Some x → TableFits (suc (suc (suc n))) t
port_fits second n t x s h =
    let m = suc (suc (suc n)) in
    let r = port_read second t x h in
    table_fits m port_keys t s r.keys (
      required_fits m as_integer (codes "port") t x.number (number_fits m) r.number,
      (
        required_fits m as_str (codes "name") t x.name (text_fits m) r.name,
        (
          required_fits m as_integer (codes "major") t x.major (number_fits m) r.major,
          (
            required_fits m as_integer (codes "minor") t x.minor (number_fits m) r.minor,
            (
              required_fits m as_integer (codes "build") t x.build (number_fits m) r.build,
              (
                optional_fits m as_integer (pos 0) (codes "inputs") t x.inputs (number_fits m) r.inputs,
                (
                  optional_fits m as_integer (pos 0) (codes "outputs") t x.outputs (number_fits m) r.outputs,
                  (
                    optional_fits m as_integer (pos 0) (codes "memory") t x.memory (number_fits m) r.memory,
                    (
                      optional_fits m as_integer (pos 0) (codes "data") t x.process (number_fits m) r.process,
                      (
                        optional_fits m (tables_of (symbol_in second)) [] (codes "symbol") t x.symbols
                            (tables_fit (suc n) (symbol_in second) (symbol_fits second n)) r.symbols,
                        tt,
                      ),
                    ),
                  ),
                ),
              ),
            ),
          ),
        ),
      ),
    )

-- the table of a document that a description may have
pub document_fits : (t : Members) (d : Document) → members_are_sorted t ≡ true → document_in t ≡ Some d → TableFits 5 t
document_fits t d s h =
    let r = document_read t d h in
    let second = is_two d.schema in
    table_fits 5 document_keys t s r.keys (
      required_fits 5 as_integer (codes "schema") t d.schema (number_fits 5) r.schema,
      (
        required_fits 5 as_str (codes "net") t d.net (text_fits 5) r.net,
        (
          optional_fits 5 (tables_of route_in) [] (codes "route") t d.routes (tables_fit 3 route_in (route_fits 3)) r.routes,
          (
            optional_fits 5 (tables_of (type_in second)) [] (codes "type") t d.types (tables_fit 3 (type_in second) (type_fits second 1)) r.types,
            (required_fits 5 (tables_of (port_in second)) (codes "port") t d.ports (tables_fit 3 (port_in second) (port_fits second 0)) r.ports, tt),
          ),
        ),
      ),
    )
