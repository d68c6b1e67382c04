-- The fields of a TOML table: a key's value, where it is of its kind. Description rule 2.
use Rattle.std.specs.Prelude.{ℕ, List, [], ◌∷◌, Bool, true, ◌&&◌, Option, Some, None, option_map, option_and_then, bytes_eq, if◌then◌else◌}
use Rattle.std.specs.List.{list_any}
use Rattle.toml.specs.Data.{Data, Items, no_items, item, Members, no_members, member, get_member, as_array, as_table}

infixl 10 ◌>>=◌
abbrev pub ◌>>=◌ : {A B : Type 0} → Option A → (A → Option B) → Option B
o >>= f = option_and_then f o

-- each key of the table is one of these
abbrev pub only_keys : List (List ℕ) → Members → Bool
only_keys keys no_members = true
only_keys keys (member key value others) = list_any (bytes_eq key) keys && only_keys keys others

-- a value of a kind that must be there
abbrev pub required : {X : Type 0} → (Data → Option X) → List ℕ → Members → Option X
required kind key table = option_and_then kind (get_member key table)

-- a value of a kind, or what stands for it where the key is absent
abbrev pub or_absent : {X : Type 0} → (Data → Option X) → X → Option Data → Option X
or_absent kind absent None = Some absent
or_absent kind absent (Some value) = kind value

abbrev pub optional : {X : Type 0} → (Data → Option X) → X → List ℕ → Members → Option X
optional kind absent key table = or_absent kind absent (get_member key table)

-- a value of a kind, or None where the key is absent
abbrev pub maybe : {X : Type 0} → (Data → Option X) → List ℕ → Members → Option (Option X)
maybe kind key table = optional (λ value. option_map Some (kind value)) None key table

-- items of a kind, in their order
abbrev pub items_in : {X : Type 0} → (Data → Option X) → Items → Option (List X)
items_in kind no_items = Some []
items_in kind (item value others) =
    option_and_then (λ x. option_map (λ xs. x ∷ xs) (items_in kind others)) (kind value)

-- an array of items of a kind
abbrev pub array_of : {X : Type 0} → (Data → Option X) → Data → Option (List X)
array_of kind value = option_and_then (items_in kind) (as_array value)

-- a table that is read as an X
abbrev pub table_of : {X : Type 0} → (Members → Option X) → Data → Option X
table_of read value = option_and_then read (as_table value)

-- an array of tables
abbrev pub tables_of : {X : Type 0} → (Members → Option X) → Data → Option (List X)
tables_of read = array_of (table_of read)

-- a value, where a test holds
abbrev pub if_so : {X : Type 0} → Bool → Option X → Option X
if_so test value = if test then value else None
