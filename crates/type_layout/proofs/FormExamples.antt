-- Forms of types, computed.
use Rattle.std.specs.Prelude.{◌≡◌, refl, List, [], ◌∷◌, codes, pos, negsuc}
use Rattle.std.specs.Fmt.{digits}
use Rattle.spec_plant.specs.Plain.{BOOL, DINT, INT, USINT}
use Rattle.spec_plant.specs.Listed.{Plain, Text, Struct, Enum, One, Array, NamedType, Structure, Enumeration}
use Rattle.spec_plant.specs.Trees.{tree_of, trees_of, trees_behind}
use Rattle.type_layout.specs.Forms.{form_of}

-- `Axis` with `active` BOOL, `pos` DINT and `label` STRING(5); `Mode` of USINT; and `Cell` with both
abbrev types : List NamedType
types =
    Structure (codes "Axis") (
    record { name = codes "active"; shape = One (Plain BOOL); comment = [] }
    ∷ record { name = codes "pos"; shape = One (Plain DINT); comment = codes "mm" }
    ∷ record { name = codes "LABEL"; shape = One (Text 5); comment = [] } ∷ [])
    ∷ Enumeration (codes "Mode") USINT (record { name = codes "Off"; number = pos 0 } ∷ [])
    ∷ Structure (codes "Cell") (
    record { name = codes "axes"; shape = Array (record { low = pos 1; count = 3 } ∷ []) (Struct 0); comment = [] }
    ∷ record { name = codes "mode"; shape = One (Enum 1); comment = [] } ∷ [])
    ∷ []

plain_form : form_of (tree_of types (One (Plain INT))) ≡ codes "int"
unfolding form_of trees_of trees_behind
plain_form = refl

text_form : form_of (tree_of types (One (Text 80))) ≡ codes "string(80)"
unfolding form_of trees_of trees_behind digits
text_form = refl

-- comments are no part of a form, and names are in lower case
structure_form : form_of (tree_of types (One (Struct 0))) ≡ codes "axis{active:bool;pos:dint;label:string(5);}"
unfolding form_of trees_of trees_behind digits
structure_form = refl

enumeration_form : form_of (tree_of types (One (Enum 1))) ≡ codes "mode(usint)"
unfolding form_of trees_of trees_behind
enumeration_form = refl

nested_form : form_of (tree_of types (One (Struct 2))) ≡ codes "cell{axes:array [1..3] of axis{active:bool;pos:dint;label:string(5);};mode:mode(usint);}"
unfolding form_of trees_of trees_behind digits
nested_form = refl

array_form : form_of (tree_of types (Array (record { low = negsuc 1; count = 4 } ∷ record { low = pos 0; count = 10 } ∷ []) (Enum 1)))
    ≡ codes "array [-2..1,0..9] of mode(usint)"
unfolding form_of trees_of trees_behind digits
array_form = refl
