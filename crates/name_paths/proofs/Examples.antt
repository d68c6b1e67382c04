-- Worked examples of the definitions, by computation.
use Rattle.std.proofs.Common.{◌≡◌, true, false, refl, [], ◌∷◌, Some, None, pos, negsuc}
use Rattle.std.specs.Prelude.{codes}
use Rattle.name_paths.specs.Identifier.{is_identifier, lower}
use Rattle.name_paths.specs.Name.{is_symbol_name, identifiers_of}
use Rattle.name_paths.specs.Number.{number_of}
use Rattle.name_paths.specs.Path.{steps_of, first_names, name_step, index_step}

identifier : is_identifier (codes "_Pos9") ≡ true
identifier = refl

digit_first : is_identifier (codes "9Pos") ≡ false
digit_first = refl

lower_case : lower (codes "Main_9Z") ≡ codes "main_9z"
lower_case = refl

symbol_name : is_symbol_name (codes "Main.axis") ≡ true
symbol_name = refl

symbol_name_parts : identifiers_of (codes "Main.axis") ≡ codes "Main" ∷ codes "axis" ∷ []
symbol_name_parts = refl

two_full_stops : is_symbol_name (codes "Main..axis") ≡ false
two_full_stops = refl

no_symbol_name : is_symbol_name (codes "") ≡ false
no_symbol_name = refl

numbers : number_of (codes "2147483647") ≡ Some (pos 2147483647)
numbers = refl

least_number : number_of (codes "-2147483648") ≡ Some (negsuc 2147483647)
least_number = refl

too_great : number_of (codes "2147483648") ≡ None
too_great = refl

minus_zero : number_of (codes "-0") ≡ None
minus_zero = refl

superfluous_zero : number_of (codes "01") ≡ None
superfluous_zero = refl

plus_sign : number_of (codes "+1") ≡ None
plus_sign = refl

path : steps_of (codes "Main.axis[2].pos") ≡ Some (name_step (codes "Main") ∷ name_step (codes "axis") ∷ index_step (pos 2 ∷ []) ∷ name_step (codes "pos") ∷ [])
path = refl

three_indexes : steps_of (codes "a[0,-1,7]") ≡ Some (name_step (codes "a") ∷ index_step (pos 0 ∷ negsuc 0 ∷ pos 7 ∷ []) ∷ [])
three_indexes = refl

four_indexes : steps_of (codes "a[0,0,0,0]") ≡ None
four_indexes = refl

no_index : steps_of (codes "a[]") ≡ None
no_index = refl

open_bracket : steps_of (codes "a[1") ≡ None
open_bracket = refl

byte_behind_bracket : steps_of (codes "a[1]b") ≡ None
byte_behind_bracket = refl

index_first : steps_of (codes "[1]") ≡ None
index_first = refl

full_stop_last : steps_of (codes "a.") ≡ None
full_stop_last = refl

space : steps_of (codes "a[1, 2]") ≡ None
space = refl

empty_path : steps_of [] ≡ None
empty_path = refl

names_at_the_front : first_names (name_step (codes "Main") ∷ name_step (codes "axis") ∷ index_step (pos 2 ∷ []) ∷ []) ≡ codes "Main" ∷ codes "axis" ∷ []
names_at_the_front = refl
