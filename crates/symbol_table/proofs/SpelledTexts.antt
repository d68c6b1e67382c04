-- Indexes in brackets, put one after another; and a name behind other bytes.
use Rattle.std.proofs.Common.{◌≡◌, ℕ, List, [], ◌∷◌, ◌++◌, map, refl, sym, ◌∙◌, ap, append_assoc, append-nil, drop, length}
use Rattle.std.specs.Prelude.{ℤ, Option, Some, None, find, option_and_then, option_map, slice_get}
use Rattle.name_paths.specs.Path.{Step}
use Rattle.name_paths.specs.Name.{identifiers_of}
use Rattle.spec_plant.specs.PartTexts.{name_behind, name_of_found, text_of_indexes, text_of_step, type_behind}
use Rattle.spec_plant.specs.Parts.{TypePart, part_of, part_behind}
use Rattle.spec_plant.specs.Spelling.{integer_text}
use Rattle.spec_plant.specs.Listed.{NamedType}
use Rattle.spec_plant.specs.Description.{Port}
use Rattle.spec_plant.specs.Trees.{TypeTree, tree_of}
use Rattle.spec_plant.specs.World.{PlantSymbol, plant_symbol}
use Rattle.std.proofs.lemmas.Option.{slice_get-map}
use Rattle.symbol_table.specs.Tables.{TableSymbol, SymbolTable, table_symbol, IsTableOf}
use Rattle.symbol_table.proofs.PlacesInOrder.{mapped_at}
use Rattle.spec_plant.specs.Finding.{Found, found_of_steps, found_in_symbol, is_named_by, steps_behind_name, whole_of}

pub row_text : (old : List ℕ) (i : ℤ) → (old ++ 91 ∷ integer_text i) ++ 93 ∷ [] ≡ old ++ text_of_indexes (i ∷ [])
row_text old i = simp (append_assoc, append-nil)

pub plane_text : (old : List ℕ) (i j : ℤ) → ((old ++ 91 ∷ integer_text i) ++ 44 ∷ integer_text j) ++ 93 ∷ [] ≡ old ++ text_of_indexes (i ∷ j ∷ [])
plane_text old i j = simp (append_assoc, append-nil)

pub space_text : (old : List ℕ) (i j k : ℤ)
    → (((old ++ 91 ∷ integer_text i) ++ 44 ∷ integer_text j) ++ 44 ∷ integer_text k) ++ 93 ∷ [] ≡ old ++ text_of_indexes (i ∷ j ∷ k ∷ [])
space_text old i j k =
    let ti = integer_text i in let tj = integer_text j in let tk = integer_text k in
    let last : (tk ++ []) ++ 93 ∷ [] ≡ tk ++ 93 ∷ [] = append_assoc tk [] (93 ∷ []) in
    let two : (tj ++ 44 ∷ (tk ++ [])) ++ 93 ∷ [] ≡ tj ++ 44 ∷ (tk ++ 93 ∷ []) = append_assoc tj (44 ∷ (tk ++ [])) (93 ∷ []) ∙ ap (λ t. tj ++ 44 ∷ t) last in
    let all : (ti ++ 44 ∷ (tj ++ 44 ∷ (tk ++ []))) ++ 93 ∷ [] ≡ ti ++ 44 ∷ (tj ++ 44 ∷ (tk ++ 93 ∷ []))
    = append_assoc ti (44 ∷ (tj ++ 44 ∷ (tk ++ []))) (93 ∷ []) ∙ ap (λ t. ti ++ 44 ∷ t) two in
    append_assoc ((old ++ 91 ∷ ti) ++ 44 ∷ tj) (44 ∷ tk) (93 ∷ [])
    ∙ append_assoc (old ++ 91 ∷ ti) (44 ∷ tj) (44 ∷ (tk ++ 93 ∷ []))
    ∙ append_assoc old (91 ∷ ti) (44 ∷ (tj ++ 44 ∷ (tk ++ 93 ∷ [])))
    ∙ ap (λ t. old ++ 91 ∷ t) (sym all)

-- one step more
pub name_behind-step : (name : List ℕ) (type : TypeTree) (step : Step) (rest steps : List Step) → steps ≡ step ∷ rest
    → name_behind name type steps ≡ name_behind (name ++ text_of_step type step) (type_behind type (part_of type step)) rest
unfolding name_behind
name_behind-step name type step rest steps e = rw e refl

pub name_behind-end : (name : List ℕ) (type : TypeTree) (steps : List Step) → steps ≡ [] → name ≡ name_behind name type steps
unfolding name_behind
name_behind-end name type steps e = rw e refl

-- the bytes before a name stay before it
pub name_behind-append : (old name : List ℕ) (type : TypeTree) (steps : List Step) → name_behind (old ++ name) type steps ≡ old ++ name_behind name type steps
unfolding name_behind
name_behind-append old name type [] = refl
name_behind-append old name type (step ∷ steps) =
    ap (λ text. name_behind text (type_behind type (part_of type step)) steps) (append_assoc old name (text_of_step type step))
    ∙ name_behind-append old (name ++ text_of_step type step) (type_behind type (part_of type step)) steps

-- the steps behind the name of the symbol to which a path leads
found_steps : (path : List Step) (s : PlantSymbol) (o : Option TypePart) (led : Found)
    → part_behind (whole_of s) (steps_behind_name path s) ≡ o → found_in_symbol path s ≡ Some led
    → led.steps ≡ drop (length (identifiers_of led.symbol.name)) path
found_steps path s None led e found = let none = rw e at found in cc none
found_steps path s (Some part) led e found =
    let is_it : Some (record { symbol = s; steps = steps_behind_name path s; part = part }) ≡ Some led = rw e at found in
    let same : record { symbol = s; steps = steps_behind_name path s; part = part } ≡ led = cc in
    ap (λ (f : Found). f.steps) (sym same) ∙ ap (λ (f : Found). drop (length (identifiers_of f.symbol.name)) path) same

pub led_steps : (symbols : List PlantSymbol) (path : List Step) (o : Option PlantSymbol) (led : Found)
    → find (is_named_by path) symbols ≡ o → found_of_steps symbols path ≡ Some led
    → led.steps ≡ drop (length (identifiers_of led.symbol.name)) path
led_steps symbols path None led e found = let none = rw e at found in cc none
led_steps symbols path (Some s) led e found = found_steps path s (part_behind (whole_of s) (steps_behind_name path s)) led refl (rw e at found)

-- the declared name of what a path leads to, by the symbol of the table
pub led_name : (types : List NamedType) (port : Port) (table : SymbolTable) (number : ℕ) (s : TableSymbol) (path : List Step) (led : Found)
    → IsTableOf types port table → slice_get table.symbols number ≡ Some s
    → found_of_steps (map (plant_symbol types) port.symbols) path ≡ Some led → slice_get (map (plant_symbol types) port.symbols) number ≡ Some led.symbol
    → name_of_found led ≡ name_behind s.name (tree_of types s.shape) (drop (length (identifiers_of s.name)) path)
led_name types port table number s path led is_of seen found there =
    let own = mapped_at (table_symbol types) port.symbols number s (ap (λ (t : SymbolTable). slice_get t.symbols number) (sym is_of.same) ∙ seen) in
    let both : Some led.symbol ≡ Some (plant_symbol types own.0) =
    sym there ∙ slice_get-map (plant_symbol types) port.symbols number ∙ ap (option_map (plant_symbol types)) own.1 in
    let same : led.symbol ≡ plant_symbol types own.0 = cc in
    let symbols = map (plant_symbol types) port.symbols in
    ap (name_behind led.symbol.name led.symbol.type) (led_steps symbols path (find (is_named_by path) symbols) led refl found)
    ∙ ap (λ (p : PlantSymbol). name_behind p.name p.type (drop (length (identifiers_of p.name)) path)) same
    ∙ ap (λ (t : TableSymbol). name_behind t.name (tree_of types t.shape) (drop (length (identifiers_of t.name)) path)) own.2
