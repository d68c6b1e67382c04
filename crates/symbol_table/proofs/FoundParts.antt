-- From the part of a symbol to its place.
use Rattle.std.proofs.Common.{◌≡◌, ℕ, ◌+◌, ◌≤◌, List, map, drop, length, refl, sym, ◌∙◌, ap, arith}
use Rattle.std.specs.Prelude.{Option, Some, None, slice_get, option_map, find}
use Rattle.name_paths.specs.Path.{Step}
use Rattle.name_paths.specs.Name.{identifiers_of}
use Rattle.spec_plant.specs.Listed.{NamedType}
use Rattle.spec_plant.specs.Description.{Symbol}
use Rattle.spec_plant.specs.Trees.{tree_of}
use Rattle.spec_plant.specs.Sizes.{type_size}
use Rattle.spec_plant.specs.Parts.{TypePart, part_behind}
use Rattle.spec_plant.specs.World.{plant_symbol}
use Rattle.spec_plant.specs.Finding.{is_named_by, found_of_steps, found_in_symbol, steps_behind_name, whole_of}
use Rattle.spec_plant.proofs.PartLemmas.{part_behind-end}
use Rattle.type_layout.specs.Shapes.{shape_of_ref}
use Rattle.type_layout.specs.Descriptions.{area_of}
use Rattle.std.proofs.lemmas.Option.{slice_get-map}
use Rattle.spec_plant.specs.PartTexts.{comment_behind}
use Rattle.symbol_table.specs.Tables.{TableSymbol, SymbolTable, table_symbol}
use Rattle.symbol_table.proofs.PlacedSymbols.{IsSoundSymbol}
use Rattle.symbol_table.specs.FoundParts.{part_in, IsSound, Tells, TellsPlace}
use Rattle.symbol_table.specs.FoundPlaces.{Finds}
use Rattle.symbol_table.specs.declared.parts.Part.{Part}
use Rattle.symbol_table.specs.declared.found.Found.{Found}

-- the part that is told
told : (types : List NamedType) (comment : List ℕ) (o : Option TypePart) (p : Part) → Tells types comment o (Some p) → o ≡ Some (part_in types p)
told types comment None p t = absurd t
told types comment (Some part) p t = ap Some (sym t.is)

-- a part that is told lies within its symbol
pub told_within : (types : List NamedType) (comment : List ℕ) (whole : TypePart) (steps : List Step) (p : Part)
    → whole.first ≡ 0 → Tells types comment (part_behind whole steps) (Some p) → p.first ≤ type_size whole.type
told_within types comment whole steps p none t =
    let ends = (part_behind-end whole steps (part_in types p) (told types comment (part_behind whole steps) p t)).1 in
    omega (arith, ends, none)

pub placed_none : (types : List NamedType) (s : TableSymbol) (number : ℕ) (comment : List ℕ) (o : Option TypePart)
    → Tells types comment o None → TellsPlace types s number comment o None
placed_none types s number comment None t = tt
placed_none types s number comment (Some part) t = absurd t

-- the place of a part that is told
pub placed_some : (types : List NamedType) (s : TableSymbol) (number : ℕ) (comment : List ℕ) (o : Option TypePart) (p : Part) (answer : Found)
    → Tells types comment o (Some p)
    → answer.place.symbol ≡ number → area_of answer.place.area ≡ s.area → answer.place.«at» ≡ s.offset + p.first
    → answer.place.len ≡ type_size (tree_of types (shape_of_ref p.kind))
    → shape_of_ref answer.kind ≡ shape_of_ref p.kind → answer.comment.now ≡ p.comment.now → TellsPlace types s number comment o (Some answer)
placed_some types s number comment None p answer t symbol area offset len kind said = absurd t
placed_some types s number comment (Some part) p answer t symbol area offset len kind said = record {
  symbol = symbol;
  area = area;
  offset = offset ∙ ap (λ (q : TypePart). s.offset + q.first) t.is;
  len = len ∙ ap (λ (q : TypePart). type_size q.type) t.is;
  type = ap (tree_of types) kind ∙ ap (λ (q : TypePart). q.type) t.is;
  sized = rw kind t.sound.sized;
  comment_is = said ∙ t.comment_is;
}

-- the whole symbol as a part
pub whole_sound : (types : List NamedType) (table : SymbolTable) (s : TableSymbol) (p : Part)
    → p.first ≡ 0 → shape_of_ref p.kind ≡ s.shape → IsSoundSymbol types table s → IsSound types p
whole_sound types table s p first shape sound =
    let few = sound.sized.few_bytes in
    record { sized = rw shape sound.sized; ends = rw (first, shape) (omega (arith, few)) }

-- what is told of the parts of the whole is told of those of the symbol
pub told_for : (types : List NamedType) (s : TableSymbol) (whole : Part) (steps : List Step) (result : Option Part)
    → whole.first ≡ 0 → shape_of_ref whole.kind ≡ s.shape → whole.comment.now ≡ s.comment
    → Tells types (comment_behind whole.comment.now (tree_of types (shape_of_ref whole.kind)) steps) (part_behind (part_in types whole) steps) result
    → Tells types (comment_behind s.comment (tree_of types s.shape) steps) (part_behind (record { first = 0; type = tree_of types s.shape }) steps) result
told_for types s whole steps result first shape comment t = rw (first, shape, comment) at t

-- the symbol that the path begins with, and the part behind its name
finds_part : (types : List NamedType) (symbols : List Symbol) (path : List Step) (number : ℕ) (s : Symbol) (o : Option TypePart) (result : Option Found)
    → slice_get symbols number ≡ Some s
    → part_behind (whole_of (plant_symbol types s)) (steps_behind_name path (plant_symbol types s)) ≡ o
    → TellsPlace types (table_symbol types s) number (comment_behind s.comment (tree_of types s.shape) (steps_behind_name path (plant_symbol types s))) o result
    → Finds types (map (plant_symbol types) symbols) (found_in_symbol path (plant_symbol types s)) result
finds_part types symbols path number s None None there e t = rw e tt
finds_part types symbols path number s None (Some answer) there e t = absurd t
finds_part types symbols path number s (Some part) None there e t = absurd t
finds_part types symbols path number s (Some part) (Some answer) there e t =
    let seen : slice_get (map (plant_symbol types) symbols) answer.place.symbol ≡ Some (plant_symbol types s)
    = ap (slice_get (map (plant_symbol types) symbols)) t.symbol
    ∙ slice_get-map (plant_symbol types) symbols number ∙ ap (option_map (plant_symbol types)) there in
    rw e (record { symbol = seen; area = t.area; offset = t.offset; len = t.len; type = t.type; sized = t.sized; comment = t.comment_is })

pub finds_in : (types : List NamedType) (symbols : List Symbol) (path : List Step) (number count : ℕ) (s : Symbol) (result : Option Found)
    → slice_get symbols number ≡ Some s → count ≡ length (identifiers_of s.name)
    → find (is_named_by path) (map (plant_symbol types) symbols) ≡ Some (plant_symbol types s)
    → TellsPlace types (table_symbol types s) number (comment_behind s.comment (tree_of types s.shape) (drop count path))
    (part_behind (record { first = 0; type = tree_of types s.shape }) (drop count path)) result
    → Finds types (map (plant_symbol types) symbols) (found_of_steps (map (plant_symbol types) symbols) path) result
finds_in types symbols path number count s result there counted named t =
    let told_there : TellsPlace types (table_symbol types s) number
    (comment_behind s.comment (tree_of types s.shape) (steps_behind_name path (plant_symbol types s)))
    (part_behind (whole_of (plant_symbol types s)) (steps_behind_name path (plant_symbol types s))) result
    = rw counted at t in
    rw named (finds_part types symbols path number s
    (part_behind (whole_of (plant_symbol types s)) (steps_behind_name path (plant_symbol types s))) result there refl told_there)
