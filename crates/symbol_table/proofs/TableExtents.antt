-- The extents that a table keeps are those of the types that it was built with.
use Rattle.std.proofs.Common.{◌≡◌, List, ◌∙◌, ap}
use Rattle.spec_plant.specs.Listed.{NamedType}
use Rattle.type_layout.specs.Extents.{extents_of}
use Rattle.type_layout.specs.declared.extent.Extent.{Extent}
use Rattle.symbol_table.specs.Tables.{SymbolTable, IsTableWith}

pub extents_are : (types : List NamedType) (table : SymbolTable) (extents : List Extent)
    → extents ≡ table.extents → IsTableWith types table → extents ≡ extents_of types
extents_are types table extents same with_ = same ∙ ap (λ (t : SymbolTable). t.extents) with_.is_of.same
