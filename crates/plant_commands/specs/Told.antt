-- What is needed of a port to tell of it; no public clause cites this.
use Rattle.std.specs.Prelude.{◌≤◌, List, length, All}
use Rattle.spec_plant.specs.Listed.{NamedType}
use Rattle.spec_plant.specs.Entries.{upload_size}
use Rattle.spec_plant.specs.Accepted.{image_size, IMAGE_LIMIT}
use Rattle.type_layout.specs.Shapes.{shape_of}
use Rattle.type_layout.specs.Spelled.{NamesThere}
use Rattle.type_layout.specs.Descriptions.{sizes_of, symbols_of}
use Rattle.type_layout.specs.declared.port.PortDesc.{PortDesc}
use Rattle.type_layout.specs.declared.port.SymbolDesc.{SymbolDesc}

-- the types that its symbols name are there, and its numbers are not too large
pub record CanBeTold (types : List NamedType) (p : PortDesc) : Type 0 where
  pub names : All (λ (s : SymbolDesc). NamesThere types (shape_of s.kind)) p.symbols
  pub image : image_size (sizes_of p.sizes) ≤ IMAGE_LIMIT
  pub symbols : length p.symbols ≤ 10000
  pub upload : upload_size types (symbols_of p.symbols) ≤ 2000000
