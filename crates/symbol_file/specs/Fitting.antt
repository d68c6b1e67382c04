-- For private contracts, and cited by no public clause: what the rules say of a document's numbers and texts, so that
-- the values of a description can hold them.
use Rattle.std.specs.Prelude.{◌≡◌, ℕ, ◌^◌, ◌<◌, ◌≤◌, List, length, map, true, Some, is_some, IfSome}
use Rattle.std.specs.List.{All}
use Rattle.toml.specs.Data.{Members}
use Rattle.spec_plant.specs.Listed.{NamedType}
use Rattle.spec_plant.specs.Trees.{tree_of}
use Rattle.spec_plant.specs.Sizes.{type_size}
use Rattle.spec_plant.specs.AcceptedTypes.{is_small_shape}
use Rattle.spec_rules.specs.Nets.{net_of}
use Rattle.spec_rules.specs.Described.{natural_of, shape_described, types_described}
use Rattle.spec_rules.specs.Tables.{document_in}
use Rattle.description_table.specs.Views.{type_view, document_view}
use Rattle.description_table.specs.declared.written.WrittenSymbol.{WrittenSymbol}
use Rattle.description_table.specs.declared.written.WrittenPort.{WrittenPort}
use Rattle.description_table.specs.declared.written.Document.{Document}

-- the text of a NetId
abbrev pub IsNetText : List ℕ → Type 0
IsNetText text = is_some (net_of text) ≡ true

pub record SymbolFits (types : List NamedType) (s : WrittenSymbol) : Type 0 where
  pub small : is_small_shape (shape_described types s.kind.now) ≡ true
  pub size : type_size (tree_of types (shape_described types s.kind.now)) ≤ 1048576
  pub offset : natural_of s.offset < 2 ^ 32
  pub signal : IfSome s.signal (λ n. natural_of n < 2 ^ 32)
  pub writers : IfSome s.writers (λ v. All (λ t. IsNetText t.now) v.items)

-- version and name
pub record FactsFit (p : WrittenPort) : Type 0 where
  pub major : natural_of p.major < 2 ^ 8
  pub minor : natural_of p.minor < 2 ^ 8
  pub build : natural_of p.build < 2 ^ 16
  pub name : length p.name.now ≤ 16

pub record SizesFit (p : WrittenPort) : Type 0 where
  pub inputs : natural_of p.inputs < 2 ^ 32
  pub outputs : natural_of p.outputs < 2 ^ 32
  pub memory : natural_of p.memory < 2 ^ 32
  pub process : natural_of p.process < 2 ^ 32

pub record PortFits (types : List NamedType) (p : WrittenPort) : Type 0 where
  pub number : natural_of p.number < 2 ^ 16
  pub facts : FactsFit p
  pub sizes : SizesFit p
  pub symbols : All (SymbolFits types) p.symbols.items

pub record DocumentFits (d : Document) : Type 0 where
  pub net : IsNetText d.net.now
  pub routes : All (λ r. IsNetText r.net.now) d.routes.items
  pub ports : All (PortFits (types_described (map type_view d.types.items))) d.ports.items

-- a table says so
pub record IsWritten (d : Document) : Type 0 where
  pub table : Members
  pub is : document_in table ≡ Some (document_view d)
