-- Types as a description lists them: each named type names only earlier ones, by their places in the list.
use Rattle.std.specs.Prelude.{ℕ, List, ℤ, Bool, true, false}
use Rattle.spec_plant.specs.Plain.{Kind}

-- one dimension of an array: the least index, and how many there are
pub record Bound : Type 0 where
  pub low : ℤ
  pub count : ℕ

-- a plain type, a text of at most n bytes, or a structure or an enumeration by its place in the list
pub data Elem : Type 0 where
  Plain : Kind → Elem
  Text : ℕ → Elem
  Struct : ℕ → Elem
  Enum : ℕ → Elem

-- one element, or an array of one to three dimensions
pub data Shape : Type 0 where
  One : Elem → Shape
  Array : List Bound → Elem → Shape

-- a member of a structure
pub record Member : Type 0 where
  pub name : List ℕ
  pub shape : Shape
  pub comment : List ℕ

-- a named value of an enumeration
pub record EnumValue : Type 0 where
  pub name : List ℕ
  pub number : ℤ

-- a structure by its name and members, or an enumeration by its name, base and values
pub data NamedType : Type 0 where
  Structure : List ℕ → List Member → NamedType
  Enumeration : List ℕ → Kind → List EnumValue → NamedType

-- the name of a named type
abbrev pub type_name : NamedType → List ℕ
type_name (Structure name members) = name
type_name (Enumeration name base values) = name

abbrev pub is_structure : NamedType → Bool
is_structure (Structure name members) = true
is_structure (Enumeration name base values) = false

abbrev pub is_enumeration : NamedType → Bool
is_enumeration (Structure name members) = false
is_enumeration (Enumeration name base values) = true
