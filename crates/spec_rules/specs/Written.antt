-- A description as its document writes it: texts and numbers under their keys, and nothing decided about them.
use Rattle.std.specs.Prelude.{ℕ, List, [], Bool, Option, ℤ}
pub use Rattle.spec_plant.specs.Listed.{EnumValue}

-- `[[route]]`
pub record WrittenRoute : Type 0 where
  pub net : List ℕ
  pub rights : List ℕ

-- `[[type.member]]`
pub record WrittenMember : Type 0 where
  pub name : List ℕ
  pub type : List ℕ
  pub comment : List ℕ

-- `[[type]]`: a structure by name and members, or an enumeration by name, base and values, `[[type.value]]`
pub data WrittenType : Type 0 where
  WrittenStructure : List ℕ → List WrittenMember → WrittenType
  WrittenEnumeration : List ℕ → List ℕ → List EnumValue → WrittenType

-- `[[port.symbol]]`; an absent key is None where no value stands for it
pub record WrittenSymbol : Type 0 where
  pub name : List ℕ
  pub type : List ℕ
  pub area : List ℕ
  pub offset : ℤ
  pub comment : List ℕ
  pub persistent : Bool
  pub read_only : Bool
  pub initial : Option (List ℕ)
  pub signal : Option ℤ
  pub writers : Option (List (List ℕ))

-- `[[port]]`; `process` is the size under the key `data`
pub record WrittenPort : Type 0 where
  pub number : ℤ
  pub name : List ℕ
  pub major : ℤ
  pub minor : ℤ
  pub build : ℤ
  pub inputs : ℤ
  pub outputs : ℤ
  pub memory : ℤ
  pub process : ℤ
  pub symbols : List WrittenSymbol

-- the whole document
pub record Document : Type 0 where
  pub schema : ℤ
  pub net : List ℕ
  pub routes : List WrittenRoute
  pub types : List WrittenType
  pub ports : List WrittenPort

-- the name of a type
abbrev pub written_name : WrittenType → List ℕ
written_name (WrittenStructure name members) = name
written_name (WrittenEnumeration name base values) = name

-- the members of a type; an enumeration has none
abbrev pub written_members : WrittenType → List WrittenMember
written_members (WrittenStructure name members) = members
written_members (WrittenEnumeration name base values) = []
