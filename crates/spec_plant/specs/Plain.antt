-- The plain types: names, sizes, alignments and type ids. Topic: data types of symbols in ADS.
use Rattle.std.specs.Prelude.{ℕ, List, [], ◌∷◌, Bool, true, false, codes}

-- a plain type by its name
pub data Kind : Type 0 where
  BOOL : Kind
  SINT : Kind
  USINT : Kind
  BYTE : Kind
  INT : Kind
  UINT : Kind
  WORD : Kind
  DINT : Kind
  UDINT : Kind
  DWORD : Kind
  TIME : Kind
  LINT : Kind
  ULINT : Kind
  LWORD : Kind
  REAL : Kind
  LREAL : Kind

-- all of them
abbrev pub all_kinds : List Kind
all_kinds =
    BOOL ∷ SINT ∷ USINT ∷ BYTE ∷ INT ∷ UINT ∷ WORD ∷ DINT ∷ UDINT ∷ DWORD ∷ TIME ∷ LINT ∷ ULINT ∷ LWORD
    ∷ REAL ∷ LREAL ∷ []

-- its name
abbrev pub kind_name : Kind → List ℕ
kind_name BOOL = codes "BOOL"
kind_name SINT = codes "SINT"
kind_name USINT = codes "USINT"
kind_name BYTE = codes "BYTE"
kind_name INT = codes "INT"
kind_name UINT = codes "UINT"
kind_name WORD = codes "WORD"
kind_name DINT = codes "DINT"
kind_name UDINT = codes "UDINT"
kind_name DWORD = codes "DWORD"
kind_name TIME = codes "TIME"
kind_name LINT = codes "LINT"
kind_name ULINT = codes "ULINT"
kind_name LWORD = codes "LWORD"
kind_name REAL = codes "REAL"
kind_name LREAL = codes "LREAL"

-- its size in bytes
abbrev pub kind_size : Kind → ℕ
kind_size BOOL = 1
kind_size SINT = 1
kind_size USINT = 1
kind_size BYTE = 1
kind_size INT = 2
kind_size UINT = 2
kind_size WORD = 2
kind_size DINT = 4
kind_size UDINT = 4
kind_size DWORD = 4
kind_size TIME = 4
kind_size LINT = 8
kind_size ULINT = 8
kind_size LWORD = 8
kind_size REAL = 4
kind_size LREAL = 8

-- its alignment, which for a plain type is its size
abbrev pub kind_align : Kind → ℕ
kind_align k = kind_size k

-- its type id. That TIME has the id of UDINT is this project's own choice.
abbrev pub kind_id : Kind → ℕ
kind_id BOOL = 33
kind_id SINT = 16
kind_id USINT = 17
kind_id BYTE = 17
kind_id INT = 2
kind_id UINT = 18
kind_id WORD = 18
kind_id DINT = 3
kind_id UDINT = 19
kind_id DWORD = 19
kind_id TIME = 19
kind_id LINT = 20
kind_id ULINT = 21
kind_id LWORD = 21
kind_id REAL = 4
kind_id LREAL = 5

-- whether an enumeration may have it as its base
abbrev pub is_base : Kind → Bool
is_base SINT = true
is_base USINT = true
is_base INT = true
is_base UINT = true
is_base DINT = true
is_base UDINT = true
is_base LINT = true
is_base ULINT = true
is_base k = false

-- whether numbers of it may be below zero
abbrev pub is_signed : Kind → Bool
is_signed SINT = true
is_signed INT = true
is_signed DINT = true
is_signed LINT = true
is_signed k = false
