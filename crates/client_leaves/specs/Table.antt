-- The types of an upload as they are kept, with their members.
use Rattle.std.specs.Prelude.{◌≡◌, List, map, Option, None, option_map, option_and_then, slice_get, IfSome}
use Rattle.std.specs.List.{All}
use Rattle.spec_plant.specs.TypeTexts.{ElemText, PlainText, StringText, NamedText, type_text_of}
use Rattle.spec_formats.specs.TypeEntry.{TypeEntry, TypeFields}
use Rattle.spec_client.specs.LeafTypes.{type_named}
use Rattle.type_layout.specs.ReadTexts.{elem_text_of, text_of}
use Rattle.type_upload.specs.Entry.{entry_meant}
use Rattle.client_leaves.specs.declared.table.FoundText.{FoundText}
use Rattle.client_leaves.specs.declared.table.Member.{Member}
use Rattle.client_leaves.specs.declared.table.ReadType.{ReadType}

abbrev pub member_kept : Member → TypeFields
member_kept m = (entry_meant m.entry).fields

abbrev pub type_kept : ReadType → TypeEntry
type_kept t = record { fields = (entry_meant t.entry).fields; subs = map member_kept t.members.items }

abbrev pub types_kept : List ReadType → List TypeEntry
types_kept ts = map type_kept ts

-- the type that an element names
abbrev pub type_meant : List TypeEntry → ElemText → Option TypeEntry
type_meant types (PlainText kind) = None
type_meant types (StringText n) = None
type_meant types (NamedText name) = type_named types name

-- the type that the text's element names stands at its place
abbrev pub IsFound : List TypeEntry → FoundText → Type 0
IsFound types f = option_and_then (λ k. slice_get types k) f.type_place ≡ type_meant types (elem_text_of f.text.elem)

-- a member's text is that of its sub entry, and its type is found
pub record IsMemberFound (types : List TypeEntry) (m : Member) : Type 0 where
  pub text : option_map (λ (f : FoundText). text_of f.text) m.text ≡ type_text_of m.entry.kind.now
  pub found : IfSome m.text (IsFound types)

abbrev pub AreFound : List TypeEntry → List Member → Type 0
AreFound types ms = All (IsMemberFound types) ms

-- the members of all types are found
abbrev pub IsTable : List ReadType → Type 0
IsTable ts = All (λ (t : ReadType). AreFound (types_kept ts) t.members.items) ts
