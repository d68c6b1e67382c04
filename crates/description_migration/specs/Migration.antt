-- A description under schema 2: the document's table with `schema` 2 and no other change, and the text of it.
use Rattle.std.specs.Prelude.{◌≡◌, ℕ, List, [], codes, pos, Some, false}
use Rattle.std.specs.Option.{option_map_or}
use Rattle.std.specs.Ordering.{nat_cmp, is_eq}
use Rattle.std.specs.Cmp.Lexicographic.{slice_cmp}
use Rattle.toml.specs.Data.{integer, Members, get_member}
use Rattle.spec_plant.specs.Description.{Description}
use Rattle.spec_rules.specs.Written.{Document}
use Rattle.spec_rules.specs.Tables.{document_in}
use Rattle.spec_rules.specs.TextVerdict.{Described, text_verdict, document_of, verdict_of_document}
use Rattle.table_text.specs.SetMember.{set_member}
use Rattle.table_text.specs.TableText.{document_text}

-- the key
abbrev pub SCHEMA : List ℕ
SCHEMA = codes "schema"

-- the table under schema 2
unfoldable pub second_schema : Members → Members
second_schema t = set_member SCHEMA (integer (pos 2)) t

-- `schema` is 2, and every other key has what it had
pub record ChangesSchemaAlone (old new : Members) : Type 0 where
  pub schema : get_member SCHEMA new ≡ Some (integer (pos 2))
  pub others : (key : List ℕ) → is_eq (slice_cmp nat_cmp key SCHEMA) ≡ false → get_member key new ≡ get_member key old

-- the text of a document under schema 2
unfoldable pub migrated_text : List ℕ → List ℕ
migrated_text bytes = option_map_or (λ t. document_text (second_schema t)) (document_of bytes) []

-- the bytes are a document in which each table has its keys
pub record IsDocument (bytes : List ℕ) : Type 0 where
  pub members : Members
  pub document : Document
  pub is : document_of bytes ≡ Some members
  pub written : document_in members ≡ Some document

-- a text is the migration of the text of a description: it is a document whose table is the other's under schema 2, and
-- rules 2 to 15 say the same of both
pub record IsMigrated (signals : ℕ) (bytes text : List ℕ) : Type 0 where
  pub description : Description
  pub read : text_verdict signals bytes ≡ Described description
  pub old : Members
  pub new : Members
  pub was : document_of bytes ≡ Some old
  pub is : document_of text ≡ Some new
  pub changes : ChangesSchemaAlone old new
  pub second : new ≡ second_schema old
  pub same : verdict_of_document signals (document_of text) ≡ Described description
  pub text_is : text ≡ migrated_text bytes
