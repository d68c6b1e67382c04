-- A plain table has no date that can't be written; the document of a text.
use Rattle.std.proofs.Common.{◌≡◌, ℕ, List, Some, true, refl}
use Rattle.std.specs.Str.{IsUtf8}
use Rattle.std.proofs.lemmas.Str.{is_utf8-from_IsUtf8}
use Rattle.toml.specs.Parse.{parse_document}
use Rattle.spec_rules.specs.TextVerdict.{document_of}
use Rattle.std.proofs.lemmas.Bool.{and_parts}
use Rattle.toml.specs.Data.{Data, string, integer, float, boolean, datetime, array, table, Items, no_items}
use Rattle.toml.specs.Data.{item, Members, no_members, member, has_valid_dates, items_have_valid_dates}
use Rattle.toml.specs.Data.{members_have_valid_dates}
use Rattle.table_text.specs.PlainTable.{is_plain, are_plain, is_plain_table}

mutual
  valid_value : (d : Data) → is_plain d ≡ true → has_valid_dates d ≡ true
  valid_value (string s) p = refl
  valid_value (integer z) p = refl
  valid_value (float x) p = refl
  valid_value (boolean b) p = refl
  valid_value (datetime dt) p = cc
  valid_value (array ds) p = valid_items ds p
  valid_value (table ms) p = valid_table ms p

  valid_items : (ds : Items) → are_plain ds ≡ true → items_have_valid_dates ds ≡ true
  valid_items no_items p = refl
  valid_items (item d ds) p =
      let (here, more) = and_parts (is_plain d) (are_plain ds) p in
      rw (valid_value d here, valid_items ds more) refl

  pub valid_table : (ms : Members) → is_plain_table ms ≡ true → members_have_valid_dates ms ≡ true
  valid_table no_members p = refl
  valid_table (member k d ms) p =
      let (here, more) = and_parts (is_plain d) (is_plain_table ms) p in
      rw (valid_value d here, valid_table ms more) refl

-- the document that bytes are
pub document_of-some : (bytes : List ℕ) (ms : Members) → IsUtf8 bytes → parse_document bytes ≡ Some ms → document_of bytes ≡ Some ms
document_of-some bytes ms utf8 parsed =
    let t = is_utf8-from_IsUtf8 bytes utf8 in
    rw (t, parsed) refl
