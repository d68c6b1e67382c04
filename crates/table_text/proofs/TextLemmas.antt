-- The printed text of a plain table is the one that is defined.
use Rattle.std.proofs.Common.{◌≡◌, ℕ, ◌++◌, Bool, true, false, ◌&&◌, List, [], ◌∷◌, refl, inl, inr}
use Rattle.std.proofs.lemmas.Bool.{cases_Bool, and_parts}
use Rattle.toml_parser.specs.Strings.{Key}
use Rattle.toml.specs.Data.{Data, string, integer, float, boolean, datetime, array, table, Items, no_items, item, Members, no_members, member}
use Rattle.toml.specs.Tables.{Definition, key_value, std_table, array_table, Expression}
use Rattle.toml.specs.Text.{breaks_lines, IsValueText, IsItemsText, IsMembersText, IsLineText, IsLinesText}
use Rattle.toml.specs.Text.{IsDocumentText, is_section, are_tables, needs_header, pairs, sections, section}
use Rattle.toml.specs.Text.{elements, expressions}
use Rattle.table_text.specs.PlainTable.{is_plain, are_plain, is_plain_table}
use Rattle.table_text.specs.TableText.{value_text, items_text, members_text, line_text, lines_text, document_text}

breaks_none : (ds : Items) → breaks_lines false ds ≡ false
breaks_none no_items = refl
breaks_none (item d no_items) = refl
breaks_none (item d (item e ds)) = refl

mutual
  value_is : (d : Data) (text : List ℕ) → is_plain d ≡ true → IsValueText false d text → text ≡ value_text d
  value_is (string s) text p h = h
  value_is (integer z) text p h = h.0
  value_is (float x) text p h = cc
  value_is (boolean b) text p h = h
  value_is (datetime dt) text p h = cc
  value_is (array ds) text p h =
      let (rest, is, items) = h in
      let flat : IsItemsText false false true ds rest = rw (breaks_none ds) at items in
      rw (is, items_are ds true rest p flat) refl
  value_is (table ms) text p h =
      let (rest, is, members) = h in rw (is, members_are ms true rest p members) refl

  items_are : (ds : Items) (first : Bool) (text : List ℕ) → are_plain ds ≡ true → IsItemsText false false first ds text → text ≡ items_text first ds
  items_are no_items first text p h = h
  items_are (item d ds) first text p h =
      let (here, more) = and_parts (is_plain d) (are_plain ds) p in
      let (this, rest, is, value, others) = h in
      rw (is, value_is d this here value, items_are ds false rest more others) refl

  members_are : (ms : Members) (first : Bool) (text : List ℕ) → is_plain_table ms ≡ true → IsMembersText false first ms text → text ≡ members_text first ms
  members_are no_members first text p h = h
  members_are (member k d ms) first text p h =
      let (here, more) = and_parts (is_plain d) (is_plain_table ms) p in
      let (this, rest, is, value, others, before) = h in
      rw (is, value_is d this here value, members_are ms false rest more others) refl

-- the values of these lines are plain
abbrev is_plain_definition : Definition → Bool
is_plain_definition (key_value d) = is_plain d
is_plain_definition std_table = true
is_plain_definition array_table = true

abbrev are_plain_lines : List Expression → Bool
are_plain_lines [] = true
are_plain_lines (e ∷ es) = is_plain_definition e.1 && are_plain_lines es

line_is : (started : Bool) (key : Key) (d : Definition) (text : List ℕ)
    → is_plain_definition d ≡ true → IsLineText false started key d text → text ≡ line_text started key d
line_is started key (key_value d) text p h = let (this, is, value) = h in rw (is, value_is d this p value) refl
line_is started key std_table text p h = h
line_is started key array_table text p h = h

lines_are : (started : Bool) (es : List Expression) (text : List ℕ)
    → are_plain_lines es ≡ true → IsLinesText false started es text → text ≡ lines_text started es
lines_are started [] text p h = h
lines_are started (e ∷ es) text p h =
    let (here, more) = and_parts (is_plain_definition e.1) (are_plain_lines es) p in
    let (this, rest, is, line, others) = h in
    rw (is, line_is started e.0 e.1 this here line, lines_are true es rest more others) refl

plain_append : (es fs : List Expression) → are_plain_lines es ≡ true → are_plain_lines fs ≡ true → are_plain_lines (es ++ fs) ≡ true
plain_append [] fs a b = b
plain_append (e ∷ es) fs a b =
    let (here, more) = and_parts (is_plain_definition e.1) (are_plain_lines es) a in
    rw (here, plain_append es fs more b) refl

plain_pairs : (ms : Members) → is_plain_table ms ≡ true → are_plain_lines (pairs ms) ≡ true
plain_pairs no_members p = refl
plain_pairs (member k d ms) p =
    let (here, more) = and_parts (is_plain d) (is_plain_table ms) p in
    elim (cases_Bool (is_section d)) [
      | inl in_section ↦ rw in_section (plain_pairs ms more)
      | inr pair ↦ rw (pair, here, plain_pairs ms more) refl
    ]

mutual
  plain_sections : (ms : Members) (path : List (List ℕ)) → is_plain_table ms ≡ true → are_plain_lines (sections path ms) ≡ true
  plain_sections no_members path p = refl
  plain_sections (member k d ms) path p =
      let (here, more) = and_parts (is_plain d) (is_plain_table ms) p in
      plain_append (section (path, k) d) (sections path ms) (plain_section d path k here) (plain_sections ms path more)

  plain_section : (d : Data) (path : List (List ℕ)) (k : List ℕ) → is_plain d ≡ true → are_plain_lines (section (path, k) d) ≡ true
  plain_section (string x) path k p = refl
  plain_section (integer x) path k p = refl
  plain_section (float x) path k p = refl
  plain_section (boolean x) path k p = refl
  plain_section (datetime x) path k p = refl
  plain_section (array ds) path k p =
      elim (cases_Bool (are_tables ds)) [
        | inl all ↦ rw all (plain_elements ds path k p)
        | inr other ↦ rw other refl
      ]
  plain_section (table ms) path k p =
      let below = plain_append (pairs ms) (sections (path ++ k ∷ []) ms) (plain_pairs ms p) (plain_sections ms (path ++ k ∷ []) p) in
      elim (cases_Bool (needs_header ms)) [
        | inl needed ↦ rw needed below
        | inr none ↦ rw none below
      ]

  plain_elements : (ds : Items) (path : List (List ℕ)) (k : List ℕ) → are_plain ds ≡ true → are_plain_lines (elements (path, k) ds) ≡ true
  plain_elements no_items path k p = refl
  plain_elements (item (string x) ds) path k p = plain_elements ds path k p
  plain_elements (item (integer x) ds) path k p = plain_elements ds path k p
  plain_elements (item (float x) ds) path k p = plain_elements ds path k (and_parts false (are_plain ds) p).1
  plain_elements (item (boolean x) ds) path k p = plain_elements ds path k p
  plain_elements (item (datetime x) ds) path k p = plain_elements ds path k (and_parts false (are_plain ds) p).1
  plain_elements (item (array xs) ds) path k p = plain_elements ds path k (and_parts (are_plain xs) (are_plain ds) p).1
  plain_elements (item (table ms) ds) path k p =
      let (here, more) = and_parts (is_plain_table ms) (are_plain ds) p in
      plain_append (pairs ms ++ sections (path ++ k ∷ []) ms) (elements (path, k) ds)
      (plain_append (pairs ms) (sections (path ++ k ∷ []) ms) (plain_pairs ms here) (plain_sections ms (path ++ k ∷ []) here))
      (plain_elements ds path k more)

-- a printed document of a plain table
pub printed_is : (ms : Members) (text : List ℕ) → is_plain_table ms ≡ true → IsDocumentText false ms text → text ≡ document_text ms
unfolding document_text
printed_is ms text p h = lines_are false (expressions ms) text (plain_append (pairs ms) (sections [] ms) (plain_pairs ms p) (plain_sections ms [] p)) h
