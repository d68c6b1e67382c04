-- The text of a description and its migration.
use Rattle.std.proofs.Common.{◌≡◌, ℕ, true, List, [], length, Option, Some, None, option_map, refl, sym, ap, subst, ◌∙◌, inl, inr}
use Rattle.std.specs.Prelude.{Ok, Err, Result, nat_lt, pos}
use Rattle.std.specs.Option.{option_map_or}
use Rattle.std.proofs.lemmas.Bool.{cases_Bool}
use Rattle.toml.specs.Data.{integer, Members, members_are_sorted}
use Rattle.spec_plant.specs.Description.{Description}
use Rattle.spec_rules.specs.Tables.{document_in}
use Rattle.spec_rules.specs.Verdict.{BrokenRule, table_verdict}
use Rattle.spec_rules.specs.TextVerdict.{Described, DESCRIPTION_LIMIT, text_verdict, document_of, verdict_of_rules, verdict_of_document}
use Rattle.table_text.specs.TableText.{document_text}
use Rattle.std.specs.Result.{result_err}
use Rattle.type_layout.specs.Descriptions.{description_of}
use Rattle.type_layout.specs.declared.description.Description as layout
use Rattle.symbol_file.specs.declared.fault.DescFault.{DescFault}
use Rattle.symbol_file.specs.Reading.{IsVerdict}
use Rattle.description_migration.specs.Faults.{IsFault}
use Rattle.description_migration.specs.Migration.{SCHEMA, second_schema, ChangesSchemaAlone, migrated_text, IsDocument, IsMigrated}
use Rattle.description_migration.proofs.MemberLemmas.{get_member-set, get_member-other}
use Rattle.description_migration.proofs.SecondLemmas.{under_second, document_up}
use Rattle.description_migration.proofs.VerdictLemmas.{table_verdict_up, document_there}
use Rattle.description_migration.proofs.PlainLemmas.{TableFits, document_fits}

-- a table that is described
record IsTable (signals : ℕ) (bytes : List ℕ) (d : Description) : Type 0 where
  members : Members
  is : document_of bytes ≡ Some members
  judged : table_verdict signals members ≡ Ok d

rules_ok : (r : Result Description BrokenRule) (d : Description) → verdict_of_rules r ≡ Described d → r ≡ Ok d
rules_ok (Ok x) d h = ap Ok (let same : x ≡ d = cc in same)
rules_ok (Err fault) d h = cc

document_ok : (signals : ℕ) (bytes : List ℕ) (o : Option Members) (d : Description)
    → document_of bytes ≡ o → verdict_of_document signals o ≡ Described d → IsTable signals bytes d
document_ok signals bytes None d is h = cc
document_ok signals bytes (Some t) d is h = record { members = t; is = is; judged = rules_ok (table_verdict signals t) d h }

described : (signals : ℕ) (bytes : List ℕ) (d : Description) → text_verdict signals bytes ≡ Described d → IsTable signals bytes d
unfolding text_verdict
described signals bytes d h =
    elim (cases_Bool (nat_lt DESCRIPTION_LIMIT (length bytes))) [
      | inl long ↦ let bad = rw long at h in cc
      | inr short ↦ document_ok signals bytes (document_of bytes) d refl (rw short at h)
    ]

-- the text of a description is a document
pub is_document : (signals : ℕ) (bytes : List ℕ) (d : Description) → text_verdict signals bytes ≡ Described d → IsDocument bytes
is_document signals bytes d h =
    let t = described signals bytes d h in
    let (document, written) = document_there signals t.members d t.judged in
    record { members = t.members; document = document; is = t.is; written = written }

-- a table that was made of a document's
made_of : (bytes : List ℕ) (new : Members) (h : IsDocument bytes) → Some new ≡ option_map second_schema (document_of bytes) → new ≡ second_schema h.members
made_of bytes new h made =
    let whole : Some new ≡ Some (second_schema h.members) = made ∙ ap (option_map second_schema) h.is in
    let same : new ≡ second_schema h.members = cc in
    same

-- it can be printed
pub second_fits : (bytes : List ℕ) (new : Members) (h : IsDocument bytes)
    → Some new ≡ option_map second_schema (document_of bytes) → members_are_sorted new ≡ true → TableFits 5 new
second_fits bytes new h made sorted =
    let written : document_in new ≡ Some (under_second h.document) = ap document_in (made_of bytes new h made) ∙ document_up h.members h.document h.written in
    document_fits new (under_second h.document) sorted written

-- and its text is the migrated one
pub text_made : (bytes text : List ℕ) (new : Members) (h : IsDocument bytes)
    → Some new ≡ option_map second_schema (document_of bytes) → text ≡ document_text new → text ≡ migrated_text bytes
unfolding migrated_text
text_made bytes text new h made is =
    is ∙ (ap document_text (made_of bytes new h made) ∙ sym (ap (λ o. option_map_or (λ m. document_text (second_schema m)) o []) h.is))

changes : (t : Members) → ChangesSchemaAlone t (second_schema t)
unfolding second_schema
changes t = record { schema = get_member-set SCHEMA (integer (pos 2)) t; others = λ key other. get_member-other key SCHEMA (integer (pos 2)) t other }

-- what was printed is the migration
pub is_migrated : (signals : ℕ) (bytes text : List ℕ) (d : Description) → text_verdict signals bytes ≡ Described d → text ≡ migrated_text bytes
    → document_of text ≡ option_map second_schema (document_of bytes) → IsMigrated signals bytes text
is_migrated signals bytes text d h text_is document =
    let t = described signals bytes d h in
    let there : document_of text ≡ Some (second_schema t.members) = document ∙ ap (option_map second_schema) t.is in
    record {
      description = d;
      read = h;
      old = t.members;
      new = second_schema t.members;
      was = t.is;
      is = there;
      changes = changes t.members;
      second = refl;
      same = ap (verdict_of_document signals) there ∙ ap verdict_of_rules (table_verdict_up signals t.members d t.judged);
      text_is = text_is;
    }

-- what was read is a description, or a fault
pub fault_seen : (signals : ℕ) (bytes : List ℕ) (answer : Result layout.Description DescFault) (fault : Option DescFault)
    → IsVerdict signals bytes answer → fault ≡ result_err answer → IsFault signals bytes fault
fault_seen signals bytes (Ok d) fault h is = let P : Option DescFault → Type 0 = λ f. IsFault signals bytes f in subst P (sym is) (description_of d, sym h)
fault_seen signals bytes (Err f) fault h is = let P : Option DescFault → Type 0 = λ g. IsFault signals bytes g in subst P (sym is) h
