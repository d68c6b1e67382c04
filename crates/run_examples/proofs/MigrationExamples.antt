-- A description under schema 2, by computation.
use Rattle.std.specs.Prelude.{◌≡◌, refl, ℕ, List, [], ◌∷◌, codes, pos, Option, Some, None, true, false, Bool, bytes_eq, ◌==◌}
use Rattle.std.specs.Ordering.{is_eq, match_ordering, nat_cmp}
use Rattle.std.specs.Cmp.Lexicographic.{slice_cmp}
use Rattle.std.proofs.Common.{Ordering, Less, Equal, Greater, ◌∙◌, ap, sym}
use Rattle.std.proofs.lemmas.Bool.{false≢true}
use Rattle.std.specs.Fmt.{digits}
use Rattle.std.specs.Str.{chars, is_utf8}
use Rattle.toml_writer.specs.Text.{encoding_of, escaped, key_text, needs_escape, string_text}
use Rattle.toml.proofs.OnLiterals.{toml_on_literals}
use Rattle.toml.specs.Data.{Data, Members, array, integer, item, member, no_items, no_members, string, table}
use Rattle.ads_outside.specs.declared.named_file.NamedFile.{NamedFile}
use Rattle.ads_outside.specs.SinkState.{SinkState}
use Rattle.table_text.specs.TableText.{document_text}
use Rattle.description_migration.specs.Migration.{ChangesSchemaAlone, IsMigrated, SCHEMA, migrated_text, second_schema}
use Rattle.plant_commands.specs.Migrated.{HasMigrated}
use Rattle.run_tasks.specs.declared.file_task.FileTask.TheVariants as file_task
use Rattle.run_tasks.specs.declared.status.Status.TheVariants as status
use Rattle.run_tasks.specs.declared.task.Task.TheVariants as task

-- a table with a list of tables in it
abbrev old : Members
old = member (codes "net") (string (codes "5.1.2.3.1.1"))
    (member (codes "route") (array (item (table (member (codes "net") (string (codes "1.1.1.1.1.1")) no_members)) no_items))
    (member (codes "schema") (integer (pos 1)) no_members))

abbrev new : Members
new = member (codes "net") (string (codes "5.1.2.3.1.1"))
    (member (codes "route") (array (item (table (member (codes "net") (string (codes "1.1.1.1.1.1")) no_members)) no_items))
    (member (codes "schema") (integer (pos 2)) no_members))

record MigrationRows : Type 0 where
  -- the schema is 2, and nothing else changed
  second : second_schema old ≡ new
  -- where there was none it is put at its place
  put : second_schema (member (codes "net") (integer (pos 1)) (member (codes "type") (integer (pos 1)) no_members))
      ≡ member (codes "net") (integer (pos 1)) (member (codes "schema") (integer (pos 2)) (member (codes "type") (integer (pos 1)) no_members))
  -- pairs in the order of their keys, and behind an empty line each table of a list under its header
  printed : document_text new ≡ codes "net = \"5.1.2.3.1.1\"\nschema = 2\n\n[[route]]\nnet = \"1.1.1.1.1.1\"\n"
  -- from text to text: comments, spaces and the order of the keys are not kept
  migrated : migrated_text (codes "schema = 1 # the first\nnet=\"5.1.2.3.1.1\"\n[[route]]\nnet = '1.1.1.1.1.1'\n")
      ≡ codes "net = \"5.1.2.3.1.1\"\nschema = 2\n\n[[route]]\nnet = \"1.1.1.1.1.1\"\n"
  no_document : migrated_text (codes "schema = = 1") ≡ []

migration_rows : MigrationRows
unfolding second_schema migrated_text document_text toml_on_literals is_utf8 chars key_text string_text encoding_of escaped needs_escape digits
migration_rows = record { second = refl; put = refl; printed = refl; migrated = refl; no_document = refl }

-- `schema` is 2, and whatever stands at another key stays
other_key : (o : Ordering) → is_eq o ≡ false
    → match_ordering o None (Some (integer (pos 2))) None ≡ match_ordering o None (Some (integer (pos 1))) None
other_key Less e = refl
other_key Equal e = absurd (false≢true (sym e))
other_key Greater e = refl

abbrev after : (key name : List ℕ) → Data → Option Data → Option Data
after key name d found = match_ordering (slice_cmp nat_cmp key name) found (Some d) found

changes : ChangesSchemaAlone old new
changes = record {
  schema = refl;
  others = λ key e. ap (λ found. after key (codes "net") (string (codes "5.1.2.3.1.1")) (after key (codes "route")
      (array (item (table (member (codes "net") (string (codes "1.1.1.1.1.1")) no_members)) no_items)) found)) (other_key (slice_cmp nat_cmp key SCHEMA) e);
}

abbrev is_net : Option Data → Bool
is_net (Some (string [])) = false
is_net d = true

abbrev is_second : Option Data → Bool
is_second (Some (integer (pos n))) = n == 2
is_second d = false

schema_stays : ChangesSchemaAlone old old → ⊥
schema_stays c = false≢true (ap is_second c.schema)

another_changes : ChangesSchemaAlone old (member (codes "net") (string []) (member (codes "schema") (integer (pos 2)) no_members)) → ⊥
another_changes c = false≢true (ap (λ o. is_net o) (c.others (codes "net") refl))

-- a text that is not the migration of a description's text is not told as one
abbrev small : List ℕ
small = codes "schema = 1\n"

wrong_text : IsMigrated 0 small (codes "schema = 1\n") → ⊥
unfolding second_schema migrated_text document_text toml_on_literals is_utf8 chars key_text string_text encoding_of escaped needs_escape digits
wrong_text m = false≢true (ap (λ l. bytes_eq l (codes "schema = 2\n")) m.text_is)

abbrev files : List NamedFile
files = record { name = codes "p"; bytes = small } ∷ []

abbrev sink : List ℕ → SinkState
sink held = record { held = Some held; faults = 0; wants = 0 }

abbrev bytes_in : Option (List ℕ) → List ℕ
bytes_in None = []
bytes_in (Some bytes) = bytes

wrong_print : HasMigrated 0 (Some (task.OfFiles (file_task.Migrate (codes "p")))) status.Done (Some files) (sink []) (sink (codes "schema = 1\n")) → ⊥
unfolding second_schema migrated_text document_text toml_on_literals is_utf8 chars key_text string_text encoding_of escaped needs_escape digits
wrong_print m =
    let printed : codes "schema = 1\n" ≡ m.text = ap bytes_in m.put in
    let of_file : codes "schema = 2\n" ≡ migrated_text m.is.bytes = ap (λ o. migrated_text (bytes_in o)) m.is.were in
    false≢true (ap (λ l. bytes_eq l (codes "schema = 2\n")) (printed ∙ m.is.is.text_is ∙ sym of_file))

no_migration : HasMigrated 0 None status.Usage None (sink []) (sink [])
no_migration = tt
