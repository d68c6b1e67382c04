-- What the bytes of a file are to a reader of descriptions.
use Rattle.std.specs.Prelude.{ℕ, List, length, nat_lt, Option, Some, None, Result, Ok, Err, if◌then◌else◌}
use Rattle.std.specs.Str.{is_utf8}
use Rattle.toml.specs.Data.{Members}
use Rattle.toml.specs.Parse.{parse_document}
use Rattle.spec_plant.specs.Description.{Description}
use Rattle.spec_rules.specs.Verdict.{BrokenRule, table_verdict}

-- a description; the least broken rule, and in it the least item; or no TOML document
pub data TextVerdict : Type 0 where
  Described : Description → TextVerdict
  Breaks : ℕ → ℕ → TextVerdict
  NoDocument : TextVerdict

-- the most bytes that a description may have
abbrev pub DESCRIPTION_LIMIT : ℕ
DESCRIPTION_LIMIT = 16777216

abbrev pub verdict_of_rules : Result Description BrokenRule → TextVerdict
verdict_of_rules (Ok description) = Described description
verdict_of_rules (Err fault) = Breaks fault.number fault.item

abbrev pub verdict_of_document : ℕ → Option Members → TextVerdict
verdict_of_document signals None = NoDocument
verdict_of_document signals (Some table) = verdict_of_rules (table_verdict signals table)

-- bytes that are not UTF-8 are no TOML document
abbrev pub document_of : List ℕ → Option Members
document_of text = if is_utf8 text then parse_document text else None

-- rule 1 is looked at before the text is read as TOML
unfoldable pub text_verdict : ℕ → List ℕ → TextVerdict
text_verdict signals text =
    if nat_lt DESCRIPTION_LIMIT (length text) then Breaks 1 0 else verdict_of_document signals (document_of text)
