use Rattle.std.proofs.Common.{◌≡◌, true, Some, sym, ap, ◌∙◌}
use Rattle.std.specs.Prelude.{string_bytes}
use Rattle.std.specs.Str.{IsUtf8}
use Rattle.core.proofs.str.Laws.{IsUtf8-had}
use Rattle.toml.specs.View.{table_view}
use Rattle.spec_rules.specs.TextVerdict.{document_of}
use Rattle.table_text.proofs.TextLemmas.{printed_is}
use Rattle.table_text.proofs.PlainLemmas.{valid_table, document_of-some}
use Rattle.table_text.proofs.text.text_of_table.Goals as goal

pub unreachable-requires : goal.unreachable-requires
unreachable-requires c =
    let valid = valid_table (table_view c.args.table.now) c.requires.plain in
    let bad = c.table_to_string.ensures.dates.0 (c.in-Err-DateInvalid.is ∙ ap Rattle.std.proofs.Common.Err c.in-Err-DateInvalid.field-0-is) in
    cc

pub returns-in-Ok-clause-text : goal.returns-in-Ok-clause-text
returns-in-Ok-clause-text c =
    c.from_vec.ensures ∙ (ap (λ v. v.items) c.into_bytes.ensures.value
    ∙ printed_is (table_view c.args.table.now) (string_bytes c.in-Ok.text) c.requires.plain c.in-Ok.ensures.text)

pub returns-in-Ok-clause-reads_back : goal.returns-in-Ok-clause-reads_back
returns-in-Ok-clause-reads_back c =
    let same = c.from_vec.ensures ∙ ap (λ v. v.items) c.into_bytes.ensures.value in
    let utf8 : IsUtf8 (string_bytes c.in-Ok.text) = IsUtf8-had _ c.in-Ok.text.ok in
    ap document_of same ∙ document_of-some (string_bytes c.in-Ok.text) (table_view c.args.table.now) utf8
    (c.in-Ok.ensures.reads_back c.requires.shallow)
