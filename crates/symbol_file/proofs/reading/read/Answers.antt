use Rattle.std.proofs.Common.{None, option_map, sym, ap, ◌∙◌}
use Rattle.toml.specs.View.{table_view}
use Rattle.symbol_file.proofs.AnswerLemmas.{text_verdict-long, text_verdict-short, verdict-behind, accepted-behind}
use Rattle.symbol_file.proofs.reading.read.Goals as goal

pub returns-then-bytes-gt-MAX_TEXT-clause-verdict : goal.returns-then-bytes-gt-MAX_TEXT-clause-verdict
returns-then-bytes-gt-MAX_TEXT-clause-verdict c = text_verdict-long c.args.signals c.args.bytes.now c.if-bytes-gt-MAX_TEXT.true

pub returns-in-None-clause-verdict : goal.returns-in-None-clause-verdict
returns-in-None-clause-verdict c =
    text_verdict-short c.args.signals c.args.bytes.now None c.if-bytes-gt-MAX_TEXT.false
    (ap (option_map table_view) (sym c.in-None.is) ∙ c.in_ok-table_in.ensures)

pub returns-in-Some-clause-verdict : goal.returns-in-Some-clause-verdict
returns-in-Some-clause-verdict c =
    verdict-behind c.args.signals c.args.bytes.now (table_view c.in-Some.table) c.read_table.result c.if-bytes-gt-MAX_TEXT.false
    (ap (option_map table_view) (sym c.in-Some.is) ∙ c.in_ok-table_in.ensures) c.read_table.ensures

pub returns-in-Some-clause-accepted : goal.returns-in-Some-clause-accepted
returns-in-Some-clause-accepted c = accepted-behind c.args.signals (table_view c.in-Some.table) c.read_table.result c.read_table.ensures
