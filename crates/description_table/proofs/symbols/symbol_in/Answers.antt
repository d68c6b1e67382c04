use Rattle.std.proofs.Common.{◌≡◌, true, false, [], ap, sym, ◌∙◌, map, rules, Some, option_map}
use Rattle.std.specs.Prelude.{codes}
use Rattle.toml.specs.Data.{as_str, as_integer, as_bool}
use Rattle.toml.specs.View.{table_view}
use Rattle.spec_rules.specs.Fields.{required, optional, maybe, only_keys, array_of}
use Rattle.spec_rules.specs.Tables.{symbol_in, symbol_keys}
use Rattle.description_table.specs.Views.{text_view}
use Rattle.description_table.proofs.PartLemmas.{three_read, four_read}
use Rattle.description_table.proofs.symbols.symbol_in.Goals as goal

pub returns : goal.returns
unfolding symbol_in
returns c =
    let t = table_view c.args.table.now in
    let keys : only_keys (symbol_keys c.args.second) t ≡ true = sym c.are_symbol_keys.ensures ∙ c.if-not-are_symbol_keys.false in
    let p = c.in-Some.place in
    let f = c.in-Some-flags_in.flags in
    let place = four_read (required as_str (codes "name") t) (required as_str (codes "type") t)
    (required as_str (codes "area") t) (required as_integer (codes "offset") t)
    p.name.now p.kind.now p.area.now p.offset c.in-Some.ensures in
    let flags = three_read (optional as_str [] (codes "comment") t)
    (optional as_bool false (codes "persistent") t) (optional as_bool false (codes "read_only") t)
    f.comment.now f.persistent f.read_only c.in-Some-flags_in.ensures in
    let writers : maybe (array_of as_str) (codes "writers") t ≡ Some (option_map (λ v. map text_view v.items) c.in-Some-2.writers) =
    sym (ap (option_map (option_map (λ v. map text_view v.items))) (sym c.in-Some-2.is) ∙ c.in_ok-writers.ensures) in
    rw (keys, place.0, place.1, place.2, place.3, flags.0, flags.1, flags.2, ← c.in-Some-maybe_text.ensures, ← c.in-Some-maybe_integer.ensures, writers)
    (search rules)
