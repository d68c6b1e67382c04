use Rattle.std.proofs.Common.{◌≡◌, true, [], ap, sym, ◌∙◌, map, rules, Some, option_map}
use Rattle.std.specs.Prelude.{codes, pos}
use Rattle.toml.specs.Data.{as_str, as_integer}
use Rattle.toml.specs.View.{table_view}
use Rattle.spec_rules.specs.Fields.{required, optional, only_keys, tables_of}
use Rattle.spec_rules.specs.Tables.{port_in, port_keys, symbol_in}
use Rattle.description_table.specs.Views.{symbol_view}
use Rattle.description_table.proofs.PartLemmas.{four_read, five_read}
use Rattle.description_table.proofs.ports.port_in.Goals as goal

pub returns : goal.returns
unfolding port_in
returns c =
    let t = table_view c.args.table.now in
    let keys : only_keys port_keys t ≡ true = sym c.only_keys.ensures ∙ c.if-not-only_keys.false in
    let f = c.in-Some.facts in
    let s = c.in-Some-sizes_in.sizes in
    let facts = five_read (required as_integer (codes "port") t) (required as_str (codes "name") t)
    (required as_integer (codes "major") t) (required as_integer (codes "minor") t)
    (required as_integer (codes "build") t) f.number f.name.now f.major f.minor f.build c.in-Some.ensures in
    let sizes = four_read (optional as_integer (pos 0) (codes "inputs") t)
    (optional as_integer (pos 0) (codes "outputs") t) (optional as_integer (pos 0) (codes "memory") t)
    (optional as_integer (pos 0) (codes "data") t) s.inputs s.outputs s.memory s.process c.in-Some-sizes_in.ensures in
    let symbols : optional (tables_of (symbol_in c.args.second)) [] (codes "symbol") t ≡ Some (map symbol_view c.in-Some-2.symbols.items) =
    sym (ap (option_map (λ v. map symbol_view v.items)) (sym c.in-Some-2.is) ∙ c.in_ok-symbols.ensures) in
    rw (keys, facts.0, facts.1, facts.2, facts.3, facts.4, sizes.0, sizes.1, sizes.2, sizes.3, symbols) (search rules)
