use Rattle.std.proofs.Common.{◌≡◌, [], map, take, unwrap_or}
use Rattle.spec_rules.specs.Nets.{net_of}
use Rattle.type_layout.specs.Descriptions.{nets_of}
use Rattle.description_table.specs.Views.{text_view}
use Rattle.symbol_file.proofs.nets.nets_of.Given as goal

-- the NetIds before this one are built
abbrev pub invariant-loop-text : goal.invariant-loop-text
invariant-loop-text l = nets_of l.built ≡ map (λ text. unwrap_or (net_of text) []) (map text_view (take l.text-index l.texts))
