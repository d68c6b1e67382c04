use Rattle.std.proofs.Common.{◌≡◌, ◌∷◌, [], ◌++◌, ap, ◌∙◌, rules}
use Rattle.toml.specs.Data.{push_item}
use Rattle.toml.specs.View.{items_view}
use Rattle.toml.specs.declared.value.Value.{Table}
use Rattle.toml.proofs.Views.{items_view-push, view-Table}
use Rattle.table_text.proofs.member.push_table.Goals as goal

pub returns : goal.returns
returns c =
    let v = Table c.args.inner in
    let pushed : c.push.new.self.items ≡ c.args.all.now.items ++ v ∷ [] = search rules in
    ap items_view pushed ∙ (items_view-push c.args.all.now.items v ∙ ap (push_item (items_view c.args.all.now.items)) (view-Table c.args.inner))
