use Rattle.std.proofs.Common.{◌∙◌}
use Rattle.description_table.proofs.KeyLemmas.{only_keys-members_view}
use Rattle.description_table.proofs.keys.only_keys.Goals as goal

pub returns : goal.returns
returns c = c.are_known.ensures ∙ only_keys-members_view c.args.known.now c.args.table.now.entries
