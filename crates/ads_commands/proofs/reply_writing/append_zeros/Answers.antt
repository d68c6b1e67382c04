use Rattle.std.proofs.Common.{◌++◌, ℕ, List, ap, ◌∙◌}
use Rattle.std.proofs.lemmas.List.{take-replicate}
use Rattle.ads_commands.proofs.reply_writing.append_zeros.Goals as goal

pub returns-clause-ok : goal.returns-clause-ok
returns-clause-ok c =
    c.in_ok-put.ensures.ok ∙ ap (λ (l : List ℕ). c.args.out.now ++ l) (take-replicate c.args.n 20 0 c.requires)
