-- One index needs one dimension.
use Rattle.std.proofs.Common.{◌∷◌, [], arith}
use Rattle.type_layout.proofs.Numbers.{no_number}
use Rattle.type_layout.proofs.parts.number_in_row.Goals as goal

pub returns-in_default-2 : goal.returns-in_default-2
returns-in_default-2 c =
    let long = c.in_default.len_at_least in
    no_number c.args.bounds.now (c.args.i ∷ []) (λ e. omega (arith, e, long))
