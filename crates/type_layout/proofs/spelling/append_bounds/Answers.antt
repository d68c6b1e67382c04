-- The first bound, and each further one behind a comma, are all bounds joined by commas.
use Rattle.std.proofs.Common.{◌≡◌, ◌<◌, ◌++◌, length, get_or, map, drop, take, ◌-◌, arith, sym, ◌∙◌, ap, append_assoc}
use Rattle.std.specs.Prelude.{flat_map, pos}
use Rattle.spec_plant.specs.Spelling.{bound_text, joined_by_comma}
use Rattle.type_layout.specs.Shapes.{bound_of, bounds_of}
use Rattle.type_layout.specs.Spelled.{comma_bound}
use Rattle.type_layout.proofs.Joined.{joined_bounds}
use Rattle.type_layout.proofs.spelling.append_bounds.Goals as goal

pub returns-clause-ok : goal.returns-clause-ok
returns-clause-ok c =
    let some : 0 < length c.args.bounds.now = omega (arith, c.in-len1-up.len_at_least) in
    let joined = joined_bounds c.args.bounds.now (record { low = pos 0; count = 0 }) some in
    let rest = flat_map comma_bound (take (length c.args.bounds.now - 1) (drop 1 c.args.bounds.now)) in
    let first = bound_text (bound_of (get_or c.args.bounds.now 0 (record { low = pos 0; count = 0 }))) in
    let whole : c.put_bound.new.out ++ rest ≡ c.args.out.now ++ joined_by_comma (map bound_text (bounds_of c.args.bounds.now))
    = ap (λ start. start ++ rest) c.in_ok-put_bound.ensures.ok ∙ append_assoc c.args.out.now first rest ∙ ap (λ text. c.args.out.now ++ text) (sym joined) in
    rw whole at c.append_more_bounds.ensures.ok
