-- Three indexes need three dimensions, and their number is below the number of elements.
use Rattle.std.proofs.Common.{◌≡◌, ◌∷◌, [], length, arith}
use Rattle.std.specs.Prelude.{pos}
use Rattle.std.proofs.lemmas.Int.{to_z-of_z}
use Rattle.type_layout.proofs.Numbers.{no_number, space_fits, space_number}
use Rattle.type_layout.proofs.parts.number_in_space.Goals as goal

pub returns-in_default : goal.returns-in_default
returns-in_default c =
    let short = c.in_default.len_below in
    no_number c.args.bounds.now (c.args.i ∷ c.args.j ∷ c.args.k ∷ []) (λ e. omega (arith, e, short))

pub returns-in_default-2 : goal.returns-in_default-2
returns-in_default-2 c =
    let long = c.in_default.len_at_least in
    no_number c.args.bounds.now (c.args.i ∷ c.args.j ∷ c.args.k ∷ []) (λ e. omega (arith, e, long))

pub overflow_add-result : goal.overflow_add-result
overflow_add-result c =
    let three : length c.args.bounds.now ≡ 3 = omega (arith, c.in-len3.len_at_least, c.in-len3.len_below) in
    let fits = space_fits c.args.bounds.now (record { low = pos 0; count = 0 }) c.in_ok-layer.layer c.in_ok-row.row c.in_ok-column.column three c.requires
    c.in_ok-layer.ensures.below c.in_ok-row.ensures.below c.in_ok-column.ensures.below in
    let row = fits.row in
    omega (arith, row)

pub overflow_mul-result-2 : goal.overflow_mul-result-2
overflow_mul-result-2 c =
    let three : length c.args.bounds.now ≡ 3 = omega (arith, c.in-len3.len_at_least, c.in-len3.len_below) in
    let fits = space_fits c.args.bounds.now (record { low = pos 0; count = 0 }) c.in_ok-layer.layer c.in_ok-row.row c.in_ok-column.column three c.requires
    c.in_ok-layer.ensures.below c.in_ok-row.ensures.below c.in_ok-column.ensures.below in
    let space = fits.space in
    omega (arith, space)

pub overflow_add-result-2 : goal.overflow_add-result-2
overflow_add-result-2 c =
    let three : length c.args.bounds.now ≡ 3 = omega (arith, c.in-len3.len_at_least, c.in-len3.len_below) in
    let fits = space_fits c.args.bounds.now (record { low = pos 0; count = 0 }) c.in_ok-layer.layer c.in_ok-row.row c.in_ok-column.column three c.requires
    c.in_ok-layer.ensures.below c.in_ok-row.ensures.below c.in_ok-column.ensures.below in
    let space = fits.space in
    omega (arith, space)

pub returns : goal.returns
returns c =
    let three : length c.args.bounds.now ≡ 3 = omega (arith, c.in-len3.len_at_least, c.in-len3.len_below) in
    let i = c.ranges.i in
    let j = c.ranges.j in
    let k = c.ranges.k in
    space_number c.args.bounds.now (record { low = pos 0; count = 0 }) c.args.i c.args.j c.args.k c.in_ok-layer.layer c.in_ok-row.row c.in_ok-column.column
    three (simp to_z-of_z at c.in_ok-layer.ensures.number) (simp to_z-of_z at c.in_ok-row.ensures.number) (simp to_z-of_z at c.in_ok-column.ensures.number)

pub overflow_mul-result : goal.overflow_mul-result
overflow_mul-result c =
    let three : length c.args.bounds.now ≡ 3 = omega (arith, c.in-len3.len_at_least, c.in-len3.len_below) in
    let fits = space_fits c.args.bounds.now (record { low = pos 0; count = 0 }) c.in_ok-layer.layer c.in_ok-row.row c.in_ok-column.column three c.requires
    c.in_ok-layer.ensures.below c.in_ok-row.ensures.below c.in_ok-column.ensures.below in
    let row = fits.row in
    omega (arith, row)
