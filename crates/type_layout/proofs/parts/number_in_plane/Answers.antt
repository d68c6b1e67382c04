-- Two indexes need two dimensions, and their number is below the number of elements.
use Rattle.std.proofs.Common.{◌≡◌, ◌∷◌, [], length, arith}
use Rattle.std.specs.Prelude.{pos}
use Rattle.std.proofs.lemmas.Int.{to_z-of_z}
use Rattle.type_layout.proofs.Numbers.{no_number, plane_fits, plane_number}
use Rattle.type_layout.proofs.parts.number_in_plane.Goals as goal

pub returns-in_default : goal.returns-in_default
returns-in_default c =
    let short = c.in_default.len_below in
    no_number c.args.bounds.now (c.args.i ∷ c.args.j ∷ []) (λ e. omega (arith, e, short))

pub returns-in_default-2 : goal.returns-in_default-2
returns-in_default-2 c =
    let long = c.in_default.len_at_least in
    no_number c.args.bounds.now (c.args.i ∷ c.args.j ∷ []) (λ e. omega (arith, e, long))

pub overflow_add-result : goal.overflow_add-result
overflow_add-result c =
    let two : length c.args.bounds.now ≡ 2 = omega (arith, c.in-len2.len_at_least, c.in-len2.len_below) in
    let fits = plane_fits c.args.bounds.now (record { low = pos 0; count = 0 }) c.in_ok-row.row
    c.in_ok-column.column two c.requires c.in_ok-row.ensures.below c.in_ok-column.ensures.below in
    omega (arith, fits)

pub overflow_mul-result : goal.overflow_mul-result
overflow_mul-result c =
    let two : length c.args.bounds.now ≡ 2 = omega (arith, c.in-len2.len_at_least, c.in-len2.len_below) in
    let fits = plane_fits c.args.bounds.now (record { low = pos 0; count = 0 }) c.in_ok-row.row
    c.in_ok-column.column two c.requires c.in_ok-row.ensures.below c.in_ok-column.ensures.below in
    omega (arith, fits)

pub returns : goal.returns
returns c =
    let two : length c.args.bounds.now ≡ 2 = omega (arith, c.in-len2.len_at_least, c.in-len2.len_below) in
    let i = c.ranges.i in
    let j = c.ranges.j in
    plane_number c.args.bounds.now (record { low = pos 0; count = 0 }) c.args.i c.args.j c.in_ok-row.row c.in_ok-column.column
    two (simp to_z-of_z at c.in_ok-row.ensures.number) (simp to_z-of_z at c.in_ok-column.ensures.number)
