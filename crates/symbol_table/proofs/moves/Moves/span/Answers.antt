-- The bytes go with the entry of the symbol that has them all.
use Rattle.std.proofs.Common.{sym, ◌∙◌, ap, arith}
use Rattle.std.specs.Prelude.{option_map}
use Rattle.symbol_table.specs.Moves.{moved_span, bytes_in}
use Rattle.symbol_table.proofs.Indexed.{kept_bytes-parts}
use Rattle.symbol_table.proofs.moves.Moves.span.Goals as goal

pub returns-in_err-entry : goal.returns-in_err-entry
unfolding moved_span
returns-in_err-entry c = c.from_residual.ensures ∙ ap (option_map (bytes_in c.args.at)) c.in_err-entry.ensures.found

pub overflow_sub-result : goal.overflow_sub-result
overflow_sub-result c =
    let parts = kept_bytes-parts c.args.port c.args.area c.args.at c.args.len c.args.self.now c.in_ok-entry.entry (sym c.in_ok-entry.ensures.found) in
    parts.begins

pub overflow_add-result : goal.overflow_add-result
overflow_add-result c =
    let parts = kept_bytes-parts c.args.port c.args.area c.args.at c.args.len c.args.self.now c.in_ok-entry.entry (sym c.in_ok-entry.ensures.found) in
    let fits = c.in_ok-entry.ensures.fits in
    omega (arith, parts.begins, parts.ends, fits.length, fits.new_end)

pub returns : goal.returns
unfolding moved_span
returns c = ap (option_map (bytes_in c.args.at)) c.in_ok-entry.ensures.found
