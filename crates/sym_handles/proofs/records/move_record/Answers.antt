-- The record that is lent is that of the key.
use Rattle.std.proofs.Common.{sym, ap, subst}
use Rattle.std.specs.Prelude.{Option, unwrap_or, None}
use Rattle.std.specs.Option.{ForSome}
use Rattle.symbol_table.specs.Moves.{IsInOldWorld}
use Rattle.sym_handles.specs.declared.records.Record.{Record}
use Rattle.sym_handles.proofs.records.move_record.Goals as goal

pub moved_place_of-record-requires : goal.moved_place_of-record-requires
moved_place_of-record-requires c =
    let same = ap (λ (o : Option Record). unwrap_or o (record { port = 0; place = None })) (sym c.in-Some.ensures.value) in
    subst (λ (r : Record). ForSome r.place (IsInOldWorld c.args.moves.now r.port)) same c.requires.in_range
