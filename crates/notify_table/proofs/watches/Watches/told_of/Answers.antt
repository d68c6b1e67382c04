use Rattle.std.proofs.Common.{◌≡◌, sym, ◌∙◌, subst, IsSome, None}
use Rattle.std.proofs.lemmas.Bool.{false≢true}
use Rattle.notify_table.specs.Table.{watch_of_handle}
use Rattle.notify_table.proofs.TableLemmas.{found, missing}
use Rattle.notify_table.proofs.watches.Watches.told_of.Goals as goal

pub unreachable-requires : goal.unreachable-requires
unreachable-requires c =
    let dead : watch_of_handle c.args.handle c.args.self.now ≡ None =
    rw (← c.self.view_is) (missing c.self.inside.schedule c.self.inside.granted c.args.handle (sym c.find.ensures ∙ c.in-None.is)) in
    false≢true (subst IsSome dead c.requires)

pub returns : goal.returns
returns c =
    let f = found c.self.inside.schedule c.self.inside.granted c.args.handle c.in-Some.at c.self.invariant (sym c.in-Some.ensures) in
    rw (← c.self.view_is, f.live) c.ended.ensures
