use Rattle.std.proofs.Common.{◌≡◌, ◌+◌, ◌∙◌, List, sym, ap, subst, arith}
use Rattle.std.specs.Prelude.{None, map, option_map, slice_get}
use Rattle.std.specs.List.{HoldsAt}
use Rattle.std.specs.Borrow.{Bor}
use Rattle.spec_samples.specs.Rows.{row_numbered}
use Rattle.sample_store.specs.declared.row.Row as code
use Rattle.sample_store.specs.MapKeeper.{HeldRows}
use Rattle.sample_store.specs.Views.{row_kept}
use Rattle.sample_store.proofs.NumberLemmas.{numbered-below, numbered-at, row_looked_up}
use Rattle.sample_store.proofs.map_keeper.MapKeeper.row.Goals as goal

pub returns-in-None : goal.returns-in-None
returns-in-None c =
    let none = c.in-None.ensures in
    subst (λ (v : HeldRows). None ≡ row_numbered c.args.number v.rows) c.self.view_is
    (sym (numbered-below c.args.number 1 (map row_kept c.self.inside.rows.items) c.self.invariant (omega (arith, none))))

pub returns-in-Some : goal.returns-in-Some
returns-in-Some c =
    let rows = c.self.inside.rows.items in
    let at = c.in-Some.at in
    let seen = c.as_slice.result.now in
    let found = row_looked_up seen at (λ (x : Bor code.Row). HoldsAt (λ y. x.now ≡ y) seen at) c.get.result (c.get.ensures.lookup.3) (c.get.ensures.lookup.1) in
    let one = c.in-Some.ensures in
    let least = one.0 in
    let less = one.1 in
    let same : 1 + at ≡ c.args.number = omega (arith, least, less) in
    subst (λ (v : HeldRows). option_map (λ (x : Bor code.Row). row_kept x.now) c.get.result ≡ row_numbered c.args.number v.rows) c.self.view_is
    (found ∙ ap (λ (xs : List code.Row). option_map row_kept (slice_get xs at)) c.as_slice.ensures.value
    ∙ numbered-at at 1 rows c.self.invariant ∙ ap (λ n. row_numbered n (map row_kept rows)) same)
