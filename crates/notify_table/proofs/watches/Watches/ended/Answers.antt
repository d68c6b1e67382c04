use Rattle.std.proofs.Common.{◌≡◌, List, sym, ap, ◌∙◌, subst, map, Some, IfOk}
use Rattle.std.specs.List.{All, filter}
use Rattle.std.proofs.lemmas.List.Elements.{All-filter}
use Rattle.std.proofs.lemmas.List.Sorted.{IsNonDecreasingBy-from_sort}
use Rattle.spec_machine.specs.WatchedRanges.{Watched}
use Rattle.spec_machine.specs.Watches.{Watch, ended_watches}
use Rattle.notify_table.specs.Table.{handle_of, watch_of_handle}
use Rattle.notify_table.specs.Reloads.{EndedWatch, is_ended, end_of, ended_meant, watched_after}
use Rattle.notify_table.specs.Numbered.{by_number, table_from, IsLive, end_of_handle}
use Rattle.notify_table.proofs.TableLemmas.{handles_sorted, live_listed, all_live, told_list}
use Rattle.notify_table.proofs.watches.Watches.ended.Goals as goal

pub told-requires : goal.told-requires
told-requires c =
    let ws : List (Watch Watched) = c.self.inside.schedule in
    let listed : List (Watch Watched) = by_number handle_of c.self.inside.granted ws in
    let order : c.deref.result.now ≡ map handle_of (filter (is_ended c.args.m.now c.args.ports.now) listed) =
    c.deref.ensures.value
    ∙ handles_sorted (is_ended c.args.m.now c.args.ports.now) ws c.self.inside.granted c.sort_unstable.new.self.items c.self.invariant
    (rw (← c.in_ok-handles.ensures) c.sort_unstable.ensures.permutation)
    (IsNonDecreasingBy-from_sort (λ x. x) c.sort_unstable.new.self.items c.sort_unstable.ensures.sorted) in
    let live = All-filter (is_ended c.args.m.now c.args.ports.now) (λ (w : Watch Watched). watch_of_handle w.handle (table_from ws c.self.inside.granted)
    ≡ Some w) listed
    (live_listed ws c.self.inside.granted c.self.invariant) in
    subst (All (IsLive c.args.self.now)) (sym order)
    (rw (← c.self.view_is) (all_live (table_from ws c.self.inside.granted) (filter (is_ended c.args.m.now c.args.ports.now) listed) live))

-- the handles in their order are those of the notifications that end, and each is told
pub returns : goal.returns
unfolding ended_watches
returns c =
    let ws : List (Watch Watched) = c.self.inside.schedule in
    let listed : List (Watch Watched) = by_number handle_of c.self.inside.granted ws in
    let order : c.deref.result.now ≡ map handle_of (filter (is_ended c.args.m.now c.args.ports.now) listed) =
    c.deref.ensures.value
    ∙ handles_sorted (is_ended c.args.m.now c.args.ports.now) ws c.self.inside.granted c.sort_unstable.new.self.items c.self.invariant
    (rw (← c.in_ok-handles.ensures) c.sort_unstable.ensures.permutation)
    (IsNonDecreasingBy-from_sort (λ x. x) c.sort_unstable.new.self.items c.sort_unstable.ensures.sorted) in
    let live = All-filter (is_ended c.args.m.now c.args.ports.now) (λ (w : Watch Watched). watch_of_handle w.handle (table_from ws c.self.inside.granted)
    ≡ Some w) listed
    (live_listed ws c.self.inside.granted c.self.invariant) in
    let told : map (end_of_handle c.args.self.now) c.deref.result.now ≡ map end_of
    (ended_watches (watched_after c.args.m.now c.args.ports.now) c.args.self.now.watches) =
    ap (map (end_of_handle c.args.self.now)) order
    ∙ rw (← c.self.view_is) (told_list (table_from ws c.self.inside.granted) (filter (is_ended c.args.m.now c.args.ports.now) listed) live) in
    subst (λ (l : List EndedWatch). IfOk c.told.result (λ ended. map ended_meant ended ≡ l)) told c.told.ensures
