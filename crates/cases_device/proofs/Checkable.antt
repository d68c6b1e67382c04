-- A notification that is due may be checked with as many bytes as it watches.
use Rattle.std.proofs.Common.{◌≡◌, ℕ, true, false, nat_eq, List, length, Option, Some, None, option_map, IsSomeAnd, IsTrue, sym, ap, ◌∙◌}
use Rattle.std.specs.List.{list_any}
use Rattle.std.specs.Option.{option_map_or}
use Rattle.std.proofs.lemmas.Bool.{eqb-true, false≢true}
use Rattle.spec_machine.specs.WatchedRanges.{Watched}
use Rattle.spec_machine.specs.Watches.{Watch, is_due}
use Rattle.notify_table.specs.declared.spec.Spec.{Spec}
use Rattle.notify_table.specs.Specs.{watched_meant, new_watch, before_checks}
use Rattle.notify_table.specs.Table.{WatchTable, IsTable, due_handles, watch_of_handle, watched_len}
use Rattle.notify_table.proofs.CallerLemmas.{due_is_live}

pub checkable : (now handle count : ℕ) (t : WatchTable) (spec : Option Spec) → IsTable t
    → list_any (λ h. nat_eq h handle) (due_handles now t) ≡ true
    → option_map (new_watch handle) spec ≡ option_map before_checks (watch_of_handle handle t)
    → option_map_or (λ (s : Spec). nat_eq (watched_len (watched_meant s.watched)) count) spec false ≡ true
    → IsSomeAnd (watch_of_handle handle t) (λ (w : Watch Watched). IsTrue (is_due now w) × (count ≡ watched_len w.watched))
checkable now handle count t spec table listed asked same_len =
    by_watch (watch_of_handle handle t) spec (due_is_live now handle t table listed) asked same_len
  where
    by_watch : (o : Option (Watch Watched)) (s : Option Spec) → IsSomeAnd o (λ (w : Watch Watched). IsTrue (is_due now w))
        → option_map (new_watch handle) s ≡ option_map before_checks o
        → option_map_or (λ (s : Spec). nat_eq (watched_len (watched_meant s.watched)) count) s false ≡ true
        → IsSomeAnd o (λ (w : Watch Watched). IsTrue (is_due now w) × (count ≡ watched_len w.watched))
    by_watch None s dead same len = dead
    by_watch (Some w) None due same len = absurd (false≢true len)
    by_watch (Some w) (Some s) due same len =
        let e : new_watch handle s ≡ before_checks w = cc in
        let watched : watched_meant s.watched ≡ w.watched = ap (λ (v : Watch Watched). v.watched) e in
        (due, sym (eqb-true _ _ len) ∙ ap watched_len watched)
