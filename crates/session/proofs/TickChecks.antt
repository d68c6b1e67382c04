-- The checks of a tick, one after another.
use Rattle.std.proofs.Common.{◌≡◌, ℕ, zero, suc, ◌+◌, ◌<◌, ◌≤◌, Bool, true, false, List, [], ◌∷◌, ◌++◌, length}
use Rattle.std.proofs.Common.{map, take, get_or, refl, sym, ap, subst, ◌∙◌, arith}
use Rattle.std.proofs.Common.{Option, Some, None, option_map, IsTrue, IsSomeAnd, IfSome, OnOk, Result, Ok, Err, inl, inr, nat_eq}
use Rattle.std.specs.List.{All, find, filter, flat_map, list_any}
use Rattle.std.specs.List.Sorted.{IsStrictlyIncreasing}
use Rattle.std.proofs.lemmas.Bool.{cases_Bool, cases_eq, eq-eqb, ne_eqb, or_right}
use Rattle.std.proofs.lemmas.Grind.{flat_map-append}
use Rattle.std.proofs.lemmas.List.{append-nil, length-map, get_or-map, take_more}
use Rattle.std.proofs.lemmas.List.Elements.{All-head, All-tail, All-nil, All-cons, All-weaker, All-map, All-filter}
use Rattle.std.proofs.lemmas.List.Sums.{fold-append, length-filter, count_by-le-length}
use Rattle.spec_plant.specs.Named.{port_numbered}
use Rattle.spec_plant.specs.World.{PlantPort}
use Rattle.spec_machine.specs.WatchedRanges.{Watched, Own}
use Rattle.spec_machine.specs.Watches.{Watch, AddressedSample, is_due, is_sent, samples_of, addressed_sample}
use Rattle.spec_machine.specs.World.{World}
use Rattle.notify_table.specs.declared.spec.Spec.{Spec}
use Rattle.notify_table.specs.Specs.{watched_meant, new_watch, before_checks, address_of}
use Rattle.notify_table.specs.Table.{WatchTable, IsTable, watched_len, watch_of_handle, is_numbered, table_after, Checked}
use Rattle.notify_table.specs.Table.{handle_of, due_handles}
use Rattle.notify_table.specs.Rounds.{RoundState, round_after}
use Rattle.notify_table.proofs.CallerLemmas.{due_is_live, rises_tail, above_first}
use Rattle.notify_table.proofs.TickLemmas.{checked_among, checked_none, checked_one_more, found_among, checked_all, not_before}
use Rattle.port_device.specs.Holds.{HoldsPorts}
use Rattle.port_device.specs.PortMemory.{PortsMemory}
use Rattle.session.specs.Checks.{bytes_found, IsInFound, found_in, samples_for, samples_among, samples_found, table_checked, IsInPort, IsReadable, AreReadable}
use Rattle.session.specs.Checks.{IsCheck, AreChecked, IsNextRound}
use Rattle.session.specs.NoteGroups.{GroupText, groups_with, groups_after, grouped_text, addressed}

-- what holds of each holds of the one that is found
pub find_holds : {X : Type 0} (P : X → Type 0) (p : X → Bool) (xs : List X) → All P xs → IfSome (find p xs) P
find_holds P p [] all = tt
find_holds P p (x ∷ xs) all =
    elim (cases_Bool (p x)) [
      | inl here ↦ rw here (All-head P x xs all)
      | inr other ↦ rw other (find_holds P p xs (All-tail P x xs all))
    ]

-- ---- one check

-- the notification that was added as this watches at most 2,048 bytes
pub spec_is_short : (handle : ℕ) (t : WatchTable) (s : Spec) → IsTable t
    → Some (new_watch handle s) ≡ option_map before_checks (watch_of_handle handle t) → watched_len (watched_meant s.watched) ≤ 2048
spec_is_short handle t s table asked =
    by_watch (watch_of_handle handle t)
    (find_holds (λ (v : Watch Watched). (0 < watched_len v.watched) × (watched_len v.watched ≤ 2048)) (is_numbered handle) t.watches table.watched) asked
  where
    by_watch : (o : Option (Watch Watched)) → IfSome o (λ (v : Watch Watched). (0 < watched_len v.watched) × (watched_len v.watched ≤ 2048))
        → Some (new_watch handle s) ≡ option_map before_checks o → watched_len (watched_meant s.watched) ≤ 2048
    by_watch None few same = absurd cc
    by_watch (Some v) few same =
        let e : new_watch handle s ≡ before_checks v = cc in
        let watched : watched_meant s.watched ≡ v.watched = ap (λ (u : Watch Watched). u.watched) e in
        rw watched few.1

-- the same of one that is found
pub found_is_short : (handle : ℕ) (t : WatchTable) (s : Spec) → IsTable t
    → IsSomeAnd (watch_of_handle handle t) (λ v. new_watch handle s ≡ before_checks v) → watched_len (watched_meant s.watched) ≤ 2048
found_is_short handle t s table is = spec_is_short handle t s table (by_watch (watch_of_handle handle t) is)
  where
    by_watch : (o : Option (Watch Watched)) → IsSomeAnd o (λ v. new_watch handle s ≡ before_checks v)
        → Some (new_watch handle s) ≡ option_map before_checks o
    by_watch None e = absurd e
    by_watch (Some v) e = ap (λ (u : Watch Watched). let o : Option (Watch Watched) = Some u in o) e

-- one check more of a round
pub next_made : (bytes : List ℕ) (old new : RoundState) → new ≡ round_after bytes old → IsNextRound old new
next_made bytes old new is = record {
  handles = ap (λ (r : RoundState). r.handles) is;
  moment = ap (λ (r : RoundState). r.moment) is;
  made = ap (λ (r : RoundState). r.made) is;
}

-- what was added as this can be read
pub spec_is_readable : (ports : PortsMemory) (now handle : ℕ) (t : WatchTable) (s : Spec)
    → IsSomeAnd (watch_of_handle handle t) (λ v. new_watch handle s ≡ before_checks v)
    → IsSomeAnd (watch_of_handle handle t) (λ v. IsTrue (is_due now v) × IsReadable ports v.port v.watched)
    → IsReadable ports s.port (watched_meant s.watched)
spec_is_readable ports now handle t s is due = by_watch (watch_of_handle handle t) is due
  where
    by_watch : (o : Option (Watch Watched)) → IsSomeAnd o (λ v. new_watch handle s ≡ before_checks v)
        → IsSomeAnd o (λ v. IsTrue (is_due now v) × IsReadable ports v.port v.watched) → IsReadable ports s.port (watched_meant s.watched)
    by_watch None e d = absurd e
    by_watch (Some v) e d =
        let port : s.port ≡ v.port = ap (λ (u : Watch Watched). u.port) e in
        let watched : watched_meant s.watched ≡ v.watched = ap (λ (u : Watch Watched). u.watched) e in
        rw (port, watched) d.1

-- so much of the port's own bytes stands there
pub own_is_within : (ports : PortsMemory) (port first len : ℕ) → IsReadable ports port (Own first len) → first + len ≤ 5
own_is_within ports port first len readable = by_port (port_numbered port readable.world.plant.ports) readable.within
  where
    by_port : (o : Option PlantPort) → IsInFound o (Own first len) → first + len ≤ 5
    by_port None within = absurd within
    by_port (Some p) within = within

-- the sample that a check sends, if it sends one
abbrev pub sample_where : Bool → Spec → ℕ → List ℕ → List AddressedSample
sample_where true s handle bytes = addressed s.port (address_of s.to) handle bytes ∷ []
sample_where false s handle bytes = []

-- a check of the notification that was added as this
pub check_is : (w : World) (now handle : ℕ) (old new : WatchTable) (before after : List GroupText) (s : Spec) (bytes : List ℕ) (sent : Bool)
    → IsSomeAnd (watch_of_handle handle old) (λ v. new_watch handle s ≡ before_checks v)
    → IsSomeAnd (watch_of_handle handle old) (λ v. IsTrue (is_due now v))
    → bytes ≡ bytes_found w (port_numbered s.port w.plant.ports) (watched_meant s.watched)
    → IfSome (watch_of_handle handle old) (λ v. sent ≡ is_sent bytes v)
    → new ≡ table_after old (Checked handle now bytes)
    → after ≡ groups_after before (sample_where sent s handle bytes)
    → IsCheck w now handle old before new after
check_is w now handle old new before after s bytes sent is due found sends table groups = record {
  watches = by_watch (watch_of_handle handle old) is;
  groups = groups ∙ ap (groups_after before) (by_sample (watch_of_handle handle old) is due sends);
}
  where
    found_is : (v : Watch Watched) → new_watch handle s ≡ before_checks v → bytes ≡ found_in w v
    found_is v e =
        let port : s.port ≡ v.port = ap (λ (u : Watch Watched). u.port) e in
        let watched : watched_meant s.watched ≡ v.watched = ap (λ (u : Watch Watched). u.watched) e in
        found ∙ (ap (λ n. bytes_found w (port_numbered n w.plant.ports) (watched_meant s.watched)) port
        ∙ ap (λ r. bytes_found w (port_numbered v.port w.plant.ports) r) watched)

    by_watch : (o : Option (Watch Watched)) → IsSomeAnd o (λ v. new_watch handle s ≡ before_checks v)
        → IfSome o (λ v. new ≡ table_after old (Checked handle now (found_in w v)))
    by_watch None e = tt
    by_watch (Some v) e = table ∙ ap (λ b. table_after old (Checked handle now b)) (found_is v e)

    by_sent : (v : Watch Watched) → new_watch handle s ≡ before_checks v → IsTrue (is_due now v) → (b : Bool) → b ≡ is_sent bytes v
        → sample_where b s handle bytes ≡ samples_of now bytes v
    by_sent v e d true is = rw (d, sym is) (ap (λ (u : Watch Watched). addressed_sample bytes u ∷ []) e)
    by_sent v e d false is = rw (d, sym is) refl

    by_sample : (o : Option (Watch Watched)) → IsSomeAnd o (λ v. new_watch handle s ≡ before_checks v)
        → IsSomeAnd o (λ v. IsTrue (is_due now v)) → IfSome o (λ v. sent ≡ is_sent bytes v)
        → sample_where sent s handle bytes ≡ samples_for now (found_in w) o
    by_sample None e d sends = absurd e
    by_sample (Some v) e d sends = by_sent v e d sent sends ∙ ap (λ b. samples_of now b v) (found_is v e)

-- ---- handles rise

above_watches : (v : Watch Watched) (vs : List (Watch Watched)) → IsStrictlyIncreasing (map handle_of (v ∷ vs))
    → All (λ (u : Watch Watched). v.handle < u.handle) vs
above_watches v vs rises = λ k d below.
    let more = above_first v.handle (map handle_of vs) rises k (handle_of d) (omega (arith, length-map vs handle_of)) in
    let at_place = get_or-map handle_of vs k d (handle_of d) below in
    omega (arith, more, at_place)

-- the one that is found is the only one with its handle
only_one : (handle : ℕ) (v : Watch Watched) (vs : List (Watch Watched)) → IsStrictlyIncreasing (map handle_of vs)
    → find (is_numbered handle) vs ≡ Some v → All (λ (u : Watch Watched). u.handle ≡ handle → u ≡ v) vs
only_one handle v [] rises found = All-nil (λ (u : Watch Watched). u.handle ≡ handle → u ≡ v)
only_one handle v (u ∷ us) rises found =
    let P = λ (x : Watch Watched). x.handle ≡ handle → x ≡ v in
    elim (cases_eq u.handle handle) [
      | inl same ↦
          let first : u ≡ v = (let e = rw (eq-eqb u.handle handle same) at found in cc) in
          All-cons P u us (λ e. first) (All-weaker (λ (x : Watch Watched). u.handle < x.handle) P (λ x above e. absurd (omega (arith, above, e, same))) us
          (above_watches u us rises))
      | inr other ↦
          All-cons P u us (λ e. absurd (other e))
          (only_one handle v us (rises_tail u.handle (map handle_of us) rises) (rw (ne_eqb u.handle handle other) at found))
    ]

-- ---- one more check

-- before the first check
pub none_checked : (w : World) (now : ℕ) (t : WatchTable) → AreChecked w now [] t t []
none_checked w now t = record {
  watches = ap (λ ws. let k : WatchTable = record t { watches = ws } in k) (sym (checked_none now (found_in w) t.watches));
  groups = refl;
}

-- the notification with a handle that was not checked yet
not_yet : (w : World) (now i : ℕ) (handles : List ℕ) (old t : WatchTable) (gs : List GroupText)
    → AreChecked w now (take i handles) old t gs → IsStrictlyIncreasing handles → i < length handles
    → watch_of_handle (get_or handles i 0) t ≡ watch_of_handle (get_or handles i 0) old
not_yet w now i handles old t gs checked rises within =
    ap (λ (k : WatchTable). watch_of_handle (get_or handles i 0) k) checked.watches
    ∙ found_among now (found_in w) (get_or handles i 0) (take i handles) old.watches (not_before handles i rises within)

-- a due one is live
due_at : (now i : ℕ) (handles : List ℕ) (t : WatchTable) → IsTable t → handles ≡ due_handles now t → i < length handles
    → IsSomeAnd (watch_of_handle (get_or handles i 0) t) (λ (v : Watch Watched). IsTrue (is_due now v))
due_at now i handles t table all within =
    due_is_live now (get_or handles i 0) t table
    (subst (λ (hs : List ℕ). list_any (λ h. nat_eq h (get_or handles i 0)) hs ≡ true) all (listed handles i within))
  where
    listed : (hs : List ℕ) (k : ℕ) → k < length hs → list_any (λ h. nat_eq h (get_or hs k 0)) hs ≡ true
    listed [] k below = absurd (omega arith)
    listed (h ∷ hs) zero below = rw (eq-eqb h h refl) refl
    listed (h ∷ hs) (suc k) below = rw (listed hs k (omega arith)) (or_right (nat_eq h (get_or hs k 0)) true refl)

-- what one check asks
pub check_asked : (ports : PortsMemory) (now i : ℕ) (handles : List ℕ) (old t : WatchTable) (gs : List GroupText)
    → AreReadable ports old.watches
    → ((w : World) → HoldsPorts w ports → AreChecked w now (take i handles) old t gs)
    → IsTable old → IsStrictlyIncreasing handles → handles ≡ due_handles now old → i < length handles
    → IsSomeAnd (watch_of_handle (get_or handles i 0) t) (λ v. IsTrue (is_due now v) × IsReadable ports v.port v.watched)
check_asked ports now i handles old t gs readable checked table rises all within =
    rw (not_yet readable.world now i handles old t gs (checked readable.world readable.holds) rises within)
    (both (watch_of_handle (get_or handles i 0) old) (due_at now i handles old table all within)
    (find_holds (IsInPort readable.world) (is_numbered (get_or handles i 0)) old.watches readable.within))
  where
    both : (o : Option (Watch Watched)) → IsSomeAnd o (λ (v : Watch Watched). IsTrue (is_due now v)) → IfSome o (IsInPort readable.world)
        → IsSomeAnd o (λ v. IsTrue (is_due now v) × IsReadable ports v.port v.watched)
    both None due within = due
    both (Some v) due within = (due, record { world = readable.world; holds = readable.holds; within = within })

-- the checks so far, and one more
pub one_more_checked : (w : World) (now i : ℕ) (handles : List ℕ) (old t new : WatchTable) (gs after : List GroupText)
    → AreChecked w now (take i handles) old t gs → IsCheck w now (get_or handles i 0) t gs new after
    → IsTable old → IsStrictlyIncreasing handles → handles ≡ due_handles now old → i < length handles
    → AreChecked w now (take (i + 1) handles) old new after
one_more_checked w now i handles old t new gs after checked check table rises all within =
    let h = get_or handles i 0 in
    let before = take i handles in
    let more : take (i + 1) handles ≡ before ++ h ∷ [] = take_more handles i 0 within in
    let same = not_yet w now i handles old t gs checked rises within in
    rw more (record {
      watches =
          by_watch (watch_of_handle h old) refl (due_at now i handles old table all within)
          (subst (λ o. IfSome o (λ v. new ≡ table_after t (Checked h now (found_in w v)))) same check.watches);
      groups =
          check.groups ∙ (ap (λ o. groups_after gs (samples_for now (found_in w) o)) same
          ∙ (ap (λ g. groups_after g (samples_for now (found_in w) (watch_of_handle h old))) checked.groups
          ∙ (sym (fold-append (λ (g : List GroupText) (s : AddressedSample). groups_with s g) [] (samples_among now w old before)
          (samples_for now (found_in w) (watch_of_handle h old)))
          ∙ ap grouped_text (sym (flat_map-append (λ k. samples_for now (found_in w) (watch_of_handle k old)) before (h ∷ [])
          ∙ ap (λ l. samples_among now w old before ++ l) (append-nil (samples_for now (found_in w) (watch_of_handle h old))))))));
    })
  where
    by_watch : (o : Option (Watch Watched)) → o ≡ watch_of_handle (get_or handles i 0) old → IsSomeAnd o (λ (v : Watch Watched). IsTrue (is_due now v))
        → IfSome o (λ v. new ≡ table_after t (Checked (get_or handles i 0) now (found_in w v)))
        → new ≡ record old { watches = map (checked_among now (found_in w) (take i handles ++ get_or handles i 0 ∷ [])) old.watches }
    by_watch None is due one = absurd due
    by_watch (Some v) is due one =
        let h = get_or handles i 0 in
        let only = only_one h v old.watches table.rise (sym is) in
        let finds = All-weaker (λ (u : Watch Watched). u.handle ≡ h → u ≡ v) (λ (u : Watch Watched). u.handle ≡ h → found_in w v ≡ found_in w u)
        (λ u is_v e. ap (found_in w) (sym (is_v e))) old.watches only in
        one ∙ (ap (λ (k : WatchTable). table_after k (Checked h now (found_in w v))) checked.watches
        ∙ ap (λ ws. let k : WatchTable = record old { watches = ws } in k)
        (checked_one_more now (found_in w) h (found_in w v) (take i handles) old.watches (not_before handles i rises within) finds))

-- ---- all checks

samples_behind : (now : ℕ) (found : Watch Watched → List ℕ) (v : Watch Watched) (vs : List (Watch Watched)) (hs : List ℕ) → All (λ h. v.handle < h) hs
    → flat_map (λ h. samples_for now found (find (is_numbered h) (v ∷ vs))) hs ≡ flat_map (λ h. samples_for now found (find (is_numbered h) vs)) hs
samples_behind now found v vs [] above = refl
samples_behind now found v vs (h ∷ hs) above =
    let more = All-head (λ k. v.handle < k) h hs above in
    rw (ne_eqb v.handle h (omega arith))
    (ap (λ l. samples_for now found (find (is_numbered h) vs) ++ l) (samples_behind now found v vs hs (All-tail (λ k. v.handle < k) h hs above)))

samples_all : (now : ℕ) (found : Watch Watched → List ℕ) (vs : List (Watch Watched)) → IsStrictlyIncreasing (map handle_of vs)
    → flat_map (λ h. samples_for now found (find (is_numbered h) vs)) (map handle_of (filter (λ (u : Watch Watched). is_due now u) vs))
    ≡ flat_map (λ (u : Watch Watched). samples_of now (found u) u) vs
samples_all now found [] rises = refl
samples_all now found (v ∷ vs) rises =
    let above = All-map (λ h. v.handle < h) handle_of (filter (λ (u : Watch Watched). is_due now u) vs)
    (All-filter (λ (u : Watch Watched). is_due now u) (λ (u : Watch Watched). v.handle < u.handle) vs (above_watches v vs rises)) in
    let behind = samples_behind now found v vs (map handle_of (filter (λ (u : Watch Watched). is_due now u) vs)) above in
    let rest = samples_all now found vs (rises_tail v.handle (map handle_of vs) rises) in
    elim (cases_Bool (is_due now v)) [
      | inl due ↦
          let kept : filter (λ (u : Watch Watched). is_due now u) (v ∷ vs) ≡ v ∷ filter (λ (u : Watch Watched). is_due now u) vs = rw due refl in
          let first : find (is_numbered v.handle) (v ∷ vs) ≡ Some v = rw (eq-eqb v.handle v.handle refl) refl in
          ap (λ (us : List (Watch Watched)). flat_map (λ h. samples_for now found (find (is_numbered h) (v ∷ vs))) (map handle_of us)) kept
          ∙ (ap (λ o. samples_for now found o ++ flat_map (λ h. samples_for now found (find (is_numbered h) (v ∷ vs)))
          (map handle_of (filter (λ (u : Watch Watched). is_due now u) vs))) first
          ∙ ap (λ l. samples_of now (found v) v ++ l) (behind ∙ rest))
      | inr early ↦ rw early (behind ∙ rest)
    ]

-- after the checks of all that is due
pub all_checked : (w : World) (now : ℕ) (handles : List ℕ) (old new : WatchTable) (gs : List GroupText)
    → AreChecked w now handles old new gs → IsTable old → handles ≡ due_handles now old
    → (new ≡ table_checked now w old) × (gs ≡ grouped_text (samples_found now w old.watches))
all_checked w now handles old new gs checked table all = (
  checked.watches ∙ (ap (λ hs. let k : WatchTable = record old { watches = map (checked_among now (found_in w) hs) old.watches } in k) all
      ∙ ap (λ ws. let k : WatchTable = record old { watches = ws } in k) (checked_all now (found_in w) old)),
  checked.groups ∙ ap grouped_text (ap (samples_among now w old) all ∙ samples_all now (found_in w) old.watches table.rise),
)

-- at most 512 are due
pub few_due : (now : ℕ) (handles : List ℕ) (t : WatchTable) → IsTable t → handles ≡ due_handles now t → length handles ≤ 512
few_due now handles t table all =
    omega (
      arith,
      table.few,
      ap length all,
      length-map (filter (λ (u : Watch Watched). is_due now u) t.watches) handle_of,
      length-filter (λ (u : Watch Watched). is_due now u) t.watches,
      count_by-le-length (λ (u : Watch Watched). is_due now u) t.watches,
    )

pub on_ok_always : {T E P : Type 0} (r : Result T E) → P → OnOk r P
on_ok_always (Ok x) p = p
on_ok_always (Err e) p = tt
