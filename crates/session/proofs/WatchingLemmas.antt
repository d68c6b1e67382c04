-- A notification is added or deleted, in the session and in the machine.
use Rattle.std.proofs.Common.{◌≡◌, ℕ, ◌+◌, ◌<◌, ◌≤◌, Bool, true, false, not, cond, List, [], ◌∷◌, ◌++◌, length, inl, inr, refl, sym, ap, subst, ◌∙◌, arith}
use Rattle.std.specs.Prelude.{Option, Some, None, option_map, unwrap_or, Result, Ok, Err, IsTrue, IsErr, IsOk, IfOk, IfErr, OnOk, OnErr}
use Rattle.std.specs.Prelude.{◌↔◌, ◌||◌, ◌&&◌, ◌==◌, nat_le, filter}
use Rattle.std.specs.List.{list_any}
use Rattle.std.specs.Int.{w32, to_le_bytes}
use Rattle.std.proofs.lemmas.Bool.{cases_Bool, lt-ltb, le-ltb, eq-eqb, ne_eqb, false≢true}
use Rattle.std.proofs.lemmas.List.{append-nil}
use Rattle.return_codes.specs.declared.code.Code.{Code}
use Rattle.return_codes.specs.declared.code.Code.TheVariants.{C705, C713, C714, C716, C717}
use Rattle.return_codes.specs.Code.{number_of}
use Rattle.spec_formats.specs.Request.{AddDeviceNotification, DeleteDeviceNotification}
use Rattle.spec_machine.specs.Access.{Addressed, memory_after_puts}
use Rattle.spec_machine.specs.Acts.{Act, Outcome, Refusal, changing}
use Rattle.spec_machine.specs.Answers.{answered_group, ADD_DEVICE_NOTIFICATION}
use Rattle.spec_machine.specs.Client.{client_after, Adds, Deletes}
use Rattle.spec_machine.specs.HandleLaws.{Test, AgreeingWatch, AgreeingWatches}
use Rattle.spec_machine.specs.Reach.{reach_of}
use Rattle.spec_machine.specs.Meanings.{mode_in}
use Rattle.spec_machine.specs.Manner.{Manner, Strict, Wide}
use Rattle.spec_machine.specs.MoreActs.{own_reach, more_add}
use Rattle.spec_machine.specs.Requests.{plain_act, act_of, mode_of, add_of_reach, add_reached, next_watch, delete_act, is_watch_of}
use Rattle.spec_machine.specs.Watches as machine
use Rattle.spec_machine.specs.Watches.{Watch}
use Rattle.spec_machine.specs.WatchedRanges.{is_same_watched}
use Rattle.notify_table.specs.declared.spec.Watched as code
use Rattle.notify_table.specs.declared.spec.Spec.{Spec}
use Rattle.notify_table.specs.declared.spec.WatchFull.{WatchFull}
use Rattle.notify_table.specs.Specs.{address_of, mode_meant, new_watch}
use Rattle.notify_table.specs.Table.{WatchTable, is_full, is_live, table_after, Added, Deleted}
use Rattle.session.specs.Asking.{Asking, act_asked}
use Rattle.session.specs.Watching.{addition_reach, IsWatched, AsksFor, IsSpecAsked, NotesFor, AddsAs, DeletesAs, ChangesNotes}

-- ---- what is asked for

module _ (a : Asking) (group offset len mode delay cycle : ℕ) where
  abbrev asked : Act
  asked = act_asked a (AddDeviceNotification group offset len mode delay cycle)

  abbrev reached : Result (List Addressed) ℕ
  reached = addition_reach a.world.profile.manner a.client a.asker.port group offset len

  asked-is : asked ≡ add_of_reach a.client a.asker len cycle (mode_of (mode_in a.world.profile.manner mode)) reached
  unfolding act_of plain_act
  asked-is = by_manner a.world.profile.manner
    where
      plain : Result (List Addressed) ℕ
      plain = reach_of a.client a.asker.port (answered_group ADD_DEVICE_NOTIFICATION group) offset len

      by_reach : (f : Result (List Addressed) ℕ → Act) (o : Option (Result (List Addressed) ℕ)) → unwrap_or (option_map f o) (f plain) ≡ f (unwrap_or o plain)
      by_reach f None = refl
      by_reach f (Some r) = refl

      by_manner : (x : Manner)
          → unwrap_or (more_add x a.client a.asker group offset len mode cycle) (add_of_reach a.client a.asker len cycle (mode_of (mode_in x mode)) plain)
          ≡ add_of_reach a.client a.asker len cycle (mode_of (mode_in x mode)) (addition_reach x a.client a.asker.port group offset len)
      by_manner Strict = refl
      by_manner Wide =
          by_reach (add_of_reach a.client a.asker len cycle (mode_of (mode_in Wide mode))) (own_reach a.asker.port.number group offset len)

  -- no mode
  pub asked_no_mode : mode_of (mode_in a.world.profile.manner mode) ≡ None → IsSpecAsked a asked (Err C713)
  asked_no_mode none =
      asked-is ∙ ap (λ m. add_of_reach a.client a.asker len cycle m reached) none

  -- too much
  pub asked_too_much : (m : machine.Mode) → Some m ≡ mode_of (mode_in a.world.profile.manner mode) → 2048 < len → IsSpecAsked a asked (Err C717)
  asked_too_much m is big =
      asked-is ∙ (ap (λ o. add_of_reach a.client a.asker len cycle o reached) (sym is)
      ∙ rw (lt-ltb 2048 len big) refl)

  reached-is : (m : machine.Mode) → Some m ≡ mode_of (mode_in a.world.profile.manner mode) → len ≤ 2048
      → asked ≡ add_reached a.client a.asker m len cycle reached
  reached-is m is few =
      asked-is ∙ (ap (λ o. add_of_reach a.client a.asker len cycle o reached) (sym is)
      ∙ rw (le-ltb 2048 len few) refl)

  -- nothing that can be watched
  pub asked_off : (m : machine.Mode) (code : Code) → Some m ≡ mode_of (mode_in a.world.profile.manner mode) → len ≤ 2048
      → IsWatched a.world.plant.ports a.asker.port.number len reached (Err code) → IsSpecAsked a asked (Err code)
  asked_off m code is few off = reached-is m is few ∙ by_reach reached off
    where
      by_reach : (r : Result (List Addressed) ℕ) → IsWatched a.world.plant.ports a.asker.port.number len r (Err code)
          → add_reached a.client a.asker m len cycle r ≡ Refusal (number_of code)
      by_reach (Err n) same = ap Refusal same
      by_reach (Ok watched) same = absurd same

  -- no byte
  pub asked_nothing : (m : machine.Mode) (watched : code.Watched) → Some m ≡ mode_of (mode_in a.world.profile.manner mode) → len ≡ 0
      → IsWatched a.world.plant.ports a.asker.port.number len reached (Ok watched) → IsSpecAsked a asked (Err C705)
  asked_nothing m watched is none named = reached-is m is (omega arith) ∙ by_reach reached named
    where
      by_reach : (r : Result (List Addressed) ℕ) → IsWatched a.world.plant.ports a.asker.port.number len r (Ok watched)
          → add_reached a.client a.asker m len cycle r ≡ Refusal (number_of C705)
      by_reach (Err n) same = absurd same
      by_reach (Ok reached_) same = rw (eq-eqb len 0 none) refl

  -- a notification
  pub asked_for : (spec : Spec) → Some (mode_meant spec.mode) ≡ mode_of (mode_in a.world.profile.manner mode) → len ≤ 2048 → 0 < len
      → IsWatched a.world.plant.ports a.asker.port.number len reached (Ok spec.watched)
      → spec.port ≡ a.asker.port.number → a.asker.address ≡ address_of spec.to → spec.cycle ≡ cycle → AsksFor a asked spec
  asked_for spec is few some named port address cycle_is = by_reach reached refl named
    where
      by_reach : (r : Result (List Addressed) ℕ) → reached ≡ r → IsWatched a.world.plant.ports a.asker.port.number len r (Ok spec.watched)
          → AsksFor a asked spec
      by_reach (Err n) at_ same = absurd same
      by_reach (Ok watched) at_ same = record {
        watch = next_watch a.client a.asker (mode_meant spec.mode) cycle watched;
        act_is =
            reached-is (mode_meant spec.mode) is few ∙ (ap (add_reached a.client a.asker (mode_meant spec.mode) len cycle) at_
            ∙ rw (ne_eqb len 0 (λ e. omega (arith, e, some))) refl);
        agrees = record {
          handle = refl;
          port = port;
          address = sym address;
          mode = refl;
          cycle = cycle_is;
          last = refl;
          sent = refl;
          watched = same some;
        };
      }

-- ---- an addition

agreeing-length : {P Q : Type 0} (test : Test P Q) (us : List (Watch P)) (vs : List (Watch Q)) → AgreeingWatches test us vs → length vs ≡ length us
agreeing-length test [] [] h = refl
agreeing-length test (u ∷ us) (v ∷ vs) h = (let rest = agreeing-length test us vs h.1 in omega (arith, rest))
agreeing-length test [] (v ∷ vs) h = absurd h
agreeing-length test (u ∷ us) [] h = absurd h

agreeing-more : {P Q : Type 0} (test : Test P Q) (us : List (Watch P)) (vs : List (Watch Q)) (u : Watch P) (v : Watch Q) → AgreeingWatches test us vs
    → AgreeingWatch test u v → AgreeingWatches test (us ++ u ∷ []) (vs ++ v ∷ [])
agreeing-more test [] [] u v h one = (one, tt)
agreeing-more test (x ∷ xs) (y ∷ ys) u v h one = (h.0, agreeing-more test xs ys u v h.1 one)
agreeing-more test [] (y ∷ ys) u v h one = absurd h
agreeing-more test (x ∷ xs) [] u v h one = absurd h

refused : (a : Asking) (t : WatchTable) (act : Act) (code : ℕ) → NotesFor a.world.plant.ports a.client t → act ≡ Refusal code → ChangesNotes a act t
unfolding client_after
refused a t act code stands is = rw is (record { notes = stands; handles = refl; memory = refl })

full-same : (a : Asking) (t : WatchTable) → NotesFor a.world.plant.ports a.client t
    → is_full t ≡ (nat_le 512 (length a.client.watches) || nat_le 4294967295 a.client.additions)
full-same a t stands =
    ap (λ n. nat_le 512 n || nat_le 4294967295 t.additions)
    (agreeing-length (is_same_watched a.world.plant.ports) a.client.watches t.watches stands.watches)
    ∙ ap (λ n. nat_le 512 (length a.client.watches) || nat_le 4294967295 n) stands.additions

-- no further one
pub add_full : (a : Asking) (act : Act) (t : WatchTable) (spec : Spec) → NotesFor a.world.plant.ports a.client t → AsksFor a act spec
    → IsTrue (is_full t) → AddsAs a act (Err C716) t
add_full a act t spec stands asks full =
    let test = sym (full-same a t stands) ∙ full in
    let is : act ≡ Refusal (number_of C716) = asks.act_is ∙ rw test refl in
    record { ends = rw is refl; changes = refused a t act (number_of C716) stands is }

-- one more
pub add_done : (a : Asking) (act : Act) (t : WatchTable) (spec : Spec) (handle : ℕ) (watches : WatchTable)
    → NotesFor a.world.plant.ports a.client t → AsksFor a act spec → is_full t ≡ false → handle ≡ t.additions + 1
    → watches ≡ table_after t (Added (new_watch handle spec)) → AddsAs a act (Ok handle) watches
unfolding client_after memory_after_puts
add_done a act t spec handle watches stands asks room handle_is left =
    let test = sym (full-same a t stands) ∙ room in
    let is : act ≡ changing (to_le_bytes w32 asks.watch.handle) (Adds asks.watch) = asks.act_is ∙ rw test refl in
    let number : handle ≡ a.client.additions + 1 = handle_is ∙ ap (λ n. n + 1) stands.additions in
    let same : asks.watch.handle ≡ handle = sym asks.agrees.handle ∙ sym number in
    let agrees : AgreeingWatch (is_same_watched a.world.plant.ports) asks.watch (new_watch handle spec) =
    subst (λ n. AgreeingWatch (is_same_watched a.world.plant.ports) asks.watch (new_watch n spec)) (sym number) asks.agrees in
    rw (is, left) (record {
      ends = ap (λ b. let o : Outcome = record { code = 0; bytes = b } in o) (append-nil (to_le_bytes w32 asks.watch.handle)
          ∙ ap (to_le_bytes w32) same);
      changes = record {
        notes = record {
          additions = ap (λ n. n + 1) stands.additions;
          watches = agreeing-more (is_same_watched a.world.plant.ports) a.client.watches t.watches asks.watch (new_watch handle spec)
              stands.watches agrees;
        };
        handles = refl;
        memory = refl;
      };
    })

-- what the table told
pub add_ok : (a : Asking) (act : Act) (t : WatchTable) (spec : Spec) (handle : ℕ) (watches : WatchTable) (r : Result ℕ WatchFull) → r ≡ Ok handle
    → NotesFor a.world.plant.ports a.client t → AsksFor a act spec → (IsErr r ↔ IsTrue (is_full t))
    → IfOk r (λ h. h ≡ t.additions + 1) → IfOk r (λ h. watches ≡ table_after t (Added (new_watch h spec)))
    → AddsAs a act (Ok handle) watches
add_ok a act t spec handle watches (Ok h) is stands asks full number left =
    let same : h ≡ handle = cc in
    let room : is_full t ≡ false = elim (cases_Bool (is_full t)) [
      | inl some ↦ absurd (false≢true (full.1 some))
      | inr none ↦ none
    ] in
    subst (λ n. AddsAs a act (Ok n) watches) same
    (add_done a act t spec h watches stands asks room number left)
add_ok a act t spec handle watches (Err e) is stands asks full number left = absurd cc

pub add_err : (a : Asking) (act : Act) (t : WatchTable) (spec : Spec) (watches : WatchTable) (r : Result ℕ WatchFull) → IsErr r
    → NotesFor a.world.plant.ports a.client t → AsksFor a act spec → (IsErr r ↔ IsTrue (is_full t))
    → OnErr r (watches ≡ t) → AddsAs a act (Err C716) watches
add_err a act t spec watches (Ok h) is stands asks full left = absurd (false≢true is)
add_err a act t spec watches (Err e) is stands asks full left =
    rw left (add_full a act t spec stands asks (full.0 is))

-- one that is refused before
pub add_refused : (a : Asking) (t : WatchTable) (act : Act) (code : Code) → NotesFor a.world.plant.ports a.client t → IsSpecAsked a act (Err code)
    → AddsAs a act (Err code) t
add_refused a t act code stands is = record { ends = rw is refl; changes = refused a t act (number_of code) stands is }

-- ---- a deletion

live-same : {P : Type 0} (test : Test (List Addressed) P) (port handle : ℕ) (us : List (Watch (List Addressed))) (vs : List (Watch P))
    → AgreeingWatches test us vs
    → list_any (λ (v : Watch P). (v.handle == handle) && (v.port == port)) vs ≡ list_any (is_watch_of port handle) us
live-same test port handle [] [] h = refl
live-same test port handle (u ∷ us) (v ∷ vs) h = rw (h.0.handle, h.0.port, live-same test port handle us vs h.1) refl
live-same test port handle [] (v ∷ vs) h = absurd h
live-same test port handle (u ∷ us) [] h = absurd h

left-same : {P : Type 0} (test : Test (List Addressed) P) (handle : ℕ) (us : List (Watch (List Addressed))) (vs : List (Watch P))
    → AgreeingWatches test us vs
    → AgreeingWatches test (filter (λ (u : Watch (List Addressed)). not (u.handle == handle)) us) (filter (λ (v : Watch P). not (v.handle == handle)) vs)
left-same test handle [] [] h = tt
left-same {P} test handle (u ∷ us) (v ∷ vs) h =
    go (u.handle == handle) (v.handle == handle) (ap (λ n. n == handle) h.0.handle) (left-same test handle us vs h.1)
  where
    us_ : List (Watch (List Addressed))
    us_ = filter (λ (x : Watch (List Addressed)). not (x.handle == handle)) us

    vs_ : List (Watch P)
    vs_ = filter (λ (x : Watch P). not (x.handle == handle)) vs

    go : (b d : Bool) → d ≡ b → AgreeingWatches test us_ vs_ → AgreeingWatches test (cond (not b) (u ∷ us_) us_) (cond (not d) (v ∷ vs_) vs_)
    go true true e rest = rest
    go false false e rest = (h.0, rest)
    go true false e rest = absurd cc
    go false true e rest = absurd cc
left-same test handle [] (v ∷ vs) h = absurd h
left-same test handle (u ∷ us) [] h = absurd h

deleted-is : (a : Asking) (handle : ℕ) → act_asked a (DeleteDeviceNotification handle) ≡ delete_act a.client a.asker handle
unfolding act_of plain_act
deleted-is a handle = refl

-- no live one of this port
pub delete_none : (a : Asking) (t : WatchTable) (number handle : ℕ) → NotesFor a.world.plant.ports a.client t → number ≡ a.asker.port.number
    → is_live number handle t ≡ false → DeletesAs a (act_asked a (DeleteDeviceNotification handle)) (Err C714) t
delete_none a t number handle stands port none =
    let same = live-same (is_same_watched a.world.plant.ports) number handle a.client.watches t.watches stands.watches in
    let test : list_any (is_watch_of a.asker.port.number handle) a.client.watches ≡ false =
    subst (λ n. list_any (is_watch_of n handle) a.client.watches ≡ false) port (sym same ∙ none) in
    let is : act_asked a (DeleteDeviceNotification handle) ≡ Refusal (number_of C714) = deleted-is a handle ∙ rw test refl in
    record { ends = rw is refl; changes = refused a t (act_asked a (DeleteDeviceNotification handle)) (number_of C714) stands is }

-- the one with the handle
pub delete_done : (a : Asking) (t : WatchTable) (number handle : ℕ) (watches : WatchTable) → NotesFor a.world.plant.ports a.client t
    → number ≡ a.asker.port.number → is_live number handle t ≡ true → watches ≡ table_after t (Deleted handle)
    → DeletesAs a (act_asked a (DeleteDeviceNotification handle)) (Ok tt) watches
unfolding client_after memory_after_puts
delete_done a t number handle watches stands port live left =
    let same = live-same (is_same_watched a.world.plant.ports) number handle a.client.watches t.watches stands.watches in
    let test : list_any (is_watch_of a.asker.port.number handle) a.client.watches ≡ true =
    subst (λ n. list_any (is_watch_of n handle) a.client.watches ≡ true) port (sym same ∙ live) in
    let is : act_asked a (DeleteDeviceNotification handle) ≡ changing [] (Deletes handle) = deleted-is a handle ∙ rw test refl in
    rw (is, left) (record {
      ends = refl;
      changes = record {
        notes = record {
          additions = stands.additions;
          watches = left-same (is_same_watched a.world.plant.ports) handle a.client.watches t.watches stands.watches;
        };
        handles = refl;
        memory = refl;
      };
    })

-- what the table told
pub delete_told : (a : Asking) (t : WatchTable) (number handle : ℕ) (watches : WatchTable) (r : Result (Unit {0}) Code)
    → NotesFor a.world.plant.ports a.client t → number ≡ a.asker.port.number
    → (IsOk r ↔ IsTrue (is_live number handle t)) → OnOk r (watches ≡ table_after t (Deleted handle))
    → IfErr r (λ code. code ≡ C714) → OnErr r (watches ≡ t)
    → DeletesAs a (act_asked a (DeleteDeviceNotification handle)) r watches
delete_told a t number handle watches (Ok done) stands port live left code kept =
    delete_done a t number handle watches stands port (live.0 refl) left
delete_told a t number handle watches (Err e) stands port live left code kept =
    let none : is_live number handle t ≡ false = elim (cases_Bool (is_live number handle t)) [
      | inl some ↦ absurd (false≢true (live.1 some))
      | inr gone ↦ gone
    ] in
    rw (code, kept) (delete_none a t number handle stands port none)
