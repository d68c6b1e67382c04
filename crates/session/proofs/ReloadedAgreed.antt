-- A reload moves handles and notifications of a session as those of its client.
use Rattle.std.proofs.Common.{◌≡◌, ℕ, ◌+◌, ◌≤◌, List, [], ◌∷◌, length, map, refl, sym, ap, subst, ◌∙◌, arith}
use Rattle.std.specs.Prelude.{Some, None, is_some, not, filter, ◌++◌, option_map}
use Rattle.std.specs.List.{All}
use Rattle.std.proofs.lemmas.List.{length-map}
use Rattle.std.proofs.lemmas.List.Elements.{All-nil, All-cons}
use Rattle.std.proofs.lemmas.Simd.{map-map}
use Rattle.std.proofs.lemmas.List.Sums.{length-filter, count_by-le-length}
use Rattle.spec_plant.specs.Description as plant
use Rattle.spec_plant.specs.World.{Plant, PlantPort}
use Rattle.spec_formats.specs.Ranges.{Range, Bytes, Bit, Size}
use Rattle.spec_machine.specs.Access.{Addressed}
use Rattle.spec_machine.specs.Client as client
use Rattle.spec_machine.specs.Client.{Client, kept_place, kept_bytes, client_after_reload, ended_of}
use Rattle.spec_machine.specs.HandleLaws.{AgreeingMoves, AgreeingPlaces, AgreeingStatus, AgreeingHandles, AgreeingWatches, handles_of}
use Rattle.spec_machine.specs.Handles.{Handle, HandleStatus, Never, Released, Outdated, Live, Reload, handles_after}
use Rattle.spec_machine.specs.Reloads.{is_kept, client_reloaded}
use Rattle.spec_machine.specs.Stamps.{frames_of_samples, end_samples}
use Rattle.spec_machine.specs.WatchedRanges.{Watched, InArea, Own, is_same_watched, moved_range, moved_watched}
use Rattle.spec_machine.specs.Watches.{Watch, ended_watches}
use Rattle.spec_machine.specs.World.{World}
use Rattle.spec_machine.proofs.RangesMoved.{watched_move_alike}
use Rattle.notify_table.specs.declared.spec.Ended.{Ended}
use Rattle.notify_table.specs.Reloads.{value_of_area, range_after, watched_after, end_of, ended_meant}
use Rattle.notify_table.specs.Table.{WatchTable, IsTable, table_after, Reloaded}
use Rattle.port_device.specs.KeptSymbols.{kept_symbols_of}
use Rattle.port_device.proofs.MovesAlike.{places_move, bytes_moved, bit_moved, in_old_world}
use Rattle.sym_handles.specs.History.{History, Represents, kept_before, kept_from}
use Rattle.sym_handles.specs.Kept.{Kept, HasPlaceInOldWorld}
use Rattle.symbol_table.specs.declared.kept.KeptPlace.{KeptPlace}
use Rattle.symbol_table.specs.declared.place.Place.{Place}
use Rattle.symbol_table.specs.Moves.{moved_place, IsInOldWorld}
use Rattle.type_layout.specs.Descriptions.{area_of}
use Rattle.session.specs.declared.notes.NoteFrame.{NoteFrame}
use Rattle.session.specs.NoteFrames.{produced_of}
use Rattle.session.specs.NotesEnded.{end_sample, samples_of_ended}
use Rattle.session.specs.Reloading.{AreMoves, IsReloadable}
use Rattle.session.specs.SessionState.{SessionState}
use Rattle.session.specs.StandsFor.{StandsFor, KeptFor, is_place_of}
use Rattle.session.proofs.HandleChanges.{handles_of-append}
use Rattle.spec_machine.proofs.TablesAgreed.{tables_agree}

-- ---- ranges

area-same : (area : plant.Area) → area_of (value_of_area area) ≡ area
area-same plant.Inputs = refl
area-same plant.Outputs = refl
area-same plant.Memory = refl
area-same plant.Process = refl

range-same : (moves : List KeptPlace) (port : ℕ) (range : Range) → moved_range (kept_symbols_of moves) port range ≡ range_after moves port range
range-same moves port (Bytes area offset len) =
    subst (λ a. moved_range (kept_symbols_of moves) port (Bytes a offset len) ≡ range_after moves port (Bytes area offset len)) (area-same area)
    (bytes_moved moves port (value_of_area area) offset len)
range-same moves port (Bit area offset bit) =
    subst (λ a. moved_range (kept_symbols_of moves) port (Bit a offset bit) ≡ range_after moves port (Bit area offset bit)) (area-same area)
    (bit_moved moves port (value_of_area area) offset bit)
range-same moves port (Size area) = refl

watched-same : (moves : List KeptPlace) (ports : List ℕ) (port : ℕ) (watched : Watched)
    → moved_watched (kept_symbols_of moves) ports port watched ≡ watched_after moves ports port watched
watched-same moves ports port (InArea range) = ap (option_map InArea) (range-same moves port range)
watched-same moves ports port (Own first len) = refl

watched_move : (old new : Plant) (moves : List KeptPlace) (ports : List ℕ) → AreMoves old new moves ports
    → AgreeingMoves (is_same_watched old.ports) (is_same_watched new.ports) (kept_bytes (is_kept old new)) (watched_after moves ports)
watched_move old new moves ports are port named watched same =
    subst (λ o. AgreeingPlaces (is_same_watched new.ports) port (kept_bytes (is_kept old new) port named) o)
    (ap (λ ns. moved_watched (kept_symbols_of moves) ns port watched) (sym are.ports_are) ∙ watched-same moves ports port watched)
    (watched_move_alike old new (kept_symbols_of moves) are.old_sound are.new_sound are.kept port named watched same)

-- ---- handles

all_in_old_world : (old new : Plant) (moves : List KeptPlace) (ports : List ℕ) → AreMoves old new moves ports
    → (number : ℕ) (hs : List (Handle client.Place)) (ks : List (Handle Place))
    → AgreeingHandles (is_place_of old.ports) hs ks → All (HasPlaceInOldWorld moves) (kept_from number ks)
all_in_old_world old new moves ports are number [] [] h = All-nil (HasPlaceInOldWorld moves)
all_in_old_world old new moves ports are number (x ∷ xs) (y ∷ ys) h =
    by_status x.status y.status h.1 (all_in_old_world old new moves ports are (number + 1) xs ys h.2)
  where
    by_status : (s : HandleStatus client.Place) (t : HandleStatus Place) → AgreeingStatus (is_place_of old.ports) x.port s t
        → All (HasPlaceInOldWorld moves) (kept_from (number + 1) ys)
        → All (HasPlaceInOldWorld moves) (kept_before number y.port t (kept_from (number + 1) ys))
    by_status Never Never same rest = rest
    by_status Released Released same rest = rest
    by_status Outdated Outdated same rest =
        All-cons (HasPlaceInOldWorld moves) (record { number = number; port = y.port; place = None }) (kept_from (number + 1) ys) (λ q e. absurd cc) rest
    by_status (Live named) (Live place) same rest =
        let within : IsInOldWorld moves y.port place =
        subst (λ n. IsInOldWorld moves n place) (sym h.0) (in_old_world old new moves x.port named place are.kept same) in
        All-cons (HasPlaceInOldWorld moves) (record { number = number; port = y.port; place = Some place }) (kept_from (number + 1) ys)
        (λ q e. let is : place ≡ q = cc in subst (λ r. IsInOldWorld moves y.port r) is within) rest
    by_status s t same rest = absurd same
all_in_old_world old new moves ports are number [] (y ∷ ys) h = absurd h
all_in_old_world old new moves ports are number (x ∷ xs) [] h = absurd h

-- the places of live handles lie in the old world
pub places_in_old_world : (moves : List KeptPlace) (ports : List ℕ) (s : SessionState) → IsReloadable moves ports s
    → All (HasPlaceInOldWorld moves) s.handles.handles
places_in_old_world moves ports s is =
    let k = is.stands.handles in
    subst (All (HasPlaceInOldWorld moves)) (sym k.represented.handles)
    (all_in_old_world is.old is.new moves ports is.moved 1 is.client.handles (handles_of k.history) k.agree)

handles_moved : (old new : Plant) (moves : List KeptPlace) (ports : List ℕ) (hs : List (Handle client.Place)) (kept after : Kept) → AreMoves old new moves ports
    → KeptFor old.ports hs kept
    → ((history : History) → Represents kept history → Represents after (history ++ Reload (moved_place moves) ∷ []))
    → KeptFor new.ports (handles_after hs (Reload (kept_place (is_kept old new)))) after
handles_moved old new moves ports hs kept after are k moved = record {
  history = k.history ++ Reload (moved_place moves) ∷ [];
  represented = moved k.history k.represented;
  agree =
      subst (λ ks. AgreeingHandles (is_place_of new.ports) (handles_after hs (Reload (kept_place (is_kept old new)))) ks)
      (sym (handles_of-append k.history (Reload (moved_place moves))))
      ((tables_agree client.Place Place (is_place_of old.ports) (is_place_of new.ports) (kept_place (is_kept old new)) (moved_place moves)
      (places_move old new moves are.old_sound are.new_sound are.kept)).handles hs (handles_of k.history) k.agree);
}

-- ---- the client

-- the session stands for the client after the reload
pub reloaded_stands : (time : ℕ) (w v : World) (c : Client) (moves : List KeptPlace) (ports : List ℕ) (s : SessionState) (handles : Kept) (watches : WatchTable)
    → AreMoves w.plant v.plant moves ports → StandsFor w.plant c s
    → ((history : History) → Represents s.handles history → Represents handles (history ++ Reload (moved_place moves) ∷ []))
    → watches ≡ table_after s.watches (Reloaded (watched_after moves ports))
    → StandsFor v.plant (client_reloaded time w v c).client (record s { handles = handles; watches = watches })
unfolding client_reloaded client_after_reload
reloaded_stands time w v c moves ports s handles watches are stands moved left = record {
  handles = handles_moved w.plant v.plant moves ports c.handles s.handles handles are stands.handles moved;
  additions = ap (λ (t : WatchTable). t.additions) left ∙ stands.additions;
  watches =
      subst (λ (t : WatchTable). AgreeingWatches (is_same_watched v.plant.ports) (client_after_reload (is_kept w.plant v.plant) c).watches t.watches) (sym left)
      ((tables_agree (List Addressed) Watched (is_same_watched w.plant.ports)
      (is_same_watched v.plant.ports) (kept_bytes (is_kept w.plant v.plant)) (watched_after moves ports)
      (watched_move w.plant v.plant moves ports are)).watches c.watches s.watches.watches stands.watches);
}

ends-same : (ports : List PlantPort) (us : List (Watch (List Addressed))) (vs : List (Watch Watched)) → AgreeingWatches (is_same_watched ports) us vs
    → map (λ v. end_sample (end_of v)) vs ≡ end_samples us
ends-same ports [] [] h = refl
ends-same ports (u ∷ us) (v ∷ vs) h = rw (h.0.handle, h.0.port, h.0.address, ends-same ports us vs h.1) refl
ends-same ports [] (v ∷ vs) h = absurd h
ends-same ports (u ∷ us) [] h = absurd h

samples-of : (ended : List Ended) (vs : List (Watch Watched)) → map ended_meant ended ≡ map end_of vs
    → samples_of_ended ended ≡ map (λ v. end_sample (end_of v)) vs
samples-of ended vs same =
    sym (map-map end_sample ended_meant ended) ∙ (ap (map end_sample) same ∙ map-map end_sample end_of vs)

-- the frames of those that ended are the client's
pub reloaded_frames : (time : ℕ) (net : List ℕ) (w v : World) (c : Client)
    (moves : List KeptPlace) (ports : List ℕ) (s : SessionState) (ended : List Ended) (frames : List NoteFrame)
    → AreMoves w.plant v.plant moves ports → StandsFor w.plant c s → w.plant.net ≡ net
    → map ended_meant ended ≡ map end_of (ended_watches (watched_after moves ports) s.watches.watches)
    → map produced_of frames ≡ frames_of_samples net time (samples_of_ended ended)
    → map produced_of frames ≡ (client_reloaded time w v c).frames
unfolding client_reloaded ended_of
reloaded_frames time net w v c moves ports s ended frames are stands net_is told made =
    let agree = (tables_agree (List Addressed) Watched (is_same_watched w.plant.ports) (is_same_watched v.plant.ports) (kept_bytes (is_kept w.plant v.plant))
    (watched_after moves ports) (watched_move w.plant v.plant moves ports are)).ended c.watches s.watches.watches stands.watches in
    let samples : samples_of_ended ended ≡ end_samples (ended_of (is_kept w.plant v.plant) c) =
    samples-of ended (ended_watches (watched_after moves ports) s.watches.watches) told
    ∙ ends-same w.plant.ports (ended_watches (kept_bytes (is_kept w.plant v.plant)) c.watches)
    (ended_watches (watched_after moves ports) s.watches.watches) agree in
    made ∙ (ap (λ n. frames_of_samples n time (samples_of_ended ended)) (sym net_is) ∙ ap (frames_of_samples w.plant.net time) samples)

-- at most 512 end
pub few_ended : (moves : List KeptPlace) (ports : List ℕ) (t : WatchTable) (ended : List Ended) → IsTable t
    → map ended_meant ended ≡ map end_of (ended_watches (watched_after moves ports) t.watches) → length ended ≤ 512
unfolding ended_watches
few_ended moves ports t ended table told =
    let test = λ (w : Watch Watched). not (is_some (watched_after moves ports w.port w.watched)) in
    omega (
      arith,
      table.few,
      sym (length-map ended ended_meant) ∙ (ap length told ∙ length-map (filter test t.watches) end_of),
      length-filter test t.watches,
      count_by-le-length test t.watches,
    )
