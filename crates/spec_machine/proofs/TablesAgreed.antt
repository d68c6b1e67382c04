-- Handles and notifications over two kinds of place agree on after a reload whose moves agree.
use Rattle.std.proofs.Common.{◌≡◌, ℕ, ◌≤◌, List, [], ◌∷◌, map, length, true, cond, refl, sym, subst, inl, inr}
use Rattle.std.specs.List.{cons_option}
use Rattle.std.specs.Prelude.{Option, Some, None, ◌⊎◌, not, filter, filter_map, is_some, option_map, nat_le}
use Rattle.std.proofs.lemmas.Bool.{or_right, le-leb, lt-leb}
use Rattle.spec_machine.specs.Handles.{HandleStatus, Never, Released, Outdated, Live, live_or_outdated, Handle}
use Rattle.spec_machine.specs.Handles.{live_count, status_after_reload, handle_after_reload, handles_after}
use Rattle.spec_machine.specs.Watches.{Watch, watch_after_reload, watches_after_reload, ended_watches}
use Rattle.spec_formats.specs.Codes.{general_device_error}
use Rattle.spec_machine.specs.Acts.{Refusal}
use Rattle.spec_machine.specs.ByName.{MAX_LIVE, MAX_NUMBER, grant_act}
use Rattle.spec_machine.specs.HandleLaws.{Test, AgreeingPlaces, AgreeingMoves, AgreeingStatus, AgreeingHandles}
use Rattle.spec_machine.specs.HandleLaws.{AgreeingWatch, AgreeingWatches, TablesAgree, LimitsGrants}

places-status : {P Q : Type 0} (test : Test P Q) (port : ℕ) (o : Option P) (u : Option Q)
    → AgreeingPlaces test port o u → AgreeingStatus test port (live_or_outdated o) (live_or_outdated u)
places-status test port None None h = tt
places-status test port (Some p) (Some q) h = h
places-status test port None (Some q) h = absurd h
places-status test port (Some p) None h = absurd h

status-agrees : {P Q : Type 0} (old new : Test P Q) (moves : ℕ → P → Option P) (spans : ℕ → Q → Option Q)
    → AgreeingMoves old new moves spans → (port : ℕ) (s : HandleStatus P) (t : HandleStatus Q) → AgreeingStatus old port s t
    → AgreeingStatus new port (status_after_reload (moves port) s) (status_after_reload (spans port) t)
status-agrees old new moves spans agree port Never Never h = tt
status-agrees old new moves spans agree port Released Released h = tt
status-agrees old new moves spans agree port Outdated Outdated h = tt
status-agrees old new moves spans agree port (Live p) (Live q) h = places-status new port (moves port p) (spans port q) (agree port p q h)
status-agrees old new moves spans agree port s t h = absurd h

handles-agree : {P Q : Type 0} (old new : Test P Q) (moves : ℕ → P → Option P) (spans : ℕ → Q → Option Q)
    → AgreeingMoves old new moves spans → (hs : List (Handle P)) (ks : List (Handle Q)) → AgreeingHandles old hs ks
    → AgreeingHandles new (map (handle_after_reload moves) hs) (map (handle_after_reload spans) ks)
handles-agree old new moves spans agree [] [] h = tt
handles-agree {P} {Q} old new moves spans agree (x ∷ xs) (y ∷ ys) h =
    let S : ℕ → Type 0 = λ n. AgreeingStatus new x.port (status_after_reload (moves x.port) x.status) (status_after_reload (spans n) y.status) in
    (h.0, subst S (sym (h.0)) (status-agrees old new moves spans agree x.port x.status y.status (h.1)), handles-agree old new moves spans agree xs ys (h.2))
handles-agree old new moves spans agree [] (y ∷ ys) h = absurd h
handles-agree old new moves spans agree (x ∷ xs) [] h = absurd h

-- one notification, where it goes on
moved-watch : {P Q : Type 0} (old new : Test P Q) (w : Watch P) (v : Watch Q) (p : P) (q : Q) → AgreeingWatch old w v
    → new w.port p q ≡ true → AgreeingWatch new (record w { watched = p }) (record v { watched = q })
moved-watch old new w v p q h t =
    record { handle = h.handle; port = h.port; address = h.address; mode = h.mode; cycle = h.cycle; last = h.last; sent = h.sent; watched = t }

-- where its bytes go, in both kinds of place
watched-agrees : {P Q : Type 0} (old new : Test P Q) (moves : ℕ → P → Option P) (spans : ℕ → Q → Option Q)
    → AgreeingMoves old new moves spans → (w : Watch P) (v : Watch Q) → AgreeingWatch old w v
    → AgreeingPlaces new w.port (moves w.port w.watched) (spans v.port v.watched)
watched-agrees {P} {Q} old new moves spans agree w v h =
    let S : ℕ → Type 0 = λ n. AgreeingPlaces new w.port (moves w.port w.watched) (spans n v.watched) in
    subst S (sym h.port) (agree w.port w.watched v.watched h.watched)

watches-agree : {P Q : Type 0} (old new : Test P Q) (moves : ℕ → P → Option P) (spans : ℕ → Q → Option Q)
    → AgreeingMoves old new moves spans → (ws : List (Watch P)) (vs : List (Watch Q)) → AgreeingWatches old ws vs
    → AgreeingWatches new (filter_map (watch_after_reload moves) ws) (filter_map (watch_after_reload spans) vs)
watches-agree old new moves spans agree [] [] h = tt
watches-agree {P} {Q} old new moves spans agree (w ∷ ws) (v ∷ vs) h =
    go (moves w.port w.watched) (spans v.port v.watched) (watched-agrees old new moves spans agree w v (h.0))
    (watches-agree old new moves spans agree ws vs (h.1))
  where
    go : (o : Option P) (u : Option Q) → AgreeingPlaces new w.port o u
        → AgreeingWatches new (filter_map (watch_after_reload moves) ws) (filter_map (watch_after_reload spans) vs)
        → AgreeingWatches new (cons_option (option_map (λ p. record w { watched = p }) o) (filter_map (watch_after_reload moves) ws))
        (cons_option (option_map (λ q. record v { watched = q }) u) (filter_map (watch_after_reload spans) vs))
    go (Some p) (Some q) t rest = (moved-watch old new w v p q (h.0) t, rest)
    go None None t rest = rest
    go (Some p) None t rest = absurd t
    go None (Some q) t rest = absurd t
watches-agree old new moves spans agree [] (v ∷ vs) h = absurd h
watches-agree old new moves spans agree (w ∷ ws) [] h = absurd h

ended-agree : {P Q : Type 0} (old new : Test P Q) (moves : ℕ → P → Option P) (spans : ℕ → Q → Option Q)
    → AgreeingMoves old new moves spans → (ws : List (Watch P)) (vs : List (Watch Q)) → AgreeingWatches old ws vs
    → AgreeingWatches old (filter (λ (w : Watch P). not (is_some (moves w.port w.watched))) ws)
    (filter (λ (v : Watch Q). not (is_some (spans v.port v.watched))) vs)
ended-agree old new moves spans agree [] [] h = tt
ended-agree {P} {Q} old new moves spans agree (w ∷ ws) (v ∷ vs) h =
    go (moves w.port w.watched) (spans v.port v.watched)
    (watched-agrees old new moves spans agree w v (h.0)) (ended-agree old new moves spans agree ws vs (h.1))
  where
    ended_w : List (Watch P)
    ended_w = filter (λ (x : Watch P). not (is_some (moves x.port x.watched))) ws

    ended_v : List (Watch Q)
    ended_v = filter (λ (x : Watch Q). not (is_some (spans x.port x.watched))) vs

    go : (o : Option P) (u : Option Q) → AgreeingPlaces new w.port o u → AgreeingWatches old ended_w ended_v
        → AgreeingWatches old (cond (not (is_some o)) (w ∷ ended_w) ended_w) (cond (not (is_some u)) (v ∷ ended_v) ended_v)
    go (Some p) (Some q) t rest = rest
    go None None t rest = (h.0, rest)
    go (Some p) None t rest = absurd t
    go None (Some q) t rest = absurd t
ended-agree old new moves spans agree [] (v ∷ vs) h = absurd h
ended-agree old new moves spans agree (w ∷ ws) [] h = absurd h

pub tables_agree : (P Q : Type 0) → TablesAgree P Q
unfolding handles_after watches_after_reload ended_watches
tables_agree P Q old new moves spans agree = record {
  handles = handles-agree old new moves spans agree;
  watches = watches-agree old new moves spans agree;
  ended = ended-agree old new moves spans agree;
}

pub limits_grants : LimitsGrants
limits_grants c p place = record {
  full = full;
  granted = λ few short.
      let a = lt-leb MAX_LIVE (live_count c.handles) few in
      let b = lt-leb MAX_NUMBER (length c.handles) short in
      rw (a, b) refl;
}
  where
    full : (MAX_LIVE ≤ live_count c.handles) ⊎ (MAX_NUMBER ≤ length c.handles) → grant_act c p place ≡ Refusal general_device_error
    full (inl many) = let a = le-leb MAX_LIVE (live_count c.handles) many in rw a refl
    full (inr long) = let b = le-leb MAX_NUMBER (length c.handles) long in rw b (rw (or_right (nat_le MAX_LIVE (live_count c.handles)) true refl) refl)
