-- The notification of a handle among a client's, once something became of them.
use Rattle.std.proofs.Common.{◌≡◌, ◌≢◌, ◌⊎◌, ℕ, ◌≤◌, List, [], ◌∷◌, ◌++◌, map, Bool, true, false, cond, refl, sym, ◌∙◌, ap, subst, inl, inr, arith}
use Rattle.std.specs.Prelude.{Some, None, ◌==◌, ◌&&◌, not, filter, filter_map, option_map, if◌then◌else◌}
use Rattle.std.specs.List.{cons_option}
use Rattle.std.proofs.lemmas.Bool.{cases_Bool, cases_eq, eqb-true}
use Rattle.std.proofs.lemmas.List.{map-append}
use Rattle.std.proofs.lemmas.List.Elements.{filter-append}
use Rattle.spec_plant.specs.World.{Block}
use Rattle.spec_machine.specs.Access.{Addressed, values_at}
use Rattle.spec_machine.specs.Watches.{Watch, is_due, is_sent, checked_watch, AddressedSample, addressed_sample, samples_of, watch_after_reload}
use Rattle.spec_machine.specs.Client.{Client, Effect, NoEffect, Grants, Releases, Adds, Deletes, Kept, are_kept, kept_bytes, client_after}
use Rattle.spec_machine.specs.Acts.{Act, Refusal, Allowed, effect_of}
use Rattle.spec_machine.specs.Requests.{act_of}
use Rattle.spec_machine.specs.Stamps.{samples_at, watches_after_tick}
use Rattle.spec_machine.proofs.Find.{test_other}
use Rattle.spec_laws.specs.Rising.{AreRising}
use Rattle.spec_laws.proofs.NextWatches.{NextEffect, NextAct, act-next}
use Rattle.spec_promises.specs.Asked.{Asked, after_asked}
use Rattle.spec_promises.specs.Notified.{watch_numbered, bytes_given}
use Rattle.spec_promises.proofs.AskedLemmas.{LeadsClient}

-- one more, behind all others
found-pushed : (h : ℕ) (ws : List (Watch (List Addressed))) (v w : Watch (List Addressed)) → watch_numbered h ws ≡ Some w
    → watch_numbered h (ws ++ v ∷ []) ≡ Some w
found-pushed h [] v w e = cc
found-pushed h (x ∷ xs) v w e =
    elim (cases_Bool (x.handle == h)) [
      | inl t ↦ let f = rw t at e in rw t f
      | inr t ↦ let f : watch_numbered h xs ≡ Some w = rw t at e in rw t (found-pushed h xs v w f)
    ]

absent-pushed : (h : ℕ) (ws : List (Watch (List Addressed))) (v : Watch (List Addressed)) → watch_numbered h ws ≡ None → v.handle ≢ h
    → watch_numbered h (ws ++ v ∷ []) ≡ None
absent-pushed h [] v e ne = let t = test_other v.handle h ne in rw t refl
absent-pushed h (x ∷ xs) v e ne =
    elim (cases_Bool (x.handle == h)) [
      | inl t ↦ let f : Some x ≡ None = rw t at e in cc
      | inr t ↦ let f : watch_numbered h xs ≡ None = rw t at e in rw t (absent-pushed h xs v f ne)
    ]

abbrev without : ℕ → List (Watch (List Addressed)) → List (Watch (List Addressed))
without n ws = filter (λ (v : Watch (List Addressed)). not (v.handle == n)) ws

removed : (h : ℕ) (ws : List (Watch (List Addressed))) → watch_numbered h (without h ws) ≡ None
removed h [] = refl
removed h (x ∷ xs) =
    elim (cases_Bool (x.handle == h)) [
      | inl t ↦ rw t (removed h xs)
      | inr t ↦ rw (t, t) (removed h xs)
    ]

kept-others : (h n : ℕ) → n ≢ h → (ws : List (Watch (List Addressed))) → watch_numbered h (without n ws) ≡ watch_numbered h ws
kept-others h n ne [] = refl
kept-others h n ne (x ∷ xs) =
    elim (cases_Bool (x.handle == n)) [
      | inl t ↦
          let u = test_other x.handle h (λ e. ne (sym (eqb-true x.handle n t) ∙ e)) in
          rw (t, u) (kept-others h n ne xs)
      | inr t ↦ rw t (ap (λ o. cond (x.handle == h) (Some x) o) (kept-others h n ne xs))
    ]

-- it is there as it was, or there no more; and its number was given
pub record StillOrEnded (h : ℕ) (w : Watch (List Addressed)) (c : Client) : Type 0 where
  pub there : (watch_numbered h c.watches ≡ Some w) ⊎ (watch_numbered h c.watches ≡ None)
  pub known : h ≤ c.additions

effect-keeps : (h : ℕ) (w : Watch (List Addressed)) (c : Client) (x : Effect) → StillOrEnded h w c → NextEffect c x → StillOrEnded h w (client_after c x)
unfolding client_after
effect-keeps h w c NoEffect s n = s
effect-keeps h w c (Grants port place) s n = record { there = s.there; known = s.known }
effect-keeps h w c (Releases handle) s n = record { there = s.there; known = s.known }
effect-keeps h w c (Adds v) s n =
    let l = s.known in
    record {
      there = elim s.there [
        | inl e ↦ inl (found-pushed h c.watches v w e)
        | inr e ↦ inr (absent-pushed h c.watches v e (λ q. omega (arith, l, n, q)))
      ];
      known = omega (arith, l);
    }
effect-keeps h w c (Deletes handle) s n = record {
  there = elim (cases_eq handle h) [
    | inl q ↦ inr (subst (λ i. watch_numbered h (without i c.watches) ≡ None) (sym q) (removed h c.watches))
    | inr ne ↦ let same = kept-others h handle ne c.watches in elim s.there [ inl e ↦ inl (same ∙ e) | inr e ↦ inr (same ∙ e) ]
  ];
  known = s.known;
}

act-keeps : (h : ℕ) (w : Watch (List Addressed)) (c : Client) (a : Act) → StillOrEnded h w c → NextAct c a → StillOrEnded h w (client_after c (effect_of a))
act-keeps h w c (Refusal code) s n = effect-keeps h w c NoEffect s tt
act-keeps h w c (Allowed a) s n = effect-keeps h w c a.effect s n.next

-- requests one after another
pub requests-keep : (h : ℕ) (w : Watch (List Addressed)) (as_ : List Asked) (first last : Client) → LeadsClient first as_ last
    → StillOrEnded h w first → StillOrEnded h w last
requests-keep h w [] first last e s = subst (StillOrEnded h w) e s
requests-keep h w (a ∷ as_) first last e s =
    let here = subst (StillOrEnded h w) (sym (e.0)) s in
    requests-keep h w as_ (after_asked a).client last (e.1)
    (act-keeps h w a.before.client (act_of a.setup a.before.client a.asker a.request) here (act-next a.setup a.before.client a.asker a.request))

-- a tick

pub checked-handle : (now : ℕ) (bytes : List ℕ) (w : Watch (List Addressed)) → (checked_watch now bytes w).handle ≡ w.handle
checked-handle now bytes w = go (is_due now w) (is_sent bytes w)
  where
    go : (a b : Bool) → (cond a (cond b (record w { last = Some now; sent = bytes }) (record w { last = Some now })) w).handle ≡ w.handle
    go true true = refl
    go true false = refl
    go false b = refl

pub found-checked : (m : List Block) (now h : ℕ) (ws : List (Watch (List Addressed))) (w : Watch (List Addressed)) → watch_numbered h ws ≡ Some w
    → watch_numbered h (watches_after_tick m now ws) ≡ Some (checked_watch now (values_at m w.watched) w)
unfolding watches_after_tick
found-checked m now h [] w e = cc
found-checked m now h (x ∷ xs) w e =
    let same : ((checked_watch now (values_at m x.watched) x).handle == h) ≡ (x.handle == h) =
    ap (λ n. n == h) (checked-handle now (values_at m x.watched) x) in
    elim (cases_Bool (x.handle == h)) [
      | inl t ↦
          let f : Some x ≡ Some w = rw t at e in
          let g : x ≡ w = cc in
          let u = same ∙ t in
          rw u (ap (λ (y : Watch (List Addressed)). Some (checked_watch now (values_at m y.watched) y)) g)
      | inr t ↦
          let f : watch_numbered h xs ≡ Some w = rw t at e in
          let u = same ∙ t in
          rw u (found-checked m now h xs w f)
    ]

-- the samples of a tick

bytes-append : (h : ℕ) (xs ys : List AddressedSample) → bytes_given h (xs ++ ys) ≡ bytes_given h xs ++ bytes_given h ys
bytes-append h xs ys =
    ap (map (λ (s : AddressedSample). s.sample.bytes)) (filter-append (λ (s : AddressedSample). s.sample.handle == h) xs ys)
    ∙ map-append (λ (s : AddressedSample). s.sample.bytes) (filter (λ (s : AddressedSample). s.sample.handle == h) xs)
    (filter (λ (s : AddressedSample). s.sample.handle == h) ys)

-- those of one notification
bytes-own : (h now : ℕ) (b : List ℕ) (w : Watch (List Addressed)) → (w.handle == h) ≡ true
    → bytes_given h (samples_of now b w) ≡ map (λ (s : AddressedSample). s.sample.bytes) (samples_of now b w)
bytes-own h now b w t = go (is_due now w && is_sent b w)
  where
    go : (d : Bool) → bytes_given h (cond d (addressed_sample b w ∷ []) []) ≡ map (λ (s : AddressedSample). s.sample.bytes)
        (cond d (addressed_sample b w ∷ []) [])
    go true = rw t refl
    go false = refl

bytes-other : (h now : ℕ) (b : List ℕ) (w : Watch (List Addressed)) → (w.handle == h) ≡ false → bytes_given h (samples_of now b w) ≡ []
bytes-other h now b w t = go (is_due now w && is_sent b w)
  where
    go : (d : Bool) → bytes_given h (cond d (addressed_sample b w ∷ []) []) ≡ []
    go true = rw t refl
    go false = refl

-- those above give none
bytes-above : (m : List Block) (now h low : ℕ) (ws : List (Watch (List Addressed))) (high : ℕ) → AreRising low ws high → h ≤ low
    → bytes_given h (samples_at m now ws) ≡ []
unfolding samples_at
bytes-above m now h low [] high r l = refl
bytes-above m now h low (x ∷ xs) high r l =
    let a = r.0 in
    let t = test_other x.handle h (λ e. omega (arith, a, l, e)) in
    bytes-append h (samples_of now (values_at m x.watched) x) (samples_at m now xs)
    ∙ ap (λ ys. ys ++ bytes_given h (samples_at m now xs)) (bytes-other h now (values_at m x.watched) x t)
    ∙ bytes-above m now h x.handle xs high (r.1) (omega (arith, a, l))

append-nothing : (xs : List (List ℕ)) → xs ++ [] ≡ xs
append-nothing [] = refl
append-nothing (x ∷ xs) = ap (λ ys. x ∷ ys) (append-nothing xs)

pub bytes-found : (m : List Block) (now h low : ℕ) (ws : List (Watch (List Addressed))) (high : ℕ) (w : Watch (List Addressed)) → AreRising low ws high
    → watch_numbered h ws ≡ Some w
    → bytes_given h (samples_at m now ws) ≡ map (λ (s : AddressedSample). s.sample.bytes) (samples_of now (values_at m w.watched) w)
unfolding samples_at
bytes-found m now h low [] high w r e = cc
bytes-found m now h low (x ∷ xs) high w r e =
    let here = samples_of now (values_at m x.watched) x in
    elim (cases_Bool (x.handle == h)) [
      | inl t ↦
          let f : Some x ≡ Some w = rw t at e in
          let g : x ≡ w = cc in
          let is = eqb-true x.handle h t in
          bytes-append h here (samples_at m now xs)
          ∙ ap (λ ys. bytes_given h here ++ ys) (bytes-above m now h x.handle xs high (r.1) (omega (arith, is)))
          ∙ append-nothing (bytes_given h here) ∙ bytes-own h now (values_at m x.watched) x t
          ∙ ap (λ (y : Watch (List Addressed)). map (λ (s : AddressedSample). s.sample.bytes) (samples_of now (values_at m y.watched) y)) g
      | inr t ↦
          let f : watch_numbered h xs ≡ Some w = rw t at e in
          bytes-append h here (samples_at m now xs)
          ∙ ap (λ ys. ys ++ bytes_given h (samples_at m now xs)) (bytes-other h now (values_at m x.watched) x t)
          ∙ bytes-found m now h x.handle xs high w (r.1) f
    ]

-- a reload

reload-above : (k : Kept) (h low : ℕ) (ws : List (Watch (List Addressed))) (high : ℕ) → AreRising low ws high → h ≤ low
    → watch_numbered h (filter_map (watch_after_reload (kept_bytes k)) ws) ≡ None
reload-above k h low [] high r l = refl
reload-above k h low (x ∷ xs) high r l =
    let a = r.0 in
    go (are_kept k x.watched) (test_other x.handle h (λ e. omega (arith, a, l, e))) (reload-above k h x.handle xs high (r.1) (omega (arith, a, l)))
  where
    rest : List (Watch (List Addressed))
    rest = filter_map (watch_after_reload (kept_bytes k)) xs

    go : (b : Bool) → (x.handle == h) ≡ false → watch_numbered h rest ≡ None
        → watch_numbered h (cons_option (option_map (λ watched. record x { watched = watched }) (if b then Some x.watched else None)) rest) ≡ None
    go true t e = rw t e
    go false t e = e

pub reload-found : (k : Kept) (h low : ℕ) (ws : List (Watch (List Addressed))) (high : ℕ) (w : Watch (List Addressed)) → AreRising low ws high
    → watch_numbered h ws ≡ Some w
    → (watch_numbered h (filter_map (watch_after_reload (kept_bytes k)) ws) ≡ Some w)
    ⊎ (watch_numbered h (filter_map (watch_after_reload (kept_bytes k)) ws) ≡ None)
reload-found k h low [] high w r e = cc
reload-found k h low (x ∷ xs) high w r e =
    elim (cases_Bool (x.handle == h)) [
      | inl t ↦
          let f : Some x ≡ Some w = rw t at e in
          let is = eqb-true x.handle h t in
          own (are_kept k x.watched) t f (reload-above k h x.handle xs high (r.1) (omega (arith, is)))
      | inr t ↦
          let f : watch_numbered h xs ≡ Some w = rw t at e in
          other (are_kept k x.watched) t (reload-found k h x.handle xs high w (r.1) f)
    ]
  where
    rest : List (Watch (List Addressed))
    rest = filter_map (watch_after_reload (kept_bytes k)) xs

    after : Bool → List (Watch (List Addressed))
    after b = cons_option (option_map (λ watched. record x { watched = watched }) (if b then Some x.watched else None)) rest

    own : (b : Bool) → (x.handle == h) ≡ true → Some x ≡ Some w → watch_numbered h rest ≡ None
        → (watch_numbered h (after b) ≡ Some w) ⊎ (watch_numbered h (after b) ≡ None)
    own true t f e = inl (rw t f)
    own false t f e = inr e

    other : (b : Bool) → (x.handle == h) ≡ false → (watch_numbered h rest ≡ Some w) ⊎ (watch_numbered h rest ≡ None)
        → (watch_numbered h (after b) ≡ Some w) ⊎ (watch_numbered h (after b) ≡ None)
    other true t (inl e) = inl (rw t e)
    other true t (inr e) = inr (rw t e)
    other false t e = e
