-- What ticks and reloads do to a connection in two worlds that agree on what it reads.
use Rattle.std.proofs.Common.{◌≡◌, ℕ, List, [], ◌∷◌, ◌++◌, Bool, true, false, cond, refl, sym, ◌∙◌, ap, subst, inl, inr}
use Rattle.std.specs.Prelude.{Some, None, slice_get, get_or, option_map, filter_map, if◌then◌else◌}
use Rattle.std.specs.List.{cons_option}
use Rattle.std.proofs.lemmas.Bool.{cases_Bool, cases_eq}
use Rattle.spec_plant.specs.World.{Part, SymbolPart, AreaPart, StatePart, ByteName, Block, is_block_of, block_of, byte_at, with_nth_byte}
use Rattle.spec_plant.proofs.BlockLemmas.{nth-same, nth-other}
use Rattle.spec_machine.specs.Device.{Produced, ClientOutcome}
use Rattle.spec_machine.specs.Connection.{Connection, is_deaf}
use Rattle.spec_machine.specs.Piece.{with_client}
use Rattle.spec_machine.specs.Events.{after_client_outcome, connection_after_tick, connection_after_reload}
use Rattle.spec_machine.specs.World.{World, VERSION_AT}
use Rattle.spec_machine.specs.Access.{Addressed, values_at}
use Rattle.spec_machine.specs.Watches.{Watch, is_due, is_sent, after_check, checked_watch, samples_of, watch_after_reload, watches_after_reload}
use Rattle.spec_machine.specs.Client.{Client, Kept, are_kept, kept_bytes, client_after_reload}
use Rattle.spec_machine.specs.Stamps.{frames_of_samples, samples_at, watches_after_tick}
use Rattle.spec_machine.specs.Ticks.{client_after_tick}
use Rattle.spec_machine.specs.Reloads.{is_kept, kept_block_bytes, block_after_reload, memory_after_reload, client_reloaded}
use Rattle.spec_machine.specs.AdsDevice.{DescriptionReading, ads_device}
use Rattle.spec_laws.proofs.Memory.{Agree, IsBlock, is_block-true}
use Rattle.spec_laws.proofs.Footprints.{Each, values-agree}
use Rattle.spec_laws.proofs.Exchanges.{WatchIn, WatchesIn, produce_all-client, with_memory}

checked-agree : (R : ByteName → Type 0) (now : ℕ) (m w : List Block) (ws : List (Watch (List Addressed)))
    → Each (WatchIn R) ws → Agree R m w → watches_after_tick m now ws ≡ watches_after_tick w now ws
unfolding watches_after_tick
checked-agree R now m w [] e g = refl
checked-agree R now m w (x ∷ xs) e g =
    ap (λ bytes. checked_watch now bytes x ∷ watches_after_tick m now xs) (values-agree R m w x.watched (e.0) g)
    ∙ ap (λ rest. checked_watch now (values_at w x.watched) x ∷ rest) (checked-agree R now m w xs (e.1) g)

samples-agree : (R : ByteName → Type 0) (now : ℕ) (m w : List Block) (ws : List (Watch (List Addressed)))
    → Each (WatchIn R) ws → Agree R m w → samples_at m now ws ≡ samples_at w now ws
unfolding samples_at
samples-agree R now m w [] e g = refl
samples-agree R now m w (x ∷ xs) e g =
    ap (λ bytes. samples_of now bytes x ++ samples_at m now xs) (values-agree R m w x.watched (e.0) g)
    ∙ ap (λ rest. samples_of now (values_at w x.watched) x ++ rest) (samples-agree R now m w xs (e.1) g)

-- a check keeps what is watched
watch-cond : (R : ByteName → Type 0) (b : Bool) (x y : Watch (List Addressed)) → WatchIn R x → WatchIn R y → WatchIn R (cond b x y)
watch-cond R true x y i j = i
watch-cond R false x y i j = j

checked-in : (R : ByteName → Type 0) (now : ℕ) (m : List Block) (ws : List (Watch (List Addressed)))
    → Each (WatchIn R) ws → Each (WatchIn R) (watches_after_tick m now ws)
unfolding watches_after_tick
checked-in R now m [] e = tt
checked-in R now m (x ∷ xs) e =
    let bytes = values_at m x.watched in
    (watch-cond R (is_due now x) (after_check now bytes x) x (watch-cond R (is_sent bytes x) _ _ (e.0) (e.0)) (e.0), checked-in R now m xs (e.1))

outcome-client : (o : ClientOutcome Client) (k : Connection Client) → (after_client_outcome o k).client ≡ o.client
outcome-client o k = produce_all-client o.frames (with_client o.client k)

abbrev outcome_with : Client → List Produced → ClientOutcome Client
outcome_with c fs = record { client = c; frames = fs }

pub tick-agree : (reading : DescriptionReading) (R : ByteName → Type 0) (now : ℕ) (w : World) (m : List Block) (k : Connection Client)
    → Agree R w.memory m → WatchesIn R k.client
    → connection_after_tick (ads_device reading) now w k ≡ connection_after_tick (ads_device reading) now (with_memory m w) k
unfolding connection_after_tick client_after_tick
tick-agree reading R now w m k g e =
    let c = k.client in
    ap (λ ss. cond (is_deaf k) k
    (after_client_outcome (outcome_with (record c { watches = watches_after_tick w.memory now c.watches }) (frames_of_samples w.plant.net now ss)) k))
    (samples-agree R now w.memory m c.watches e g)
    ∙ ap (λ ws. cond (is_deaf k) k
    (after_client_outcome (outcome_with (record c { watches = ws }) (frames_of_samples w.plant.net now (samples_at m now c.watches))) k))
    (checked-agree R now w.memory m c.watches e g)

pub tick-watches : (reading : DescriptionReading) (R : ByteName → Type 0) (now : ℕ) (w : World) (k : Connection Client)
    → WatchesIn R k.client → WatchesIn R (connection_after_tick (ads_device reading) now w k).client
unfolding connection_after_tick client_after_tick
tick-watches reading R now w k e = go (is_deaf k)
  where
    o : ClientOutcome Client
    o = client_after_tick now w k.client

    go : (b : Bool) → WatchesIn R (cond b k (after_client_outcome o k)).client
    go true = e
    go false = subst (WatchesIn R) (sym (outcome-client o k)) (checked-in R now w.memory k.client.watches e)

-- a reload of a client looks at no byte
pub reload-agree : (reading : DescriptionReading) (now : ℕ) (old new : World) (m n : List Block) (k : Connection Client)
    → connection_after_reload (ads_device reading) now old new k ≡ connection_after_reload (ads_device reading) now (with_memory m old) (with_memory n new) k
unfolding connection_after_reload client_reloaded
reload-agree reading now old new m n k = refl

kept-in : (R : ByteName → Type 0) (kept : Kept) (ws : List (Watch (List Addressed)))
    → Each (WatchIn R) ws → Each (WatchIn R) (filter_map (watch_after_reload (kept_bytes kept)) ws)
kept-in R kept [] e = tt
kept-in R kept (x ∷ xs) e = go (are_kept kept x.watched) (kept-in R kept xs (e.1))
  where
    go : (b : Bool) → Each (WatchIn R) (filter_map (watch_after_reload (kept_bytes kept)) xs)
        → Each (WatchIn R) (cons_option (option_map (λ watched. record x { watched = watched }) (if b then Some x.watched else None))
        (filter_map (watch_after_reload (kept_bytes kept)) xs))
    go true rest = (e.0, rest)
    go false rest = rest

pub reload-watches : (reading : DescriptionReading) (R : ByteName → Type 0) (now : ℕ) (old new : World) (k : Connection Client)
    → WatchesIn R k.client → WatchesIn R (connection_after_reload (ads_device reading) now old new k).client
unfolding connection_after_reload client_reloaded client_after_reload watches_after_reload
reload-watches reading R now old new k e = go (is_deaf k)
  where
    o : ClientOutcome Client
    o = client_reloaded now old new k.client

    go : (b : Bool) → WatchesIn R (cond b k (after_client_outcome o k)).client
    go true = e
    go false = subst (WatchesIn R) (sym (outcome-client o k)) (kept-in R (is_kept old.plant new.plant) k.client.watches e)

-- a byte of a part after a reload follows from that byte before
kept_byte : (part : Part) (xs ys first : List ℕ) (i : ℕ) → slice_get xs i ≡ slice_get ys i
    → slice_get (kept_block_bytes part xs first) i ≡ slice_get (kept_block_bytes part ys first) i
kept_byte (SymbolPart name) xs ys first i e = e
kept_byte (AreaPart area) xs ys first i e = e
kept_byte StatePart xs ys first i e =
    elim (cases_eq VERSION_AT i) [
      | inl q ↦
          let P : ℕ → Type 0 = λ j. slice_get xs j ≡ slice_get ys j → slice_get (with_nth_byte xs VERSION_AT f) j
          ≡ slice_get (with_nth_byte ys VERSION_AT f) j in
          subst P q (λ d. nth-same VERSION_AT f xs ∙ ap (option_map f) d ∙ sym (nth-same VERSION_AT f ys)) e
      | inr ne ↦ nth-other VERSION_AT i f xs (λ q. ne (sym q)) ∙ e ∙ sym (nth-other VERSION_AT i f ys (λ q. ne (sym q)))
    ]
  where
    f : ℕ → ℕ
    f was = get_or first VERSION_AT 0

block-at : (kept : Kept) (m w : List Block) (n : ByteName) (b : Block) → IsBlock n.port n.part b → byte_at m n ≡ byte_at w n
    → slice_get (block_after_reload kept m b).bytes n.index ≡ slice_get (block_after_reload kept w b).bytes n.index
unfolding byte_at
block-at kept m w n b i e =
    elim (cases_Bool (kept b.port b.part)) [
      | inl t ↦
          let f : slice_get (block_of m b.port b.part) n.index ≡ slice_get (block_of w b.port b.part) n.index = rw (i.same_port, i.same_part) e in
          rw t (kept_byte b.part (block_of m b.port b.part) (block_of w b.port b.part) b.bytes n.index f)
      | inr t ↦ rw t refl
    ]

block-is : (kept : Kept) (m : List Block) (n : ByteName) (b : Block) → is_block_of n.port n.part (block_after_reload kept m b) ≡ is_block_of n.port n.part b
block-is kept m n b =
    elim (cases_Bool (kept b.port b.part)) [
      | inl t ↦ rw t refl
      | inr t ↦ rw t refl
    ]

reloaded-at : (kept : Kept) (m w : List Block) (n : ByteName) → byte_at m n ≡ byte_at w n → (new : List Block)
    → byte_at (memory_after_reload kept m new) n ≡ byte_at (memory_after_reload kept w new) n
unfolding byte_at memory_after_reload
reloaded-at kept m w n e [] = refl
reloaded-at kept m w n e (b ∷ bs) =
    let p = block-is kept m n b in
    let q = block-is kept w n b in
    elim (cases_Bool (is_block_of n.port n.part b)) [
      | inl t ↦ let u = p ∙ t in let v = q ∙ t in rw (u, v) (block-at kept m w n b (is_block-true n.port n.part b t) e)
      | inr t ↦ let u = p ∙ t in let v = q ∙ t in rw (u, v) (reloaded-at kept m w n e bs)
    ]

pub reload_memory-agree : (R : ByteName → Type 0) (kept : Kept) (m w new : List Block)
    → Agree R m w → Agree R (memory_after_reload kept m new) (memory_after_reload kept w new)
reload_memory-agree R kept m w new g = record { same = λ n r. reloaded-at kept m w n (g.same n r) new }
