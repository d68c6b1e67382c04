-- Notifications stand by rising handle, and so do the samples of a frame.
use Rattle.std.proofs.Common.{◌≡◌, ℕ, ◌+◌, ◌<◌, ◌≤◌, List, [], ◌∷◌, ◌++◌, Bool, true, false, cond, refl, sym, subst, arith, inl, inr}
use Rattle.std.specs.Prelude.{Some, None, ◌==◌, ◌&&◌, not, filter, filter_map, option_map, if◌then◌else◌}
use Rattle.std.specs.List.{cons_option}
use Rattle.std.proofs.lemmas.Bool.{cases_Bool}
use Rattle.spec_plant.specs.World.{Block}
use Rattle.spec_formats.specs.Notification.{Sample}
use Rattle.spec_machine.specs.Connection.{connection_of}
use Rattle.spec_machine.specs.Access.{Addressed, values_at}
use Rattle.spec_machine.specs.Watches.{Watch, is_due, is_sent, checked_watch, AddressedSample, addressed_sample, watch_after_reload, watches_after_reload}
use Rattle.spec_machine.specs.Client.{Client, Effect, NoEffect, Grants, Releases, Adds, Deletes, client_after, Kept, are_kept, kept_bytes, client_after_reload}
use Rattle.spec_machine.specs.Acts.{Act, Refusal, Allowed, effect_of}
use Rattle.spec_machine.specs.Requests.{act_of}
use Rattle.spec_machine.specs.Stamps.{SampleGroup, goes_with, with_sample, grouped, samples_at, watches_after_tick}
use Rattle.spec_machine.specs.Ticks.{client_after_tick}
use Rattle.spec_machine.specs.Reloads.{is_kept, client_reloaded}
use Rattle.spec_machine.specs.AdsDevice.{ads_device}
use Rattle.spec_machine.proofs.Carried.{log-carried}
use Rattle.spec_laws.specs.Isolation.{start_in}
use Rattle.spec_laws.specs.Soundness.{Each}
use Rattle.spec_laws.specs.Rising.{AreRising, WatchesRise, SamplesRise, IsRisingGroup, HandlesRise}
use Rattle.spec_laws.proofs.NextWatches.{NextEffect, NextAct, act-next}
use Rattle.spec_laws.proofs.KeptClients.{Keeps, MaybeKept, carries}

-- from above a lower number
lower : (low mid : ℕ) (ws : List (Watch (List Addressed))) (high : ℕ) → low ≤ mid → AreRising mid ws high → AreRising low ws high
lower low mid [] high l r = omega (arith, l, r)
lower low mid (w ∷ ws) high l r = let a = r.0 in (omega (arith, l, a), r.1)

pushed : (low : ℕ) (ws : List (Watch (List Addressed))) (w : Watch (List Addressed)) (high : ℕ)
    → AreRising low ws high → w.handle ≡ high + 1 → AreRising low (ws ++ w ∷ []) (high + 1)
pushed low [] w high r e = (omega (arith, r, e), omega (arith, e))
pushed low (v ∷ vs) w high r e = (r.0, pushed v.handle vs w high (r.1) e)

filtered : (low : ℕ) (test : Watch (List Addressed) → Bool) (ws : List (Watch (List Addressed))) (high : ℕ)
    → AreRising low ws high → AreRising low (filter test ws) high
filtered low test [] high r = r
filtered low test (w ∷ ws) high r =
    elim (cases_Bool (test w)) [
      | inl t ↦ rw t (r.0, filtered w.handle test ws high (r.1))
      | inr t ↦ rw t (let a = r.0 in lower low w.handle (filter test ws) high (omega (arith, a)) (filtered w.handle test ws high (r.1)))
    ]

kept : (low : ℕ) (k : Kept) (ws : List (Watch (List Addressed))) (high : ℕ)
    → AreRising low ws high → AreRising low (filter_map (watch_after_reload (kept_bytes k)) ws) high
kept low k [] high r = r
kept low k (w ∷ ws) high r = go (are_kept k w.watched) (kept w.handle k ws high (r.1))
  where
    rest : List (Watch (List Addressed))
    rest = filter_map (watch_after_reload (kept_bytes k)) ws

    go : (b : Bool) → AreRising w.handle rest high
        → AreRising low (cons_option (option_map (λ watched. record w { watched = watched }) (if b then Some w.watched else None)) rest) high
    go true h = (r.0, h)
    go false h = let a = r.0 in lower low w.handle rest high (omega (arith, a)) h

checked-handle : (now : ℕ) (bytes : List ℕ) (w : Watch (List Addressed)) → (checked_watch now bytes w).handle ≡ w.handle
checked-handle now bytes w = go (is_due now w) (is_sent bytes w)
  where
    go : (a b : Bool) → (cond a (cond b (record w { last = Some now; sent = bytes }) (record w { last = Some now })) w).handle ≡ w.handle
    go true true = refl
    go true false = refl
    go false b = refl

checked : (low : ℕ) (m : List Block) (now : ℕ) (ws : List (Watch (List Addressed))) (high : ℕ)
    → AreRising low ws high → AreRising low (watches_after_tick m now ws) high
unfolding watches_after_tick
checked low m now [] high r = r
checked low m now (w ∷ ws) high r =
    let e = checked-handle now (values_at m w.watched) w in
    let a = r.0 in
    (omega (arith, e, a), subst (λ n. AreRising n (watches_after_tick m now ws) high) (sym e) (checked w.handle m now ws high (r.1)))

effect-rises : (c : Client) (x : Effect) → WatchesRise c → NextEffect c x → WatchesRise (client_after c x)
unfolding client_after
effect-rises c NoEffect r h = r
effect-rises c (Grants port place) r h = r
effect-rises c (Releases handle) r h = r
effect-rises c (Adds w) r h = pushed 0 c.watches w c.additions r h
effect-rises c (Deletes handle) r h = filtered 0 (λ (v : Watch (List Addressed)). not (v.handle == handle)) c.watches c.additions r

act-rises : (c : Client) (a : Act) → WatchesRise c → NextAct c a → WatchesRise (client_after c (effect_of a))
act-rises c (Refusal code) r h = effect-rises c NoEffect r tt
act-rises c (Allowed a) r h = effect-rises c a.effect r h.next

rise_kept : Keeps WatchesRise
unfolding client_after_tick client_reloaded client_after_reload watches_after_reload
rise_kept = record {
  new = omega arith;
  request = λ d c k r i. act-rises c (act_of d c k r) i (act-next d c k r);
  tick = λ now w c i. checked 0 w.memory now c.watches c.additions i;
  reload = λ now old new c i. kept 0 (is_kept old.plant new.plant) c.watches c.additions i;
}

-- the samples of a tick rise, and each joins a group whose samples are below it

abbrev OrderedSamples : ℕ → List AddressedSample → Type 0
OrderedSamples low [] = Unit {0}
OrderedSamples low (s ∷ ss) = (low < s.sample.handle) × OrderedSamples s.sample.handle ss

samples_lower : (low mid : ℕ) (ss : List AddressedSample) → low ≤ mid → OrderedSamples mid ss → OrderedSamples low ss
samples_lower low mid [] l r = tt
samples_lower low mid (s ∷ ss) l r = let a = r.0 in (omega (arith, l, a), r.1)

tick-samples : (low : ℕ) (m : List Block) (now : ℕ) (ws : List (Watch (List Addressed))) (high : ℕ)
    → AreRising low ws high → OrderedSamples low (samples_at m now ws)
unfolding samples_at
tick-samples low m now [] high r = tt
tick-samples low m now (w ∷ ws) high r = go (is_due now w && is_sent (values_at m w.watched) w) (tick-samples w.handle m now ws high (r.1))
  where
    go : (b : Bool) → OrderedSamples w.handle (samples_at m now ws)
        → OrderedSamples low (cond b (addressed_sample (values_at m w.watched) w ∷ []) [] ++ samples_at m now ws)
    go true h = (r.0, h)
    go false h = let a = r.0 in samples_lower low w.handle (samples_at m now ws) (omega (arith, a)) h

-- samples that rise up to a number at most
abbrev SamplesUpTo : ℕ → List Sample → ℕ → Type 0
SamplesUpTo low [] high = low ≤ high
SamplesUpTo low (s ∷ ss) high = (low < s.handle) × SamplesUpTo s.handle ss high

abbrev GroupUpTo : ℕ → SampleGroup → Type 0
GroupUpTo high g = SamplesUpTo 0 g.samples high

up_to_rise : (low : ℕ) (ss : List Sample) (high : ℕ) → SamplesUpTo low ss high → SamplesRise low ss
up_to_rise low [] high r = tt
up_to_rise low (s ∷ ss) high r = (r.0, up_to_rise s.handle ss high (r.1))

higher : (low : ℕ) (ss : List Sample) (high more : ℕ) → high ≤ more → SamplesUpTo low ss high → SamplesUpTo low ss more
higher low [] high more l r = omega (arith, l, r)
higher low (s ∷ ss) high more l r = (r.0, higher s.handle ss high more l (r.1))

joined : (low : ℕ) (ss : List Sample) (high : ℕ) (s : Sample) → SamplesUpTo low ss high → high < s.handle → SamplesUpTo low (ss ++ s ∷ []) s.handle
joined low [] high s r l = (omega (arith, r, l), omega arith)
joined low (x ∷ xs) high s r l = (r.0, joined x.handle xs high s (r.1) l)

all-higher : (gs : List SampleGroup) (high more : ℕ) → high ≤ more → Each (GroupUpTo high) gs → Each (GroupUpTo more) gs
all-higher [] high more l e = tt
all-higher (g ∷ gs) high more l e = (higher 0 g.samples high more l (e.0), all-higher gs high more l (e.1))

with_sample-rises : (gs : List SampleGroup) (s : AddressedSample) (high : ℕ) → Each (GroupUpTo high) gs
    → high < s.sample.handle → Each (GroupUpTo s.sample.handle) (with_sample gs s)
with_sample-rises [] s high e l = ((omega (arith, l), omega arith), tt)
with_sample-rises (g ∷ gs) s high e l =
    elim (cases_Bool (goes_with s g)) [
      | inl t ↦ rw t (joined 0 g.samples high s.sample (e.0) l, all-higher gs high s.sample.handle (omega (arith, l)) (e.1))
      | inr t ↦ rw t (higher 0 g.samples high s.sample.handle (omega (arith, l)) (e.0), with_sample-rises gs s high (e.1) l)
    ]

grouped-rise : (ss : List AddressedSample) (gs : List SampleGroup) (high : ℕ)
    → Each (GroupUpTo high) gs → OrderedSamples high ss → Each IsRisingGroup (grouped gs ss)
unfolding grouped
grouped-rise [] gs high e o = all gs e
  where
    all : (gs : List SampleGroup) → Each (GroupUpTo high) gs → Each IsRisingGroup gs
    all [] e = tt
    all (g ∷ gs) e = (up_to_rise 0 g.samples high (e.0), all gs (e.1))
grouped-rise (s ∷ ss) gs high e o = grouped-rise ss (with_sample gs s) s.sample.handle (with_sample-rises gs s high e (o.0)) (o.1)

pub handles_rise : HandlesRise
unfolding connection_of
handles_rise reading profile d signals log c k found =
    let rises = subst (MaybeKept WatchesRise) found
    (log-carried (ads_device reading) (MaybeKept WatchesRise) (carries reading WatchesRise (rise_kept)) c log (start_in profile d signals) tt) in
    record {
      watches = rises;
      samples = λ memory now. grouped-rise (samples_at memory now k.client.watches) [] 0 tt
          (tick-samples 0 memory now k.client.watches k.client.additions rises);
    }
