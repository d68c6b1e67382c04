-- A write that is accepted puts its bytes where a read would come from.
use Rattle.std.proofs.Common.{◌≡◌, ◌≢◌, ◌⊎◌, ℕ, ◌+◌, ◌/◌, ◌%◌, ◌^◌, ◌<◌, ◌≤◌, List, [], ◌∷◌, ◌++◌, map, length, take}
use Rattle.std.proofs.Common.{drop, Bool, true, false, cond, refl, sym, ◌∙◌, ap, subst, inl, inr, arith}
use Rattle.std.specs.Prelude.{min, Option, Some, None, option_and_then, unwrap_or, Result, Ok, Err, nat_lt, nat_le, ◌==◌, ◌||◌, not}
use Rattle.std.specs.Option.{option_map_or}
use Rattle.std.proofs.lemmas.Bool.{cases_Bool, false≢true, or_parts, ltb-false, leb-false, eqb-true}
use Rattle.std.proofs.lemmas.List.{take_at, drop_at, length-map, length-take-le}
use Rattle.spec_plant.specs.Description.{Area, size_in}
use Rattle.spec_plant.specs.World.{Plant, PlantPort, ByteName, Block, byte_at, byte_or_zero}
use Rattle.spec_plant.specs.Named.{AreNamedApart, symbol_named}
use Rattle.spec_plant.proofs.SoundLemmas.{port_sound, symbol_sound, symbol_at}
use Rattle.spec_formats.specs.Codes.{no_error, invalid_group, invalid_offset, invalid_size, not_permitted, symbol_not_found, symbol_version_invalid}
use Rattle.spec_formats.specs.Groups.{Group, AreaBytes, AreaBit, ValueByHandle, ReleaseHandle, is_value_group, group_of, group_in}
use Rattle.spec_formats.specs.Ranges.{greatest_len, byte_range, bit_range, range_in}
use Rattle.spec_formats.specs.Request.{Request, Write}
use Rattle.spec_formats.specs.Numbers.{number32}
use Rattle.spec_machine.specs.Manner.{Manner, Strict, Wide}
use Rattle.spec_machine.specs.World.{Setup, numbers_from, name_at, names_at, symbol_names, content_of}
use Rattle.spec_machine.specs.Access.{Addressed, WholeByte, OneBit, values_at, puts_of, memory_after_put, memory_after_puts}
use Rattle.spec_machine.specs.AreaContent.{IsThere}
use Rattle.spec_machine.specs.Handles.{HandleStatus, Never, Released, Outdated, Live, kept_status}
use Rattle.spec_machine.specs.Client.{Place, names_of_place, Client, client_after}
use Rattle.spec_machine.specs.Acts.{Act, Refusal, Outcome, writing, outcome_of, memory_after, effect_of}
use Rattle.spec_machine.specs.Answers.{answered_group, if_answered, READ, WRITE}
use Rattle.spec_machine.specs.Reach.{addressed_by_range, addressed_by_status, reach_of}
use Rattle.spec_machine.specs.Reads.{read_act, read_group}
use Rattle.spec_machine.specs.Writes.{Asker, may_write, are_writable, write_act, is_releasable, release_act, write_group}
use Rattle.spec_machine.specs.Meanings.{len_by_status, read_len_in}
use Rattle.spec_machine.specs.MoreActs.{device_data}
use Rattle.spec_machine.specs.Requests.{plain_act, act_of}
use Rattle.spec_machine.specs.SumLaws.{Party, single_outcome}
use Rattle.spec_machine.proofs.AreaContent.{numbers-length, reads_content, writes_content}
use Rattle.spec_machine.proofs.AreaNames.{spans_give_names}
use Rattle.spec_machine.proofs.MoreActs.{more_read-none}
use Rattle.spec_laws.specs.ExactWrites.{IsBitPut}
use Rattle.spec_laws.specs.Soundness.{Each}
use Rattle.spec_laws.specs.Reachable.{IsPlaced, IsPlacedStatus, IsPlacedHandle}
use Rattle.spec_laws.proofs.BitWrites.{puts_bits}
use Rattle.spec_laws.proofs.FineActs.{IsAsked, kept-placed}
use Rattle.spec_laws.proofs.FirstMemory.{there_by_length, area-named}
use Rattle.spec_promises.specs.Asked.{Asked}
use Rattle.spec_promises.specs.Written.{HoldsBytes, HoldsBit, HoldsAt, read_back, written_group, IsWritten, IsDone}
use Rattle.spec_promises.proofs.Seen.{Sees}

if_both : {A : Type 0} (P : A → Type 0) (b : Bool) (x y : A) → (b ≡ true → P x) → (b ≡ false → P y) → P (cond b x y)
if_both P true x y p q = p refl
if_both P false x y p q = q refl

-- what an access reaches: nothing, by a code other than 0, or these places
abbrev ReachCase : (List Addressed → Type 0) → Result (List Addressed) ℕ → Type 0
ReachCase Q r = ((code : ℕ) × (r ≡ Err code) × (code ≢ no_error)) ⊎ ((places : List Addressed) × (r ≡ Ok places) × Q places)

-- the bytes of an area
record InArea (p : PlantPort) (area : Area) (offset len : ℕ) (places : List Addressed) : Type 0 where
  places_are : places ≡ map WholeByte (names_at p area offset len)
  within : offset + len ≤ size_in p.sizes area

bytes-reach : (c : Client) (p : PlantPort) (area : Area) (offset len : ℕ)
    → ReachCase (InArea p area offset len) (reach_of c p (Some (AreaBytes area)) offset len)
unfolding reach_of range_in byte_range
bytes-reach c p area offset len =
    if_both (λ r. ReachCase (InArea p area offset len) (addressed_by_range p r)) (nat_lt (size_in p.sizes area) offset) _ _
    (λ t. inl (invalid_offset, refl, λ e. cc))
    (λ t. if_both (λ r. ReachCase (InArea p area offset len) (addressed_by_range p r))
    (nat_lt (size_in p.sizes area) (offset + len) || nat_lt greatest_len len) _ _
    (λ u. inl (invalid_size, refl, λ e. cc))
    (λ u.
    let v = or_parts (nat_lt (size_in p.sizes area) (offset + len)) (nat_lt greatest_len len) u in
    let l = ltb-false (size_in p.sizes area) (offset + len) (v.0) in
    inr (map WholeByte (names_at p area offset len), refl, record { places_are = refl; within = omega (arith, l) })))

-- one bit of a byte of an area
record InBit (p : PlantPort) (area : Area) (offset len : ℕ) (places : List Addressed) : Type 0 where
  places_are : places ≡ OneBit (name_at p area (offset / 8)) (offset % 8) ∷ []
  within : offset / 8 < size_in p.sizes area
  one : len ≡ 1

bit-reach : (c : Client) (p : PlantPort) (area : Area) (offset len : ℕ) → ReachCase (InBit p area offset len) (reach_of c p (Some (AreaBit area)) offset len)
unfolding reach_of range_in bit_range
bit-reach c p area offset len =
    if_both (λ r. ReachCase (InBit p area offset len) (addressed_by_range p r)) (nat_le (size_in p.sizes area) (offset / 8)) _ _
    (λ t. inl (invalid_offset, refl, λ e. cc))
    (λ t. if_both (λ r. ReachCase (InBit p area offset len) (addressed_by_range p r)) (len == 1) _ _
    (λ u. inr (
      OneBit (name_at p area (offset / 8)) (offset % 8) ∷ [],
      refl,
      record
          { places_are = refl; within = leb-false (size_in p.sizes area) (offset / 8) t; one = eqb-true len 1 u },
    ))
    (λ u. inl (invalid_size, refl, λ e. cc)))

-- the first bytes of the place of a live handle
record InPlace (c : Client) (p : PlantPort) (handle len : ℕ) (places : List Addressed) : Type 0 where
  place : Place
  live : kept_status c.handles handle p.number ≡ Live place
  fits : len ≤ place.len
  places_are : places ≡ map WholeByte (names_of_place p.number place len)

handle-reach : (c : Client) (p : PlantPort) (handle len : ℕ) → ReachCase (InPlace c p handle len) (reach_of c p (Some ValueByHandle) handle len)
unfolding reach_of
handle-reach c p handle len = go (kept_status c.handles handle p.number) refl
  where
    go : (s : HandleStatus Place) → kept_status c.handles handle p.number ≡ s → ReachCase (InPlace c p handle len) (addressed_by_status p.number s len)
    go Never e = inl (symbol_not_found, refl, λ e. cc)
    go Released e = inl (symbol_not_found, refl, λ e. cc)
    go Outdated e = inl (symbol_version_invalid, refl, λ e. cc)
    go (Live place) e =
        if_both (ReachCase (InPlace c p handle len)) (nat_lt place.len len) _ _
        (λ t. inl (invalid_size, refl, λ e. cc))
        (λ t. inr (
          map WholeByte (names_of_place p.number place len),
          refl,
          record
              { place = place; live = e; fits = (let l = ltb-false place.len len t in omega (arith, l)); places_are = refl },
        ))

-- what a write does: it is refused by a code other than 0, or it puts the bytes at the places that it reaches
abbrev WriteCase : (List Addressed → Type 0) → List ℕ → Result (List Addressed) ℕ → Act → Type 0
WriteCase Q bytes r a =
    ((code : ℕ) × (a ≡ Refusal code) × (code ≢ no_error)) ⊎ ((places : List Addressed) × (a ≡ writing (puts_of places bytes)) × (r ≡ Ok places) × Q places)

act-case : (k : Asker) (bytes : List ℕ) (Q : List Addressed → Type 0) (r : Result (List Addressed) ℕ) → ReachCase Q r
    → WriteCase Q bytes r (write_act k bytes r)
act-case k bytes Q r (inl (code, e, ne)) = subst (λ x. WriteCase Q bytes x (write_act k bytes x)) (sym e) (inl (code, refl, ne))
act-case k bytes Q r (inr (places, e, q)) =
    subst (λ x. WriteCase Q bytes x (write_act k bytes x)) (sym e)
    (if_both (WriteCase Q bytes (Ok places)) (are_writable k.address.net k.port places) _ _ (λ t. inr (places, refl, refl, q))
    (λ t. inl (not_permitted, refl, λ e. cc)))

-- an accepted write
record Puts (Q : List Addressed → Type 0) (bytes : List ℕ) (r : Result (List Addressed) ℕ) (a : Act) : Type 0 where
  places : List Addressed
  act : a ≡ writing (puts_of places bytes)
  reach : r ≡ Ok places
  fact : Q places

accepted : (Q : List Addressed → Type 0) (bytes : List ℕ) (r : Result (List Addressed) ℕ) (a : Act) (m : List Block) → WriteCase Q bytes r a
    → (outcome_of m a).code ≡ no_error → Puts Q bytes r a
accepted Q bytes r a m (inl (code, e, ne)) h = absurd (ne (sym (ap (λ x. (outcome_of m x).code) e) ∙ h))
accepted Q bytes r a m (inr (places, e, f, q)) h = record { places = places; act = e; reach = f; fact = q }

-- what is read with the next request
abbrev ReadsNext : Setup → Client → Asker → Option Group → ℕ → List ℕ → List Block → Act → Type 0
ReadsNext d c k g offset bytes m a =
    outcome_of (memory_after m a) (read_group d (client_after c (effect_of a)) k.port g offset (length bytes))
    ≡ record { code = no_error; bytes = read_back g bytes }

reads_next : (d : Setup) (c : Client) (k : Asker) (g : Option Group) (offset : ℕ) (bytes : List ℕ) (m : List Block) (a : Act) (places : List Addressed)
    → a ≡ writing (puts_of places bytes) → reach_of c k.port g offset (length bytes) ≡ Ok places
    → read_group d c k.port g offset (length bytes) ≡ read_act (reach_of c k.port g offset (length bytes))
    → values_at (memory_after_puts m (puts_of places bytes)) places ≡ read_back g bytes → ReadsNext d c k g offset bytes m a
unfolding client_after
reads_next d c k g offset bytes m a places act reach same values =
    let w : List Block = memory_after_puts m (puts_of places bytes) in
    subst (ReadsNext d c k g offset bytes m) (sym act)
    (ap (outcome_of w) (same ∙ ap read_act reach) ∙ ap (outcome no_error) values)
  where
    outcome : ℕ → List ℕ → Outcome
    outcome code xs = record { code = code; bytes = xs }

-- bytes of an area

content-long : (p : PlantPort) (area : Area) (offset : ℕ) (m : List Block) → offset ≤ size_in p.sizes area → length (take offset (content_of m p area)) ≡ offset
unfolding content_of names_at
content-long p area offset m h =
    let size = size_in p.sizes area in
    let whole : length (content_of m p area) ≡ size = length-map (map (name_at p area) (numbers_from 0 size)) (byte_or_zero m)
    ∙ length-map (numbers_from 0 size) (name_at p area) ∙ numbers-length 0 size in
    length-take-le offset (content_of m p area) (omega (arith, h, whole))

area-read : (p : PlantPort) (area : Area) (offset : ℕ) (bytes : List ℕ) (m : List Block) → offset + length bytes ≤ size_in p.sizes area → IsThere m p area
    → AreNamedApart p.symbols
    → values_at (memory_after_puts m (puts_of (map WholeByte (names_at p area offset (length bytes))) bytes))
    (map WholeByte (names_at p area offset (length bytes))) ≡ bytes
area-read p area offset bytes m within there apart =
    let w : List Block = memory_after_puts m (puts_of (map WholeByte (names_at p area offset (length bytes))) bytes) in
    let before = take offset (content_of m p area) in
    let behind = drop (offset + length bytes) (content_of m p area) in
    let long = content-long p area offset m (omega (arith, within)) in
    reads_content p area offset (length bytes) w within
    ∙ ap (λ xs. take (length bytes) (drop offset xs)) (writes_content p area offset bytes m within there apart)
    ∙ ap (take (length bytes)) (drop_at before (bytes ++ behind) offset long)
    ∙ take_at bytes behind (length bytes) refl

-- the first bytes of a place are bytes of its symbol's area
record InArea_of (p : PlantPort) (place : Place) (len : ℕ) : Type 0 where
  area : Area
  offset : ℕ
  within : offset + len ≤ size_in p.sizes area
  names : names_at p area offset len ≡ names_of_place p.number place len

place-names : (plant : Plant) (p : PlantPort) → IsAsked plant p → (place : Place) → IsPlaced plant p.number place → (len : ℕ) → len ≤ place.len
    → InArea_of p place len
place-names plant p k place i len h =
    let s = i.symbol in
    let some : Some i.asked ≡ Some p = sym i.port_found ∙ k.found in
    let same : i.asked ≡ p = cc in
    let port = port_sound plant.ports plant.ports p.number p k.sound k.found in
    let found : symbol_named place.symbol p.symbols ≡ Some s = ap (λ (q : PlantPort). symbol_named place.symbol q.symbols) (sym same) ∙ i.symbol_found in
    let at_ = symbol_at place.symbol p.symbols s found in
    let sound = symbol_sound p p.symbols place.symbol s port.symbols found in
    let ends = i.ends in
    let within = sound.within in
    record {
      area = s.area;
      offset = s.offset + place.first;
      within = omega (arith, ends, within, h);
      names = spans_give_names p at_.place s place.first len port.bytes at_.there (omega (arith, ends, h))
          ∙ ap (λ n. symbol_names p.number n place.first len) at_.named;
    }

place-read : (plant : Plant) (p : PlantPort) → IsAsked plant p → (m : List Block) → ((area : Area) → IsThere m p area) → (place : Place)
    → IsPlaced plant p.number place → (bytes : List ℕ) → length bytes ≤ place.len
    → values_at (memory_after_puts m (puts_of (map WholeByte (names_of_place p.number place (length bytes))) bytes))
    (map WholeByte (names_of_place p.number place (length bytes))) ≡ bytes
place-read plant p k m there place i bytes h =
    let n = place-names plant p k place i (length bytes) h in
    let port = port_sound plant.ports plant.ports p.number p k.sound k.found in
    subst (λ (ns : List ByteName). values_at (memory_after_puts m (puts_of (map WholeByte ns) bytes)) (map WholeByte ns) ≡ bytes) n.names
    (area-read p n.area n.offset bytes m n.within (there n.area) port.names)

-- a bit
record BitDone (m : List Block) (p : PlantPort) (area : Area) (offset : ℕ) (bytes : List ℕ) (places : List Addressed) : Type 0 where
  holds : HoldsBit m (memory_after_puts m (puts_of places bytes)) p area offset bytes
  read : values_at (memory_after_puts m (puts_of places bytes)) places ≡ map (λ b. min b 1) bytes

one_bit : (m : List Block) (p : PlantPort) (area : Area) (offset value : ℕ) → byte_at m (name_at p area (offset / 8)) ≢ None
    → BitDone m p area offset (value ∷ []) (OneBit (name_at p area (offset / 8)) (offset % 8) ∷ [])
unfolding memory_after_puts
one_bit m p area offset value there = go (byte_at m n) refl
  where
    n : ByteName
    n = name_at p area (offset / 8)

    bit : ℕ
    bit = offset % 8

    w : List Block
    w = memory_after_put m (record { place = OneBit (name_at p area (offset / 8)) (offset % 8); value = value })

    go : (o : Option ℕ) → byte_at m (name_at p area (offset / 8)) ≡ o
        → BitDone m p area offset (value ∷ []) (OneBit (name_at p area (offset / 8)) (offset % 8) ∷ [])
    go None e = absurd (there e)
    go (Some byte) e =
        let r = puts_bits m (name_at p area (offset / 8)) (offset % 8) value byte e in
        let old : byte_or_zero m (name_at p area (offset / 8)) ≡ byte = ap (λ o. unwrap_or o 0) e in
        let new : byte_or_zero w (name_at p area (offset / 8)) ≡ r.0 = ap (λ o. unwrap_or o 0) (r.1) in
        record {
          holds = subst (λ x. IsBitPut (offset % 8) (min value 1) x (byte_or_zero w (name_at p area (offset / 8)))) (sym old)
              (subst (λ y. IsBitPut (offset % 8) (min value 1) byte y) (sym new) (r.2));
          read = ap (λ x. ((x / 2 ^ (offset % 8)) % 2) ∷ []) new ∙ ap (λ x. x ∷ []) r.2.here;
        }

bit-done : (m : List Block) (p : PlantPort) (area : Area) (offset : ℕ) (bytes : List ℕ) → length bytes ≡ 1 → byte_at m (name_at p area (offset / 8)) ≢ None
    → BitDone m p area offset bytes (OneBit (name_at p area (offset / 8)) (offset % 8) ∷ [])
bit-done m p area offset [] e there = absurd (omega (arith, e))
bit-done m p area offset (v ∷ []) e there = one_bit m p area offset v there
bit-done m p area offset (v ∷ (w ∷ rest)) e there = absurd (omega (arith, e))

-- by group

record DoneAs (d : Setup) (c : Client) (k : Asker) (g : Option Group) (offset : ℕ) (bytes : List ℕ) (m : List Block) (a : Act) : Type 0 where
  holds : HoldsAt g m (memory_after m a) c k.port offset bytes
  read : option_map_or is_value_group g false ≡ true → ReadsNext d c k g offset bytes m a
  -- a read of as many bytes as were written asks for as many, in either manner
  asks : option_map_or is_value_group g false ≡ true → (x : Manner)
      → read_len_in x (client_after c (effect_of a)) k.port g offset (length bytes) ≡ length bytes

may : (k : Asker) (bytes : List ℕ) (Q : List Addressed → Type 0) (r : Result (List Addressed) ℕ) → ReachCase Q r
    → WriteCase Q bytes r (cond (not (may_write k.rights)) (Refusal not_permitted) (write_act k bytes r))
may k bytes Q r h = if_both (WriteCase Q bytes r) (not (may_write k.rights)) _ _ (λ t. inl (not_permitted, refl, λ e. cc)) (λ t. act-case k bytes Q r h)

no_group : invalid_group ≡ no_error → ⊥
no_group e = cc

released : (c : Client) (p : PlantPort) (bytes : List ℕ) (m : List Block) → memory_after m (release_act c p bytes) ≡ m
unfolding memory_after_puts
released c p bytes m =
    if_both (λ a. memory_after m a ≡ m) (not (length bytes == 4)) _ _ (λ t. refl)
    (λ t. if_both (λ a. memory_after m a ≡ m) (is_releasable (kept_status c.handles (number32 0 bytes) p.number)) _ _ (λ u. refl) (λ u. refl))

bytes-ask : (x : Manner) (c : Client) (p : PlantPort) (area : Area) (offset len : ℕ) → read_len_in x c p (Some (AreaBytes area)) offset len ≡ len
bytes-ask Strict c p area offset len = refl
bytes-ask Wide c p area offset len = refl

bit-asks : (x : Manner) (c : Client) (p : PlantPort) (area : Area) (offset len : ℕ) → read_len_in x c p (Some (AreaBit area)) offset len ≡ len
bit-asks Strict c p area offset len = refl
bit-asks Wide c p area offset len = refl

handle-asks : (x : Manner) (c : Client) (p : PlantPort) (handle len : ℕ) (place : Place) → kept_status c.handles handle p.number ≡ Live place
    → len ≤ place.len → read_len_in x c p (Some ValueByHandle) handle len ≡ len
handle-asks Strict c p handle len place live fits = refl
handle-asks Wide c p handle len place live fits =
    let least : min len place.len ≡ len = omega (arith, fits) in
    ap (λ s. len_by_status s len) live ∙ least

group-done : (d : Setup) (c : Client) (k : Asker) (m : List Block) → IsAsked d.plant k.port → ((area : Area) → IsThere m k.port area)
    → Each (IsPlacedHandle d.plant) c.handles
    → (g : Option Group) (offset : ℕ) (bytes : List ℕ) → (outcome_of m (write_group c k g offset bytes)).code ≡ no_error
    → DoneAs d c k g offset bytes m (write_group c k g offset bytes)
unfolding write_group read_group client_after
group-done d c k m i there placed None offset bytes h = absurd (no_group h)
group-done d c k m i there placed (Some ReleaseHandle) offset bytes h = record {
  holds = released c k.port bytes m;
  read = λ v. absurd (false≢true v);
  asks = λ v. absurd (false≢true v);
}
group-done d c k m i there placed (Some (AreaBytes area)) offset bytes h =
    let Q : List Addressed → Type 0 = InArea k.port area offset (length bytes) in
    let r = reach_of c k.port (Some (AreaBytes area)) offset (length bytes) in
    let w = accepted Q bytes r _ m (may k bytes Q r (bytes-reach c k.port area offset (length bytes))) h in
    let port = port_sound d.plant.ports d.plant.ports k.port.number k.port i.sound i.found in
    let back = sym w.fact.places_are in
    record {
      holds = subst (λ a. HoldsBytes m (memory_after m a) k.port area offset bytes) (sym w.act)
          (subst (λ ps. HoldsBytes m (memory_after_puts m (puts_of ps bytes)) k.port area offset bytes) back
          (writes_content k.port area offset bytes m w.fact.within (there area) port.names));
      read = λ v. reads_next d c k (Some (AreaBytes area)) offset bytes m _ w.places w.act w.reach refl
          (subst (λ ps. values_at (memory_after_puts m (puts_of ps bytes)) ps ≡ bytes) back
          (area-read k.port area offset bytes m w.fact.within (there area) port.names));
      asks = λ v x. bytes-ask x _ k.port area offset (length bytes);
    }
group-done d c k m i there placed (Some (AreaBit area)) offset bytes h =
    let Q : List Addressed → Type 0 = InBit k.port area offset (length bytes) in
    let r = reach_of c k.port (Some (AreaBit area)) offset (length bytes) in
    let w = accepted Q bytes r _ m (may k bytes Q r (bit-reach c k.port area offset (length bytes))) h in
    let back = sym w.fact.places_are in
    let done = bit-done m k.port area offset bytes w.fact.one (there area (offset / 8) w.fact.within) in
    record {
      holds = subst (λ a. HoldsBit m (memory_after m a) k.port area offset bytes) (sym w.act)
          (subst (λ ps. HoldsBit m (memory_after_puts m (puts_of ps bytes)) k.port area offset bytes) back done.holds);
      read = λ v. reads_next d c k (Some (AreaBit area)) offset bytes m _ w.places w.act w.reach refl
          (subst (λ ps. values_at (memory_after_puts m (puts_of ps bytes)) ps ≡ map (λ b. min b 1) bytes) back done.read);
      asks = λ v x. bit-asks x _ k.port area offset (length bytes);
    }
group-done d c k m i there placed (Some ValueByHandle) offset bytes h =
    let Q : List Addressed → Type 0 = InPlace c k.port offset (length bytes) in
    let r = reach_of c k.port (Some ValueByHandle) offset (length bytes) in
    let w = accepted Q bytes r _ m (may k bytes Q r (handle-reach c k.port offset (length bytes))) h in
    let place = w.fact.place in
    let back = sym w.fact.places_are in
    let is = subst (IsPlacedStatus d.plant k.port.number) w.fact.live (kept-placed d.plant c.handles offset k.port.number placed) in
    let values = place-read d.plant k.port i m there place is bytes w.fact.fits in
    let names : List Addressed = map WholeByte (names_of_place k.port.number place (length bytes)) in
    record {
      holds = record {
        place = place;
        live = w.fact.live;
        fits = w.fact.fits;
        holds = subst (λ a. values_at (memory_after m a) names ≡ bytes) (sym w.act)
            (subst (λ ps. values_at (memory_after_puts m (puts_of ps bytes)) names ≡ bytes) back values);
      };
      read = λ v. reads_next d c k (Some ValueByHandle) offset bytes m _ w.places w.act w.reach refl
          (subst (λ ps. values_at (memory_after_puts m (puts_of ps bytes)) ps ≡ bytes) back values);
      asks = λ v x. subst (λ a. read_len_in x (client_after c (effect_of a)) k.port (Some ValueByHandle) offset (length bytes) ≡ length bytes) (sym w.act)
          (handle-asks x c k.port offset (length bytes) place w.fact.live w.fact.fits);
    }
group-done d c k m i there placed g offset bytes h = absurd (no_group h)

-- a group whose bytes a write may reach is answered by a read
read_answers : (number : ℕ) → option_map_or is_value_group (answered_group WRITE number) false ≡ true
    → answered_group READ number ≡ answered_group WRITE number
unfolding answered_group
read_answers number h = go (group_of number) h
  where
    go : (o : Option Group) → option_map_or is_value_group (option_and_then (if_answered WRITE) o) false ≡ true
        → option_and_then (if_answered READ) o ≡ option_and_then (if_answered WRITE) o
    go None h = refl
    go (Some (AreaBytes area)) h = refl
    go (Some (AreaBit area)) h = refl
    go (Some ValueByHandle) h = refl
    go (Some g) h = absurd (false≢true h)

-- such a group is none that a server of some profile reads besides
read_by_all : (number : ℕ) → option_map_or is_value_group (answered_group WRITE number) false ≡ true → (number == device_data) ≡ false
unfolding answered_group group_of group_in
read_by_all number h =
    elim (cases_Bool (number == device_data)) [
      | inr t ↦ t
      | inl t ↦
          let P : ℕ → Type 0 = λ n. option_map_or is_value_group (answered_group WRITE n) false ≡ true in
          let none : false ≡ true = subst P (eqb-true number device_data t) h in
          absurd (false≢true none)
    ]

write-done : (d : Setup) (k : Asker) (p : Party) → IsAsked d.plant k.port → ((area : Area) → IsThere p.memory k.port area)
    → Each (IsPlacedHandle d.plant) p.client.handles
    → (group offset : ℕ) (bytes : List ℕ) → (single_outcome d k p (Write group offset bytes)).code ≡ no_error
    → IsWritten (record { setup = d; asker = k; before = p; request = Write group offset bytes }) group offset bytes
unfolding act_of plain_act
write-done d k p i there placed group offset bytes h =
    let g = written_group group in
    let done = group-done d p.client k p.memory i there placed g offset bytes h in
    let a = write_group p.client k g offset bytes in
    record {
      holds = done.holds;
      read = λ v.
          let c : Client = client_after p.client (effect_of a) in
          let read : Option Group → ℕ → Outcome = λ x n. outcome_of (memory_after p.memory a) (read_group d c k.port x offset n) in
          let plain = read_group d c k.port (answered_group READ group) offset
          (read_len_in d.profile.manner c k.port (answered_group READ group) offset (length bytes)) in
          ap (λ o. outcome_of (memory_after p.memory a) (unwrap_or o plain))
          (more_read-none d.profile.manner k.port.number group offset (length bytes) (read_by_all group v))
          ∙ ap (λ (x : Option Group). read x (read_len_in d.profile.manner c k.port x offset (length bytes))) (read_answers group v)
          ∙ ap (read g) (done.asks v d.profile.manner)
          ∙ done.read v;
    }

pub write_is_done : (a : Asked) → Sees a → IsDone a
write_is_done a s group offset bytes e h =
    let there : (area : Area) → IsThere a.before.memory a.asker.port area = λ area j l.
    let n = name_at a.asker.port area j in
    let same = s.memory.same n.port n.part in
    let named = area-named a.setup.plant s.asked.sound a.asker.port s.asked.found area j l in
    there_by_length a.before.memory n (omega (arith, same, named)) in
    let asked : Request → Asked = λ r. record { setup = a.setup; asker = a.asker; before = a.before; request = r } in
    subst (λ r. (single_outcome a.setup a.asker a.before r).code ≡ no_error → IsWritten (asked r) group offset bytes) (sym e)
    (write-done a.setup a.asker a.before s.asked there s.client.handles group offset bytes) h
