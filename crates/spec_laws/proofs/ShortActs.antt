-- A request is given at most as many bytes as it asks.
use Rattle.std.proofs.Common.{◌≡◌, ℕ, zero, suc, ◌+◌, ◌≤◌, List, [], ◌∷◌, map, length, Bool, true, false, cond, refl, ◌∙◌, ap, arith, inl, inr}
use Rattle.std.specs.Prelude.{Option, Some, None, Result, Ok, Err, nat_lt, nat_le, ◌==◌, ◌/◌, ◌||◌}
use Rattle.std.proofs.lemmas.Bool.{cases_Bool, ltb-false, eqb-true}
use Rattle.std.proofs.lemmas.List.{length-append, length-map}
use Rattle.spec_plant.specs.Description.{Area, size_in}
use Rattle.spec_plant.specs.World.{PlantPort, ByteName, Block}
use Rattle.spec_plant.specs.Finding.{Found, found_of}
use Rattle.spec_plant.specs.Trees.{TypeTree}
use Rattle.spec_formats.specs.TypeEntry.{type_upload_bytes}
use Rattle.spec_formats.specs.Codes.{invalid_size, symbol_not_found}
use Rattle.spec_formats.specs.Groups.{Group, AreaBytes, AreaBit, AreaSize, HandleByName, ValueByName}
use Rattle.spec_formats.specs.Groups.{ValueByHandle, InfoByName, SymbolVersion, ExtendedInfoByName}
use Rattle.spec_formats.specs.Groups.{SymbolUpload, UploadInfo, TypeUpload, UploadInfoWithTypes}
use Rattle.spec_formats.specs.Ranges.{greatest_len, byte_range, bit_range, range_in}
use Rattle.spec_formats.specs.Request.{Read, ReadWrite}
use Rattle.spec_formats.specs.SymbolEntry.{entry_bytes}
use Rattle.spec_machine.specs.World.{Setup, numbers_from, name_at, names_at, own_name, own_names, VERSION_AT}
use Rattle.spec_machine.specs.Access.{Addressed, WholeByte, Put, value_at}
use Rattle.spec_machine.specs.Handles.{HandleStatus, Never, Released, Outdated, Live, kept_status}
use Rattle.spec_machine.specs.Client.{Place, Client, Effect}
use Rattle.spec_machine.specs.Acts.{Act, Refusal, Allowed, outcome_of, fixed_data, reading, writing, changing}
use Rattle.spec_machine.specs.Answers.{answered_group, READ, READ_WRITE}
use Rattle.spec_machine.specs.Entries.{entry_of_part, symbol_upload_of, type_upload_of, upload_info_of, upload_info_with_types_of}
use Rattle.std.specs.Int.{w32, to_le_bytes}
use Rattle.spec_machine.specs.Reach.{addressed_by_range, addressed_in_place, addressed_by_status, reach_of}
use Rattle.spec_machine.specs.Reads.{fixed_reply, read_act, read_group}
use Rattle.spec_machine.specs.Writes.{Asker}
use Rattle.spec_machine.specs.ByName.{place_of, grant_act, value_act, info_of, if_found, read_write_group}
use Rattle.spec_machine.specs.Meanings.{read_len_in, value_len_in, up_to_nul, name_in}
use Rattle.spec_machine.specs.TypesByText.{tree_of_text, entry_by_type}
use Rattle.spec_machine.specs.MoreActs.{if_type, states_reach, more_read, more_read_write}
use Rattle.spec_machine.proofs.MoreActs.{of_more, read-more, read_write-more}
use Rattle.spec_machine.specs.Requests.{plain_act, act_of}
use Rattle.spec_machine.proofs.Meanings.{read_len-less, value_len-less}
use Rattle.spec_laws.specs.RepliesFit.{NoMoreThanAsked}

-- how many bytes an act gives
abbrev pub data_len : Act → ℕ
data_len (Refusal code) = 0
data_len (Allowed a) = length a.fixed + length a.reads

-- as a record, so that `_` is found for an act
pub record IsShort (most : ℕ) (a : Act) : Type 0 where
  pub short : data_len a ≤ most

pub short_if : (most : ℕ) (b : Bool) (x y : Act) → IsShort most x → IsShort most y → IsShort most (cond b x y)
short_if most true x y p q = p
short_if most false x y p q = q

pub short_refusal : (most code : ℕ) → IsShort most (Refusal code)
short_refusal most code = record { short = omega arith }

pub short_fixed : (most : ℕ) (bytes : List ℕ) → length bytes ≤ most → IsShort most (fixed_data bytes)
short_fixed most bytes h = record { short = omega (arith, h) }

pub short_reading : (most : ℕ) (places : List Addressed) → length places ≤ most → IsShort most (reading places)
short_reading most places h = record { short = omega (arith, h) }

pub short_writing : (most : ℕ) (puts : List Put) → IsShort most (writing puts)
short_writing most puts = record { short = omega arith }

pub short_changing : (most : ℕ) (bytes : List ℕ) (x : Effect) → length bytes ≤ most → IsShort most (changing bytes x)
short_changing most bytes x h = record { short = omega (arith, h) }

-- a fixed reply is as long as asked at most, and as long as its bytes
pub fixed-asked : (len : ℕ) (bytes : List ℕ) → IsShort len (fixed_reply len bytes)
fixed-asked len bytes =
    elim (cases_Bool (nat_lt len (length bytes))) [
      | inl t ↦ rw t (short_refusal len invalid_size)
      | inr t ↦ let l = ltb-false len (length bytes) t in rw t (short_fixed len bytes l)
    ]

pub fixed-within : (most len : ℕ) (bytes : List ℕ) → length bytes ≤ most → IsShort most (fixed_reply len bytes)
fixed-within most len bytes h = short_if most _ (Refusal invalid_size) (fixed_data bytes) (short_refusal most invalid_size) (short_fixed most bytes h)

-- what an access reaches
abbrev reach_len : Result (List Addressed) ℕ → ℕ
reach_len (Err code) = 0
reach_len (Ok places) = length places

pub record IsShortReach (most : ℕ) (r : Result (List Addressed) ℕ) : Type 0 where
  pub short : reach_len r ≤ most

reach_err : (most code : ℕ) → IsShortReach most (Err code)
reach_err most code = record { short = omega arith }

length-names : (f : ℕ → ByteName) (n first : ℕ) → length (map WholeByte (map f (numbers_from first n))) ≡ n
unfolding numbers_from
length-names f zero first = refl
length-names f (suc n) first = ap suc (length-names f n (first + 1))

bytes-short : (most : ℕ) (p : PlantPort) (a : Area) (offset len : ℕ) → (len ≤ greatest_len → len ≤ most)
    → IsShortReach most (addressed_by_range p (byte_range a (size_in p.sizes a) offset len))
unfolding byte_range names_at
bytes-short most p a offset len h =
    elim (cases_Bool (nat_lt (size_in p.sizes a) offset)) [
      | inl t ↦ rw t (reach_err most _)
      | inr t ↦ rw t (elim (cases_Bool (nat_lt (size_in p.sizes a) (offset + len) || nat_lt greatest_len len)) [
        | inl u ↦ rw u (reach_err most _)
        | inr u ↦
            let l = h (ltb-false greatest_len len (or_right (nat_lt (size_in p.sizes a) (offset + len)) (nat_lt greatest_len len) u)) in
            let e = length-names (name_at p a) len offset in
            rw u (record { short = omega (arith, l, e) })
      ])
    ]
  where
    or_right : (a b : Bool) → (a || b) ≡ false → b ≡ false
    or_right true b e = cc
    or_right false b e = e

bit-short : (most : ℕ) (p : PlantPort) (a : Area) (offset len : ℕ) → (len ≡ 1 → 1 ≤ most)
    → IsShortReach most (addressed_by_range p (bit_range a (size_in p.sizes a) offset len))
unfolding bit_range
bit-short most p a offset len h =
    elim (cases_Bool (nat_le (size_in p.sizes a) (offset / 8))) [
      | inl t ↦ rw t (reach_err most _)
      | inr t ↦ rw t (elim (cases_Bool (len == 1)) [
        | inl u ↦ rw u (record { short = h (eqb-true len 1 u) })
        | inr u ↦ rw u (reach_err most _)
      ])
    ]

place-short : (most port : ℕ) (place : Place) (len : ℕ) → (len ≤ place.len → len ≤ most) → IsShortReach most (addressed_in_place port place len)
place-short most port place len h =
    elim (cases_Bool (nat_lt place.len len)) [
      | inl t ↦ rw t (reach_err most _)
      | inr t ↦
          let l = h (ltb-false place.len len t) in
          let e = length-names (λ n. record { port = port; part = Rattle.spec_plant.specs.World.SymbolPart place.symbol; index = n }) len place.first in
          rw t (record { short = omega (arith, l, e) })
    ]

status-short : (most port : ℕ) (s : HandleStatus Place) (len : ℕ)
    → ((place : Place) → s ≡ Live place → len ≤ place.len → len ≤ most) → IsShortReach most (addressed_by_status port s len)
status-short most port Never len h = reach_err most _
status-short most port Released len h = reach_err most _
status-short most port Outdated len h = reach_err most _
status-short most port (Live place) len h = place-short most port place len (h place refl)

pub reach-short : (most : ℕ) (c : Client) (p : PlantPort) (g : Option Group) (offset len : ℕ) → (len ≤ greatest_len → len ≤ most) → (len ≡ 1 → 1 ≤ most)
    → ((place : Place) → kept_status c.handles offset p.number ≡ Live place → len ≤ place.len → len ≤ most) → IsShortReach most (reach_of c p g offset len)
unfolding reach_of range_in
reach-short most c p (Some (AreaBytes a)) offset len h i j = bytes-short most p a offset len h
reach-short most c p (Some (AreaBit a)) offset len h i j = bit-short most p a offset len i
reach-short most c p (Some ValueByHandle) offset len h i j = status-short most p.number (kept_status c.handles offset p.number) len j
reach-short most c p g offset len h i j = reach_err most _

pub states-short : (most port offset len : ℕ) → (len ≤ VERSION_AT → len ≤ most) → IsShortReach most (states_reach port offset len)
unfolding own_names
states-short most port offset len h =
    elim (cases_Bool (nat_lt VERSION_AT offset)) [
      | inl t ↦ rw t (reach_err most _)
      | inr t ↦ elim (cases_Bool (nat_lt VERSION_AT (offset + len))) [
        | inl u ↦ rw (t, u) (reach_err most _)
        | inr u ↦
            let within = ltb-false VERSION_AT (offset + len) u in
            let l = h (omega (arith, within)) in
            let e = length-names (own_name port) len offset in
            rw (t, u) (record { short = omega (arith, l, e) })
      ]
    ]

pub read-short : (most : ℕ) (r : Result (List Addressed) ℕ) → IsShortReach most r → IsShort most (read_act r)
read-short most (Err code) h = short_refusal most code
read-short most (Ok places) h = short_reading most places h.short

pub value-short : (most : ℕ) (p : PlantPort) (len : ℕ) (place : Place) → (len ≤ place.len → len ≤ most) → IsShort most (value_act p len place)
value-short most p len place h =
    elim (cases_Bool (nat_lt place.len len)) [
      | inl t ↦ rw t (short_refusal most _)
      | inr t ↦
          let l = h (ltb-false place.len len t) in
          let e = length-names (λ n. record { port = p.number; part = Rattle.spec_plant.specs.World.SymbolPart place.symbol; index = n }) len place.first in
          rw t (short_reading most _ (omega (arith, l, e)))
    ]

pub if_found-short : (most : ℕ) (o : Option Found) (act : Found → Act) → ((f : Found) → o ≡ Some f → IsShort most (act f)) → IsShort most (if_found o act)
if_found-short most None act h = short_refusal most symbol_not_found
if_found-short most (Some f) act h = h f refl

-- where 4 bytes fit, so does a handle; and where 12 do, an info
pub grant-short : (most : ℕ) (c : Client) (p : PlantPort) (place : Place) → 4 ≤ most → IsShort most (grant_act c p place)
grant-short most c p place h = short_if most _ (Refusal _) _ (short_refusal most _) (short_changing most _ _ h)

pub least-short : (most least len code : ℕ) (a : Act) → (least ≤ len → IsShort most a) → IsShort most (cond (nat_lt len least) (Refusal code) a)
least-short most least len code a h =
    elim (cases_Bool (nat_lt len least)) [
      | inl t ↦ rw t (short_refusal most code)
      | inr t ↦ rw t (h (ltb-false len least t))
    ]

-- what is asked

read-asked : (d : Setup) (c : Client) (p : PlantPort) (g : Option Group) (offset len : ℕ) → IsShort len (read_group d c p g offset len)
unfolding read_group
read-asked d c p (Some (AreaSize a)) offset len = fixed-asked len (to_le_bytes w32 (size_in p.sizes a))
read-asked d c p (Some SymbolVersion) offset len = fixed-asked len (d.version ∷ [])
read-asked d c p (Some SymbolUpload) offset len = fixed-asked len (symbol_upload_of d.profile.manner p)
read-asked d c p (Some UploadInfo) offset len = fixed-asked len (upload_info_of d.profile.manner p)
read-asked d c p (Some TypeUpload) offset len =
    short_if len _ (Refusal invalid_size) (fixed_reply len (type_upload_of d.plant)) (short_refusal len invalid_size) (fixed-asked len (type_upload_of d.plant))
read-asked d c p (Some UploadInfoWithTypes) offset len = fixed-asked len (upload_info_with_types_of d.profile.manner d.plant p)
read-asked d c p g offset len =
    read-short len (reach_of c p g offset len) (reach-short len c p g offset len (λ h. omega arith) (λ e. omega (arith, e)) (λ place s h. omega arith))

read_write-asked : (d : Setup) (c : Client) (p : PlantPort) (g : Option Group) (len : ℕ) (name : List ℕ) → IsShort len (read_write_group d c p g len name)
unfolding read_write_group
read_write-asked d c p (Some HandleByName) len name =
    least-short len 4 len invalid_size _
    (λ h. if_found-short len (found_of p.symbols name) (λ f. grant_act c p (place_of f)) (λ f e. grant-short len c p (place_of f) h))
read_write-asked d c p (Some ValueByName) len name =
    if_found-short len (found_of p.symbols name) (λ f. value_act p len (place_of f)) (λ f e. value-short len p len (place_of f) (λ h. omega arith))
read_write-asked d c p (Some InfoByName) len name =
    least-short len 12 len invalid_size _
    (λ h. if_found-short len (found_of p.symbols name) (λ f. fixed_data (info_of f)) (λ f e. short_fixed len (info_of f) h))
read_write-asked d c p (Some ExtendedInfoByName) len name =
    if_found-short len (found_of p.symbols name) (λ f. fixed_reply len (entry_bytes (entry_of_part d.profile.manner f)))
    (λ f e. fixed-asked len (entry_bytes (entry_of_part d.profile.manner f)))
read_write-asked d c p g len name = short_refusal len _

-- what an act gives
pub length-given : (memory : List Block) (a : Act) → length (outcome_of memory a).bytes ≡ data_len a
length-given memory (Refusal code) = refl
length-given memory (Allowed a) = length-append a.fixed (map (value_at memory) a.reads) ∙ ap (λ n. length a.fixed + n) (length-map a.reads (value_at memory))

pub given-short : (most : ℕ) (memory : List Block) (a : Act) → IsShort most a → length (outcome_of memory a).bytes ≤ most
given-short most memory a h = let e = length-given memory a in let s = h.short in omega (arith, e, s)

-- to the wide server a request asks no more than is written
short_more : (few most : ℕ) (a : Act) → few ≤ most → IsShort few a → IsShort most a
short_more few most a less h = record { short = let s = h.short in omega (arith, less, s) }

pub read-act-asked : (d : Setup) (c : Client) (k : Asker) (group offset len : ℕ) → IsShort len (act_of d c k (Read group offset len))
unfolding act_of plain_act
read-act-asked d c k group offset len =
    let meant = read_len_in d.profile.manner c k.port (answered_group READ group) offset len in
    of_more (IsShort len) (more_read d.profile.manner k.port.number group offset len) (read_group d c k.port (answered_group READ group) offset meant)
    (read-more (IsShort len) d.profile.manner k.port.number group offset len
    (read-short len (states_reach k.port.number offset len) (states-short len k.port.number offset len (λ h. omega arith))))
    (short_more meant len _ (read_len-less d.profile.manner c k.port (answered_group READ group) offset len)
    (read-asked d c k.port (answered_group READ group) offset meant))

type-asked : (len : ℕ) (o : Option TypeTree) → IsShort len (if_type o len)
type-asked len None = short_refusal len symbol_not_found
type-asked len (Some tree) =
    let bytes = type_upload_bytes (entry_by_type tree ∷ []) in
    short_if len _ (Refusal invalid_size) (fixed_reply len bytes) (short_refusal len invalid_size) (fixed-asked len bytes)

pub read_write-act-asked : (d : Setup) (c : Client) (k : Asker) (group offset len : ℕ) (bytes : List ℕ)
    → IsShort len (act_of d c k (ReadWrite group offset len bytes))
unfolding act_of plain_act
read_write-act-asked d c k group offset len bytes =
    let name = name_in d.profile.manner (answered_group READ_WRITE group) bytes in
    let meant = value_len_in d.profile.manner k.port (answered_group READ_WRITE group) name len in
    of_more (IsShort len) (more_read_write d.profile.manner d group len bytes) (read_write_group d c k.port (answered_group READ_WRITE group) meant name)
    (read_write-more (IsShort len) d.profile.manner d group len bytes (type-asked len (tree_of_text d.plant.types (up_to_nul bytes))))
    (short_more meant len _ (value_len-less d.profile.manner k.port (answered_group READ_WRITE group) name len)
    (read_write-asked d c k.port (answered_group READ_WRITE group) meant name))

pub no_more_than_asked : NoMoreThanAsked
no_more_than_asked d c k memory = record {
  read = λ group offset len. given-short len memory _ (read-act-asked d c k group offset len);
  read_write = λ group offset len bytes. given-short len memory _ (read_write-act-asked d c k group offset len bytes);
}
