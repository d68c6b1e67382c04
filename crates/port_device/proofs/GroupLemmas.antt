-- Which groups a port answers by itself, and what a range by a group is.
use Rattle.std.proofs.Common.{◌≡◌, ℕ, ◌+◌, ◌<◌, List, length, true, false, refl, sym, ◌∙◌, ap, subst, inl, inr, arith}
use Rattle.std.specs.Prelude.{option_map, Bool, ◌/◌, ◌%◌, Option, Some, None, Ok, Err, Result, min, nat_lt, nat_le, ◌==◌, ◌||◌, not, if◌then◌else◌}
use Rattle.std.proofs.lemmas.Bool.{cases_Bool, false≢true, eqb-true, lt-ltb, ltb-true, leb-true, leb-false}
use Rattle.spec_plant.specs.Description.{Area, Process, Sizes, size_in}
use Rattle.spec_formats.specs.Codes.{invalid_group, invalid_offset, invalid_size, not_permitted}
use Rattle.spec_formats.specs.Groups.{Group, AreaBytes, AreaBit, AreaSize, process_bytes, group_in, group_of}
use Rattle.spec_formats.specs.Ranges.{Range, Bytes, Bit, Size, greatest_len, byte_range, bit_range, size_range, range_in}
use Rattle.spec_machine.specs.Client as client
use Rattle.spec_machine.specs.Acts.{Refusal}
use Rattle.spec_machine.specs.Reach.{addressed_by_range, reach_of}
use Rattle.spec_machine.specs.Writes.{Asker, may_write, write_act, write_group}
use Rattle.spec_machine.proofs.Find.{test_other}
use Rattle.index_groups.specs.declared.groups.Group as code
use Rattle.index_groups.specs.Groups.{group_meant}
use Rattle.port_device.specs.Groups.{is_written_by_port, written_by_port}
use Rattle.port_device.specs.Endings.{range_write_act}

pub not_written : (c : client.Client) (k : Asker) (g : Option Group) (offset : ℕ) (bytes : List ℕ) → is_written_by_port g ≡ false
    → write_group c k (written_by_port g) offset bytes ≡ Refusal invalid_group
unfolding write_group
not_written c k g offset bytes h = ap (λ b. write_group c k (if b then g else None) offset bytes) h

pub is_range_write : (c : client.Client) (k : Asker) (g : Option Group) (offset : ℕ) (bytes : List ℕ) → is_written_by_port g ≡ true
    → write_group c k (written_by_port g) offset bytes ≡ range_write_act k (range_in g k.port.sizes offset (length bytes)) bytes
unfolding write_group reach_of
is_range_write c k (Some (AreaBytes area)) offset bytes h = refl
is_range_write c k (Some (AreaBit area)) offset bytes h = refl
is_range_write c k g offset bytes h = absurd (false≢true h)

-- the group of most accesses
pub group_of_data : (n : ℕ) → n ≡ process_bytes → Some (AreaBytes Process) ≡ group_of n
unfolding group_in group_of
group_of_data n e = rw e refl

-- what the code found of a number is what the number names
pub known : (r : Option code.Group) (g h : code.Group) (n : ℕ) → r ≡ Some g → g ≡ h → option_map group_meant r ≡ group_of n → Some (group_meant h) ≡ group_of n
known r g h n is same e = sym (ap (λ x. Some (group_meant x)) same) ∙ sym (ap (option_map group_meant) is) ∙ e

pub unknown : (r : Option code.Group) (n : ℕ) → r ≡ None → option_map group_meant r ≡ group_of n → None ≡ group_of n
unknown r n is e = sym (ap (option_map group_meant) is) ∙ e

-- the length of a range is the one that was asked, or 1 for a bit
abbrev pub HasLen : Range → ℕ → Type 0
HasLen (Bytes area offset len) n = len ≡ n
HasLen (Bit area offset bit) n = n ≡ 1
HasLen (Size area) n = Unit {0}

-- a test that does not hold is false
pub is_false : (b : Bool) → (b ≡ true → ⊥) → b ≡ false
is_false true h = absurd (h refl)
is_false false h = refl

-- what follows from an answer behind a refusal
behind : (b : Bool) (x : ℕ) (y : Result Range ℕ) (r : Range) → ◌≡◌ {A = Result Range ℕ} (if b then Err x else y) (Ok r) → (b ≡ false) × (y ≡ Ok r)
behind true x y r h = cc
behind false x y r h = (refl, h)

before : (b : Bool) (x : ℕ) (y r : Range) → ◌≡◌ {A = Result Range ℕ} (if b then Ok y else Err x) (Ok r) → (b ≡ true) × (y ≡ r)
before true x y r h = (refl, cc)
before false x y r h = cc

len_along : (q r : Range) (n : ℕ) → q ≡ r → HasLen q n → HasLen r n
len_along q r n e h = let P : Range → Type 0 = λ x. HasLen x n in subst P e h

same_ok : (q r : Range) → ◌≡◌ {A = Result Range ℕ} (Ok q) (Ok r) → q ≡ r
same_ok q r h = cc

bytes_len : (area : Area) (size offset n : ℕ) (r : Range) → byte_range area size offset n ≡ Ok r → HasLen r n
unfolding byte_range
bytes_len area size offset n r h =
    let rest = behind (nat_lt size offset) invalid_offset _ r h in
    let whole = behind (nat_lt size (offset + n) || nat_lt greatest_len n) invalid_size (Ok (Bytes area offset n)) r rest.1 in
    len_along (Bytes area offset n) r n (same_ok (Bytes area offset n) r whole.1) refl

bit_len : (area : Area) (size offset n : ℕ) (r : Range) → bit_range area size offset n ≡ Ok r → HasLen r n
unfolding bit_range
bit_len area size offset n r h =
    let rest = behind (nat_le size (offset / 8)) invalid_offset _ r h in
    let one = before (n == 1) invalid_size (Bit area (offset / 8) (offset % 8)) r rest.1 in
    len_along (Bit area (offset / 8) (offset % 8)) r n one.1 (eqb-true n 1 one.0)

size_len : (area : Area) (n : ℕ) (r : Range) → size_range area n ≡ Ok r → HasLen r n
unfolding size_range
size_len area n r h = let rest = behind (nat_lt n 4) invalid_size (Ok (Size area)) r h in len_along (Size area) r n (same_ok (Size area) r rest.1) tt

pub range_len : (g : Option Group) (sizes : Sizes) (offset n : ℕ) (r : Range) → range_in g sizes offset n ≡ Ok r → HasLen r n
unfolding range_in
range_len (Some (AreaBytes area)) sizes offset n r h = bytes_len area (size_in sizes area) offset n r h
range_len (Some (AreaBit area)) sizes offset n r h = bit_len area (size_in sizes area) offset n r h
range_len (Some (AreaSize area)) sizes offset n r h = size_len area n r h
range_len g sizes offset n r h = cc

or_true : (b : Bool) → (b || true) ≡ true
or_true true = refl
or_true false = refl

bytes_long : (area : Area) (size offset n : ℕ) → greatest_len < n
    → byte_range area size offset n ≡ (if nat_lt size offset then Err invalid_offset else Err invalid_size)
unfolding byte_range
bytes_long area size offset n h =
    let long : nat_lt greatest_len n ≡ true = lt-ltb greatest_len n h in
    let over : (nat_lt size (offset + n) || nat_lt greatest_len n) ≡ true = rw long (or_true (nat_lt size (offset + n))) in
    rw over refl

bit_long : (area : Area) (size offset n : ℕ) → greatest_len < n
    → bit_range area size offset n ≡ (if nat_le size (offset / 8) then Err invalid_offset else Err invalid_size)
unfolding bit_range
bit_long area size offset n h = let other : (n == 1) ≡ false = test_other n 1 (λ e. omega (arith, e, h)) in rw other refl

size_long : (area : Area) (n : ℕ) → greatest_len < n → size_range area n ≡ Ok (Size area)
unfolding size_range
size_long area n h = let no : nat_lt n 4 ≡ false = is_false (nat_lt n 4) (λ t. omega (arith, h, ltb-true n 4 t)) in rw no refl

long_alike : (g : Option Group) (sizes : Sizes) (offset m n : ℕ) → greatest_len < m → greatest_len < n → range_in g sizes offset m ≡ range_in g sizes offset n
unfolding range_in
long_alike (Some (AreaBytes area)) sizes offset m n h k =
    bytes_long area (size_in sizes area) offset m h ∙ sym (bytes_long area (size_in sizes area) offset n k)
long_alike (Some (AreaBit area)) sizes offset m n h k = bit_long area (size_in sizes area) offset m h ∙ sym (bit_long area (size_in sizes area) offset n k)
long_alike (Some (AreaSize area)) sizes offset m n h k = size_long area m h ∙ sym (size_long area n k)
long_alike g sizes offset m n h k = refl

-- a length above all is as good as the greatest number of 32 bits
pub short-len : (g : Option Group) (sizes : Sizes) (offset n : ℕ) → range_in g sizes offset (min n 4294967295) ≡ range_in g sizes offset n
short-len g sizes offset n = elim (cases_Bool (nat_le n 4294967295)) [
  | inl t ↦ let few = leb-true n 4294967295 t in let e : min n 4294967295 ≡ n = omega (arith, few) in ap (range_in g sizes offset) e
  | inr f ↦
      let many = leb-false n 4294967295 f in
      long_alike g sizes offset (min n 4294967295) n (omega (arith, many)) (omega (arith, many))
]

-- what a group and an offset name, where the length was cut to 32 bits
pub reached : (sizes : Sizes) (g : Option Group) (offset n len : ℕ) (q : Result Range ℕ) → n ≡ min len 4294967295 → q ≡ range_in g sizes offset n
    → range_in g sizes offset len ≡ q
reached sizes g offset n len q cut rule = sym (short-len g sizes offset len) ∙ ap (range_in g sizes offset) (sym cut) ∙ sym rule

-- a write to what a range names, by one who may write
pub write_is : (c : client.Client) (k : Asker) (g : Option Group) (offset : ℕ) (bytes : List ℕ) (q : Result Range ℕ) → is_written_by_port g ≡ true
    → may_write k.rights ≡ true → range_in g k.port.sizes offset (length bytes) ≡ q
    → write_group c k (written_by_port g) offset bytes ≡ write_act k bytes (addressed_by_range k.port q)
write_is c k g offset bytes q written may range =
    is_range_write c k g offset bytes written
    ∙ ap (λ b. if not b then Refusal not_permitted else write_act k bytes (addressed_by_range k.port (range_in g k.port.sizes offset (length bytes)))) may
    ∙ ap (λ x. write_act k bytes (addressed_by_range k.port x)) range

pub write_denied : (c : client.Client) (k : Asker) (g : Option Group) (offset : ℕ) (bytes : List ℕ) → is_written_by_port g ≡ true
    → may_write k.rights ≡ false → write_group c k (written_by_port g) offset bytes ≡ Refusal not_permitted
write_denied c k g offset bytes written may =
    is_range_write c k g offset bytes written
    ∙ ap (λ b. if not b then Refusal not_permitted else write_act k bytes (addressed_by_range k.port (range_in g k.port.sizes offset (length bytes)))) may
