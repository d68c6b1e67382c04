-- Which act a read of a group is, and what is answered to it.
use Rattle.std.proofs.Common.{◌≡◌, ℕ, ◌+◌, ◌<◌, ◌≤◌, List, [], ◌∷◌, ◌++◌, map, take, drop, true, false, refl, sym, ◌∙◌, ap, subst, arith}
use Rattle.std.specs.Prelude.{Bool, Option, Some, None, Result, Ok, Err, IfOk, nat_lt, nat_le, ◌==◌, ◌||◌, ◌/◌, ◌%◌, if◌then◌else◌}
use Rattle.ads_base.specs.declared.no_memory.NoMemory.{NoMemory}
use Rattle.std.specs.Int.{w32, to_le_bytes}
use Rattle.std.proofs.lemmas.Bool.{false≢true, ltb-true}
use Rattle.return_codes.specs.declared.code.Code.{Code}
use Rattle.return_codes.specs.declared.code.Code.TheVariants.{C705}
use Rattle.return_codes.specs.Code.{number_of}
use Rattle.spec_plant.specs.Description.{Area, Sizes, size_in}
use Rattle.spec_plant.specs.World.{PlantPort}
use Rattle.spec_formats.specs.Codes.{invalid_group, invalid_offset, invalid_size}
use Rattle.spec_formats.specs.Groups.{Group, SymbolVersion}
use Rattle.spec_formats.specs.Ranges.{Range, Bytes, Bit, Size, greatest_len, byte_range, bit_range, size_range, range_in}
use Rattle.spec_machine.specs.World.{World, Setup, own_names, own_bytes}
use Rattle.spec_machine.specs.Access.{Addressed, WholeByte}
use Rattle.spec_machine.specs.MoreActs.{states_reach}
use Rattle.spec_machine.proofs.PortBytesLemmas.{reads_own}
use Rattle.spec_machine.specs.Client as client
use Rattle.spec_machine.specs.Acts.{Act, Refusal, fixed_data}
use Rattle.spec_machine.specs.Reach.{addressed_by_range, reach_of}
use Rattle.spec_machine.specs.Reads.{fixed_reply, read_act, read_group}
use Rattle.type_layout.specs.Descriptions.{area_of}
use Rattle.index_groups.specs.declared.groups.Group as code
use Rattle.index_groups.specs.declared.groups.Group.TheVariants as value
use Rattle.index_groups.specs.declared.groups.HandleGroup.TheVariants as handle
use Rattle.index_groups.specs.declared.groups.NameGroup.TheVariants as name
use Rattle.index_groups.specs.declared.groups.SumGroup.TheVariants as sum
use Rattle.index_groups.specs.Groups.{group_meant}
use Rattle.port_device.specs.PortMemory.{PortMemory}
use Rattle.port_device.specs.Holds.{HoldsPort}
use Rattle.port_device.specs.Answers.{AnswersAct, range_read_act}
use Rattle.port_device.specs.Groups.{without_handles}
use Rattle.port_device.proofs.GroupLemmas.{is_false}
use Rattle.port_device.proofs.PortLemmas.{same_sizes}

-- a range that is refused, or is none of a size, is read as what it addresses

abbrev IsAddressed : PlantPort → Result Range ℕ → Type 0
IsAddressed p q = range_read_act p q ≡ read_act (addressed_by_range p q)

behind_refusal : (p : PlantPort) (b : Bool) (x : ℕ) (q : Result Range ℕ) → IsAddressed p q → IsAddressed p (if b then Err x else q)
behind_refusal p true x q h = refl
behind_refusal p false x q h = h

before_refusal : (p : PlantPort) (b : Bool) (x : ℕ) (area : Area) (offset bit : ℕ) → IsAddressed p (if b then Ok (Bit area offset bit) else Err x)
before_refusal p true x area offset bit = refl
before_refusal p false x area offset bit = refl

bytes_addressed : (p : PlantPort) (area : Area) (size offset len : ℕ) → IsAddressed p (byte_range area size offset len)
unfolding byte_range
bytes_addressed p area size offset len =
    behind_refusal p (nat_lt size offset) invalid_offset _
    (behind_refusal p (nat_lt size (offset + len) || nat_lt greatest_len len) invalid_size (Ok (Bytes area offset len)) refl)

bit_addressed : (p : PlantPort) (area : Area) (size offset len : ℕ) → IsAddressed p (bit_range area size offset len)
unfolding bit_range
bit_addressed p area size offset len =
    behind_refusal p (nat_le size (offset / 8)) invalid_offset _ (before_refusal p (len == 1) invalid_size area (offset / 8) (offset % 8))

sized : (p : PlantPort) (area : Area) (b : Bool)
    → (if b then Refusal invalid_size else fixed_data (to_le_bytes w32 (size_in p.sizes area)))
    ≡ range_read_act p (if b then Err invalid_size else Ok (Size area))
sized p area true = refl
sized p area false = refl

size_read : (p : PlantPort) (area : Area) (len : ℕ) → fixed_reply len (to_le_bytes w32 (size_in p.sizes area)) ≡ range_read_act p (size_range area len)
unfolding size_range
size_read p area len = sized p area (nat_lt len 4)

-- the groups that name a range of an area, and those that Read does not answer
abbrev pub is_ranged : code.Group → Bool
is_ranged value.Version = false
is_ranged (value.Upload which) = false
is_ranged group = true

pub read_of_range : (d : Setup) (c : client.Client) (p : PlantPort) (g : code.Group) (offset len : ℕ) → is_ranged g ≡ true
    → read_group d c p (without_handles (Some (group_meant g))) offset len ≡ range_read_act p (range_in (Some (group_meant g)) p.sizes offset len)
unfolding read_group reach_of range_in
read_of_range d c p (value.Bytes area) offset len h = sym (bytes_addressed p (area_of area) (size_in p.sizes (area_of area)) offset len)
read_of_range d c p (value.Bit area) offset len h = sym (bit_addressed p (area_of area) (size_in p.sizes (area_of area)) offset len)
read_of_range d c p (value.Size area) offset len h = size_read p (area_of area) len
read_of_range d c p (value.Handle handle.ByName) offset len h = refl
read_of_range d c p (value.Handle handle.Value) offset len h = refl
read_of_range d c p (value.Handle handle.Release) offset len h = refl
read_of_range d c p (value.Name name.Value) offset len h = refl
read_of_range d c p (value.Name name.Info) offset len h = refl
read_of_range d c p (value.Name name.Entry) offset len h = refl
read_of_range d c p (value.Sum sum.Read) offset len h = refl
read_of_range d c p (value.Sum sum.Write) offset len h = refl
read_of_range d c p (value.Sum sum.ReadWrite) offset len h = refl
read_of_range d c p value.Version offset len h = absurd (false≢true h)
read_of_range d c p (value.Upload which) offset len h = absurd (false≢true h)

pub read_of_version : (d : Setup) (c : client.Client) (p : PlantPort) (offset len : ℕ)
    → read_group d c p (Some SymbolVersion) offset len ≡ fixed_reply len (d.version ∷ [])
unfolding read_group
read_of_version d c p offset len = refl

pub read_of_none : (d : Setup) (c : client.Client) (p : PlantPort) (offset len : ℕ) → read_group d c p None offset len ≡ Refusal invalid_group
unfolding read_group reach_of
read_of_none d c p offset len = refl

-- a read of a group that is known
pub read_of_group : (d : Setup) (c : client.Client) (p : PlantPort) (g h : Option Group) (offset len : ℕ) (act : Act) → h ≡ g
    → read_group d c p (without_handles h) offset len ≡ act → read_group d c p (without_handles g) offset len ≡ act
read_of_group d c p g h offset len act e is = ap (λ x. read_group d c p (without_handles x) offset len) (sym e) ∙ is

-- the act behind another name has the same answer
pub answers_along : (w : World) (act other : Act) (answer : Result (Unit {0}) Code) (old new : List ℕ) → other ≡ act → AnswersAct w act answer old new
    → AnswersAct w other answer old new
answers_along w act other answer old new e h = let P : Act → Type 0 = λ a. AnswersAct w a answer old new in subst P (sym e) h

-- a refusal answers nothing
pub refusal_answers : (w : World) (act : Act) (code : Code) (out : List ℕ) → act ≡ Refusal (number_of code) → AnswersAct w act (Err code) out out
refusal_answers w act code out e = answers_along w (Refusal (number_of code)) act (Err code) out out e (refl, refl)

-- an answer that is passed on
pub reads_as : (m : PortMemory) (r : Result (Result (Unit {0}) Code) NoMemory) (act : World → PlantPort → Act) (other : World → client.Client → PlantPort → Act)
    (old new : List ℕ) → ((w : World) (c : client.Client) (p : PlantPort) → HoldsPort w p m → other w c p ≡ act w p)
    → IfOk r (λ answer. (w : World) (p : PlantPort) → HoldsPort w p m → AnswersAct w (act w p) answer old new)
    → IfOk r (λ answer. (w : World) (c : client.Client) (p : PlantPort) → HoldsPort w p m → AnswersAct w (other w c p) answer old new)
reads_as m (Ok answer) act other old new e h = λ w c p held. answers_along w (act w p) (other w c p) answer old new (e w c p held) (h w p held)
reads_as m (Err no_memory) act other old new e h = h

pub range_at_port : (w : World) (p : PlantPort) (m : PortMemory) (sizes : Sizes) (g : Option Group) (offset len : ℕ) (q : Result Range ℕ) → HoldsPort w p m
    → m.table.sizes ≡ sizes → q ≡ range_in g sizes offset len → range_in g p.sizes offset len ≡ q
range_at_port w p m sizes g offset len q h s rule = ap (λ x. range_in g x offset len) (same_sizes w p m h ∙ s) ∙ sym rule

-- what a range gives of a port is what it gives of the plant's
pub range_reads_as : (m : PortMemory) (r : Result (Result (Unit {0}) Code) NoMemory) (q : Result Range ℕ) (other : PlantPort → Result Range ℕ)
    (old new : List ℕ) → ((w : World) (p : PlantPort) → HoldsPort w p m → other p ≡ q)
    → IfOk r (λ answer. (w : World) (p : PlantPort) → HoldsPort w p m → AnswersAct w (range_read_act p q) answer old new)
    → IfOk r (λ answer. (w : World) (p : PlantPort) → HoldsPort w p m → AnswersAct w (range_read_act p (other p)) answer old new)
range_reads_as m (Ok answer) q other old new e h =
    λ w p held. answers_along w (range_read_act p q) (range_read_act p (other p)) answer old new (ap (range_read_act p) (e w p held)) (h w p held)
range_reads_as m (Err no_memory) q other old new e h = h

pub version_refused : (w : World) (len : ℕ) (out : List ℕ) → len ≡ 0 → AnswersAct w (fixed_reply len (w.version ∷ [])) (Err C705) out out
version_refused w len out e =
    let P : ℕ → Type 0 = λ n. AnswersAct w (fixed_reply n (w.version ∷ [])) (Err C705) out out in subst P (sym e) (refl, refl)

pub version_read : (w : World) (len : ℕ) (old new : List ℕ) → 0 < len → new ≡ old ++ w.version ∷ []
    → AnswersAct w (fixed_reply len (w.version ∷ [])) (Ok tt) old new
version_read w len old new h e =
    let enough : nat_lt len 1 ≡ false = is_false (nat_lt len 1) (λ t. omega (arith, ltb-true len 1 t, h)) in
    answers_along w (fixed_data (w.version ∷ [])) (fixed_reply len (w.version ∷ [])) (Ok tt) old new
    (ap (λ b. if b then Refusal invalid_size else fixed_data (w.version ∷ [])) enough) (refl, e)

-- bytes of the state words
pub states_read : (w : World) (p : PlantPort) (m : PortMemory) (first len : ℕ) (old new : List ℕ) → HoldsPort w p m → first + len ≤ 4
    → states_reach p.number first len ≡ Ok (map WholeByte (own_names p.number first len))
    → new ≡ old ++ take len (drop first (own_bytes m.bytes.ads m.bytes.device m.bytes.version))
    → AnswersAct w (read_act (states_reach p.number first len)) (Ok tt) old new
states_read w p m first len old new h within reached is =
    let P : Result (List Addressed) ℕ → Type 0 = λ r. AnswersAct w (read_act r) (Ok tt) old new in
    let bytes = reads_own w.memory p m.bytes first len h.holds (omega (arith, within)) in
    subst P (sym reached) (refl, is ∙ ap (λ bs. old ++ bs) (sym bytes))
