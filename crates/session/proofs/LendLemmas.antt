-- A Read of data whose bytes the port lends.
use Rattle.std.proofs.Common.{◌≡◌, ℕ, List, map, false, refl, sym, ◌∙◌, ap, subst}
use Rattle.std.specs.Prelude.{Option, Some, Ok}
use Rattle.spec_plant.specs.Description.{Area, Process, Sizes}
use Rattle.spec_formats.specs.Codes.{no_error}
use Rattle.spec_formats.specs.GroupNumbers.{process_bytes}
use Rattle.spec_formats.specs.Groups.{Group, AreaBytes, group_in, group_of}
use Rattle.spec_formats.specs.Ranges.{Range, Bytes, range_in, range_of}
use Rattle.spec_formats.specs.Request.{Read}
use Rattle.spec_plant.specs.World.{PlantPort}
use Rattle.spec_machine.specs.World.{World, Setup, setup_of, names_at}
use Rattle.spec_machine.specs.Access.{WholeByte, values_at}
use Rattle.spec_machine.specs.Acts.{outcome_of}
use Rattle.spec_machine.specs.Answers.{answered_group, READ}
use Rattle.spec_machine.specs.Manner.{Manner, Strict, Wide}
use Rattle.spec_machine.specs.Meanings.{read_len_in}
use Rattle.spec_machine.specs.Client.{Client}
use Rattle.spec_machine.specs.Reach.{reach_of, addressed_by_range}
use Rattle.spec_machine.specs.Reads.{read_act, read_group}
use Rattle.spec_machine.specs.WatchedRanges.{InArea}
use Rattle.index_groups.specs.declared.access.Reach.{Reach}
use Rattle.index_groups.specs.declared.access.Reach.TheVariants as value
use Rattle.index_groups.specs.Access.{range_meant, answer_meant}
use Rattle.type_layout.specs.declared.port.Area as layout
use Rattle.type_layout.specs.Descriptions.{area_of}
use Rattle.notify_table.specs.Table.{watched_len}
use Rattle.sym_handles.specs.Kept.{Kept}
use Rattle.port_device.specs.PortMemory.{PortMemory}
use Rattle.port_device.specs.Groups.{without_handles}
use Rattle.port_device.specs.Holds.{HoldsPort}
use Rattle.session.specs.Asking.{Asking, act_asked, plain_asked, outcome_asked}
use Rattle.session.specs.Asks.{Asks}
use Rattle.session.specs.HandleGroups.{is_value_by_handle}
use Rattle.session.proofs.MeaningLemmas.{len-other, read-is-meant}
use Rattle.session.proofs.OwnLemmas.{data-is-no-state, meant-asked}
use Rattle.session.proofs.ReadLemmas.{read-by-port}
use Rattle.session.proofs.WatchedReach.{area_len}
use Rattle.session.specs.Watching.{is_byte_or_bit}

named-data : group_of process_bytes ≡ Some (AreaBytes Process)
unfolding group_in group_of
named-data = refl

data-named : (group : ℕ) → group ≡ process_bytes → group_of group ≡ Some (AreaBytes Process)
data-named group is = ap group_of is ∙ named-data

as-long : (a : Asking) (group offset len : ℕ) (x : Manner) → is_value_by_handle (group_of group) ≡ false
    → len ≡ read_len_in x a.client a.asker.port (answered_group READ group) offset len
as-long a group offset len Strict other = refl
as-long a group offset len Wide other = len-other a.client a.asker.port group offset len other

-- what is read of bytes of an area
bytes-read : (d : Setup) (c : Client) (p : PlantPort) (g : Option Group) (area : Area) (offset len : ℕ) → g ≡ Some (AreaBytes area)
    → read_group d c p (without_handles g) offset len ≡ read_act (addressed_by_range p (range_in g p.sizes offset len))
unfolding read_group reach_of
bytes-read d c p g area offset len is =
    subst (λ x. read_group d c p (without_handles x) offset len ≡ read_act (addressed_by_range p (range_in x p.sizes offset len))) (sym is) refl

-- the range is that of the plant's sizes
range-reached : (w : World) (p : PlantPort) (m : PortMemory) (group offset len : ℕ) (r : Range) → HoldsPort w p m
    → Ok r ≡ range_of m.table.sizes group offset len → range_in (group_of group) p.sizes offset len ≡ Ok r
unfolding range_of
range-reached w p m group offset len r held rule =
    let same : p.sizes ≡ m.table.sizes = ap (λ (q : PlantPort). q.sizes) held.plant ∙ sym (ap (λ t. t.sizes) held.table.same) in
    ap (λ x. range_in (group_of group) x offset len) same ∙ sym rule

-- a Read of data gives the bytes of its range
data-read : (a : Asking) (m : PortMemory) (kept : Kept) (group offset len : ℕ) (area : Area) (first count : ℕ) (bytes : List ℕ) → Asks a m kept
    → group ≡ process_bytes → Ok (Bytes area first count) ≡ range_of m.table.sizes group offset len
    → bytes ≡ values_at a.world.memory (map WholeByte (names_at a.asker.port area first count))
    → outcome_asked a (Read group offset len) ≡ record { code = no_error; bytes = bytes }
data-read a m kept group offset len area first count bytes asks is rule found =
    let d = setup_of a.world in
    let p = a.asker.port in
    let named = data-named group is in
    let other = ap is_value_by_handle named in
    let meant = read-is-meant a group offset len len (as-long a group offset len a.world.profile.manner other) in
    let reached = range-reached a.world p m group offset len (Bytes area first count) asks.held rule in
    let act : act_asked a (Read group offset len) ≡ read_act (Ok (map WholeByte (names_at p area first count))) =
    meant-asked a m kept group offset len asks (data-is-no-state m.manner group is)
    ∙ ap (plain_asked a) (sym meant) ∙ read-by-port a group offset len other
    ∙ bytes-read d a.client p (group_of group) Process offset len named ∙ ap (λ r. read_act (addressed_by_range p r)) reached in
    ap (outcome_of a.world.memory) act ∙ ap (λ x. record { code = no_error; bytes = x }) (sym found)

-- the same where the range and the bytes are those of the code
pub lent-read : (a : Asking) (m : PortMemory) (kept : Kept) (group offset len : ℕ) (sizes : Sizes) (r : Reach) (area : layout.Area) (first count : ℕ)
    (bytes : List ℕ) → Asks a m kept → group ≡ process_bytes → sizes ≡ m.table.sizes → r ≡ value.Bytes area first count
    → answer_meant (Ok r) ≡ range_of sizes process_bytes offset len
    → ((w : World) (p : PlantPort) → HoldsPort w p m → bytes ≡ values_at w.memory (map WholeByte (names_at p (area_of area) first count)))
    → outcome_asked a (Read group offset len) ≡ record { code = no_error; bytes = bytes }
lent-read a m kept group offset len sizes r area first count bytes asks is same there rule found =
    data-read a m kept group offset len (area_of area) first count bytes asks is
    (sym (ap (λ (x : Reach). answer_meant (Ok x)) there) ∙ rule ∙ ap (λ s. range_of s process_bytes offset len) same
    ∙ ap (λ n. range_of m.table.sizes n offset len) (sym is)) (found a.world a.asker.port asks.held)

-- and it is as long as was asked for
pub lent-len : (offset len : ℕ) (sizes : Sizes) (r : Reach) (area : layout.Area) (first count : ℕ) → r ≡ value.Bytes area first count
    → answer_meant (Ok r) ≡ range_of sizes process_bytes offset len → count ≡ len
lent-len offset len sizes r area first count there rule =
    ap (λ (x : Reach). watched_len (InArea (range_meant x))) (sym there)
    ∙ area_len sizes process_bytes offset len (Ok r) (ap is_byte_or_bit named-data) rule
