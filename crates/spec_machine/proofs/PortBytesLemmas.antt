-- How reads, writes and controls go on the bytes of a port.
use Rattle.std.proofs.Common.{◌≡◌, ◌≢◌, ℕ, zero, suc, ◌+◌, ◌<◌, ◌≤◌, List, [], ◌∷◌, map, length, take, drop, get_or, refl, sym, ◌∙◌, ap, subst, inl, inr}
use Rattle.std.proofs.Common.{arith, drop-cons}
use Rattle.std.specs.Prelude.{◌/◌, ◌%◌, ◌^◌, slice_get, option_map, unwrap_or, min}
use Rattle.std.proofs.lemmas.Option.{unwrap_or-slice_get}
use Rattle.spec_plant.specs.Description.{Area, size_in}
use Rattle.spec_plant.specs.World.{ByteName, Block, PlantPort, byte_at, byte_or_zero, with_byte, with_nth_byte}
use Rattle.spec_plant.specs.Named.{AreNamedApart}
use Rattle.spec_plant.specs.Sound.{Each}
use Rattle.spec_plant.proofs.BlockLemmas.{byte_at-same, byte_at-other, nth-same, nth-other, nth-length, cases_name}
use Rattle.spec_machine.specs.World.{numbers_from, name_at, names_at, own_name, own_names, own_bytes}
use Rattle.spec_machine.specs.Access.{WholeByte, addressed_name, values_at, with_bit, Put, puts_of, byte_after, memory_after_put, memory_after_puts}
use Rattle.spec_machine.specs.AreaNames.{IsOneByte}
use Rattle.spec_machine.specs.PortBytes.{PortBytes, start_in, Holds}
use Rattle.spec_machine.specs.PortLaws.{ReadsImage, ReadsBit, ReadsStates, ReadsOwn, WritesImage, WritesBit, IsAtAnotherPort, LeavesOtherPorts}
use Rattle.spec_machine.proofs.AreaNames.{names_are_one_to_one, names_are_of_areas}
use Rattle.spec_machine.proofs.ImageLemmas.{written, written-nothing, written-first, one_place, area_within, same_place}

-- bytes that are read one behind another
read_run : (memory : List Block) (p : PlantPort) (b : PortBytes) (area : Area) → Holds memory p b → (len offset : ℕ) → offset + len ≤ size_in p.sizes area
    → values_at memory (map WholeByte (map (name_at p area) (numbers_from offset len))) ≡ take len (drop (start_in p.sizes area + offset) b.image)
unfolding numbers_from
read_run memory p b area h zero offset u = refl
read_run memory p b area h (suc len) offset u =
    let at_ = start_in p.sizes area + offset in
    let whole = area_within p.sizes area in
    let long = h.long in
    let inside : at_ < length b.image = omega (arith, whole, long, u) in
    let head : byte_or_zero memory (name_at p area offset) ≡ get_or b.image at_ 0 = ap (λ o. unwrap_or o 0) (h.areas area offset (omega (arith, u)))
    ∙ unwrap_or-slice_get b.image at_ 0 in
    let next : start_in p.sizes area + (offset + 1) ≡ suc at_ = omega arith in
    let rest = read_run memory p b area h len (offset + 1) (omega (arith, u)) ∙ ap (λ n. take len (drop n b.image)) next in
    ap (λ x. x ∷ values_at memory (map WholeByte (map (name_at p area) (numbers_from (offset + 1) len)))) head
    ∙ ap (λ xs. get_or b.image at_ 0 ∷ xs) rest ∙ sym (ap (take (suc len)) (drop-cons b.image at_ 0 inside))

pub reads_image : ReadsImage
unfolding names_at
reads_image memory p b area offset len h u = read_run memory p b area h len offset u

pub reads_bit : ReadsBit
reads_bit memory p b area offset bit h u = ap (λ o. (unwrap_or o 0 / 2 ^ bit) % 2) (h.areas area offset u)

pub reads_states : ReadsStates
reads_states memory p b h =
    let byte : (k : ℕ) → k < 5 → byte_or_zero memory (own_name p.number k) ≡ unwrap_or (slice_get (own_bytes b.ads b.device b.version) k) 0
    = λ k u. ap (λ o. unwrap_or o 0) (h.own k u) in
    rw (byte 0 (omega arith), byte 1 (omega arith), byte 2 (omega arith), byte 3 (omega arith)) refl

-- a port's own bytes that are read one behind another
own_run : (memory : List Block) (p : PlantPort) (b : PortBytes) → Holds memory p b → (len first : ℕ) → first + len ≤ 5
    → values_at memory (map WholeByte (map (own_name p.number) (numbers_from first len))) ≡ take len (drop first (own_bytes b.ads b.device b.version))
unfolding numbers_from
own_run memory p b h zero first u = refl
own_run memory p b h (suc len) first u =
    let bytes : List ℕ = own_bytes b.ads b.device b.version in
    let inside : first < length bytes = omega (arith, u) in
    let head : byte_or_zero memory (own_name p.number first) ≡ get_or bytes first 0 = ap (λ o. unwrap_or o 0) (h.own first (omega (arith, u)))
    ∙ unwrap_or-slice_get bytes first 0 in
    let next : first + 1 ≡ suc first = omega arith in
    let rest = own_run memory p b h len (first + 1) (omega (arith, u)) ∙ ap (λ n. take len (drop n bytes)) next in
    ap (λ x. x ∷ values_at memory (map WholeByte (map (own_name p.number) (numbers_from (first + 1) len)))) head
    ∙ ap (λ xs. get_or bytes first 0 ∷ xs) rest ∙ sym (ap (take (suc len)) (drop-cons bytes first 0 inside))

pub reads_own : ReadsOwn
unfolding own_names
reads_own memory p b first len h u = own_run memory p b h len first u

-- one byte of an area is changed
changed : (memory : List Block) (p : PlantPort) (b : PortBytes) (area : Area) (offset : ℕ) (f : ℕ → ℕ) → AreNamedApart p.symbols → Holds memory p b
    → offset < size_in p.sizes area
    → Holds (with_byte memory (name_at p area offset) f) p (record b { image = with_nth_byte b.image (start_in p.sizes area + offset) f })
changed memory p b area offset f apart h u =
    let n = name_at p area offset in
    let at_ = start_in p.sizes area + offset in
    record {
      long = nth-length at_ f b.image ∙ h.long;
      areas = λ other i v. elim (cases_name n (name_at p other i)) [
        | inl e ↦
            let place = same_place p.sizes area other offset i (names_are_one_to_one p area other offset i apart e) in
            ap (byte_at (with_byte memory n f)) (sym e) ∙ byte_at-same memory n f ∙ ap (option_map f) (h.areas area offset u)
            ∙ sym (nth-same at_ f b.image) ∙ ap (slice_get (with_nth_byte b.image at_ f)) place
        | inr ne ↦
            let differ : start_in p.sizes other + i ≢ at_ = λ q. ne (one_name other i (one_place p.sizes area other offset i u v (sym q))) in
            byte_at-other memory n (name_at p other i) f ne ∙ h.areas other i v ∙ sym (nth-other at_ (start_in p.sizes other + i) f b.image differ)
      ];
      own = λ k v. byte_at-other memory n (own_name p.number k) f (λ e. (names_are_of_areas p area offset).part (ap (λ (x : ByteName). x.part) e)) ∙ h.own k v;
    }
  where
    one_name : (other : Area) (i : ℕ) → IsOneByte area other offset i → name_at p area offset ≡ name_at p other i
    one_name other i one = ap (λ a. name_at p a offset) one.same_area ∙ ap (name_at p other) one.same_offset

nothing_written : (p : PlantPort) (b : PortBytes) (at_ : ℕ) (memory : List Block) → Holds memory p b
    → Holds memory p (record b { image = written b.image at_ [] })
nothing_written p b at_ memory h = let P : List ℕ
    → Type 0 = λ image. Holds memory p (record b { image = image }) in subst P (sym (written-nothing b.image at_)) h

-- bytes that are written one behind another
write_run : (p : PlantPort) (area : Area) → AreNamedApart p.symbols → (len : ℕ) (bytes : List ℕ) (offset : ℕ) (memory : List Block) (b : PortBytes)
    → Holds memory p b
    → offset + len ≤ size_in p.sizes area → length bytes ≤ len
    → Holds (memory_after_puts memory (puts_of (map WholeByte (map (name_at p area) (numbers_from offset len))) bytes)) p
    (record b { image = written b.image (start_in p.sizes area + offset) bytes })
unfolding memory_after_puts numbers_from
write_run p area apart zero [] offset memory b h u v = nothing_written p b (start_in p.sizes area + offset) memory h
write_run p area apart zero (x ∷ bytes) offset memory b h u v = absurd (omega (arith, v))
write_run p area apart (suc len) [] offset memory b h u v = nothing_written p b (start_in p.sizes area + offset) memory h
write_run p area apart (suc len) (x ∷ bytes) offset memory b h u v =
    let at_ = start_in p.sizes area + offset in
    let whole = area_within p.sizes area in
    let long = h.long in
    let first = changed memory p b area offset (λ old. x) apart h (omega (arith, u)) in
    let left : List ℕ = with_nth_byte b.image at_ (λ old. x) in
    let rest = write_run p area apart len bytes (offset + 1) (with_byte memory (name_at p area offset) (λ old. x)) (record b { image = left }) first
    (omega (arith, u)) (omega (arith, v)) in
    let next : start_in p.sizes area + (offset + 1) ≡ at_ + 1 = omega arith in
    let same : written left (start_in p.sizes area + (offset + 1)) bytes ≡ written b.image at_ (x ∷ bytes)
    = ap (λ n. written left n bytes) next ∙ sym (written-first b.image at_ x bytes (omega (arith, u, v, whole, long))) in
    let P : List ℕ
    → Type 0 = λ image. Holds (memory_after_puts (with_byte memory (name_at p area offset) (λ old. x))
    (puts_of (map WholeByte (map (name_at p area) (numbers_from (offset + 1) len))) bytes)) p (record b { image = image }) in
    subst P same rest

pub writes_image : WritesImage
unfolding names_at
writes_image memory p b area offset len bytes apart h u v = write_run p area apart len bytes offset memory b h u v

pub writes_bit : WritesBit
unfolding memory_after_puts
writes_bit memory p b area offset bit value apart h u = changed memory p b area offset (with_bit bit (min value 1)) apart h u

-- memory that has the same bytes under the names of a port holds the same bytes of it
pub holds_along : (memory after : List Block) (p : PlantPort) (b : PortBytes) → ((n : ByteName) → n.port ≡ p.number → byte_at after n ≡ byte_at memory n)
    → Holds memory p b → Holds after p b
holds_along memory after p b same h = record {
  long = h.long;
  areas = λ area offset u. same (name_at p area offset) (names_are_of_areas p area offset).port ∙ h.areas area offset u;
  own = λ k u. same (own_name p.number k) refl ∙ h.own k u;
}

puts-other : (p : PlantPort) (puts : List Put) (memory : List Block) → Each (IsAtAnotherPort p) puts → (n : ByteName) → n.port ≡ p.number
    → byte_at (memory_after_puts memory puts) n ≡ byte_at memory n
unfolding memory_after_puts
puts-other p [] memory e n q = refl
puts-other p (u ∷ puts) memory e n q =
    puts-other p puts (memory_after_put memory u) (e.1) n q
    ∙ byte_at-other memory (addressed_name u.place) n (byte_after u.place u.value) (λ s. e.0 (ap (λ (x : ByteName). x.port) s ∙ q))

pub leaves_other_ports : LeavesOtherPorts
leaves_other_ports memory p b puts e h = holds_along memory (memory_after_puts memory puts) p b (puts-other p puts memory e) h
