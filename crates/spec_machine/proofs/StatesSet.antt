-- A control sets the state words; no byte of an area, and not the version.
use Rattle.std.proofs.Common.{◌≡◌, ℕ, ◌<◌, List, [], ◌∷◌, ◌++◌, map, length, refl, sym, ◌∙◌, ap, subst, inl, inr, arith}
use Rattle.std.specs.Prelude.{slice_get, option_map}
use Rattle.std.proofs.lemmas.Bool.{cases_eq}
use Rattle.spec_plant.specs.Description.{Area, size_in}
use Rattle.spec_plant.specs.World.{ByteName, Block, PlantPort, byte_at, with_byte, with_nth_byte}
use Rattle.spec_plant.proofs.BlockLemmas.{byte_at-same, byte_at-other, nth-same, nth-other}
use Rattle.spec_machine.specs.World.{name_at, own_name, state_bytes, state_names}
use Rattle.spec_machine.specs.Access.{WholeByte, puts_of, memory_after_puts}
use Rattle.spec_machine.specs.PortBytes.{image_byte}
use Rattle.spec_machine.specs.PortLaws.{SetsStates}
use Rattle.spec_machine.proofs.AreaNames.{names_are_of_areas}

-- the bytes of a port, with its own as a list
record Stand (memory : List Block) (p : PlantPort) (image own : List ℕ) : Type 0 where
  areas : (area : Area) (offset : ℕ) → offset < size_in p.sizes area → byte_at memory (name_at p area offset) ≡ image_byte p.sizes image area offset
  words : (k : ℕ) → k < 5 → byte_at memory (own_name p.number k) ≡ slice_get own k

set_byte : (memory : List Block) (p : PlantPort) (image own : List ℕ) (k : ℕ) (f : ℕ → ℕ) → k < 5 → Stand memory p image own
    → Stand (with_byte memory (own_name p.number k) f) p image (with_nth_byte own k f)
set_byte memory p image own k f u s =
    let n = own_name p.number k in
    record {
      areas = λ area offset v. byte_at-other memory n (name_at p area offset) f
          (λ e. (names_are_of_areas p area offset).part (ap (λ (x : ByteName). x.part) (sym e))) ∙ s.areas area offset v;
      words = λ i v. elim (cases_eq k i) [
        | inl e ↦
            let P : ℕ → Type 0 = λ j. byte_at (with_byte memory n f) (own_name p.number j) ≡ slice_get (with_nth_byte own k f) j in
            subst P e (byte_at-same memory n f ∙ ap (option_map f) (s.words k u) ∙ sym (nth-same k f own))
        | inr ne ↦ byte_at-other memory n (own_name p.number i) f (λ e. ne (ap (λ (x : ByteName). x.index) e)) ∙ s.words i v
            ∙ sym (nth-other k i f own (λ q. ne (sym q)))
      ];
    }

set_words : (memory : List Block) (p : PlantPort) (image old new : List ℕ) (v : ℕ) → length old ≡ 4 → length new ≡ 4 → Stand memory p image (old ++ v ∷ [])
    → Stand (memory_after_puts memory (puts_of (map WholeByte (state_names p)) new)) p image (new ++ v ∷ [])
unfolding memory_after_puts
set_words memory p image (a ∷ (b ∷ (c ∷ (d ∷ [])))) (x ∷ (y ∷ (z ∷ (w ∷ [])))) v l k s =
    let one = set_byte memory p image (a ∷ b ∷ c ∷ d ∷ v ∷ []) 0 (λ old. x) (omega arith) s in
    let two = set_byte _ p image (x ∷ b ∷ c ∷ d ∷ v ∷ []) 1 (λ old. y) (omega arith) one in
    let three = set_byte _ p image (x ∷ y ∷ c ∷ d ∷ v ∷ []) 2 (λ old. z) (omega arith) two in
    set_byte _ p image (x ∷ y ∷ z ∷ d ∷ v ∷ []) 3 (λ old. w) (omega arith) three
set_words memory p image old new v l k s = absurd (omega (arith, l, k))

pub sets_states : SetsStates
sets_states memory p b ads device h =
    let s = set_words memory p b.image (state_bytes b.ads b.device) (state_bytes ads device) b.version refl refl (record { areas = h.areas; words = h.own }) in
    record { long = h.long; areas = s.areas; own = s.words }
