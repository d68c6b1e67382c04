-- At which bytes of an area a symbol stands.
use Rattle.std.proofs.Common.{◌≡◌, ℕ, ◌<◌, ◌≤◌, true, ap, ◌∙◌}
use Rattle.std.specs.Prelude.{◌+◌, ◌&&◌, nat_le, nat_lt}
use Rattle.std.proofs.lemmas.Bool.{and_parts, and_from, leb-true, ltb-true, le-leb, lt-ltb}
use Rattle.spec_plant.specs.Description.{Area}
use Rattle.spec_plant.specs.World.{PlantSymbol, symbol_size, is_same_area}
use Rattle.spec_plant.specs.Covering.{covers}
use Rattle.spec_plant.proofs.BlockLemmas.{same_area-true, same_area-refl}

-- a symbol stands at a byte of an area
pub record StandsAt (s : PlantSymbol) (area : Area) (offset : ℕ) : Type 0 where
  pub same_area : s.area ≡ area
  pub begins : s.offset ≤ offset
  pub ends : offset < s.offset + symbol_size s

pub stands_at : (s : PlantSymbol) (area : Area) (offset : ℕ) → covers area offset s ≡ true → StandsAt s area offset
stands_at s area offset t =
    let p = and_parts (is_same_area s.area area && nat_le s.offset offset) (nat_lt offset (s.offset + symbol_size s)) t in
    let q = and_parts (is_same_area s.area area) (nat_le s.offset offset) (p.0) in
    record { same_area = same_area-true s.area area (q.0); begins = leb-true s.offset offset (q.1); ends = ltb-true offset (s.offset + symbol_size s) (p.1) }

pub covers_from : (s : PlantSymbol) (area : Area) (offset : ℕ) → StandsAt s area offset → covers area offset s ≡ true
covers_from s area offset at_ =
    let same : is_same_area s.area area ≡ true = ap (λ a. is_same_area a area) at_.same_area ∙ same_area-refl area in
    and_from (is_same_area s.area area && nat_le s.offset offset) (nat_lt offset (s.offset + symbol_size s))
    (and_from (is_same_area s.area area) (nat_le s.offset offset) same (le-leb s.offset offset at_.begins)) (lt-ltb offset (s.offset + symbol_size s) at_.ends)
