-- Kept symbols in order of rank. Private: no public clause cites this file.
use Rattle.std.specs.Prelude.{◌≡◌, ℕ, ◌+◌, ◌*◌, ◌<◌, ◌≤◌, List, length, slice_index_or, Bool, true, nat_lt, All, Contains}
use Rattle.std.specs.List.Sorted.{IsNonDecreasingBy}
use Rattle.spec_plant.specs.World.{area_number}
use Rattle.type_layout.specs.Descriptions.{area_of}
use Rattle.type_layout.specs.declared.port.Area.{Area}
use Rattle.symbol_table.specs.declared.kept.KeptPlace.{KeptPlace}
use Rattle.symbol_table.specs.declared.ranks.Ranked.{Ranked}
use Rattle.symbol_table.specs.Moves.{AreKept}

abbrev pub area_rank : Area → ℕ
area_rank area = area_number (area_of area)

-- by port and number
abbrev pub symbol_rank : ℕ → ℕ → ℕ
symbol_rank port symbol = port * 4294967296 + symbol

-- by port, area and place
abbrev pub byte_rank : ℕ → Area → ℕ → ℕ
byte_rank port area first = (port * 4 + area_rank area) * 4294967296 + first

-- the last of rising ranks that is at most this one
pub record IsLastAtMost (ranked : List Ranked) (rank : ℕ) (last : Ranked) : Type 0 where
  pub there : Contains ranked last
  pub at_most : last.rank ≤ rank
  pub greatest : All (λ (r : Ranked). r.rank ≤ rank → r.rank ≤ last.rank) ranked

abbrev pub rank_by_symbol : KeptPlace → ℕ
rank_by_symbol e = symbol_rank e.port e.from.symbol

abbrev pub rank_by_byte : KeptPlace → ℕ
rank_by_byte e = byte_rank e.port e.from.area e.from.at

abbrev pub is_any : KeptPlace → Bool
is_any e = true

abbrev pub has_any_byte : KeptPlace → Bool
has_any_byte e = nat_lt 0 e.from.len

-- this is an entry that is in the index, with its rank
pub record Ranks (rank : KeptPlace → ℕ) (is_in : KeptPlace → Bool) (kept : List KeptPlace) (r : Ranked) : Type 0 where
  pub there : r.entry < length kept
  pub by_rank : (d : KeptPlace) → r.rank ≡ rank (slice_index_or kept r.entry d)
  pub in_index : (d : KeptPlace) → is_in (slice_index_or kept r.entry d) ≡ true

-- what is ranked stands for entries, and each of the first so many that is to be in has its rank
pub record RanksFirst (rank : KeptPlace → ℕ) (is_in : KeptPlace → Bool) (kept : List KeptPlace) (count : ℕ) (ranked : List Ranked) : Type 0 where
  pub sound : All (Ranks rank is_in kept) ranked
  pub whole : (k : ℕ) (d : KeptPlace) → k < count → is_in (slice_index_or kept k d) ≡ true
      → Contains ranked (record { rank = rank (slice_index_or kept k d); entry = k })

-- all of them are ranked, and the ranks rise
pub record IsIndex (rank : KeptPlace → ℕ) (is_in : KeptPlace → Bool) (kept : List KeptPlace) (ranked : List Ranked) : Type 0 where
  pub all : RanksFirst rank is_in kept (length kept) ranked
  pub rises : IsNonDecreasingBy (λ (r : Ranked). r.rank) ranked

-- the entries, by symbol and by first byte
pub record AreIndexed (kept : List KeptPlace) (by_symbol by_byte : List Ranked) : Type 0 where
  pub are_kept : AreKept kept
  pub symbols : IsIndex rank_by_symbol is_any kept by_symbol
  pub bytes : IsIndex rank_by_byte has_any_byte kept by_byte
