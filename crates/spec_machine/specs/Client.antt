-- What the device keeps for one client: its handles and its notifications. Handles stand for parts of
-- symbols, notifications watch bytes by their names; both go on while a reload keeps the symbol.
use Rattle.std.specs.Prelude.{ℕ, ◌+◌, List, [], ◌∷◌, ◌++◌, Bool, false, ◌&&◌, not, ◌==◌}
use Rattle.std.specs.Prelude.{filter, if◌then◌else◌, Option, Some, None}
use Rattle.std.specs.List.{list_all}
use Rattle.spec_plant.specs.World.{Part, SymbolPart, ByteName, is_same_part}
use Rattle.spec_machine.specs.World.{symbol_names}
use Rattle.spec_machine.specs.Access.{Addressed, addressed_name}
use Rattle.spec_machine.specs.Handles.{Handle, Grant, Release, Reload, handles_after}
use Rattle.spec_machine.specs.Watches.{Watch, watches_after_reload, ended_watches}

-- a part of a symbol: the symbol by its name in lower case, the first byte, and how many
pub record Place : Type 0 where
  pub symbol : List ℕ
  pub first : ℕ
  pub len : ℕ

-- the names of the first bytes of a place, so many of them
abbrev pub names_of_place : ℕ → Place → ℕ → List ByteName
names_of_place port place len = symbol_names port place.symbol place.first len

pub record Client : Type 0 where
  pub handles : List (Handle Place)
  -- how many notifications were added
  pub additions : ℕ
  -- by rising handle
  pub watches : List (Watch (List Addressed))

abbrev pub new_client : Client
new_client = record { handles = []; additions = 0; watches = [] }

-- what an accepted request changes of its client
pub data Effect : Type 0 where
  NoEffect : Effect
  Grants : ℕ → Place → Effect
  Releases : ℕ → Effect
  Adds : Watch (List Addressed) → Effect
  Deletes : ℕ → Effect

-- a notification stands behind all others, because its handle is the greatest
unfoldable pub client_after : Client → Effect → Client
client_after c NoEffect = c
client_after c (Grants port place) =
    record c { handles = handles_after c.handles (Grant port place) }
client_after c (Releases handle) = record c { handles = handles_after c.handles (Release handle) }
client_after c (Adds w) = record c { additions = c.additions + 1; watches = c.watches ++ w ∷ [] }
client_after c (Deletes handle) = record c {
  watches = filter (λ (w : Watch (List Addressed)). not (w.handle == handle)) c.watches;
}

-- which parts of a port a reload keeps
abbrev pub Kept : Type 0
Kept = ℕ → Part → Bool

-- a place of a kept symbol stays as it is
abbrev pub kept_place : Kept → ℕ → Place → Option Place
kept_place kept port place = if kept port (SymbolPart place.symbol) then Some place else None

-- whether a byte belongs to this part of a port
abbrev pub is_in_part : ℕ → Part → Addressed → Bool
is_in_part port part a =
    ((addressed_name a).port == port) && is_same_part part (addressed_name a).part

abbrev pub are_kept : Kept → List Addressed → Bool
are_kept kept [] = false
are_kept kept (a ∷ as_) =
    kept (addressed_name a).port (addressed_name a).part
    && list_all (is_in_part (addressed_name a).port (addressed_name a).part) as_

-- bytes are watched on where all of them are those of one kept part
abbrev pub kept_bytes : Kept → ℕ → List Addressed → Option (List Addressed)
kept_bytes kept port watched = if are_kept kept watched then Some watched else None

unfoldable pub client_after_reload : Kept → Client → Client
client_after_reload kept c = record c {
  handles = handles_after c.handles (Reload (kept_place kept));
  watches = watches_after_reload (kept_bytes kept) c.watches;
}

-- the notifications that a reload ends
unfoldable pub ended_of : Kept → Client → List (Watch (List Addressed))
ended_of kept c = ended_watches (kept_bytes kept) c.watches
