-- The types are those of the entries, one after another.
use Rattle.std.proofs.Common.{◌≡◌, ℕ, ◌+◌, ◌<◌, ◌≤◌, List, [], ◌∷◌, ◌++◌, map, length, take, get_or, refl, sym, ap, ◌∙◌, arith}
use Rattle.std.specs.List.{All}
use Rattle.std.proofs.lemmas.List.{map-append, take_all, take_more}
use Rattle.std.proofs.lemmas.List.Elements.{All-nil, All-push}
use Rattle.type_upload.specs.declared.entry.TypeEntry.{TypeEntry}
use Rattle.type_upload.specs.Entry.{entry_meant}
use Rattle.client_leaves.specs.declared.table.ReadType.{ReadType}
use Rattle.client_leaves.specs.Table.{AreFound, IsTable, type_kept, types_kept}

-- the members of a type are found among those of the entries
abbrev pub HasFound : List TypeEntry → ReadType → Type 0
HasFound entries t = AreFound (map entry_meant entries) t.members.items

-- the types are those of so many entries
pub record TypesRead (entries : List TypeEntry) (i : ℕ) (types : List ReadType) : Type 0 where
  pub same : types_kept types ≡ map entry_meant (take i entries)
  pub found : All (HasFound entries) types

pub table_begins : (entries : List TypeEntry) (types : List ReadType) → types ≡ [] → TypesRead entries 0 types
table_begins entries types is = record { same = rw is refl; found = rw is (All-nil (HasFound entries)) }

pub table_goes_on : (entries : List TypeEntry) (i : ℕ) (old new : List ReadType) (d : TypeEntry) (t : ReadType) → i < length entries
    → TypesRead entries i old → type_kept t ≡ entry_meant (get_or entries i d) → HasFound entries t → new ≡ old ++ t ∷ [] → TypesRead entries (i + 1) new
table_goes_on entries i old new d t less so_far same found pushed =
    let first = take i entries in
    record {
      same = ap types_kept pushed ∙ (map-append type_kept old (t ∷ [])
          ∙ (rw (so_far.same, same, take_more entries i d less) (sym (map-append entry_meant first (get_or entries i d ∷ [])))));
      found = rw pushed (All-push (HasFound entries) old t so_far.found found);
    }

pub table_same : (entries : List TypeEntry) (i : ℕ) (types : List ReadType)
    → length entries ≤ i → TypesRead entries i types → types_kept types ≡ map entry_meant entries
table_same entries i types all so_far = so_far.same ∙ ap (map entry_meant) (take_all i entries all)

pub table_found : (entries : List TypeEntry) (types : List ReadType) → types_kept types ≡ map entry_meant entries → All (HasFound entries) types → IsTable types
table_found entries types same found = rw same found
