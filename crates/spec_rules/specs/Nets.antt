-- NetIds in texts.
use Rattle.std.specs.Prelude.{ℕ, List, map, length, Bool, ◌&&◌, ◌==◌, nat_le, Option, Some, None, if◌then◌else◌, bytes_eq}
use Rattle.std.specs.List.{slice_split, list_all}
use Rattle.ads_base.specs.NetId.{net_text}
use Rattle.name_paths.specs.Name.{is_full_stop}
use Rattle.name_paths.specs.Number.{number_of_digits}

-- the numbers between the full stops
abbrev pub numbers_in : List ℕ → List ℕ
numbers_in text = map number_of_digits (slice_split is_full_stop text)

-- six bytes
abbrev pub is_net : List ℕ → Bool
is_net bytes = (length bytes == 6) && list_all (λ n. nat_le n 255) bytes

-- the NetId whose text this is
abbrev pub net_of : List ℕ → Option (List ℕ)
net_of text =
    if is_net (numbers_in text) && bytes_eq (net_text (numbers_in text)) text then Some (numbers_in text) else None
