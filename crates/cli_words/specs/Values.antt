-- What the texts of words mean: numbers, addresses, NetIds, file names, names. This project's own choice.
use Rattle.std.specs.Prelude.{ℕ, zero, suc, Bool, true, false, ◌&&◌, ◌||◌, not, List, [], ◌∷◌, length, Option}
use Rattle.std.specs.Prelude.{Some, None, codes, decimal, bytes_eq, nat_lt, nat_le, is_some, ◌==◌}
use Rattle.std.specs.Prelude.{if◌then◌else◌, map}
use Rattle.std.specs.Str.Parse.{digits_value}
use Rattle.std.specs.Char.{to_ascii_lowercase}
use Rattle.std.specs.List.{list_all, list_any}
use Rattle.ads_base.specs.declared.net_id.NetId.{NetId}
use Rattle.cli_words.specs.Reading.{◌>>=◌}
use Rattle.cli_words.specs.Words.{parted}

-- the number, in a range, of which the text is the decimal text, without superfluous zeros
unfoldable pub number_of : ℕ → ℕ → List ℕ → Option ℕ
number_of least most text =
    let n = digits_value 10 text in
    if bytes_eq text (decimal n) && nat_le least n && nat_le n most then Some n else None

-- what stands behind a decimal number of 0 to 255 and a full stop
unfoldable pub behind_byte : List ℕ → Option (List ℕ)
behind_byte text = do
  parts ← parted 46 text
  byte ← number_of 0 255 parts.0
  Some parts.1

-- so many decimal numbers of 0 to 255, joined by full stops
unfoldable pub stopped_bytes : ℕ → List ℕ → Option (List ℕ)
stopped_bytes zero text = None
stopped_bytes (suc zero) text = do
  byte ← number_of 0 255 text
  Some (byte ∷ [])
stopped_bytes (suc (suc more)) text = do
  parts ← parted 46 text
  byte ← number_of 0 255 parts.0
  bytes ← stopped_bytes (suc more) parts.1
  Some (byte ∷ bytes)

-- a NetId: six of them
unfoldable pub net_id_of : List ℕ → Option NetId
net_id_of text = do
  bytes ← stopped_bytes 6 text
  Some (record { bytes = bytes })

-- `localhost`, or four of them
abbrev pub is_host : List ℕ → Bool
is_host text = bytes_eq text (codes "localhost") || is_some (stopped_bytes 4 text)

-- the port of an address: a host, `:`, and a port from 1 to 65,535
unfoldable pub address_port : List ℕ → Option ℕ
address_port text = do
  parts ← parted 58 text
  if is_host parts.0 then number_of 1 65535 parts.1 else None

-- an address, kept as its text
unfoldable pub address_of : List ℕ → Option (List ℕ)
address_of text = do
  port ← address_port text
  Some text

-- a file name: any text but the empty one
unfoldable pub file_of : List ℕ → Option (List ℕ)
file_of text = if length text == 0 then None else Some text

-- the name of a symbol, or a value: any text of at most 65,536 bytes
unfoldable pub text_of : List ℕ → Option (List ℕ)
text_of text = if nat_le (length text) 65536 then Some text else None

-- when samples are sent: `cycle` each cycle, `change` on a change
unfoldable pub on_change_of : List ℕ → Option Bool
on_change_of text =
    if bytes_eq text (codes "cycle") then Some false
    else if bytes_eq text (codes "change") then Some true
    else None

-- a text that is one of these, ASCII case aside
abbrev pub stands_in : List (List ℕ) → List ℕ → Bool
stands_in names name = list_any (λ other. bytes_eq (map to_ascii_lowercase other) (map to_ascii_lowercase name)) names

-- no two names are equal, ASCII case aside
unfoldable pub are_distinct : List (List ℕ) → Bool
are_distinct [] = true
are_distinct (name ∷ names) = not (stands_in names name) && are_distinct names

-- each is at most 65,536 bytes long
abbrev pub are_texts : List (List ℕ) → Bool
are_texts names = list_all (λ name. nat_le (length name) 65536) names

-- one name to sixteen, of which no two are equal
unfoldable pub names_of : List (List ℕ) → Option (List (List ℕ))
names_of names =
    if nat_lt 0 (length names) && nat_le (length names) 16 && are_texts names && are_distinct names
    then Some names else None
