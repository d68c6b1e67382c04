-- Reads and writes of an area as parts of its content, and its content as the bytes of its tiles.
use Rattle.std.proofs.Common.{◌≡◌, ◌≢◌, ◌⊎◌, ℕ, zero, suc, ◌+◌, ◌-◌, ◌<◌, ◌≤◌, List, [], ◌∷◌, ◌++◌, map, length, take, drop, get_or, refl, sym, ◌∙◌, ap, inl}
use Rattle.std.proofs.Common.{inr, arith, length-append, append_assoc, drop-cons}
use Rattle.std.specs.Prelude.{Option, Some, None, slice_get, option_map, unwrap_or, false}
use Rattle.std.proofs.lemmas.List.{map-append, length-map, take_at, drop_at}
use Rattle.std.proofs.lemmas.Option.{unwrap_or-slice_get}
use Rattle.spec_plant.specs.Description.{Area, size_in}
use Rattle.spec_plant.specs.World.{ByteName, Block, Part, SymbolPart, AreaPart, PlantSymbol, PlantPort}
use Rattle.spec_plant.specs.World.{lower_name, symbol_size, block_of, byte_at, byte_or_zero}
use Rattle.spec_plant.specs.Sound.{AreApart}
use Rattle.spec_plant.proofs.BlockLemmas.{byte_at-same, byte_at-other}
use Rattle.spec_machine.specs.World.{numbers_from, name_at, names_at, symbol_names, content_of}
use Rattle.spec_machine.specs.Access.{WholeByte, Put, values_at, puts_of, memory_after_put, memory_after_puts}
use Rattle.spec_machine.specs.AreaNames.{name_in_gap, is_covered}
use Rattle.spec_machine.specs.AreaContent.{Tile, SymbolTile, GapTile, tile_len, IsTileFrom, AreTilesFrom, tile_bytes, bytes_of_tiles, HasItsBytes}
use Rattle.spec_machine.specs.AreaContent.{ContentIsOfTiles, ReadsContent, WritesContent}
use Rattle.spec_machine.proofs.AreaNames.{tiles_give_names, spans_give_names, names_are_one_to_one}

pub numbers-length : (first n : ℕ) → length (numbers_from first n) ≡ n
unfolding numbers_from
numbers-length first zero = refl
numbers-length first (suc n) = ap (λ k. suc k) (numbers-length (first + 1) n)

numbers-append : (first m n : ℕ) → numbers_from first (m + n) ≡ numbers_from first m ++ numbers_from (first + m) n
unfolding numbers_from
numbers-append first zero n = let e : 0 + n ≡ n = omega arith in let f : first + 0 ≡ first = omega arith in rw (e, f) refl
numbers-append first (suc m) n =
    let e : suc m + n ≡ suc (m + n) = omega arith in
    let f : first + suc m ≡ (first + 1) + m = omega arith in
    rw (e, f) (ap (λ xs. first ∷ xs) (numbers-append (first + 1) m n))

values-bytes : (m : List Block) (ns : List ByteName) → values_at m (map WholeByte ns) ≡ map (byte_or_zero m) ns
values-bytes m [] = refl
values-bytes m (n ∷ ns) = ap (λ xs. byte_or_zero m n ∷ xs) (values-bytes m ns)

-- so many bytes of an area, from an offset on
abbrev part_at : PlantPort → Area → List Block → ℕ → ℕ → List ℕ
part_at p a m first n = map (byte_or_zero m) (map (name_at p a) (numbers_from first n))

part_at-length : (p : PlantPort) (a : Area) (m : List Block) (first n : ℕ) → length (part_at p a m first n) ≡ n
part_at-length p a m first n = length-map (map (name_at p a) (numbers_from first n)) (byte_or_zero m) ∙ length-map (numbers_from first n) (name_at p a)
    ∙ numbers-length first n

part_at-append : (p : PlantPort) (a : Area) (m : List Block) (first n k : ℕ)
    → part_at p a m first (n + k) ≡ part_at p a m first n ++ part_at p a m (first + n) k
part_at-append p a m first n k =
    ap (λ is. map (byte_or_zero m) (map (name_at p a) is)) (numbers-append first n k)
    ∙ ap (map (byte_or_zero m)) (map-append (name_at p a) (numbers_from first n) (numbers_from (first + n) k))
    ∙ map-append (byte_or_zero m) (map (name_at p a) (numbers_from first n)) (map (name_at p a) (numbers_from (first + n) k))

-- an area is what stands before a part, the part, and what stands behind it
content-parts : (p : PlantPort) (a : Area) (offset len : ℕ) (m : List Block) → offset + len ≤ size_in p.sizes a
    → content_of m p a ≡ part_at p a m 0 offset ++ (part_at p a m offset len ++ part_at p a m (offset + len) (size_in p.sizes a - (offset + len)))
unfolding content_of names_at
content-parts p a offset len m h =
    let rest = size_in p.sizes a - (offset + len) in
    let e : size_in p.sizes a ≡ offset + (len + rest) = omega arith in
    let z : 0 + offset ≡ offset = omega arith in
    ap (part_at p a m 0) e ∙ part_at-append p a m 0 offset (len + rest) ∙ ap (λ i. part_at p a m 0 offset ++ part_at p a m i (len + rest)) z
    ∙ ap (λ xs. part_at p a m 0 offset ++ xs) (part_at-append p a m offset len rest)

pub reads_content : ReadsContent
unfolding names_at
reads_content p a offset len m h =
    let A = part_at p a m 0 offset in
    let B = part_at p a m offset len in
    let C = part_at p a m (offset + len) (size_in p.sizes a - (offset + len)) in
    values-bytes m (map (name_at p a) (numbers_from offset len))
    ∙ sym (ap (λ xs. take len (drop offset xs)) (content-parts p a offset len m h)
    ∙ ap (take len) (drop_at A (B ++ C) offset (part_at-length p a m 0 offset))
    ∙ take_at B C len (part_at-length p a m offset len))

-- bytes under the names of a run of numbers
abbrev put_run : (ℕ → ByteName) → ℕ → List ℕ → List Block → List Block
put_run f first bytes m = memory_after_puts m (puts_of (map WholeByte (map f (numbers_from first (length bytes)))) bytes)

abbrev put_byte : ByteName → ℕ → Put
put_byte n b = record { place = WholeByte n; value = b }

abbrev Injective : (ℕ → ByteName) → Type 0
Injective f = (i j : ℕ) → f i ≡ f j → i ≡ j

put_run-outside : (f : ℕ → ByteName) → Injective f → (bytes : List ℕ) (first : ℕ) (m : List Block) (i : ℕ) → (i < first) ⊎ (first + length bytes ≤ i)
    → byte_at (put_run f first bytes m) (f i) ≡ byte_at m (f i)
unfolding memory_after_puts numbers_from
put_run-outside f inj [] first m i h = refl
put_run-outside f inj (b ∷ bs) first m i h =
    let d : first ≢ i = elim h [ inl l ↦ λ e. omega (arith, l, e) | inr l ↦ λ e. omega (arith, l, e) ] in
    let k : (i < first + 1) ⊎ ((first + 1) + length bs ≤ i) = elim h [ inl l ↦ inl (omega (arith, l)) | inr l ↦ inr (omega (arith, l)) ] in
    put_run-outside f inj bs (first + 1) (memory_after_put m (put_byte (f first) b)) i k ∙ byte_at-other m (f first) (f i) (λ old. b) (λ e. d (inj first i e))

put_run-inside : (f : ℕ → ByteName) → Injective f → (bytes : List ℕ) (first : ℕ) (m : List Block)
    → ((i : ℕ) → first ≤ i → i < first + length bytes → byte_at m (f i) ≢ None)
    → map (byte_or_zero (put_run f first bytes m)) (map f (numbers_from first (length bytes))) ≡ bytes
unfolding memory_after_puts numbers_from
put_run-inside f inj [] first m h = refl
put_run-inside f inj (b ∷ bs) first m h =
    let w : List Block = memory_after_put m (put_byte (f first) b) in
    let here = put_run-outside f inj bs (first + 1) w first (inl (omega arith)) ∙ byte_at-same m (f first) (λ old. b) in
    let some : option_map (λ (old : ℕ). b) (byte_at m (f first)) ≡ Some b = is_some (byte_at m (f first)) (h first (omega arith) (omega arith)) in
    let front = ap (λ o. unwrap_or o 0) (here ∙ some) in
    let back = put_run-inside f inj bs (first + 1) w
    (λ i l u e. h i (omega (arith, l)) (omega (arith, u))
    (sym (byte_at-other m (f first) (f i) (λ old. b) (λ q. let r = inj first i q in omega (arith, l, r))) ∙ e)) in
    rw (front, back) refl
  where
    is_some : (o : Option ℕ) → o ≢ None → option_map (λ (old : ℕ). b) o ≡ Some b
    is_some None ne = absurd (ne refl)
    is_some (Some x) ne = refl

run-same : (f : ℕ → ByteName) (m w : List Block) (n first : ℕ) → ((i : ℕ) → first ≤ i → i < first + n → byte_at w (f i) ≡ byte_at m (f i))
    → map (byte_or_zero w) (map f (numbers_from first n)) ≡ map (byte_or_zero m) (map f (numbers_from first n))
unfolding numbers_from
run-same f m w zero first h = refl
run-same f m w (suc n) first h =
    let front = ap (λ o. unwrap_or o 0) (h first (omega arith) (omega arith)) in
    let back = run-same f m w n (first + 1) (λ i l u. h i (omega (arith, l)) (omega (arith, u))) in
    rw (front, back) refl

pub writes_content : WritesContent
unfolding names_at
writes_content p a offset bytes m h there apart =
    let f = name_at p a in
    let inj : Injective f = λ i j e. (names_are_one_to_one p a a i j apart e).same_offset in
    let len = length bytes in
    let w : List Block = put_run f offset bytes m in
    let rest = size_in p.sizes a - (offset + len) in
    let A = part_at p a m 0 offset in
    let B = part_at p a m offset len in
    let C = part_at p a m (offset + len) rest in
    let before : part_at p a w 0 offset ≡ A = run-same f m w offset 0 (λ i l u. put_run-outside f inj bytes offset m i (inl (omega (arith, u)))) in
    let in_ : part_at p a w offset len ≡ bytes = put_run-inside f inj bytes offset m (λ i l u. there i (omega (arith, u, h))) in
    let behind : part_at p a w (offset + len) rest ≡ C = run-same f m w rest (offset + len) (λ i l u. put_run-outside f inj bytes offset m i (inr l)) in
    let parts = content-parts p a offset len m h in
    let first : take offset (content_of m p a) ≡ A = ap (take offset) parts ∙ take_at A (B ++ C) offset (part_at-length p a m 0 offset) in
    let AB : length (A ++ B) ≡ offset + len = length-append A B ∙ ap (λ n. n + length B) (part_at-length p a m 0 offset)
    ∙ ap (λ n. offset + n) (part_at-length p a m offset len) in
    let last : drop (offset + len) (content_of m p a) ≡ C = ap (drop (offset + len)) (parts ∙ sym (append_assoc A B C))
    ∙ drop_at (A ++ B) C (offset + len) AB in
    content-parts p a offset len w h
    ∙ ap (λ xs. xs ++ (part_at p a w offset len ++ part_at p a w (offset + len) rest)) (before ∙ sym first)
    ∙ ap (λ xs. take offset (content_of m p a) ++ (xs ++ part_at p a w (offset + len) rest)) in_
    ∙ ap (λ xs. take offset (content_of m p a) ++ (bytes ++ xs)) (behind ∙ sym last)

-- bytes of a part one behind another
run_of_part : (m : List Block) (port : ℕ) (part : Part) (n first : ℕ) → first + n ≤ length (block_of m port part)
    → map (byte_or_zero m) (map (λ k. record { port = port; part = part; index = k }) (numbers_from first n)) ≡ take n (drop first (block_of m port part))
unfolding numbers_from byte_at
run_of_part m port part zero first h = refl
run_of_part m port part (suc n) first h =
    let xs = block_of m port part in
    let head : unwrap_or (slice_get xs first) 0 ≡ get_or xs first 0 = unwrap_or-slice_get xs first 0 in
    let next : first + 1 ≡ suc first = omega arith in
    let rest = run_of_part m port part n (first + 1) (omega (arith, h)) ∙ ap (λ k. take n (drop k xs)) next in
    let inside : first < length xs = omega (arith, h) in
    ap (λ x. x ∷ map (byte_or_zero m) (map (λ k. record { port = port; part = part; index = k }) (numbers_from (first + 1) n))) head
    ∙ ap (λ ys. get_or xs first 0 ∷ ys) rest ∙ sym (ap (take (suc n)) (drop-cons xs first 0 inside))

take-whole : (n : ℕ) (xs : List ℕ) → length xs ≡ n → take n xs ≡ xs
take-whole zero [] e = refl
take-whole zero (x ∷ xs) e = absurd (omega (arith, e))
take-whole (suc n) [] e = absurd (omega (arith, e))
take-whole (suc n) (x ∷ xs) e = ap (λ ys. x ∷ ys) (take-whole n xs (omega (arith, e)))

gap_names : (p : PlantPort) (a : Area) → AreApart p.symbols → (n first : ℕ) → ((i : ℕ) → first ≤ i → i < first + n → is_covered p a i ≡ false)
    → map (name_at p a) (numbers_from first n) ≡ map (name_in_gap p.number a) (numbers_from first n)
unfolding numbers_from
gap_names p a apart zero first h = refl
gap_names p a apart (suc n) first h =
    let head = (tiles_give_names p a first apart).gap (h first (omega arith) (omega arith)) in
    let rest = gap_names p a apart n (first + 1) (λ i l u. h i (omega (arith, l)) (omega (arith, u))) in
    rw (head, rest) refl

spans : (p : PlantPort) (n : ℕ) (s : PlantSymbol) → slice_get p.symbols n ≡ Some s → AreApart p.symbols
    → map (name_at p s.area) (numbers_from (s.offset + 0) (symbol_size s)) ≡ symbol_names p.number (lower_name s) 0 (symbol_size s)
unfolding names_at
spans p n s g apart = spans_give_names p n s 0 (symbol_size s) apart g (omega arith)

-- the bytes of a tile under the names of its bytes
tile_run : (p : PlantPort) (a : Area) (m : List Block) → AreApart p.symbols → HasItsBytes m p → (offset : ℕ) (t : Tile) → IsTileFrom p a offset t
    → offset + tile_len t ≤ size_in p.sizes a → part_at p a m offset (tile_len t) ≡ tile_bytes m p a offset t
tile_run p a m apart has offset (GapTile len) free u =
    let long = has.areas a in
    ap (map (byte_or_zero m)) (gap_names p a apart len offset free) ∙ run_of_part m p.number (AreaPart a) len offset (omega (arith, u, long))
tile_run p a m apart has offset (SymbolTile s) at_ u =
    let long = has.symbols at_.number s at_.there in
    let from : s.offset + 0 ≡ offset = let e = at_.same_offset in omega (arith, e) in
    let names = spans p at_.number s at_.there apart in
    ap (λ n. part_at p a m n (symbol_size s)) (sym from) ∙ ap (λ b. part_at p b m (s.offset + 0) (symbol_size s)) (sym at_.same_area)
    ∙ ap (map (byte_or_zero m)) names ∙ run_of_part m p.number (SymbolPart (lower_name s)) (symbol_size s) 0 (omega (arith, long))
    ∙ take-whole (symbol_size s) (block_of m p.number (SymbolPart (lower_name s))) long

tiles_end : (p : PlantPort) (a : Area) (ts : List Tile) (offset : ℕ) → AreTilesFrom p a offset ts → offset ≤ size_in p.sizes a
tiles_end p a [] offset h = omega (arith, h)
tiles_end p a (t ∷ ts) offset h = let l = tiles_end p a ts (offset + tile_len t) (h.1) in omega (arith, l)

tiles_run : (p : PlantPort) (a : Area) (m : List Block) → AreApart p.symbols → HasItsBytes m p → (ts : List Tile) (offset : ℕ) → AreTilesFrom p a offset ts
    → part_at p a m offset (size_in p.sizes a - offset) ≡ bytes_of_tiles m p a offset ts
unfolding numbers_from
tiles_run p a m apart has [] offset h = let e : size_in p.sizes a - offset ≡ 0 = omega (arith, h) in rw e refl
tiles_run p a m apart has (t ∷ ts) offset h =
    let l = tiles_end p a ts (offset + tile_len t) (h.1) in
    let e : size_in p.sizes a - offset ≡ tile_len t + (size_in p.sizes a - (offset + tile_len t)) = omega (arith, l) in
    ap (part_at p a m offset) e ∙ part_at-append p a m offset (tile_len t) (size_in p.sizes a - (offset + tile_len t))
    ∙ ap (λ xs. xs ++ part_at p a m (offset + tile_len t) (size_in p.sizes a - (offset + tile_len t))) (tile_run p a m apart has offset t (h.0) l)
    ∙ ap (λ xs. tile_bytes m p a offset t ++ xs) (tiles_run p a m apart has ts (offset + tile_len t) (h.1))

pub content_is_of_tiles : ContentIsOfTiles
unfolding content_of names_at
content_is_of_tiles m p a ts apart has h =
    let e : size_in p.sizes a ≡ size_in p.sizes a - 0 = omega arith in
    ap (part_at p a m 0) e ∙ tiles_run p a m apart has ts 0 h
