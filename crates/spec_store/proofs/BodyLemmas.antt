-- The body text of entries is read as these entries.
use Rattle.std.proofs.Common.{◌≡◌, ℕ, suc, List, [], ◌∷◌, ◌++◌, length, drop, refl, ◌∙◌, ap, arith, append_assoc, length-append}
use Rattle.std.specs.Prelude.{Some, All, option_map, option_and_then, flat_map}
use Rattle.std.specs.Int.{w16, w32, w64, to_le_bytes}
use Rattle.std.proofs.lemmas.Bool.{le-ltb}
use Rattle.std.proofs.lemmas.List.{take_at, drop_at}
use Rattle.std.proofs.lemmas.Nat.{from_le_bytes-to_le_bytes_2, from_le_bytes-to_le_bytes_4, from_le_bytes-to_le_bytes_8}
use Rattle.spec_formats.specs.Numbers.{number16, number32, number64}
use Rattle.spec_store.specs.BodyText.{StoredEntry, entry_bytes, FitsEntry, Split, split_at, EntryRead}
use Rattle.spec_store.specs.BodyText.{with_bytes_read, with_form_read, with_form_length_read, with_name_read}
use Rattle.spec_store.specs.BodyText.{with_head_read, entry_of, entries_in, entries_of}
use Rattle.spec_store.specs.Laws.{BodyTextsAreRead}

abbrev split : List ℕ → List ℕ → Split
split front behind = record { front = front; behind = behind }

split_at-front : (n : ℕ) (front behind : List ℕ) → length front ≡ n → split_at n (front ++ behind) ≡ Some (split front behind)
split_at-front n front behind e =
    let t = le-ltb (length (front ++ behind)) n (omega (arith, e, length-append front behind)) in
    rw t (ap (λ (l : List ℕ). Some (split l (drop n (front ++ behind)))) (take_at front behind n e)
    ∙ ap (λ (l : List ℕ). Some (split front l)) (drop_at front behind n e))

-- fields one behind another
grouped : (a b c d e f rest : List ℕ) → a ++ b ++ c ++ d ++ e ++ f ++ rest ≡ a ++ (b ++ (c ++ (d ++ (e ++ (f ++ rest)))))
grouped a b c d e f rest =
    append_assoc (a ++ b ++ c ++ d ++ e) f rest ∙ append_assoc (a ++ b ++ c ++ d) e (f ++ rest) ∙ append_assoc (a ++ b ++ c) d (e ++ (f ++ rest))
    ∙ append_assoc (a ++ b) c (d ++ (e ++ (f ++ rest))) ∙ append_assoc a b (c ++ (d ++ (e ++ (f ++ rest))))

entry_of-bytes : (e : StoredEntry) (rest : List ℕ) → FitsEntry e → entry_of (entry_bytes e ++ rest) ≡ Some (record { entry = e; behind = rest })
unfolding entry_of
entry_of-bytes e rest fits =
    let head = to_le_bytes w16 e.port ++ to_le_bytes w16 (length e.name) in
    let form_len = to_le_bytes w64 (length e.form) in
    let size = to_le_bytes w32 (length e.bytes) in
    let t5 = e.bytes ++ rest in
    let t4 = size ++ t5 in
    let t3 = e.form ++ t4 in
    let t2 = form_len ++ t3 in
    let t1 = e.name ++ t2 in
    let port : number16 0 head ≡ e.port = from_le_bytes-to_le_bytes_2 e.port fits.port in
    let name_len : number16 2 head ≡ length e.name = from_le_bytes-to_le_bytes_2 (length e.name) fits.name in
    let form_is : number64 0 form_len ≡ length e.form = from_le_bytes-to_le_bytes_8 (length e.form) fits.form in
    let size_is : number32 0 size ≡ length e.bytes = from_le_bytes-to_le_bytes_4 (length e.bytes) fits.bytes in
    let whole : entry_bytes e ++ rest ≡ head ++ t1 = grouped head e.name form_len e.form size e.bytes rest in
    let bytes_read : with_bytes_read (number16 0 head) e.name e.form (split size t5) ≡ Some
    (record { entry = record { port = number16 0 head; name = e.name; form = e.form; bytes = e.bytes }; behind = rest }) =
    ap (option_map (read_with (number16 0 head) e.name e.form)) (ap (λ (n : ℕ). split_at n t5) size_is ∙ split_at-front (length e.bytes) e.bytes rest refl) in
    let form_read : with_form_read (number16 0 head) e.name (split e.form t4) ≡ with_bytes_read (number16 0 head) e.name e.form (split size t5) =
    ap (option_and_then (with_bytes_read (number16 0 head) e.name e.form)) (split_at-front 4 size t5 refl) in
    let length_read : with_form_length_read (number16 0 head) e.name (split form_len t3) ≡ with_form_read (number16 0 head) e.name (split e.form t4) =
    ap (option_and_then (with_form_read (number16 0 head) e.name)) (ap (λ (n : ℕ). split_at n t3) form_is ∙ split_at-front (length e.form) e.form t4 refl) in
    let name_read : with_name_read (number16 0 head) (split e.name t2) ≡ with_form_length_read (number16 0 head) e.name (split form_len t3) =
    ap (option_and_then (with_form_length_read (number16 0 head) e.name)) (split_at-front 8 form_len t3 refl) in
    let head_read : with_head_read (split head t1) ≡ with_name_read (number16 0 head) (split e.name t2) =
    ap (option_and_then (with_name_read (number16 0 head))) (ap (λ (n : ℕ). split_at n t1) name_len ∙ split_at-front (length e.name) e.name t2 refl) in
    ap (λ (l : List ℕ). option_and_then with_head_read (split_at 4 l)) whole ∙ ap (option_and_then with_head_read) (split_at-front 4 head t1 refl)
    ∙ head_read ∙ name_read ∙ length_read ∙ form_read ∙ bytes_read
    ∙ ap (λ (p : ℕ). Some (read_of (record { port = p; name = e.name; form = e.form; bytes = e.bytes }))) port
  where
    read_of : StoredEntry → EntryRead
    read_of entry = record { entry = entry; behind = rest }

    read_with : ℕ → List ℕ → List ℕ → Split → EntryRead
    read_with port name form b = record { entry = record { port = port; name = name; form = form; bytes = b.front }; behind = b.behind }

entries_in-bytes : (es : List StoredEntry) → All FitsEntry es → entries_in (length es) (flat_map entry_bytes es) ≡ Some es
unfolding entries_in
entries_in-bytes [] fits = refl
entries_in-bytes (e ∷ es) fits =
    let others = entries_in-bytes es (λ k d lt. fits (suc k) d (omega (arith, lt))) in
    ap (option_and_then (λ (r : EntryRead). option_map (λ entries. r.entry ∷ entries) (entries_in (length es) r.behind)))
    (entry_of-bytes e (flat_map entry_bytes es) (fits 0 e (omega arith)))
    ∙ ap (option_map (λ entries. e ∷ entries)) others

pub body_texts_are_read : BodyTextsAreRead
unfolding entries_of
body_texts_are_read es fits few =
    let count = to_le_bytes w32 (length es) in
    let rest = flat_map entry_bytes es in
    let n : number32 0 count ≡ length es = from_le_bytes-to_le_bytes_4 (length es) few in
    ap (option_and_then (λ (c : Split). entries_in (number32 0 c.front) c.behind)) (split_at-front 4 count rest refl)
    ∙ ap (λ (k : ℕ). entries_in k rest) n ∙ entries_in-bytes es fits
