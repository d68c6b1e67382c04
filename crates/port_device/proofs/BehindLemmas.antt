-- What stands behind a text: one text behind another, and whole texts.
use Rattle.std.proofs.Common.{◌≡◌, ℕ, suc, ◌+◌, ◌*◌, ◌<◌, ◌≤◌, ◌^◌, List, [], ◌∷◌, ◌++◌, length, true, false}
use Rattle.std.proofs.Common.{refl, sym, ap, subst, ◌∙◌, inl, inr, append_assoc, arith}
use Rattle.std.specs.Prelude.{◌==◌, ◌/◌, ◌%◌, Bool, Option, Some, None, MatchOption, Result, Ok, Err, IfOk}
use Rattle.std.specs.Prelude.{option_map, option_and_then, bytes_eq, get_or, take, drop, flat_map}
use Rattle.std.specs.Borrow.{Bor}
use Rattle.std.specs.Int.{w16, w32, w64, to_le_bytes}
use Rattle.std.specs.List.{All}
use Rattle.std.proofs.lemmas.Bool.{cases_Bool, ne_eqb}
use Rattle.std.proofs.lemmas.List.{drop_more, drop_all}
use Rattle.std.proofs.lemmas.Grind.{flat_map-append}
use Rattle.ads_base.specs.declared.no_memory.NoMemory.{NoMemory}
use Rattle.name_paths.specs.Identifier.{lower}
use Rattle.spec_plant.specs.Listed.{NamedType, Shape, One, Plain}
use Rattle.spec_plant.specs.Plain.{kind_name}
use Rattle.spec_plant.specs.Plain as plain
use Rattle.spec_plant.specs.Trees.{tree_of}
use Rattle.spec_machine.specs.World.{World}
use Rattle.spec_persistent.specs.Persistent.{body_of}
use Rattle.spec_store.specs.BodyText.{StoredEntry, entry_bytes, body_text}
use Rattle.type_layout.specs.Forms.{form_of}
use Rattle.port_device.specs.Behind.{behind, sized_form, is_end}
use Rattle.port_device.specs.Holds.{HoldsPorts}
use Rattle.port_device.specs.PortMemory.{PortsMemory}
use Rattle.port_device.specs.PersistentRows.{head_bytes, value_bytes, ports_entries, HasNumber}
use Rattle.port_device.proofs.PersistentLemmas.{ports-held}
use Rattle.port_device.proofs.PersistentCounts.{few-entries}

-- behind two texts
pub behind-append : (a b bytes : List ℕ) → behind (a ++ b) bytes ≡ option_and_then (behind b) (behind a bytes)
unfolding behind
behind-append [] b bytes = refl
behind-append (t ∷ ts) b [] = refl
behind-append (t ∷ ts) b (x ∷ xs) =
    elim (cases_Bool (x == t)) [
      | inl same ↦ rw same (behind-append ts b xs)
      | inr other ↦ rw other refl
    ]

-- bytes are a text where they begin with it and nothing stands behind
pub bytes_eq-behind : (bytes text : List ℕ) → bytes_eq bytes text ≡ is_end (behind text bytes)
unfolding behind
bytes_eq-behind [] [] = refl
bytes_eq-behind [] (t ∷ ts) = refl
bytes_eq-behind (b ∷ bs) [] = sym (ne_eqb (suc (length bs)) 0 (λ same. omega (arith, same)))
bytes_eq-behind (b ∷ bs) (t ∷ ts) =
    elim (cases_Bool (b == t)) [
      | inl same ↦ rw same (bytes_eq-behind bs ts)
      | inr other ↦ rw other refl
    ]

-- as a slice tells it
pub behind-equal : (text bytes : List ℕ) → bytes_eq (take (length text) bytes) text ≡ true → Some (drop (length text) bytes) ≡ behind text bytes
unfolding behind
behind-equal [] bytes e = refl
behind-equal (t ∷ ts) [] e = absurd (cc)
behind-equal (t ∷ ts) (b ∷ bs) e =
    elim (cases_Bool (b == t)) [
      | inl same ↦ rw same (behind-equal ts bs (rw same at e))
      | inr other ↦ cc
    ]

pub behind-unequal : (text bytes : List ℕ) → bytes_eq (take (length text) bytes) text ≡ false → None ≡ behind text bytes
unfolding behind
behind-unequal [] bytes e = cc
behind-unequal (t ∷ ts) [] e = refl
behind-unequal (t ∷ ts) (b ∷ bs) e =
    elim (cases_Bool (b == t)) [
      | inl same ↦ rw same (behind-unequal ts bs (rw same at e))
      | inr other ↦ rw other refl
    ]

pub behind-cases : (text bytes : List ℕ) (r : Option (Bor (List ℕ)))
    → MatchOption r (bytes_eq (take (length text) bytes) text ≡ false)
    (λ x. (bytes_eq (take (length text) bytes) text ≡ true) × (x.now ≡ drop (length text) bytes) × (length x.now + length text ≡ length bytes))
    → option_map (λ (x : Bor (List ℕ)). x.now) r ≡ behind text bytes
behind-cases text bytes None unequal = behind-unequal text bytes unequal
behind-cases text bytes (Some x) (equal, is, rest) = ap Some is ∙ behind-equal text bytes equal

-- behind two texts, where nothing stands behind the first, or this
pub behind-none : (a b bytes : List ℕ) → None ≡ behind a bytes → None ≡ behind (a ++ b) bytes
behind-none a b bytes none = ap (option_and_then (behind b)) none ∙ sym (behind-append a b bytes)

pub behind-some : (a b bytes rest : List ℕ) (r : Option (List ℕ)) → Some rest ≡ behind a bytes → r ≡ behind b rest → r ≡ behind (a ++ b) bytes
behind-some a b bytes rest r first then_ = then_ ∙ ap (option_and_then (behind b)) first ∙ sym (behind-append a b bytes)

-- two numbers of 16 bits in one word
pub word-halves : (low high : ℕ) → low < 65536 → high < 65536 → to_le_bytes w32 (low + high * 65536) ≡ to_le_bytes w16 low ++ to_le_bytes w16 high
word-halves low high l h =
    let P : ℕ → ℕ → ℕ → ℕ → Type 0 = λ a b c d. a ∷ b ∷ c ∷ d ∷ [] ≡ to_le_bytes w16 low ++ to_le_bytes w16 high in
    let w : ℕ = low + high * 65536 in
    let a : low % 256 ≡ w % 256 = omega (arith, l, h) in
    let b : low / 256 % 256 ≡ w / 256 % 256 = omega (arith, l, h) in
    let c : high % 256 ≡ w / 65536 % 256 = omega (arith, l, h) in
    let d : high / 256 % 256 ≡ w / 16777216 % 256 = omega (arith, l, h) in
    subst (λ x. P x (w / 256 % 256) (w / 65536 % 256) (w / 16777216 % 256)) a
    (subst (λ x. P (low % 256) x (w / 65536 % 256) (w / 16777216 % 256)) b
    (subst (λ x. P (low % 256) (low / 256 % 256) x (w / 16777216 % 256)) c
    (subst (λ x. P (low % 256) (low / 256 % 256) (high % 256) x) d refl)))

-- an entry is its head and its value
parts : (h a f s v : List ℕ) → h ++ (((a ++ f) ++ s) ++ v) ≡ (((h ++ a) ++ f) ++ s) ++ v
parts h a f s v = simp append_assoc refl

-- a value behind its form
pub value-parts : (form value : List ℕ)
    → to_le_bytes w64 (length form) ++ (form ++ (to_le_bytes w32 (length value) ++ value)) ≡ value_bytes form value
value-parts form value = simp append_assoc refl

pub sized-parts : (form value : List ℕ) → sized_form form ++ (to_le_bytes w32 (length value) ++ value) ≡ value_bytes form value
sized-parts form value = simp append_assoc refl

entry-parts : (e : StoredEntry) → head_bytes e.port e.name ++ value_bytes e.form e.bytes ≡ entry_bytes e
entry-parts e = parts (head_bytes e.port e.name) (to_le_bytes w64 (length e.form)) e.form (to_le_bytes w32 (length e.bytes)) e.bytes

pub entry-none : (e : StoredEntry) (bytes : List ℕ) → None ≡ behind (head_bytes e.port e.name) bytes → None ≡ behind (entry_bytes e) bytes
entry-none e bytes none =
    behind-none (head_bytes e.port e.name) (value_bytes e.form e.bytes) bytes none ∙ ap (λ t. behind t bytes) (entry-parts e)

pub entry-some : (e : StoredEntry) (r : Result (Option (Bor (List ℕ))) NoMemory) (bytes rest : List ℕ) → Some rest ≡ behind (head_bytes e.port e.name) bytes
    → IfOk r (λ x. option_map (λ (y : Bor (List ℕ)). y.now) x ≡ behind (value_bytes e.form e.bytes) rest)
    → IfOk r (λ x. option_map (λ (y : Bor (List ℕ)). y.now) x ≡ behind (entry_bytes e) bytes)
entry-some e (Ok x) bytes rest head is =
    behind-some (head_bytes e.port e.name) (value_bytes e.form e.bytes) bytes rest (option_map (λ (y : Bor (List ℕ)). y.now) x) head is
    ∙ ap (λ t. behind t bytes) (entry-parts e)
entry-some e (Err e2) bytes rest head is = tt

-- entries one after another: the first of those that are left

abbrev pub texts_of : {X : Type 0} → (X → List StoredEntry) → List X → List ℕ
texts_of f xs = flat_map entry_bytes (flat_map f xs)

left-first : {X : Type 0} (f : X → List StoredEntry) (xs : List X) (i : ℕ) (x : X) → i < length xs → x ≡ get_or xs i x
    → texts_of f (drop i xs) ≡ flat_map entry_bytes (f x) ++ texts_of f (drop (i + 1) xs)
left-first f xs i x below is =
    ap (texts_of f) (drop_more xs i x below ∙ ap (λ y. y ∷ drop (i + 1) xs) (sym is)) ∙ flat_map-append entry_bytes (f x) (flat_map f (drop (i + 1) xs))

pub left-none : {X : Type 0} (f : X → List StoredEntry) (xs : List X) (i : ℕ) (x : X) (rest start : List ℕ) → i < length xs → x ≡ get_or xs i x
    → behind (texts_of f (drop i xs)) rest ≡ behind (texts_of f xs) start → None ≡ behind (flat_map entry_bytes (f x)) rest
    → None ≡ behind (texts_of f xs) start
left-none f xs i x rest start below is so_far none =
    behind-none (flat_map entry_bytes (f x)) (texts_of f (drop (i + 1) xs)) rest none
    ∙ ap (λ t. behind t rest) (sym (left-first f xs i x below is)) ∙ so_far

pub left-some : {X : Type 0} (f : X → List StoredEntry) (xs : List X) (i : ℕ) (x : X) (rest left start : List ℕ) → i < length xs → x ≡ get_or xs i x
    → behind (texts_of f (drop i xs)) rest ≡ behind (texts_of f xs) start → Some left ≡ behind (flat_map entry_bytes (f x)) rest
    → behind (texts_of f (drop (i + 1) xs)) left ≡ behind (texts_of f xs) start
left-some f xs i x rest left start below is so_far some =
    behind-some (flat_map entry_bytes (f x)) (texts_of f (drop (i + 1) xs)) rest left (behind (texts_of f (drop (i + 1) xs)) left) some refl
    ∙ ap (λ t. behind t rest) (sym (left-first f xs i x below is)) ∙ so_far

-- all were walked
pub left-end : {X : Type 0} (f : X → List StoredEntry) (xs : List X) (i : ℕ) (rest start : List ℕ) → length xs ≤ i
    → behind (texts_of f (drop i xs)) rest ≡ behind (texts_of f xs) start → Some rest ≡ behind (texts_of f xs) start
unfolding behind
left-end f xs i rest start past so_far = ap (λ ys. behind (texts_of f ys) rest) (sym (drop_all i xs past)) ∙ so_far

-- the form of a plain type
pub plain-form : (types : List NamedType) (shape : Shape) (k : plain.Kind) → shape ≡ One (Plain k) → form_of (tree_of types shape) ≡ lower (kind_name k)
unfolding form_of
plain-form types shape k is = rw is refl

-- whether bytes are the whole text: its count, and its entries with nothing behind them

body-none : (es : List StoredEntry) (count : ℕ) (body : List ℕ) → count ≡ length es → None ≡ behind (to_le_bytes w32 count) body
    → false ≡ bytes_eq body (body_text es)
body-none es count body counted none =
    ap is_end (behind-none (to_le_bytes w32 (length es)) (flat_map entry_bytes es) body (none ∙ ap (λ n. behind (to_le_bytes w32 n) body) counted))
    ∙ sym (bytes_eq-behind body (body_text es))

body-some : (es : List StoredEntry) (count : ℕ) (body entries : List ℕ) (r : Option (List ℕ)) → count ≡ length es
    → Some entries ≡ behind (to_le_bytes w32 count) body → r ≡ behind (flat_map entry_bytes es) entries → is_end r ≡ bytes_eq body (body_text es)
body-some es count body entries r counted some rest =
    ap is_end (behind-some (to_le_bytes w32 (length es)) (flat_map entry_bytes es) body entries r
    (some ∙ ap (λ n. behind (to_le_bytes w32 n) body) counted) rest) ∙ sym (bytes_eq-behind body (body_text es))

pub body-without : (es : List StoredEntry) (count : ℕ) (body : List ℕ) → (length es < 2 ^ 32 → count ≡ length es)
    → None ≡ behind (to_le_bytes w32 count) body → length es < 2 ^ 32 → false ≡ bytes_eq body (body_text es)
body-without es count body counted none few = body-none es count body (counted few) none

pub body-with : (es : List StoredEntry) (count : ℕ) (body entries : List ℕ) (r : Option (List ℕ)) → (length es < 2 ^ 32 → count ≡ length es)
    → Some entries ≡ behind (to_le_bytes w32 count) body → r ≡ behind (flat_map entry_bytes es) entries → length es < 2 ^ 32
    → is_end r ≡ bytes_eq body (body_text es)
body-with es count body entries r counted some rest few = body-some es count body entries r (counted few) some rest

-- of the world that ports hold
pub body-persists : (r : Result Bool NoMemory) (m : PortsMemory) (body : List ℕ)
    → IfOk r (λ same. length (ports_entries m.ports) < 2 ^ 32 → same ≡ bytes_eq body (body_text (ports_entries m.ports)))
    → All HasNumber m.ports
    → IfOk r (λ same. (w : World) → HoldsPorts w m → same ≡ bytes_eq body (body_of w.plant w.memory))
unfolding body_of
body-persists (Ok same) m body is numbers = λ w h.
    is (few-entries w m h numbers) ∙ ap (λ es. bytes_eq body (body_text es)) (ports-held w m h)
body-persists (Err e) m body is numbers = tt
