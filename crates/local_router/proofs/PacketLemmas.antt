-- What is read as a packet to the router is that packet, and what is heard divides what came.
use Rattle.std.proofs.Common.{◌≡◌, ℕ, ◌-◌, ◌<◌, List, [], ◌∷◌, ◌++◌, length, take, drop, min, get_or, suc, zero}
use Rattle.std.proofs.Common.{refl, ap, sym, ◌∙◌, subst, append_assoc, append-nil, arith}
use Rattle.std.specs.Prelude.{Bool, true, false, ◌==◌, nat_lt, if◌then◌else◌, bytes_eq}
use Rattle.std.specs.Int.{w16, to_le_bytes, from_le_bytes}
use Rattle.std.specs.List.{flat_map}
use Rattle.std.proofs.Math.Seq.{take-length}
use Rattle.std.proofs.lemmas.Bool.{eqb-true}
use Rattle.std.proofs.lemmas.List.{take-append-drop, length-drop}
use Rattle.std.proofs.lemmas.Nat.{le_bytes_2, from_le_bytes-to_le_bytes_2}
use Rattle.std.proofs.lemmas.Slice.Eq.{bytes_eq-Decides}
use Rattle.local_router.specs.declared.ask.Ask.{Ask}
use Rattle.local_router.specs.declared.ask.Ask.TheVariants as ask
use Rattle.local_router.specs.declared.front.Front.{Front}
use Rattle.local_router.specs.declared.front.Front.TheVariants as front
use Rattle.local_router.specs.Asks.{AreBytes, HasPort, ask_bytes, connect_head, local_net_id_head}
use Rattle.local_router.specs.Fronts.{agrees, front_of, connect_front, local_net_id_front}
use Rattle.local_router.specs.Heard.{Heard, heard, heard_at, rest_bytes}

bytes_left : (xs ys : List ℕ) → AreBytes (xs ++ ys) → AreBytes xs
bytes_left [] ys are = tt
bytes_left (x ∷ xs) ys are = (are.0, bytes_left xs ys are.1)

bytes_right : (xs ys : List ℕ) → AreBytes (xs ++ ys) → AreBytes ys
bytes_right [] ys are = are
bytes_right (x ∷ xs) ys are = bytes_right xs ys are.1

byte_at : (xs : List ℕ) → AreBytes xs → (i : ℕ) → get_or xs i 0 < 256
byte_at [] are i = omega arith
byte_at (x ∷ xs) are zero = are.0
byte_at (x ∷ xs) are (suc i) = byte_at xs are.1 i

bytes_drop : (n : ℕ) (xs : List ℕ) → AreBytes xs → AreBytes (drop n xs)
bytes_drop n xs are = bytes_right (take n xs) (drop n xs) (subst AreBytes (sym (take-append-drop n xs)) are)

-- the head of a text of eight bytes, and of one of six
head_of_eight : (text head : List ℕ) → length text ≡ 8 → length head ≡ 6 → agrees text head ≡ true → take 6 text ≡ head
unfolding agrees
head_of_eight text head eight six are =
    let both : min (length text) (length head) ≡ 6 = omega (arith, eight, six) in
    let same : bytes_eq (take 6 text) (take 6 head) ≡ true = subst (λ n. bytes_eq (take n text) (take n head) ≡ true) both are in
    (bytes_eq-Decides (take 6 text) (take 6 head)).0 same ∙ subst (λ n. take n head ≡ head) six (take-length head)

whole_of_six : (text head : List ℕ) → length text ≡ 6 → length head ≡ 6 → agrees text head ≡ true → text ≡ head
unfolding agrees
whole_of_six text head length_six six are =
    let both : min (length text) (length head) ≡ 6 = omega (arith, length_six, six) in
    let same : bytes_eq (take 6 text) (take 6 head) ≡ true = subst (λ n. bytes_eq (take n text) (take n head) ≡ true) both are in
    sym (subst (λ n. take n text ≡ text) length_six (take-length text))
    ∙ (bytes_eq-Decides (take 6 text) (take 6 head)).0 same ∙ subst (λ n. take n head ≡ head) six (take-length head)

port_behind : (text : List ℕ) → AreBytes text → length text ≡ 8 → to_le_bytes w16 (from_le_bytes w16 (take 2 (drop 6 text))) ≡ drop 6 text
port_behind text are eight =
    let two : length (drop 6 text) ≡ 2 = length-drop 6 text ∙ ap (λ n. n - 6) eight in
    le_bytes_2 (drop 6 text) (from_le_bytes w16 (take 2 (drop 6 text))) two (byte_at (drop 6 text) (bytes_drop 6 text are))
    (ap (from_le_bytes w16) (subst (λ n. take n (drop 6 text) ≡ drop 6 text) two (take-length (drop 6 text))))

connect_is : (text : List ℕ) → AreBytes text → length text ≡ 8 → agrees text connect_head ≡ true
    → text ≡ ask_bytes (ask.Connect (from_le_bytes w16 (take 2 (drop 6 text))))
connect_is text are eight agree =
    sym (take-append-drop 6 text) ∙ ap (λ h. h ++ drop 6 text) (head_of_eight text connect_head eight refl agree)
    ∙ ap (λ p. connect_head ++ p) (sym (port_behind text are eight))

-- what a front asks
abbrev asks_of : Front → Ask
asks_of (front.Asks a) = a
asks_of front.Begun = ask.LocalNetId
asks_of front.Foreign = ask.LocalNetId

abbrev is_asks : Front → Bool
is_asks (front.Asks a) = true
is_asks front.Begun = false
is_asks front.Foreign = false

no_asks : {P : Type 0} (f : Front) (a : Ask) → is_asks f ≡ false → f ≡ front.Asks a → P
no_asks f a none is = absurd (let e : false ≡ true = sym none ∙ ap is_asks is in cc)

by_connect : (text : List ℕ) (a : Ask) → AreBytes text → agrees text connect_head ≡ true → (short eight : Bool) → (length text == 8) ≡ eight
    → (if short then front.Begun else if eight then front.Asks (ask.Connect (from_le_bytes w16 (take 2 (drop 6 text)))) else front.Foreign) ≡ front.Asks a
    → text ≡ ask_bytes a
by_connect text a are agree true eight is_eight is = no_asks front.Begun a refl is
by_connect text a are agree false true is_eight is =
    connect_is text are (eqb-true (length text) 8 is_eight) agree ∙ ap (λ f. ask_bytes (asks_of f)) is
by_connect text a are agree false false is_eight is = no_asks front.Foreign a refl is

by_net_id : (text : List ℕ) (a : Ask) → agrees text local_net_id_head ≡ true → (short six : Bool) → (length text == 6) ≡ six
    → (if short then front.Begun else if six then front.Asks ask.LocalNetId else front.Foreign) ≡ front.Asks a → text ≡ ask_bytes a
by_net_id text a agree true six is_six is = no_asks front.Begun a refl is
by_net_id text a agree false true is_six is =
    whole_of_six text local_net_id_head (eqb-true (length text) 6 is_six) refl agree ∙ ap (λ f. ask_bytes (asks_of f)) is
by_net_id text a agree false false is_six is = no_asks front.Foreign a refl is

by_agreeing : (text : List ℕ) (a : Ask) → AreBytes text → (first second : Bool) → agrees text connect_head ≡ first → agrees text local_net_id_head ≡ second
    → (if first then connect_front text else if second then local_net_id_front text else front.Foreign) ≡ front.Asks a → text ≡ ask_bytes a
by_agreeing text a are true second one two is = by_connect text a are one (nat_lt (length text) 8) (length text == 8) refl is
by_agreeing text a are false true one two is = by_net_id text a two (nat_lt (length text) 6) (length text == 6) refl is
by_agreeing text a are false false one two is = no_asks front.Foreign a refl is

pub is_packet : (text : List ℕ) (a : Ask) → AreBytes text → front_of text ≡ front.Asks a → text ≡ ask_bytes a
unfolding front_of
is_packet text a are is = by_agreeing text a are (agrees text connect_head) (agrees text local_net_id_head) refl refl is

pub is_read : (a : Ask) → HasPort a → front_of (ask_bytes a) ≡ front.Asks a
unfolding front_of agrees
is_read (ask.Connect port) fits = ap (λ p. front.Asks (ask.Connect p)) (from_le_bytes-to_le_bytes_2 port fits)
is_read ask.LocalNetId fits = refl

-- by what the text with one byte more is
divided_at : (f : Front) (text bs : List ℕ) (b : ℕ) (anew on : Heard) → AreBytes (text ++ b ∷ []) → front_of (text ++ b ∷ []) ≡ f
    → bs ≡ flat_map ask_bytes anew.asks ++ rest_bytes anew.rest
    → (text ++ b ∷ []) ++ bs ≡ flat_map ask_bytes on.asks ++ rest_bytes on.rest
    → text ++ b ∷ bs ≡ flat_map ask_bytes (heard_at f anew on (text ++ b ∷ bs)).asks ++ rest_bytes (heard_at f anew on (text ++ b ∷ bs)).rest
divided_at (front.Asks a) text bs b anew on are is one two =
    sym (append_assoc text (b ∷ []) bs) ∙ ap (λ t. t ++ bs) (is_packet (text ++ b ∷ []) a are is) ∙ ap (λ t. ask_bytes a ++ t) one
    ∙ sym (append_assoc (ask_bytes a) (flat_map ask_bytes anew.asks) (rest_bytes anew.rest))
divided_at front.Begun text bs b anew on are is one two = sym (append_assoc text (b ∷ []) bs) ∙ two
divided_at front.Foreign text bs b anew on are is one two = refl

pub divided : (text bytes : List ℕ) → AreBytes (text ++ bytes)
    → text ++ bytes ≡ flat_map ask_bytes (heard text bytes).asks ++ rest_bytes (heard text bytes).rest
unfolding heard
divided text [] are = append-nil text
divided text (b ∷ bs) are =
    let all : AreBytes ((text ++ b ∷ []) ++ bs) = subst AreBytes (sym (append_assoc text (b ∷ []) bs)) are in
    divided_at (front_of (text ++ b ∷ [])) text bs b (heard [] bs) (heard (text ++ b ∷ []) bs) (bytes_left (text ++ b ∷ []) bs all) refl
    (divided [] bs (bytes_right (text ++ b ∷ []) bs all)) (divided (text ++ b ∷ []) bs all)
