-- The lines of a load: they may follow one another, they are short, and a loop writes them one by one.
use Rattle.std.proofs.Common.{◌≡◌, ℕ, zero, suc, ◌+◌, ◌-◌, ◌*◌, ◌/◌, ◌%◌, ◌^◌, ◌<◌, ◌≤◌, Bool, true, false}
use Rattle.std.proofs.Common.{List, [], ◌∷◌, ◌++◌, length, map, flat_map, refl, sym, ap, ◌∙◌, arith}
use Rattle.std.proofs.Common.{append_assoc, append-nil, length-append}
use Rattle.std.specs.Prelude.{nat_lt, nat_le, ◌==◌, Ok, if◌then◌else◌}
use Rattle.std.specs.List.{list_all, range_with_len}
use Rattle.std.specs.Int.{w32, to_le_bytes}
use Rattle.std.specs.Fmt.{decimal, digits}
use Rattle.std.proofs.lemmas.Bool.{leb-true, lt-ltb}
use Rattle.std.proofs.lemmas.Fmt.{length-decimal-le}
use Rattle.std.proofs.lemmas.List.Concat.{flat_map-append}
use Rattle.std.proofs.lemmas.List.Folds.{list_all-append}
use Rattle.std.proofs.lemmas.List.FromFn.{map-range_with_len_more}
use Rattle.hex.specs.Hex.{lower_digits, encode_with, encode_lower}
use Rattle.hex.proofs.HexLemmas.{length-encode_with}
use Rattle.spec_frames.specs.Frame.{IsAmsPacket, frame_bytes}
use Rattle.spec_frames.specs.Frame as frame
use Rattle.spec_formats.specs.Header.{header_bytes, request_flags}
use Rattle.spec_formats.specs.Request.{Request, Read, Write, AddDeviceNotification, command_of, request_bytes}
use Rattle.spec_machine.specs.Reading.{is_among}
use Rattle.spec_server.specs.Server.{server_script}
use Rattle.load_maker.specs.MadeLines.{MadeLine, Opens, Sends, Ticks, line_text, script_text, script_said}
use Rattle.load_maker.specs.LoadScript.{client_address, plant_address, request_packet, DATA, watch_line}
use Rattle.load_maker.specs.LoadScript.{watch_lines, load_number, turn_request, tick_lines, turn_of}
use Rattle.load_maker.specs.LoadScript.{turn_lines, clients, first_turns, load_lines}
use Rattle.load_maker.proofs.LineTexts.{is_byte}
use Rattle.load_maker.proofs.MadeRead.{Follows, AllFollow, made_read}

-- ---- the bytes of a frame

both : (xs ys : List ℕ) → list_all is_byte xs ≡ true → list_all is_byte ys ≡ true → list_all is_byte (xs ++ ys) ≡ true
both xs ys a b = list_all-append is_byte xs ys ∙ rw (a, b) refl

low : (m : ℕ) → nat_lt (m % 256) 256 ≡ true
low m = lt-ltb (m % 256) 256 (omega arith)

four : (n : ℕ) → list_all is_byte (to_le_bytes w32 n) ≡ true
four n = rw (low n, low (n / 256), low (n / 65536), low (n / 16777216)) refl

head : (c id len command : ℕ) → c < 256
    → list_all is_byte (header_bytes
    (record { target = plant_address; source = client_address c; command = command; flags = request_flags; len = len; error = 0; id = id })) ≡ true
head c id len command h = let net = lt-ltb c 256 h in simp (low, net)

frame_small : (c id : ℕ) (r : Request) → c < 256 → list_all is_byte (request_bytes r) ≡ true → list_all is_byte (frame_bytes (request_packet c id r)) ≡ true
unfolding request_packet
frame_small c id r h payload =
    let packet = request_packet c id r in
    both (frame.header_bytes packet) packet (four (length packet))
    (both (header_bytes (record {
      target = plant_address;
      source = client_address c;
      command = command_of r;
      flags = request_flags;
      len = length (request_bytes r);
      error = 0;
      id = id;
    }))
    (request_bytes r) (head c id (length (request_bytes r)) (command_of r) h) payload)

-- a read or a write
abbrev chosen : Bool → ℕ → ℕ → Request
chosen b s i = if b then Read DATA (4 * s) 4 else Write DATA (4 * s) (to_le_bytes w32 i)

chosen_small : (b : Bool) (s i : ℕ) → list_all is_byte (request_bytes (chosen b s i)) ≡ true
chosen_small true s i = simp low
chosen_small false s i = simp low

chosen_length : (b : Bool) (c id s i : ℕ) → length (frame_bytes (request_packet c id (chosen b s i))) ≤ 54
unfolding request_packet
chosen_length true c id s i = omega arith
chosen_length false c id s i = omega arith

chosen_some : (b : Bool) (c id s i : ℕ) → 0 < length (frame_bytes (request_packet c id (chosen b s i)))
unfolding request_packet
chosen_some true c id s i = omega arith
chosen_some false c id s i = omega arith

client-among : (k : ℕ) → k < 4 → is_among (k + 1) clients ≡ true
client-among zero h = refl
client-among (suc zero) h = refl
client-among (suc (suc zero)) h = refl
client-among (suc (suc (suc zero))) h = refl
client-among (suc (suc (suc (suc k)))) h = absurd (omega arith)

-- ---- the lines follow one another

append-follow : (xs ys : List MadeLine) → AllFollow xs → AllFollow ys → AllFollow (xs ++ ys)
append-follow [] ys a b = b
append-follow (x ∷ xs) ys a b = (a.0, append-follow xs ys a.1 b)

tick-follows : (b : Bool) (i : ℕ) → i ≤ 100000 → AllFollow (if b then Ticks (100000 * i) ∷ [] else [])
tick-follows true i h = (omega arith, tt)
tick-follows false i h = tt

turn-follows : (x i : ℕ) → i ≤ 100000 → AllFollow (turn_of x i)
turn-follows x i h =
    let b = (x / 400) % 2 == 0 in
    let s = (x / 4) % 100 in (
      record {
        above = omega arith;
        below = omega arith;
        client = client-among (x % 4) (omega arith);
        some = chosen_some b (x % 4 + 1) (10 + i) s i;
        are_bytes = frame_small (x % 4 + 1) (10 + i) (chosen b s i) (omega arith) (chosen_small b s i);
      },
      tick-follows (i % 10 == 0) i h,
    )

turns-follow : (n a count : ℕ) → a + count ≤ 100001 → AllFollow (flat_map (turn_lines n) (range_with_len a count))
turns-follow n a zero h = tt
turns-follow n a (suc count) h =
    append-follow (turn_lines n a) (flat_map (turn_lines n) (range_with_len (a + 1) count))
    (turn-follows (load_number n a) a (omega arith)) (turns-follow n (a + 1) count (omega arith))

watch-follows : (k j : ℕ) → k < 4 → Follows (watch_line (k + 1) j)
watch-follows k j h = record {
  above = omega arith;
  below = omega arith;
  client = client-among k h;
  some = omega arith;
  are_bytes = frame_small (k + 1) (j + 1) (AddDeviceNotification DATA (4 * (25 * (k + 1 - 1) + j)) 4 4 0 0) (omega arith) (simp low);
}

some-watches : (k a count : ℕ) → k < 4 → AllFollow (map (watch_line (k + 1)) (range_with_len a count))
some-watches k a zero h = tt
some-watches k a (suc count) h = (watch-follows k a h, some-watches k (a + 1) count h)

watches-follow : AllFollow (flat_map watch_lines clients)
unfolding watch_lines
watches-follow =
    append-follow (watch_lines 1) (watch_lines 2 ++ (watch_lines 3 ++ (watch_lines 4 ++ []))) (some-watches 0 0 10 (omega arith))
    (append-follow (watch_lines 2) (watch_lines 3 ++ (watch_lines 4 ++ [])) (some-watches 1 0 10 (omega arith))
    (append-follow (watch_lines 3) (watch_lines 4 ++ []) (some-watches 2 0 10 (omega arith))
    (append-follow (watch_lines 4) [] (some-watches 3 0 10 (omega arith)) tt)))

-- ---- all lines

-- what stands behind the openings
abbrev behind_openings : ℕ → List MadeLine
behind_openings n = flat_map watch_lines clients ++ first_turns n n ++ Ticks (100000 * (n + 1)) ∷ []

load_lines-is : (n : ℕ) → load_lines n ≡ map Opens clients ++ behind_openings n
load_lines-is n =
    append_assoc (map Opens clients ++ flat_map watch_lines clients) (first_turns n n) (Ticks (100000 * (n + 1)) ∷ [])
    ∙ (append_assoc (map Opens clients) (flat_map watch_lines clients) (first_turns n n ++ Ticks (100000 * (n + 1)) ∷ [])
    ∙ ap (λ ls. map Opens clients ++ ls) (sym (append_assoc (flat_map watch_lines clients) (first_turns n n) (Ticks (100000 * (n + 1)) ∷ []))))

behind-follow : (n : ℕ) → n ≤ 100000 → AllFollow (behind_openings n)
behind-follow n h =
    append-follow (flat_map watch_lines clients ++ first_turns n n) (Ticks (100000 * (n + 1)) ∷ [])
    (append-follow (flat_map watch_lines clients) (first_turns n n) watches-follow (turns-follow n 1 n (omega arith))) (omega arith, tt)

-- the script is read as its lines say
pub script_read : (n : ℕ) → n ≤ 100000 → server_script (script_text (load_lines n)) ≡ Ok (script_said (load_lines n))
unfolding digits
script_read n h =
    ap (λ ls. server_script (script_text ls)) (load_lines-is n)
    ∙ (made_read (behind_openings n) (behind-follow n h) ∙ ap (λ ls. Ok (script_said ls)) (sym (load_lines-is n)))

-- the text in its four parts
pub load_text : (n : ℕ) → script_text (map Opens clients) ++ script_text (flat_map watch_lines clients)
    ++ script_text (first_turns n n) ++ line_text (Ticks (100000 * (n + 1))) ≡ script_text (load_lines n)
load_text n =
    let last = Ticks (100000 * (n + 1)) in
    let watches = flat_map watch_lines clients in
    let turns = first_turns n n in
    sym (flat_map-append line_text (map Opens clients ++ watches ++ turns) (last ∷ [])
    ∙ (ap (λ t. t ++ (line_text last ++ []))
    (flat_map-append line_text (map Opens clients ++ watches) turns
    ∙ ap (λ t. t ++ script_text turns) (flat_map-append line_text (map Opens clients) watches))
    ∙ ap (λ t. script_text (map Opens clients) ++ script_text watches ++ script_text turns ++ t) (append-nil (line_text last))))

-- ---- its length

sends-length : (c : ℕ) (bytes : List ℕ) → c < 10 → length (line_text (Sends c bytes)) ≤ 2 * length bytes + 9
sends-length c bytes h =
    let end = length-append ((decimal c ++ 32 ∷ []) ++ encode_lower bytes) (10 ∷ []) in
    let hex = length-append (decimal c ++ 32 ∷ []) (encode_lower bytes) in
    let space = length-append (decimal c) (32 ∷ []) in
    let twice = length-encode_with lower_digits bytes in
    let digit = length-decimal-le 1 c (omega arith) (omega arith) (omega arith) in
    omega (arith, end, hex, space, twice, digit)

ticks-length : (t : ℕ) → t < 10 ^ 11 → length (line_text (Ticks t)) ≤ 17
ticks-length t h =
    let end = length-append (decimal t) (10 ∷ []) in
    let number = length-decimal-le 11 t (omega arith) h (omega arith) in
    omega (arith, end, number)

tick-length : (b : Bool) (i : ℕ) → i ≤ 100000 → length (script_text (if b then Ticks (100000 * i) ∷ [] else [])) ≤ 17
tick-length true i h =
    let one = ticks-length (100000 * i) (omega arith) in
    omega (arith, one, ap length (append-nil (line_text (Ticks (100000 * i)))))
tick-length false i h = omega arith

turn-length : (x i : ℕ) → i ≤ 100000 → length (script_text (turn_of x i)) ≤ 134
turn-length x i h =
    let c = x % 4 + 1 in
    let r = turn_request x i in
    let bytes = frame_bytes (request_packet c (10 + i) r) in
    let short = chosen_length ((x / 400) % 2 == 0) c (10 + i) ((x / 4) % 100) i in
    let sent = sends-length c bytes (omega arith) in
    let tick = tick-length (i % 10 == 0) i h in
    let all = length-append (line_text (Sends c bytes)) (script_text (tick_lines i)) in
    omega (arith, short, sent, tick, all)

turns-length : (n a count : ℕ) → a + count ≤ 100001 → length (script_text (flat_map (turn_lines n) (range_with_len a count))) ≤ 134 * count
turns-length n a zero h = omega arith
turns-length n a (suc count) h =
    let rest = flat_map (turn_lines n) (range_with_len (a + 1) count) in
    let parts = ap length (flat_map-append line_text (turn_lines n a) rest) ∙ length-append (script_text (turn_lines n a)) (script_text rest) in
    let here = turn-length (load_number n a) a (omega arith) in
    let more = turns-length n (a + 1) count (omega arith) in
    omega (arith, parts, here, more)

openings-length : length (script_text (map Opens clients)) ≡ 28
unfolding digits
openings-length = refl

watches-length : nat_le (length (script_text (flat_map watch_lines clients))) 10000 ≡ true
unfolding request_packet watch_lines digits encode_with
watches-length = refl

pub load_length : (n : ℕ) → n ≤ 100000 → length (script_text (load_lines n)) ≤ 16777216
load_length n h =
    let a = script_text (map Opens clients) in
    let b = script_text (flat_map watch_lines clients) in
    let c = script_text (first_turns n n) in
    let d = line_text (Ticks (100000 * (n + 1))) in
    let all = ap length (sym (load_text n))
    ∙ (length-append (a ++ b ++ c) d ∙ ap (λ m. m + length d) (length-append (a ++ b) c ∙ ap (λ m. m + length c) (length-append a b))) in
    let openings = openings-length in
    let watches = leb-true _ _ watches-length in
    let turns = turns-length n 1 n (omega arith) in
    let last = ticks-length (100000 * (n + 1)) (omega arith) in
    omega (arith, all, openings, watches, turns, last)

-- ---- the loops

range-more : (a count : ℕ) → range_with_len a (count + 1) ≡ range_with_len a count ++ (a + count) ∷ []
range-more a count = sym (map-same (range_with_len a (count + 1)))
    ∙ (map-range_with_len_more (λ i. i) a count (a + count) refl ∙ ap (λ r. r ++ (a + count) ∷ []) (map-same (range_with_len a count)))
  where
    map-same : (xs : List ℕ) → map (λ i. i) xs ≡ xs
    map-same [] = refl
    map-same (x ∷ xs) = ap (λ ys. x ∷ ys) (map-same xs)

-- one more turn
pub turns-more : (old new out : List ℕ) (n count x : ℕ) → out ≡ old ++ script_text (first_turns n count) → x ≡ load_number n (count + 1)
    → new ≡ out ++ script_text (turn_of x (count + 1)) → new ≡ old ++ script_text (first_turns n (count + 1))
turns-more old new out n count x so_far number is =
    let turn = turn_lines n (count + 1) in
    let lines : first_turns n (count + 1) ≡ first_turns n count ++ turn = turns-append n count in
    is ∙ (ap (λ y. out ++ script_text (turn_of y (count + 1))) number
    ∙ (ap (λ o. o ++ script_text turn) so_far
    ∙ (append_assoc old (script_text (first_turns n count)) (script_text turn)
    ∙ ap (λ t. old ++ t) (sym (flat_map-append line_text (first_turns n count) turn) ∙ ap script_text (sym lines)))))
  where
    turns-append : (n count : ℕ) → first_turns n (count + 1) ≡ first_turns n count ++ turn_lines n (count + 1)
    turns-append n count =
        ap (flat_map (turn_lines n)) (range-more 1 count)
        ∙ (flat_map-append (turn_lines n) (range_with_len 1 count) ((1 + count) ∷ [])
        ∙ ap (λ ls. first_turns n count ++ ls) (append-nil (turn_lines n (1 + count)) ∙ ap (turn_lines n) (omega arith)))

-- one more notification
pub watches-more : (old new out : List ℕ) (c j : ℕ) → out ≡ old ++ script_text (map (watch_line c) (range_with_len 0 j))
    → new ≡ out ++ line_text (watch_line c j) → new ≡ old ++ script_text (map (watch_line c) (range_with_len 0 (j + 1)))
watches-more old new out c j so_far is =
    let before = map (watch_line c) (range_with_len 0 j) in
    is ∙ (ap (λ o. o ++ line_text (watch_line c j)) so_far
    ∙ (append_assoc old (script_text before) (line_text (watch_line c j))
    ∙ ap (λ t. old ++ t) (ap (λ t. script_text before ++ t) (sym (append-nil (line_text (watch_line c j))))
    ∙ (sym (flat_map-append line_text before (watch_line c j ∷ [])) ∙ ap script_text (sym (map-range_with_len_more (watch_line c) 0 j j (omega arith)))))))

-- the numbers of the row
pub load_number-next : (n i : ℕ) → (load_number n i * 1103515245 + 12345) % 2147483648 ≡ load_number n (i + 1)
unfolding load_number
load_number-next n i = let one : i + 1 ≡ suc i = omega arith in rw one refl

pub load_number-none : (n : ℕ) → n ≡ load_number n 0
unfolding load_number
load_number-none n = refl

-- an AMS packet of a short request
pub is_packet : (c id : ℕ) (r : Request) → length (request_bytes r) ≤ 1000 → IsAmsPacket (request_packet c id r)
unfolding request_packet
is_packet c id r h = record { least = omega arith; most = omega arith }

-- the notifications of all clients
pub all_watches : (old a b c d : List ℕ) → a ≡ old ++ script_text (watch_lines 1)
    → b ≡ a ++ script_text (watch_lines 2) → c ≡ b ++ script_text (watch_lines 3) → d ≡ c ++ script_text (watch_lines 4)
    → d ≡ old ++ script_text (flat_map watch_lines clients)
all_watches old a b c d e1 e2 e3 e4 =
    let w1 = script_text (watch_lines 1) in
    let w2 = script_text (watch_lines 2) in
    let w3 = script_text (watch_lines 3) in
    let w4 = script_text (watch_lines 4) in
    let whole : script_text (flat_map watch_lines clients) ≡ w1 ++ (w2 ++ (w3 ++ (w4 ++ []))) =
    parts (watch_lines 1) (watch_lines 2) (watch_lines 3) (watch_lines 4) in
    let chain : d ≡ (((old ++ w1) ++ w2) ++ w3) ++ w4 = e4 ∙ ap (λ t. t ++ w4) (e3 ∙ ap (λ t. t ++ w3) (e2 ∙ ap (λ t. t ++ w2) e1)) in
    chain ∙ (append_assoc ((old ++ w1) ++ w2) w3 w4 ∙ (append_assoc (old ++ w1) w2 (w3 ++ w4) ∙ (append_assoc old w1 (w2 ++ (w3 ++ w4))
    ∙ ap (λ t. old ++ t) (ap (λ t. w1 ++ (w2 ++ (w3 ++ t))) (sym (append-nil w4)) ∙ sym whole))))
  where
    parts : (p q r s : List MadeLine)
        → script_text (p ++ (q ++ (r ++ (s ++ [])))) ≡ script_text p ++ (script_text q ++ (script_text r ++ (script_text s ++ [])))
    parts p q r s =
        flat_map-append line_text p (q ++ (r ++ (s ++ []))) ∙ ap (λ t. script_text p ++ t) (flat_map-append line_text q (r ++ (s ++ []))
        ∙ ap (λ t. script_text q ++ t) (flat_map-append line_text r (s ++ []) ∙ ap (λ t. script_text r ++ t) (flat_map-append line_text s [])))

-- the four parts of a script, one behind another
pub all_parts : (n m : ℕ) (none a b c d : List ℕ) → none ≡ []
    → a ≡ none ++ script_text (map Opens clients) → b ≡ a ++ script_text (flat_map watch_lines clients)
    → c ≡ b ++ script_text (first_turns n n) → d ≡ c ++ line_text (Ticks m) → m ≡ 100000 * (n + 1) → d ≡ script_text (load_lines n)
all_parts n m none a b c d e0 e1 e2 e3 e4 em =
    e4 ∙ (ap (λ t. c ++ line_text (Ticks t)) em ∙ (ap (λ t. t ++ line_text (Ticks (100000 * (n + 1))))
    (e3 ∙ ap (λ t. t ++ script_text (first_turns n n))
    (e2 ∙ ap (λ t. t ++ script_text (flat_map watch_lines clients)) (e1 ∙ ap (λ t. t ++ script_text (map Opens clients)) e0)))
    ∙ load_text n))
