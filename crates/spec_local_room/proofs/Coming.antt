-- A frame that comes in pieces: it is heard when its last byte has come, and nothing of it before.
use Rattle.std.proofs.Common.{◌≡◌, ◌⊎◌, ℕ, ◌+◌, ◌<◌, ◌≤◌, ◌^◌, List, [], ◌∷◌, ◌++◌, length, take, drop, true, refl, sym, ap, ◌∙◌, inl, inr, arith}
use Rattle.std.specs.Prelude.{filter}
use Rattle.std.proofs.lemmas.List.{append-nil, length-append, take_at, drop_at}
use Rattle.std.proofs.lemmas.List.Elements.{filter-append}
use Rattle.std.proofs.lemmas.Nat.{from_le_bytes-to_le_bytes_4}
use Rattle.std.proofs.Math.Seq.{drop-append_seam}
use Rattle.spec_frames.specs.Frame.{frame_bytes, header_bytes}
use Rattle.spec_frames.specs.Division.{Front, Whole, Open, Broken, front_of, frames_of, rest_of, packet_of, behind_frame, ams_length_of}
use Rattle.spec_frames.proofs.FrontLemmas.{has_frame, open_cases, front_of-short, ams_length_of-append}
use Rattle.spec_frames.proofs.DivisionLemmas.{frames_of-none, frames_of-whole, rest_of-none, rest_of-whole, frames_of-append, rest_of-append}
use Rattle.spec_formats.proofs.Forms.{empty}
use Rattle.spec_client.specs.PassedOver.{says_something}
use Rattle.spec_client.specs.Client.{Client, client_after_feed, packets_left}

-- no byte is a frame
pub none_short : front_of [] ≡ Open
none_short = front_of-short [] (omega arith)

open_not_whole : (t : List ℕ) → front_of t ≡ Open → front_of t ≡ Whole → ⊥
open_not_whole t is e = let both : Open ≡ Whole = sym is ∙ e in cc

broken_not_whole : (t : List ℕ) → front_of t ≡ Broken → front_of t ≡ Whole → ⊥
broken_not_whole t is e = let both : Broken ≡ Whole = sym is ∙ e in cc

pub no_frames : frames_of [] ≡ []
no_frames = frames_of-none [] (open_not_whole [] none_short)

pub no_rest : rest_of [] ≡ []
no_rest = rest_of-none [] (open_not_whole [] none_short)

pub length-frame_bytes : (p : List ℕ) → length (frame_bytes p) ≡ 6 + length p
length-frame_bytes p = length-append (header_bytes p) p

ams_length_of-frame : (p : List ℕ) → length p < 2 ^ 32 → ams_length_of (frame_bytes p) ≡ length p
unfolding ams_length_of
ams_length_of-frame p small = from_le_bytes-to_le_bytes_4 (length p) small

-- the size that its beginning tells
size_told : (t w p : List ℕ) → t ++ w ≡ frame_bytes p → length p < 2 ^ 32 → 6 ≤ length t → ams_length_of t ≡ length p
size_told t w p is small six = sym (ams_length_of-append t w six) ∙ ap ams_length_of is ∙ ams_length_of-frame p small

sizes_add : (t w p : List ℕ) → t ++ w ≡ frame_bytes p → length t + length w ≡ 6 + length p
sizes_add t w p is = sym (length-append t w) ∙ ap (λ l. length l) is ∙ length-frame_bytes p

-- a frame that is all there
pub record AllCame (t w p : List ℕ) : Type 0 where
  pub none_left : w ≡ []
  pub frames : frames_of t ≡ p ∷ []
  pub rest : rest_of t ≡ []

all_came : (t w p : List ℕ) → t ++ w ≡ frame_bytes p → length p < 2 ^ 32 → front_of t ≡ Whole → AllCame t w p
unfolding packet_of behind_frame
all_came t w p is small whole =
    let has = has_frame t whole in
    let there = has.all_there in
    let size = size_told t w p is small has.six in
    let sum = sizes_add t w p is in
    let none : w ≡ [] = empty w (omega (arith, there, size, sum)) in
    let same : t ≡ frame_bytes p = sym (append-nil t) ∙ ap (λ l. t ++ l) (sym none) ∙ is in
    let packet : packet_of t ≡ p =
    ap (λ n. take n (drop 6 t)) size ∙ ap (λ l. take (length p) (drop 6 l)) same
    ∙ ap (λ l. take (length p) l) (drop_at (header_bytes p) p 6 refl) ∙ ap (λ l. take (length p) l) (sym (append-nil p)) ∙ take_at p [] (length p) refl in
    let behind : behind_frame t ≡ [] =
    ap (λ n. drop (6 + n) t) size ∙ ap (λ l. drop (6 + length p) l) (same ∙ sym (append-nil (frame_bytes p)))
    ∙ drop_at (frame_bytes p) [] (6 + length p) (length-frame_bytes p) in
    record {
      none_left = none;
      frames = frames_of-whole t whole ∙ ap (λ l. l ∷ frames_of (behind_frame t)) packet ∙ ap (λ l. p ∷ frames_of l) behind ∙ ap (λ l. p ∷ l) no_frames;
      rest = rest_of-whole t whole ∙ ap rest_of behind ∙ no_rest;
    }

-- one that is not, and is open so far
pub record StillComes (t w p : List ℕ) : Type 0 where
  pub some_left : w ≡ [] → ⊥
  pub front : front_of t ≡ Open
  pub frames : frames_of t ≡ []
  pub rest : rest_of t ≡ t

some_yet : (t w p : List ℕ) → t ++ w ≡ frame_bytes p → length p < 2 ^ 32 → front_of t ≡ Open → w ≡ [] → ⊥
some_yet t w p is small still none =
    let sum = sizes_add t w p is in
    let zero = ap (λ l. length l) none in
    elim (open_cases t still) [
      | inl short ↦ omega (arith, short, sum, zero)
      | inr parts ↦
          let less = parts.1 in
          let size = size_told t w p is small (omega (arith, sum, zero)) in
          omega (arith, less, size, sum, zero)
    ]

still_comes : (t w p : List ℕ) → t ++ w ≡ frame_bytes p → length p < 2 ^ 32 → front_of t ≡ Open → StillComes t w p
still_comes t w p is small still = record {
  some_left = some_yet t w p is small still;
  front = still;
  frames = frames_of-none t (open_not_whole t still);
  rest = rest_of-none t (open_not_whole t still);
}

-- one whose header is broken
pub record ComesBroken (t : List ℕ) : Type 0 where
  pub front : front_of t ≡ Broken
  pub frames : frames_of t ≡ []
  pub rest : rest_of t ≡ t

comes_broken : (t : List ℕ) → front_of t ≡ Broken → ComesBroken t
comes_broken t broken = record {
  front = broken;
  frames = frames_of-none t (broken_not_whole t broken);
  rest = rest_of-none t (broken_not_whole t broken);
}

abbrev pub Comes : List ℕ → List ℕ → List ℕ → Type 0
Comes t w p = AllCame t w p ⊎ (StillComes t w p ⊎ ComesBroken t)

comes_so : (t w p : List ℕ) → t ++ w ≡ frame_bytes p → length p < 2 ^ 32 → (f : Front) → front_of t ≡ f → Comes t w p
comes_so t w p is small Whole e = inl (all_came t w p is small e)
comes_so t w p is small Open e = inr (inl (still_comes t w p is small e))
comes_so t w p is small Broken e = inr (inr (comes_broken t e))

pub comes : (t w p : List ℕ) → t ++ w ≡ frame_bytes p → length p < 2 ^ 32 → Comes t w p
comes t w p is small = comes_so t w p is small (front_of t) refl

-- a client that has heard all that came, and whose rest is not broken
pub record HasHeardAll (c : Client) : Type 0 where
  pub taken : c.taken ≡ length (filter says_something (frames_of c.received))
  pub front : front_of (rest_of c.received) ≡ Open

-- what is left where these frames come
pub packets_come : (c : Client) (bytes : List ℕ) (packets : List (List ℕ)) → HasHeardAll c → frames_of (rest_of c.received ++ bytes) ≡ packets
    → packets_left (client_after_feed c bytes) ≡ filter says_something packets
packets_come c bytes packets all is =
    let old = filter says_something (frames_of c.received) in
    let frames : frames_of (c.received ++ bytes) ≡ frames_of c.received ++ packets
    = frames_of-append bytes c.received ∙ ap (λ l. frames_of c.received ++ l) is in
    let says : filter says_something (frames_of (c.received ++ bytes)) ≡ old ++ filter says_something packets
    = ap (filter says_something) frames ∙ filter-append says_something (frames_of c.received) packets in
    ap (drop c.taken) says ∙ ap (λ n. drop n (old ++ filter says_something packets)) all.taken ∙ drop-append_seam old (filter says_something packets)

-- nothing is whole yet
pub heard_still : (c : Client) (bytes : List ℕ) → HasHeardAll c → frames_of (rest_of c.received ++ bytes) ≡ [] → front_of (rest_of c.received ++ bytes) ≡ Open
    → HasHeardAll (client_after_feed c bytes)
heard_still c bytes all none still =
    let t = rest_of c.received ++ bytes in
    let frames : frames_of (c.received ++ bytes) ≡ frames_of c.received
    = frames_of-append bytes c.received ∙ ap (λ l. frames_of c.received ++ l) none ∙ append-nil (frames_of c.received) in
    let rest : rest_of (c.received ++ bytes) ≡ t = rest_of-append bytes c.received ∙ rest_of-none t (open_not_whole t still) in
    record {
      taken = all.taken ∙ ap (λ l. length (filter says_something l)) (sym frames);
      front = ap front_of rest ∙ still;
    }

-- a frame is whole, and it is taken
pub heard_frame : (c : Client) (bytes p : List ℕ) → HasHeardAll c
    → frames_of (rest_of c.received ++ bytes) ≡ p ∷ [] → rest_of (rest_of c.received ++ bytes) ≡ []
    → says_something p ≡ true → HasHeardAll (record c { received = c.received ++ bytes; taken = c.taken + 1 })
heard_frame c bytes p all is none says =
    let old = filter says_something (frames_of c.received) in
    let frames : frames_of (c.received ++ bytes) ≡ frames_of c.received ++ p ∷ []
    = frames_of-append bytes c.received ∙ ap (λ l. frames_of c.received ++ l) is in
    let one : filter says_something (p ∷ []) ≡ p ∷ [] = rw says refl in
    let said : filter says_something (frames_of (c.received ++ bytes)) ≡ old ++ p ∷ []
    = ap (filter says_something) frames ∙ filter-append says_something (frames_of c.received) (p ∷ []) ∙ ap (λ l. old ++ l) one in
    let count : length (filter says_something (frames_of (c.received ++ bytes))) ≡ length old + 1
    = ap (λ l. length l) said ∙ length-append old (p ∷ []) in
    record {
      taken = ap (λ n. n + 1) all.taken ∙ sym count;
      front = ap front_of (rest_of-append bytes c.received ∙ none) ∙ none_short;
    }
