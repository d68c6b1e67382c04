-- What stands at the front is what comes next, and passing over it leaves what stands behind it.
use Rattle.std.proofs.Common.{◌≡◌, ℕ, ◌+◌, ◌-◌, ◌≤◌, List, length, take, drop, ap, sym, ◌∙◌, arith}
use Rattle.std.proofs.lemmas.List.{length-drop, drop-drop}
use Rattle.std.specs.Int.{w32, from_le_bytes}
use Rattle.spec_frames.specs.Division.{Whole, front_of, behind_frame, ams_length_of}
use Rattle.spec_frames.proofs.FrontLemmas.{HasFrame, has_frame, front_of-whole, has_size, length-packet_of}
use Rattle.ams_tcp.specs.FrontCase.{IsFront, IsWhole}
use Rattle.ams_tcp.specs.Held.{Held}
use Rattle.ams_tcp.specs.History.{History, Represents, answer_of, after_next, cut_of}
use Rattle.ams_tcp.specs.declared.cut.Cut.TheVariants as cut
use Rattle.ams_tcp.specs.declared.peeked.Peeked.{Peeked}
use Rattle.ams_tcp.specs.declared.peeked.Peeked.TheVariants as peeked
use Rattle.ams_tcp.proofs.HistoryLemmas.{answer_of-frame, answer_not_yet, answer_broken, given_frame, packet_is, behind_is}

pub is_whole : (text : List ℕ) (len : ℕ) → HasFrame text → len ≡ ams_length_of text → IsWhole text (take (6 + len - 6) (drop 6 text))
is_whole text len frame size =
    let packet = packet_is text len size in
    let whole = front_of-whole text frame in
    let long = ap length packet ∙ length-packet_of text whole in
    let sizes = has_size text frame.header in
    record {
      front = whole;
      packet_is = packet;
      fits = record { least = omega (arith, long, sizes.least); most = omega (arith, long, sizes.most) };
    }

pub shown : (held : Held) (h : History) (p : Peeked) → IsFront held.rest p → Represents held h → cut_of p ≡ answer_of h
shown held h (peeked.Frame packet) front s = ap (λ ams. cut.Frame ams) front.packet_is ∙ sym (answer_of-frame held h front.front s)
shown held h peeked.NotYet front s = sym (answer_not_yet held h front s)
shown held h peeked.Broken front s = sym (answer_broken held h front.front s)

-- a place in a text, with the length of the whole frame there
pub record Passes (bytes : List ℕ) (start len : ℕ) : Type 0 where
  pub whole : front_of (drop start bytes) ≡ Whole
  pub size : len ≡ ams_length_of (drop start bytes)

pub passes_there : (held : Held) (bytes text : List ℕ) (start len : ℕ) → drop start bytes ≡ held.rest → text ≡ held.rest → front_of held.rest ≡ Whole
    → len ≡ from_le_bytes w32 (take 4 (drop 2 text)) → Passes bytes start len
unfolding ams_length_of
passes_there held bytes text start len view rest whole size = record {
  whole = ap (λ t. front_of t) view ∙ whole;
  size = size ∙ ap (λ t. ams_length_of t) (rest ∙ sym view);
}

pub room_for : (bytes : List ℕ) (start len : ℕ) → start ≤ length bytes → Passes bytes start len → start + (6 + len) ≤ length bytes
room_for bytes start len within p =
    let frame = has_frame (drop start bytes) p.whole in
    omega (arith, p.size, frame.all_there, length-drop start bytes, within)

pub passed_over : (bytes : List ℕ) (start len : ℕ) → Passes bytes start len → drop (start + (6 + len)) bytes ≡ behind_frame (drop start bytes)
passed_over bytes start len p = sym (drop-drop (6 + len) start bytes) ∙ behind_is (drop start bytes) len p.size

pub passed_frame : (held new : Held) (h : History) (bytes : List ℕ) (start len : ℕ) → held.rest ≡ drop start bytes → Passes bytes start len
    → new.rest ≡ drop (start + (6 + len)) bytes → new.told_broken ≡ held.told_broken → Represents held h → Represents new (after_next h)
passed_frame held new h bytes start len view p rest told s =
    given_frame held new h (ap (λ t. front_of t) view ∙ p.whole) (rest ∙ passed_over bytes start len p ∙ ap (λ t. behind_frame t) (sym view)) told s
