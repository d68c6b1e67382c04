-- The reply while parts run.
use Rattle.std.proofs.Common.{◌≡◌, ℕ, ◌+◌, ◌≤◌, List, ◌++◌, length, take, drop}
use Rattle.std.proofs.Common.{sym, ◌∙◌, ap, arith, append_assoc, length-append, length-take, length-drop, take_at, drop_at}
use Rattle.std.proofs.lemmas.List.{drop-drop, drop-append-le, take-append-le, take-take}
use Rattle.ads_base.specs.Octets.{Extends}
use Rattle.sum_commands.specs.Parts.{written_over}
use Rattle.sum_commands.specs.Stops.{KeepsFront}

-- what stood before it, the results so far, the room of those that are left, and the data so far; the next result's place
pub record IsLaid (base fronts room more : List ℕ) (at : ℕ) (out : List ℕ) : Type 0 where
  pub whole : out ≡ base ++ (fronts ++ (room ++ more))
  pub place : at ≡ length base + length fronts

-- a result is written at its place, and its data appended
pub laid-next : (base fronts room more : List ℕ) (at at' : ℕ) (out front added out' : List ℕ) → IsLaid base fronts room more at out
    → length front ≤ length room → at' ≡ at + length front → out' ≡ written_over at front (out ++ added)
    → IsLaid base (fronts ++ front) (drop (length front) room) (more ++ added) at' out'
laid-next base fronts room more at at' out front added out' laid fits next written =
    let head = base ++ fronts in
    let behind = room ++ (more ++ added) in
    let whole : out ++ added ≡ head ++ behind =
    ap (λ x. x ++ added) laid.whole
    ∙ append_assoc base (fronts ++ (room ++ more)) added
    ∙ ap (λ x. base ++ x) (append_assoc fronts (room ++ more) added ∙ ap (λ x. fronts ++ x) (append_assoc room more added))
    ∙ sym (append_assoc base fronts behind) in
    let count : length head ≡ at = length-append base fronts ∙ sym laid.place in
    let before : take at (out ++ added) ≡ head = ap (take at) whole ∙ take_at head behind at count in
    let at_room : drop at (out ++ added) ≡ behind = ap (drop at) whole ∙ drop_at head behind at count in
    let after : drop (at + length front) (out ++ added) ≡ drop (length front) room ++ (more ++ added) =
    sym (drop-drop (length front) at (out ++ added)) ∙ ap (drop (length front)) at_room
    ∙ drop-append-le (length front) room (more ++ added) fits in
    record {
      whole = written ∙ ap (λ x. x ++ front ++ drop (at + length front) (out ++ added)) before ∙ ap (λ x. head ++ front ++ x) after
          ∙ ap (λ x. x ++ (drop (length front) room ++ (more ++ added))) (append_assoc base fronts front)
          ∙ append_assoc base (fronts ++ front) (drop (length front) room ++ (more ++ added));
      place = omega (arith, next, laid.place, length-append fronts front);
    }

-- bytes written over others, inside
pub length-written_over : (at : ℕ) (bytes text : List ℕ) → at + length bytes ≤ length text → length (written_over at bytes text) ≡ length text
length-written_over at bytes text fits =
    let front = length-append (take at text) bytes in
    let whole = length-append (take at text ++ bytes) (drop (at + length bytes) text) in
    omega (arith, whole, front, length-take at text, length-drop (at + length bytes) text, fits)

-- bytes written behind the first n leave these
pub take-written_over : (n at : ℕ) (bytes text : List ℕ) → n ≤ at → at ≤ length text → take n (written_over at bytes text) ≡ take n text
take-written_over n at bytes text before fits =
    let long : n ≤ length (take at text) = omega (arith, length-take at text, before, fits) in
    let longer : n ≤ length (take at text ++ bytes) = omega (arith, long, length-append (take at text) bytes) in
    take-append-le n (take at text ++ bytes) (drop (at + length bytes) text) longer
    ∙ take-append-le n (take at text) bytes long ∙ take-take n at text before

-- a reply grows, and what stood before it stays
pub longer-next : (at : ℕ) (out front added out' : List ℕ) → at + length front ≤ length out
    → out' ≡ written_over at front (out ++ added) → length out ≤ length out'
longer-next at out front added out' fits written =
    let both = length-append out added in
    omega (arith, both, ap length written, length-written_over at front (out ++ added) (omega (arith, both, fits)))

pub kept-next : (n at : ℕ) (first out front added out' : List ℕ) → n ≤ at → at + length front ≤ length out → KeepsFront n first out
    → out' ≡ written_over at front (out ++ added) → KeepsFront n first out'
kept-next n at first out front added out' before fits kept written =
    let both = length-append out added in
    record {
      long = omega (arith, kept.long, longer-next at out front added out' fits written);
      same = ap (take n) written ∙ take-written_over n at front (out ++ added) before (omega (arith, both, fits))
          ∙ take-append-le n out added kept.long ∙ kept.same;
    }

pub kept-extends : (n : ℕ) (first out out' : List ℕ) → KeepsFront n first out → Extends out out' → KeepsFront n first out'
kept-extends n first out out' kept more = record {
  long = omega (arith, kept.long, more.longer);
  same = sym (take-take n (length out) out' kept.long) ∙ ap (take n) more.begins ∙ kept.same;
}

-- two texts, one behind the other
pub written_over-twice : (at second : ℕ) (a b text : List ℕ) → second ≡ at + length a → second + length b ≤ length text
    → written_over second b (written_over at a text) ≡ written_over at (a ++ b) text
written_over-twice at second a b text next fits =
    let head = take at text ++ a in
    let over = written_over at a text in
    let count : length head ≡ second = omega (arith, length-append (take at text) a, length-take at text, next, fits) in
    let front : take second over ≡ head = take_at head (drop (at + length a) text) second count in
    let after : drop second over ≡ drop (at + length a) text = drop_at head (drop (at + length a) text) second count in
    let behind : drop (second + length b) over ≡ drop (at + length (a ++ b)) text =
    sym (drop-drop (length b) second over) ∙ ap (drop (length b)) after ∙ drop-drop (length b) (at + length a) text
    ∙ ap (λ n. drop n text) (let both = length-append a b in omega (arith, both)) in
    ap (λ x. x ++ b ++ drop (second + length b) over) front ∙ ap (λ x. head ++ b ++ x) behind
    ∙ ap (λ x. x ++ drop (at + length (a ++ b)) text) (append_assoc (take at text) a b)
