-- A walk over parts of an image, of which the next is lent.
use Rattle.std.specs.Prelude.{ℕ, ◌+◌, ◌≤◌, List, [], ◌++◌, length, take, drop}
use Rattle.std.specs.List.{refill}
use Rattle.std.proofs.Common.{arith, length-append, length-take, length-drop}
use Rattle.std.proofs.Math.Nat.{le_trans}
use Rattle.std.specs.Borrow.{Fml, MutBor, Array, Lends, u8}
use mir.Syntax.{named}
use Rattle.process_image.specs.declared.parts.Parts.{Parts}
use Rattle.process_image.specs.declared.span.Span.{Span}
use Rattle.process_image.specs.contracts.parts.Parts.{the_row}
use Rattle.process_image.specs.Bytes.{after_loan}
use Rattle.process_image.specs.Spans.{span_at}

-- the span that the walk hands out next
abbrev pub next_span : Parts → Span
next_span p = span_at p.spans.now p.place

-- the image after the next part was lent and `left` was left in it
abbrev pub image_after : Parts → List ℕ → List ℕ
image_after p left = after_loan p.image.now (next_span p).at (next_span p).len left

-- a loan does not shorten the image
pub no_shorter : (bytes : List ℕ) (at len : ℕ) (left : List ℕ)
    → length bytes ≤ length (after_loan bytes at len left)
no_shorter bytes at len left =
    let old = take len (drop at bytes) in let kept = drop (length left) old in
    let new = refill len old left in let rest = drop (at + len) bytes in
    let more : length old ≤ length new =
    omega (
      arith,
      length-take len (drop at bytes),
      length-take len (left ++ kept),
      length-append left kept,
      length-drop (length left) old,
    ) in
    omega (
      arith,
      more,
      length-append (take at bytes) (new ++ rest),
      length-append new rest,
      length-take at bytes,
      length-take len (drop at bytes),
      length-drop at bytes,
      length-drop (at + len) bytes,
    )

-- the walk after that
abbrev pub parts_after : Parts → List ℕ → Parts
parts_after p left = record {
  image = record p.image { now = image_after p left };
  spans = p.spans;
  place = p.place + 1;
  within = λ i below.
      le_trans (p.within i below) (no_shorter p.image.now (next_span p).at (next_span p).len left);
}

-- the walk goes on with what was last written through r in the part
abbrev pub LendsNext : MutBor Parts → MutBor (List ℕ) → Fml
LendsNext p r = Lends (the_row (record { mir = named 1; lft = [] })) (Array u8 0) p r (parts_after p.now)
