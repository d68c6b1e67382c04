-- Plain reads whose bytes are lent: their results are all 0, and their data is what they gave.
use Rattle.std.proofs.Common.{◌≡◌, ℕ, suc, ◌+◌, ◌-◌, ◌*◌, ◌≤◌, List, [], ◌++◌, length, take, drop, replicate}
use Rattle.std.proofs.Common.{refl, sym, ◌∙◌, ap, subst, arith, append_assoc, length-append, length-take, length-drop, take_at, drop_at}
use borrow.Rule.Slice.PartMut.{put_mid}
use Rattle.std.proofs.lemmas.List.{append-nil, drop-drop, drop_all, length-replicate, replicate-append-replicate}
use Rattle.std.proofs.Math.Seq.{take-length}
use Rattle.std.specs.Int.{w32, to_le_bytes}
use Rattle.spec_formats.specs.Numbers.{number32}
use Rattle.spec_formats.specs.Request.{Request, Read}
use Rattle.spec_machine.specs.Acts.{Outcome}
use Rattle.spec_machine.specs.Sums.{filled}
use Rattle.sum_commands.specs.declared.form.Form.TheVariants as form
use Rattle.sum_commands.specs.Forms.{Replies}
use Rattle.sum_commands.specs.Packing.{Runs}
use Rattle.sum_commands.specs.Parts.{written_over}
use Rattle.sum_commands.specs.Reads.{WritesLent}
use Rattle.sum_commands.proofs.RunningLemmas.{Continues, continues-first, continues-next, replies}

-- bytes written over the same bytes
written_over-there : (front bytes behind : List ℕ) (at : ℕ) → length front ≡ at
    → written_over at bytes (front ++ (bytes ++ behind)) ≡ front ++ (bytes ++ behind)
written_over-there front bytes behind at count =
    let text = front ++ (bytes ++ behind) in
    let before : take at text ≡ front = take_at front (bytes ++ behind) at count in
    let from : drop at text ≡ bytes ++ behind = drop_at front (bytes ++ behind) at count in
    let after : drop (at + length bytes) text ≡ behind =
    sym (drop-drop (length bytes) at text) ∙ ap (drop (length bytes)) from ∙ drop_at bytes behind (length bytes) refl in
    ap (λ x. x ++ bytes ++ drop (at + length bytes) text) before ∙ ap (λ x. front ++ bytes ++ x) after ∙ append_assoc front bytes behind

-- the result of a read that is well is there before it is written
result-there : (at all : ℕ) (more : List ℕ) → at + 4 ≤ all
    → written_over at (to_le_bytes w32 0) (replicate all 0 ++ more) ≡ replicate all 0 ++ more
result-there at all more fits =
    let left = all - (at + 4) in
    let split : replicate all 0 ++ more ≡ replicate at 0 ++ (to_le_bytes w32 0 ++ (replicate left 0 ++ more)) =
    ap (λ n. replicate n 0 ++ more) (let e : all ≡ at + (4 + left) = omega (arith, fits) in e)
    ∙ ap (λ x. x ++ more) (sym (replicate-append-replicate at (4 + left) 0))
    ∙ append_assoc (replicate at 0) (replicate (4 + left) 0) more
    ∙ ap (λ x. replicate at 0 ++ (x ++ more)) (sym (replicate-append-replicate 4 left 0))
    ∙ ap (λ x. replicate at 0 ++ x) (append_assoc (replicate 4 0) (replicate left 0) more) in
    ap (λ x. written_over at (to_le_bytes w32 0) x) split
    ∙ written_over-there (replicate at 0) (to_le_bytes w32 0) (replicate left 0 ++ more) at (length-replicate {A = ℕ} at 0)
    ∙ sym split

-- a read that gave all that it asked is not filled
not-filled : (len : ℕ) (bytes : List ℕ) → length bytes ≡ len → filled len bytes ≡ bytes
not-filled len bytes long =
    ap (λ n. bytes ++ replicate n 0) (let e : len - length bytes ≡ 0 = omega (arith, long) in e) ∙ append-nil bytes

-- the bytes up to behind those that were written
written-up : (at len : ℕ) (bytes room room' : List ℕ) → at + len ≤ length room → length bytes ≡ len → room' ≡ written_over at bytes room
    → take (at + len) room' ≡ take at room ++ bytes
written-up at len bytes room room' fits long written =
    let text = take at room ++ bytes in
    let count : length text ≡ at + len = omega (arith, length-append (take at room) bytes, length-take at room, fits, long) in
    ap (take (at + len)) written ∙ take_at text (drop (at + length bytes) room) (at + len) count

-- the text whose last bytes were lent and written
pub rest-written : (n len asked begin : ℕ) (base text lent_text lent : List ℕ) → text ≡ base ++ replicate len 0 → len ≡ 4 * n + asked
    → begin ≡ length base + 4 * n → lent_text ≡ text → length lent ≡ length lent_text - begin
    → take (length text) (put_mid begin (length lent_text - begin) lent_text lent
    ++ drop (length (put_mid begin (length lent_text - begin) lent_text lent)) text)
    ≡ base ++ (replicate (4 * n) 0 ++ lent)
rest-written n len asked begin base text lent_text lent whole split there same long =
    let zeros = replicate {A = ℕ} (4 * n) 0 in
    let behind = replicate {A = ℕ} asked 0 in
    let put = put_mid begin (length lent_text - begin) lent_text lent in
    let parts : lent_text ≡ (base ++ zeros) ++ behind =
    same ∙ whole ∙ ap (λ k. base ++ replicate k 0) split ∙ ap (λ x. base ++ x) (sym (replicate-append-replicate (4 * n) asked 0))
    ∙ sym (append_assoc base zeros behind) in
    let front_long : length (base ++ zeros) ≡ begin = omega (arith, length-append base zeros, length-replicate {A = ℕ} (4 * n) 0, there) in
    let front : take begin lent_text ≡ base ++ zeros = ap (take begin) parts ∙ take_at (base ++ zeros) behind begin front_long in
    let none : drop (length lent_text - begin) (drop begin lent_text) ≡ [] =
    drop_all (length lent_text - begin) (drop begin lent_text) (omega (arith, length-drop begin lent_text)) in
    let is : put ≡ (base ++ zeros) ++ lent =
    ap (λ x. x ++ (lent ++ drop (length lent_text - begin) (drop begin lent_text))) front
    ∙ ap (λ x. (base ++ zeros) ++ (lent ++ x)) none ∙ ap (λ x. (base ++ zeros) ++ x) (append-nil lent) in
    let text_long : length lent_text ≡ begin + asked =
    omega (arith, ap length parts, length-append (base ++ zeros) behind, length-replicate {A = ℕ} asked 0, front_long) in
    let count : length put ≡ length text =
    omega (arith, ap length is, length-append (base ++ zeros) lent, front_long, long, ap length same, text_long) in
    take_at put (drop (length put) text) (length text) count ∙ is ∙ append_assoc base zeros lent

module _ {V S : Type 0} (stands_for : V → S → Type 0) (given : S → Request → Outcome) (leaves : S → Request → S)
    (may_leave : S → Request → V → Type 0) where
  -- the read is one of a sum, whose results are all 0 from the beginning
  lent-runs : (all at_front len at : ℕ) (group offset : ℕ) (before : S) (service : V) (room room' : List ℕ)
      → at_front + 4 ≤ all → at + len ≤ length room
      → WritesLent stands_for given leaves (Read group offset len) before service len at room room'
      → Runs stands_for given leaves form.Reads (Read group offset len) before service at_front
      (replicate all 0 ++ take at room) (replicate all 0 ++ take (at + len) room')
  lent-runs all at_front len at group offset before service room room' inside fits this =
      let o = given before (Read group offset len) in
      let up = written-up at len o.bytes room room' fits this.long this.bytes in
      let gave = not-filled len o.bytes this.long in
      let zeros = replicate all 0 in
      let text : zeros ++ take (at + len) room' ≡ (zeros ++ take at room) ++ o.bytes =
      ap (λ x. zeros ++ x) up ∙ sym (append_assoc zeros (take at room) o.bytes) in
      record {
        state = this.state;
        bytes = text
            ∙ append_assoc zeros (take at room) o.bytes
            ∙ sym (result-there at_front all (take at room ++ o.bytes) inside)
            ∙ ap (λ n. written_over at_front (to_le_bytes w32 n) (zeros ++ (take at room ++ o.bytes))) (sym this.code)
            ∙ ap (λ x. written_over at_front (to_le_bytes w32 o.code) x) (sym (append_assoc zeros (take at room) o.bytes))
            ∙ ap (λ x. written_over at_front (to_le_bytes w32 o.code) ((zeros ++ take at room) ++ x)) (sym gave);
        asked = omega (arith, ap length gave, this.long);
      }

  -- one more read was lent
  pub lent-next : (n m k at_front at_front' len at : ℕ) (heads : List ℕ) (s : S) (heads1 heads2 : List ℕ) (service : V) (room room' : List ℕ)
      → m ≡ suc k → at_front' ≡ at_front + 4 → at_front' ≤ 4 * n → at + len ≤ length room → len ≡ number32 8 heads1 → heads2 ≡ drop 12 heads1
      → (so_far : Continues stands_for given leaves may_leave form.Reads n heads [] s [] form.Reads m heads1 [] service at_front
      (replicate (4 * n) 0 ++ take at room))
      → WritesLent stands_for given leaves (Read (number32 0 heads1) (number32 4 heads1) len) so_far.now service len at room room'
      → Continues stands_for given leaves may_leave form.Reads n heads [] s [] form.Reads k heads2 [] service at_front'
      (replicate (4 * n) 0 ++ take (at + len) room')
  lent-next n m k at_front at_front' len at heads s heads1 heads2 service room room' more next inside fits is left so_far this =
      let one = lent-runs (4 * n) at_front len at (number32 0 heads1) (number32 4 heads1) so_far.now service room room'
      (omega (arith, next, inside)) fits this in
      continues-next stands_for given leaves may_leave form.Reads n heads [] s [] form.Reads m k heads1 [] service service at_front at_front' _ _
      form.Reads heads2 [] more (record { form_same = refl; heads_left = left; written_left = refl }) next so_far
      (subst (λ l. Runs stands_for given leaves form.Reads (Read (number32 0 heads1) (number32 4 heads1) l) so_far.now service at_front
      (replicate (4 * n) 0 ++ take at room) (replicate (4 * n) 0 ++ take (at + len) room')) is one)

  -- none was run
  pub lent-first : (n k : ℕ) (heads : List ℕ) (s : S) (service : V) → k ≡ n → stands_for service s
      → Continues stands_for given leaves may_leave form.Reads n heads [] s [] form.Reads k heads [] service 0 (replicate (4 * n) 0 ++ [])
  lent-first n k heads s service same stands =
      let zeros = replicate {A = ℕ} (4 * n) 0 in
      continues-first stands_for given leaves may_leave form.Reads n heads [] s service 0 (zeros ++ []) k same
      (omega (arith, length-append zeros [], length-replicate {A = ℕ} (4 * n) 0)) stands

  -- all were run
  pub lent-all : (n k at_front at : ℕ) (heads : List ℕ) (s : S) (heads1 : List ℕ) (service : V) (room : List ℕ) → k ≡ 0 → at ≡ length room
      → Continues stands_for given leaves may_leave form.Reads n heads [] s [] form.Reads k heads1 [] service at_front
      (replicate (4 * n) 0 ++ take at room)
      → Replies stands_for given leaves form.Reads n heads [] s service [] (replicate (4 * n) 0 ++ room)
  lent-all n k at_front at heads s heads1 service room none whole so_far =
      let all = ap (λ x. take x room) whole ∙ take-length room in
      subst (λ x. Replies stands_for given leaves form.Reads n heads [] s service [] (replicate (4 * n) 0 ++ x)) all
      (replies stands_for given leaves may_leave form.Reads n heads [] s [] form.Reads k heads1 [] service at_front _ none so_far)

  -- and they stand behind other bytes
  pub lent-behind : (n : ℕ) (heads : List ℕ) (s : S) (service : V) (base reply out : List ℕ) → out ≡ base ++ reply
      → Replies stands_for given leaves form.Reads n heads [] s service [] reply
      → Replies stands_for given leaves form.Reads n heads [] s service base out
  lent-behind n heads s service base reply out is said = record {
    state = said.state;
    bytes = is ∙ ap (λ x. base ++ x) said.bytes;
    asked = omega (arith, ap length is, length-append base reply, said.asked);
  }
