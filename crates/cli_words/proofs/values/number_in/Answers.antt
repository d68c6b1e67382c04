use Rattle.std.proofs.Common.{◌≡◌, Some, None, cond, leb, false, ◌&&◌, refl, sym, ap, ◌∙◌, arith, inl, inr}
use Rattle.std.proofs.lemmas.Bool.{and_from, and_left, and_right, le-leb, lt-leb}
use Rattle.cli_words.proofs.NumberLemmas.{number_of-decimal, number_of-none}
use Rattle.cli_words.proofs.values.number_in.Goals as goal

pub returns-in_err-n : goal.returns-in_err-n
returns-in_err-n c =
    c.from_residual.ensures
    ∙ sym (number_of-none c.args.least c.args.most c.args.text.now (omega arith)
    (λ n small e. c.in_err-n.ensures.none refl n small (c.as_bytes.ensures.value ∙ e)))

pub returns-then-n-most : goal.returns-then-n-most
returns-then-n-most c =
    let n = c.in_ok-n.n in
    let in_range = and_from (leb c.args.least n) (leb n c.args.most) (le-leb c.args.least n c.if-least-n.true) (le-leb n c.args.most c.if-n-most.true) in
    sym (number_of-decimal c.args.least c.args.most n c.args.text.now c.in_ok-n.ensures.some.0 (sym c.as_bytes.ensures.value ∙ c.in_ok-n.ensures.some.1)
    ∙ ap (λ b. cond b (Some n) None) in_range)

pub returns-else-least-n : goal.returns-else-least-n
returns-else-least-n c =
    let n = c.in_ok-n.n in
    let out_of_range : (leb c.args.least n && leb n c.args.most) ≡ false = elim c.else-least-n.either [
      | inl above ↦ and_right (leb c.args.least n) (leb n c.args.most) (lt-leb n c.args.most above.1)
      | inr below ↦ and_left (leb c.args.least n) (leb n c.args.most) (lt-leb c.args.least n below)
    ] in
    sym (number_of-decimal c.args.least c.args.most n c.args.text.now c.in_ok-n.ensures.some.0 (sym c.as_bytes.ensures.value ∙ c.in_ok-n.ensures.some.1)
    ∙ ap (λ b. cond b (Some n) None) out_of_range)
