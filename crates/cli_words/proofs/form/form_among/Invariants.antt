use Rattle.std.proofs.Common.{◌≡◌, map, drop}
use Rattle.cli_words.specs.Forms.{form_in}
use Rattle.cli_words.proofs.form.form_among.Given as goal

-- the rows before this one have other names
abbrev pub invariant-loop-word : goal.invariant-loop-word
invariant-loop-word l =
    form_in (map (λ row. (row.0.now, row.1)) (drop l.word-index l.rows)) l.name ≡ form_in (map (λ row. (row.0.now, row.1)) l.rows) l.name
