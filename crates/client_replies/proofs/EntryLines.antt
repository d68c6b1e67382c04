-- The lines of entries one after another.
use Rattle.std.proofs.Common.{◌≡◌, ◌≢◌, ℕ, suc, ◌+◌, ◌-◌, ◌<◌, ◌≤◌, List, [], ◌∷◌, ◌++◌, map, length, true, false, refl, sym, ap, ◌∙◌, append_assoc, arith}
use Rattle.std.proofs.lemmas.Bool.{eq-eqb, ne_eqb}
use Rattle.std.proofs.lemmas.List.{append-nil, map-append}
use Rattle.std.specs.Prelude.{Option, Some, None, option_map, option_and_then, ◌==◌, if◌then◌else◌}
use Rattle.spec_formats.specs.SymbolEntry.{SymbolEntry, entry_of}
use Rattle.spec_client.specs.Entries.{entries_in, is_taken, first_of, one_entry_in, with_value_id}
use Rattle.spec_client.specs.Printed.{entry_line}
use Rattle.spec_client.specs.Stages as stages
use Rattle.client_replies.specs.Stages.{output_kept}
use Rattle.client_replies.specs.declared.stage.Output.{Output}
use Rattle.client_replies.specs.declared.stage.Output.TheVariants as output
use Rattle.client_replies.specs.Parts.{taken_entry_in, only_entry_in, lines_of, outputs_behind}

-- what is taken first, and the entries behind it
entries-first : (n : ℕ) (o : Option (SymbolEntry × List ℕ)) →
    option_and_then (λ first. if is_taken first.0 then option_map (λ es. first.0 ∷ es) (entries_in n first.1) else None) o
    ≡ option_and_then (λ first. option_map (λ es. first.0 ∷ es) (entries_in n first.1))
    (option_and_then (λ first. if is_taken first.0 then Some first else None) o)
entries-first n None = refl
entries-first n (Some first) = elim (is_taken first.0) as (λ b.
    (if b then option_map (λ es. first.0 ∷ es) (entries_in n first.1) else None)
    ≡ option_and_then (λ first. option_map (λ es. first.0 ∷ es) (entries_in n first.1)) (if b then Some first else None)) [ true ↦ refl | false ↦ refl ]

entries-suc : (n : ℕ) (bytes : List ℕ) → entries_in (suc n) bytes
    ≡ option_and_then (λ first. option_map (λ es. first.0 ∷ es) (entries_in n first.1)) (taken_entry_in bytes)
unfolding entries_in taken_entry_in
entries-suc n bytes = entries-first n (entry_of bytes)

joined : (before : List stages.Output) (e : SymbolEntry) (o : Option (List SymbolEntry)) →
    outputs_behind before (option_map (λ es. e ∷ es) o) ≡ outputs_behind (before ++ stages.ToPrint (entry_line e) ∷ []) o
joined before e None = refl
joined before e (Some es) = ap Some (sym (append_assoc before (stages.ToPrint (entry_line e) ∷ []) (lines_of es)))

-- an entry more has its line
pub outputs_behind-more : (n : ℕ) (before : List stages.Output) (bytes rest : List ℕ) (e : SymbolEntry) →
    taken_entry_in bytes ≡ Some (e, rest) →
    outputs_behind before (entries_in (suc n) bytes) ≡ outputs_behind (before ++ stages.ToPrint (entry_line e) ∷ []) (entries_in n rest)
outputs_behind-more n before bytes rest e is = rw (entries-suc n bytes, is) (joined before e (entries_in n rest))

pub outputs_behind-none : (n : ℕ) (before : List stages.Output) (bytes : List ℕ) →
    taken_entry_in bytes ≡ None → outputs_behind before (entries_in (suc n) bytes) ≡ None
outputs_behind-none n before bytes is = rw (entries-suc n bytes, is) refl

only_first : (o : Option (SymbolEntry × List ℕ)) →
    option_map with_value_id (option_and_then (λ first. if length first.1 == 0 then Some first.0 else None) o)
    ≡ option_and_then first_of (option_and_then (λ first. option_map (λ es. first.0 ∷ es) (if length first.1 == 0 then Some [] else None)) o)
only_first None = refl
only_first (Some first) = elim (length first.1 == 0) as (λ b. option_map with_value_id (if b then Some first.0 else None)
    ≡ option_and_then first_of (option_map (λ es. first.0 ∷ es) (if b then Some [] else None))) [ true ↦ refl | false ↦ refl ]

-- the one entry of an answer
pub only_is_one : (bytes : List ℕ) → option_map with_value_id (only_entry_in bytes) ≡ one_entry_in bytes
unfolding only_entry_in entries_in
only_is_one bytes = only_first (taken_entry_in bytes) ∙ ap (option_and_then first_of) (sym (entries-suc 0 bytes))

-- the lines so far, and those of the entries that are left, are those of all
abbrev Along : ℕ → ℕ → List Output → List ℕ → List ℕ → Type 0
Along count i outputs rest bytes = outputs_behind (map output_kept outputs) (entries_in (count - i) rest) ≡ outputs_behind [] (entries_in count bytes)

pub lines_begin : (count : ℕ) (outputs : List Output) (bytes : List ℕ) → outputs ≡ [] → Along count 0 outputs bytes bytes
lines_begin count outputs bytes is =
    let n : count - 0 ≡ count = omega arith in
    rw (is, n) refl

pub lines_more : (count i : ℕ) (old new : List Output) (bytes rest behind : List ℕ) (e : SymbolEntry) (text : List ℕ) → i < count
    → taken_entry_in rest ≡ Some (e, behind) → text ≡ entry_line e → new ≡ old ++ output.ToPrint text ∷ []
    → Along count i old rest bytes → Along count (i + 1) new behind bytes
lines_more count i old new bytes rest behind e text less taken line is so_far =
    let kept : map output_kept new ≡ map output_kept old ++ stages.ToPrint (entry_line e) ∷ [] =
    ap (map output_kept) is ∙ map-append output_kept old (output.ToPrint text ∷ []) ∙ ap (λ t. map output_kept old ++ stages.ToPrint t ∷ []) line in
    let n : count - i ≡ suc (count - (i + 1)) = omega arith in
    let step = outputs_behind-more (count - (i + 1)) (map output_kept old) rest behind e taken in
    rw kept (sym step ∙ (ap (λ k. outputs_behind (map output_kept old) (entries_in k rest)) (sym n) ∙ so_far))

pub lines_none : (count i : ℕ) (old : List Output) (bytes rest : List ℕ) → i < count → taken_entry_in rest ≡ None → Along count i old rest bytes
    → None ≡ outputs_behind [] (entries_in count bytes)
lines_none count i old bytes rest less taken so_far =
    let n : count - i ≡ suc (count - (i + 1)) = omega arith in
    sym (outputs_behind-none (count - (i + 1)) (map output_kept old) rest taken)
    ∙ (ap (λ k. outputs_behind (map output_kept old) (entries_in k rest)) (sym n) ∙ so_far)

at_end : (count i : ℕ) (old : List Output) (bytes rest : List ℕ) → count ≤ i → Along count i old rest bytes
    → outputs_behind (map output_kept old) (entries_in 0 rest) ≡ outputs_behind [] (entries_in count bytes)
at_end count i old bytes rest all so_far =
    let n : count - i ≡ 0 = omega arith in
    ap (λ k. outputs_behind (map output_kept old) (entries_in k rest)) (sym n) ∙ so_far

pub lines_end : (count i : ℕ) (old : List Output) (bytes rest : List ℕ) → count ≤ i → length rest ≡ 0 → Along count i old rest bytes
    → Some (map output_kept old) ≡ outputs_behind [] (entries_in count bytes)
unfolding entries_in
lines_end count i old bytes rest all none so_far =
    let e = at_end count i old bytes rest all so_far in
    let last : (length rest == 0) ≡ true = eq-eqb (length rest) 0 none in
    let here : outputs_behind (map output_kept old) (if length rest == 0 then Some [] else None) ≡ Some (map output_kept old) =
    rw last (ap Some (append-nil (map output_kept old))) in
    sym here ∙ e

pub lines_beyond : (count i : ℕ) (old : List Output) (bytes rest : List ℕ) → count ≤ i → length rest ≢ 0 → Along count i old rest bytes
    → None ≡ outputs_behind [] (entries_in count bytes)
unfolding entries_in
lines_beyond count i old bytes rest all some so_far =
    let e = at_end count i old bytes rest all so_far in
    let more : (length rest == 0) ≡ false = ne_eqb (length rest) 0 some in
    let here : outputs_behind (map output_kept old) (if length rest == 0 then Some [] else None) ≡ None = rw more refl in
    sym here ∙ e
