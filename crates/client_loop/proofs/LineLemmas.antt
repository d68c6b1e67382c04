-- Lines of entries, one after another.
use Rattle.std.proofs.Common.{◌≡◌, ℕ, zero, suc, ◌+◌, List, [], ◌∷◌, ◌++◌, take, Option}
use Rattle.std.proofs.Common.{Some, None, refl, sym, ap, ◌∙◌, subst, append_assoc, arith}
use Rattle.std.specs.Prelude.{Result, Ok, Err, option_map, slice_get, is_some}
use Rattle.std.proofs.lemmas.Bool.{false≢true}
use Rattle.std.proofs.lemmas.List.{append-nil}
use Rattle.ads_base.specs.declared.no_memory.NoMemory.{NoMemory}
use Rattle.spec_formats.specs.SymbolEntry.{SymbolEntry}
use Rattle.spec_samples.specs.Row.{Row}
use Rattle.spec_samples.specs.Totals.{total_of}
use Rattle.spec_client.specs.TotalLines.{total_line, total_lines}
use Rattle.ads_outside.specs.Puts.{AppendsPart}
use Rattle.ads_outside.specs.SinkState.{SinkState}
use Rattle.sample_store.specs.Keeper.{KeeperState}
use Rattle.client_loop.specs.declared.turning.Turned.{Turned}
use Rattle.client_loop.specs.declared.turning.Turned.TheVariants as turned
use Rattle.client_loop.specs.Lines.{AreLines, line_with, PutsLines, AfterLines, ended_by}
use Rattle.client_loop.specs.Outlets.{outlets}
use Rattle.client_loop.specs.Turning.{AfterPut}
use Rattle.client_loop.proofs.SaidLemmas.{puts_none}

-- the name and the type id of an entry
abbrev pub named : SymbolEntry → List ℕ × ℕ
named e = (e.name, e.type_id)

line_of : (rows : List Row) (e : SymbolEntry) (name : List ℕ) (id : ℕ) → (name, id) ≡ named e → total_line rows e ≡ line_with name id (total_of name rows)
line_of rows e name id is = ap (λ (p : List ℕ × ℕ). line_with p.0 p.1 (total_of p.0 rows)) (sym is)

-- the line of the next entry
pub next_line : (rows : List Row) (entries : List SymbolEntry) (n : ℕ) (name : List ℕ) (id : ℕ) → Some (name, id) ≡ option_map named (slice_get entries n)
    → total_lines rows (take (suc n) entries) ≡ total_lines rows (take n entries) ++ line_with name id (total_of name rows)
next_line rows [] n name id is = absurd (false≢true (sym (ap is_some is)))
next_line rows (e ∷ es) zero name id is =
    append-nil (total_line rows e) ∙ line_of rows e name id (ap (λ o. or_this (name, id) o) is)
  where
    or_this : List ℕ × ℕ → Option (List ℕ × ℕ) → List ℕ × ℕ
    or_this d None = d
    or_this d (Some p) = p
next_line rows (e ∷ es) (suc n) name id is =
    ap (λ t. total_line rows e ++ t) (next_line rows es n name id is)
    ∙ sym (append_assoc (total_line rows e) (total_lines rows (take n es)) (line_with name id (total_of name rows)))

-- there is no other
pub no_line : (entries : List SymbolEntry) (n : ℕ) → None ≡ option_map named (slice_get entries n) → take n entries ≡ entries
no_line [] zero is = refl
no_line [] (suc n) is = refl
no_line (e ∷ es) zero is = absurd (false≢true (ap is_some is))
no_line (e ∷ es) (suc n) is = ap (λ l. e ∷ l) (no_line es n is)

-- one line more stands
pub lines_more : (told : Option (List Row)) (entries : List SymbolEntry) (n : ℕ) (name : List ℕ) (id : ℕ) (text new_text : List ℕ)
    → Some (name, id) ≡ option_map named (slice_get entries n) → AreLines told (take n entries) text
    → ((rows : List Row) → told ≡ Some rows → new_text ≡ text ++ line_with name id (total_of name rows))
    → AreLines told (take (n + 1) entries) new_text
lines_more told entries n name id text new_text is before more = λ rows known.
    let next : n + 1 ≡ suc n = omega arith in
    more rows known ∙ ap (λ t. t ++ line_with name id (total_of name rows)) (before rows known) ∙ sym (next_line rows entries n name id is)
    ∙ ap (λ k. total_lines rows (take k entries)) (sym next)

pub lines_all : (told : Option (List Row)) (entries : List SymbolEntry) (n : ℕ) (text : List ℕ)
    → None ≡ option_map named (slice_get entries n) → AreLines told (take n entries) text → AreLines told entries text
lines_all told entries n text is before = subst (λ es. AreLines told es text) (no_line entries n is) before

abbrev due : Option (List Row) → List SymbolEntry → List ℕ
due None entries = []
due (Some rows) entries = total_lines rows entries

are_due : (told : Option (List Row)) (entries : List SymbolEntry) → AreLines told entries (due told entries)
are_due told entries = λ rows is. ap (λ t. due t entries) is

-- nothing of the lines was put
pub lines_unput : (entries : List SymbolEntry) (sink : SinkState) (keeper new_keeper : KeeperState) → new_keeper.rows ≡ keeper.rows
    → PutsLines AppendsPart entries (outlets sink keeper) (outlets sink new_keeper)
lines_unput entries sink keeper new_keeper same = record {
  same = same;
  lines = due keeper.rows entries;
  are_lines = are_due keeper.rows entries;
  put = puts_none sink.held (due keeper.rows entries);
}

-- what became of the lines
pub lines_put : (result : Result (Option Turned) NoMemory) (entries : List SymbolEntry) (lines : List ℕ) (sink new_sink : SinkState)
    (keeper new_keeper : KeeperState)
    → new_keeper.rows ≡ keeper.rows → AreLines keeper.rows entries lines → AfterPut result sink new_sink lines
    → AfterLines (ended_by result) entries (outlets sink keeper) (outlets new_sink new_keeper)
lines_put (Ok None) entries lines sink new_sink keeper new_keeper same are put = record { same = same; lines = lines; are_lines = are; put = put }
lines_put (Ok (Some turned.WriteFault)) entries lines sink new_sink keeper new_keeper same are put =
    (put.1, record { same = same; lines = lines; are_lines = are; put = put.0 })
lines_put (Ok (Some turned.Waits)) entries lines sink new_sink keeper new_keeper same are put = absurd put
lines_put (Ok (Some (turned.Over e))) entries lines sink new_sink keeper new_keeper same are put = absurd put
lines_put (Ok (Some turned.LinkFault)) entries lines sink new_sink keeper new_keeper same are put = absurd put
lines_put (Ok (Some turned.KeeperFault)) entries lines sink new_sink keeper new_keeper same are put = absurd put
lines_put (Err e) entries lines sink new_sink keeper new_keeper same are put = record { same = same; lines = lines; are_lines = are; put = put }
