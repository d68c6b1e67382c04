-- The made texts are read as what they are made of.
use Rattle.std.proofs.Common.{◌≡◌, ℕ, List, ap, ◌∙◌}
use Rattle.std.specs.Prelude.{Result, Ok, Err, IfOk}
use Rattle.ads_base.specs.declared.no_memory.NoMemory.{NoMemory}
use Rattle.signals.specs.Wave.{Wave}
use Rattle.spec_machine.specs.ScriptLine.{ScriptLine}
use Rattle.spec_plant.specs.Description.{Description}
use Rattle.spec_rules.specs.TextVerdict.{Described}
use Rattle.load_maker.specs.LoadDescription.{load_description}
use Rattle.load_maker.specs.LoadScript.{load_lines}
use Rattle.load_maker.specs.MadeLines.{script_said}
use Rattle.run_tasks.specs.Load.{load_text, counts_of_play}

-- the counts are those of the load
pub counts_of_load : (waves : List Wave) (n : ℕ) (d : Description) (lines : List ScriptLine) (text : List ℕ)
    → Described d ≡ Described load_description → ◌≡◌ {A = Result (List ScriptLine) ℕ} (Ok lines) (Ok (script_said (load_lines n)))
    → text ≡ counts_of_play d waves lines → text ≡ load_text waves n
unfolding load_text
counts_of_load waves n d lines text read said is =
    let same : d ≡ load_description = cc in
    let these : lines ≡ script_said (load_lines n) = cc in
    is ∙ (ap (λ (x : Description). counts_of_play x waves lines) same ∙ ap (λ (l : List ScriptLine). counts_of_play load_description waves l) these)

-- where the play answers a text
pub counts_of_load_so : (waves : List Wave) (n : ℕ) (d : Description) (lines : List ScriptLine) (answer : Result (List ℕ) NoMemory)
    → Described d ≡ Described load_description → ◌≡◌ {A = Result (List ScriptLine) ℕ} (Ok lines) (Ok (script_said (load_lines n)))
    → IfOk answer (λ text. text ≡ counts_of_play d waves lines) → IfOk answer (λ text. text ≡ load_text waves n)
counts_of_load_so waves n d lines (Ok text) read said is = counts_of_load waves n d lines text read said is
counts_of_load_so waves n d lines (Err e) read said is = tt
