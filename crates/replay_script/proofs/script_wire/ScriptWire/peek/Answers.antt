-- The next line is the script's, also where events were taken out of lines.
use Rattle.std.proofs.Common.{◌≡◌, ◌<◌, ◌^◌, List, length, map, sym, ap, ◌∙◌, subst, arith}
use Rattle.std.specs.Prelude.{slice_get, Option, Some, None}
use Rattle.std.specs.Option.{option_map}
use Rattle.std.proofs.lemmas.Option.{slice_get_within, slice_get_past, slice_get-get_or}
use Rattle.spec_machine.specs.ScriptLine.{ScriptLine}
use Rattle.replay_script.specs.Script.{line_meant}
use Rattle.replay_script.specs.ScriptWire.{PlayedScript}
use Rattle.replay_script.specs.ToldLines.{lines_told}
use Rattle.replay_script.proofs.ToldLemmas.{peeked, length-lines_told}
use Rattle.replay_script.proofs.script_wire.ScriptWire.peek.Goals as goal

pub returns-in_err-copy-in-Some-clause-small : goal.returns-in_err-copy-in-Some-clause-small
returns-in_err-copy-in-Some-clause-small c =
    let S : PlayedScript → Type 0 = λ w. length w.lines < 2 ^ 64 in
    let long = length-lines_told c.self.inside.lines.items c.self.inside.log.items in
    let short : length (lines_told (map line_meant c.self.inside.lines.items) c.self.inside.log.items) < 2 ^ 64 =
    omega (arith, long, ap length c.deref.ensures.value) in
    subst S c.self.view_is short

pub returns-in_ok-copy-in-Some-clause-small : goal.returns-in_ok-copy-in-Some-clause-small
returns-in_ok-copy-in-Some-clause-small c =
    let S : PlayedScript → Type 0 = λ w. length w.lines < 2 ^ 64 in
    let long = length-lines_told c.self.inside.lines.items c.self.inside.log.items in
    let short : length (lines_told (map line_meant c.self.inside.lines.items) c.self.inside.log.items) < 2 ^ 64 =
    omega (arith, long, ap length c.deref.ensures.value) in
    subst S c.self.view_is short

pub returns-in-None-clause-small : goal.returns-in-None-clause-small
returns-in-None-clause-small c =
    let S : PlayedScript → Type 0 = λ w. length w.lines < 2 ^ 64 in
    let long = length-lines_told c.self.inside.lines.items c.self.inside.log.items in
    let short : length (lines_told (map line_meant c.self.inside.lines.items) c.self.inside.log.items) < 2 ^ 64 =
    omega (arith, long, ap length c.deref.ensures.value) in
    subst S c.self.view_is short

pub returns-in_ok-copy-in-Some-clause-line : goal.returns-in_ok-copy-in-Some-clause-line
returns-in_ok-copy-in-Some-clause-line c =
    let L : PlayedScript → Type 0 = λ w. Some (line_meant c.in_ok-copy-in-Some.field-0) ≡ slice_get w.lines w.at in
    let here : slice_get c.self.inside.lines.items c.self.inside.at ≡ Some c.in-Some.line.now =
    ap (λ ls. slice_get ls c.self.inside.at) (sym c.deref.ensures.value)
    ∙ (slice_get-get_or c.deref.result.now c.self.inside.at c.in-Some.line.now c.in-Some.ensures.lookup.3.0
    ∙ ap (λ l. Some l) (sym c.in-Some.ensures.lookup.1)) in
    let next = peeked c.self.inside.lines.items _ _ _ _ _ _ c.self.invariant in
    subst L c.self.view_is
    (ap (λ l. Some (line_meant l)) c.in_ok-copy-in-Some.ensures ∙ (sym (ap (option_map line_meant) here) ∙ next))

pub returns-in_ok-copy-in-Some-clause-within : goal.returns-in_ok-copy-in-Some-clause-within
returns-in_ok-copy-in-Some-clause-within c =
    let W : PlayedScript → Type 0 = λ w. w.at < length w.lines in
    let here : slice_get c.self.inside.lines.items c.self.inside.at ≡ Some c.in-Some.line.now =
    ap (λ ls. slice_get ls c.self.inside.at) (sym c.deref.ensures.value)
    ∙ (slice_get-get_or c.deref.result.now c.self.inside.at c.in-Some.line.now c.in-Some.ensures.lookup.3.0
    ∙ ap (λ l. Some l) (sym c.in-Some.ensures.lookup.1)) in
    let before = slice_get_within c.self.inside.lines.items c.self.inside.at _ here in
    let long = length-lines_told c.self.inside.lines.items c.self.inside.log.items in
    let within : c.self.inside.at < length (lines_told (map line_meant c.self.inside.lines.items) c.self.inside.log.items) = omega (arith, before, long) in
    subst W c.self.view_is within

pub returns-in-None-clause-line : goal.returns-in-None-clause-line
returns-in-None-clause-line c =
    let L : PlayedScript → Type 0 = λ w. None ≡ slice_get w.lines w.at in
    let none : slice_get c.self.inside.lines.items c.self.inside.at ≡ None =
    ap (λ ls. slice_get ls c.self.inside.at) (sym c.deref.ensures.value)
    ∙ slice_get_past c.deref.result.now c.self.inside.at c.in-None.ensures.lookup.3 in
    let next = peeked c.self.inside.lines.items _ _ _ _ _ _ c.self.invariant in
    subst L c.self.view_is (sym (ap (option_map line_meant) none) ∙ next)
