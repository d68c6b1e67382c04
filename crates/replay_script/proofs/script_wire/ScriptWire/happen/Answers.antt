-- The event is behind the log, and its number is new.
use Rattle.std.proofs.Common.{List, ◌≡◌, ◌+◌, ◌++◌, ◌∷◌, [], sym, ap, ◌∙◌, subst, arith}
use Rattle.std.specs.Prelude.{map, slice_get, slice_set, Some, IsTrue}
use Rattle.spec_machine.specs.ScriptLine.{ScriptLine, Happens}
use Rattle.ads_outside.specs.declared.event.Event.TheVariants as event
use Rattle.ads_outside.specs.declared.moves.Move.TheVariants as move
use Rattle.ads_outside.specs.Opened.{opened_in, is_new}
use Rattle.replay_script.specs.Fresh.{OpenNew}
use Rattle.replay_script.specs.Script.{line_meant}
use Rattle.replay_script.specs.ScriptWire.{PlayedScript}
use Rattle.replay_script.specs.ToldLines.{lines_told}
use Rattle.std.proofs.lemmas.Option.{slice_get_within}
use Rattle.replay_script.proofs.AnswerLemmas.{line_at, line_is_new}
use Rattle.replay_script.proofs.ToldLemmas.{own_line, happens_at, given_is, given_lines, given_from, told_is}
use Rattle.replay_script.proofs.script_wire.ScriptWire.happen.Goals as goal

pub returns-clause-is_new : goal.returns-clause-is_new
returns-clause-is_new c =
    let P : PlayedScript → Type 0 = λ w. slice_get w.lines w.at ≡ Some (Happens c.args.event) in
    let lines = lines_told (map line_meant c.self.inside.lines.items) c.self.inside.log.items in
    let line = line_at lines c.self.inside.at _ (subst P (sym c.self.view_is) c.requires.line) in
    let N : List ScriptLine → Type 0 = λ ls. OpenNew (opened_in c.self.inside.log.items) ls in
    let W : PlayedScript → Type 0 = λ w. IsTrue (is_new c.args.event (opened_in w.log)) in
    subst W c.self.view_is (line_is_new c.args.event _ _ (subst N line c.self.invariant.plays.new))

pub index_mut-requires : goal.index_mut-requires
index_mut-requires c =
    let P : PlayedScript → Type 0 = λ w. slice_get w.lines w.at ≡ Some (Happens c.args.event) in
    let own = own_line c.self.inside.lines.items _ _ _ _ _ _ c.self.invariant c.args.event (subst P (sym c.self.view_is) c.requires.line) in
    let within = slice_get_within c.self.inside.lines.items c.self.inside.at _ own in
    omega (arith, within, c.self.inside.lines.ok.0)

pub take_event-taken-requires : goal.take_event-taken-requires
take_event-taken-requires c =
    let P : PlayedScript → Type 0 = λ w. slice_get w.lines w.at ≡ Some (Happens c.args.event) in
    happens_at c.self.inside.lines.items _ _ _ _ _ _ c.self.invariant c.args.event (subst P (sym c.self.view_is) c.requires.line) _ c.index_mut.ensures.value

pub invariant_of-self-2 : goal.invariant_of-self-2
invariant_of-self-2 c =
    let P : PlayedScript → Type 0 = λ w. slice_get w.lines w.at ≡ Some (Happens c.args.event) in
    let here = subst P (sym c.self.view_is) c.requires.line in
    let given = given_is c.self.inside.lines.items _ _ _ _ _ _ c.self.invariant c.args.event here _ _
    c.index_mut.ensures.value c.take_event-taken.ensures.taken in
    let logged : c.push_reserved.new.self.items ≡ c.self.inside.log.items ++ move.Event c.args.event ∷ [] =
    c.push_reserved.ensures.items ∙ (ap (λ log. log ++ move.Event c.take_event-taken.result ∷ []) c.in_ok-reserve.ensures.items
    ∙ ap (λ e. c.self.inside.log.items ++ move.Event e ∷ []) given) in
    given_from c.self.inside.lines.items _ _ _ _ _ _ c.self.invariant c.args.event here _ (event.Tick 0) _ _
    c.take_event-taken.ensures.left logged c.len-self-inside.ensures

pub returns-clause-told : goal.returns-clause-told
returns-clause-told c =
    let P : PlayedScript → Type 0 = λ w. slice_get w.lines w.at ≡ Some (Happens c.args.event) in
    let here = subst P (sym c.self.view_is) c.requires.line in
    let given = given_is c.self.inside.lines.items _ _ _ _ _ _ c.self.invariant c.args.event here _ _
    c.index_mut.ensures.value c.take_event-taken.ensures.taken in
    let logged : c.push_reserved.new.self.items ≡ c.self.inside.log.items ++ move.Event c.args.event ∷ [] =
    c.push_reserved.ensures.items ∙ (ap (λ log. log ++ move.Event c.take_event-taken.result ∷ []) c.in_ok-reserve.ensures.items
    ∙ ap (λ e. c.self.inside.log.items ++ move.Event e ∷ []) given) in
    told_is c.args.self.now (map line_meant c.self.inside.lines.items)
    (map line_meant (slice_set c.self.inside.lines.items c.self.inside.at c.take_event-taken.new.self))
    c.self.inside.at (c.self.inside.at + 1) c.self.inside.log.items c.push_reserved.new.self.items c.self.inside.starts c.self.inside.events
    c.saturating_add-self-inside.result c.self.inside.ends c.self.inside.faults c.self.inside.wants c.args.event
    c.self.view_is logged c.saturating_add-self-inside.ensures

pub returns-clause-lines : goal.returns-clause-lines
returns-clause-lines c =
    let P : PlayedScript → Type 0 = λ w. slice_get w.lines w.at ≡ Some (Happens c.args.event) in
    let here = subst P (sym c.self.view_is) c.requires.line in
    let given = given_is c.self.inside.lines.items _ _ _ _ _ _ c.self.invariant c.args.event here _ _
    c.index_mut.ensures.value c.take_event-taken.ensures.taken in
    let logged : c.push_reserved.new.self.items ≡ c.self.inside.log.items ++ move.Event c.args.event ∷ [] =
    c.push_reserved.ensures.items ∙ (ap (λ log. log ++ move.Event c.take_event-taken.result ∷ []) c.in_ok-reserve.ensures.items
    ∙ ap (λ e. c.self.inside.log.items ++ move.Event e ∷ []) given) in
    given_lines c.self.inside.lines.items _ _ _ _ _ _ c.self.invariant c.args.event here _ (event.Tick 0) _ c.take_event-taken.ensures.left logged
    ∙ ap (λ (w : PlayedScript). w.lines) c.self.view_is
