use Rattle.std.proofs.Common.{[], ◌≡◌, sym, ap, ◌∙◌, refl}
use Rattle.spec_frames.specs.Division.{front_of, packet_of}
use Rattle.ams_tcp.specs.Held.{Held}
use Rattle.ams_tcp.specs.declared.cut.Cut.TheVariants as cut
use Rattle.ams_tcp.proofs.HistoryLemmas.{answer_of-frame, answer_not_yet, answer_broken, given_not_yet, given_broken}
use Rattle.ams_tcp.proofs.splitter.Splitter.next_in.Goals as goal

pub returns-in_ok-put-in-Frame-clause-answer : goal.returns-in_ok-put-in-Frame-clause-answer
returns-in_ok-put-in-Frame-clause-answer c = λ h s.
    let held = c.args.self.now in
    let rest : c.rest.result.now ≡ held.rest = c.rest.ensures in
    let whole = ap (λ t. front_of t) (sym rest) ∙ c.in-Frame.ensures.front in
    let empty : c.cut.new.self ≡ [] = c.cut.ensures in
    let put = c.in_ok-put-in-Frame.ensures.ok in
    let ams : c.put.new.self ≡ packet_of held.rest = rw empty at put ∙ c.in-Frame.ensures.packet_is ∙ ap (λ t. packet_of t) rest in
    ap (λ x. cut.Frame x) ams ∙ sym (answer_of-frame held h whole s)

pub returns-in-NotYet-clause-answer : goal.returns-in-NotYet-clause-answer
returns-in-NotYet-clause-answer c = λ h s.
    sym (answer_not_yet c.args.self.now h (ap (λ t. front_of t) (sym c.rest.ensures) ∙ c.in-NotYet.ensures) s)

pub returns-in-NotYet-clause-stands : goal.returns-in-NotYet-clause-stands
returns-in-NotYet-clause-stands c = λ h s.
    given_not_yet c.args.self.now h (ap (λ t. front_of t) (sym c.rest.ensures) ∙ c.in-NotYet.ensures) s

pub returns-in-Broken-clause-answer : goal.returns-in-Broken-clause-answer
returns-in-Broken-clause-answer c = λ h s.
    sym (answer_broken c.args.self.now h (ap (λ t. front_of t) (sym c.rest.ensures) ∙ c.in-Broken.ensures.front) s)

pub returns-in-Broken-clause-stands : goal.returns-in-Broken-clause-stands
returns-in-Broken-clause-stands c = λ h s.
    given_broken c.args.self.now _ h (ap (λ t. front_of t) (sym c.rest.ensures) ∙ c.in-Broken.ensures.front)
    (ap (λ (held : Held). held.rest) c.self.view_is) refl s
