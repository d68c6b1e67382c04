use Rattle.std.proofs.Common.{List, ℕ, subst}
use Rattle.ams_tcp.specs.FrontCase.{IsFront}
use Rattle.ams_tcp.proofs.PeekLemmas.{shown}
use Rattle.ams_tcp.proofs.splitter.Splitter.peek.Goals as goal

pub returns-clause-answer : goal.returns-clause-answer
returns-clause-answer c = λ h s.
    shown c.args.self.now h c.front_at.result (subst (λ (text : List ℕ). IsFront text c.front_at.result) c.rest.ensures c.front_at.ensures) s
