-- Each answer of the wire inside is a case of what is said of an answer.
use Rattle.std.proofs.Common.{rules, arith}
use Rattle.local_router.proofs.AnswerLemmas.{answers_nothing, answers_whole, answers_lost, answers_cut}
use Rattle.local_router.proofs.answers.answer.Goals as goal

pub returns-then-is_empty-clause-ok : goal.returns-then-is_empty-clause-ok
returns-then-is_empty-clause-ok g c = answers_nothing _ _ _ (search rules)

pub returns-then-taken-reply-clause-ok : goal.returns-then-taken-reply-clause-ok
returns-then-taken-reply-clause-ok g c = answers_whole _ _ _ _ _ (search rules) c.if-taken-reply.true c.in-Took.ensures.takes.1

pub returns-else-taken-reply-clause-ok : goal.returns-else-taken-reply-clause-ok
returns-else-taken-reply-clause-ok g c = answers_cut _ _ c.in-Took.taken _ _ _ _ (omega (arith, c.in-Took.ensures.takes.0, c.if-taken-reply.false))
    c.in-Took.ensures.takes.1 c.cut_off.ensures.ok

pub returns-in-Failed-clause-ok : goal.returns-in-Failed-clause-ok
returns-in-Failed-clause-ok g c = answers_lost _ _ _ _ c.in-Failed.ensures.takes.0
