-- A log that is told goes on by what a call answered.
use Rattle.std.proofs.Common.{◌≡◌, ◌≢◌, ℕ, List, [], ◌∷◌, ◌++◌, true, false, sym, ◌∙◌, subst}
use Rattle.std.proofs.lemmas.Bool.{false≢true}
use Rattle.ads_outside.specs.declared.link_move.LinkMove.{LinkMove}
use Rattle.ads_outside.specs.declared.received.Received.{Received}
use Rattle.ads_outside.specs.declared.received.Received.TheVariants as received
use Rattle.ads_outside.specs.LinkAnswers.{log_after_recv}
use Rattle.spec_local.specs.LinkLog.{machine_after_log}
use Rattle.spec_local.proofs.LinkLogs.{machine_after_log-more, is_log-more}
use Rattle.server_core.specs.Served.{ServedState, served_step}
use Rattle.local_link.specs.Link.{LocalView, StandsFor, IsTold}
use Rattle.local_link.specs.Giving.{Follows, FollowsAnswer}

pub told_more : (old new : LocalView) (o : ServedState) (log : List LinkMove) (m : LinkMove)
    → old.wanting ≡ false → Follows old new m → IsTold old o log → IsTold new o (log ++ m ∷ [])
told_more old new o log m works follows told =
    let s = machine_after_log served_step o log in
    let next = follows.follows s (told.stands works) in
    record {
      is_log = is_log-more served_step o log m told.is_log next.0;
      stands = λ still. subst (StandsFor new) (sym (machine_after_log-more served_step o log m)) next.1;
    }

-- after want of memory the log stays
pub told_still : (old new : LocalView) (o : ServedState) (log : List LinkMove) → new.wanting ≡ true → IsTold old o log → IsTold new o log
told_still old new o log wants told = record { is_log = told.is_log; stands = λ works. absurd (false≢true (sym works ∙ wants)) }

pub told_answer : (old new : LocalView) (o : ServedState) (log : List LinkMove) (answer : Received) (buf : List ℕ)
    → old.wanting ≡ false → FollowsAnswer answer buf old new
    → IsTold old o log → IsTold new o (log_after_recv answer buf log)
told_answer old new o log (received.Bytes n now) buf works follows told = told_more old new o log _ works follows told
told_answer old new o log (received.Quiet now) buf works follows told = told_more old new o log _ works follows told
told_answer old new o log (received.Closed now) buf works follows told = told_more old new o log _ works follows told
told_answer old new o log received.Failed buf works follows told = absurd follows
told_answer old new o log received.Memory buf works follows told = absurd follows

pub answer_fails : (old new : LocalView) (answer : Received) (buf : List ℕ) → FollowsAnswer answer buf old new → answer ≢ received.Failed
answer_fails old new (received.Bytes n now) buf follows e = cc
answer_fails old new (received.Quiet now) buf follows e = cc
answer_fails old new (received.Closed now) buf follows e = cc
answer_fails old new received.Failed buf follows e = follows
answer_fails old new received.Memory buf follows e = cc
