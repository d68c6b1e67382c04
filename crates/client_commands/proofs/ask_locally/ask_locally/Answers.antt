-- The run ended before the server stood, or the server is asked.
use Rattle.std.proofs.Common.{List, ℕ, inr, length, refl, subst, sym}
use Rattle.ads_outside.specs.Rose.{Rose}
use Rattle.spec_plant.specs.Description.{Description}
use Rattle.type_layout.specs.Descriptions.{description_of}
use Rattle.run_tasks.specs.Asking.{local_calling}
use Rattle.run_tasks.specs.BeforeRun.{IsBeforeRun}
use Rattle.run_tasks.specs.Verdict.{CallsLocally, Verdict}
use Rattle.run_tasks.proofs.ReadLemmas.{reads_one}
use Rattle.client_commands.specs.Calling.{EndsLocalCall}
use Rattle.client_commands.proofs.AskLemmas.{never_asked}
use Rattle.client_commands.proofs.LocalCoreLemmas.{ends_unopened, ends_opened}
use Rattle.client_commands.proofs.ask_locally.ask_locally.Goals as goal

pub returns-in-Err-clause-ends : goal.returns-in-Err-clause-ends
returns-in-Err-clause-ends g c =
    let waves = g.G.Sources.waves c.args.signals in
    let out = g.S.Sink.state c.args.out.now in
    let out_new = g.S.Sink.state c.core_of_file.new.out in
    let s = c.in-Err.status in
    let made : List ℕ → Description → Verdict = λ bytes d. CallsLocally (local_calling d waves c.args.what.now c.args.client.now) in
    ends_unopened CallsLocally (λ x. EndsLocalCall x s out out_new) (length waves) made c.args.description.now (g.F.Files.state c.args.files.now).held
    (Rose (g.F.Files.state c.args.files.now).faults (g.F.Files.state c.core_of_file.new.files).faults) s out out_new
    (λ wants bytes d. let x = local_calling d waves c.args.what.now c.args.client.now in
    inr (record { made = x; is = refl; comes = never_asked x s out out_new wants.0 wants.1 })) (c.in-Err.ensures.ended made)

pub returns-in-Ok-clause-ends : goal.returns-in-Ok-clause-ends
returns-in-Ok-clause-ends g c =
    let waves = g.G.Sources.waves c.args.signals in
    let out = g.S.Sink.state c.args.out.now in
    let out_new = g.S.Sink.state c.ask_core.new.out in
    let s = c.ask_core.result in
    let is = c.in-Ok.ensures.opened in
    let d = description_of is.read.description in
    let x = local_calling d waves c.args.what.now c.args.client.now in
    ends_opened CallsLocally (λ x. EndsLocalCall x s out out_new) waves (λ bytes e. CallsLocally (local_calling e waves c.args.what.now c.args.client.now))
    c.args.description.now (g.F.Files.state c.args.files.now).held
    (Rose (g.F.Files.state c.args.files.now).faults (g.F.Files.state c.core_of_file.new.files).faults) s out out_new _ _ is
    (inr (record {
      made = x;
      is = refl;
      comes = subst (λ o. EndsLocalCall x s o out_new) c.in-Ok.ensures.silent (c.ask_core.ensures.ends d waves is.serves is.named);
    }))

pub returns-in-Ok-clause-reads : goal.returns-in-Ok-clause-reads
returns-in-Ok-clause-reads g c = reads_one c.ask_core.result _ _ c.args.description.now c.in-Ok.ensures.read

pub returns-in-Ok-clause-read_fault : goal.returns-in-Ok-clause-read_fault
returns-in-Ok-clause-read_fault g c = λ is. absurd (c.ask_core.ensures.run (subst IsBeforeRun (sym is) tt))
