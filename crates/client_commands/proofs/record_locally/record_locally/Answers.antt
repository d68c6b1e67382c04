-- The run ended before the server stood, or samples of it are recorded.
use Rattle.std.proofs.Common.{List, ℕ, inl, inr, length, refl, subst, sym}
use Rattle.ads_outside.specs.Rose.{Rose}
use Rattle.spec_plant.specs.Description.{Description}
use Rattle.type_layout.specs.Descriptions.{description_of}
use Rattle.run_tasks.specs.RecordAsked.{local_recording}
use Rattle.run_tasks.specs.Verdict.{RecordsLocally, Verdict}
use Rattle.run_tasks.specs.BeforeRun.{IsBeforeRun}
use Rattle.run_tasks.proofs.OpenLemmas.{opens_none}
use Rattle.run_tasks.proofs.ReadLemmas.{reads_one}
use Rattle.client_commands.specs.CallUses.{keeper_used}
use Rattle.client_commands.specs.Recording.{EndsLocalRecording}
use Rattle.client_commands.proofs.LocalCoreLemmas.{ends_unopened, ends_opened}
use Rattle.client_commands.proofs.record_locally.record_locally.Goals as goal

pub returns-in-Err-clause-ends : goal.returns-in-Err-clause-ends
returns-in-Err-clause-ends g c =
    let waves = g.G.Sources.waves c.args.signals in
    let out = g.S.Sink.state c.args.out.now in
    let out_new = g.S.Sink.state c.core_of_file.new.out in
    let s = c.in-Err.status in
    let keeper = keeper_used g.K.Keeper.state c.args.keeper.now c.args.keeper.now in
    let made : List ℕ → Description → Verdict = λ bytes d. RecordsLocally (local_recording d waves c.args.what.now) in
    ends_unopened RecordsLocally (λ x. EndsLocalRecording x s out out_new keeper) (length waves) made c.args.description.now
    (g.F.Files.state c.args.files.now).held (Rose (g.F.Files.state c.args.files.now).faults (g.F.Files.state c.core_of_file.new.files).faults) s out out_new
    (λ wants bytes d. inr (record { made = local_recording d waves c.args.what.now; is = refl; comes = inl (tt, refl, wants) }))
    (c.in-Err.ensures.ended made)

pub returns-in-Ok-clause-ends : goal.returns-in-Ok-clause-ends
returns-in-Ok-clause-ends g c =
    let waves = g.G.Sources.waves c.args.signals in
    let out = g.S.Sink.state c.args.out.now in
    let out_new = g.S.Sink.state c.record_core.new.out in
    let s = c.record_core.result in
    let keeper = keeper_used g.K.Keeper.state c.args.keeper.now c.record_core.new.keeper in
    let is = c.in-Ok.ensures.opened in
    let d = description_of is.read.description in
    let x = local_recording d waves c.args.what.now in
    ends_opened RecordsLocally (λ x. EndsLocalRecording x s out out_new keeper) waves (λ bytes e. RecordsLocally (local_recording e waves c.args.what.now))
    c.args.description.now (g.F.Files.state c.args.files.now).held
    (Rose (g.F.Files.state c.args.files.now).faults (g.F.Files.state c.core_of_file.new.files).faults) s out out_new _ _ is
    (inr (record {
      made = x;
      is = refl;
      comes = subst (λ o. EndsLocalRecording x s o out_new keeper) c.in-Ok.ensures.silent (c.record_core.ensures.ends d waves is.serves is.named);
    }))

pub returns-in-Ok-clause-reads : goal.returns-in-Ok-clause-reads
returns-in-Ok-clause-reads g c = reads_one c.record_core.result _ _ c.args.description.now c.in-Ok.ensures.read

pub returns-in-Ok-clause-read_fault : goal.returns-in-Ok-clause-read_fault
returns-in-Ok-clause-read_fault g c = λ is. absurd (c.record_core.ensures.run (subst IsBeforeRun (sym is) tt))

pub returns-in-Ok-clause-before_run : goal.returns-in-Ok-clause-before_run
returns-in-Ok-clause-before_run g c = λ before. absurd (c.record_core.ensures.run before)

pub returns-in-Err-clause-opens : goal.returns-in-Err-clause-opens
returns-in-Err-clause-opens g c = opens_none c.in-Err.status _ _ c.args.what.now.store c.in-Err.ensures.unopened refl
