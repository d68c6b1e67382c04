-- The file gives no description that is accepted, or its core stands.
use Rattle.std.proofs.Common.{refl, inl, inr, length}
use Rattle.ads_outside.specs.Named.{bytes_of}
use Rattle.ads_outside.specs.Rose.{Rose}
use Rattle.run_tasks.specs.Verdict.{Serves, verdict_of_description_file}
use Rattle.run_tasks.proofs.EndLemmas.{ending_in, ends_as_told}
use Rattle.run_tasks.proofs.OpenLemmas.{may_description, may_printed, may_wanting}
use Rattle.run_tasks.proofs.ReadLemmas.{reads_one}
use Rattle.client_commands.proofs.local_core.core_of_file.Goals as goal

pub returns-in-Err-clause-ended : goal.returns-in-Err-clause-ended
returns-in-Err-clause-ended g c = λ made. inl (c.end_without_memory.ensures.memory, c.end_without_memory.ensures.line)

pub returns-in-Ok-Err-clause-ended : goal.returns-in-Ok-Err-clause-ended
returns-in-Ok-Err-clause-ended g c = λ made.
    let signals = length (g.G.Sources.waves c.args.signals) in
    inr (ends_as_told Serves (λ service. ⊥) (Unit {0}) (g.F.Files.state c.args.files.now).held
    (λ files. verdict_of_description_file signals made (bytes_of files c.args.name.now))
    (Rose (g.F.Files.state c.args.files.now).faults (g.F.Files.state c.read_description.new.files).faults) c.in-Ok-Err.told c.print_outcome.result
    (g.S.Sink.state c.args.out.now) (g.S.Sink.state c.print_outcome.new.out) tt c.print_outcome.ensures
    (rw (c.in-Ok-Err.field-0-is, c.count.ensures) at (c.in-Ok-Err.ensures.told made)))

pub returns-in-Err-build-clause-ended : goal.returns-in-Err-build-clause-ended
returns-in-Err-build-clause-ended g c = λ made. inl (c.end_without_memory-in-Err-build.ensures.memory, c.end_without_memory-in-Err-build.ensures.line)

pub returns-in-Err-build-clause-reads : goal.returns-in-Err-build-clause-reads
returns-in-Err-build-clause-reads g c = reads_one c.end_without_memory-in-Err-build.result _ _ c.args.name.now c.in-Ok-Ok.ensures.reads

pub returns-clause-opened : goal.returns-clause-opened
returns-clause-opened g c = record {
  read = c.in-Ok-Ok.read;
  found = rw (c.in-Ok-Ok.field-0-is, c.count.ensures) at c.in-Ok-Ok.ensures.found;
  named = refl;
  serves = c.in-Ok.ensures.serves;
}

pub returns-in-Err-clause-unopened : goal.returns-in-Err-clause-unopened
returns-in-Err-clause-unopened g c = may_wanting c.end_without_memory.result c.end_without_memory.ensures.memory

pub returns-in-Ok-Err-clause-unopened : goal.returns-in-Ok-Err-clause-unopened
returns-in-Ok-Err-clause-unopened g c =
    may_printed (ending_in c.in-Ok-Err.told) c.print_outcome.result (g.S.Sink.state c.args.out.now) (g.S.Sink.state c.print_outcome.new.out)
    (may_description c.in-Ok-Err.told.status (rw c.in-Ok-Err.field-0-is at c.in-Ok-Err.ensures.status)) c.print_outcome.ensures

pub returns-in-Err-build-clause-unopened : goal.returns-in-Err-build-clause-unopened
returns-in-Err-build-clause-unopened g c =
    may_wanting c.end_without_memory-in-Err-build.result c.end_without_memory-in-Err-build.ensures.memory
