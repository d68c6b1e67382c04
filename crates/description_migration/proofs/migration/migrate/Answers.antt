use Rattle.std.proofs.Common.{subst}
use Rattle.std.specs.Prelude.{Option}
use Rattle.symbol_file.specs.declared.fault.DescFault.{DescFault}
use Rattle.description_migration.specs.Faults.{IsFault}
use Rattle.description_migration.proofs.MigratedLemmas.{is_document, is_migrated}
use Rattle.description_migration.proofs.migration.migrate.Goals as goal

pub migrated-requires : goal.migrated-requires
migrated-requires c =
    let P : Option DescFault → Type 0 = λ f. IsFault c.args.signals c.args.bytes.now f in
    let (d, is) = subst P c.in-None.is c.in_ok-fault.ensures in
    is_document c.args.signals c.args.bytes.now d is

pub returns-in_ok-text-in-None-clause-migrated : goal.returns-in_ok-text-in-None-clause-migrated
returns-in_ok-text-in-None-clause-migrated c =
    let P : Option DescFault → Type 0 = λ f. IsFault c.args.signals c.args.bytes.now f in
    let (d, is) = subst P c.in-None.is c.in_ok-fault.ensures in
    is_migrated c.args.signals c.args.bytes.now c.in_ok-text-in-None.text d is c.in_ok-text-in-None.ensures.text c.in_ok-text-in-None.ensures.document
