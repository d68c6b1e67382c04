use Rattle.spec_laws.proofs.Profiles.{keeps_profile, strict_is_plain, writes_are_plain, wide_reads_by_handle, wide_reads_by_name, wide_modes, wide_types}
use Rattle.spec_laws.proofs.profiles_differ_in_meanings.Goals as goal

pub returns-clause-kept : goal.returns-clause-kept
returns-clause-kept c = keeps_profile

pub returns-clause-strict : goal.returns-clause-strict
returns-clause-strict c = strict_is_plain

pub returns-clause-writes : goal.returns-clause-writes
returns-clause-writes c = writes_are_plain

pub returns-clause-by_handle : goal.returns-clause-by_handle
returns-clause-by_handle c = wide_reads_by_handle

pub returns-clause-by_name : goal.returns-clause-by_name
returns-clause-by_name c = wide_reads_by_name

pub returns-clause-modes : goal.returns-clause-modes
returns-clause-modes c = wide_modes

pub returns-clause-types : goal.returns-clause-types
returns-clause-types c = wide_types
