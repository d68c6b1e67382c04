-- Sums that a server of a profile knows besides those of all: the wide one those of TwinCAT's clients, by their index groups.
-- Beckhoff Information System, "ADS Sum Command", ADSIGRP_SUMUP_READEX, ADSIGRP_SUMUP_READEX2,
-- ADSIGRP_SUMUP_ADDDEVNOTE and ADSIGRP_SUMUP_DELDEVNOTE.
use Rattle.std.specs.Prelude.{ℕ, List, Option, Some, None, ◌==◌, if◌then◌else◌}
use Rattle.spec_machine.specs.Manner.{Manner, Strict, Wide}
use Rattle.spec_machine.specs.Profile.{Profile}
use Rattle.spec_machine.specs.Sums.{SumRequest, sum_of_told_reads, sum_of_short_reads, sum_of_additions, sum_of_deletions}

abbrev pub sum_told_read : ℕ
sum_told_read = 0xF083

abbrev pub sum_short_read : ℕ
sum_short_read = 0xF084

abbrev pub sum_add : ℕ
sum_add = 0xF085

abbrev pub sum_delete : ℕ
sum_delete = 0xF086

-- the sum of n parts in the data, by its group
abbrev pub wide_sums : ℕ → Option (ℕ → List ℕ → SumRequest)
wide_sums group =
    if group == sum_told_read then Some sum_of_told_reads
    else if group == sum_short_read then Some sum_of_short_reads
    else if group == sum_add then Some sum_of_additions
    else if group == sum_delete then Some sum_of_deletions
    else None

abbrev pub sums_in_manner : Manner → ℕ → Option (ℕ → List ℕ → SumRequest)
sums_in_manner Strict group = None
sums_in_manner Wide group = wide_sums group

abbrev pub more_sums : Profile → ℕ → Option (ℕ → List ℕ → SumRequest)
more_sums profile group = sums_in_manner profile.manner group
