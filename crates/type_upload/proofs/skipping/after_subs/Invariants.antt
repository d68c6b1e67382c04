use Rattle.std.proofs.Common.{◌≡◌, ◌-◌}
use Rattle.spec_formats.specs.TypeEntryReading.{after_subs_in}
use Rattle.type_upload.proofs.skipping.after_subs.Given as goal

-- what stands behind those that are left stands behind all
abbrev pub invariant-loop : goal.invariant-loop
invariant-loop l = after_subs_in (l.count - l.counter) l.rest ≡ after_subs_in l.count l.bytes
