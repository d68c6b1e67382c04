-- The ends of a run before anything but its files is called.
use Rattle.run_tasks.specs.declared.status.Status.{Status}
use Rattle.run_tasks.specs.declared.status.Status.TheVariants as status

-- the words, the description or the script decided, or a file could not be read
abbrev pub IsBeforeRun : Status → Type 0
IsBeforeRun status.Usage = Unit {0}
IsBeforeRun (status.BadDescription rule item) = Unit {0}
IsBeforeRun (status.BadScript n) = Unit {0}
IsBeforeRun status.ReadFault = Unit {0}
IsBeforeRun status.TooLong = Unit {0}
IsBeforeRun s = ⊥
