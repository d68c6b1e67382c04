-- Which files of a daemon may be one. This project's own choice.
use Rattle.std.specs.Prelude.{ℕ, List, Bool, true, false, ◌&&◌, ◌||◌, not, bytes_eq}
use Rattle.daemon_outside.specs.Places.{are_one}
use Rattle.daemon_words.specs.declared.file_use.FileUse.{FileUse}
use Rattle.daemon_words.specs.declared.file_use.FileUse.TheVariants.{Store, KeptDescription, Status, Signal}
use Rattle.daemon_words.specs.declared.file_list.FileNamed.{FileNamed}

-- the values of a signal are read of it
abbrev pub is_input : FileUse → Bool
is_input (Signal n) = true
is_input _ = false

-- the daemon writes it as it goes
abbrev pub is_written : FileUse → Bool
is_written Store = true
is_written KeptDescription = true
is_written Status = true
is_written _ = false

-- two may be one file: one of them is a signal's, and the other is not written
abbrev pub may_share : FileUse → FileUse → Bool
may_share a b = is_input a && not (is_written b) || is_input b && not (is_written a)

-- two are one file by a slip: they may not be one, and have one name or one place
abbrev pub is_slip : FileNamed → FileNamed → Bool
is_slip a b = not (may_share a.kind b.kind) && (bytes_eq a.name b.name || are_one a.place b.place)
