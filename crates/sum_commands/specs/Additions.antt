-- Additions of notifications as parts of a sum. No public clause cites it.
use Rattle.std.specs.Prelude.{ℕ, List, Bool, true, false}
use Rattle.spec_formats.specs.Numbers.{number32}
use Rattle.spec_formats.specs.Request.{Request, AddDeviceNotification}
use Rattle.sum_commands.specs.declared.form.Form.{Form}
use Rattle.sum_commands.specs.declared.form.Form.TheVariants as form

-- a sum of this form is of additions
abbrev pub is_of_additions : Form → Bool
is_of_additions form.Additions = true
is_of_additions form.ShortAdditions = true
is_of_additions _ = false

-- the addition of a head
abbrev pub addition_of : List ℕ → Request
addition_of head =
    AddDeviceNotification (number32 0 head) (number32 4 head) (number32 8 head) (number32 12 head) (number32 16 head)
    (number32 20 head)
