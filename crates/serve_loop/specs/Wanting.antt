-- Why a call answered that memory was wanting.
use Rattle.std.specs.Prelude.{◌⊎◌}
use Rattle.ads_outside.specs.Rose.{Rose}
use Rattle.ads_outside.specs.WireState.{WireState}

-- a call of the wire wanted memory, or what is served was refused it: nothing else
abbrev pub WasWanting : Type 0 → WireState → WireState → Type 0
WasWanting has_failed old new = Rose old.wants new.wants ⊎ has_failed
