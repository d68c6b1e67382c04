-- The manner that the code's value means.
use Rattle.std.specs.Prelude.{Bool, true, false}
use Rattle.spec_machine.specs.Manner as machine
use Rattle.port_device.specs.declared.manner.Manner.{Manner}
use Rattle.port_device.specs.declared.manner.Manner.TheVariants.{Strict, Wide}

abbrev pub manner_of : Manner → machine.Manner
manner_of Strict = machine.Strict
manner_of Wide = machine.Wide

abbrev pub is_wide : machine.Manner → Bool
is_wide machine.Strict = false
is_wide machine.Wide = true
