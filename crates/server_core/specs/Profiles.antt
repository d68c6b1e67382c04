-- The profile that the code's value means.
use Rattle.std.specs.Prelude.{option_map}
use Rattle.spec_machine.specs.Profile as machine
use Rattle.type_layout.specs.Descriptions.{rights_of}
use Rattle.port_device.specs.Manners.{manner_of}
use Rattle.server_core.specs.declared.profile.Profile.{Profile}

abbrev pub profile_of : Profile → machine.Profile
profile_of p = record { manner = manner_of p.manner; others = option_map rights_of p.others }
