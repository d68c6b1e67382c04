-- The server that words ask for.
use Rattle.daemon_words.specs.declared.others_word.OthersWord.{OthersWord}
use Rattle.daemon_words.specs.declared.others_word.OthersWord.TheVariants as word
use Rattle.daemon_words.specs.declared.profile_word.ProfileWord.{ProfileWord}
use Rattle.daemon_words.specs.declared.profile_word.ProfileWord.TheVariants as profile
use Rattle.port_device.specs.declared.manner.Manner.{Manner}
use Rattle.port_device.specs.declared.manner.Manner.TheVariants as manner
use Rattle.type_layout.specs.declared.description.Rights.{Rights}
use Rattle.type_layout.specs.declared.description.Rights.TheVariants as rights

-- how requests are taken
abbrev pub manner_said : ProfileWord → Manner
manner_said profile.Wide = manner.Wide
manner_said profile.Strict = manner.Strict

-- what each machine without a route may do
abbrev pub rights_said : OthersWord → Rights
rights_said word.Read = rights.Read
rights_said word.Write = rights.Write
