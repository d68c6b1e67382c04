-- Files by their names.
use Rattle.std.specs.Prelude.{ℕ, List, [], ◌∷◌, Option, Some, None, if◌then◌else◌}
use Rattle.std.specs.Str.{bytes_eq}
use Rattle.ads_outside.specs.declared.named_file.NamedFile.{NamedFile}

-- the bytes of the file with this name: the first that has it
abbrev pub bytes_of : List NamedFile → List ℕ → Option (List ℕ)
bytes_of [] name = None
bytes_of (file ∷ files) name =
    if bytes_eq file.name name then Some file.bytes else bytes_of files name
