-- What reading a file answers, where the files are told.
use Rattle.std.specs.Prelude.{◌≡◌, ℕ, List, Option, Some, None, IsSomeAnd, length, ◌<◌}
use Rattle.ads_outside.specs.declared.got.Got.{Got}
use Rattle.ads_outside.specs.declared.got.Got.TheVariants as got
use Rattle.ads_outside.specs.declared.named_file.NamedFile.{NamedFile}
use Rattle.ads_outside.specs.Limit.{file_limit}
use Rattle.ads_outside.specs.Named.{bytes_of}

-- bytes are those of the file; too long is a file above the limit; the rest says nothing of it
abbrev pub ReadsFrom : List NamedFile → List ℕ → Got → Type 0
ReadsFrom files name (got.Bytes bytes) = bytes_of files name ≡ Some bytes
ReadsFrom files name got.TooLong =
    IsSomeAnd (bytes_of files name) (λ bytes. file_limit < length bytes)
ReadsFrom files name got.Failed = Unit {0}
ReadsFrom files name got.Memory = Unit {0}

-- the same, where the files are told
abbrev pub Reads : Option (List NamedFile) → List ℕ → Got → Type 0
Reads None name answer = Unit {0}
Reads (Some files) name answer = ReadsFrom files name answer
