-- Why an address can't be used, in words. This project's own choice: the words of Rust's io::ErrorKind where it has one.
use Rattle.std.specs.Prelude.{ℕ, ℤ, List, ◌++◌, codes, Option, Some, unsigned_abs}
use Rattle.std.specs.Fmt.{decimal}
use Rattle.std.specs.declared.io.ErrorKind.{ErrorKind}
use Rattle.std.specs.declared.io.ErrorKind.TheVariants as kind
use Rattle.ads_edge.specs.declared.refusal.Refusal.{Refusal}
use Rattle.ads_edge.specs.declared.refusal.Refusal.TheVariants as refusal

-- what the system answered: the kind of its error, or its number where that has no kind
abbrev pub refusal_of : ErrorKind → Option ℤ → Refusal
refusal_of kind.Uncategorized (Some number) = refusal.Number (unsigned_abs number)
refusal_of k number = refusal.Kind k

-- a kind of error; a sending that takes no byte for so long that it gives up would block
abbrev pub kind_words : ErrorKind → List ℕ
kind_words kind.PermissionDenied = codes "permission denied"
kind_words kind.ConnectionRefused = codes "connection refused"
kind_words kind.ConnectionReset = codes "connection reset"
kind_words kind.ConnectionAborted = codes "connection aborted"
kind_words kind.NotConnected = codes "not connected"
kind_words kind.BrokenPipe = codes "broken pipe"
kind_words kind.HostUnreachable = codes "host unreachable"
kind_words kind.NetworkUnreachable = codes "network unreachable"
kind_words kind.NetworkDown = codes "network down"
kind_words kind.AddrInUse = codes "address in use"
kind_words kind.AddrNotAvailable = codes "address not available"
kind_words kind.TimedOut = codes "timed out"
kind_words kind.WouldBlock = codes "timed out"
kind_words kind.InvalidInput = codes "invalid input"
kind_words kind.Unsupported = codes "unsupported"
kind_words kind.OutOfMemory = codes "out of memory"
kind_words _ = codes "refused by the system"

-- a reason
abbrev pub refusal_words : Refusal → List ℕ
refusal_words refusal.NoAddress = codes "no IP address and port"
refusal_words (refusal.Kind k) = kind_words k
refusal_words (refusal.Number number) = codes "system error " ++ decimal number
refusal_words refusal.NoTime = codes "no time from the system's clock"

-- the line on standard error, which a line feed ends
abbrev pub refusal_line : List ℕ → List ℕ → Refusal → List ℕ
refusal_line program place r = program ++ codes ": " ++ place ++ codes ": " ++ refusal_words r
