-- Requests that are written in parts.
use Rattle.std.proofs.Common.{◌≡◌, ℕ, List, [], ◌++◌, length, sym, ap, subst, ◌∙◌}
use Rattle.std.specs.Prelude.{replicate}
use Rattle.std.proofs.lemmas.List.{append-nil}
use Rattle.spec_formats.specs.Request.{Request, Write, AddDeviceNotification, access_bytes, request_fields, request_bytes}
use Rattle.spec_formats.proofs.Appends.{two_parts, three_parts}

-- the payload of a Write: the access, and its data
pub write_parts : (r : Request) (old : List ℕ) (group offset : ℕ) (bytes first second : List ℕ) → r ≡ Write group offset bytes
    → first ≡ old ++ access_bytes group offset (length bytes) → second ≡ first ++ bytes → second ≡ old ++ request_bytes r
write_parts r old group offset bytes first second is e f =
    let fields = request_fields (Write group offset bytes) in
    let written : second ≡ old ++ (fields ++ []) =
    two_parts old (access_bytes group offset (length bytes)) bytes first second e f ∙ ap (λ (l : List ℕ). old ++ l) (sym (append-nil fields)) in
    subst (λ (x : Request). second ≡ old ++ request_bytes x) (sym is) written

-- the payload of an addition: the access, three further numbers, and zeros
pub addition_parts : (r : Request) (old : List ℕ) (group offset len mode delay cycle : ℕ) (first second third : List ℕ)
    → r ≡ AddDeviceNotification group offset len mode delay cycle
    → first ≡ old ++ access_bytes group offset len → second ≡ first ++ access_bytes mode delay cycle → third ≡ second ++ replicate 16 0
    → third ≡ old ++ request_bytes r
addition_parts r old group offset len mode delay cycle first second third is e f g =
    let written = three_parts old (access_bytes group offset len) (access_bytes mode delay cycle) (replicate 16 0) first second third e f g in
    subst (λ (x : Request). third ≡ old ++ request_bytes x) (sym is) written
