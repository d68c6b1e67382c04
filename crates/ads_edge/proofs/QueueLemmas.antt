-- A queue that grows behind.
use Rattle.std.proofs.Common.{◌≡◌, ℕ, List, [], ◌∷◌, ◌++◌, sym, ◌∙◌}
use Rattle.std.proofs.lemmas.List.{append-nil}
use Rattle.ads_edge.specs.Peers.{IsLongerBy}

pub longer_same : (old new : List ℕ) → new ≡ old → IsLongerBy old new
longer_same old new e = record { more = []; behind = e ∙ sym (append-nil old) }

pub longer_one : (old new : List ℕ) (n : ℕ) → new ≡ old ++ n ∷ [] → IsLongerBy old new
longer_one old new n e = record { more = n ∷ []; behind = e }
