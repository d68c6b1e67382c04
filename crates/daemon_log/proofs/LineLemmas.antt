-- What a log holds after a line and after a flush.
use Rattle.std.proofs.Common.{◌≡◌, ◌⊎◌, inl, inr, ℕ, List, [], ◌∷◌, ◌++◌, take, drop, refl, ap, sym, ◌∙◌, subst, append-nil}
use Rattle.std.proofs.lemmas.List.{append_assoc, take-append-drop}
use Rattle.std.specs.Prelude.{true, false, Option, Some, None}
use Rattle.ads_outside.specs.Rose.{raised}
use Rattle.daemon_log.specs.Lines.{HeldLines, Line, IsLog, texts_of, bytes_of_kept, lost_of}

-- a line that is kept
pub log_kept : (told : List (List ℕ)) (given line : List ℕ) (old : HeldLines) → IsLog told given old
    → IsLog (told ++ line ∷ []) given (record old { waits = old.waits ++ line })
log_kept told given line old log = record {
  lines = record { text = line; kept = true } ∷ log.lines;
  texts = ap (λ ts. ts ++ line ∷ []) log.texts;
  whole = sym (append_assoc given old.waits line) ∙ ap (λ bs. bs ++ line) log.whole;
  lost = log.lost;
}

-- a line that is lost
pub log_lost : (told : List (List ℕ)) (given line : List ℕ) (old : HeldLines) → IsLog told given old
    → IsLog (told ++ line ∷ []) given (record old { lost = raised old.lost })
log_lost told given line old log = record {
  lines = record { text = line; kept = false } ∷ log.lines;
  texts = ap (λ ts. ts ++ line ∷ []) log.texts;
  whole = log.whole;
  lost = ap raised log.lost;
}

pub log_after : (told : List (List ℕ)) (given line : List ℕ) (old new : HeldLines)
    → (new ≡ record old { waits = old.waits ++ line }) ⊎ (new ≡ record old { lost = raised old.lost })
    → IsLog told given old → IsLog (told ++ line ∷ []) given new
log_after told given line old new (inl is) log = subst (IsLog (told ++ line ∷ []) given) (sym is) (log_kept told given line old log)
log_after told given line old new (inr is) log = subst (IsLog (told ++ line ∷ []) given) (sym is) (log_lost told given line old log)

-- so many bytes are given
pub log_given : (told : List (List ℕ)) (given : List ℕ) (n : ℕ) (old new : HeldLines) → new ≡ record old { waits = drop n old.waits }
    → IsLog told given old → IsLog told (given ++ take n old.waits) new
log_given told given n old new is log = subst (IsLog told (given ++ take n old.waits)) (sym is) (record {
  lines = log.lines;
  texts = log.texts;
  whole = append_assoc given (take n old.waits) (drop n old.waits) ∙ (ap (λ bs. given ++ bs) (take-append-drop n old.waits) ∙ log.whole);
  lost = log.lost;
})
