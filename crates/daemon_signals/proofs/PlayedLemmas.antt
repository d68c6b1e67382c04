-- Signals of tables, one more at a time.
use Rattle.std.proofs.Common.{◌≡◌, ℕ, ◌+◌, ◌<◌, List, [], ◌∷◌, ◌++◌, length, map, take, get_or, refl, subst, sym, ap, ◌∙◌}
use Rattle.std.proofs.lemmas.List.{take_more, map-append}
use Rattle.signals.specs.Wave.{Wave}
use Rattle.daemon_words.specs.declared.signal_table.SignalTable.{SignalTable}
use Rattle.daemon_signals.specs.Values.{IsPlayed, ArePlayed}

are_played_more : (ts : List SignalTable) (ws : List Wave) (t : SignalTable) (w : Wave) → ArePlayed ts ws → IsPlayed t w
    → ArePlayed (ts ++ t ∷ []) (ws ++ w ∷ [])
unfolding ArePlayed
are_played_more [] [] t w played is = (is, tt)
are_played_more [] (v ∷ ws) t w played is = elim played [ ]
are_played_more (s ∷ ts) [] t w played is = elim played [ ]
are_played_more (s ∷ ts) (v ∷ ws) t w played is = (played.0, are_played_more ts ws t w played.1 is)

-- the tables before the next one, and that one
pub played_next : {P : Type 0} (wave : P → Wave) (tables : List SignalTable) (i : ℕ) (table : SignalTable) (list new : List P) (p : P)
    → i < length tables → new ≡ list ++ p ∷ [] → ArePlayed (take i tables) (map wave list) → IsPlayed (get_or tables i table) (wave p)
    → ArePlayed (take (i + 1) tables) (map wave new)
played_next wave tables i table list new p less is played one =
    let tables_are : take (i + 1) tables ≡ take i tables ++ get_or tables i table ∷ [] = take_more tables i table less in
    let waves_are : map wave new ≡ map wave list ++ wave p ∷ [] = ap (map wave) is ∙ map-append wave list (p ∷ []) in
    subst (λ ts. ArePlayed ts (map wave new)) (sym tables_are)
    (subst (λ ws. ArePlayed (take i tables ++ get_or tables i table ∷ []) ws) (sym waves_are)
    (are_played_more (take i tables) (map wave list) (get_or tables i table) (wave p) played one))

pub none_played : {P : Type 0} (wave : P → Wave) (list : List P) → list ≡ [] → ArePlayed [] (map wave list)
unfolding ArePlayed
none_played wave list is = subst (λ l. ArePlayed [] (map wave l)) (sym is) tt
