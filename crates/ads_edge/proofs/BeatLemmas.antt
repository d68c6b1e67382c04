-- A tick's moment lies a whole number of beats behind the last one's.
use Rattle.std.proofs.Common.{◌≡◌, ℕ, ◌+◌, ◌-◌, ◌*◌, ◌/◌, ◌%◌, ◌^◌, ◌<◌, refl, true, false, arith}
use Rattle.std.specs.Prelude.{Bool, nat_lt, cond}
use Rattle.std.proofs.lemmas.Bool.{ltb-true}
use Rattle.std.proofs.Math.Nat.{mod-add-div}
use Rattle.ads_edge.specs.declared.beats.Beats.{Beats}
use Rattle.ads_edge.specs.Beats.{IsBeatsAfter, followed, gained, later_by, moment_at}

-- where the end is not reached, so many beats have passed
later_exact : (before n : ℕ) → later_by before n < 2 ^ 64 - 1 → later_by before n ≡ before + n * 100_000
later_exact before n short = omega (arith, short)

-- the wall clock is followed by whole beats, whatever the test of it gave
followed_at : (moment wall : ℕ) (ahead : Bool) → nat_lt 10_000_000 (wall - moment) ≡ ahead
    → (n : ℕ) × (cond ahead (wall - (wall - moment) % 100_000) moment ≡ moment + n * 100_000)
followed_at moment wall false e = (0, omega arith)
followed_at moment wall true e =
    let far : 10_000_000 < wall - moment = ltb-true 10_000_000 (wall - moment) e in
    let parts : (wall - moment) % 100_000 + 100_000 * ((wall - moment) / 100_000) ≡ wall - moment = mod-add-div (wall - moment) 100_000 in
    ((wall - moment) / 100_000, omega (arith, far, parts))

followed_whole : (moment wall : ℕ) → (n : ℕ) × (followed moment wall ≡ moment + n * 100_000)
followed_whole moment wall = followed_at moment wall (nat_lt 10_000_000 (wall - moment)) refl

-- the beats that passed and those that were followed
together : (before passed later moment more : ℕ) → 0 < passed → later ≡ before + passed * 100_000 → moment ≡ later + more * 100_000
    → (n : ℕ) × (0 < n) × (moment ≡ before + n * 100_000)
together before passed later moment more some e f = (passed + more, omega (arith, some), omega (arith, e, f))

below : (later moment more : ℕ) → moment ≡ later + more * 100_000 → moment < 2 ^ 64 - 1 → later < 2 ^ 64 - 1
below later moment more e short = omega (arith, e, short)

pub whole_beats : (b : Beats) (beat wall : ℕ) → 0 < gained b beat wall → IsBeatsAfter b.moment (moment_at b beat wall)
whole_beats b beat wall some short =
    let passed : ℕ = gained b beat wall in
    let later : ℕ = later_by b.moment passed in
    let more : (n : ℕ) × (followed later wall ≡ later + n * 100_000) = followed_whole later wall in
    let under : later < 2 ^ 64 - 1 = below later (moment_at b beat wall) more.0 more.1 short in
    together b.moment passed later (moment_at b beat wall) more.0 some (later_exact b.moment passed under) more.1
