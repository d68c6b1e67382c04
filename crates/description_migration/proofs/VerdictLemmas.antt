-- Rules 2 to 15 say the same of a document and of the same document under schema 2.
use Rattle.std.proofs.Common.{◌≡◌, ℕ, suc, ◌≤◌, Bool, true, false, ◌&&◌, List, [], ◌∷◌, ◌++◌, length, Option, Some, None, option_map, refl, ap, ◌∙◌, arith}
use Rattle.std.specs.Prelude.{Ok, ℤ, pos, nat_lt, nat_le, not, if◌then◌else◌}
use Rattle.std.specs.List.{list_all}
use Rattle.std.proofs.lemmas.Bool.{and_parts, leb-true, le-leb}
use Rattle.toml.specs.Data.{Members}
use Rattle.spec_plant.specs.Accepted.{image_size, IMAGE_LIMIT}
use Rattle.spec_plant.specs.AcceptedTypes.{is_same_number}
use Rattle.spec_plant.specs.Description.{Description}
use Rattle.spec_rules.specs.Written.{WrittenPort, Document}
use Rattle.spec_rules.specs.Tables.{is_two, document_in}
use Rattle.spec_rules.specs.Places.{first_wrong}
use Rattle.spec_rules.specs.Described.{sizes_described, types_described, description_of}
use Rattle.spec_rules.specs.RouteRules.{wrong_schema}
use Rattle.spec_rules.specs.PortRules.{is_between, is_natural, is_port_name, image_limit, has_right_sizes, is_right_port, wrong_port}
use Rattle.spec_rules.specs.Verdict.{BrokenRule, first_broken, rules_of, judged, document_verdict, verdict_behind, table_verdict}
use Rattle.spec_rules.proofs.FirstWrong.{both_true, first_right}
use Rattle.spec_rules.proofs.TypesAccepted.{lesser-none}
use Rattle.description_migration.specs.Migration.{second_schema}
use Rattle.description_migration.proofs.SecondLemmas.{under_second, document_up}

-- no rule is broken
abbrev AllHold : List (ℕ × Option ℕ) → Type 0
AllHold [] = Unit {0}
AllHold (rule ∷ rules) = (rule.1 ≡ None) × AllHold rules

all_hold : (rules : List (ℕ × Option ℕ)) → first_broken rules ≡ None → AllHold rules
all_hold [] h = tt
all_hold ((number, None) ∷ rules) h = (refl, all_hold rules h)
all_hold ((number, Some place) ∷ rules) h = cc

none_broken : (rules : List (ℕ × Option ℕ)) → AllHold rules → first_broken rules ≡ None
none_broken [] h = refl
none_broken ((number, None) ∷ rules) h = none_broken rules h.1
none_broken ((number, Some place) ∷ rules) h = let bad = h.0 in cc

judged-ok : (o : Option BrokenRule) (d x : Description) → judged o d ≡ Ok x → (o ≡ None) × (d ≡ x)
judged-ok None d x h = let same : d ≡ x = cc in (refl, same)
judged-ok (Some fault) d x h = cc

-- the limit of schema 2 is the greatest
limit_up : (b : Bool) → (if b then IMAGE_LIMIT else 1048576) ≤ IMAGE_LIMIT
limit_up true = omega arith
limit_up false = omega arith

sizes_up : (limit : ℕ) (p : WrittenPort) → limit ≤ IMAGE_LIMIT → has_right_sizes limit p ≡ true → has_right_sizes IMAGE_LIMIT p ≡ true
sizes_up limit p most h =
    let natural = is_natural p.inputs && is_natural p.outputs && is_natural p.memory && is_natural p.process in
    let size = image_size (sizes_described p) in
    let (all, fits) = and_parts natural (nat_le size limit) h in
    let small = leb-true size limit fits in
    both_true natural (nat_le size IMAGE_LIMIT) all (le-leb size IMAGE_LIMIT (omega (arith, small, most)))

port_up : (limit : ℕ) (before : List WrittenPort) (p : WrittenPort) → limit ≤ IMAGE_LIMIT
    → is_right_port limit before p ≡ true → is_right_port IMAGE_LIMIT before p ≡ true
port_up limit before p most h =
    let facts = is_between 1 65535 p.number && list_all (λ (e : WrittenPort). not (is_same_number e.number p.number)) before
    && is_port_name p.name && (is_between 0 255 p.major && is_between 0 255 p.minor && is_between 0 65535 p.build) in
    let few = nat_le (length p.symbols) 10000 in
    let (front, count) = and_parts (facts && has_right_sizes limit p) few h in
    let (good, sizes) = and_parts facts (has_right_sizes limit p) front in
    both_true (facts && has_right_sizes IMAGE_LIMIT p) few (both_true facts (has_right_sizes IMAGE_LIMIT p) good (sizes_up limit p most sizes)) count

ports_up : (limit : ℕ) (before ps : List WrittenPort) → limit ≤ IMAGE_LIMIT
    → first_wrong (is_right_port limit) before ps ≡ None → first_wrong (is_right_port IMAGE_LIMIT) before ps ≡ None
ports_up limit before [] most h = refl
ports_up limit before (p ∷ ps) most h =
    let first = first_right (is_right_port limit) before p ps h in
    rw (port_up limit before p most (first.0)) (ap (option_map suc) (ports_up limit (before ++ p ∷ []) ps most (first.1)))

wrong_port_up : (schema : ℤ) (ps : List WrittenPort) → wrong_port schema ps ≡ None → wrong_port (pos 2) ps ≡ None
unfolding wrong_port
wrong_port_up schema ps h =
    let count = if nat_lt 0 (length ps) && nat_le (length ps) 16 then None else Some 16 in
    let both = lesser-none (first_wrong (is_right_port (image_limit schema)) [] ps) count h in
    rw (ports_up (image_limit schema) [] ps (limit_up (is_two schema)) (both.0)) (both.1)

schema_up : wrong_schema (pos 2) ≡ None
unfolding wrong_schema
schema_up = refl

-- the rules that look at the schema, and the others
rules_up : (signals : ℕ) (d : Document) → AllHold (rules_of signals d (types_described d.types))
    → AllHold (rules_of signals (under_second d) (types_described d.types))
rules_up signals d h =
    let from_4 = h.1 in
    let from_6 = from_4.1.1 in
    let from_9 = from_6.1.1.1 in
    (schema_up, (from_4.0, (from_4.1.0, (from_6.0, (from_6.1.0, (from_6.1.1.0, (wrong_port_up d.schema d.ports (from_9.0), from_9.1)))))))

document_verdict_up : (signals : ℕ) (d : Document) (x : Description) → document_verdict signals d ≡ Ok x → document_verdict signals (under_second d) ≡ Ok x
document_verdict_up signals d x h =
    let both = judged-ok (first_broken (rules_of signals d (types_described d.types))) (description_of d) x h in
    let holds = none_broken (rules_of signals (under_second d) (types_described d.types))
    (rules_up signals d (all_hold (rules_of signals d (types_described d.types)) (both.0))) in
    rw holds (ap (λ (y : Description). Ok y) (both.1))

-- the verdict under schema 2
pub table_verdict_up : (signals : ℕ) (t : Members) (x : Description) → table_verdict signals t ≡ Ok x → table_verdict signals (second_schema t) ≡ Ok x
table_verdict_up signals t x h = go (document_in t) refl h
  where
    go : (o : Option Document) → document_in t ≡ o → verdict_behind signals o ≡ Ok x → table_verdict signals (second_schema t) ≡ Ok x
    go None is e = cc
    go (Some d) is e = ap (verdict_behind signals) (document_up t d is) ∙ document_verdict_up signals d x e

-- a table of a description is a document
pub document_there : (signals : ℕ) (t : Members) (x : Description) → table_verdict signals t ≡ Ok x → (d : Document) × (document_in t ≡ Some d)
document_there signals t x h = go (document_in t) refl h
  where
    go : (o : Option Document) → document_in t ≡ o → verdict_behind signals o ≡ Ok x → (d : Document) × (document_in t ≡ Some d)
    go None is e = cc
    go (Some d) is e = (d, is)
