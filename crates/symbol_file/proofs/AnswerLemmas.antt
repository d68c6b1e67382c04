-- What the reader's answers are.
use Rattle.std.proofs.Common.{◌≡◌, ℕ, ◌<◌, ◌≤◌, List, length, refl, sym, ap, ◌∙◌, Option, Some, None, inl, inr, arith}
use Rattle.std.specs.Prelude.{Result, Ok, Err, nat_lt, IfOk}
use Rattle.std.specs.Str.{is_utf8, IsUtf8}
use Rattle.std.proofs.lemmas.Bool.{cases_Bool, ltb-true, ltb-false}
use Rattle.std.proofs.lemmas.Str.{IsUtf8-from_is_utf8, is_utf8-from_IsUtf8}
use Rattle.toml.specs.Data.{Members}
use Rattle.toml.specs.Parse.{parse_document}
use Rattle.spec_plant.specs.Description.{Description}
use Rattle.spec_plant.specs.Accepted.{IsAccepted}
use Rattle.spec_rules.specs.Verdict.{BrokenRule, table_verdict}
use Rattle.spec_rules.specs.TextVerdict.{DESCRIPTION_LIMIT, Described, Breaks, text_verdict, verdict_of_rules, verdict_of_document, document_of}
use Rattle.spec_rules.proofs.Accepts.{table_verdict-accepted}
use Rattle.type_layout.specs.Descriptions.{description_of}
use Rattle.type_layout.specs.declared.description.Description as layout
use Rattle.symbol_file.specs.declared.fault.DescFault.{DescFault}
use Rattle.symbol_file.specs.Reading.{answer_of, IsVerdict}

described-accepted : (signals : ℕ) (table : Members) (x : Description) → verdict_of_rules (table_verdict signals table) ≡ Described x → IsAccepted x signals
described-accepted signals table x h = go (table_verdict signals table) refl h
  where
    go : (r : Result Description BrokenRule) → table_verdict signals table ≡ r → verdict_of_rules r ≡ Described x → IsAccepted x signals
    go (Ok y) is e = table_verdict-accepted signals table x (is ∙ ap Ok (let same : y ≡ x = cc in same))
    go (Err fault) is e = cc

pub answer-accepted : (signals : ℕ) (table : Members) (answer : Result layout.Description DescFault)
    → answer_of answer ≡ verdict_of_rules (table_verdict signals table)
    → IfOk answer (λ d. IsAccepted (description_of d) signals)
answer-accepted signals table (Ok d) e = described-accepted signals table (description_of d) (sym e)
answer-accepted signals table (Err fault) e = tt

-- the document that bytes are
pub document_of-some : (bytes : List ℕ) (table : Members) → IsUtf8 bytes → parse_document bytes ≡ Some table → Some table ≡ document_of bytes
document_of-some bytes table utf8 parsed =
    let t = is_utf8-from_IsUtf8 bytes utf8 in
    rw (t, parsed) refl

pub document_of-none : (bytes : List ℕ) → (IsUtf8 bytes → parse_document bytes ≡ None) → None ≡ document_of bytes
document_of-none bytes none =
    elim (cases_Bool (is_utf8 bytes)) [
      | inl t ↦ let unread = none (IsUtf8-from_is_utf8 bytes t) in rw (t, unread) refl
      | inr t ↦ rw t refl
    ]

-- rule 1
pub text_verdict-long : (signals : ℕ) (bytes : List ℕ) → DESCRIPTION_LIMIT < length bytes → Breaks 1 0 ≡ text_verdict signals bytes
unfolding text_verdict
text_verdict-long signals bytes long =
    elim (cases_Bool (nat_lt DESCRIPTION_LIMIT (length bytes))) [
      | inl t ↦ rw t refl
      | inr t ↦ let small = ltb-false DESCRIPTION_LIMIT (length bytes) t in absurd (omega arith)
    ]

pub text_verdict-short : (signals : ℕ) (bytes : List ℕ) (document : Option Members) → length bytes ≤ DESCRIPTION_LIMIT → document ≡ document_of bytes
    → verdict_of_document signals document ≡ text_verdict signals bytes
unfolding text_verdict
text_verdict-short signals bytes document short is =
    elim (cases_Bool (nat_lt DESCRIPTION_LIMIT (length bytes))) [
      | inl t ↦ let long = ltb-true DESCRIPTION_LIMIT (length bytes) t in absurd (omega arith)
      | inr t ↦ rw t (ap (verdict_of_document signals) is)
    ]

pub verdict-behind : {E : Type 0} (signals : ℕ) (bytes : List ℕ) (table : Members) (r : Result (Result layout.Description DescFault) E)
    → length bytes ≤ DESCRIPTION_LIMIT
    → Some table ≡ document_of bytes → IfOk r (λ answer. answer_of answer ≡ verdict_of_rules (table_verdict signals table)) → IfOk r (IsVerdict signals bytes)
verdict-behind signals bytes table (Ok answer) short is e = e ∙ text_verdict-short signals bytes (Some table) short is
verdict-behind signals bytes table (Err error) short is e = tt

pub accepted-behind : {E : Type 0} (signals : ℕ) (table : Members) (r : Result (Result layout.Description DescFault) E)
    → IfOk r (λ answer. answer_of answer ≡ verdict_of_rules (table_verdict signals table))
    → IfOk r (λ answer. IfOk answer (λ d. IsAccepted (description_of d) signals))
accepted-behind signals table (Ok answer) e = answer-accepted signals table answer e
accepted-behind signals table (Err error) e = tt
