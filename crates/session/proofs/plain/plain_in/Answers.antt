use Rattle.std.proofs.Common.{List, ℕ, length, rules, sym, ◌∙◌, ap, subst}
use Rattle.std.specs.Prelude.{IsTrue, option_map}
use Rattle.type_layout.specs.Descriptions.{rights_of}
use Rattle.session.specs.Plain.{IsPlainPayload}
use Rattle.session.proofs.plain.plain_in.Goals as goal

pub returns-in-Some-Some : goal.returns-in-Some-Some
returns-in-Some-Some c =
    let passed : IsTrue c.passes.result = search rules in
    let pay = c.payload_in-payload.ensures in
    let P : List ℕ → Type 0 = λ p. IsPlainPayload c.header_in-h.result.command p c.in-Some-Some.kind in
    record {
      header = c.header_in-h.ensures.header;
      passes = c.passes.ensures passed c.args.ams.now (ap length pay);
      rights_are = sym (ap (λ o. option_map rights_of o) c.in-Some-Some.is-0) ∙ c.rights.ensures;
      payload = subst P pay c.in-Some-Some.ensures';
    }
