-- One type more.
use Rattle.std.proofs.Common.{rules, ◌≡◌, ℕ, ◌+◌, ◌<◌, ◌≤◌, List, [], ◌∷◌, ◌++◌, length, sym, ◌∙◌, ap, subst, arith}
use Rattle.std.specs.Prelude.{Option}
use Rattle.std.proofs.lemmas.List.{length-map}
use Rattle.type_layout.specs.NamedTypes.{types_of, named_type_of}
use Rattle.type_layout.specs.SameShapes.{ArePartners}
use Rattle.type_layout.proofs.Places.{read_at}
use Rattle.type_layout.proofs.Partners.{partners_more, none_yet}
use Rattle.type_layout.proofs.same_types.partners_of.Goals as goal

pub loop-named-init : goal.loop-named-init
loop-named-init c =
    let P : List (Option ℕ) → Type 0 = λ ps. ArePartners (types_of c.args.old.now) (types_of c.args.new.now) 0 ps in
    let none : c.new-partners.result.items ≡ [] = search rules in
    subst P (sym none) (none_yet (types_of c.args.old.now) (types_of c.args.new.now))

pub partner_of-partner-requires : goal.partner_of-partner-requires
partner_of-partner-requires c =
    let count = c.requires.new.count in
    let same = length-map c.args.new.now named_type_of in
    omega (arith, count, same)

pub loop-named-preserved : goal.loop-named-preserved
loop-named-preserved c =
    let old = types_of c.args.old.now in
    let new = types_of c.args.new.now in
    let i = c.loop-named.named-index in
    let before = c.loop-named.partners.items in
    let seen : c.as_slice.result.now ≡ before = search rules in
    let A : List (Option ℕ) → Type 0 = λ ps. ArePartners old new i ps in
    let are : ArePartners old new i c.as_slice.result.now = subst A (sym seen) c.loop-named.invariant in
    let there = read_at named_type_of c.args.old.now i c.named-item.result c.loop-named-test.true c.named-item.is in
    let more = partners_more old new i c.as_slice.result.now (named_type_of c.named-item.result)
    c.partner_of-partner.result c.requires.old c.requires.new are there c.partner_of-partner.ensures in
    let grown : c.push.new.self.items ≡ before ++ c.partner_of-partner.result ∷ [] = search rules in
    let P : List (Option ℕ) → Type 0 = λ ps. ArePartners old new (i + 1) ps in
    subst P (ap (λ ps. ps ++ c.partner_of-partner.result ∷ []) seen ∙ sym grown) more

pub returns : goal.returns
returns c =
    let past = c.loop-named-test.false in
    let count = length-map c.args.old.now named_type_of in
    let P : ℕ → Type 0 = λ n. ArePartners (types_of c.args.old.now) (types_of c.args.new.now) n c.loop-named.partners.items in
    let all : c.loop-named.named-index ≡ length (types_of c.args.old.now) = search rules in
    subst P all c.loop-named.invariant
