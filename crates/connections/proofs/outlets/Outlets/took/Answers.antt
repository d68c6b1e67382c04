use Rattle.std.proofs.Common.{◌≡◌, ◌≤◌, ◌<◌, ℕ, List, length, Some, None, refl, sym, subst}
use Rattle.std.specs.Prelude.{IsSomeAnd}
use Rattle.connections.specs.Outlets.{Outlets, outlet_at, taken, offer_of_outlet, offers_of_outlet, offers_among}
use Rattle.connections.proofs.TouchedLemmas.{idle_set}
use Rattle.connections.proofs.OfferLemmas.{fits_first, fewer_left}
use Rattle.connections.proofs.OutletLemmas.{read_at, read_absent, read_changed, set_of, unchanged_of}
use Rattle.connections.proofs.outlets.Outlets.took.Goals as goal

pub took-requires : goal.took-requires
took-requires c =
    let o = c.index_mut-outlet.result.now in
    let here = subst (λ (es : Outlets). outlet_at es c.in-Some.i ≡ Some o) c.self.view_is c.index_mut-outlet.ensures.value in
    let read = read_at offer_of_outlet None c.args.self.now c.args.number c.in-Some.i o c.in-Some.ensures.found here in
    fits_first c.args.n o.blocked o.out (subst (λ p. IsSomeAnd p (λ (left : List ℕ). c.args.n ≤ length left)) read c.requires)

pub invariant_of-self : goal.invariant_of-self
invariant_of-self c =
    idle_set c.self.inside.touched c.with-self-inside.result c.self.inside.entries.entries c.in-Some.i c.took.new.self
    c.self.invariant c.with-self-inside.ensures

pub returns-in-Some-clause-taken : goal.returns-in-Some-clause-taken
returns-in-Some-clause-taken c =
    set_of (taken c.args.n) c.self.inside.entries.entries c.args.self.now c.args.number c.in-Some.i c.index_mut-outlet.result.now c.took.new.self
    c.self.view_is c.in-Some.ensures.found c.index_mut-outlet.ensures.value c.took.ensures

pub returns-in-Some-clause-fewer : goal.returns-in-Some-clause-fewer
returns-in-Some-clause-fewer c =
    let o = c.index_mut-outlet.result.now in
    let n = c.args.n in
    let seen = c.args.self.now in
    let number = c.args.number in
    let place = c.in-Some.ensures.found in
    let here = subst (λ (es : Outlets). outlet_at es c.in-Some.i ≡ Some o) c.self.view_is c.index_mut-outlet.ensures.value in
    let read = read_at offer_of_outlet None seen number c.in-Some.i o place here in
    let before = read_at offers_of_outlet 0 seen number c.in-Some.i o place here in
    let after = read_changed offers_of_outlet 0 (taken n) seen number c.in-Some.i o place here in
    let p = taken n o in
    let less = fewer_left n o.blocked p.blocked o.out p.out (subst (λ q. IsSomeAnd q (λ (left : List ℕ). n ≤ length left)) read c.requires) refl refl in
    let new = set_of (taken n) c.self.inside.entries.entries seen number c.in-Some.i o c.took.new.self
    c.self.view_is place c.index_mut-outlet.ensures.value c.took.ensures in
    subst (λ (es : Outlets). offers_among es number < offers_among seen number) (sym new)
    (subst (λ (m : ℕ). m < offers_among seen number) (sym after) (subst (λ (m : ℕ). offers_of_outlet p < m) (sym before) less))

pub returns-in_default-clause-taken : goal.returns-in_default-clause-taken
returns-in_default-clause-taken c = sym (unchanged_of (taken c.args.n) c.args.self.now c.args.number c.in_default.ensures.absent)

pub returns-in_default-clause-fewer : goal.returns-in_default-clause-fewer
returns-in_default-clause-fewer c =
    absurd (subst (λ p. IsSomeAnd p (λ (left : List ℕ). c.args.n ≤ length left))
    (read_absent offer_of_outlet None c.args.self.now c.args.number c.in_default.ensures.absent) c.requires)
