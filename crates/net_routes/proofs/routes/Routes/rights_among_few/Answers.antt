use Rattle.std.proofs.Common.{◌≡◌, ◌+◌, ◌≤◌, ℕ, suc, drop, length, refl, sym, ◌∙◌, ap, subst, arith}
use Rattle.std.specs.Prelude.{None, option_map}
use Rattle.std.proofs.lemmas.List.{length-map, drop_all}
use Rattle.spec_plant.specs.Rights.{rights_of}
use Rattle.type_layout.specs.Descriptions as plain
use Rattle.net_routes.specs.Shown.{shown}
use Rattle.net_routes.proofs.RouteLemmas.{walked-past, walked-to}
use Rattle.net_routes.proofs.routes.Routes.rights_among_few.Goals as goal

pub loop-i-init : goal.loop-i-init
loop-i-init c = refl

pub returns-in-Some : goal.returns-in-Some
returns-in-Some c =
    let routes = c.args.self.now in
    let there = sym c.rights_at.ensures ∙ ap (λ o. option_map plain.rights_of o) c.in-Some.is in
    sym (walked-to c.args.net.bytes routes c.loop-i.i (plain.rights_of c.in-Some.rights) there) ∙ c.loop-i.invariant

pub loop-i-preserved : goal.loop-i-preserved
loop-i-preserved c =
    let routes = c.args.self.now in
    let none = sym c.rights_at.ensures ∙ ap (λ o. option_map plain.rights_of o) c.in_default.is in
    let next : suc c.loop-i.i ≡ c.loop-i.i + 1 = omega arith in
    subst (λ (n : ℕ). rights_of c.args.net.bytes (drop n routes) ≡ rights_of c.args.net.bytes routes) next
    (walked-past c.args.net.bytes routes c.loop-i.i none ∙ c.loop-i.invariant)

pub returns : goal.returns
returns c =
    let routes = c.args.self.now in
    let size : length routes ≡ length c.self.inside.by_net.entries = sym (ap length c.self.view_is) ∙ length-map c.self.inside.by_net.entries shown in
    let past : length routes ≤ c.loop-i.i = omega (arith, size, c.len-i-end.ensures.len, c.loop-i-test.false) in
    let gone : rights_of c.args.net.bytes (drop c.loop-i.i routes) ≡ None = ap (λ rs. rights_of c.args.net.bytes rs) (drop_all c.loop-i.i routes past) in
    sym gone ∙ c.loop-i.invariant
