-- Who is admitted to a server, over two worlds with one plant and one profile.
use Rattle.std.proofs.Common.{◌≡◌, sym, ap, ◌∙◌}
use Rattle.ads_base.specs.declared.net_id.NetId.{NetId}
use Rattle.spec_plant.specs.Rights.{rights_of}
use Rattle.spec_plant.specs.World.{Plant}
use Rattle.spec_machine.specs.Profile.{Profile}
use Rattle.net_routes.specs.Admitted.{Admitted}
use Rattle.session.specs.Takes.{HasAddress}
use Rattle.server_core.specs.Served.{World}

pub same_address : (v w : World) (m n : NetId) (a b : Admitted) → w.plant ≡ v.plant → w.profile ≡ v.profile → n ≡ m → b ≡ a
    → HasAddress v m.bytes a → HasAddress w n.bytes b
same_address v w m n a b plant profile net same h = record {
  net_is = ap (λ (p : Plant). p.net) plant ∙ h.net_is ∙ sym (ap (λ (x : NetId). x.bytes) net);
  routes_are = λ k.
      ap (λ (x : Admitted). rights_of k x.routes) same ∙ h.routes_are k ∙ sym (ap (λ (p : Plant). rights_of k p.routes) plant);
  others_are = ap (λ (x : Admitted). x.others) same ∙ h.others_are ∙ sym (ap (λ (x : Profile). x.others) profile);
}
