use Rattle.server_core.proofs.core_for_loop.CoreServed.step.Goals as goal

pub step-requires-sync-T : goal.step-requires-sync-T
step-requires-sync-T g c = λ κs outlives. record { shared = c.requires.shared }
