-- What a bank is known by: the waves of its signals, in order.
use Rattle.std.specs.Prelude.{List, map}
use Rattle.std.specs.declared.alloc.Global.{Global}
use Rattle.std.specs.declared.dyn_box.DynBox.{DynBox}
use Rattle.signals.specs.declared.bank.Bank.{Bank}
use Rattle.signals.specs.Wave.{Wave}

-- the waves of a bank, where `wave` is the wave of one boxed signal
abbrev pub waves_of : {X : Type 0} {F : X → Type 0} → (DynBox X Global F → Wave) → Bank X F → List Wave
waves_of wave bank = map wave bank.signals.items
