use Rattle.std.proofs.Common.{◌≡◌, ◌<◌, ◌^◌, take}
use Rattle.std.specs.Str.Parse.{digits_value, AllDigits}
use Rattle.ads_base.proofs.decimal.read_decimal.Given as goal

-- the bytes so far are digits, and this is their number
abbrev pub invariant-loop-byte : goal.invariant-loop-byte
invariant-loop-byte l = record {
  value : l.value ≡ digits_value 10 (take l.byte-index l.text);
  small : l.value < 2 ^ 64;
  digits : AllDigits 10 (take l.byte-index l.text);
}
