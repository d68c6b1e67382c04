-- A byte with one bit cleared has room for it.
use Rattle.std.proofs.Common.{ℕ, zero, suc, ◌+◌, ◌-◌, ◌*◌, ◌/◌, ◌%◌, ◌^◌, ◌<◌, arith}

pub room_for_bit : (byte bit : ℕ) → byte < 256 → bit < 8 → byte - (byte / 2 ^ bit) % 2 * 2 ^ bit + 2 ^ bit < 256
room_for_bit byte zero h b = omega arith
room_for_bit byte (suc zero) h b = omega arith
room_for_bit byte (suc (suc zero)) h b = omega arith
room_for_bit byte (suc (suc (suc zero))) h b = omega arith
room_for_bit byte (suc (suc (suc (suc zero)))) h b = omega arith
room_for_bit byte (suc (suc (suc (suc (suc zero))))) h b = omega arith
room_for_bit byte (suc (suc (suc (suc (suc (suc zero)))))) h b = omega arith
room_for_bit byte (suc (suc (suc (suc (suc (suc (suc zero))))))) h b = omega arith
room_for_bit byte (suc (suc (suc (suc (suc (suc (suc (suc n)))))))) h b = absurd (omega (arith, b))
