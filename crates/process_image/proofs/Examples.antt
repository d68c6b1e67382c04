-- Worked examples: bytes of which a part is written anew, numbers in their bytes, and walks.
use Rattle.std.specs.Prelude.{◌≡◌, [], ◌∷◌, negsuc, refl}
use Rattle.std.specs.Int.{w8, w32, bytes_low_first, cast_unsigned}
use Rattle.std.proofs.Common.{arith}
use Rattle.process_image.specs.Bytes.{with_part, after_loan}
use Rattle.process_image.specs.Spans.{IsWalk}
use Rattle.process_image.specs.Walked.{walked}

part-written : with_part (1 ∷ 2 ∷ 3 ∷ 4 ∷ []) 1 2 (8 ∷ 9 ∷ []) ≡ 1 ∷ 8 ∷ 9 ∷ 4 ∷ []
part-written = refl

part-lent : after_loan (1 ∷ 2 ∷ 3 ∷ 4 ∷ []) 1 2 (8 ∷ 9 ∷ []) ≡ 1 ∷ 8 ∷ 9 ∷ 4 ∷ []
part-lent = refl

minus_two : bytes_low_first 0 4 (cast_unsigned w32 (negsuc 1)) ≡ 254 ∷ 255 ∷ 255 ∷ 255 ∷ []
minus_two = refl

minus_one : bytes_low_first 0 1 (cast_unsigned w8 (negsuc 0)) ≡ 255 ∷ []
minus_one = refl

three_parts : IsWalk (record { at = 0; len = 2 } ∷ record { at = 2; len = 0 } ∷ record { at = 5; len = 3 } ∷ []) 0 8
three_parts = (omega arith, (omega arith, (omega arith, omega arith)))

two_parts_walked : walked (1 ∷ 2 ∷ 3 ∷ 4 ∷ []) (record { at = 0; len = 1 } ∷ record { at = 2; len = 2 } ∷ []) ((7 ∷ []) ∷ (8 ∷ 9 ∷ []) ∷ [])
    ≡ 7 ∷ 2 ∷ 8 ∷ 9 ∷ []
two_parts_walked = refl
