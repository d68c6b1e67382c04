-- A code's number. Beckhoff Information System, "ADS Return Codes".
use Rattle.std.specs.Prelude.{◌≡◌, ℕ, Option, Some, List, [], ◌∷◌, ◌++◌, true, ◌==◌, find, codes, unwrap_or, option_map}
use Rattle.std.specs.Fmt.{digits}
use Rattle.return_codes.specs.declared.code.Code.{Code}
use Rattle.return_codes.specs.declared.code.Code.TheVariants.{C6, C7, C8, CB, CE, C700, C701, C702, C703, C704}
use Rattle.return_codes.specs.declared.code.Code.TheVariants.{C705, C706, C710, C711, C713, C714, C716, C717}
use Rattle.return_codes.specs.declared.code.Code.TheVariants.{C744, C745, C754}
use Rattle.spec_formats.specs.Codes.{text_of_code, target_port_not_found, target_machine_not_found}
use Rattle.spec_formats.specs.Codes.{unknown_command_id, unknown_ams_command, invalid_ams_length}
use Rattle.spec_formats.specs.Codes.{general_device_error, service_not_supported, invalid_group}
use Rattle.spec_formats.specs.Codes.{invalid_offset, not_permitted, invalid_size, invalid_value}
use Rattle.spec_formats.specs.Codes.{symbol_not_found, symbol_version_invalid, mode_not_supported}
use Rattle.spec_formats.specs.Codes.{notification_handle_invalid, no_more_notifications, watch_too_big}
use Rattle.spec_formats.specs.Codes.{invoke_id_in_use, timeout_elapsed, invalid_response}

abbrev pub number_of : Code → ℕ
number_of C6 = target_port_not_found
number_of C7 = target_machine_not_found
number_of C8 = unknown_command_id
number_of CB = unknown_ams_command
number_of CE = invalid_ams_length
number_of C700 = general_device_error
number_of C701 = service_not_supported
number_of C702 = invalid_group
number_of C703 = invalid_offset
number_of C704 = not_permitted
number_of C705 = invalid_size
number_of C706 = invalid_value
number_of C710 = symbol_not_found
number_of C711 = symbol_version_invalid
number_of C713 = mode_not_supported
number_of C714 = notification_handle_invalid
number_of C716 = no_more_notifications
number_of C717 = watch_too_big
number_of C744 = invoke_id_in_use
number_of C745 = timeout_elapsed
number_of C754 = invalid_response

-- the codes in the order of the table
abbrev pub all_codes : List Code
all_codes = C6 ∷ C7 ∷ C8 ∷ CB ∷ CE ∷ C700 ∷ C701 ∷ C702 ∷ C703 ∷ C704 ∷ C705
    ∷ C706 ∷ C710 ∷ C711 ∷ C713 ∷ C714 ∷ C716 ∷ C717 ∷ C744 ∷ C745 ∷ C754 ∷ []

-- the code that has this number
abbrev pub code_of : ℕ → Option Code
code_of number = find (λ code. number_of code == number) all_codes

-- the text of the table
abbrev pub text_of : Code → List ℕ
text_of code = unwrap_or (text_of_code (number_of code)) []

-- what is printed: the number in upper-case hexadecimal digits, a space, and the text
abbrev pub shown : Code → List ℕ
shown code = codes "0x" ++ digits 16 true (number_of code) ++ codes " " ++ text_of code

-- a code and its number name one another
abbrev pub AreInverse : Type 0
AreInverse = ((code : Code) → code_of (number_of code) ≡ Some code)
    × ((n : ℕ) (code : Code) → code_of n ≡ Some code → number_of code ≡ n)

-- a number has a code where it has a text
abbrev pub HasCodeWhereText : Type 0
HasCodeWhereText = (n : ℕ) → text_of_code n ≡ option_map text_of (code_of n)
