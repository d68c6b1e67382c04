-- The return codes that this server and its client name. Beckhoff Information System, "ADS Return Codes".
use Rattle.std.specs.Prelude.{ℕ, List, [], ◌∷◌, Option, Some, None, ◌==◌, if◌then◌else◌, codes}

abbrev pub no_error : ℕ
no_error = 0

abbrev pub target_port_not_found : ℕ
target_port_not_found = 6

abbrev pub target_machine_not_found : ℕ
target_machine_not_found = 7

abbrev pub unknown_command_id : ℕ
unknown_command_id = 8

abbrev pub unknown_ams_command : ℕ
unknown_ams_command = 0xB

abbrev pub invalid_ams_length : ℕ
invalid_ams_length = 0xE

abbrev pub general_device_error : ℕ
general_device_error = 0x700

abbrev pub service_not_supported : ℕ
service_not_supported = 0x701

abbrev pub invalid_group : ℕ
invalid_group = 0x702

abbrev pub invalid_offset : ℕ
invalid_offset = 0x703

abbrev pub not_permitted : ℕ
not_permitted = 0x704

abbrev pub invalid_size : ℕ
invalid_size = 0x705

abbrev pub invalid_value : ℕ
invalid_value = 0x706

abbrev pub symbol_not_found : ℕ
symbol_not_found = 0x710

abbrev pub symbol_version_invalid : ℕ
symbol_version_invalid = 0x711

abbrev pub mode_not_supported : ℕ
mode_not_supported = 0x713

abbrev pub notification_handle_invalid : ℕ
notification_handle_invalid = 0x714

abbrev pub no_more_notifications : ℕ
no_more_notifications = 0x716

abbrev pub watch_too_big : ℕ
watch_too_big = 0x717

abbrev pub invoke_id_in_use : ℕ
invoke_id_in_use = 0x744

abbrev pub timeout_elapsed : ℕ
timeout_elapsed = 0x745

abbrev pub invalid_response : ℕ
invalid_response = 0x754

-- a code's number and text
pub record CodeRow : Type 0 where
  pub number : ℕ
  pub text : List ℕ

abbrev row : ℕ → List ℕ → CodeRow
row number text = record { number = number; text = text }

-- the table, in the order of the numbers
abbrev pub code_table : List CodeRow
code_table =
    row target_port_not_found (codes "target port not found")
    ∷ row target_machine_not_found (codes "target machine not found")
    ∷ row unknown_command_id (codes "unknown command id")
    ∷ row unknown_ams_command (codes "unknown AMS command")
    ∷ row invalid_ams_length (codes "invalid AMS length")
    ∷ row general_device_error (codes "general device error")
    ∷ row service_not_supported (codes "service not supported")
    ∷ row invalid_group (codes "invalid index group")
    ∷ row invalid_offset (codes "invalid index offset")
    ∷ row not_permitted (codes "reading or writing not permitted")
    ∷ row invalid_size (codes "parameter size not correct")
    ∷ row invalid_value (codes "invalid parameter value")
    ∷ row symbol_not_found (codes "symbol not found")
    ∷ row symbol_version_invalid (codes "symbol version invalid")
    ∷ row mode_not_supported (codes "transmission mode not supported")
    ∷ row notification_handle_invalid (codes "notification handle invalid")
    ∷ row no_more_notifications (codes "no more notification handles")
    ∷ row watch_too_big (codes "size for watch too big")
    ∷ row invoke_id_in_use (codes "invoke id in use")
    ∷ row timeout_elapsed (codes "timeout elapsed")
    ∷ row invalid_response (codes "invalid response")
    ∷ []

-- the text that the first row of this number has
unfoldable pub text_in : ℕ → List CodeRow → Option (List ℕ)
text_in number [] = None
text_in number (r ∷ rows) = if r.number == number then Some r.text else text_in number rows

-- the text of a code
abbrev pub text_of_code : ℕ → Option (List ℕ)
text_of_code number = text_in number code_table
