-- Worked examples, computed.
use Rattle.std.specs.Prelude.{◌≡◌, ℕ, Result, Ok, Err, List, [], ◌∷◌, ◌++◌, take, Some, None, codes}
use Rattle.std.proofs.Common.{refl}
use Rattle.spec_formats.specs.Codes.{text_in, text_of_code}
use Rattle.spec_formats.specs.Header.{AmsHeader, header_bytes, header_of, response_header}
use Rattle.spec_formats.specs.Request as request
use Rattle.spec_formats.specs.Reply as reply
use Rattle.spec_formats.specs.Notification.{notification_bytes}
use Rattle.spec_formats.specs.NotificationReading.{sample_of, samples_of, stamp_of, stamps_of, notification_of}
use Rattle.spec_plant.specs.Description.{Sizes, Memory, Process}
use Rattle.spec_formats.specs.Groups.{group_in, group_of}
use Rattle.spec_formats.specs.Ranges.{Range, Bytes, Bit, Size, byte_range, bit_range, size_range, range_in, range_of}
use Rattle.spec_formats.specs.TypeEntry.{sub_bytes}
use Rattle.spec_formats.specs.SymbolEntry.{SymbolEntry, entry_bytes, is_entry, entry_of}

-- ReadState from 192.168.0.9.1.1, port 32905, to 5.1.2.3.1.1, port 851, invoke id 1
abbrev read_state : List ℕ
read_state = 5 ∷ 1 ∷ 2 ∷ 3 ∷ 1 ∷ 1 ∷ 0x53 ∷ 3 ∷ 0xc0 ∷ 0xa8 ∷ 0 ∷ 9 ∷ 1 ∷ 1 ∷ 0x89 ∷ 0x80
    ∷ 4 ∷ 0 ∷ 4 ∷ 0 ∷ 0 ∷ 0 ∷ 0 ∷ 0 ∷ 0 ∷ 0 ∷ 0 ∷ 0 ∷ 1 ∷ 0 ∷ 0 ∷ 0 ∷ []

abbrev read_state_header : AmsHeader
read_state_header = record {
  target = record { net = 5 ∷ 1 ∷ 2 ∷ 3 ∷ 1 ∷ 1 ∷ []; port = 851 };
  source = record { net = 192 ∷ 168 ∷ 0 ∷ 9 ∷ 1 ∷ 1 ∷ []; port = 32905 };
  command = 4;
  flags = 4;
  len = 0;
  error = 0;
  id = 1;
}

a_header_is_written : header_bytes read_state_header ≡ read_state
a_header_is_written = refl

a_header_is_read : header_of (read_state ++ 7 ∷ []) ≡ Some read_state_header
unfolding header_of
a_header_is_read = refl

a_short_packet_has_no_header : header_of (take 31 read_state) ≡ None
unfolding header_of
a_short_packet_has_no_header = refl

-- the response with 8 bytes behind the header
a_response_is_written : header_bytes (response_header read_state_header 0 8) ≡
    0xc0 ∷ 0xa8 ∷ 0 ∷ 9 ∷ 1 ∷ 1 ∷ 0x89 ∷ 0x80 ∷ 5 ∷ 1 ∷ 2 ∷ 3 ∷ 1 ∷ 1 ∷ 0x53 ∷ 3
    ∷ 4 ∷ 0 ∷ 5 ∷ 0 ∷ 8 ∷ 0 ∷ 0 ∷ 0 ∷ 0 ∷ 0 ∷ 0 ∷ 0 ∷ 1 ∷ 0 ∷ 0 ∷ 0 ∷ []
a_response_is_written = refl

-- Read of 4 bytes at 0x4040, offset 28
a_read : List ℕ
a_read = 0x40 ∷ 0x40 ∷ 0 ∷ 0 ∷ 28 ∷ 0 ∷ 0 ∷ 0 ∷ 4 ∷ 0 ∷ 0 ∷ 0 ∷ []

a_read_is_written : request.request_bytes (request.Read 0x4040 28 4) ≡ a_read
unfolding a_read
a_read_is_written = refl

a_read_is_read : request.request_of 2 a_read ≡ Some (request.Read 0x4040 28 4)
unfolding a_read request.request_of request.request_in
a_read_is_read = refl

a_cut_read_is_none : request.request_of 2 (take 11 a_read) ≡ None
unfolding a_read request.request_of request.request_in
a_cut_read_is_none = refl

a_byte_behind_a_read_is_none : request.request_of 2 (a_read ++ 0 ∷ []) ≡ None
unfolding a_read request.request_of request.request_in
a_byte_behind_a_read_is_none = refl

-- Write of 11 22 33 44 at 0x4040, offset 124
a_write_is_read : request.request_of 3
    (0x40 ∷ 0x40 ∷ 0 ∷ 0 ∷ 0x7c ∷ 0 ∷ 0 ∷ 0 ∷ 4 ∷ 0 ∷ 0 ∷ 0 ∷ 0x11 ∷ 0x22 ∷ 0x33 ∷ 0x44 ∷ [])
    ≡ Some (request.Write 0x4040 124 (0x11 ∷ 0x22 ∷ 0x33 ∷ 0x44 ∷ []))
unfolding request.request_of request.request_in
a_write_is_read = refl

-- the data is one byte shorter than its stated length
a_write_of_another_length_is_none : request.request_of 3
    (0x40 ∷ 0x40 ∷ 0 ∷ 0 ∷ 0x7c ∷ 0 ∷ 0 ∷ 0 ∷ 4 ∷ 0 ∷ 0 ∷ 0 ∷ 0x11 ∷ 0x22 ∷ 0x33 ∷ []) ≡ None
unfolding request.request_of request.request_in
a_write_of_another_length_is_none = refl

-- AddDeviceNotification of 4 bytes at 0x4040, mode 4, with a reserved byte that is not zero
an_addition_is_read : request.request_of 6
    (0x40 ∷ 0x40 ∷ 0 ∷ 0 ∷ 0 ∷ 0 ∷ 0 ∷ 0 ∷ 4 ∷ 0 ∷ 0 ∷ 0 ∷ 4 ∷ 0 ∷ 0 ∷ 0 ∷ 0 ∷ 0 ∷ 0 ∷ 0 ∷ 9 ∷ 0 ∷ 0 ∷ 0
    ∷ 1 ∷ 0 ∷ 0 ∷ 0 ∷ 0 ∷ 0 ∷ 0 ∷ 0 ∷ 0 ∷ 0 ∷ 0 ∷ 0 ∷ 0 ∷ 0 ∷ 0 ∷ 0 ∷ [])
    ≡ Some (request.AddDeviceNotification 0x4040 0 4 4 0 9)
unfolding request.request_of request.request_in
an_addition_is_read = refl

-- a handle for the name `A`
a_read_write_is_read : request.request_of 9
    (3 ∷ 0xf0 ∷ 0 ∷ 0 ∷ 0 ∷ 0 ∷ 0 ∷ 0 ∷ 4 ∷ 0 ∷ 0 ∷ 0 ∷ 1 ∷ 0 ∷ 0 ∷ 0 ∷ 0x41 ∷ [])
    ≡ Some (request.ReadWrite 0xF003 0 4 (codes "A"))
unfolding request.request_of request.request_in
a_read_write_is_read = refl

no_command_0 : request.request_of 0 [] ≡ None
unfolding request.request_of request.request_in
no_command_0 = refl

-- a refused Read of five bytes by a handle
a_refused_read_is_written : reply.written_bytes (reply.Read 0x705 (1 ∷ 2 ∷ [])) ≡
    5 ∷ 7 ∷ 0 ∷ 0 ∷ 0 ∷ 0 ∷ 0 ∷ 0 ∷ []
unfolding reply.written_bytes
a_refused_read_is_written = refl

-- ADS state 6, device state 7
a_state_is_written : reply.written_bytes (reply.ReadState 0 6 7) ≡
    0 ∷ 0 ∷ 0 ∷ 0 ∷ 6 ∷ 0 ∷ 7 ∷ 0 ∷ []
unfolding reply.written_bytes
a_state_is_written = refl

a_state_is_read : reply.reply_of 4 (0 ∷ 0 ∷ 0 ∷ 0 ∷ 6 ∷ 0 ∷ 7 ∷ 0 ∷ []) ≡ Some (reply.ReadState 0 6 7)
unfolding reply.reply_of reply.reply_in
a_state_is_read = refl

-- Plc30 App, version 3.1.1711
device_information_is_read : reply.reply_of 1
    (0 ∷ 0 ∷ 0 ∷ 0 ∷ 3 ∷ 1 ∷ 0xaf ∷ 6 ∷ codes "Plc30 App" ++ 0 ∷ 0 ∷ 0 ∷ 0 ∷ 0 ∷ 0 ∷ 0 ∷ [])
    ≡ Some (reply.ReadDeviceInfo 0 (record {
      major = 3;
      minor = 1;
      build = 1711;
      name = codes "Plc30 App" ++ 0 ∷ 0 ∷ 0 ∷ 0 ∷ 0 ∷ 0 ∷ 0 ∷ [];
    }))
unfolding reply.reply_of reply.reply_in
device_information_is_read = refl

-- one sample 2a 00 00 00 of notification 1 at moment 1000
a_notification : List ℕ
a_notification = 0x1c ∷ 0 ∷ 0 ∷ 0 ∷ 1 ∷ 0 ∷ 0 ∷ 0 ∷ 0xe8 ∷ 3 ∷ 0 ∷ 0 ∷ 0 ∷ 0 ∷ 0 ∷ 0 ∷ 1 ∷ 0 ∷ 0 ∷ 0
    ∷ 1 ∷ 0 ∷ 0 ∷ 0 ∷ 4 ∷ 0 ∷ 0 ∷ 0 ∷ 0x2a ∷ 0 ∷ 0 ∷ 0 ∷ []

a_notification_is_written : notification_bytes (record {
  time = 1000;
  samples =
      record { handle = 1; bytes = 0x2a ∷ 0 ∷ 0 ∷ 0 ∷ [] } ∷ [];
} ∷ []) ≡ a_notification
unfolding a_notification
a_notification_is_written = refl

a_notification_is_read : notification_of a_notification ≡ Some (record {
  time = 1000;
  samples =
      record { handle = 1; bytes = 0x2a ∷ 0 ∷ 0 ∷ 0 ∷ [] } ∷ [];
} ∷ [])
unfolding a_notification notification_of stamps_of stamp_of samples_of sample_of
a_notification_is_read = refl

-- the stated length is four greater, and no stamp follows
a_greater_length_is_read : notification_of (8 ∷ 0 ∷ 0 ∷ 0 ∷ 0 ∷ 0 ∷ 0 ∷ 0 ∷ []) ≡ Some []
unfolding notification_of stamps_of
a_greater_length_is_read = refl

a_byte_behind_a_notification_is_none : notification_of (a_notification ++ 0 ∷ []) ≡ None
unfolding a_notification notification_of stamps_of stamp_of samples_of sample_of
a_byte_behind_a_notification_is_none = refl

-- the entry of `Main.count`, a DINT at 0x4040, offset 0
count_entry : SymbolEntry
count_entry = record {
  group = 0x4040;
  offset = 0;
  size = 4;
  type_id = 3;
  flags = 0;
  name = codes "Main.count";
  type_name = codes "DINT";
  comment = [];
}

count_entry_text : List ℕ
count_entry_text = 0x2f ∷ 0 ∷ 0 ∷ 0 ∷ 0x40 ∷ 0x40 ∷ 0 ∷ 0 ∷ 0 ∷ 0 ∷ 0 ∷ 0 ∷ 4 ∷ 0 ∷ 0 ∷ 0 ∷ 3 ∷ 0 ∷ 0 ∷ 0 ∷ 0 ∷ 0 ∷ 0 ∷ 0
    ∷ 0x0a ∷ 0 ∷ 4 ∷ 0 ∷ 0 ∷ 0 ∷ 0x4d ∷ 0x61 ∷ 0x69 ∷ 0x6e ∷ 0x2e ∷ 0x63 ∷ 0x6f ∷ 0x75 ∷ 0x6e ∷ 0x74 ∷ 0
    ∷ 0x44 ∷ 0x49 ∷ 0x4e ∷ 0x54 ∷ 0 ∷ 0 ∷ []

an_entry_is_written : entry_bytes count_entry ≡ count_entry_text
unfolding count_entry count_entry_text
an_entry_is_written = refl

an_entry_is_read : entry_of (count_entry_text ++ 1 ∷ []) ≡ Some (count_entry, 1 ∷ [])
unfolding count_entry count_entry_text entry_of is_entry
an_entry_is_read = refl

a_cut_entry_is_none : entry_of (take 46 count_entry_text) ≡ None
unfolding count_entry_text entry_of is_entry
a_cut_entry_is_none = refl

symbol_not_found_has_its_text : text_of_code 0x710 ≡ Some (codes "symbol not found")
unfolding text_in
symbol_not_found_has_its_text = refl

sizes : Sizes
sizes = record { inputs = 0; outputs = 0; memory = 32; process = 128 }

-- an access, its range or its code
abbrev Gives : ℕ → ℕ → ℕ → Result Range ℕ → Type 0
Gives group offset len answer = range_of sizes group offset len ≡ answer

ranges_at_the_edges :
    Gives 0x4040 128 0 (Ok (Bytes Process 128 0)) × Gives 0x4040 128 1 (Err 0x705) × Gives 0x4040 129 0 (Err 0x703)
    × Gives 0x4021 3 1 (Ok (Bit Memory 0 3)) × Gives 0x4021 3 2 (Err 0x705) × Gives 0x4021 256 1 (Err 0x703)
    × Gives 0x4025 9 8 (Ok (Size Memory)) × Gives 0x4025 0 3 (Err 0x705) × Gives 0xF003 0 4 (Err 0x702)
unfolding sizes range_of range_in group_of group_in byte_range bit_range size_range
ranges_at_the_edges = (refl, refl, refl, refl, refl, refl, refl, refl, refl)

-- the first member of a structure: `active`, a BOOL at place 0
a_sub_entry_is_written : sub_bytes (record {
  size = 1;
  offset = 0;
  type_id = 33;
  flags = 2;
  name = codes "active";
  type_name = codes "BOOL";
  comment = [];
  dimensions = [];
}) ≡
    0x37 ∷ 0 ∷ 0 ∷ 0 ∷ 1 ∷ 0 ∷ 0 ∷ 0 ∷ 0 ∷ 0 ∷ 0 ∷ 0 ∷ 0 ∷ 0 ∷ 0 ∷ 0 ∷ 1 ∷ 0 ∷ 0 ∷ 0 ∷ 0 ∷ 0 ∷ 0 ∷ 0 ∷ 0x21 ∷ 0 ∷ 0 ∷ 0 ∷ 2 ∷ 0 ∷ 0 ∷ 0
    ∷ 6 ∷ 0 ∷ 4 ∷ 0 ∷ 0 ∷ 0 ∷ 0 ∷ 0 ∷ 0 ∷ 0 ∷ 0x61 ∷ 0x63 ∷ 0x74 ∷ 0x69 ∷ 0x76 ∷ 0x65 ∷ 0 ∷ 0x42 ∷ 0x4f ∷ 0x4f ∷ 0x4c ∷ 0 ∷ 0 ∷ []
a_sub_entry_is_written = refl
