-- The ADS commands by their ids. Beckhoff Information System, "AMS Header".
use Rattle.std.specs.Prelude.{ℕ}

abbrev pub READ_DEVICE_INFO : ℕ
READ_DEVICE_INFO = 1

abbrev pub READ : ℕ
READ = 2

abbrev pub WRITE : ℕ
WRITE = 3

abbrev pub READ_STATE : ℕ
READ_STATE = 4

abbrev pub WRITE_CONTROL : ℕ
WRITE_CONTROL = 5

abbrev pub ADD_DEVICE_NOTIFICATION : ℕ
ADD_DEVICE_NOTIFICATION = 6

abbrev pub DELETE_DEVICE_NOTIFICATION : ℕ
DELETE_DEVICE_NOTIFICATION = 7

abbrev pub DEVICE_NOTIFICATION : ℕ
DEVICE_NOTIFICATION = 8

abbrev pub READ_WRITE : ℕ
READ_WRITE = 9
