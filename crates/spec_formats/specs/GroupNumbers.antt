-- The numbers of index groups. Beckhoff Information System, "Index Group/Offset Specification"; the constants as the ADS
-- libraries spell them.
use Rattle.std.specs.Prelude.{ℕ}

-- PLCADS_IGR_RWM, RWMX and RMSIZE: the memory (flags) of the controller
abbrev pub memory_bytes : ℕ
memory_bytes = 0x4020

abbrev pub memory_bit : ℕ
memory_bit = 0x4021

abbrev pub memory_size : ℕ
memory_size = 0x4025

-- PLCADS_IGR_RWDB and RDSIZE: its data area
abbrev pub process_bytes : ℕ
process_bytes = 0x4040

abbrev pub process_size : ℕ
process_size = 0x4045

-- ADSIGRP_SYM_HNDBYNAME
abbrev pub handle_by_name : ℕ
handle_by_name = 0xF003

-- ADSIGRP_SYM_VALBYNAME
abbrev pub value_by_name : ℕ
value_by_name = 0xF004

-- ADSIGRP_SYM_VALBYHND: the offset is the handle
abbrev pub value_by_handle : ℕ
value_by_handle = 0xF005

-- ADSIGRP_SYM_RELEASEHND: the data is the handle
abbrev pub release_handle : ℕ
release_handle = 0xF006

-- ADSIGRP_SYM_INFOBYNAME
abbrev pub info_by_name : ℕ
info_by_name = 0xF007

-- ADSIGRP_SYM_VERSION
abbrev pub symbol_version : ℕ
symbol_version = 0xF008

-- ADSIGRP_SYM_INFOBYNAMEEX
abbrev pub extended_info_by_name : ℕ
extended_info_by_name = 0xF009

-- ADSIGRP_SYM_UPLOAD
abbrev pub symbol_upload : ℕ
symbol_upload = 0xF00B

-- ADSIGRP_SYM_UPLOADINFO
abbrev pub upload_info : ℕ
upload_info = 0xF00C

-- ADSIGRP_SYM_DT_UPLOAD
abbrev pub type_upload : ℕ
type_upload = 0xF00E

-- ADSIGRP_SYM_UPLOADINFO2
abbrev pub upload_info_with_types : ℕ
upload_info_with_types = 0xF00F

-- ADSIGRP_IOIMAGE_RWIB, RWIX and RISIZE: the inputs
abbrev pub input_bytes : ℕ
input_bytes = 0xF020

abbrev pub input_bit : ℕ
input_bit = 0xF021

abbrev pub input_size : ℕ
input_size = 0xF025

-- ADSIGRP_IOIMAGE_RWOB, RWOX and ROSIZE: the outputs
abbrev pub output_bytes : ℕ
output_bytes = 0xF030

abbrev pub output_bit : ℕ
output_bit = 0xF031

abbrev pub output_size : ℕ
output_size = 0xF035

-- ADSIGRP_SUMUP_READ, WRITE and READWRITE: the offset is the number of parts
abbrev pub sum_read : ℕ
sum_read = 0xF080

abbrev pub sum_write : ℕ
sum_write = 0xF081

abbrev pub sum_read_write : ℕ
sum_read_write = 0xF082
