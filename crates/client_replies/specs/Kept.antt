-- Which entry and request a kept value is.
use Rattle.std.specs.Prelude.{[]}
use Rattle.spec_formats.specs.SymbolEntry.{SymbolEntry}
use Rattle.spec_formats.specs.Request.{Request, ReadDeviceInfo, Read, Write, ReadState, WriteControl}
use Rattle.spec_formats.specs.Request.{AddDeviceNotification, DeleteDeviceNotification, ReadWrite}
use Rattle.client_replies.specs.declared.own_entry.OwnEntry.{OwnEntry}
use Rattle.client_replies.specs.declared.stage.Asked.{Asked}
use Rattle.client_replies.specs.declared.stage.Asked.TheVariants as asked

abbrev pub entry_kept : OwnEntry → SymbolEntry
entry_kept e = record {
  group = e.group;
  offset = e.offset;
  size = e.size;
  type_id = e.type_id;
  flags = e.flags;
  name = e.name;
  type_name = e.kind;
  comment = e.comment;
}

abbrev pub request_kept : Asked → Request
request_kept asked.DeviceInfo = ReadDeviceInfo
request_kept asked.State = ReadState
request_kept (asked.Control ads device) = WriteControl ads device []
request_kept (asked.Read group offset len) = Read group offset len
request_kept (asked.Write group offset bytes) = Write group offset bytes
request_kept (asked.Add group offset len mode cycle) = AddDeviceNotification group offset len mode 0 cycle
request_kept (asked.Delete handle) = DeleteDeviceNotification handle
request_kept (asked.ReadWrite group offset read_len bytes) = ReadWrite group offset read_len bytes
