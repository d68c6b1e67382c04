-- Which AMS header a value of `Header` is. Beckhoff Information System, "AMS Header".
use Rattle.ads_base.specs.declared.ams_addr.AmsAddr.{AmsAddr}
use Rattle.spec_formats.specs.Header.{AmsAddress, AmsHeader}
use Rattle.ams_header.specs.declared.header.Header.{Header}

abbrev pub address_of : AmsAddr → AmsAddress
address_of a = record { net = a.net.bytes; port = a.port }

abbrev pub ams_header_of : Header → AmsHeader
ams_header_of h = record {
  target = address_of h.target;
  source = address_of h.source;
  command = h.command;
  flags = h.flags;
  len = h.len;
  error = h.error;
  id = h.id;
}
