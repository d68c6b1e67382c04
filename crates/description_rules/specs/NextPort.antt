-- For private contracts, and cited by no public clause: a port is looked at behind those that came before.
use Rattle.std.specs.Prelude.{ℕ, length, Bool, ◌&&◌, nat_le, ℤ}
use Rattle.spec_rules.specs.Written as rules
use Rattle.spec_rules.specs.PortRules.{is_between, is_port_name, has_right_sizes}
use Rattle.description_table.specs.declared.written.WrittenPort.{WrittenPort}

-- a port that is right but for the numbers of those before
abbrev pub is_right_alone : ℕ → rules.WrittenPort → Bool
is_right_alone limit p =
    is_between 1 65535 p.number && is_port_name p.name && (is_between 0 255 p.major && is_between 0 255 p.minor && is_between 0 65535 p.build)
    && has_right_sizes limit p && nat_le (length p.symbols) 10000

-- the number of a port as the code borrows it
abbrev pub number_view : WrittenPort → ℤ
number_view p = p.number
