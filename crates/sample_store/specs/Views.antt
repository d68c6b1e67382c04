-- Rows and totals as values of the definitions.
use Rattle.spec_samples.specs.Row as samples
use Rattle.spec_samples.specs.Totals as totals
use Rattle.sample_store.specs.declared.row.Row.{Row}
use Rattle.sample_store.specs.declared.total.Total.{Total}

abbrev pub row_kept : Row → samples.Row
row_kept r = record { number = r.number; name = r.name; time = r.time; bytes = r.bytes }

abbrev pub total_told : Total → totals.Total
total_told t = record { count = t.count; time = t.time; bytes = t.bytes }
