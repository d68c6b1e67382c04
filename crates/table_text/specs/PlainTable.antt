-- Tables of texts, whole numbers and booleans, in which no float and no date stands.
use Rattle.std.specs.Prelude.{Bool, true, false, ◌&&◌}
use Rattle.toml.specs.Data.{Data, string, integer, float, boolean, datetime, array, table, Items, no_items, item, Members, no_members, member}

abbrev mutual
  pub is_plain : Data → Bool
  is_plain (string s) = true
  is_plain (integer z) = true
  is_plain (float x) = false
  is_plain (boolean b) = true
  is_plain (datetime dt) = false
  is_plain (array ds) = are_plain ds
  is_plain (table ms) = is_plain_table ms

  pub are_plain : Items → Bool
  are_plain no_items = true
  are_plain (item d ds) = is_plain d && are_plain ds

  pub is_plain_table : Members → Bool
  is_plain_table no_members = true
  is_plain_table (member k d ms) = is_plain d && is_plain_table ms
