-- Which leaf a kept value is.
use Rattle.spec_client.specs.Leaves as leaves
use Rattle.client_leaves.specs.declared.leaf.Leaf.{Leaf}

abbrev pub leaf_kept : Leaf → leaves.Leaf
leaf_kept l = leaves.leaf l.path l.place l.type_id l.size
