-- A value that is put into the map of a table.
use Rattle.std.proofs.Common.{◌≡◌, ℕ, List, [], ◌∷◌, Global, String, string_bytes, Ordering, Less, Equal, Greater, refl, ap, ◌∙◌}
use Rattle.std.specs.Ordering.{match_ordering}
use Rattle.std.specs.String.{string_cmp}
use Rattle.std.specs.BTreeMap.{insert_entry}
use Rattle.toml.specs.View.{view, members_view}
use Rattle.toml.specs.declared.value.Value.{Value}
use Rattle.toml.proofs.Views.{Entry}
use Rattle.table_text.specs.SetMember.{set_member}

match_members : (o : Ordering) (a b c : List Entry)
    → members_view (match_ordering o a b c) ≡ match_ordering o (members_view a) (members_view b) (members_view c)
match_members Less a b c = refl
match_members Equal a b c = refl
match_members Greater a b c = refl

inserted : (es : List Entry) (k : String Global) (v : Value)
    → members_view (insert_entry string_cmp es k v) ≡ set_member (string_bytes k) (view v) (members_view es)
inserted [] k v = refl
inserted (e ∷ es) k v = match_members (string_cmp k e.0) _ _ _ ∙ rw (inserted es k v) refl

pub set_member-insert : (key : List ℕ) (k : String Global) (v : Value) (es fs : List Entry) → string_bytes k ≡ key → fs ≡ insert_entry string_cmp es k v
    → members_view fs ≡ set_member key (view v) (members_view es)
set_member-insert key k v es fs same is = ap members_view is ∙ (inserted es k v ∙ ap (λ n. set_member n (view v) (members_view es)) same)
