-- The owners of NetIds, as a connection changes, is closed, owns a NetId or is opened.
use Rattle.std.proofs.Common.{◌≡◌, ◌≢◌, ◌⊎◌, ℕ, List, [], ◌∷◌, ◌++◌, true, false, refl, sym, ap, ◌∙◌, subst, inl, inr}
use Rattle.std.specs.Prelude.{Bool, not, ◌||◌, ◌&&◌, ◌==◌, Option, Some, None, option_map, is_some, bytes_eq}
use Rattle.std.proofs.lemmas.Bool.{cases_Bool, cases_eq, true≢false, and_parts, cond-true, cond-false}
use Rattle.std.proofs.lemmas.Slice.Eq.{bytes_eq-Decides}
use Rattle.spec_machine.specs.Connection.{connection_of, fresh_connection}
use Rattle.spec_machine.proofs.Find.{test_same, test_other, or_else, connection_of-append}
use Rattle.ads_served.specs.Opened.{AreApart}
use Rattle.spec_relay.specs.RelayState.{Owned, RelayConnection, RelayState, is_heard, owns, owner_of}
use Rattle.spec_relay.specs.Routing.{at_connection}
use Rattle.spec_relay.proofs.ChangeLemmas.{changed-own, changed-other}
use Rattle.ams_relay.specs.Holds.{Owners, owner_in, IsOwner, HoldsOwners}
use Rattle.ams_relay.specs.Taking.{number_of, Frees}
use Rattle.std.specs.Global.{Vec}
use Rattle.std.specs.Map.{lookup, KeepsOthers}
use Rattle.ams_relay.proofs.StateLemmas.{Stays, Quiet}
use Rattle.connections.proofs.StateLemmas.{connection_of-same, connection_of-other}

pub bytes_same : (xs ys : List ℕ) → bytes_eq xs ys ≡ true → xs ≡ ys
bytes_same xs ys = (bytes_eq-Decides xs ys).0

pub bytes_refl : (xs : List ℕ) → bytes_eq xs xs ≡ true
bytes_refl xs = (bytes_eq-Decides xs xs).1 refl

pub bytes_other : (xs ys : List ℕ) → xs ≢ ys → bytes_eq xs ys ≡ false
bytes_other xs ys ne = elim (cases_Bool (bytes_eq xs ys)) [
  | inl t ↦ absurd (ne (bytes_same xs ys t))
  | inr t ↦ t
]

pub some_same : {A : Type 0} (x y : A) → ◌≡◌ {A = Option A} (Some x) (Some y) → x ≡ y
some_same x y e = cc

pub none_of : {X : Type 0} (o : Option X) → is_some o ≡ false → o ≡ None
none_of None e = refl
none_of (Some x) e = cc

-- the connection before a change, of the one that is found after it
pub record Before (n : ℕ) (f : RelayConnection → RelayConnection) (k : RelayConnection) (ks : List RelayConnection) : Type 0 where
  pub connection : RelayConnection
  pub found : connection_of n ks ≡ Some connection
  pub is : f connection ≡ k

pub before_number : (n : ℕ) (f : RelayConnection → RelayConnection) → ((k : RelayConnection) → (f k).number ≡ k.number)
    → (s : RelayState) (k : RelayConnection) → connection_of n (at_connection n f s).connections ≡ Some k
    → Before n f k s.connections
before_number n f number s k e = go (connection_of n s.connections) refl
  where
    go : (o : Option RelayConnection) → connection_of n s.connections ≡ o → Before n f k s.connections
    go None none = absurd (let no : ◌≡◌ {A = Option RelayConnection} None (Some k) = sym (changed-own n f number s ∙ ap (option_map f) none) ∙ e in cc)
    go (Some j) some = record {
      connection = j;
      found = some;
      is = (let both : ◌≡◌ {A = Option RelayConnection} (Some (f j)) (Some k) = sym (changed-own n f number s ∙ ap (option_map f) some) ∙ e in
          some_same (f j) k both);
    }

pub before_change : (n : ℕ) (f : RelayConnection → RelayConnection) → Stays f
    → (s : RelayState) (k : RelayConnection) → connection_of n (at_connection n f s).connections ≡ Some k
    → Before n f k s.connections
before_change n f stays s k e = before_number n f stays.number s k e

-- an owner with another number stays one
pub owner_forth : (n m : ℕ) (f : RelayConnection → RelayConnection) → Stays f → n ≢ m
    → (s : RelayState) (net : List ℕ) → IsOwner net m s.connections → IsOwner net m (at_connection n f s).connections
owner_forth n m f stays ne s net o = record {
  connection = o.connection;
  found = changed-other n m f stays.number ne s ∙ o.found;
  heard = o.heard;
  client = o.client;
}

pub owner_back : (n m : ℕ) (f : RelayConnection → RelayConnection) → Stays f → n ≢ m
    → (s : RelayState) (net : List ℕ) → IsOwner net m (at_connection n f s).connections → IsOwner net m s.connections
owner_back n m f stays ne s net o = record {
  connection = o.connection;
  found = sym (changed-other n m f stays.number ne s) ∙ o.found;
  heard = o.heard;
  client = o.client;
}

pub heard_same : (f : RelayConnection → RelayConnection) → Stays f
    → ((k : RelayConnection) → (f k).closing ≡ k.closing) → (k : RelayConnection) → is_heard (f k) ≡ is_heard k
heard_same f stays closing k = ap (λ b. not (b || (f k).gone)) (closing k) ∙ ap (λ b. not (k.closing || b)) (stays.gone k)

pub heard_quiet : (f : RelayConnection → RelayConnection) → Quiet f → (k : RelayConnection) → is_heard (f k) ≡ is_heard k
heard_quiet f quiet k = heard_same f quiet.stays quiet.closing k

-- a change that leaves clients, and whether they are heard
pub owners_quiet : (os : Owners) (n : ℕ) (f : RelayConnection → RelayConnection) → Quiet f
    → (s : RelayState) → HoldsOwners os s.connections → HoldsOwners os (at_connection n f s).connections
owners_quiet os n f quiet s h = record {
  owned = λ net m e. forth net m (h.owned net m e);
  owners = λ net m o. h.owners net m (back net m o);
}
  where
    own_forth : (net : List ℕ) → IsOwner net n s.connections → IsOwner net n (at_connection n f s).connections
    own_forth net o = record {
      connection = f o.connection;
      found = changed-own n f quiet.stays.number s ∙ ap (option_map f) o.found;
      heard = heard_quiet f quiet o.connection ∙ o.heard;
      client = quiet.client o.connection ∙ o.client;
    }

    own_back : (net : List ℕ) → IsOwner net n (at_connection n f s).connections → IsOwner net n s.connections
    own_back net o =
        let b = before_change n f quiet.stays s o.connection o.found in
        record {
          connection = b.connection;
          found = b.found;
          heard = sym (heard_quiet f quiet b.connection) ∙ ap is_heard b.is ∙ o.heard;
          client = sym (quiet.client b.connection) ∙ ap (λ (k : RelayConnection). k.client) b.is ∙ o.client;
        }

    forth : (net : List ℕ) (m : ℕ) → IsOwner net m s.connections → IsOwner net m (at_connection n f s).connections
    forth net m o = elim (cases_eq n m) [
      | inl e ↦ subst (λ j. IsOwner net j (at_connection n f s).connections) e (own_forth net (subst (λ j. IsOwner net j s.connections) (sym e) o))
      | inr ne ↦ owner_forth n m f quiet.stays ne s net o
    ]

    back : (net : List ℕ) (m : ℕ) → IsOwner net m (at_connection n f s).connections → IsOwner net m s.connections
    back net m o = elim (cases_eq n m) [
      | inl e ↦ subst (λ j. IsOwner net j s.connections) e (own_back net (subst (λ j. IsOwner net j (at_connection n f s).connections) (sym e) o))
      | inr ne ↦ owner_back n m f quiet.stays ne s net o
    ]

-- nobody hears a connection of this number
abbrev pub IsUnheard : ℕ → List RelayConnection → Type 0
IsUnheard n ks = (k : RelayConnection) → connection_of n ks ≡ Some k → is_heard k ≡ false

unheard_owner : (net : List ℕ) (n : ℕ) (ks : List RelayConnection) → IsUnheard n ks → IsOwner net n ks → ⊥
unheard_owner net n ks unheard o = true≢false (sym o.heard ∙ unheard o.connection o.found)

-- a change of one that was not heard, and is not
pub owners_unheard : (os : Owners) (n : ℕ) (ks ls : List RelayConnection)
    → ((m : ℕ) → n ≢ m → connection_of m ls ≡ connection_of m ks) → IsUnheard n ks → IsUnheard n ls → HoldsOwners os ks → HoldsOwners os ls
owners_unheard os n ks ls others was is h = record {
  owned = λ net m e. forth net m (h.owned net m e);
  owners = λ net m o. h.owners net m (back net m o);
}
  where
    forth : (net : List ℕ) (m : ℕ) → IsOwner net m ks → IsOwner net m ls
    forth net m o = elim (cases_eq n m) [
      | inl e ↦ absurd (unheard_owner net n ks was (subst (λ j. IsOwner net j ks) (sym e) o))
      | inr ne ↦ record { connection = o.connection; found = others m ne ∙ o.found; heard = o.heard; client = o.client }
    ]

    back : (net : List ℕ) (m : ℕ) → IsOwner net m ls → IsOwner net m ks
    back net m o = elim (cases_eq n m) [
      | inl e ↦ absurd (unheard_owner net n ls is (subst (λ j. IsOwner net j ls) (sym e) o))
      | inr ne ↦ record { connection = o.connection; found = sym (others m ne) ∙ o.found; heard = o.heard; client = o.client }
    ]

-- one that owned nothing is no longer heard
pub owners_ended : (os : Owners) (n : ℕ) (k : RelayConnection) (ks ls : List RelayConnection)
    → ((m : ℕ) → n ≢ m → connection_of m ls ≡ connection_of m ks) → connection_of n ks ≡ Some k → k.client ≡ None
    → IsUnheard n ls → HoldsOwners os ks → HoldsOwners os ls
owners_ended os n k ks ls others found nothing is h = record {
  owned = λ net m e. forth net m (h.owned net m e);
  owners = λ net m o. h.owners net m (back net m o);
}
  where
    forth : (net : List ℕ) (m : ℕ) → IsOwner net m ks → IsOwner net m ls
    forth net m o = elim (cases_eq n m) [
      | inl e ↦
          let both : ◌≡◌ {A = Option RelayConnection} (Some k) (Some o.connection) = sym found ∙ ap (λ j. connection_of j ks) e ∙ o.found in
          let same : k ≡ o.connection = some_same k o.connection both in
          absurd (let no : ◌≡◌ {A = Option (List ℕ)} None (Some net) = sym nothing ∙ ap (λ (x : RelayConnection). x.client) same ∙ o.client in cc)
      | inr ne ↦ record { connection = o.connection; found = others m ne ∙ o.found; heard = o.heard; client = o.client }
    ]

    back : (net : List ℕ) (m : ℕ) → IsOwner net m ls → IsOwner net m ks
    back net m o = elim (cases_eq n m) [
      | inl e ↦ absurd (unheard_owner net n ls is (subst (λ j. IsOwner net j ls) (sym e) o))
      | inr ne ↦ record { connection = o.connection; found = sym (others m ne) ∙ o.found; heard = o.heard; client = o.client }
    ]

-- one that owned a NetId is no longer heard, and its NetId is free
pub owners_disowned : (os ps : Owners) (own : List ℕ) (n : ℕ) (k : RelayConnection) (ks ls : List RelayConnection) → owner_in own ps ≡ None
    → ((net : List ℕ) → net ≢ own → owner_in net ps ≡ owner_in net os) → ((m : ℕ) → n ≢ m → connection_of m ls ≡ connection_of m ks)
    → connection_of n ks ≡ Some k → is_heard k ≡ true → k.client ≡ Some own → IsUnheard n ls → HoldsOwners os ks → HoldsOwners ps ls
owners_disowned os ps own n k ks ls free same others found heard client is h = record {
  owned = λ net m e. owned net m e;
  owners = λ net m o. owners net m o;
}
  where
    its_own : IsOwner own n ks
    its_own = record { connection = k; found = found; heard = heard; client = client }

    differs : (net : List ℕ) (m : ℕ) → owner_in net ps ≡ Some m → net ≢ own
    differs net m e same_net = absurd (let no : ◌≡◌ {A = Option ℕ} None (Some m) = sym free ∙ ap (λ x. owner_in x ps) (sym same_net) ∙ e in cc)

    owned : (net : List ℕ) (m : ℕ) → owner_in net ps ≡ Some m → IsOwner net m ls
    owned net m e =
        let ne_net = differs net m e in
        let o = h.owned net m (sym (same net ne_net) ∙ e) in
        elim (cases_eq n m) [
          | inl q ↦
              let both : ◌≡◌ {A = Option RelayConnection} (Some k) (Some o.connection) = sym found ∙ ap (λ j. connection_of j ks) q ∙ o.found in
              let one : k ≡ o.connection = some_same k o.connection both in
              let nets : ◌≡◌ {A = Option (List ℕ)} (Some net) (Some own) = sym o.client ∙ sym (ap (λ (x : RelayConnection). x.client) one) ∙ client in
              absurd (ne_net (some_same net own nets))
          | inr ne ↦ record { connection = o.connection; found = others m ne ∙ o.found; heard = o.heard; client = o.client }
        ]

    owners : (net : List ℕ) (m : ℕ) → IsOwner net m ls → owner_in net ps ≡ Some m
    owners net m o = elim (cases_eq n m) [
      | inl q ↦ absurd (unheard_owner net n ls is (subst (λ j. IsOwner net j ls) (sym q) o))
      | inr ne ↦
          let there = h.owners net m (record { connection = o.connection; found = sym (others m ne) ∙ o.found; heard = o.heard; client = o.client }) in
          let other : net ≢ own =
          λ e. (let both : ◌≡◌ {A = Option ℕ} (Some n) (Some m) = sym (h.owners own n its_own) ∙ ap (λ x. owner_in x os) (sym e) ∙ there in
          ne (some_same n m both)) in
          same net other ∙ there
    ]

-- a connection owns the source of its frame, which nobody owned
pub owners_own : (os ps : Owners) (own : List ℕ) (n : ℕ) (k l : RelayConnection) (ks ls : List RelayConnection)
    → owner_in own os ≡ None → owner_in own ps ≡ Some n
    → ((net : List ℕ) → net ≢ own → owner_in net ps ≡ owner_in net os) → ((m : ℕ) → n ≢ m → connection_of m ls ≡ connection_of m ks)
    → connection_of n ks ≡ Some k → connection_of n ls ≡ Some l → is_heard l ≡ true
    → l.client ≡ Some own → k.client ≡ None → HoldsOwners os ks → HoldsOwners ps ls
owners_own os ps own n k l ks ls free now same others found then_ heard client nothing h = record {
  owned = λ net m e. owned net m e;
  owners = λ net m o. owners net m o;
}
  where
    not_n : (net : List ℕ) (m : ℕ) → IsOwner net m ks → n ≢ m
    not_n net m o q =
        let both : ◌≡◌ {A = Option RelayConnection} (Some k) (Some o.connection) = sym found ∙ ap (λ j. connection_of j ks) q ∙ o.found in
        let one : k ≡ o.connection = some_same k o.connection both in
        (let no : ◌≡◌ {A = Option (List ℕ)} None (Some net) = sym nothing ∙ ap (λ (x : RelayConnection). x.client) one ∙ o.client in cc)

    by_net : (net : List ℕ) → (net ≡ own) ⊎ (net ≢ own)
    by_net net = elim (cases_Bool (bytes_eq net own)) [
      | inl t ↦ inl (bytes_same net own t)
      | inr t ↦ inr (λ e. true≢false (sym (ap (λ x. bytes_eq x own) e ∙ bytes_refl own) ∙ t))
    ]

    owned : (net : List ℕ) (m : ℕ) → owner_in net ps ≡ Some m → IsOwner net m ls
    owned net m e = elim (by_net net) [
      | inl q ↦
          let both : ◌≡◌ {A = Option ℕ} (Some n) (Some m) = sym now ∙ ap (λ x. owner_in x ps) (sym q) ∙ e in
          let number : n ≡ m = some_same n m both in
          record {
            connection = l;
            found = ap (λ j. connection_of j ls) (sym number) ∙ then_;
            heard = heard;
            client = client ∙ ap (λ (x : List ℕ). Some x) (sym q);
          }
      | inr ne ↦
          let o = h.owned net m (sym (same net ne) ∙ e) in
          record { connection = o.connection; found = others m (not_n net m o) ∙ o.found; heard = o.heard; client = o.client }
    ]

    owners : (net : List ℕ) (m : ℕ) → IsOwner net m ls → owner_in net ps ≡ Some m
    owners net m o = elim (cases_eq n m) [
      | inl q ↦
          let both : ◌≡◌ {A = Option RelayConnection} (Some l) (Some o.connection) = sym then_ ∙ ap (λ j. connection_of j ls) q ∙ o.found in
          let one : l ≡ o.connection = some_same l o.connection both in
          let nets : ◌≡◌ {A = Option (List ℕ)} (Some own) (Some net) = sym client ∙ ap (λ (x : RelayConnection). x.client) one ∙ o.client in
          ap (λ x. owner_in x ps) (sym (some_same own net nets)) ∙ now ∙ ap (λ (j : ℕ). Some j) q
      | inr ne ↦
          let there = h.owners net m (record { connection = o.connection; found = sym (others m ne) ∙ o.found; heard = o.heard; client = o.client }) in
          let other : net ≢ own = λ e. (let no : ◌≡◌ {A = Option ℕ} None (Some m) = sym free ∙ ap (λ x. owner_in x os) (sym e) ∙ there in cc) in
          same net other ∙ there
    ]

-- a connection that is opened owns nothing
pub fresh_client : (n m : ℕ) (k : RelayConnection) → connection_of m (fresh_connection None n ∷ []) ≡ Some k → k.client ≡ None
unfolding connection_of
fresh_client n m k e = elim (cases_eq n m) [
  | inl q ↦ let both : ◌≡◌ {A = Option RelayConnection} (Some (fresh_connection None n)) (Some k) =
      sym (cond-true (n == m) (Some (fresh_connection None n)) None (test_same n m q)) ∙ e in
      sym (ap (λ (x : RelayConnection). x.client) (some_same (fresh_connection None n) k both))
  | inr q ↦ absurd (let no : ◌≡◌ {A = Option RelayConnection} None (Some k) = sym
      (cond-false (n == m) (Some (fresh_connection None n)) None (test_other n m q)) ∙ e in cc)
]

-- a connection is opened
pub owners_opened : (os : Owners) (n : ℕ) (ks : List RelayConnection) → connection_of n ks ≡ None
    → HoldsOwners os ks → HoldsOwners os (ks ++ fresh_connection None n ∷ [])
unfolding connection_of
owners_opened os n ks new h = record {
  owned = λ net m e. (let o = h.owned net m e in record {
    connection = o.connection;
    found = connection_of-append m ks (fresh_connection None n ∷ []) ∙ ap (λ x. or_else x (connection_of m (fresh_connection None n ∷ []))) o.found;
    heard = o.heard;
    client = o.client;
  });
  owners = λ net m o. back net m o (connection_of m ks) refl;
}
  where
    back : (net : List ℕ) (m : ℕ) → IsOwner net m (ks ++ fresh_connection None n ∷ [])
        → (x : Option RelayConnection) → connection_of m ks ≡ x → owner_in net os ≡ Some m
    back net m o (Some k) e =
        let both : ◌≡◌ {A = Option RelayConnection} (Some k) (Some o.connection) =
        sym (connection_of-append m ks (fresh_connection None n ∷ []) ∙ ap (λ x. or_else x (connection_of m (fresh_connection None n ∷ []))) e) ∙ o.found in
        h.owners net m (record { connection = o.connection; found = e ∙ both; heard = o.heard; client = o.client })
    back net m o None e =
        let at = sym (connection_of-append m ks (fresh_connection None n ∷ []) ∙ ap (λ x. or_else x (connection_of m (fresh_connection None n ∷ []))) e)
        ∙ o.found in
        absurd (let no : ◌≡◌ {A = Option (List ℕ)} None (Some net) = sym (fresh_client n m o.connection at) ∙ o.client in cc)

-- the owner that the machine finds
owns_net : (net : List ℕ) (client : Owned) → owns net client ≡ true → client ≡ Some net
owns_net net None e = absurd (true≢false (sym e))
owns_net net (Some owned) e = ap (λ (x : List ℕ). Some x) (bytes_same owned net e)

net_owned : (net : List ℕ) (client : Owned) → client ≡ Some net → owns net client ≡ true
net_owned net client e = ap (owns net) e ∙ bytes_refl net

pub and_both : (a b : Bool) → a ≡ true → b ≡ true → (a && b) ≡ true
and_both a b x y = ap (λ c. c && b) x ∙ y

-- one of the list, or none
pub record FoundOwner (net : List ℕ) (ks : List RelayConnection) (k : RelayConnection) : Type 0 where
  pub heard : is_heard k ≡ true
  pub client : k.client ≡ Some net
  pub found : connection_of k.number ks ≡ Some k

pub owner_found : (net : List ℕ) (ks : List RelayConnection) → AreApart ks → (k : RelayConnection) → owner_of net ks ≡ Some k → FoundOwner net ks k
owner_found net [] apart k e = absurd (let no : ◌≡◌ {A = Option RelayConnection} None (Some k) = e in cc)
owner_found net (j ∷ ks) apart k e = elim (cases_Bool (is_heard j && owns net j.client)) [
  | inl t ↦
      let both : ◌≡◌ {A = Option RelayConnection} (Some j) (Some k) = sym (cond-true (is_heard j && owns net j.client) (Some j) (owner_of net ks) t) ∙ e in
      let same : j ≡ k = some_same j k both in
      let parts = and_parts (is_heard j) (owns net j.client) t in
      subst (FoundOwner net (j ∷ ks)) same (record { heard = parts.0; client = owns_net net j.client parts.1; found = connection_of-same j.number j ks refl })
  | inr t ↦
      let o = owner_found net ks apart.1 k (sym (cond-false (is_heard j && owns net j.client) (Some j) (owner_of net ks) t) ∙ e) in
      record {
        heard = o.heard;
        client = o.client;
        found = connection_of-other k.number j ks (λ q. (let no = sym apart.0 ∙ ap (λ m. connection_of m ks) q ∙ o.found in cc)) ∙ o.found;
      }
]

pub owner_absent : (net : List ℕ) (ks : List RelayConnection) → owner_of net ks ≡ None → (n : ℕ) → IsOwner net n ks → ⊥
unfolding connection_of
owner_absent net [] e n o = (let no : ◌≡◌ {A = Option RelayConnection} None (Some o.connection) = o.found in cc)
owner_absent net (j ∷ ks) e n o = elim (cases_Bool (is_heard j && owns net j.client)) [
  | inl t ↦ (let no : ◌≡◌ {A = Option RelayConnection} (Some j) None = sym (cond-true (is_heard j && owns net j.client) (Some j) (owner_of net ks) t) ∙ e in cc)
  | inr t ↦
      let rest = sym (cond-false (is_heard j && owns net j.client) (Some j) (owner_of net ks) t) ∙ e in
      elim (cases_eq j.number n) [
        | inl q ↦
            let both : ◌≡◌ {A = Option RelayConnection} (Some j) (Some o.connection) = sym (connection_of-same n j ks q) ∙ o.found in
            let same : j ≡ o.connection = some_same j o.connection both in
            let passes = and_both (is_heard j) (owns net j.client) (ap is_heard same ∙ o.heard)
            (net_owned net j.client (ap (λ (x : RelayConnection). x.client) same ∙ o.client)) in
            true≢false (sym passes ∙ t)
        | inr q ↦ owner_absent net ks rest n
            (record { connection = o.connection; found = sym (connection_of-other n j ks q) ∙ o.found; heard = o.heard; client = o.client })
      ]
]

-- what the code finds is what the machine finds
pub owner_is : (net : List ℕ) (os : Owners) (ks : List RelayConnection) → AreApart ks
    → HoldsOwners os ks → owner_in net os ≡ option_map number_of (owner_of net ks)
owner_is net os ks apart h = by (owner_of net ks) refl
  where
    none : owner_of net ks ≡ None → (o : Option ℕ) → owner_in net os ≡ o → owner_in net os ≡ None
    none e None q = q
    none e (Some n) q = absurd (owner_absent net ks e n (h.owned net n q))

    by : (o : Option RelayConnection) → owner_of net ks ≡ o → owner_in net os ≡ option_map number_of (owner_of net ks)
    by None e = none e (owner_in net os) refl ∙ sym (ap (option_map number_of) e)
    by (Some k) e =
        let o = owner_found net ks apart k e in
        h.owners net k.number (record { connection = k; found = o.found; heard = o.heard; client = o.client }) ∙ sym (ap (option_map number_of) e)

-- what was owned is free, by the map
pub owner_kept : (net : List ℕ) (os ps : Owners) → KeepsOthers (λ (k l : Vec ℕ). bytes_eq k.items l.items) (λ (k : Vec ℕ). bytes_eq net k.items) os ps
    → (other : List ℕ) → other ≢ net → owner_in other ps ≡ owner_in other os
unfolding KeepsOthers
owner_kept net os ps keeps other ne =
    keeps (λ (k : Vec ℕ). bytes_eq other k.items) (λ x y t. ap (λ z. bytes_eq z y.items) (bytes_same other x.items t))
    (λ k t. bytes_other other k.items (λ e. ne (e ∙ sym (bytes_same net k.items t))))

pub frees_by : (net : List ℕ) (os ps : Owners) → lookup (λ (k : Vec ℕ). bytes_eq net k.items) ps ≡ None
    → KeepsOthers (λ (k l : Vec ℕ). bytes_eq k.items l.items) (λ (k : Vec ℕ). bytes_eq net k.items) os ps → Frees net os ps
unfolding KeepsOthers
frees_by net os ps free keeps = record { free = free; others = λ other ne. owner_kept net os ps keeps other ne }
