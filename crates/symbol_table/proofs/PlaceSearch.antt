-- A search by halving among symbols in the order of their places.
use Rattle.std.proofs.Common.{◌≡◌, ℕ, ◌+◌, ◌-◌, ◌<◌, ◌≤◌, true, false, List, length, refl, sym, ◌∙◌, ap, arith, inl, inr}
use Rattle.std.specs.Prelude.{Some, slice_get, nat_lt, nat_le, ◌&&◌, ◌||◌, ◌==◌}
use Rattle.std.proofs.lemmas.Bool.{cases_Bool, ltb-true, ltb-false, leb-true, leb-false}
use Rattle.std.proofs.lemmas.Bool.Decides.{nat_tests}
use Rattle.std.proofs.lemmas.Option.{slice_get_within, slice_get-get_or}
use Rattle.spec_plant.specs.Description.{Area, Inputs, Outputs, Memory, Process}
use Rattle.spec_plant.specs.World.{area_number, is_same_area}
use Rattle.symbol_table.specs.Tables.{TableSymbol}
use Rattle.symbol_table.specs.PlaceOrders.{lies_before, IsPlaceOrder}
use Rattle.symbol_table.specs.Tiling.{begins_by, EachBefore, EachBehind, HasBegun, EndsLast, HasNoneBefore, BeginsFirst, HasNoneBehind}

-- numbers of areas, and bytes in them

begins_back-numbers : (x y z a n b k : ℕ) → (nat_lt x y || ((x == y) && nat_le (a + n) b)) ≡ true
    → (nat_lt y z || ((y == z) && nat_le b k)) ≡ true → (nat_lt x z || ((x == z) && nat_le a k)) ≡ true
begins_back-numbers x y z a n b k before begins = grind (arith, nat_tests)

begins-numbers : (x z a k : ℕ) → (x == z) ≡ true → a ≤ k → (nat_lt x z || ((x == z) && nat_le a k)) ≡ true
begins-numbers x z a k same le = grind (arith, nat_tests)

begun-numbers : (x z a k : ℕ) → (x == z) ≡ true → (nat_lt x z || ((x == z) && nat_le a k)) ≡ true → a ≤ k
begun-numbers x z a k same begins = grind (arith, nat_tests)

behind-numbers : (x z a k : ℕ) → (x == z) ≡ true → (nat_lt x z || ((x == z) && nat_le a k)) ≡ false → k < a
behind-numbers x z a k same begins = grind (arith, nat_tests)

apart-numbers : (x y z a n b : ℕ) → (x == z) ≡ true → (y == z) ≡ true → (nat_lt x y || ((x == y) && nat_le (a + n) b)) ≡ true → a + n ≤ b
apart-numbers x y z a n b one other before = grind (arith, nat_tests)

-- no symbol of the area stands before one of a later area that begins by a byte
none_before-numbers : (x y z a n b k : ℕ) → (x == z) ≡ true → (y == z) ≡ false
    → (nat_lt x y || ((x == y) && nat_le (a + n) b)) ≡ true → (nat_lt y z || ((y == z) && nat_le b k)) ≡ true → ⊥
none_before-numbers x y z a n b k one other before begins = grind (arith, nat_tests)

none_behind-numbers : (x y z a n b k : ℕ) → (x == z) ≡ true → (y == z) ≡ false
    → (nat_lt y x || ((y == x) && nat_le (b + n) a)) ≡ true → (nat_lt y z || ((y == z) && nat_le b k)) ≡ false → ⊥
none_behind-numbers x y z a n b k one other before begins = grind (arith, nat_tests)

pub same_area : (a b : Area) → is_same_area a b ≡ true → a ≡ b
same_area Inputs Inputs e = refl
same_area Inputs Outputs e = cc
same_area Inputs Memory e = cc
same_area Inputs Process e = cc
same_area Outputs Inputs e = cc
same_area Outputs Outputs e = refl
same_area Outputs Memory e = cc
same_area Outputs Process e = cc
same_area Memory Inputs e = cc
same_area Memory Outputs e = cc
same_area Memory Memory e = refl
same_area Memory Process e = cc
same_area Process Inputs e = cc
same_area Process Outputs e = cc
same_area Process Memory e = cc
same_area Process Process e = refl

begins_back : (area : Area) (at : ℕ) (s t : TableSymbol) → lies_before s t ≡ true → begins_by area at t ≡ true → begins_by area at s ≡ true
begins_back area at s t before begins =
    begins_back-numbers (area_number s.area) (area_number t.area) (area_number area) s.offset s.size t.offset at before begins

-- one index, one symbol
pub one_symbol : (symbols : List TableSymbol) (numbers : List ℕ) (i j m n : ℕ) (s t : TableSymbol) → i ≡ j
    → slice_get numbers i ≡ Some m → slice_get numbers j ≡ Some n → slice_get symbols m ≡ Some s → slice_get symbols n ≡ Some t → s ≡ t
one_symbol symbols numbers i j m n s t same gm gn sm tn =
    let number : Some m ≡ Some n = sym gm ∙ ap (slice_get numbers) same ∙ gn in
    let is_it : m ≡ n = cc in
    let both : Some s ≡ Some t = sym sm ∙ ap (slice_get symbols) is_it ∙ tn in
    cc

-- what is known when only the symbols from `low` to below `high` are left
pub record Halved (symbols : List TableSymbol) (numbers : List ℕ) (area : Area) (at low high : ℕ) : Type 0 where
  pub ordered : low ≤ high
  pub within : high ≤ length numbers
  pub before : EachBefore symbols numbers low (λ s. begins_by area at s ≡ true)
  pub behind : EachBehind symbols numbers high (λ s. begins_by area at s ≡ false)

module _ (symbols : List TableSymbol) (numbers : List ℕ) (area : Area) (at : ℕ) (order : IsPlaceOrder symbols numbers) where
  -- the middle symbol begins by the byte
  pub halved_up : (low high middle n : ℕ) (t : TableSymbol) → Halved symbols numbers area at low high
      → low ≤ middle → middle < high → slice_get numbers middle ≡ Some n → slice_get symbols n ≡ Some t
      → begins_by area at t ≡ true → Halved symbols numbers area at (middle + 1) high
  halved_up low high middle n t h from below gn tn begins = record { ordered = omega (arith, below); within = h.within; before = all; behind = h.behind }
    where
      all : EachBefore symbols numbers (middle + 1) (λ s. begins_by area at s ≡ true)
      all i m s upto gm sm =
          elim (cases_Bool (nat_lt i middle)) [
            | inl less ↦ begins_back area at s t (order.rising i middle m n s t (ltb-true i middle less) gm gn sm tn) begins
            | inr most ↦
                let least = ltb-false i middle most in
                let same : i ≡ middle = omega (arith, least, upto) in
                let is_it = one_symbol symbols numbers i middle m n s t same gm gn sm tn in
                ap (begins_by area at) is_it ∙ begins
          ]

  -- the middle symbol does not
  pub halved_down : (low high middle n : ℕ) (t : TableSymbol) → Halved symbols numbers area at low high
      → low ≤ middle → middle < high → slice_get numbers middle ≡ Some n → slice_get symbols n ≡ Some t
      → begins_by area at t ≡ false → Halved symbols numbers area at low middle
  halved_down low high middle n t h from below gn tn begins =
      record { ordered = from; within = (let w = h.within in omega (arith, below, w)); before = h.before; behind = all }
    where
      all : EachBehind symbols numbers middle (λ s. begins_by area at s ≡ false)
      all i m s least gm sm =
          elim (cases_Bool (nat_lt middle i)) [
            | inl less ↦
                let before = order.rising middle i n m t s (ltb-true middle i less) gn gm tn sm in
                elim (cases_Bool (begins_by area at s)) [
                  | inl begun ↦ let clash = begins_back area at t s before begun in cc
                  | inr not_begun ↦ not_begun
                ]
            | inr most ↦
                let upto = ltb-false middle i most in
                let same : i ≡ middle = omega (arith, least, upto) in
                let is_it = one_symbol symbols numbers i middle m n s t same gm gn sm tn in
                ap (begins_by area at) is_it ∙ begins
          ]

  -- each symbol has its index
  placed : (n : ℕ) (s : TableSymbol) → slice_get symbols n ≡ Some s → (k : ℕ) × (slice_get numbers k ≡ Some n)
  placed n s e =
      let there = order.whole n (slice_get_within symbols n s e) in
      (there.0, slice_get-get_or numbers there.0 n there.1 ∙ ap Some there.2)

  module _ (begun : ℕ) (has : HasBegun symbols numbers area at begun) where
    -- where a symbol of the area that begins by the byte stands in the order
    index_before : (k n : ℕ) (s : TableSymbol) → slice_get numbers k ≡ Some n
        → slice_get symbols n ≡ Some s → is_same_area s.area area ≡ true → s.offset ≤ at → k < begun
    index_before k n s gk e same le =
        elim (cases_Bool (nat_lt k begun)) [
          | inl less ↦ ltb-true k begun less
          | inr most ↦
              let begins = begins-numbers (area_number s.area) (area_number area) s.offset at same le in
              let not_begun = has.behind k n s (ltb-false k begun most) gk e in
              let clash : true ≡ false = sym begins ∙ not_begun in
              cc
        ]

    index_behind : (k n : ℕ) (s : TableSymbol) → slice_get numbers k ≡ Some n
        → slice_get symbols n ≡ Some s → is_same_area s.area area ≡ true → at < s.offset → begun ≤ k
    index_behind k n s gk e same more =
        elim (cases_Bool (nat_lt k begun)) [
          | inl less ↦
              let begins = has.before k n s (ltb-true k begun less) gk e in
              let le = begun-numbers (area_number s.area) (area_number area) s.offset at same begins in
              absurd (omega (arith, le, more))
          | inr most ↦ ltb-false k begun most
        ]

    pub none_begun : begun ≡ 0 → HasNoneBefore symbols area at
    none_begun none n s e same =
        let k = placed n s e in
        behind-numbers (area_number s.area) (area_number area) s.offset at same (has.behind k.0 n s (omega (arith, none)) k.1 e)

    pub all_begun : begun ≡ length numbers → HasNoneBehind symbols area at
    all_begun all n s e same =
        let k = placed n s e in
        let below = slice_get_within numbers k.0 n k.1 in
        begun-numbers (area_number s.area) (area_number area) s.offset at same (has.before k.0 n s (omega (arith, all, below)) k.1 e)

    pub ends_last : (m : ℕ) (t : TableSymbol) → 0 < begun → slice_get numbers (begun - 1) ≡ Some m
        → slice_get symbols m ≡ Some t → is_same_area t.area area ≡ true → EndsLast symbols area at (m, t.offset + t.size)
    ends_last m t some gm tm same = record {
      owner = t;
      there = tm;
      area_is = same;
      begins = begun-numbers (area_number t.area) (area_number area) t.offset at same (has.before (begun - 1) m t (omega (arith, some)) gm tm);
      end = refl;
      last = all;
    }
      where
        all : (n : ℕ) (s : TableSymbol) → slice_get symbols n ≡ Some s → is_same_area s.area area ≡ true → s.offset ≤ at → s.offset + s.size ≤ t.offset + t.size
        all n s e own le =
            let k = placed n s e in
            let below = index_before k.0 n s k.1 e own le in
            elim (cases_Bool (nat_lt k.0 (begun - 1))) [
              | inl less ↦
                  let before = order.rising k.0 (begun - 1) n m s t (ltb-true k.0 (begun - 1) less) k.1 gm e tm in
                  let apart = apart-numbers (area_number s.area) (area_number t.area) (area_number area) s.offset s.size t.offset own same before in
                  omega (arith, apart)
              | inr most ↦
                  let least = ltb-false k.0 (begun - 1) most in
                  let at_last : k.0 ≡ begun - 1 = omega (arith, least, below, some) in
                  let is_it = one_symbol symbols numbers k.0 (begun - 1) n m s t at_last k.1 gm e tm in
                  let equal = ap (λ (u : TableSymbol). u.offset + u.size) is_it in
                  omega (arith, equal)
            ]

    pub none_before : (m : ℕ) (t : TableSymbol) → 0 < begun → slice_get numbers (begun - 1) ≡ Some m
        → slice_get symbols m ≡ Some t → is_same_area t.area area ≡ false → HasNoneBefore symbols area at
    none_before m t some gm tm other n s e own =
        elim (cases_Bool (nat_le s.offset at)) [
          | inl le ↦
              let k = placed n s e in
              let below = index_before k.0 n s k.1 e own (leb-true s.offset at le) in
              elim (cases_Bool (nat_lt k.0 (begun - 1))) [
                | inl less ↦
                    let before = order.rising k.0 (begun - 1) n m s t (ltb-true k.0 (begun - 1) less) k.1 gm e tm in
                    let begins = has.before (begun - 1) m t (omega (arith, some)) gm tm in
                    absurd (none_before-numbers (area_number s.area) (area_number t.area)
                    (area_number area) s.offset s.size t.offset at own other before begins)
                | inr most ↦
                    let least = ltb-false k.0 (begun - 1) most in
                    let at_last : k.0 ≡ begun - 1 = omega (arith, least, below, some) in
                    let is_it = one_symbol symbols numbers k.0 (begun - 1) n m s t at_last k.1 gm e tm in
                    let clash : true ≡ false = sym own ∙ ap (λ (u : TableSymbol). is_same_area u.area area) is_it ∙ other in
                    cc
              ]
          | inr more ↦ leb-false s.offset at more
        ]

    pub begins_first : (m : ℕ) (t : TableSymbol) → slice_get numbers begun ≡ Some m
        → slice_get symbols m ≡ Some t → is_same_area t.area area ≡ true → BeginsFirst symbols area at t.offset
    begins_first m t gm tm same = record {
      number = m;
      owner = t;
      there = tm;
      area_is = same;
      behind = behind-numbers (area_number t.area) (area_number area) t.offset at same (has.behind begun m t (omega arith) gm tm);
      begins = refl;
      first = all;
    }
      where
        all : (n : ℕ) (s : TableSymbol) → slice_get symbols n ≡ Some s → is_same_area s.area area ≡ true → at < s.offset → t.offset ≤ s.offset
        all n s e own more =
            let k = placed n s e in
            let least = index_behind k.0 n s k.1 e own more in
            elim (cases_Bool (nat_lt begun k.0)) [
              | inl less ↦
                  let before = order.rising begun k.0 m n t s (ltb-true begun k.0 less) gm k.1 tm e in
                  let apart = apart-numbers (area_number t.area) (area_number s.area) (area_number area) t.offset t.size s.offset same own before in
                  omega (arith, apart)
              | inr most ↦
                  let upto = ltb-false begun k.0 most in
                  let at_first : k.0 ≡ begun = omega (arith, least, upto) in
                  let is_it = one_symbol symbols numbers k.0 begun n m s t at_first k.1 gm e tm in
                  let equal = ap (λ (u : TableSymbol). u.offset) is_it in
                  omega (arith, equal)
            ]

    pub none_behind : (m : ℕ) (t : TableSymbol) → slice_get numbers begun ≡ Some m
        → slice_get symbols m ≡ Some t → is_same_area t.area area ≡ false → HasNoneBehind symbols area at
    none_behind m t gm tm other n s e own =
        elim (cases_Bool (nat_lt at s.offset)) [
          | inl more ↦
              let k = placed n s e in
              let least = index_behind k.0 n s k.1 e own (ltb-true at s.offset more) in
              elim (cases_Bool (nat_lt begun k.0)) [
                | inl less ↦
                    let before = order.rising begun k.0 m n t s (ltb-true begun k.0 less) gm k.1 tm e in
                    let begins = has.behind begun m t (omega arith) gm tm in
                    absurd (none_behind-numbers (area_number s.area) (area_number t.area)
                    (area_number area) s.offset t.size t.offset at own other before begins)
                | inr most ↦
                    let upto = ltb-false begun k.0 most in
                    let at_first : k.0 ≡ begun = omega (arith, least, upto) in
                    let is_it = one_symbol symbols numbers k.0 begun n m s t at_first k.1 gm e tm in
                    let clash : true ≡ false = sym own ∙ ap (λ (u : TableSymbol). is_same_area u.area area) is_it ∙ other in
                    cc
              ]
          | inr le ↦ ltb-false at s.offset le
        ]
