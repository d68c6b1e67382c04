-- What the walks of the functions with a pointer share. Assumes `Logic`.
--     run_seen      a run of bytes is seen among those that are lent
--     run_out, run_in      a run of bytes is taken out of the block's, and others are put in its place
--     to_room      bytes that are no longer wanted are room, with the room behind them
--     block_size, block_align      the layout of a block of bytes
--     bare_made, bare_had, mark_made, mark_had      values that take no bytes
--     three_made      a tuple of three
use Rattle.std.specs.Prelude.{◌≡◌, ℕ, zero, suc, ◌+◌, ◌^◌, ◌<◌, ◌≤◌, List, [], ◌∷◌, ◌++◌, length, take, drop, refl}
use Rattle.std.proofs.Common.{sym, ◌∙◌, ap, subst, arith, length-take, length-drop, take-append-drop, mul-one}
use lib.Seq.{drop-drop}
use seplogic.Ra.Ura.{Ura}
use base.Fraction.{full_share}
use base.Fml.{Fml, Lft, ftrue, fsep, froom, fat}
use base.Logic.{ent, sep, emp, id⊢, via, snd∗, mono_r}
use mir.Raw.{raw as bare}
use mir.Syntax.{Ty, w8, ty_int}
use mir.Val.{Val, vint, vstruct, vcons, vnil, of_list}
use prog.Capped.{capped_is}
use prog.Memory.{size, align, capped}
use prog.RawLaws.{size-raw, align-raw}
use types.Kit.{Goal, Seq, Step, step, Item, ‵, ◌⊛◌, ◌$◌, ◌∵◌, !, qed, by, move, keep, drop as skip, use1, use2}
use types.Kit.{split, fsplit, fjoin, fpick, fpack, feq_i, feq_l, rewrite, done}
use types.Logic.{Logic, sem}
use types.SemTy.{cells}
use denote.Builtin.{u8}
use denote.Memory.{mem, part_at, shared_of}
use denote.Plain.{uint_out}
use denote.RattleType.{RattleType, Valss}
use denote.Shadow.{makes_shadow}
use denote.Slice.{elements_shared}
use denote.Steps.{nothing}
use denote.Struct.Declared as Declared
use denote.Struct.Owning.{shape}
use denote.Struct.Struct.{Struct, within}
use denote.Struct.Tuple.{Tuple, tuple_type}
use Rattle.core.specs.declared.alloc.Allocator.{Ghosts}
use Rattle.process_image.specs.contracts.block.Block as B
use Rattle.process_image.specs.contracts.block.Deed as D
use Rattle.process_image.specs.Ownership.{bytes_type}

module _ {M : Type 1} {𝓤 : Ura M} (𝓛 : Logic 𝓤) (b : ℕ) where
  open 𝓛 use {H}

  module _ (κ : Lft) where
    abbrev Seen : ℕ → List ℕ → Fml
    Seen o xs = elements_shared u8 xs b o κ

    behind : (n : ℕ) (xs : List ℕ) (o at : ℕ) → at ≡ n + o → ent 𝓤 (sem 𝓛 (Seen o xs)) (sem 𝓛 (Seen at (drop n xs)))
    behind zero xs o at e = subst (λ k. ent 𝓤 (sem 𝓛 (Seen o xs)) (sem 𝓛 (Seen k xs))) (omega (arith, e)) (id⊢ 𝓤 _)
    behind (suc n) [] o at e = id⊢ 𝓤 _
    behind (suc n) (x ∷ xs) o at e =
        via 𝓤 (sem 𝓛 (Seen (o + 1) xs)) (snd∗ 𝓤 (sem 𝓛 (shared_of u8 x b o κ)) (sem 𝓛 (Seen (o + 1) xs))) (behind n xs (o + 1) at (omega (arith, e)))

    before : (n : ℕ) (xs : List ℕ) (o : ℕ) → ent 𝓤 (sem 𝓛 (Seen o xs)) (sem 𝓛 (Seen o (take n xs)))
    before zero xs o = qed 𝓛 (‵ (Seen o xs) ∷ []) ∵ keep ! [] $ done !
    before (suc n) [] o = id⊢ 𝓤 _
    before (suc n) (x ∷ xs) o = mono_r 𝓤 (sem 𝓛 (shared_of u8 x b o κ)) (before n xs (o + 1))

    pub run_seen : (xs : List ℕ) (from len o : ℕ) → ent 𝓤 (sem 𝓛 (Seen o xs)) (sem 𝓛 (Seen (from + o) (take len (drop from xs))))
    run_seen xs from len o = via 𝓤 (sem 𝓛 (Seen (from + o) (drop from xs))) (behind from xs o (from + o) refl) (before len (drop from xs) (from + o))

  abbrev Row : ℕ → List ℕ → Fml
  Row o xs = cells (mem u8) xs b o

  cut : (xs ys : List ℕ) (o at : ℕ) → at ≡ length xs + o → ent 𝓤 (sem 𝓛 (Row o (xs ++ ys))) (sep 𝓤 (sem 𝓛 (Row o xs)) (sem 𝓛 (Row at ys)))
  cut [] ys o at e =
      let same : o ≡ at = omega (arith, e) in
      subst (λ k. ent 𝓤 (sem 𝓛 (Row o ys)) (sep 𝓤 (sem 𝓛 (Row o [])) (sem 𝓛 (Row k ys)))) same (qed 𝓛 (‵ (Row o ys) ∷ []) ∵ nothing ! $ done !)
  cut (x ∷ xs) ys o at e = qed 𝓛 (‵ (Row o ((x ∷ xs) ++ ys)) ∷ []) ∵ fsplit ! $ move ! (1 ∷ []) $
      use1 𝓛 (‵ (Row (o + 1) xs) ⊛ ‵ (Row at ys)) (cut xs ys (o + 1) at (omega (arith, e))) $ split ! $ move ! (2 ∷ 0 ∷ []) $ fjoin ! $ done !

  pub glue : (xs ys : List ℕ) (o at : ℕ) → at ≡ length xs + o → ent 𝓤 (sep 𝓤 (sem 𝓛 (Row o xs)) (sem 𝓛 (Row at ys))) (sem 𝓛 (Row o (xs ++ ys)))
  glue [] ys o at e =
      let same : at ≡ o = omega (arith, e) in
      subst (λ k. ent 𝓤 (sep 𝓤 (sem 𝓛 (Row o [])) (sem 𝓛 (Row at ys))) (sem 𝓛 (Row k ys))) same (qed 𝓛 (‵ ftrue ∷ ‵ (Row at ys) ∷ []) ∵ skip ! $ done !)
  glue (x ∷ xs) ys o at e = qed 𝓛 (‵ (Row o (x ∷ xs)) ∷ ‵ (Row at ys) ∷ []) ∵ fsplit ! $ move ! (1 ∷ 2 ∷ []) $
      use2 𝓛 (‵ (Row (o + 1) (xs ++ ys))) (glue xs ys (o + 1) at (omega (arith, e))) $ move ! (1 ∷ 0 ∷ []) $ fjoin ! $ done !

  module _ (o : ℕ) (xs : List ℕ) (from len : ℕ) (within : from + len ≤ length xs) where
    -- the bytes but for the len from the place `from` on
    abbrev pub Around : Fml
    Around = fsep (Row o (take from xs)) (Row (len + (from + o)) (drop (from + len) xs))

    fore : from + o ≡ length (take from xs) + o
    fore = omega (arith, length-take from xs)

    abbrev middle : List ℕ
    middle = take len (drop from xs)

    parts : xs ≡ take from xs ++ (middle ++ drop (from + len) xs)
    parts = sym (take-append-drop from xs)
        ∙ ap (λ l. take from xs ++ l) (sym (take-append-drop len (drop from xs)) ∙ ap (λ l. middle ++ l) (drop-drop len from xs))

    pub run_out : ent 𝓤 (sem 𝓛 (Row o xs)) (sep 𝓤 (sem 𝓛 (Row (from + o) middle)) (sem 𝓛 Around))
    run_out =
        let rest = drop (from + len) xs in
        let long : len + (from + o) ≡ length middle + (from + o) = omega (arith, length-take len (drop from xs), length-drop from xs) in
        qed 𝓛 (‵ (Row o xs) ∷ []) ∵ rewrite ! 0 (λ l. ‵ (Row o l)) parts refl $
        use1 𝓛 (‵ (Row o (take from xs)) ⊛ ‵ (Row (from + o) (middle ++ rest)))
        (cut (take from xs) (middle ++ rest) o (from + o) fore) $ split ! $ move ! (1 ∷ []) $
        use1 𝓛 (‵ (Row (from + o) middle) ⊛ ‵ (Row (len + (from + o)) rest)) (cut middle rest (from + o) (len + (from + o)) long) $
        split ! $ move ! (2 ∷ 1 ∷ []) $ fjoin ! $ move ! (1 ∷ []) $ done !

    pub run_in : (ws : List ℕ) → len ≡ length ws
        → ent 𝓤 (sep 𝓤 (sem 𝓛 (Row (from + o) ws)) (sem 𝓛 Around)) (sem 𝓛 (Row o (take from xs ++ (ws ++ drop (from + len) xs))))
    run_in ws long =
        let rest = drop (from + len) xs in
        qed 𝓛 (‵ (Row (from + o) ws) ∷ ‵ Around ∷ []) ∵ move ! (1 ∷ []) $ fsplit ! $ move ! (2 ∷ 1 ∷ []) $
        use2 𝓛 (‵ (Row (from + o) (ws ++ rest))) (glue ws rest (from + o) (len + (from + o)) (ap (λ k. k + (from + o)) long)) $ move ! (1 ∷ 0 ∷ []) $
        by ! (glue (take from xs) (ws ++ rest) o (from + o) fore)

  byte_room : (x o : ℕ) → ent 𝓤 (sem 𝓛 (part_at u8 full_share x b o)) (H.room (ty_int w8) b o)
  byte_room x o = qed 𝓛 (‵ (part_at u8 full_share x b o) ∷ []) ∵
      use1 𝓛 (‵ (fat full_share (ty_int w8) b o (vint w8 x))) (uint_out 𝓛 full_share w8 x b o) $ by ! (𝓛.laws.at_room (ty_int w8) b o (vint w8 x))

  pub to_room : (xs : List ℕ) (room o : ℕ)
      → ent 𝓤 (sep 𝓤 (sem 𝓛 (Row o xs)) (sem 𝓛 (froom (bytes_type room) b (length xs + o)))) (H.room (bytes_type (length xs + room)) b o)
  to_room [] room o =
      let same : 0 + o ≡ o = omega arith in let all : room ≡ 0 + room = omega arith in
      qed 𝓛 (‵ ftrue ∷ ‵ (froom (bytes_type room) b (0 + o)) ∷ []) ∵ skip ! $ rewrite ! 0 (λ k. ‵ (froom (bytes_type room) b k)) same refl $
      rewrite ! 0 (λ k. ‵ (froom (bytes_type k) b o)) all refl $ done !
  to_room (x ∷ xs) room o =
      let next : suc (length xs) + o ≡ length xs + (o + 1) = omega arith in let more : suc (length xs + room) ≡ suc (length xs) + room = omega arith in
      qed 𝓛 (‵ (Row o (x ∷ xs)) ∷ ‵ (froom (bytes_type room) b (suc (length xs) + o)) ∷ []) ∵ fsplit ! $ move ! (2 ∷ []) $
      rewrite ! 0 (λ k. ‵ (froom (bytes_type room) b k)) next refl $ move ! (2 ∷ 0 ∷ []) $
      use2 𝓛 (‵ (froom (bytes_type (length xs + room)) b (o + 1))) (to_room xs room (o + 1)) $ move !
      (1 ∷ []) $ use1 𝓛 (‵ (froom (ty_int w8) b o)) (byte_room x o) $
      use2 𝓛 (‵ (froom (bytes_type (suc (length xs + room))) b o)) (𝓛.laws.room_cons (ty_int w8) (length xs + room) b o) $
      rewrite ! 0 (λ k. ‵ (froom (bytes_type k) b o)) more refl $ done !

-- the type that a block of n bytes is allocated for
abbrev pub block_type : ℕ → Ty
block_type n = bare (bytes_type n)

pub block_size : (n : ℕ) → n < 2 ^ 64 → capped (size (block_type n)) ≡ n
block_size n fits = ap capped (size-raw (bytes_type n) ∙ mul-one n) ∙ capped_is n fits

pub block_align : (n : ℕ) → capped (align (block_type n)) ≡ 1
block_align n = ap capped (align-raw (bytes_type n))

-- the fields of a block, which has none, and those of a deed
abbrev pub Bare : RattleType
Bare = Struct (shape B.the_type)

abbrev pub Marked : (P : RattleType) → Ghosts P.Denot → RattleType
Marked P g = Struct (shape (D.the_type P g))

abbrev pub none : Val
none = vstruct vnil

abbrev pub mark : Val
mark = vstruct (vcons none vnil)

pub mark_made : (P : RattleType) (g : Ghosts P.Denot) {M : Type 1} {𝓤 : Ura M} (𝓛 : Logic 𝓤) → ent 𝓤 (emp 𝓤) (sem 𝓛 ((Marked P g).own_val (tt, tt) (mark ∷ [])))
mark_made P g 𝓛 = makes_shadow 𝓛 ((Marked P g).own_val (tt, tt) (mark ∷ []))
    (λ vss. (tt, ((λ uss. (tt, tt)), tt))) ((none ∷ [], tt), (refl, ((tt, (refl, tt)), tt)))

module _ {M : Type 1} {𝓤 : Ura M} {𝓛 : Logic 𝓤} {K : Type 0} {Γ : List (Item 𝓤)} {G : Goal 𝓤 𝓛.H} where
  pub bare_made : K → Step K 𝓛 (‵ (Bare.own_val tt (none ∷ [])) ∷ Γ) G Γ G
  bare_made t = step (λ s.
      nothing t $ feq_i t (List Val) (none ∷ []) (none ∷ []) refl $ fjoin t $ fpack t (Valss []) (within (shape B.the_type) tt (none ∷ [])) tt $ s)

  pub bare_had : K → (vs : List Val) → (vs ≡ none ∷ [] → Seq K 𝓛 Γ G) → Seq K 𝓛 (‵ (Bare.own_val tt vs) ∷ Γ) G
  bare_had t vs k = fpick t (λ vss. fsplit t $ feq_l t (λ e. skip t $ k e))

  pub mark_had : K → (P : RattleType) (g : Ghosts P.Denot) (vs : List Val)
      → (vs ≡ mark ∷ [] → Seq K 𝓛 Γ G) → Seq K 𝓛 (‵ ((Marked P g).own_val (tt, tt) vs) ∷ Γ) G
  mark_had t P g vs k = fpick t (λ vss. fsplit t $ feq_l t (λ all. fsplit t $ fpick t (λ uss. fsplit t $ feq_l t (λ e. skip t $ skip t $
      k (subst (λ (ws : List Val). vs ≡ vstruct (of_list (ws ++ [])) ∷ []) e all)))))

abbrev pub three : Val → Val → Val → Val
three u v w = vstruct (vcons u (vcons v (vcons w vnil)))

pub three_made : {M : Type 1} {𝓤 : Ura M} (𝓛 : Logic 𝓤) (R S T : RattleType) (x : R.Denot) (y : S.Denot) (z : T.Denot) (u v w : Val)
    → ent 𝓤 (sep 𝓤 (sem 𝓛 (R.own_val x (u ∷ []))) (sep 𝓤 (sem 𝓛 (S.own_val y (v ∷ []))) (sem 𝓛 (T.own_val z (w ∷ [])))))
    (sem 𝓛 ((Tuple (R ∷ S ∷ T ∷ [])).own_val (x, y, z) (three u v w ∷ [])))
three_made 𝓛 R S T x y z u v w =
    let rows = R ∷ S ∷ T ∷ [] in
    qed 𝓛 (‵ (R.own_val x (u ∷ [])) ∷ ‵ (S.own_val y (v ∷ [])) ∷ ‵ (T.own_val z (w ∷ [])) ∷ []) ∵
    nothing ! $ move ! (3 ∷ 0 ∷ []) $ fjoin ! $ move ! (2 ∷ 0 ∷ []) $ fjoin ! $ move !
    (1 ∷ 0 ∷ []) $ fjoin ! $ feq_i ! (List Val) (three u v w ∷ []) (three u v w ∷ []) refl $ fjoin ! $
    fpack ! (Valss rows) (within (Declared.shape (tuple_type rows)) (x, (y, (z, tt))) (three u v w ∷ [])) (u ∷ [], (v ∷ [], (w ∷ [], tt))) $ done !
