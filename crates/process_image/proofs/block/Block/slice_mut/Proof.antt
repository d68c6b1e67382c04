-- `slice_mut` lends a run of the bytes, and the block follows it. Assumes `Logic`.
use Rattle.std.proofs.Common.{◌≡◌, ℕ, ◌+◌, ◌*◌, ◌^◌, ◌<◌, ◌≤◌, List, [], ◌∷◌, ◌++◌, length, refl, sym, ap}
use Rattle.std.proofs.Common.{subst, ◌∙◌, arith, length-take, length-take-le, length-drop, length-append}
use lib.ListN.{take, drop as drop_l}
use lib.Seq.{take_at}
use seplogic.Ra.Ura.{Ura}
use mir.Syntax.{named, w64, ty_ptr}
use mir.Val.{Val, vptr, vint}
use base.Fraction.{full_share}
use base.Logic.{SProp, ent, sep, never, id⊢}
use base.Fml.{Lft, GName, Share, Fml, ftrue, fsep, flft, fat, froom}
use prog.Memory.{Memory}
use prog.Routine.{Routine}
use prog.Wp.{Calls, Loops, WpFn, Tables}
use contract.Monad.{Fun, fact}
use contract.Running.{tables, tables_of}
use sound.WpLaws.{WpFn-mono}
use types.Logic.{Logic, sem}
use types.SemTy.{cells}
use types.Kit.{‵, raw, ◌⊛◌, some, later, await, pick, prop, ◌$◌, ◌∵◌, !, qed, by, move, keep, use1, use2}
use types.Kit.{split, join, group, rewrite, fsplit, fsplit3, fjoin, fjoin3, fpack, feq_l, regoal, suffices}
use types.Kit.{frame, done, at_ret, flt_l, flt_i}
use types.Part.{agg}
use types.Run.{enter, returns, of_opd, and_then, no_more, bin, first, blocks, exec}
use types.ByLocal.{alloc_all, pass_all, free_all, look_at, get, sets, sets_last, env, take_at as take_local, give_at as give_local}
use denote.Array.{Array}
use denote.Builtin.{u8, RawPtr, usize}
use denote.Exit.{yes, no}
use denote.Follow.{follows}
use denote.FollowSlice.{Elements, lends_Elements}
use denote.Memory.{mem, cell_at, part_of}
use denote.RattleType.{RattleType, owns}
use denote.RawPtr.{Ptr, block_ptr, ptr_val, in_a_block, rawptr_Lawful}
use denote.Ref.{MutBor, MutRef}
use denote.Signature.{plain, mut_ref_to}
use denote.Slice.{MutSlice, slice_val}
use denote.Steps.{nothing, heard, opens}
use denote.Struct.Owning.{shape}
use denote.Struct.Struct.{Struct}
use denote.Triple.Clauses.{Clauses, Ended, closing}
use denote.Triple.Spec.{Meets, triple_of}
use denote.Triple.Table.{entered}
use denote.Triple.Walked.{says, Stays, stay_dropped, walk_of, ends_at, walk_Meets, Goes-dropped, Goes-spent_ref}
use Rattle.std.specs.List.{refill}
use Rattle.process_image.specs.Ownership.{bytes_type, block_owned}
use Rattle.process_image.specs.Lends.{block_after_loan}
use Rattle.process_image.proofs.Memory.{Around, run_out, run_in}
use Rattle.process_image.specs.contracts.block.Block as B
use Rattle.process_image.specs.contracts.block.Block.slice_mut as F
use Rattle.process_image.specs.contracts.block.Block.slice_mut.Key.{name as #self}
use Rattle.process_image.proofs.block.Block.slice_mut.Statement as stated
use Rattle.process_image.proofs.block.Block.slice_mut.Code as code

abbrev R : RattleType
R = B.the_row

-- the block's fields: there are none
abbrev Bare : RattleType
Bare = Struct (shape B.the_type)

abbrev ended : Ended
ended = F.ended

abbrev stayed : Stays ended.signature.params ended.kept
stayed = (
  stay_dropped (mut_ref_to (0 ∷ []) tt (plain (λ _. R))) no,
  (stay_dropped (plain (λ _. RawPtr)) yes, (stay_dropped (plain (λ _. usize)) yes, (stay_dropped (plain (λ _. usize)) yes, tt))),
)

module _ {M : Type 1} {𝓤 : Ura M} (𝓛 : Logic 𝓤) (at_mem : Memory → SProp 𝓤) (run : Routine → Fun 𝓤) where
  open 𝓛 use {H, A}

  abbrev clauses : Clauses 𝓤 ended
  clauses = F.clauses 𝓛 at_mem run

  module _ (C : Calls 𝓤 H) (Λ : Loops 𝓤 H) (z : (walk_of 𝓛 ended stayed clauses).Ghost) where
    abbrev Post : Val → SProp 𝓤
    Post = (walk_of 𝓛 ended stayed clauses).post z

    abbrev κ : Lft
    κ = z.0.0.0

    abbrev q : Share
    q = z.0.1.0

    abbrev self : MutBor R.Denot
    self = z.0.3.0

    abbrev d : R.Denot
    d = self.now

    abbrev rb : ℕ
    rb = self.ref_ptr.0

    abbrev ro : ℕ
    ro = self.ref_ptr.1

    abbrev from : ℕ
    from = z.0.3.1.1.0

    abbrev len : ℕ
    len = z.0.3.1.1.1.0

    abbrev old : List ℕ
    old = take len (drop_l from d.bytes)

    abbrev new : List ℕ → R.Denot
    new = block_after_loan d from len

    module _ (within : from + len ≤ length d.bytes) (small : length d.bytes + d.room < 2 ^ 63) (vs : List Val) (b o : ℕ) where
      -- all but the run
      abbrev Rest : Fml
      Rest = fsep (fsep (Around 𝓛 b o d.bytes from len within) (froom (bytes_type d.room) b (length d.bytes + o)))
          (fsep (Bare.own_val tt vs) (cell_at full_share R.mir vs rb ro))

      long : length old ≡ len
      long = length-take-le len _ (omega (arith, within, length-drop from d.bytes))

      back : d.at ≡ block_ptr b o → (ws : List ℕ) → length ws ≡ length old
          → ent 𝓤 (sep 𝓤 (sem 𝓛 (cells (mem u8) ws b (from + o))) (sem 𝓛 Rest)) (sem 𝓛 ((mem R).own_at (new ws) rb ro))
      unfolding part_of
      back e ws same =
          let all : refill len old ws ≡ ws = take_at ws (drop_l (length ws) old) len (same ∙ long) in
          let tail = drop_l (from + len) d.bytes in
          let kept : length (new ws).bytes ≡ length d.bytes = ap (λ l. length (take from d.bytes ++ (l ++ tail))) all
          ∙ omega (
            arith,
            within,
            same,
            long,
            length-append (take from d.bytes) (ws ++ tail),
            length-append ws tail,
            length-take from d.bytes,
            length-drop (from + len) d.bytes,
          ) in
          qed 𝓛 (‵ (cells (mem u8) ws b (from + o)) ∷ ‵ Rest ∷ []) ∵ move ! (1 ∷ []) $ fsplit ! $ fsplit ! $ move ! (3 ∷ 0 ∷ []) $
          use2 𝓛 (‵ (cells (mem u8) (take from d.bytes ++ (ws ++ tail)) b o)) (run_in 𝓛 b o d.bytes from len within ws (sym (same ∙ long))) $
          rewrite ! 0 (λ l. ‵ (cells (mem u8) (take from d.bytes ++ (l ++ tail)) b o)) (sym all) refl $
          move ! (1 ∷ []) $ rewrite ! 0 (λ k. ‵ (froom (bytes_type d.room) b (k + o))) (sym kept) refl $ move ! (1 ∷ 0 ∷ []) $ fjoin ! $
          flt_i ! (length (new ws).bytes + d.room) (2 ^ 63) (subst (λ k. k + d.room < 2 ^ 63) (sym kept) small) $ fjoin ! $
          rewrite ! 0 (λ (p : Ptr). ‵ (block_owned p (new ws).bytes d.room)) (sym e) refl $ move !
          (1 ∷ []) $ fsplit ! $ move ! (0 ∷ 2 ∷ []) $ fjoin ! $ move ! (1 ∷ 0 ∷ []) $ fjoin ! $
          fpack ! (List Val) (λ us. fsep (cell_at full_share R.mir us rb ro) (R.own_val (new ws) us)) vs $ done !

    exits : (v : Val) (r : MutBor (List ℕ)) → r.now ≡ old
        → ent 𝓤 (sep 𝓤 (sem 𝓛 ((MutSlice (named 0) κ u8).own_val r (v ∷ [])))
        (sep 𝓤 (A.lft κ q) (sem 𝓛 (follows R (Array u8 0) self.ghost_name r.ghost_name new)))) (Post v)
    exits v r e =
        qed 𝓛 (‵ ((MutSlice (named 0) κ u8).own_val r (v ∷ [])) ∷ ‵ (flft κ q) ∷ ‵ (follows R (Array u8 0) self.ghost_name r.ghost_name new) ∷ []) ∵
        suffices ! _ (ends_at 𝓛 ended stayed clauses z v r (tt, (tt, (tt, (tt, tt)))) (tt, (tt, (tt, (tt, tt))))) $
        nothing ! $ nothing ! $ fjoin ! $ nothing ! $ fjoin ! $ nothing ! $ fjoin ! $ nothing ! $ fjoin
        ! $ join ! $ nothing ! $ move ! (2 ∷ 0 ∷ []) $ join ! $ join ! $ frame ! $ says ! e $ done !

    walks : ent 𝓤 ((walk_of 𝓛 ended stayed clauses).pre z) (WpFn 𝓤 H C Λ code.function ((walk_of 𝓛 ended stayed clauses).args z) Post)
    walks =
        let a = z.0.3 in let vss = z.0.4 in let at = a.1.0 in let me = vptr rb ro in
        let Asked = (at ≡ d.at) × (from + len ≤ length d.bytes) in
        let stored = R.coded.code d in
        qed 𝓛 (((‵ (flft κ q) ⊛ ‵ ftrue) ⊛ ‵ (owns (MutRef (named 0) κ R ∷ RawPtr ∷ usize ∷ usize ∷ []) a vss)) ∷ raw (fact 𝓤 Asked) ∷ []) ∵
        move ! (1 ∷ []) $ heard ! Asked (λ asked. split ! $ split ! $ move ! (2 ∷ []) $ fsplit ! $ fsplit3 ! $ feq_l ! (λ is₀. move ! (2 ∷ []) $
        fsplit ! $ feq_l ! (λ is₁. fsplit ! $ fsplit ! $ feq_l !
        (λ is₂. flt_l ! (λ fits_from. fsplit ! $ fsplit ! $ feq_l ! (λ is₃. flt_l ! (λ fits_len. keep ! (1 ∷ 2 ∷ 3 ∷ []) $
        regoal ! (λ (us : List Val). prop (WpFn 𝓤 H C Λ code.function (us ++ (vss.1.0 ++ (vss.1.1.0 ++ (vss.1.1.1.0 ++ [])))) Post)) is₀ refl $
        regoal ! (λ (us : List Val). prop (WpFn 𝓤 H C Λ code.function ((me ∷ []) ++ (us ++ (vss.1.1.0 ++ (vss.1.1.1.0 ++ [])))) Post))
        (is₁ ∙ ap (λ p. ptr_val p ∷ []) asked.0) refl $
        regoal ! (λ (us : List Val). prop (WpFn 𝓤 H C Λ code.function ((me ∷ []) ++ ((ptr_val d.at ∷ []) ++ (us ++ (vss.1.1.1.0 ++ [])))) Post)) is₂ refl $
        regoal ! (λ (us : List Val). prop
        (WpFn 𝓤 H C Λ code.function ((me ∷ []) ++ ((ptr_val d.at ∷ []) ++ ((vint w64 from ∷ []) ++ (us ++ [])))) Post)) is₃ refl $
        enter ! C Λ code.function (me ∷ ptr_val d.at ∷ vint w64 from ∷ vint w64 len ∷ []) Post $
        alloc_all ! (λ l. pass_all ! refl (
          (tt, tt),
          (
            ((rawptr_Lawful 𝓛).typed d.at (ptr_val d.at ∷ []) refl).0,
            ((tt, record { fits = fits_from }), ((tt, record { fits = fits_len }), tt)),
          ),
        ) $
        opens ! tt R {h = d} rb ro (λ vs. move ! (1 ∷ []) $ fsplit ! $ move ! (1 ∷ []) $
        in_a_block ! d.at (λ p. block_owned p d.bytes d.room) (id⊢ 𝓤 (never 𝓤)) (λ b o e. fsplit ! $ flt_l ! (λ small. fsplit ! $
        take_local ! 2 $ rewrite ! 0 (λ (p : Ptr). ‵ (fat full_share ty_ptr (l 2) 0 (ptr_val p))) e refl $ give_local ! 2 $
        first ! $ blocks ! $
        sets ! (bin ! (get ! refl) (get ! refl) tt) refl (tt, tt) $
        sets_last ! (agg ! (and_then ! (get ! refl) (and_then ! (get ! refl) (no_more !)))) refl (tt, (tt, (record { fits = fits_len }, tt))) $
        exec ! C Λ (env (code.function).locals l) code.Mir.t-2 (at_ret (env (code.function).locals l) Post) $
        sets ! (of_opd ! (get ! refl)) refl (tt, (tt, (record { fits = fits_len }, tt))) $
        -- [the bytes; the room; the fields; their cell; the open borrow, in three entries]
        let within = asked.1 in let count = long within small vs b o in
        let lent : Fml = Rest within small vs b o in let way = back within small vs b o e in
        let roomy : length old < 2 ^ 64 = omega (arith, count, within, small) in
        let fitting : length old * 1 < 2 ^ 63 = omega (arith, count, within, small) in
        use1 𝓛 (‵ (cells (mem u8) old b (from + o)) ⊛ ‵ (Around 𝓛 b o d.bytes from len within)) (run_out 𝓛 b o d.bytes from len within) $ split ! $
        move ! (1 ∷ 2 ∷ []) $ fjoin ! $ move ! (0 ∷ 2 ∷ 3 ∷ []) $ fjoin3 ! $ move ! (2 ∷ 3 ∷ 4 ∷ 1 ∷ 0 ∷ []) $ group ! 5 $
        use1 𝓛 (later (some (λ (δ : GName). raw
        (Elements 𝓛 R u8 new (named 0) κ q rb ro b (from + o) self.ghost_name old (roomy, fitting) (sem 𝓛 lent) way δ))))
        (lends_Elements 𝓛 R u8 new (named 0) κ q rb ro b (from + o) self.ghost_name old (roomy, fitting) (sem 𝓛 lent) way stored stored)
        $ await ! tt $ pick ! (λ δ.
        let r : MutBor (List ℕ) = record { ref_ptr = (b, from + o); ghost_name = δ; now = old } in
        returns ! (look_at ! 0 refl) $ free_all ! refl $ keep ! (0 ∷ []) $
        by ! (subst (λ k. ent 𝓤 (Elements 𝓛 R u8 new (named 0) κ q rb ro b (from + o) self.ghost_name old (roomy, fitting) (sem 𝓛 lent) way δ)
        (Post (slice_val (b, from + o) k))) count
        (exits (slice_val (b, from + o) (length old)) r refl))))))))))))))

  meets : (𝓣 : Tables 𝓤 H) → Meets 𝓛 ended.signature (WpFn 𝓤 H 𝓣.C 𝓣.Λ code.function) (closing 𝓛 ended clauses)
  meets 𝓣 =
      walk_Meets 𝓛 ended stayed (
        Goes-spent_ref 𝓛 1 (0 ∷ []) tt (plain (λ _. R)),
        (
          Goes-dropped 𝓛 1 (plain (λ _. RawPtr)) yes (λ κs x f. refl),
          (Goes-dropped 𝓛 1 (plain (λ _. usize)) yes (λ κs x f. refl), (Goes-dropped 𝓛 1 (plain (λ _. usize)) yes (λ κs x f. refl), tt)),
        ),
      ) clauses
      (WpFn 𝓤 H 𝓣.C 𝓣.Λ code.function) (WpFn-mono 𝓤 H 𝓛.laws 𝓣 code.function) (walks 𝓣.C 𝓣.Λ)

pub slice_mut_spec : {M : Type 1} → stated.statement M
unfolding tables_of
slice_mut_spec 𝓤 𝓛 𝓜 𝓡 wired =
    let 𝓣 : Tables 𝓤 𝓛.H = tables_of 𝓤 𝓛.H 𝓜 (tables 𝓤 𝓛.H 𝓜 𝓡 𝓡.env) in
    entered 𝓤 𝓛.H (triple_of 𝓛 ended.signature (closing 𝓛 ended (clauses 𝓛 𝓜.mem 𝓡.returns))) 𝓣.C 𝓣.Λ #self code.function
    (code.unfolded 𝓤 𝓛.H 𝓜 𝓡 wired) (meets 𝓛 𝓜.mem 𝓡.returns 𝓣)
