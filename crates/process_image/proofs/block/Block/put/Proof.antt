-- `put` writes into the room behind the bytes, which then holds one byte more. Assumes `Logic`.
use Rattle.std.proofs.Common.{◌≡◌, ℕ, suc, ◌+◌, ◌-◌, ◌^◌, ◌<◌, List, [], ◌∷◌, ◌++◌, length, refl, sym, ap, ◌∙◌, arith, length-append}
use seplogic.Ra.Ura.{Ura}
use mir.Syntax.{named, w8, w64, ty_int, ty_ptr}
use mir.Val.{Val, vptr, vint, vunit}
use base.Fraction.{full_share}
use base.Logic.{SProp, ent, never, id⊢}
use base.Fml.{Lft, Share, ftrue, flft, fat, fobs, fbor, froom}
use prog.Memory.{Memory}
use prog.Routine.{Routine}
use prog.Wp.{Calls, Loops, WpFn, Tables}
use contract.Monad.{Fun, fact}
use contract.Running.{tables, tables_of}
use sound.WpLaws.{WpFn-mono}
use types.Logic.{Logic}
use types.SemTy.{cells, Body as Borrowed}
use types.Kit.{⋆, ‵, raw, ◌⊛◌, prop, ◌$◌, ◌∵◌, !, qed, by, move, keep, use1, use2, split, join, rewrite}
use types.Kit.{fsplit, fsplit3, fjoin, fjoin3, feq_i, feq_l, regoal, suffices, frame, done, at_ret, flt_l}
use types.Kit.{flt_i}
use types.Run.{enter, returns, of_opd, unit_lit, bin, init, stop, assigns_last, first, blocks, exec}
use types.ByLocal.{alloc_all, pass_all, free_all, look_at, get, through, sets, env, take_at as take_local, give_at as give_local}
use denote.Builtin.{u8, unit, RawPtr, usize}
use denote.Exit.{yes}
use denote.Memory.{mem, part_at}
use denote.Plain.{uint_in}
use denote.RattleType.{RattleType, owns}
use denote.RawPtr.{Ptr, ptr_val, in_a_block, rawptr_Lawful}
use denote.Ref.{MutBor, MutRef}
use denote.Signature.{plain}
use denote.Steps.{nothing, heard, opens, closes}
use denote.Triple.Clauses.{Clauses, Ended, closing}
use denote.Triple.Spec.{Meets, triple_of}
use denote.Triple.Table.{entered}
use denote.Triple.Walked.{says, Stays, stay_dropped, stay_ref, walk_of, ends_at, walk_Meets, Goes-dropped, Goes-ref}
use Rattle.process_image.specs.Ownership.{bytes_type, block_owned}
use Rattle.process_image.proofs.Memory.{glue}
use Rattle.process_image.specs.contracts.block.Block as B
use Rattle.process_image.specs.contracts.block.Block.put as F
use Rattle.process_image.specs.contracts.block.Block.put.Key.{name as #self}
use Rattle.process_image.proofs.block.Block.put.Statement as stated
use Rattle.process_image.proofs.block.Block.put.Code as code

abbrev R : RattleType
R = B.the_row

abbrev ended : Ended
ended = F.ended

abbrev stayed : Stays ended.signature.params ended.kept
stayed = (
  stay_ref (0 ∷ []) tt (plain (λ _. R)),
  (stay_dropped (plain (λ _. RawPtr)) yes, (stay_dropped (plain (λ _. usize)) yes, (stay_dropped (plain (λ _. u8)) yes, tt))),
)

module _ {M : Type 1} {𝓤 : Ura M} (𝓛 : Logic 𝓤) (at_mem : Memory → SProp 𝓤) (run : Routine → Fun 𝓤) where
  open 𝓛 use {H, A}

  abbrev clauses : Clauses 𝓤 ended
  clauses = F.clauses 𝓛 at_mem run

  module _ (C : Calls 𝓤 H) (Λ : Loops 𝓤 H) (z : (walk_of 𝓛 ended stayed clauses).Ghost) where
    abbrev Post : Val → SProp 𝓤
    Post = (walk_of 𝓛 ended stayed clauses).post z

    abbrev κ : Lft
    κ = z.0.0.0

    abbrev q : Share
    q = z.0.1.0

    abbrev self : MutBor R.Denot
    self = z.0.3.0

    abbrev d : R.Denot
    d = self.now

    abbrev rb : ℕ
    rb = self.ref_ptr.0

    abbrev ro : ℕ
    ro = self.ref_ptr.1

    abbrev byte : ℕ
    byte = z.0.3.1.1.1.0

    -- the room that is left
    abbrev left : ℕ
    left = d.room - 1

    abbrev new : R.Denot
    new = record { at = d.at; bytes = d.bytes ++ byte ∷ []; room = left }

    abbrev Said : Type 0
    Said = (new.at ≡ d.at) × (new.bytes ≡ d.bytes ++ byte ∷ []) × (new.room + 1 ≡ d.room)

    exits : z.0.4.0 ≡ vptr rb ro ∷ [] → Said
        → ent 𝓤 (⋆ 𝓛 (‵ (fobs self.ghost_name (R.coded.code new)) ∷ ‵ (fbor κ (Borrowed (mem R) rb ro self.ghost_name))
        ∷ ‵ (flft κ q) ∷ ‵ (unit.own_val tt (vunit ∷ [])) ∷ [])) (Post vunit)
    exits passed said =
        qed 𝓛 (‵ (fobs self.ghost_name (R.coded.code new)) ∷ ‵ (fbor κ (Borrowed (mem R) rb ro self.ghost_name))
        ∷ ‵ (flft κ q) ∷ ‵ (unit.own_val tt (vunit ∷ [])) ∷ []) ∵
        suffices ! _ (ends_at 𝓛 ended stayed clauses z vunit tt (new, (tt, (tt, (tt, tt)))) (tt, (tt, (tt, (tt, tt))))) $ says ! said $
        nothing ! $ move ! (3 ∷ 0 ∷ []) $ join ! $ frame ! $ feq_i ! (List Val) z.0.4.0 (vptr rb ro ∷ []) passed $ fjoin3 ! $
        nothing ! $ nothing ! $ fjoin ! $ nothing ! $ fjoin ! $ nothing ! $ fjoin ! $ move ! (1 ∷ 0 ∷ []) $ fjoin ! $ done !

    walks : ent 𝓤 ((walk_of 𝓛 ended stayed clauses).pre z) (WpFn 𝓤 H C Λ code.function ((walk_of 𝓛 ended stayed clauses).args z) Post)
    walks =
        let a = z.0.3 in let vss = z.0.4 in let at = a.1.0 in let count = a.1.1.0 in let me = vptr rb ro in
        let n = length d.bytes in
        let Asked = (at ≡ d.at) × (count ≡ n) × (0 < d.room) in
        qed 𝓛 (((‵ (flft κ q) ⊛ ‵ ftrue) ⊛ ‵ (owns (MutRef (named 0) κ R ∷ RawPtr ∷ usize ∷ u8 ∷ []) a vss)) ∷ raw (fact 𝓤 Asked) ∷ []) ∵
        move ! (1 ∷ []) $ heard ! Asked (λ asked. split ! $ split ! $ move ! (2 ∷ []) $ fsplit ! $ fsplit3 ! $ feq_l ! (λ is₀. move ! (2 ∷ []) $
        fsplit ! $ feq_l ! (λ is₁. fsplit ! $ fsplit ! $ feq_l !
        (λ is₂. flt_l ! (λ fits_count. fsplit ! $ fsplit ! $ feq_l ! (λ is₃. flt_l ! (λ fits_byte. keep ! (1 ∷ 2 ∷ 3 ∷ []) $
        let more : d.room ≡ suc left = omega (arith, asked.2) in
        let fits : n < 2 ^ 64 = rw (sym asked.1) fits_count in
        regoal ! (λ (us : List Val). prop (WpFn 𝓤 H C Λ code.function (us ++ (vss.1.0 ++ (vss.1.1.0 ++ (vss.1.1.1.0 ++ [])))) Post)) is₀ refl $
        regoal ! (λ (us : List Val). prop (WpFn 𝓤 H C Λ code.function ((me ∷ []) ++ (us ++ (vss.1.1.0 ++ (vss.1.1.1.0 ++ [])))) Post))
        (is₁ ∙ ap (λ p. ptr_val p ∷ []) asked.0) refl $
        regoal ! (λ (us : List Val). prop (WpFn 𝓤 H C Λ code.function ((me ∷ []) ++ ((ptr_val d.at ∷ []) ++ (us ++ (vss.1.1.1.0 ++ [])))) Post))
        (is₂ ∙ ap (λ k. vint w64 k ∷ []) asked.1) refl $
        regoal ! (λ (us : List Val). prop
        (WpFn 𝓤 H C Λ code.function ((me ∷ []) ++ ((ptr_val d.at ∷ []) ++ ((vint w64 n ∷ []) ++ (us ++ [])))) Post)) is₃ refl $
        enter ! C Λ code.function (me ∷ ptr_val d.at ∷ vint w64 n ∷ vint w8 byte ∷ []) Post $
        alloc_all ! (λ l. pass_all ! refl
        ((tt, tt), (((rawptr_Lawful 𝓛).typed d.at (ptr_val d.at ∷ []) refl).0, ((tt, record { fits = fits }), ((tt, record { fits = fits_byte }), tt)))) $
        opens ! tt R {h = d} rb ro (λ vs. move ! (1 ∷ []) $ fsplit ! $ move ! (1 ∷ []) $
        in_a_block ! d.at (λ p. block_owned p d.bytes d.room) (id⊢ 𝓤 (never 𝓤)) (λ b o e. fsplit ! $ flt_l ! (λ small. fsplit ! $ move ! (1 ∷ []) $
        rewrite ! 0 (λ k. ‵ (froom (bytes_type k) b (n + o))) more refl $
        use1 𝓛 (‵ (froom (ty_int w8) b (n + o)) ⊛ ‵ (froom (bytes_type left) b (n + o + 1))) (𝓛.laws.room_uncons (ty_int w8) left b (n + o)) $ split ! $
        take_local ! 2 $ rewrite ! 0 (λ (p : Ptr). ‵ (fat full_share ty_ptr (l 2) 0 (ptr_val p))) e refl $ give_local ! 2 $
        -- [the room for the byte; the room behind it; the bytes; the fields; their cell; the open borrow, in three entries]
        first ! $ blocks ! $
        sets ! (bin ! (get ! refl) (get ! refl) tt) refl (tt, tt) $
        assigns_last ! (of_opd ! (get ! refl)) (through ! refl (stop !)) (init ! 0 refl (tt, record { fits = fits_byte })) $
        exec ! C Λ (env (code.function).locals l) code.Mir.t-2 (at_ret (env (code.function).locals l) Post) $
        sets ! (of_opd ! (unit_lit !)) refl (tt, tt) $
        use1 𝓛 (‵ (part_at u8 full_share byte b (n + o))) (uint_in 𝓛 full_share w8 byte b (n + o)) $
        nothing ! $ move ! (1 ∷ 0 ∷ []) $ fjoin ! $ move ! (2 ∷ 0 ∷ []) $
        use2 𝓛 (‵ (cells (mem u8) new.bytes b o)) (glue 𝓛 b d.bytes (byte ∷ []) o (n + o) refl) $
        let longer : length new.bytes ≡ n + 1 = length-append d.bytes (byte ∷ []) in
        let behind : n + o + 1 ≡ length new.bytes + o = omega (arith, longer) in
        move ! (1 ∷ []) $ rewrite ! 0 (λ k. ‵ (froom (bytes_type left) b k)) behind refl $ move ! (1 ∷ 0 ∷ []) $ fjoin ! $
        flt_i ! (length new.bytes + left) (2 ^ 63) (omega (arith, longer, more, small)) $ fjoin ! $
        rewrite ! 0 (λ (p : Ptr). ‵ (block_owned p new.bytes left)) (sym e) refl $ move !
        (1 ∷ 0 ∷ []) $ fjoin ! $ move ! (1 ∷ 0 ∷ []) $ closes ! tt R new vs rb ro $
        returns ! (look_at ! 0 refl) $ free_all ! refl $ keep ! (0 ∷ 1 ∷ 2 ∷ []) $ feq_i !
        (List Val) (vunit ∷ []) (vunit ∷ []) refl $ move ! (1 ∷ 2 ∷ 3 ∷ 0 ∷ []) $
        by ! (exits is₀ (refl, refl, omega (arith, more))))))))))))))

  meets : (𝓣 : Tables 𝓤 H) → Meets 𝓛 ended.signature (WpFn 𝓤 H 𝓣.C 𝓣.Λ code.function) (closing 𝓛 ended clauses)
  meets 𝓣 =
      walk_Meets 𝓛 ended stayed (
        Goes-ref 𝓛 1 0 tt (plain (λ _. R)),
        (
          Goes-dropped 𝓛 1 (plain (λ _. RawPtr)) yes (λ κs x f. refl),
          (Goes-dropped 𝓛 1 (plain (λ _. usize)) yes (λ κs x f. refl), (Goes-dropped 𝓛 1 (plain (λ _. u8)) yes (λ κs x f. refl), tt)),
        ),
      ) clauses
      (WpFn 𝓤 H 𝓣.C 𝓣.Λ code.function) (WpFn-mono 𝓤 H 𝓛.laws 𝓣 code.function) (walks 𝓣.C 𝓣.Λ)

pub put_spec : {M : Type 1} → stated.statement M
unfolding tables_of
put_spec 𝓤 𝓛 𝓜 𝓡 wired =
    let 𝓣 : Tables 𝓤 𝓛.H = tables_of 𝓤 𝓛.H 𝓜 (tables 𝓤 𝓛.H 𝓜 𝓡 𝓡.env) in
    entered 𝓤 𝓛.H (triple_of 𝓛 ended.signature (closing 𝓛 ended (clauses 𝓛 𝓜.mem 𝓡.returns))) 𝓣.C 𝓣.Λ #self code.function
    (code.unfolded 𝓤 𝓛.H 𝓜 𝓡 wired) (meets 𝓛 𝓜.mem 𝓡.returns 𝓣)
