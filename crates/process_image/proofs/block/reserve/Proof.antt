-- `reserve` makes of a new block the owner of its room, and keeps the right to give it back. Assumes `Logic`.
use Rattle.std.proofs.Common.{◌≡◌, ℕ, ◌+◌, ◌^◌, ◌<◌, List, [], ◌∷◌, ◌++◌, refl, arith, true, false}
use lib.Dec.{lit<}
use seplogic.Ra.Ura.{Ura}
use mir.MapTy.{inst_fn}
use mir.Syntax.{Fn, Args, Dict, Body, a_type, dcons, dnil, w64}
use mir.Val.{Val, vptr, vint, vstruct, vcons, vnil}
use base.Logic.{SProp, ent}
use base.Fml.{Lft, Share, ftrue, flft, froom, Incl-trans}
use prog.Memory.{Memory}
use prog.Routine.{Routine}
use prog.Wp.{Env, Calls, Loops, Wp, WpFn, Tables, after_seq, at_return}
use contract.BorrowLft.{◌⊑◌}
use contract.Monad.{Fun, fact}
use contract.Running.{tables, tables_of}
use sound.WpLaws.{WpFn-mono, FmC, fm_of}
use types.Logic.{Logic}
use types.Kit.{Item, ⋆, ‵, raw, ◌⊛◌, later, await, prop, at_ret, Post as After, any_q, ◌$◌, ◌∵◌, !, qed, by}
use types.Kit.{move, keep, use0, use1, use2, use3, split, join, rewrite, fsplit, fsplit3, fjoin, feq_i, feq_l}
use types.Kit.{flt_l, flt_i, regoal, suffices, frame, done}
use types.Match.{live, vrt, in_variant}
use types.Part.{whole, agg}
use types.Run.{enter, stop, fld, lit, of_opd, and_then, no_more, first, exec, returns, switches_on}
use types.ByLocal.{alloc_all, pass_all, free_all, look_at, get, get_in, get_tag, sets, sets_last, lands_as, env}
use denote.Builtin.{RefOf, RawPtr, usize}
use denote.Exit.{yes}
use denote.Laws.{Is}
use denote.Param.{param, bounded, layout}
use denote.Param.Laws.{Laws}
use denote.RattleType.{RattleType, owns}
use denote.RawPtr.{Ptr, block_ptr}
use denote.Signature.{plain, types_at}
use denote.Steps.{nothing, heard, owned}
use denote.Struct.Declared as Declared
use denote.Struct.Struct.{Struct, Struct-Makes}
use denote.Struct.Tuple.{Tuple}
use denote.Triple.Call.{calls_at}
use denote.Triple.Clauses.{Clauses, Ended, closing}
use denote.Triple.Spec.{Meets, triple_of}
use denote.Triple.Statement.{Triple}
use denote.Triple.Table.{entered}
use denote.Triple.Walked.{says, Stays, stay_dropped, walk_of, ends_at, walk_Meets, Goes-dropped}
use Rattle.std.specs.Prelude.{Ok, Err, IfOk}
use Rattle.core.specs.contracts.alloc.AllocError as AE
use Rattle.core.specs.contracts.result.Result as RS
use Rattle.core.specs.declared.alloc.Allocator.{Ghosts}
use Rattle.core.proofs.alloc.Calls.{Al, Answer-typed, takes_key, Takes, at_takes, Answered, Takes-goes, Takes-gives, answers}
use Rattle.std_alloc.proofs.RcSteps.{first_Good, Good}
use Rattle.std_alloc.proofs.ResultValues.{ok_of, err_of}
use Rattle.std_alloc.proofs.VecSteps.Shapes.{after, head, arm_body}
use Rattle.process_image.specs.Ownership.{bytes_type}
use Rattle.process_image.proofs.Memory.{block_type, block_size, block_align, Marked, none, mark, mark_made, bare_made, three, three_made}
use Rattle.process_image.specs.contracts.block.Block as B
use Rattle.process_image.specs.contracts.block.Deed as D
use Rattle.process_image.specs.contracts.block.reserve as F
use Rattle.process_image.specs.contracts.block.reserve.Key.{name as #self}
use Rattle.process_image.proofs.block.reserve.Statement as stated
use Rattle.process_image.proofs.block.reserve.Code as code

module _ (X : RattleType) (L : Laws X) (g : Ghosts X.Denot) (dict drops : Dict) where
  abbrev Z : Al
  Z = record { row = X; laws = L; g = g; d = dict; drops = drops }

  abbrev args : Args
  args = bounded (a_type ∷ []) (X, tt) (dcons dict (dcons drops dnil))

  abbrev function : Fn
  function = inst_fn args code.function

  abbrev P : RattleType
  P = param 0 X

  abbrev Deed : RattleType
  Deed = D.the_row P g

  abbrev Three : RattleType
  Three = Tuple (RawPtr ∷ B.the_row ∷ Deed ∷ [])

  abbrev Out : RattleType
  Out = RS.the_row Three AE.the_row

  abbrev ended : Ended
  ended = F.ended X g dict drops

  abbrev stayed : Stays ended.signature.params ended.kept
  stayed = (stay_dropped (RefOf (0 ∷ []) tt (plain (λ _. P)) (λ _. tt)) yes, (stay_dropped (plain (λ _. usize)) yes, tt))

  module _ {M : Type 1} {𝓤 : Ura M} (𝓛 : Logic 𝓤) (at_mem : Memory → SProp 𝓤) (run : Routine → Fun 𝓤) where
    open 𝓛 use {H, A}

    abbrev clauses : Clauses 𝓤 ended
    clauses = F.clauses X g dict drops 𝓛 at_mem run

    module _ (C : Calls 𝓤 H) (Λ : Loops 𝓤 H) (fm : FmC 𝓤 H 𝓛.laws C)
        (callee : Triple 𝓤 (C (takes_key Z)) (Takes Z 𝓛 at_mem run)) (z : (walk_of 𝓛 ended stayed clauses).Ghost) where
      abbrev Post : Val → SProp 𝓤
      Post = (walk_of 𝓛 ended stayed clauses).post z

      abbrev κ : Lft
      κ = z.0.0.0

      abbrev q : Share
      q = z.0.1.0

      abbrev others : Item 𝓤
      others = ‵ (flft z.0.0.1.0 z.0.1.1.0) ⊛ ‵ ftrue

      abbrev heap : X.Denot
      heap = z.0.3.0.now

      abbrev len : ℕ
      len = z.0.3.1.0

      abbrev Said : (Out).Denot → Type 0
      Said r = IfOk r (λ t. (t.1.at ≡ t.0) × (t.1.bytes ≡ []) × (t.1.room ≡ len) × (t.2.at ≡ t.0) × (t.2.len ≡ len) × (t.2.alloc ≡ heap))

      exits : (r : (Out).Denot) (v : Val) → Said r → ent 𝓤 (⋆ 𝓛 (‵ ((Out).own_val r (v ∷ [])) ∷ ‵ (flft κ q) ∷ others ∷ [])) (Post v)
      exits r v said =
          qed 𝓛 (‵ ((Out).own_val r (v ∷ [])) ∷ ‵ (flft κ q) ∷ others ∷ []) ∵
          suffices ! _ (ends_at 𝓛 ended stayed clauses z v r (tt, (tt, tt)) (tt, (tt, tt))) $ says ! said $
          move ! (1 ∷ 2 ∷ []) $ join ! $ frame ! $ nothing ! $ nothing ! $ fjoin ! $ nothing ! $ fjoin ! $ done !

      walks : ent 𝓤 ((walk_of 𝓛 ended stayed clauses).pre z) (WpFn 𝓤 H C Λ function ((walk_of 𝓛 ended stayed clauses).args z) Post)
      walks =
          let a = z.0.3 in let vss = z.0.4 in let rb = a.0.ref_ptr.0 in let ro = a.0.ref_ptr.1 in
          let Within = z.0.0.1.0 ⊑ X.lives in let Asked = len < 2 ^ 63 in
          qed 𝓛 (((‵ (flft κ q) ⊛ others) ⊛ ‵ (owns (types_at ended.signature.params z.0.0) a vss)) ∷ (raw (fact 𝓤 Within) ⊛ raw (fact 𝓤 Asked)) ∷ []) ∵
          move ! (1 ∷ []) $ split ! $ heard ! Within
          (λ within. heard ! Asked
          (λ small. split ! $ split ! $ move ! (2 ∷ []) $ fsplit3 ! $ fsplit ! $ feq_l !
          (λ is₀. move ! (1 ∷ []) $ fsplit ! $ feq_l ! (λ is₁. flt_l ! (λ fits.
          keep ! (0 ∷ 2 ∷ 3 ∷ []) $
          regoal ! (λ (us : List Val). prop (WpFn 𝓤 H C Λ function (us ++ (vss.1.0 ++ [])) Post)) is₀ refl $
          regoal ! (λ (us : List Val). prop (WpFn 𝓤 H C Λ function ((vptr rb ro ∷ []) ++ (us ++ [])) Post)) is₁ refl $
          enter ! C Λ function (vptr rb ro ∷ vint w64 len ∷ []) Post $ alloc_all ! (λ l. pass_all ! refl ((tt, tt), ((tt, record { fits = fits }), tt)) $
          let En : Env 𝓤 H = env function.locals l in
          let both : Body = head (after 1 function.body) in
          let Then : After 𝓤 H = any_q (after_seq 𝓤 H (Wp 𝓤 H C Λ En (after 2 function.body) (at_return 𝓤 H En Post)) (at_return 𝓤 H En Post)) in
          let y : (Takes Z 𝓛 at_mem run).Ghost = at_takes Z 𝓛 at_mem run κ q (rb, ro) heap len 1 (block_type len) in
          use2 𝓛 (raw ((Takes Z 𝓛 at_mem run).pre y))
          (Takes-goes Z 𝓛 at_mem run κ q (rb, ro) heap (Incl-trans z.0.2.0 within) len 1
          (block_type len) (block_size len fits) (block_align len) fits (lit< tt)) $
          calls_at ! fm (Takes Z 𝓛 at_mem run) callee y (and_then ! (get ! refl) (and_then ! (get ! refl) (and_then ! (lit ! tt) (no_more !)))) (λ v.
          use1 𝓛 (later (raw (Answered Z 𝓛 at_mem run heap (block_type len) v) ⊛ ‵ (flft κ q)))
          (Takes-gives Z 𝓛 at_mem run κ q (rb, ro) heap len 1 (block_type len) v) $ await ! tt $ split ! $
          answers Z ! at_mem run heap (block_type len) v
          (λ b o e.
          let at : Ptr = block_ptr b o in
          let owner : (B.the_row).Denot = record { at = at; bytes = []; room = len } in
          let deed : (Deed).Denot = record { mark = record {}; at = at; len = len; alloc = heap } in
          let made : Val = three (vptr b o) none mark in
          let typed : Good (layout Three) made = (tt, (tt, (tt, ((tt, tt), tt)))) in let good = first_Good (layout Three) made typed in
          let start : o ≡ 0 + o = omega arith in
          lands_as ! e refl (Answer-typed true b o) $ first ! $ switches_on !
          (get_tag ! (vrt ! refl (fld ! refl (stop !))) (whole !)) $ exec ! C Λ En (arm_body 0 both) Then $
          sets ! (of_opd ! (get_in ! (vrt ! refl (fld ! refl (stop !))) (in_variant ! 0 0 refl refl (whole !)))) refl (tt, tt) $
          sets ! (agg ! (no_more !)) refl (tt, tt) $ sets ! (agg ! (no_more !)) refl
          (tt, tt) $ sets ! (agg ! (and_then ! (get ! refl) (no_more !))) refl (tt, (tt, tt)) $
          sets ! (agg ! (and_then ! (get ! refl) (and_then ! (get ! refl) (and_then ! (get ! refl) (no_more !))))) refl typed $
          sets_last ! (agg ! (and_then ! (lit ! tt) (and_then ! (get ! refl) (no_more !)))) refl good $
          exec ! C Λ En (after 2 function.body) (at_ret En Post) $ sets ! (of_opd ! (get ! refl)) refl good $
          -- [the room; the token; the tokens of the lifetimes]
          move ! (1 ∷ []) $ use0 𝓛 (‵ ((Marked P g).own_val (tt, tt) (mark ∷ []))) (mark_made P g 𝓛) $ fjoin ! $ move ! (1 ∷ []) $
          rewrite ! 0 (λ k. ‵ (froom (bytes_type len) b k)) start refl $ nothing ! $ fjoin ! $ flt_i !
          (0 + len) (2 ^ 63) (omega (arith, small)) $ fjoin ! $ bare_made ! $ fjoin ! $
          feq_i ! (List Val) (vptr b o ∷ []) (vptr b o ∷ []) refl $
          use3 𝓛 (‵ ((Three).own_val (at, owner, deed) (made ∷ []))) (three_made 𝓛 RawPtr B.the_row Deed at owner deed (vptr b o) none mark) $
          use1 𝓛 (‵ ((Out).own_val (Ok (at, owner, deed)) (live 0 (vcons made vnil) ∷ []))) (ok_of 𝓛 Three AE.the_row (at, owner, deed) made) $
          returns ! (look_at ! 0 refl) $ free_all ! refl $ keep ! (0 ∷ 1 ∷ 2 ∷ []) $ by !
          (exits (Ok (at, owner, deed)) (live 0 (vcons made vnil)) (refl, refl, refl, refl, refl, refl)))
          (λ e.
          let Refusal : RattleType = Struct (Declared.shape AE.the_type) in
          let refused : Val = live 1 (vcons (vstruct vnil) vnil) in
          lands_as ! e refl (Answer-typed false 0 0) $ first ! $ switches_on !
          (get_tag ! (vrt ! refl (fld ! refl (stop !))) (whole !)) $ exec ! C Λ En (arm_body 1 both) Then $
          sets ! (of_opd ! (get_in ! (vrt ! refl (fld ! refl (stop !))) (in_variant ! 1 0 refl refl (whole !)))) refl (tt, tt) $
          sets_last ! (agg ! (and_then ! (lit ! tt) (and_then ! (get ! refl) (no_more !)))) refl (tt, (record { fits = lit< tt }, (tt, tt))) $
          exec ! C Λ En (after 2 function.body) (at_ret En Post) $ sets ! (of_opd ! (get ! refl)) refl (tt, (record { fits = lit< tt }, (tt, tt))) $
          owned ! Refusal (Is Refusal) (Struct-Makes 𝓛 (Declared.shape AE.the_type) tt) tt (vstruct vnil ∷ []) (tt, (refl, tt)) $
          use1 𝓛 (‵ ((Out).own_val (Err (record {})) (refused ∷ []))) (err_of 𝓛 Three AE.the_row (record {}) (vstruct vnil)) $
          returns ! (look_at ! 0 refl) $ free_all ! refl $ keep ! (0 ∷ 1 ∷ 2 ∷ []) $ by ! (exits (Err (record {})) refused tt)))))))))

    meets : (𝓣 : Tables 𝓤 H) → Triple 𝓤 (𝓣.C (takes_key Z)) (Takes Z 𝓛 at_mem run)
        → Meets 𝓛 ended.signature (WpFn 𝓤 H 𝓣.C 𝓣.Λ function) (closing 𝓛 ended clauses)
    meets 𝓣 callee =
        walk_Meets 𝓛 ended stayed (
          Goes-dropped 𝓛 2 (RefOf (0 ∷ []) tt (plain (λ _. P)) (λ _. tt)) yes (λ κs x f. refl),
          (Goes-dropped 𝓛 2 (plain (λ _. usize)) yes (λ κs x f. refl), tt),
        ) clauses
        (WpFn 𝓤 H 𝓣.C 𝓣.Λ function) (WpFn-mono 𝓤 H 𝓛.laws 𝓣 function) (walks 𝓣.C 𝓣.Λ (fm_of 𝓤 H 𝓛.laws 𝓣) callee)

pub reserve_spec : {M : Type 1} → stated.statement M
unfolding tables_of
reserve_spec 𝓤 𝓛 𝓜 𝓡 wired X L g d dd met md =
    let 𝓣 : Tables 𝓤 𝓛.H = tables_of 𝓤 𝓛.H 𝓜 (tables 𝓤 𝓛.H 𝓜 𝓡 𝓡.env) in
    entered 𝓤 𝓛.H (triple_of 𝓛 (ended X L g d dd).signature (closing 𝓛 (ended X L g d dd) (clauses X L g d dd 𝓛 𝓜.mem 𝓡.returns))) 𝓣.C 𝓣.Λ
    (#self (args X L g d dd)) (function X L g d dd)
    (code.unfolded 𝓤 𝓛.H 𝓜 𝓡 wired (X, tt) d dd) (meets X L g d dd 𝓛 𝓜.mem 𝓡.returns 𝓣 (met.allocate dd))
