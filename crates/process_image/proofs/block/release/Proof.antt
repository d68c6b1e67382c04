-- `release` makes room of all that the block holds, and hands it back with the allocator's token. Assumes `Logic`.
use Rattle.std.proofs.Common.{◌≡◌, ℕ, ◌+◌, List, [], ◌∷◌, ◌++◌, length, refl, sym, ap, subst, ◌∙◌}
use lib.Dec.{T, lit<}
use seplogic.Ra.Ura.{Ura}
use mir.MapTy.{inst_fn}
use mir.Syntax.{Fn, Args, Dict, a_type, dcons, dnil, w64, ty_unit}
use mir.Val.{Val, vptr, vint, vunit, has_ty, WT}
use base.Logic.{SProp, ent, never, id⊢}
use base.Fml.{Lft, Share, ftrue, flft, froom, Incl-trans}
use prog.Memory.{Memory}
use prog.Routine.{Routine}
use prog.Wp.{Env, Calls, Loops, WpFn, Tables}
use contract.BorrowLft.{◌⊑◌}
use contract.Monad.{Fun, fact}
use contract.Running.{tables, tables_of}
use sound.WpLaws.{WpFn-mono, FmC, fm_of}
use types.Logic.{Logic}
use types.Kit.{Item, ⋆, ‵, raw, ◌⊛◌, given, later, await, learn, prop, at_ret, ◌$◌, ◌∵◌, !, qed, by, move}
use types.Kit.{keep, use1, use2, split, join, group, rewrite, fsplit, fsplit3, fjoin, feq_i, feq_l, flt_l}
use types.Kit.{regoal, suffices, done}
use types.Run.{enter, lit, unit_lit, of_opd, and_then, no_more, first, blocks, exec, returns}
use types.ByLocal.{alloc_all, pass_all, free_all, look_at, get, sets, lands_last, env}
use denote.Builtin.{RefOf, RawPtr, usize}
use denote.Exit.{yes, no}
use denote.Param.{param, bounded}
use denote.Param.Laws.{Laws}
use denote.RattleType.{RattleType, owns}
use denote.RawPtr.{Ptr, block_ptr, ptr_val, in_a_block}
use denote.Signature.{plain, types_at}
use denote.Steps.{nothing, heard}
use denote.Triple.Call.{calls_at_last}
use denote.Triple.Clauses.{Clauses, Ended, closing}
use denote.Triple.Spec.{Meets, triple_of}
use denote.Triple.Statement.{Triple}
use denote.Triple.Table.{entered}
use denote.Triple.Walked.{Stays, stay_dropped, walk_of, ends_at, walk_Meets, Goes-dropped}
use Rattle.core.specs.declared.alloc.Allocator.{Ghosts}
use Rattle.core.proofs.alloc.Calls.{Al, token, gives_key, Gives, at_gives, Gives-goes, Gives-Gives, Goes-blank}
use Rattle.std_alloc.proofs.VecSteps.Shapes.{after}
use Rattle.process_image.specs.Ownership.{bytes_type, block_owned, deed_owned}
use Rattle.process_image.proofs.Memory.{block_type, block_size, block_align, none, mark, bare_had, mark_had, to_room}
use Rattle.process_image.specs.contracts.block.Block as B
use Rattle.process_image.specs.contracts.block.Deed as D
use Rattle.process_image.specs.contracts.block.release as F
use Rattle.process_image.specs.contracts.block.release.Key.{name as #self}
use Rattle.process_image.proofs.block.release.Statement as stated
use Rattle.process_image.proofs.block.release.Code as code

module _ (X : RattleType) (L : Laws X) (g : Ghosts X.Denot) (dict drops : Dict) where
  abbrev Z : Al
  Z = record { row = X; laws = L; g = g; d = dict; drops = drops }

  abbrev args : Args
  args = bounded (a_type ∷ []) (X, tt) (dcons dict (dcons drops dnil))

  abbrev function : Fn
  function = inst_fn args code.function

  abbrev P : RattleType
  P = param 0 X

  abbrev Deed : RattleType
  Deed = D.the_row P g

  abbrev ended : Ended
  ended = F.ended X g dict drops

  abbrev stayed : Stays ended.signature.params ended.kept
  stayed = (
    stay_dropped (RefOf (0 ∷ []) tt (plain (λ _. P)) (λ _. tt)) yes,
    (
      stay_dropped (plain (λ _. RawPtr)) yes,
      (stay_dropped (plain (λ _. usize)) yes, (stay_dropped (plain (λ _. B.the_row)) yes, (stay_dropped (plain (λ _. Deed)) no, tt))),
    ),
  )

  module _ {M : Type 1} {𝓤 : Ura M} (𝓛 : Logic 𝓤) (at_mem : Memory → SProp 𝓤) (run : Routine → Fun 𝓤) where
    open 𝓛 use {H, A}

    abbrev clauses : Clauses 𝓤 ended
    clauses = F.clauses X g dict drops 𝓛 at_mem run

    module _ (C : Calls 𝓤 H) (Λ : Loops 𝓤 H) (fm : FmC 𝓤 H 𝓛.laws C)
        (callee : Triple 𝓤 (C (gives_key Z)) (Gives Z 𝓛 at_mem run)) (z : (walk_of 𝓛 ended stayed clauses).Ghost) where
      abbrev Post : Val → SProp 𝓤
      Post = (walk_of 𝓛 ended stayed clauses).post z

      abbrev κ : Lft
      κ = z.0.0.0

      abbrev q : Share
      q = z.0.1.0

      abbrev others : Item 𝓤
      others = ‵ (flft z.0.0.1.0 z.0.1.1.0) ⊛ ‵ ftrue

      abbrev heap : X.Denot
      heap = z.0.3.0.now

      abbrev at : Ptr
      at = z.0.3.1.0

      abbrev len : ℕ
      len = z.0.3.1.1.0

      abbrev block : (B.the_row).Denot
      block = z.0.3.1.1.1.0

      abbrev deed : (Deed).Denot
      deed = z.0.3.1.1.1.1.0

      exits : ent 𝓤 (⋆ 𝓛 (‵ (flft κ q) ∷ others ∷ [])) (Post vunit)
      exits =
          qed 𝓛 (‵ (flft κ q) ∷ others ∷ []) ∵
          suffices ! _ (ends_at 𝓛 ended stayed clauses z vunit tt (tt, (tt, (tt, (tt, (tt, tt))))) (tt, (tt, (tt, (tt, (tt, tt)))))) $
          join ! $ feq_i ! (List Val) (vunit ∷ []) (vunit ∷ []) refl $ nothing ! $ nothing ! $ fjoin ! $
          nothing ! $ fjoin ! $ nothing ! $ fjoin ! $ nothing ! $ fjoin ! $ nothing ! $ fjoin ! $ join ! $
          move ! (1 ∷ 0 ∷ []) $ join ! $ nothing ! $ move ! (1 ∷ 0 ∷ []) $ done !

      walks : ent 𝓤 ((walk_of 𝓛 ended stayed clauses).pre z) (WpFn 𝓤 H C Λ function ((walk_of 𝓛 ended stayed clauses).args z) Post)
      walks =
          let vss = z.0.4 in let rb = z.0.3.0.ref_ptr.0 in let ro = z.0.3.0.ref_ptr.1 in let me = vptr rb ro in
          let Within = z.0.0.1.0 ⊑ X.lives in
          let Asked = (block.at ≡ at) × (length block.bytes + block.room ≡ len) × (deed.at ≡ at) × (deed.len ≡ len) × (deed.alloc ≡ heap) in
          qed 𝓛 (((‵ (flft κ q) ⊛ others) ⊛ ‵ (owns (types_at ended.signature.params z.0.0) z.0.3 vss)) ∷ (raw (fact 𝓤 Within) ⊛ raw (fact 𝓤 Asked)) ∷ []) ∵
          move ! (1 ∷ []) $ split ! $ heard ! Within
          (λ within. heard ! Asked (λ asked. split ! $ split ! $ move ! (2 ∷ []) $ fsplit ! $ fsplit ! $ feq_l ! (λ is₀. move ! (1 ∷ []) $
          fsplit ! $ feq_l ! (λ is₁. fsplit ! $ fsplit ! $ feq_l !
          (λ is₂. flt_l ! (λ fits. fsplit3 ! $ fsplit ! $ bare_had ! vss.1.1.1.0 (λ is₃. move ! (1 ∷ []) $
          fsplit ! $ mark_had ! P g vss.1.1.1.1.0 (λ is₄. keep ! (1 ∷ 0 ∷ 3 ∷ 4 ∷ 5 ∷ []) $
          in_a_block ! block.at (λ p. block_owned p block.bytes block.room) (id⊢ 𝓤 (never 𝓤)) (λ b o e. fsplit ! $ flt_l ! (λ small. fsplit ! $
          let here : at ≡ block_ptr b o = sym asked.0 ∙ e in
          use2 𝓛 (‵ (froom (bytes_type (length block.bytes + block.room)) b o))
          (to_room 𝓛 b block.bytes block.room o) $ rewrite ! 0 (λ k. ‵ (froom (bytes_type k) b o)) asked.1 refl $
          rewrite ! 1 (λ (t : X.Denot × Ptr × ℕ). ‵ (deed_owned (token Z t.0) t.1 t.2)) (λ i. (asked.4 i, (asked.2 ∙ here) i, asked.3 i)) refl $
          regoal ! (λ (us : List Val). prop (WpFn 𝓤 H C Λ function (us ++ (vss.1.0 ++ (vss.1.1.0 ++ (vss.1.1.1.0 ++ (vss.1.1.1.1.0 ++ []))))) Post)) is₀ refl $
          regoal ! (λ (us : List Val). prop (WpFn 𝓤 H C Λ function ((me ∷ []) ++ (us ++ (vss.1.1.0 ++ (vss.1.1.1.0 ++ (vss.1.1.1.1.0 ++ []))))) Post))
          (is₁ ∙ ap (λ p. ptr_val p ∷ []) here) refl $
          regoal ! (λ (us : List Val). prop
          (WpFn 𝓤 H C Λ function ((me ∷ []) ++ ((vptr b o ∷ []) ++ (us ++ (vss.1.1.1.0 ++ (vss.1.1.1.1.0 ++ []))))) Post)) is₂ refl $
          regoal ! (λ (us : List Val). prop
          (WpFn 𝓤 H C Λ function ((me ∷ []) ++ ((vptr b o ∷ []) ++ ((vint w64 len ∷ []) ++ (us ++ (vss.1.1.1.1.0 ++ []))))) Post)) is₃ refl $
          regoal ! (λ (us : List Val). prop
          (WpFn 𝓤 H C Λ function ((me ∷ []) ++ ((vptr b o ∷ []) ++ ((vint w64 len ∷ []) ++ ((none ∷ []) ++ (us ++ []))))) Post)) is₄ refl $
          enter ! C Λ function (me ∷ vptr b o ∷ vint w64 len ∷ none ∷ mark ∷ []) Post $
          alloc_all ! (λ l. pass_all ! refl ((tt, tt), ((tt, tt), ((tt, record { fits = fits }), ((tt, tt), ((tt, (tt, tt)), tt))))) $
          let En : Env 𝓤 H = env function.locals l in
          let y : (Gives Z 𝓛 at_mem run).Ghost = at_gives Z 𝓛 at_mem run κ q (rb, ro) heap b o len 1 (block_type len) in
          first ! $ blocks ! $ group ! 4 $
          use1 𝓛 (raw ((Gives Z 𝓛 at_mem run).pre y))
          (Gives-goes Z 𝓛 at_mem run κ q (rb, ro) heap (Incl-trans z.0.2.0 within) b o len 1
          (block_type len) (block_size len fits) (block_align len) fits (lit< tt)) $
          calls_at_last ! fm (Gives Z 𝓛 at_mem run) callee y
          (and_then ! (get ! refl) (and_then ! (get ! refl) (and_then ! (get ! refl) (and_then ! (lit ! tt) (no_more !))))) (λ v.
          use1 𝓛 (later (given (v ≡ vunit) (‵ (flft κ q))))
          (Gives-Gives Z 𝓛 at_mem run κ q (rb, ro) heap b o len 1 (block_type len) v) $ await ! tt $ learn ! (λ gone.
          lands_last ! refl (subst (λ (w : Val). T (has_ty ty_unit w) × WT w) (sym gone) (tt, tt)) $ exec ! C Λ En (after 1 function.body) (at_ret En Post) $
          sets ! (of_opd ! (unit_lit !)) refl (tt, tt) $ returns ! (look_at ! 0 refl) $ free_all ! refl $ keep ! (0 ∷ 1 ∷ []) $ by ! exits)))))))))))))

    meets : (𝓣 : Tables 𝓤 H) → Triple 𝓤 (𝓣.C (gives_key Z)) (Gives Z 𝓛 at_mem run)
        → Meets 𝓛 ended.signature (WpFn 𝓤 H 𝓣.C 𝓣.Λ function) (closing 𝓛 ended clauses)
    meets 𝓣 callee =
        walk_Meets 𝓛 ended stayed (
          Goes-dropped 𝓛 2 (RefOf (0 ∷ []) tt (plain (λ _. P)) (λ _. tt)) yes (λ κs x f. refl),
          (
            Goes-dropped 𝓛 2 (plain (λ _. RawPtr)) yes (λ κs x f. refl),
            (
              Goes-dropped 𝓛 2 (plain (λ _. usize)) yes (λ κs x f. refl),
              (Goes-dropped 𝓛 2 (plain (λ _. B.the_row)) yes (λ κs x f. refl), (Goes-blank 𝓛 2 (plain (λ _. Deed)) no (λ κs x f. tt), tt)),
            ),
          ),
        ) clauses
        (WpFn 𝓤 H 𝓣.C 𝓣.Λ function) (WpFn-mono 𝓤 H 𝓛.laws 𝓣 function) (walks 𝓣.C 𝓣.Λ (fm_of 𝓤 H 𝓛.laws 𝓣) callee)

pub release_spec : {M : Type 1} → stated.statement M
unfolding tables_of
release_spec 𝓤 𝓛 𝓜 𝓡 wired X L g d dd met md =
    let 𝓣 : Tables 𝓤 𝓛.H = tables_of 𝓤 𝓛.H 𝓜 (tables 𝓤 𝓛.H 𝓜 𝓡 𝓡.env) in
    entered 𝓤 𝓛.H (triple_of 𝓛 (ended X L g d dd).signature (closing 𝓛 (ended X L g d dd) (clauses X L g d dd 𝓛 𝓜.mem 𝓡.returns))) 𝓣.C 𝓣.Λ
    (#self (args X L g d dd)) (function X L g d dd)
    (code.unfolded 𝓤 𝓛.H 𝓜 𝓡 wired (X, tt) d dd) (meets X L g d dd 𝓛 𝓜.mem 𝓡.returns 𝓣 (met.deallocate dd))
