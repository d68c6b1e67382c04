-- `slice` shows a run of the bytes that the block lends. Assumes `Logic`.
use Rattle.std.proofs.Common.{◌≡◌, ◌+◌, ◌*◌, ◌^◌, ◌≤◌, List, [], ◌∷◌, ◌++◌, length, refl, sym, ap, ◌∙◌, arith, length-take-le, length-drop}
use seplogic.Ra.Ura.{Ura}
use mir.Syntax.{w64}
use mir.Val.{Val, vptr, vint}
use base.Logic.{SProp, ent, never, id⊢}
use base.Fml.{Lft}
use prog.Memory.{Memory}
use prog.Routine.{Routine}
use prog.Wp.{Calls, Loops, WpFn, Tables}
use contract.Monad.{Fun, fact}
use contract.Running.{tables, tables_of}
use sound.WpLaws.{WpFn-mono}
use types.Logic.{Logic}
use types.Kit.{‵, raw, ◌⊛◌, prop, ◌$◌, ◌∵◌, !, qed, move, drop, use1, split, fsplit, fjoin, feq_l, feq_i, regoal, suffices, done, at_ret, flt_l, flt_i}
use types.Part.{agg}
use types.Run.{enter, returns, of_opd, and_then, no_more, bin, first, blocks, exec}
use types.ByLocal.{alloc_all, pass_all, free_all, look_at, get, sets, sets_last, env}
use denote.Exit.{yes}
use denote.RattleType.{owns}
use denote.Builtin.{u8, RefOf, RawPtr, usize}
use denote.Opens.{unhide, hide}
use denote.RawPtr.{ptr_val, in_a_block}
use denote.Signature.{plain, types_at}
use denote.Slice.{slice_val, elements_shared}
use denote.Steps.{nothing, heard}
use denote.Triple.Clauses.{Clauses, Ended, closing}
use denote.Triple.Entry.{alive}
use denote.Triple.Spec.{Meets, triple_of}
use denote.Triple.Table.{entered}
use denote.Triple.Walked.{says, Stays, stay_dropped, walk_of, ends_at, walk_Meets, Goes-dropped}
use lib.ListN.{take, drop as drop_l}
use Rattle.process_image.specs.Ownership.{block_lent}
use Rattle.process_image.proofs.Memory.{run_seen}
use Rattle.process_image.specs.contracts.block.Block.{the_row}
use Rattle.process_image.specs.contracts.block.Block.slice as F
use Rattle.process_image.specs.contracts.block.Block.slice.Key.{name as #self}
use Rattle.process_image.proofs.block.Block.slice.Statement as stated
use Rattle.process_image.proofs.block.Block.slice.Code as code

abbrev ended : Ended
ended = F.ended

abbrev stayed : Stays ended.signature.params ended.kept
stayed = (
  stay_dropped (RefOf (0 ∷ []) tt (plain (λ _. the_row)) (λ _. tt)) yes,
  (stay_dropped (plain (λ _. RawPtr)) yes, (stay_dropped (plain (λ _. usize)) yes, (stay_dropped (plain (λ _. usize)) yes, tt))),
)

module _ {M : Type 1} {𝓤 : Ura M} (𝓛 : Logic 𝓤) (at_mem : Memory → SProp 𝓤) (run : Routine → Fun 𝓤) where
  open 𝓛 use {H}

  abbrev clauses : Clauses 𝓤 ended
  clauses = F.clauses 𝓛 at_mem run

  module _ (C : Calls 𝓤 H) (Λ : Loops 𝓤 H) (z : (walk_of 𝓛 ended stayed clauses).Ghost) where
    abbrev Post : Val → SProp 𝓤
    Post = (walk_of 𝓛 ended stayed clauses).post z

    abbrev toks : SProp 𝓤
    toks = alive 𝓛 ended.signature z.0.0 z.0.1

    walks : ent 𝓤 ((walk_of 𝓛 ended stayed clauses).pre z) (WpFn 𝓤 H C Λ code.function ((walk_of 𝓛 ended stayed clauses).args z) Post)
    walks =
        let κ : Lft = z.0.0.0 in let a = z.0.3 in let vss = z.0.4 in
        let d = a.0.now in let at = a.1.0 in let from = a.1.1.0 in let len = a.1.1.1.0 in
        let me = vptr a.0.ref_ptr.0 a.0.ref_ptr.1 in
        let seen = take len (drop_l from d.bytes) in
        let Asked = (at ≡ d.at) × (from + len ≤ length d.bytes) in
        qed 𝓛 ((raw toks ⊛ ‵ (owns (types_at ended.signature.params z.0.0) a vss)) ∷ raw (fact 𝓤 Asked) ∷ []) ∵
        move ! (1 ∷ []) $ heard ! Asked (λ asked. split ! $ move ! (1 ∷ []) $
        let long : length seen ≡ len = length-take-le len _ (omega (arith, asked.1, length-drop from d.bytes)) in
        fsplit ! $ fsplit ! $ feq_l ! (λ is₀. unhide ! $ fsplit ! $ drop ! $
        in_a_block ! d.at (λ p. block_lent p d.bytes d.room κ) (id⊢ 𝓤 (never 𝓤)) (λ b o e. fsplit ! $ flt_l ! (λ small. move ! (1 ∷ []) $
        fsplit ! $ feq_l ! (λ is₁. fsplit ! $ fsplit ! $ feq_l !
        (λ is₂. flt_l ! (λ fits_from. fsplit ! $ fsplit ! $ feq_l ! (λ is₃. flt_l ! (λ fits_len. drop ! $
        regoal ! (λ (us : List Val). prop (WpFn 𝓤 H C Λ code.function (us ++ (vss.1.0 ++ (vss.1.1.0 ++ (vss.1.1.1.0 ++ [])))) Post)) is₀ refl $
        regoal ! (λ (us : List Val). prop (WpFn 𝓤 H C Λ code.function ((me ∷ []) ++ (us ++ (vss.1.1.0 ++ (vss.1.1.1.0 ++ [])))) Post))
        (is₁ ∙ ap (λ p. ptr_val p ∷ []) (asked.0 ∙ e)) refl $
        regoal ! (λ (us : List Val). prop (WpFn 𝓤 H C Λ code.function ((me ∷ []) ++ ((vptr b o ∷ []) ++ (us ++ (vss.1.1.1.0 ++ [])))) Post)) is₂ refl $
        regoal ! (λ (us : List Val). prop (WpFn 𝓤 H C Λ code.function ((me ∷ []) ++ ((vptr b o ∷ []) ++ ((vint w64 from ∷ []) ++ (us ++ [])))) Post)) is₃ refl $
        enter ! C Λ code.function (me ∷ vptr b o ∷ vint w64 from ∷ vint w64 len ∷ []) Post $
        alloc_all ! (λ l. pass_all ! refl ((tt, tt), ((tt, tt), ((tt, record { fits = fits_from }), ((tt, record { fits = fits_len }), tt)))) $
        first ! $ blocks ! $
        sets ! (bin ! (get ! refl) (get ! refl) tt) refl (tt, tt) $
        sets_last ! (agg ! (and_then ! (get ! refl) (and_then ! (get ! refl) (no_more !)))) refl (tt, (tt, (record { fits = fits_len }, tt))) $
        exec ! C Λ (env (code.function).locals l) code.Mir.t-2 (at_ret (env (code.function).locals l) Post) $
        sets ! (of_opd ! (get ! refl)) refl (tt, (tt, (record { fits = fits_len }, tt))) $
        use1 𝓛 (‵ (elements_shared u8 seen b (from + o) κ)) (run_seen 𝓛 b κ d.bytes from len o) $ hide ! $
        flt_i ! (length seen * 1) (2 ^ 63) (omega (arith, small, asked.1, long)) $ flt_i !
        (length seen) (2 ^ 64) (omega (arith, small, asked.1, long)) $ fjoin ! $
        feq_i ! (List Val) (slice_val (b, from + o) len ∷ []) (slice_val (b, from + o) (length seen) ∷ [])
        (ap (λ k. slice_val (b, from + o) k ∷ []) (sym long)) $ fjoin ! $ fjoin ! $
        returns ! (look_at ! 0 refl) $ free_all ! refl $
        suffices ! _ (ends_at 𝓛 ended stayed clauses z (slice_val (b, from + o) len)
        (record { ref_ptr = (b, from + o); now = seen }) (tt, (tt, (tt, (tt, tt)))) (tt, (tt, (tt, (tt, tt))))) $ says ! refl $
        nothing ! $ nothing ! $ fjoin ! $ nothing ! $ fjoin ! $ nothing ! $ fjoin ! $ nothing ! $ fjoin ! $ move ! (2 ∷ 0 ∷ 1 ∷ []) $ done !))))))))))

  meets : (𝓣 : Tables 𝓤 H) → Meets 𝓛 ended.signature (WpFn 𝓤 H 𝓣.C 𝓣.Λ code.function) (closing 𝓛 ended clauses)
  meets 𝓣 =
      walk_Meets 𝓛 ended stayed (
        Goes-dropped 𝓛 1 (RefOf (0 ∷ []) tt (plain (λ _. the_row)) (λ _. tt)) yes (λ κs x f. refl),
        (
          Goes-dropped 𝓛 1 (plain (λ _. RawPtr)) yes (λ κs x f. refl),
          (Goes-dropped 𝓛 1 (plain (λ _. usize)) yes (λ κs x f. refl), (Goes-dropped 𝓛 1 (plain (λ _. usize)) yes (λ κs x f. refl), tt)),
        ),
      ) clauses
      (WpFn 𝓤 H 𝓣.C 𝓣.Λ code.function) (WpFn-mono 𝓤 H 𝓛.laws 𝓣 code.function) (walks 𝓣.C 𝓣.Λ)

pub slice_spec : {M : Type 1} → stated.statement M
unfolding tables_of
slice_spec 𝓤 𝓛 𝓜 𝓡 wired =
    let 𝓣 : Tables 𝓤 𝓛.H = tables_of 𝓤 𝓛.H 𝓜 (tables 𝓤 𝓛.H 𝓜 𝓡 𝓡.env) in
    entered 𝓤 𝓛.H (triple_of 𝓛 ended.signature (closing 𝓛 ended (clauses 𝓛 𝓜.mem 𝓡.returns))) 𝓣.C 𝓣.Λ #self code.function
    (code.unfolded 𝓤 𝓛.H 𝓜 𝓡 wired) (meets 𝓛 𝓜.mem 𝓡.returns 𝓣)
