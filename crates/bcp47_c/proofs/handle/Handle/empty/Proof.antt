-- `Handle::empty` meets its contract, shown of its code step by step: a handle that holds nothing owns its two fields
-- alone.
use mathlib.Core.Path.{refl}
use mathlib.Core.List.{List, [], ◌∷◌, ◌++◌}
use lib.Dec.{T}
use mir.Syntax.{ty_ptr}
use mir.Val.{Val, vstruct, vnil, vcons, has_ty, WT}
use base.Logic.{emp, id⊢}
use base.Fml.{ftrue}
use contract.Running.{tables}
use prog.Wp.{WpFn}
use types.Kit.{‵, raw, prop, ◌⊛◌, ◌$◌, ◌∵◌, !, qed, move, drop, use1, join, split, fsplit, fjoin, fpack, feq_i, feq_l}
use types.Kit.{regoal, suffices, done}
use types.Part.{agg}
use types.Run.{no_more, and_then, returns, enter}
use types.ByLocal.{alloc_all, pass_all, free_all, look_at, get, sets}
use denote.Exit.{yes}
use denote.RattleType.{Valss, owns}
use denote.RawPtr.{Ptr, RawPtr, null_ptr, block_ptr, ptr_val}
use denote.Signature.{plain}
use denote.Steps.{nothing}
use denote.Struct.Owning.{shape}
use denote.Struct.Struct.{within}
use denote.Triple.Walked.{says, Stays, stay_dropped, walk_of, ends_at, Goes-dropped}
use Rattle.core.proofs.alloc.Calls.{α, Fits, handle_tells}
use Rattle.std.specs.Prelude.{None}
use Rattle.std.proofs.Common.{lit<}
use Rattle.std.proofs.raw_atomic.Walks.{proved_at}
use Rattle.std_alloc.proofs.ResultValues.{and_tt}
use Rattle.std_alloc.proofs.BoxSteps.Form.{box_ty, box_typed}
use Rattle.std_heap.specs.contracts.Global as allocator
use Rattle.bcp47_c.proofs.AsBox.{held_box, held_handle}
use Rattle.bcp47_c.specs.contracts.handle.Handle as handle
use Rattle.bcp47_c.specs.contracts.handle.Handle.empty as f
use Rattle.bcp47_c.proofs.handle.Handle.empty.Statement.{statement}
use Rattle.bcp47_c.proofs.handle.Handle.empty.Code as code

-- neither parameter is kept by the caller
abbrev stayed : Stays f.ended.signature.params f.ended.kept
stayed = (stay_dropped (plain (λ _. RawPtr)) yes, (stay_dropped (plain (λ _. allocator.the_row)) yes, tt))

-- the machine value of a handle, and that each part of it has its type
abbrev word : Ptr → Val → Val
word p hv = vstruct (vcons (ptr_val p) (vcons hv vnil))

place_typed : (p : Ptr) → T (has_ty ty_ptr (ptr_val p)) × WT (ptr_val p)
place_typed (block_ptr b o) = (tt, tt)
place_typed null_ptr = (tt, record { fits = lit< tt })

word_typed : (p : Ptr) (hv : Val) → Fits held_box.al hv → T (has_ty (box_ty held_box) (word p hv)) × WT (word p hv)
word_typed (block_ptr b o) hv fits = box_typed held_box hv b o fits
word_typed null_ptr hv fits = (and_tt (has_ty (α held_box.al) hv) fits.0, (record { fits = lit< tt }, (fits.1, tt)))

-- the function meets its contract, by its code step by step: the two parameters are moved into the fields, and nothing is
-- owned at the place
pub empty_spec : {M : Type 1} → statement M
empty_spec 𝓤 𝓛 𝓜 𝓡 wired =
    let c = f.clauses 𝓛 𝓜.mem 𝓡.returns in let 𝓣 = tables 𝓤 𝓛.H 𝓜 𝓡 𝓡.env in let W = walk_of 𝓛 f.ended stayed c in
    let Parts = RawPtr ∷ allocator.the_row ∷ [] in
    proved_at 𝓛 f.ended stayed c 𝓜 𝓡 (
      Goes-dropped 𝓛 0 (plain (λ _. RawPtr)) yes (λ κs x w. refl),
      (Goes-dropped 𝓛 0 (plain (λ _. allocator.the_row)) yes (λ κs x w. refl), tt),
    )
    f.Key.name code.function (code.unfolded 𝓤 𝓛.H 𝓜 𝓡 wired) (λ y are.
    let p = y.0.3.0 in let a = y.0.3.1.0 in let us = y.0.4.0 in let vs = y.0.4.1.0 in
    let made : held_handle.Denot = record { place = p; alloc = a; held = None } in
    qed 𝓛 ((‵ ftrue ⊛ ‵ (owns Parts (p, (a, tt)) (us, (vs, tt)))) ∷ raw (emp 𝓤) ∷ []) ∵ split ! $ drop ! $ fsplit ! $
    feq_l ! (λ is_place. fsplit ! $
    handle_tells held_box.al ! a vs (λ hv is_handle fits. move ! (1 ∷ 2 ∷ []) $ drop ! $ drop ! $
    -- [what the allocator owns]
    let w = word p hv in
    nothing ! $ nothing ! $ move ! (2 ∷ 0 ∷ []) $ fjoin ! $ feq_i ! (List Val) (ptr_val p ∷ []) (ptr_val p ∷ []) refl $
    fjoin ! $ feq_i ! (List Val) (w ∷ []) (w ∷ []) refl $ fjoin ! $
    fpack ! (Valss Parts) (within (shape handle.the_type) (p, (((tt, tt), tt), tt)) (w ∷ []))
    (ptr_val p ∷ [], (hv ∷ [], tt)) $ fjoin ! $ use1 𝓛 (‵ (held_handle.own_val made (w ∷ []))) (id⊢ 𝓤 _) $
    regoal ! (λ (ys : List Val). prop (WpFn 𝓤 𝓛.H 𝓣.C 𝓣.Λ code.function (us ++ (ys ++ [])) (W.post y))) is_handle refl $
    regoal ! (λ (xs : List Val). prop (WpFn 𝓤 𝓛.H 𝓣.C 𝓣.Λ code.function (xs ++ (hv ∷ [])) (W.post y))) is_place refl $
    enter ! _ _ _ _ _ $ alloc_all ! (λ l. pass_all ! refl (place_typed p, (fits, tt)) $
    sets ! (agg ! (and_then ! (get ! refl) (and_then ! (get ! refl) (no_more !)))) refl (word_typed p hv fits) $ returns
    ! (look_at ! 0 refl) $ free_all ! refl $
    suffices ! _ (ends_at 𝓛 f.ended stayed c y w made (tt, (tt, tt)) (tt, (tt, tt))) $ says ! refl $
    nothing ! $ nothing ! $ join ! $ nothing ! $ join ! $ nothing ! $ done !))))
