-- `Block::of` meets its contract, shown of its code step by step: the box is taken apart, and its place is owned as
-- the box owned it, with the same value. The brackets list what is known at that point of the code.
use mathlib.Core.Path.{◌≡◌, refl, ap, ◌∙◌}
use mathlib.Core.List.{List, [], ◌∷◌, ◌++◌}
use mir.MapTy.{inst_fn}
use mir.Raw.{raw as bare}
use mir.Syntax.{Args, a_type, dcons, dnil}
use mir.Val.{Val, vstruct, of_list}
use base.Logic.{id⊢, never, fst∗}
use base.Fml.{ftrue, fsep, flft}
use contract.BorrowLft.{◌⊑◌}
use contract.Monad.{fact}
use contract.Running.{tables}
use prog.Wp.{WpFn}
use types.Logic.{sem}
use types.Kit.{Item, ‵, raw, prop, ◌⊛◌, some, later, ◌$◌, ◌∵◌, !, qed, move, drop, use1, join, split, split3, pick}
use types.Kit.{rewrite, regoal, fsplit, fjoin, fpick, feq_l, suffices, await, done}
use types.Part.{whole, sub, agg}
use types.Run.{stop, fld, no_more, and_then, of_opd, returns, enter}
use types.ByLocal.{alloc_all, pass_all, free_all, look_at, get, get_in, sets, lands_as}
use denote.Exit.{no}
use denote.Param.{bounded}
use denote.RawPtr.{Ptr, RawPtr, block_ptr, null_ptr, ptr_val, in_a_block}
use denote.Signature.{plain}
use denote.Steps.{heard, nothing, only}
use denote.Struct.Tuple.{Tuple}
use denote.Triple.Call.{calls_at}
use denote.Triple.Spec.{triple_of}
use denote.Triple.Table.{framed}
use denote.Triple.Walked.{says, Stays, stay_dropped, walk_of, ends_at}
use Rattle.core.proofs.alloc.Calls.{token, handle_tells, Goes-blank}
use Rattle.std.proofs.raw_atomic.Walks.{proved_at}
use Rattle.std_alloc.specs.Box.Ownership.{box_owns}
use Rattle.std_alloc.proofs.BoxSteps.Form.{Bx, D, τ, R, P, B, word, box_typed}
use Rattle.std_alloc.proofs.BoxSteps.Steps.{box_out, box_in}
use Rattle.std_alloc.specs.contracts.boxed.Box.into_raw_with_allocator as opening
use Rattle.std_alloc.proofs.boxed.Box.into_raw_with_allocator.Met.{met}
use Rattle.bcp47_c.specs.contracts.blocks.Block as block
use Rattle.bcp47_c.specs.contracts.blocks.Block.of as f
use Rattle.bcp47_c.proofs.blocks.Block.of.Statement.{statement}
use Rattle.bcp47_c.proofs.blocks.Block.of.Code as code

pub of_spec : {M : Type 1} → statement M
of_spec 𝓤 𝓛 𝓜 𝓡 wired X Z LX LZ g d drops dx allocator met-drops met-dx =
    let E : Bx = record { row = X; laws = LX; al = record { row = Z; laws = LZ; g = g; d = d; drops = drops } } in
    let given : Args = bounded (a_type ∷ a_type ∷ []) (X, (Z, tt)) (dcons d (dcons drops (dcons dx dnil))) in
    let ended = f.ended X Z g d drops dx in let stayed : Stays ended.signature.params ended.kept =
    (stay_dropped (plain (λ _. B E)) no, tt) in
    let c = f.clauses X Z g d drops dx 𝓛 𝓜.mem 𝓡.returns in let 𝓣 = tables 𝓤 𝓛.H 𝓜 𝓡 𝓡.env in
    let W = walk_of 𝓛 ended stayed c in let fn = inst_fn given code.function in
    let To = block.the_row (R E) (P E) g in
    let G = triple_of 𝓛 (opening.signature X Z g d drops dx) (opening.spec X Z g d drops dx 𝓛 𝓜.mem 𝓡.returns) in
    proved_at 𝓛 ended stayed c 𝓜 𝓡 (Goes-blank 𝓛 2 (plain (λ _. B E)) no (λ κs x w. tt), tt) (f.Key.name given) fn
    (code.unfolded 𝓤 𝓛.H 𝓜 𝓡 wired (X, (Z, tt)) d drops dx) (λ y are.
    let κs = y.0.0 in let qs = y.0.1 in let boxed = y.0.3.0 in let a = boxed.alloc in let x = boxed.value in
    let tokens : Item 𝓤 = ‵ (flft κs.0 qs.0) ⊛ ‵ (flft κs.1.0 qs.1.0) ⊛ ‵ ftrue in
    let bounds : Item 𝓤 = raw (fact 𝓤 (κs.0 ⊑ X.lives)) ⊛ raw (fact 𝓤 (κs.1.0 ⊑ Z.lives)) ⊛ ‵ ftrue in
    qed 𝓛 ((tokens ⊛ ‵ (fsep ((B E).own_val boxed y.0.4.0) ftrue)) ∷ bounds ∷ []) ∵ split ! $ move ! (1 ∷ []) $ fsplit ! $
    box_out E ! boxed y.0.4.0 (λ b o hv e ws fits. box_in E ! boxed b o x e refl $
    let w = word E hv b o in
    -- [the box, at its machine value; true; the tokens; the bounds]
    let z : G.Ghost = ((κs, qs, tt, (boxed, tt), (w ∷ [], tt)), tt) in
    regoal ! (λ (us : List Val). prop (WpFn 𝓤 𝓛.H 𝓣.C 𝓣.Λ fn (us ++ []) (W.post y))) ws refl $
    enter ! _ _ _ _ _ $ alloc_all ! (λ l. pass_all ! refl (box_typed E hv b o fits, tt) $
    sets ! (of_opd ! (get ! refl)) refl (box_typed E hv b o fits) $
    fjoin ! $ move ! (1 ∷ 0 ∷ []) $ join ! $ join ! $ use1 𝓛 (raw (G.pre z)) (id⊢ 𝓤 _) $
    calls_at ! (framed 𝓤 𝓛.H 𝓜 (tables 𝓤 𝓛.H 𝓜 𝓡 𝓡.env)) G
    (met 𝓤 𝓛 𝓜 𝓡 (code.calls-std_alloc::boxed::Box::into_raw_with_allocator 𝓡.env wired) X Z LX LZ g d drops dx
    allocator met-drops met-dx) z
    (and_then ! (get ! refl) (no_more !)) (λ v.
    use1 𝓛 (later (some (λ (r : Ptr × Z.Denot). (tokens ⊛ ‵ ((Tuple (RawPtr ∷ P E ∷ [])).own_val r (v ∷ []))) ⊛
    some (λ (_ : (Unit {0} × (Unit {0} × Unit {0})) × Unit {0}). ‵ (fsep (fsep ftrue (fsep ftrue ftrue)) ftrue) ⊛
    (raw (fact 𝓤 (r.1 ≡ a)) ⊛ ‵ (box_owns (token E.al a) (R E) r.0 x)))))) (id⊢ 𝓤 _) $
    await ! tt $ pick ! (λ r. split ! $ move ! (1 ∷ []) $ pick ! (λ _. split3 ! $ drop ! $ heard ! (r.1 ≡ a) (λ same.
    in_a_block ! r.0 (λ p. box_owns (token E.al a) (R E) p x) (fst∗ 𝓤 (never 𝓤) (sem 𝓛 (token E.al a (bare (τ E)) null_ptr))) (λ b' o' e'.
    -- [what is owned at the place; the tokens with the pair]
    move ! (1 ∷ []) $ split ! $ move ! (1 ∷ []) $ fpick ! (λ vss. fsplit ! $ feq_l ! (λ is_pair. fsplit ! $ feq_l ! (λ is_place. fsplit ! $
    rewrite ! 0 (λ (s : Z.Denot). ‵ (Z.own_val s vss.1.0)) same refl $ handle_tells E.al ! a vss.1.0 (λ hw is_handle fits'.
    let spread : D E = record { ptr = block_ptr b' o'; alloc = a; value = x } in
    let made : To.Denot = record { place = block_ptr b' o'; alloc = a; value = x } in
    lands_as !
    (ap only (is_pair
    ∙ (λ j. vstruct (of_list ((is_place ∙ ap (λ (p : Ptr). ptr_val p ∷ []) e') j ++ (is_handle j ++ []))) ∷ [])))
    refl (box_typed E hw b' o' fits') $
    sets ! (of_opd ! (get_in ! (fld ! refl (stop !)) (sub ! 0 refl (whole !)))) refl (tt, tt) $
    sets ! (of_opd ! (get_in ! (fld ! refl (stop !)) (sub ! 1 refl (whole !)))) refl fits' $
    sets ! (of_opd ! (get ! refl)) refl fits' $
    sets ! (agg ! (and_then ! (get ! refl) (and_then ! (get ! refl) (no_more !)))) refl (box_typed E hw b' o' fits') $
    returns ! (look_at ! 0 refl) $ free_all ! refl $
    -- [the handle; true; the tokens; what is owned at the place]
    move ! (3 ∷ []) $ fsplit ! $ box_in E ! spread b' o' x refl refl $ use1 𝓛
    (‵ (To.own_val made (word E hw b' o' ∷ []))) (id⊢ 𝓤 _) $ move ! (1 ∷ []) $ drop ! $
    suffices ! _ (ends_at 𝓛 ended stayed c y (word E hw b' o') made ((tt, (tt, tt)), tt) (tt, tt)) $ says ! refl $
    nothing ! $ nothing ! $ fjoin ! $ join ! $ move ! (1 ∷ 0 ∷ []) $ join ! $ done !))))))))))))
