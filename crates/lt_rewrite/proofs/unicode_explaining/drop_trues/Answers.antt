use Rattle.std.proofs.Common.{◌≡◌, ◌<◌, ◌+◌, ℕ, List, length, get_or, set, refl, sym, ap, ◌∙◌, arith}
use Rattle.std.proofs.lemmas.List.{get_or_read, get_or-set_same}
use Rattle.lt_tag.specs.Parts.{KeywordParts}
use Rattle.lt_tag.specs.Extensions.{spell_keyword}
use Rattle.lt_rewrite.specs.declared.steps.Step.{Step}
use Rattle.lt_rewrite.specs.declared.steps.StepKind.TheVariants as steps
use Rattle.lt_rewrite.proofs.PartRuns.{bare, bare_kept, bare_more, bare_all, bare_few}
use Rattle.lt_rewrite.proofs.unicode_explaining.drop_trues.Goals as goal
use Rattle.lt_rewrite.proofs.unicode_explaining.drop_trues.Goals.{then-has_sole_true+in_ok-push, else-has_sole_true}

-- the place of this key is at most one past the last subtag, so the next place is in range
pub overflow_add-here-then-has_sole_true : goal.overflow_add-here-then-has_sole_true
overflow_add-here-then-has_sole_true c =
    omega (arith, c.requires, bare_few c.args.start c.loop-index.invariant)

-- the place of this key is at most one past the last subtag, so the next place is below 2^32
pub overflow_cast-here : goal.overflow_cast-here
overflow_cast-here c =
    omega (arith, c.requires, bare_few c.args.start c.loop-index.invariant)

-- if the keyword at the index `i` was set to `k`, the count `n` of the subtags of the one there, `l`, is that of `k`
set_count : (ks ls : List KeywordParts) (i : ℕ) (k l : KeywordParts) (n : ℕ) → i < length ks → ls ≡ set ks i k
    → l ≡ get_or ls i l → n ≡ length (spell_keyword l) → n ≡ length (spell_keyword k)
set_count ks ls i k l n h e is count = count ∙ ap (λ x. length (spell_keyword x)) (is ∙ ap (λ xs. get_or xs i l) e
    ∙ get_or-set_same ks i k l h)

-- if the keyword at the index `i`, `k`, stayed, the count `n` of the subtags of the one there, `l`, is that of `k`
same_count : (ks ls : List KeywordParts) (i : ℕ) (k l : KeywordParts) (n : ℕ) → i < length ks → ls ≡ ks
    → k ≡ get_or ks i k → l ≡ get_or ls i l → n ≡ length (spell_keyword l) → n ≡ length (spell_keyword k)
same_count ks ls i k l n h e was is count = count ∙ ap (λ x. length (spell_keyword x)) (is ∙ ap (λ xs. get_or xs i l) e
    ∙ sym (get_or_read ks i k h was l))

-- the invariant stays true: a turn drops the only type `true` of this keyword by a DropTrue step, or leaves the keyword
-- if its types are not exactly `true`
pub loop-index-preserved : goal.loop-index-preserved
loop-index-preserved c =
    let ks = c.loop-index.keywords.items in
    let ls = c.if-has_sole_true.keywords.items in
    let i = c.loop-index.index in
    let k : KeywordParts = c.index.result.now in
    let l : KeywordParts = c.index-in-loop-index.result.now in
    let within : i < length ks = omega (arith, c.loop-index.invariant.count, c.loop-index-test.true, c.len-index-end.ensures) in
    elim c.if-has_sole_true.branch [
      | then-has_sole_true+in_ok-push w ↦
          let now : ls ≡ set ks i (bare k) = ap (λ v. v.items) w.keywords-is
          ∙ ap (set ks i) (w.drop_types.ensures
          ∙ ap bare (get_or_read ks i w.index_mut.result.now within w.index_mut.ensures.value k
          ∙ sym c.index.ensures)) in
          let step : Step = record { kind = steps.DropTrue; place = c.loop-index.here + 1; number = 0 } in
          let count = set_count ks ls i (bare k) l c.subtag_count-here.result within now c.index-in-loop-index.ensures
          c.subtag_count-here.ensures in
          rw (now, count) (bare_more c.args.start c.loop-index.invariant k within c.index.ensures step
          w.if-has_sole_true.ensures refl refl refl (ap (λ v. v.items) w.steps-is ∙ w.in_ok-push.ensures.items))
      | else-has_sole_true w ↦
          let now : ls ≡ ks = ap (λ v. v.items) w.keywords-is in
          let stay : c.if-has_sole_true.steps.items ≡ c.loop-index.steps.items = ap (λ v. v.items) w.steps-is in
          let count = same_count ks ls i k l c.subtag_count-here.result within now c.index.ensures
          c.index-in-loop-index.ensures c.subtag_count-here.ensures in
          rw (now, stay, count) (bare_kept c.args.start c.loop-index.invariant k within c.index.ensures w.if-has_sole_true.ensures)
    ]

-- the place of the next key, too, is at most one past the last subtag
pub overflow_add-here-in-loop-index : goal.overflow_add-here-in-loop-index
overflow_add-here-in-loop-index c =
    omega (arith, c.requires, bare_few c.args.start (loop-index-preserved c))

-- no keyword is left, so none has `true` as its only type
pub returns-clause-at_rest : goal.returns-clause-at_rest
returns-clause-at_rest c =
    bare_all c.args.start c.loop-index.invariant
    (omega (arith, c.loop-index.invariant.count, c.loop-index-test.false, c.len-index-end.ensures))
