use Rattle.std.proofs.Common.{[], set, sym, ap, ◌∙◌, subst, arith}
use Rattle.std.proofs.lemmas.List.{get_or_read}
use Rattle.lt_tag.specs.Parts.{KeywordParts}
use Rattle.lt_rewrite.specs.Applying.{TrueLeads}
use Rattle.lt_rewrite.proofs.ExtensionLeading.{true_step, true_led}
use Rattle.lt_rewrite.proofs.FirstSteps.{holds_at}
use Rattle.lt_rewrite.proofs.keyword_applying.drop_true_at.Goals as goal

-- false is right: the step needs a keyword whose key is one place to the left, and none is there
pub returns-in_default : goal.returns-in_default
returns-in_default c = λ ls s.
    let at = true_step c.args.start c.args.place c.args.keywords.now.items ls s in
    (rw c.deref.ensures.value at c.in_default.ensures) at.index at.within at.is_place

-- false is right: the types of the keyword whose key is one place to the left are not exactly `true`
pub returns-then-not-has_sole_true : goal.returns-then-not-has_sole_true
returns-then-not-has_sole_true c = λ ls s.
    let at = rw c.deref.ensures.value at c.in-Some.ensures in
    let sole = holds_at (λ k. omega arith) (true_step c.args.start c.args.place c.args.keywords.now.items ls s)
    c.in-Some.index at.0 at.1 c.index.result.now in
    c.if-not-has_sole_true.ensures (ap (λ (k : KeywordParts). k.types) c.index.ensures ∙ sole)

-- the keyword whose key is one place to the left has lost its only type, `true`
pub returns : goal.returns
returns c =
    let ks = c.args.keywords.now.items in
    let i = c.in-Some.index in
    let k : KeywordParts = c.index.result.now in
    let at = rw c.deref.ensures.value at c.in-Some.ensures in
    subst (λ (l : KeywordParts). TrueLeads c.args.start c.args.place ks (set ks i l))
    (sym (c.drop_types.ensures
    ∙ ap (λ (l : KeywordParts). record l
    { types = [] }) (get_or_read ks i c.index_mut.result.now at.0 c.index_mut.ensures.value k
    ∙ sym c.index.ensures)))
    (true_led c.args.start c.args.place ks i k at.0 at.1 c.index.ensures c.if-not-has_sole_true.ensures)
