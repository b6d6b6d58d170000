use Rattle.std.proofs.Common.{◌≡◌, true, Some, None, is_some, inl, [], refl, sym, ◌∙◌, arith}
use Rattle.std.proofs.lemmas.Option.{MatchOption-at_some, MatchOption-at_none}
use Rattle.std.proofs.lemmas.Result.{IfOk-weaker}
use Rattle.lt_tag.specs.Values.{core_alone}
use Rattle.lt_registry.specs.Validity.{IsProper}
use Rattle.lt_rewrite.specs.Labels.{LeadsBy}
use Rattle.lt_rewrite.specs.Runs.{Adds}
use Rattle.lt_canon.specs.Explaining.{rank_in}
use Rattle.lt_rewrite.proofs.ProperTags.{proper_parts}
use Rattle.lt_canon.proofs.TagForm.{core_spells_none}
use Rattle.lt_canon.proofs.TraceLemmas.{few_in_tag, first_adds, plain_explained, langtag_explained}
use Rattle.lt_canon.proofs.explaining.explain_tag.Goals as goal
use Rattle.lt_canon.proofs.explaining.explain_tag.Goals.{Then-is_some}

-- where the tag is a core alone: the tag of its settled core is proper, and the steps that were added lead to it
plain : (g : _) (c : Then-is_some g)
    → IsProper (g.L.Lookup.listed c.args.table.now) (core_alone c.in_ok-settled.settled)
    × Adds (LeadsBy (g.L.Lookup.listed c.args.table.now)) rank_in c.args.tag.now (core_alone
    c.in_ok-settled.settled) c.args.steps.items c.in_ok-settled.steps.items
plain g c =
    let some = (elim c.core_alone.result as (λ o. is_some o ≡ true → (a : _) × (o ≡ Some a))
    [ None ↦ λ e. cc | Some a ↦ λ e. (a, refl) ]) (sym (c.if-is_some.ensures {u = tt})) in
    let alone = MatchOption-at_some _ _ some.0 some.1 c.core_alone.ensures.value in
    plain_explained (g.L.Lookup.listed c.args.table.now) c.requires.checked c.args.tag.now c.in-Some.core.now
    c.in_ok-settled.settled some.0.now c.args.steps.items c.in_ok-settled.steps.items c.requires.proper
    (c.in-Some.ensures {u = tt}).value alone
    (rw (← c.in_ok-copy.ensures {u = tt}) (c.in_ok-settled.ensures {u = tt}).adds)

-- a tag may be made of the settled core, which must spell no grandfathered tag: steps lead from a proper tag to proper
-- ones, and a proper core spells none
pub from_parts-settled-requires-clause-not_grandfathered :
    goal.from_parts-settled-requires-clause-not_grandfathered
from_parts-settled-requires-clause-not_grandfathered g c =
    inl (core_spells_none (g.L.Lookup.listed c.args.table.now) c.requires.checked c.in_ok-settled.settled
    (proper_parts (g.L.Lookup.listed c.args.table.now) c.in_ok-settled.settled [] []
    (plain g (goal.at.from_parts-settled-requires-clause-not_grandfathered g c).Then-is_some).0).core)

-- `explain_whole` may be called: the tag of the settled core is proper and a core alone, and no step on its core leads
-- on
pub explain_whole-requires-then-is_some : goal.explain_whole-requires-then-is_some
explain_whole-requires-then-is_some g c = rw (c.from_parts-settled.ensures, c.new.ensures.items, c.new-then-is_some.ensures.items) (record {
  checked = c.requires.checked;
  proper = (plain g (goal.at.explain_whole-requires-then-is_some g c).Then-is_some).0;
  plain = (refl, refl);
  at_rest = λ b h. let is : c.in_ok-settled.settled ≡ b = cc in rw is at (c.in_ok-settled.ensures {u = tt}).at_rest;
})

-- the steps that were added lead, each the first, to a tag at rest: those on the core come first, and then those that
-- `explain_whole` adds
pub returns-then-is_some : goal.returns-then-is_some
returns-then-is_some g c =
    IfOk-weaker c.explain_whole-then-is_some.result _ _
    (λ taken rest. first_adds (g.L.Lookup.listed c.args.table.now) c.requires.checked c.args.tag.now
    (core_alone c.in_ok-settled.settled) c.args.steps.items c.in_ok-settled.steps.items taken.items
    (plain g (goal.at.returns-then-is_some g c).Then-is_some).1
    (rw (c.from_parts-settled.ensures, c.new.ensures.items, c.new-then-is_some.ensures.items) at rest))
    c.explain_whole-then-is_some.ensures

-- `explain_extensions` may be called, which bounds the subtags: a tag has few enough, so core and extensions together
-- have
pub explain_extensions-requires-clause-few : goal.explain_extensions-requires-clause-few
explain_extensions-requires-clause-few g c =
    omega (
      arith,
      few_in_tag c.args.tag.now c.in_ok-others.others.items c.extensions.ensures.tag
          (c.in_ok-others.ensures {u = tt} ∙ c.extensions.ensures.value),
      c.core_length.ensures.few,
    )

-- the steps that were added lead, each the first, to a tag at rest: one with extensions or private use can't be
-- replaced whole, so after the core there are only its extensions
pub returns : goal.returns
returns g c =
    let none : c.core_alone.result ≡ None = let told = c.if-is_some.ensures {u = tt} in grind arith in
    let given = c.in_ok-steps.ensures {u = tt} in
    langtag_explained (g.L.Lookup.listed c.args.table.now) c.requires.checked c.args.tag.now c.in-Some.core.now
    c.in_ok-settled.settled c.in_ok-others.others.items _ c.core_length.result c.args.steps.items
    c.in_ok-settled.steps.items _ c.requires.proper (c.in-Some.ensures {u = tt}).value
    (c.in_ok-others.ensures {u = tt} ∙ c.extensions.ensures.value)
    (MatchOption-at_none _ _ none c.core_alone.ensures.value)
    (rw (← c.in_ok-copy.ensures {u = tt}) (c.in_ok-settled.ensures {u = tt}).adds)
    (c.in_ok-settled.ensures {u = tt}).at_rest c.core_length.ensures.value given.adds given.at_rest
