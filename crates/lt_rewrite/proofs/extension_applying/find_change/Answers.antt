use Rattle.std.proofs.Common.{length, ap, below_more, arith}
use Rattle.std.proofs.lemmas.List.{get_or_read}
use Rattle.std.proofs.lemmas.List.Folds.{length-flat_map-take}
use Rattle.lt_tag.specs.Parts.{ExtensionParts}
use Rattle.lt_tag.specs.Spelling.{spell_extension}
use Rattle.lt_rewrite.specs.Applying.{LeadsAt}
use Rattle.lt_rewrite.proofs.FirstSteps.{flat_more}
use Rattle.lt_rewrite.proofs.extension_applying.find_change.Goals as goal

-- the place of this extension is within the bound 1,150,000: no more subtags are before it than there are in all
pub apply_to_extension-requires : goal.apply_to_extension-requires
apply_to_extension-requires g c =
    let few = length-flat_map-take spell_extension c.args.extensions.now c.loop-index.index
    c.index-extensions-index.result (omega (arith, c.loop-index-test.true)) in
    omega (arith, few, c.loop-index.invariant.here, c.requires)

-- the step leads on inside this extension, whose singleton is at `place`
pub returns-in-Some : goal.returns-in-Some
returns-in-Some g c =
    let e : ExtensionParts = c.index-extensions-index.result in
    let leads = rw (c.in-Some.is, c.loop-index.invariant.here) at c.in_ok-changed.ensures in (
      c.loop-index-test.true,
      (λ d. rw (get_or_read c.args.extensions.now c.loop-index.index e c.loop-index-test.true
          c.index-extensions-index.is d) at leads),
    )

-- this extension and those before it have no more subtags than all extensions, so the sum stays in range
pub overflow_add-place-in-loop-index : goal.overflow_add-place-in-loop-index
overflow_add-place-in-loop-index g c =
    let few = length-flat_map-take spell_extension c.args.extensions.now c.loop-index.index
    c.index-extensions-index.result (omega (arith, c.loop-index-test.true)) in
    let same = ap (λ (x : ExtensionParts). length (spell_extension x)) c.index-extensions-index.is in
    omega (arith, few, same, c.subtag_count-place.ensures, c.loop-index.invariant.here, c.requires)

-- the invariant stays true: a turn passes over an extension inside which the step leads nowhere, and adds its subtags
-- to the place
pub loop-index-preserved : goal.loop-index-preserved
loop-index-preserved g c =
    let R = g.L.Lookup.listed c.args.table.now in
    let es = c.args.extensions.now in
    let i = c.loop-index.index in
    let e : ExtensionParts = c.index-extensions-index.result in
    let none = rw c.in_default.is at c.in_ok-changed.ensures in
    let here : (f : ExtensionParts) → LeadsAt R c.args.start es c.args.step i f
    → ⊥ = λ f l. none f (rw (← c.loop-index.invariant.here, ← c.index-extensions-index.is) at (l e)) in
    record {
      here = omega (
        arith,
        flat_more spell_extension es i e c.loop-index-test.true c.index-extensions-index.is,
        c.subtag_count-place.ensures,
        c.loop-index.invariant.here,
      );
      elsewhere = λ k f h l. below_more (λ k. (f : ExtensionParts) → LeadsAt R c.args.start es c.args.step k f → ⊥) i
          (λ k h f l. c.loop-index.invariant.elsewhere k f h l) here k h f l;
    }
