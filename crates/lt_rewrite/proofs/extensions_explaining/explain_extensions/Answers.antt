use Rattle.std.proofs.Common.{ℕ, ◌+◌, ◌≤◌, List, Option, length, sym, subst}
use Rattle.std.specs.List.{AllByRecursion}
use Rattle.lt_tag.specs.Parts.{ExtensionParts}
use Rattle.lt_tag.specs.Spelling.{spell_extensions}
use Rattle.lt_tag.specs.Extensions.{unicode}
use Rattle.lt_registry.specs.Parts.{EntryParts}
use Rattle.lt_rewrite.specs.ExtensionsExplaining.{Explains}
use Rattle.lt_rewrite.proofs.ExtensionLaws.{settled_within}
use Rattle.lt_rewrite.proofs.ExtensionRuns.{HasForm, IsKept, swapped, settles_of, after_u, after_t}
use Rattle.lt_rewrite.proofs.extensions_explaining.explain_extensions.Goals as goal

-- after exchanges there are no more subtags, so the places are still within the bound
pub explained_unicode-requires : goal.explained_unicode-requires
explained_unicode-requires g c =
    let R : List EntryParts = g.L.Lookup.listed c.args.table.now in
    let k : IsKept c.args.start c.args.extensions.items = record {
      singletons = c.requires.singletons;
      transforms = c.requires.transforms;
      few = c.requires.few;
    } in
    let s = swapped R c.args.start k c.in_ok-explain_swaps.ensures.adds c.in_ok-explain_swaps.ensures.at_rest in
    record {
      few = subst (λ (l : List ExtensionParts). c.args.start + length (spell_extensions l) ≤ 1100000)
          (sym c.deref.ensures.value) s.kept.few;
    }

-- the extension that was explained is one of the list
pub put_back-requires : goal.put_back-requires
put_back-requires g c =
    let R : List EntryParts = g.L.Lookup.listed c.args.table.now in
    let fs : List ExtensionParts = c.explain_swaps.new.parts.items in
    let u : Option (ℕ × ExtensionParts) = c.in_ok-unicode.unicode in
    let h = subst (λ l. Explains R unicode c.args.start l u c.explain_swaps.new.steps.items
    c.explained_unicode.new.steps.items) c.deref.ensures.value (c.in_ok-unicode.ensures R) in
    settled_within R unicode fs u (settles_of R unicode c.args.start fs u c.explain_swaps.new.steps.items
    c.explained_unicode.new.steps.items h)

-- after exchanges and steps in the `u` extension there are no more subtags, and a `t` extension is as it was
pub explained_transform-requires : goal.explained_transform-requires
explained_transform-requires g c =
    let R : List EntryParts = g.L.Lookup.listed c.args.table.now in
    let k : IsKept c.args.start c.args.extensions.items = record {
      singletons = c.requires.singletons;
      transforms = c.requires.transforms;
      few = c.requires.few;
    } in
    let s = swapped R c.args.start k c.in_ok-explain_swaps.ensures.adds c.in_ok-explain_swaps.ensures.at_rest in
    let p = after_u R c.args.start c.in_ok-unicode.unicode c.explained_unicode.new.steps.items s c.deref.ensures.value
    (c.in_ok-unicode.ensures R) c.put_back.ensures in
    record {
      chains = c.requires.chains;
      transforms = subst (AllByRecursion HasForm) (sym c.deref-2.ensures.value) p.kept.transforms;
      few = subst (λ (l : List ExtensionParts). c.args.start + length (spell_extensions l) ≤ 1100000)
          (sym c.deref-2.ensures.value) p.kept.few;
    }

-- the exchanges, the steps in `u` and those in `t`, one after another, are one run of first steps, after which no step
-- is left
pub returns : goal.returns
returns g c =
    let R : List EntryParts = g.L.Lookup.listed c.args.table.now in
    let k : IsKept c.args.start c.args.extensions.items = record {
      singletons = c.requires.singletons;
      transforms = c.requires.transforms;
      few = c.requires.few;
    } in
    let s = swapped R c.args.start k c.in_ok-explain_swaps.ensures.adds c.in_ok-explain_swaps.ensures.at_rest in
    let p = after_u R c.args.start c.in_ok-unicode.unicode c.explained_unicode.new.steps.items s c.deref.ensures.value
    (c.in_ok-unicode.ensures R) c.put_back.ensures in
    let t = after_t R c.args.start c.in_ok-transform.transform c.explained_transform.new.steps.items p
    c.deref-2.ensures.value c.in_ok-transform.ensures c.put_back-2.ensures in
    record { adds = t.0; at_rest = t.1 }
