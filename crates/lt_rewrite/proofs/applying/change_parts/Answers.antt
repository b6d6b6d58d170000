use Rattle.std.proofs.Common.{◌≡◌, List, length, ap, ◌∙◌, arith}
use Rattle.lt_tag.specs.Parts.{CoreParts, ExtensionParts}
use Rattle.lt_tag.specs.Spelling.{spell_extensions}
use Rattle.lt_tag.specs.Values.{extensions_of}
use Rattle.lt_rewrite.proofs.TagLeading.{fits, few_subtags, core_changed, extensions_changed, kept}
use Rattle.lt_rewrite.proofs.ExtensionForms.{extensions_step_count}
use Rattle.lt_rewrite.proofs.applying.change_parts.Goals as goal

-- the step leads to the langtag of the changed core and the tag's extensions, of which a tag has at most 1,024
pub returns-in-Some : goal.returns-in-Some
returns-in-Some g c =
    let t = c.args.tag.now in
    let same : c.in_ok-copy_extensions.field-0.items ≡ extensions_of t = c.in_ok-copy_extensions.ensures ∙ c.extensions.ensures.value in
    let few = (fits t c.extensions.ensures.tag.counts).0 in
    let leads = rw c.in-Some.is at c.in_ok-changed.ensures in (
      rw same (core_changed (g.L.Lookup.listed c.args.table.now) t c.args.step c.args.core.now c.in-Some.changed
          c.requires.core leads),
      omega (arith, few, ap length same),
    )

-- the places are within the bound 1,100,000: a tag has at most 1,024 extensions of at most 1,025 subtags each, after a
-- core of at most 1,030
pub change_extensions-requires : goal.change_extensions-requires
change_extensions-requires g c =
    let t = c.args.tag.now in
    let f = fits t c.extensions-2.ensures.tag.counts in
    omega (
      arith,
      few_subtags (extensions_of t) f.1,
      f.0,
      ap (λ es. length (spell_extensions es))
          c.extensions-2.ensures.value,
      c.core_length.ensures.few,
    )

-- the step leads to the langtag of the core and the changed extensions, which are no more than before
pub returns-in_ok-copy-in-Some-2 : goal.returns-in_ok-copy-in-Some-2
returns-in_ok-copy-in-Some-2 g c =
    let R = g.L.Lookup.listed c.args.table.now in
    let t = c.args.tag.now in
    let core : CoreParts = c.args.core.now in
    let fs : List ExtensionParts = c.in-Some-2.changed.items in
    let leads = rw (c.in-Some-2.is, c.extensions-2.ensures.value, c.core_length.ensures.value) at c.in_ok-changed-2.ensures in (
      rw c.in_ok-copy-in-Some-2.ensures (extensions_changed R t c.args.step core fs c.requires.core leads),
      omega (arith, extensions_step_count R (extensions_of t) fs leads.0, (fits t c.extensions-2.ensures.tag.counts).0),
    )

-- None is right: the step is no Whole step, and leads on neither from the core nor from the extensions
pub returns-in-None : goal.returns-in-None
returns-in-None g c =
    kept (g.L.Lookup.listed c.args.table.now) c.args.tag.now c.args.step c.args.core.now c.requires.core c.requires.kind
    (rw c.in_default.is at c.in_ok-changed.ensures)
    (rw (c.in-None.is, c.extensions-2.ensures.value, c.core_length.ensures.value) at c.in_ok-changed-2.ensures)
