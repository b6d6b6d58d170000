use Rattle.std.proofs.Common.{ℕ, List, sym, ◌∙◌, subst}
use Rattle.lt_tag.specs.Parts.{LangTag}
use Rattle.lt_tag.specs.Values.{IsTagValue}
use Rattle.lt_rewrite.specs.Applying.{TagLeads}
use Rattle.lt_rewrite.proofs.TagLeading.{made, values_alone}
use Rattle.lt_rewrite.proofs.applying.change.Goals as goal

-- a Whole step leads to what `change_whole` gives; if it leads nowhere, it leads to no value of the type Tag
pub returns-in-Whole : goal.returns-in-Whole
returns-in-Whole g c = values_alone (TagLeads (g.L.Lookup.listed c.args.table.now) c.args.tag.now c.args.step)
    IsTagValue c.change_whole.result c.change_whole.ensures

-- the step leads to the langtag of these parts and the tag's private use; None says that no Tag can be this langtag
pub returns-in_ok-private-in-Some-2 : goal.returns-in_ok-private-in-Some-2
returns-in_ok-private-in-Some-2 g c =
    let R = g.L.Lookup.listed c.args.table.now in
    let t = c.args.tag.now in
    let found = rw c.in-Some-2.is at c.in_ok-core.ensures in
    let leads = subst
    (λ (ps : List (List ℕ)). TagLeads R t c.args.step (LangTag c.in-Some-2.core c.in-Some-2.extensions.items ps))
    (sym (c.in_ok-private-in-Some-2.ensures ∙ c.private.ensures.value)) found.0 in
    made R t c.args.step c.requires
    (LangTag c.in-Some-2.core c.in-Some-2.extensions.items c.in_ok-private-in-Some-2.private.items) c.langtag.result
    leads c.langtag.ensures

-- the step changes neither the core nor the extensions, so it leads nowhere
pub returns-in-None : goal.returns-in-None
returns-in-None g c =
    let none = rw c.in-None.is at c.in_ok-core.ensures in
    λ u v l. none u l
