use Rattle.std.proofs.Common.{ℕ, false, List, Option, ◌∙◌, ap, subst}
use Rattle.lt_tag.specs.Parts.{ExtensionParts}
use Rattle.lt_tag.specs.Extensions.{unicode, transform}
use Rattle.lt_rewrite.specs.Rewriting.{IsNormalForm}
use Rattle.lt_rewrite.specs.Orderings.{ListStep}
use Rattle.lt_rewrite.specs.Extensions.{singleton_cmp}
use Rattle.lt_rewrite.specs.ExtensionsSettling.{Settles, placed}
use Rattle.lt_rewrite.proofs.ExtensionLaws.{extensions_settle, settled_within}
use Rattle.lt_rewrite.proofs.extensions_settling.settle_all.Goals as goal

-- the extension that was settled is one of the list
pub put_back-requires : goal.put_back-requires
put_back-requires g c =
    let R = g.L.Lookup.listed c.args.table.now in
    let u : Option (ℕ × ExtensionParts) = c.in_ok-unicode.unicode in
    settled_within R unicode c.args.extensions.now.items u (subst (λ es. Settles R unicode es u) c.deref.ensures.value
    (c.in_ok-unicode.ensures R))

-- with the normal forms of `u` and `t` in their places, the extensions in order are in their normal form
pub returns-clause-ok : goal.returns-clause-ok
returns-clause-ok g c =
    let R = g.L.Lookup.listed c.args.table.now in
    let es : List ExtensionParts = c.args.extensions.now.items in
    let u : Option (ℕ × ExtensionParts) = c.in_ok-unicode.unicode in
    let t : Option (ℕ × ExtensionParts) = c.in_ok-transform.transform in
    let us = subst (λ es. Settles R unicode es u) c.deref.ensures.value (c.in_ok-unicode.ensures R) in
    let ts = subst (λ es. Settles R transform es t) c.deref-2.ensures.value c.in_ok-transform.ensures in
    let last = subst (λ l. IsNormalForm (ListStep false singleton_cmp) l c.put_in_order.new.parts.items)
    (c.put_back-2.ensures ∙ ap (placed t) c.put_back.ensures) c.put_in_order.ensures in
    extensions_settle R es c.put_in_order.new.parts.items u t c.requires.singletons us ts last
