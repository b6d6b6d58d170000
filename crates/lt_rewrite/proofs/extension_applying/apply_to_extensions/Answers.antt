use Rattle.lt_rewrite.proofs.ExtensionLeading.{leads_inside, none_inside}
use Rattle.lt_rewrite.proofs.extension_applying.apply_to_extensions.Goals as goal

-- an exchange of extensions is the same step in each registry
pub returns-in-SwapExtensions : goal.returns-in-SwapExtensions
returns-in-SwapExtensions g c = c.swap_extensions.ensures (g.L.Lookup.listed c.args.table.now)

-- the step is no SwapExtensions step, and leads on inside no extension
pub returns-in-None : goal.returns-in-None
returns-in-None g c =
    none_inside (g.L.Lookup.listed c.args.table.now) c.args.start c.args.extensions.now.items c.args.step c.in_default.not-SwapExtensions
    (rw (c.in-None.is, c.deref.ensures.value) at c.in_ok-index.ensures)

-- the step leads on inside this extension, and so from the list to the list with the changed extension in its place
pub returns-in-Some : goal.returns-in-Some
returns-in-Some g c =
    let at = rw (c.in-Some.is, c.deref.ensures.value) at c.in_ok-index.ensures in
    leads_inside (g.L.Lookup.listed c.args.table.now) c.args.start c.args.extensions.now.items c.args.step
    c.in-Some.index c.in-Some.changed at.0 at.1
