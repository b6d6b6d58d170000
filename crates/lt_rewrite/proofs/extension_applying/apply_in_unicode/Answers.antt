use Rattle.lt_rewrite.proofs.PartForms.{u_shaped}
use Rattle.lt_rewrite.proofs.ExtensionLeading.{unicode_changed, inside_u}
use Rattle.lt_rewrite.proofs.extension_applying.apply_in_unicode.Goals as goal

-- None is right: a step inside a `u` extension is one on its parts, from which this one leads nowhere
pub returns-then-not-apply_to_unicode : goal.returns-then-not-apply_to_unicode
returns-then-not-apply_to_unicode c = λ R f l.
    let m = inside_u R c.args.start c.args.extension.now c.args.step f c.in_ok-parts.parts c.requires.unicode
    c.in_ok-parts.ensures.parts l in
    c.if-not-apply_to_unicode.ensures m.0 m.1

-- the parts may be joined: a step keeps their shape
pub join_u-requires-clause-shaped : goal.join_u-requires-clause-shaped
join_u-requires-clause-shaped c =
    u_shaped c.in_ok-parts.parts c.apply_to_unicode.new.parts c.if-not-apply_to_unicode.ensures.0 c.in_ok-parts.ensures.parts.shaped

-- the step on the parts leads from this extension to the one that the new parts spell
pub returns : goal.returns
returns c = λ R.
    rw c.in_ok-join_u.ensures
    (unicode_changed R c.args.start c.args.extension.now c.args.step c.in_ok-parts.parts c.apply_to_unicode.new.parts
    c.requires.unicode c.in_ok-parts.ensures.parts c.if-not-apply_to_unicode.ensures)
