use Rattle.std.proofs.Common.{arith}
use Rattle.lt_registry.specs.Entries.{IsRegistry}
use Rattle.lt_rewrite.proofs.CoreLaws.{step_shaped}
use Rattle.lt_rewrite.proofs.PartForms.{t_shaped, t_step_length}
use Rattle.lt_rewrite.proofs.ExtensionLeading.{transform_changed, inside_t}
use Rattle.lt_rewrite.proofs.extension_applying.apply_in_transform.Goals as goal

-- None is right: a step inside a `t` extension is one on its parts, from which this one leads nowhere
pub returns-then-not-apply_to_transform : goal.returns-then-not-apply_to_transform
returns-then-not-apply_to_transform g c = λ f l.
    let m = inside_t (g.L.Lookup.listed c.args.table.now) c.args.start c.args.extension.now c.args.step f c.in-Ok.parts
    c.requires.transform c.in-Ok.ensures.parts l in
    c.if-not-apply_to_transform.ensures m.0 m.1

-- the parts may be joined: a step keeps their shape, as the entries have their forms
pub join_t-requires-clause-shaped : goal.join_t-requires-clause-shaped
join_t-requires-clause-shaped g c =
    let R = g.L.Lookup.listed c.args.table.now in
    let G : IsRegistry R = record { rising = c.entries.ensures.rising; forms = c.entries.ensures.forms } in
    t_shaped R (step_shaped R G) c.in-Ok.parts c.apply_to_transform.new.parts c.if-not-apply_to_transform.ensures.0
    c.in-Ok.ensures.parts.shaped

-- the parts may be joined: after a step they have no more subtags than before
pub join_t-requires-clause-few : goal.join_t-requires-clause-few
join_t-requires-clause-few g c =
    omega (
      arith,
      t_step_length (g.L.Lookup.listed c.args.table.now) c.in-Ok.parts c.apply_to_transform.new.parts
          c.if-not-apply_to_transform.ensures.0,
      c.in-Ok.ensures.few,
    )

-- the step on the parts leads from this extension to the one that the new parts spell
pub returns : goal.returns
returns g c =
    let R = g.L.Lookup.listed c.args.table.now in
    let G : IsRegistry R = record { rising = c.entries.ensures.rising; forms = c.entries.ensures.forms } in
    rw c.in_ok-join_t.ensures
    (transform_changed R c.args.start c.args.extension.now c.args.step G c.in-Ok.parts c.apply_to_transform.new.parts
    c.requires.transform c.in-Ok.ensures.parts c.if-not-apply_to_transform.ensures)
