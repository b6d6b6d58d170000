use Rattle.lt_tag.specs.Parts.{TForm}
use Rattle.lt_rewrite.proofs.ExtensionLeading.{source_answers, no_source}
use Rattle.lt_rewrite.proofs.field_applying.apply_to_transform.Goals as goal
use Rattle.lt_rewrite.proofs.field_applying.apply_to_transform.Goals.{in-Some, in-None}

-- an exchange of fields is the same step in each registry
pub returns-in-SwapFields : goal.returns-in-SwapFields
returns-in-SwapFields g c = c.swap_fields.ensures (g.L.Lookup.listed c.args.table.now)

-- a step of another kind than SwapFields is one on the source, so without a source there is none
pub returns : goal.returns
returns g c =
    let R = g.L.Lookup.listed c.args.table.now in
    let p : TForm = record { source = c.parts.inside.source; fields = c.parts.inside.fields.items } in
    elim c.match-parts.branch [
      | in-Some w ↦ rw (w.result-is, w.parts-inside-is)
          (rw c.parts.view_is at (source_answers R c.args.start p c.args.step c.in_default.not-SwapFields
          w.in-Some.source w.in-Some.is w.apply_to_core.new.core w.apply_to_core.result w.apply_to_core.ensures))
      | in-None w ↦ rw w.result-is
          (rw c.parts.view_is at (λ (q : TForm). no_source R c.args.start p c.args.step q c.in_default.not-SwapFields
          w.in-None.is))
    ]
