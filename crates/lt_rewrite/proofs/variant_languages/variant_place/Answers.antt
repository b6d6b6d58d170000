use Rattle.std.proofs.Common.{List, length, sym, ap, ◌∙◌, arith}
use Rattle.std.specs.Option.{option_copied}
use Rattle.std.proofs.lemmas.Option.{slice_get_past}
use Rattle.lt_registry.specs.Parts.{EntryParts}
use Rattle.lt_rewrite.proofs.variant_languages.variant_place.Goals as goal

-- the variant has no entry, and none is at the index after the last one
pub returns-in-None : goal.returns-in-None
returns-in-None g c =
    slice_get_past (g.L.Lookup.listed c.args.table.now) (length c.entries-entries.result.now)
    (omega (arith, ap (λ (es : List EntryParts). length es) c.entries-entries.ensures.value))
    ∙ sym (ap option_copied c.in-None.is) ∙ c.entry.ensures
