use Rattle.std.proofs.Common.{sym, ap, ◌∙◌}
use Rattle.std.specs.List.{slice_get}
use Rattle.std.specs.Option.{option_and_then, option_copied}
use Rattle.lt_subtag.proofs.NumberLemmas.{subtag_few}
use Rattle.lt_registry.proofs.IndexLemmas.{single_at}
use Rattle.lt_registry.proofs.kind_index.KindIndex.single.Goals as goal

-- None is right: no row has the subtag's number, so no record of the kind names the subtag alone
pub returns-in_err-place : goal.returns-in_err-place
returns-in_err-place c =
    ap option_copied c.from_residual.ensures ∙ ap (option_and_then (slice_get c.args.entries.now)) (sym c.in_err-place.was)
    ∙ single_at c.args.entries.now c.args.self.now.kind c.args.self.now.singles.items c.args.subtag.now
    c.requires.index.singles c.requires.forms (subtag_few c.args.subtag.now c.number.ensures.subtag) c.number.result
    c.place.result c.number.ensures.number c.place.ensures

-- the row with the subtag's number is that of the first record of the kind that names the subtag alone
pub returns : goal.returns
returns c =
    c.entry_at.ensures ∙ ap (option_and_then (slice_get c.args.entries.now)) (sym c.in_ok-place.was)
    ∙ single_at c.args.entries.now c.args.self.now.kind c.args.self.now.singles.items c.args.subtag.now
    c.requires.index.singles c.requires.forms (subtag_few c.args.subtag.now c.number.ensures.subtag) c.number.result
    c.place.result c.number.ensures.number c.place.ensures
