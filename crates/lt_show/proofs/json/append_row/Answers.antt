use Rattle.std.proofs.Common.{◌++◌, ◌∙◌, ap, List, ℕ}
use Rattle.lt_show.specs.Json.{row_end, row_front}
use Rattle.lt_show.proofs.JsonLemmas.{row_joined}
use Rattle.lt_show.proofs.TableLemmas.{after_that}
use Rattle.lt_show.proofs.json.append_row.Goals as goal

-- the beginning and the end, appended one after the other, are the object of the row
pub returns : goal.returns
returns c =
    after_that c.args.objects.now.items c.append_front.new.objects.items c.append_end.new.objects.items
    (row_front c.args.text.now c.args.row.now) (row_end c.args.records.now c.args.row.now.listing)
    (c.in_ok-append_front.ensures {u = tt}) (c.in_ok-append_end.ensures {u = tt})
    ∙ ap (λ (l : List ℕ). c.args.objects.now.items ++ l) (row_joined c.args.text.now c.args.records.now c.args.row.now)
