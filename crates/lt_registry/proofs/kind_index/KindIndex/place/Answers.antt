use Rattle.std.proofs.Common.{◌≡◌, ◌+◌, get_or, ap, ◌∙◌}
use Rattle.lt_registry.specs.Sorted.{beginning, place_of}
use Rattle.lt_registry.proofs.SpanLemmas.{none_alike, place_alike}
use Rattle.lt_registry.proofs.kind_index.KindIndex.place.Goals as goal
use Rattle.lt_registry.proofs.kind_index.KindIndex.place.Goals.{In_ok-start, In_ok-end, In_ok-alike}

-- the first of the two starts is where the rows begin that have the beginning of the number
start_is : (c : In_ok-start) → c.in_ok-start.field-0.now ≡ get_or c.args.self.now.starts.items (beginning c.args.number) 0
start_is c = c.in_ok-start.ensures.lookup.3.1 0
    ∙ ap (λ zs. get_or zs c.beginning-beginning.result 0) c.deref.ensures.value
    ∙ ap (λ k. get_or c.args.self.now.starts.items k 0) c.beginning-beginning.ensures

-- the second is where those of the next beginning begin
end_is : (c : In_ok-end) → c.in_ok-end.field-0.now ≡ get_or c.args.self.now.starts.items (beginning c.args.number + 1) 0
end_is c = c.in_ok-end.ensures.lookup.3.1 0
    ∙ ap (λ zs. get_or zs (c.beginning-beginning.result + 1) 0) c.deref-2.ensures.value
    ∙ ap (λ k. get_or c.args.self.now.starts.items (k + 1) 0) c.beginning-beginning.ensures

-- if the two starts don't bound a part of the rows, None is right: no row has the number
pub returns-in_err-alike : goal.returns-in_err-alike
returns-in_err-alike c =
    let self = c.args.self.now in
    let no = rw (
      start_is (goal.at.returns-in_err-alike c).In_ok-start,
      end_is (goal.at.returns-in_err-alike c).In_ok-end,
      c.deref-3.ensures.value,
    ) at
    c.in_err-alike.ensures.lookup.0 in
    c.from_residual-in_err-alike.ensures ∙ none_alike self.singles.items self.starts.items c.args.number c.requires.starts no

-- what is found between the two starts is what would be found among all rows: a row with the number has its beginning
-- too
pub returns : goal.returns
returns c =
    let self = c.args.self.now in
    let is = rw (
      start_is (goal.at.returns c).In_ok-start,
      end_is (goal.at.returns c).In_ok-end,
      c.deref-3.ensures.value,
    ) at c.in_ok-alike.ensures.lookup.0 in
    c.place_of.ensures ∙ ap (place_of c.args.number) is.2
    ∙ place_alike self.singles.items self.starts.items c.args.number c.requires.starts is.0
