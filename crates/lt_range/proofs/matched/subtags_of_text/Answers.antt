use Rattle.std.proofs.Common.{ℕ, List, subst, sym}
use Rattle.lt_check.specs.Conditions.{IsChecked}
use Rattle.lt_range.specs.Matched.{HasSubtags}
use Rattle.lt_range.specs.OtherSpellings.{AreOthersOf}
use Rattle.lt_range.specs.Spellings.{Spellings}
use Rattle.lt_range.proofs.SpellingLemmas.{staying_spellings}
use Rattle.lt_range.proofs.matched.subtags_of_text.Goals as goal

-- the text stays as it is, so its subtags are those of the extlang form, and of the canonical form too
pub returns-in-Some-clause-subtags : goal.returns-in-Some-clause-subtags
returns-in-Some-clause-subtags g c =
    let R = g.L.Lookup.listed c.args.table.now in
    let C : IsChecked R = rw c.checked-checked.ensures at c.table.ensures.checked in
    let others = c.in_ok-others.others.items in
    subst (λ (l : Spellings). HasSubtags R c.args.text.now l) (sym c.of_lists.ensures)
    (staying_spellings R C c.args.text.now c.in-Some.subtags others (rw c.in-Some.is at c.in_ok-subtags.ensures)
    (subst (λ (l : List (List ℕ)). AreOthersOf R l others) c.subtags-in-Some.ensures c.in_ok-others.ensures))
