use Rattle.std.proofs.Common.{◌≡◌, ◌∙◌, ◌∷◌, ℕ, List, ap, subst, sym}
use Rattle.lt_tag.specs.WellFormed.{spell}
use Rattle.lt_check.specs.Conditions.{IsChecked}
use Rattle.lt_canon.specs.ExtlangForm.{IsExtlangFormOf}
use Rattle.lt_range.specs.OtherSpellings.{AreOthersOf, canonical_part}
use Rattle.lt_range.specs.Spellings.{HasSpellings, Spellings}
use Rattle.lt_range.proofs.SpellingLemmas.{form_spellings}
use Rattle.lt_range.proofs.matched.tag_spellings.Goals as goal

-- the spellings are the extlang form, and those that have the canonical form that is a part of it
pub returns-clause-subtags : goal.returns-clause-subtags
returns-clause-subtags g c =
    let R = g.L.Lookup.listed c.args.table.now in
    let C : IsChecked R = rw c.checked-checked.ensures at c.table.ensures.checked in
    let form = c.in_ok-form.form in
    let others = c.in_ok-others.others.items in
    let is_form : IsExtlangFormOf R c.args.tag.now form = rw c.checked-checked.ensures at c.in_ok-form.ensures.form in
    let part : c.canonical_part.result.now ≡ canonical_part form (spell form) =
    c.canonical_part.ensures ∙ ap (canonical_part form) (c.subtags.ensures ∙ c.in_ok-first.ensures) in
    subst (λ (l : Spellings). HasSpellings R c.args.tag.now l)
    (sym (c.of_lists.ensures ∙ ap (λ (l : List (List ℕ)). l ∷ others) c.in_ok-first.ensures))
    (form_spellings R C c.args.tag.now form others is_form
    (subst (λ (l : List (List ℕ)). AreOthersOf R l others) part c.in_ok-others.ensures))
