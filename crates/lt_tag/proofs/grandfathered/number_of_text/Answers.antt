use Rattle.std.proofs.Common.{◌≡◌, false, arith, below_more, length, ℕ, ap, sym, ◌∙◌}
use Rattle.std.specs.Char.{to_ascii_lowercase}
use Rattle.lt_subtag.specs.Bytes.{folded}
use Rattle.lt_tag.specs.Lists.{list_of}
use Rattle.lt_tag.specs.Grandfathered.{IsGrandfathered}
use Rattle.lt_tag.specs.GrandfatheredFronts.{begins_listed}
use Rattle.lt_tag.proofs.GrandfatheredTexts.{match_found, match_needed, match_listed, first_begins, none_begins}
use Rattle.lt_tag.proofs.grandfathered.number_of_text.Goals as goal

-- the text is that of this number in some letter case, so it has the number's list
pub returns-then-eq_ignore_ascii_case-clause-found : goal.returns-then-eq_ignore_ascii_case-clause-found
returns-then-eq_ignore_ascii_case-clause-found c =
    match_found c.args.text.now c.loop-number.number c.loop-number.invariant.0 (omega (arith, c.loop-number-test.true))
    (c.eq_ignore_ascii_case.ensures.test.0 c.if-eq_ignore_ascii_case.true ∙ ap folded c.text_of.ensures)

-- the text has the list of this number, each piece of which is a subtag
pub returns-then-eq_ignore_ascii_case-clause-listed : goal.returns-then-eq_ignore_ascii_case-clause-listed
returns-then-eq_ignore_ascii_case-clause-listed c =
    match_listed c.args.text.now c.loop-number.number
    (match_found c.args.text.now c.loop-number.number c.loop-number.invariant.0 (omega (arith, c.loop-number-test.true))
    (c.eq_ignore_ascii_case.ensures.test.0 c.if-eq_ignore_ascii_case.true ∙ ap folded c.text_of.ensures))

-- the text is not that of this number in any letter case, so it doesn't have the number's list
pub loop-number-preserved : goal.loop-number-preserved
loop-number-preserved c =
    let here : IsGrandfathered (list_of c.args.text.now) c.loop-number.number → ⊥ = λ g.
    let yes = c.eq_ignore_ascii_case.ensures.test.1 (match_needed c.args.text.now c.loop-number.number g
    ∙ ap folded (sym c.text_of.ensures)) in
    let no = c.if-eq_ignore_ascii_case.false in
    cc
    in (
      omega arith,
      below_more (λ (k : ℕ). IsGrandfathered (list_of c.args.text.now) k → ⊥) c.loop-number.number
          c.loop-number.invariant.1 here,
    )

-- an empty text has no first byte, and is no grandfathered tag
pub returns-in_default-clause-none : goal.returns-in_default-clause-none
returns-in_default-clause-none c = λ number g. none_begins c.args.text.now number c.in_default.ensures.value g

-- no grandfathered tag has this length and begins with this letter
pub returns-then-not-begins_listed-clause-none : goal.returns-then-not-begins_listed-clause-none
returns-then-not-begins_listed-clause-none c = λ number g.
    let yes = first_begins c.args.text.now number c.in-Some.first.now c.in-Some.ensures.value g in
    let no : begins_listed (length c.args.text.now) (to_ascii_lowercase c.in-Some.first.now) ≡ false =
    ap (begins_listed (length c.args.text.now)) (sym c.to_ascii_lowercase.ensures.value) ∙ sym c.begins_listed.ensures
    ∙ c.if-not-begins_listed.true in
    cc
