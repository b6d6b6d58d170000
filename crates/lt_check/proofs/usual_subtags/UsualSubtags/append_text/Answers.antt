use Rattle.std.proofs.Common.{ℕ, refl, arith, sym, ◌∙◌}
use Rattle.std.proofs.Math.Seq.{take-append-add}
use Rattle.lt_check.proofs.TextLemmas.{shown_cut}
use Rattle.lt_check.proofs.CutLemmas.{shown_stays, shown_cased, stays_shown}
use Rattle.lt_check.proofs.usual_subtags.UsualSubtags.append_text.Goals as goal

-- false is right, whatever `R` has these flags: nothing is shown, but of a text whose subtags all stay something is
pub returns-in_default-clause-exact : goal.returns-in_default-clause-exact
returns-in_default-clause-exact c = λ R flags. (
  λ h. cc,
  λ stay. absurd (stays_shown R c.args.self.now flags c.args.text.now stay.0 stay.1 (sym c.shown.ensures.value ∙ c.in_default.is)),
)

-- true is right, whatever `R` has these flags: something is shown, so the text is made of subtags with flags, and these
-- stay
pub returns-clause-exact : goal.returns-clause-exact
returns-clause-exact c = λ R flags.
    let t = shown_cut c.args.self.now c.args.text.now c.in-Some.shown (sym c.shown.ensures.value ∙ c.in-Some.is) in
    (λ _. (_, shown_stays R c.args.self.now flags c.args.text.now c.in-Some.shown t), λ _. refl)

-- after the cut, what was appended is the text in conventional case, without the zeros after it
pub returns-clause-appended : goal.returns-clause-appended
returns-clause-appended c = λ R flags told.
    let t = shown_cut c.args.self.now c.args.text.now c.in-Some.shown (sym c.shown.ensures.value ∙ c.in-Some.is) in
    let cased = shown_cased R c.args.self.now flags c.args.text.now c.in-Some.shown t in
    let added = (c.in_ok-extend_from_slice.ensures {u = tt}).items in
    let long = c.args.texts.now.ok.0 in
    grind (arith, take-append-add {A = ℕ})
