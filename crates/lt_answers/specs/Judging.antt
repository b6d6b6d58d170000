-- How an explanation is judged line by line: each line by the tag to which the lines before it lead. A line settles the
-- verdict if no line after it can change that.
use Rattle.std.specs.Prelude.{◌≡◌, ◌≢◌, ◌≤◌, ◌<◌, ◌+◌, ◌⊎◌, ℕ, List, [], ◌∷◌, ◌++◌, length, Option, Some, None}
use Rattle.lt_tag.specs.Parts.{TagForm}
use Rattle.lt_tag.specs.Texts.{text_of}
use Rattle.lt_registry.specs.Parts.{EntryParts}
use Rattle.lt_registry.specs.Validity.{IsProper}
use Rattle.lt_answers.specs.Verdicts.{EndsElsewhere, EndsHere, HasOtherText, LeadsOn, NamesNoStep, NamesNothing}
use Rattle.lt_answers.specs.declared.judging.Flow.{Flow}
use Rattle.lt_answers.specs.declared.judging.Flow.TheVariants as flows
use Rattle.lt_answers.specs.declared.verdicts.Verdict.{Verdict}
use Rattle.lt_answers.specs.declared.verdicts.Verdict.TheVariants as verdicts

-- Line number `n` settles the verdict `v`, whatever follows it, if the lines before it lead to `t`: it names a step
-- that does not lead on (NoSuchStep), an end with another text (WrongEnd), a step with another text or nothing
-- (BadStep).
abbrev pub SettlesLine : List EntryParts → ℕ → TagForm → List ℕ → Verdict → Type 0
SettlesLine R n t line v =
    (NamesNoStep R t line × (v ≡ verdicts.NoSuchStep n))
    ⊎ ((EndsElsewhere t line × (v ≡ verdicts.WrongEnd))
    ⊎ ((HasOtherText R t line ⊎ NamesNothing line) × (v ≡ verdicts.BadStep n)))

-- the verdict if no line follows: Right after the line of the end, else BadStep of the line that is missing
abbrev pub end_verdict : ℕ → Option TagForm → Verdict
end_verdict n None = verdicts.Right
end_verdict n (Some t) = verdicts.BadStep n

-- `v` is the verdict on these lines, the first of which has the number `n`. The lines before them lead to the tag
-- `here`, or, if that is None, they end with the line of the end.
abbrev pub Judges : List EntryParts → ℕ → Option TagForm → List (List ℕ) → Verdict → Type 0
Judges R n here [] v = v ≡ end_verdict n here
Judges R n None (line ∷ lines) v = v ≡ verdicts.BadStep n
Judges R n (Some t) (line ∷ lines) v =
    ((u : TagForm) × LeadsOn R t line u × Judges R (n + 1) (Some u) lines v)
    ⊎ ((EndsHere t line × Judges R (n + 1) None lines v) ⊎ SettlesLine R n t line v)

-- the tag to which lines lead is proper, unless they have ended and lead to none
abbrev pub IsProperIf : List EntryParts → Option TagForm → Type 0
IsProperIf R None = Unit {0}
IsProperIf R (Some t) = IsProper R t

-- ---- the steps

-- what judging line number `n` gives if the lines before it lead to `t`: the tag to which it leads on, the end, or a
-- verdict
abbrev pub FlowIs : List EntryParts → ℕ → TagForm → List ℕ → Flow → Type 0
FlowIs R n t line (flows.Leads u) = IsProper R u × LeadsOn R t line u
FlowIs R n t line flows.Ends = EndsHere t line
FlowIs R n t line (flows.Settled v) = SettlesLine R n t line v

-- what judging the line of an end with this text gives if the lines before it lead to `t`: the end if the text is that
-- of `t`, else the verdict WrongEnd
abbrev pub EndFlow : TagForm → List ℕ → Flow → Type 0
EndFlow t text (flows.Leads u) = ⊥
EndFlow t text flows.Ends = text ≡ text_of t
EndFlow t text (flows.Settled v) = (text ≢ text_of t) × (v ≡ verdicts.WrongEnd)

-- the most bytes before the text of a step's line: the name of its kind (15, as `VariantLanguage` has), its place and
-- its number (10 each, as they have 32 bits), with a space after each, 38 in all
abbrev pub longest_label : ℕ
longest_label = 38

-- some right line after `t`, that of a step or of the end, has at least `n` bytes
pub record IsWithinRight (R : List EntryParts) (t : TagForm) (n : ℕ) : Type 0 where
  pub line : List ℕ
  pub right : ((u : TagForm) × LeadsOn R t line u) ⊎ EndsHere t line
  pub long : n ≤ length line

-- `n` bytes are kept of a line: no more than a label has, or no more than some right line has after `t`; none after the
-- line of the end (None)
abbrev pub KeepsFew : List EntryParts → Option TagForm → ℕ → Type 0
KeepsFew R None n = n ≡ 0
KeepsFew R (Some t) n = (n ≤ longest_label) ⊎ IsWithinRight R t n

-- what the front of line number `n` settles if the lines before it lead to `t`: a verdict, however the line goes on; or
-- nothing, and then the front is short enough to be kept
abbrev pub SettlesFront : List EntryParts → ℕ → TagForm → List ℕ → Option Verdict → Type 0
SettlesFront R n t front None = KeepsFew R (Some t) (length front)
SettlesFront R n t front (Some v) = (0 < length front) × ((more : List ℕ) → SettlesLine R n t (front ++ more) v)
