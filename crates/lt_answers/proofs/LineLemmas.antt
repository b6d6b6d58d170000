-- Lemmas for `labels` and `judge_front`: how the line of a step is read by its words, which kinds of step there are,
-- and what the front of a line says of the whole line.
use Rattle.std.proofs.Common.{take, drop, take-append-drop, ◌≡◌, ◌≢◌, ◌<◌, ◌^◌, ◌++◌, ◌∷◌, ◌∙◌, ◌==◌, ℕ, List, []}
use Rattle.std.proofs.Common.{Option, Some, Bool, true, sym, ap, refl, arith, not, map, get_or, find, ◌≤◌, inl, inr}
use Rattle.std.proofs.Common.{leb, length, append_assoc, length-append, bytes_eq, decimal, leb-true, subst, min, ◌-◌}
use Rattle.std.specs.List.{list_all}
use Rattle.std.proofs.lemmas.Fmt.{decimal_is_IsNumeral, length-decimal-le}
use Rattle.std.proofs.lemmas.Str.Parse.{digit_at}
use Rattle.std.proofs.lemmas.Bool.Decides.{Decides-by_and, Decides-eqb, Decides-not}
use Rattle.std.proofs.lemmas.List.{take-append-le}
use Rattle.std.proofs.Math.Seq.{take-append_seam}
use Rattle.std.proofs.lemmas.List.Elements.{All-append, All-cons, All-head, All-tail, All-from_get_or}
use Rattle.lt_rows.specs.Splitting.{IsFreeOf}
use Rattle.lt_rewrite.specs.Names.{name_of}
use Rattle.lt_rewrite.specs.declared.steps.Step.{Step}
use Rattle.lt_rewrite.specs.declared.steps.StepKind.{StepKind}
use Rattle.lt_answers.specs.StepLines.{HasWords, IsStepLine, IsNoName, NamesNoEnd}
use Rattle.lt_tag.specs.Parts.{TagForm}
use Rattle.lt_registry.specs.Parts.{EntryParts}
use Rattle.lt_rewrite.specs.Labels.{LeadsBy}
use Rattle.lt_answers.specs.Judging.{KeepsFew}
use Rattle.lt_answers.specs.Verdicts.{HasOtherText, NamesNothing, Lead, LeadsOn}
use Rattle.lt_rewrite.specs.declared.steps.StepKind.TheVariants as kinds
use Rattle.lt_tag.specs.Texts.{text_of}
use Rattle.lt_canon.specs.ExplanationTexts.{step_line}
use Rattle.lt_rewrite.specs.Runs.{rank_of}
use Rattle.lt_answers.specs.declared.labels.TheConstants.{KINDS}

-- ---- words that are parted by a space

-- a list is parted in one way at the first place where it has `byte`
pub one_split : (byte : ℕ) (x y r s : List ℕ) → IsFreeOf byte x → IsFreeOf byte y → x ++ byte ∷ r ≡ y ++ byte ∷ s → (x ≡ y) × (r ≡ s)
one_split byte [] [] r s fx fy e = (refl, cc)
one_split byte [] (b ∷ y) r s fx fy e = absurd (All-head (λ other. other ≢ byte) b y fy (cc))
one_split byte (b ∷ x) [] r s fx fy e = absurd (All-head (λ other. other ≢ byte) b x fx (cc))
one_split byte (b ∷ x) (c ∷ y) r s fx fy e =
    let rest = one_split byte x y r s (All-tail (λ other. other ≢ byte) b x fx) (All-tail (λ other. other ≢ byte) c y fy) (cc) in
    (cc, rest.1)

-- ---- the kinds

-- each of the 14 kinds of step is in the program's list of them
pub kind_at : (kind : StepKind) → (k : ℕ) × (k < 14) × (get_or KINDS k kinds.Extlang ≡ kind)
kind_at kinds.Extlang = (0, omega arith, refl)
kind_at kind = (min (rank_of kind - 1) 13, omega arith, refl)

-- what two functions give alike for each kind in the program's list they give alike for every kind
pub each_kind : {A : Type 0} (f g : StepKind → A) → map f KINDS ≡ map g KINDS → (kind : StepKind) → f kind ≡ g kind
each_kind f g same kinds.Extlang = ap (λ l. get_or l 0 (f kinds.Extlang)) same
each_kind f g same kind = ap (λ l. get_or l (min (rank_of kind - 1) 13) (f kinds.Extlang)) same

-- no two kinds of step have the same name
pub same_kind : (a b : StepKind) → name_of a ≡ name_of b → a ≡ b
same_kind a b e =
    let by_name : List ℕ → Option StepKind = λ name. find (λ (k : StepKind). bytes_eq name (name_of k)) KINDS in
    let same : Some a ≡ Some b = sym (each_kind (λ k. by_name (name_of k)) (λ k. Some k) refl a) ∙ ap by_name e
    ∙ each_kind (λ k. by_name (name_of k)) (λ k. Some k) refl b in
    cc

-- ---- names and numbers are free of spaces

-- whether `byte` is not among these bytes
abbrev is_free : ℕ → List ℕ → Bool
is_free byte bytes = list_all (λ b. not (b == byte)) bytes

-- a byte that is in no name of the program's list of kinds is in no kind's name
pub name_free : (byte : ℕ) → map (λ k. is_free byte (name_of k)) KINDS ≡ map (λ _. true) KINDS → (kind : StepKind)
    → IsFreeOf byte (name_of kind)
name_free byte free kind =
    (Decides-by_and (λ b. not (b == byte)) (λ b. b ≢ byte) (is_free byte)
    (λ b. Decides-not (b == byte) (Decides-eqb b byte)) refl (λ _ _. refl) (name_of kind)).0
    (each_kind (λ k. is_free byte (name_of k)) (λ _. true) free kind)

-- a number in decimal has no byte less than 48, the digit 0: no space (32), and no line feed (10)
pub number_free : (byte n : ℕ) → byte < 48 → n < 2 ^ 32 → IsFreeOf byte (decimal n)
number_free byte n low h = All-from_get_or (λ other. other ≢ byte) (decimal n) 0
    (λ i l e. absurd (omega (arith, low, e, digit_at (decimal n) i (decimal_is_IsNumeral n (omega (arith, h))).0.1 l)))

-- the line of a step has no line feed (10) if its text has none
pub step_is_line : (step : Step) (text : List ℕ) → step.place < 2 ^ 32 → step.number < 2 ^ 32 → IsFreeOf 10 text
    → IsFreeOf 10 (step_line step text)
step_is_line step text place number one =
    word (name_of step.kind) _ (name_free 10 refl step.kind)
    (word (decimal step.place) _ (number_free 10 step.place (omega arith) place)
    (word (decimal step.number) text (number_free 10 step.number (omega arith) number) one))
  where
    word : (bytes more : List ℕ) → IsFreeOf 10 bytes → IsFreeOf 10 more → IsFreeOf 10 (bytes ++ 32 ∷ more)
    word bytes more one two = All-append (λ other. other ≢ 10) bytes (32 ∷ more) one
        (All-cons (λ other. other ≢ 10) 32 more (λ e. absurd (omega (arith, e))) two)

-- ---- the words of a line

-- a line has its four words in one way
pub one_words : {line a b c d x y z u : List ℕ} → HasWords line a b c d → HasWords line x y z u → (a ≡ x) × (b ≡ y) × (c ≡ z) × (d ≡ u)
one_words {a = a} {b = b} {c = c} {x = x} {y = y} {z = z} v w =
    let first = one_split 32 a x _ _ v.name_free w.name_free (sym v.line_is ∙ w.line_is) in
    let second = one_split 32 b y _ _ v.place_free w.place_free first.1 in
    let third = one_split 32 c z _ _ v.number_free w.number_free second.1 in
    (first.0, second.0, third.0, third.1)

-- what is before each of the first three spaces (32) of a line, and what is after them, are its words
pub three_words : {line name places place numbers number text : List ℕ} → IsFreeOf 32 name
    × (line ≡ name ++ 32 ∷ places) → IsFreeOf 32 place × (places ≡ place ++ 32 ∷ numbers) → IsFreeOf 32 number
    × (numbers ≡ number ++ 32 ∷ text)
    → HasWords line name place number text
three_words first second third = record {
  name_free = first.0;
  place_free = second.0;
  number_free = third.0;
  line_is = cc (first.1, second.1, third.1);
}

-- the words of a step's line are the name of its kind, its place and its number in decimal, and the text
pub step_words : {line text : List ℕ} {step : Step} → IsStepLine line step text
    → HasWords line (name_of step.kind) (decimal step.place) (decimal step.number) text
step_words {step = step} is =
    record {
      name_free = name_free 32 refl step.kind;
      place_free = number_free 32 step.place (omega arith) is.place;
      number_free = number_free 32 step.number (omega arith) is.number;
      line_is = is.line_is;
    }

-- ---- what the front of a line says of the line

-- of two ways to part a list in two, the longer first part begins with the shorter one
longer_front : (a b c d : List ℕ) → a ++ b ≡ c ++ d → length c ≤ length a → (rest : List ℕ) × (a ≡ c ++ rest)
longer_front a b c d e le =
    let n = length c in
    (drop n a, sym (take-append-drop n a) ∙ ap (λ l. l ++ drop n a) (sym (take-append-le n a b le) ∙ ap (take n) e ∙ take-append_seam c d))

-- a step's line goes on as its text does
pub step_line-append : (step : Step) (text more : List ℕ) → step_line step text ++ more ≡ step_line step (text ++ more)
step_line-append step text more = simp append_assoc

-- what is before the text of a step's line has at most 38 bytes: 15 for the kind's name, 10 for each number, and 3
-- spaces
label_short : (step : Step) → step.place < 2 ^ 32 → step.number < 2 ^ 32 → length (step_line step []) ≤ 38
label_short step place number =
    let few : (n : ℕ) → n < 2 ^ 32 → length (decimal n) ≤ 10 = λ n h. length-decimal-le 10 n (omega arith) (omega arith) (omega arith) in
    omega (
      arith,
      leb-true (length (name_of step.kind)) 15 (each_kind (λ k. leb (length (name_of k)) 15) (λ _. true)
          refl step.kind),
      few step.place place,
      few step.number number,
      length-append {A = ℕ},
    )

-- a front of more than 38 bytes that names no step and no end names none however it goes on
pub front_names_nothing : (front more : List ℕ) → 38 < length front → IsNoName front → NamesNoEnd front → NamesNothing (front ++ more)
front_names_nothing front more long name end = record {
  no_step = λ step text is.
      let rest = longer_front front more (step_line step []) text (is.line_is ∙ sym (step_line-append step [] text))
      (omega (arith, label_short step is.place is.number, long)) in
      name step rest.0 (record { place = is.place; number = is.number; line_is = rest.1 ∙ step_line-append step [] rest.0 });
  no_end = λ text e. let rest = longer_front front more (61 ∷ 32 ∷ []) text e (omega (arith, long)) in end rest.0 rest.1;
}

-- a step's line that goes on names the same step, with a longer text
pub step_goes_on : {front text : List ℕ} {step : Step} (more : List ℕ) → IsStepLine front step text
    → IsStepLine (front ++ more) step (text ++ more)
step_goes_on {text = text} {step = step} more is = record {
  place = is.place;
  number = is.number;
  line_is = ap (λ l. l ++ more) is.line_is ∙ step_line-append step text more;
}

-- a front that names a step, with a longer text than that of the tag to which the step leads, has another text however
-- it goes on
pub front_other : {R : List EntryParts} {t u : TagForm} {front text : List ℕ} {step : Step} (more : List ℕ)
    → IsStepLine front step text → LeadsBy R t step u → length (text_of u) < length text
    → HasOtherText R t (front ++ more)
front_other {u = u} {text = text} {step = step} more is leads longer = record {
  step = step;
  text = text ++ more;
  is_line = step_goes_on more is;
  u = u;
  leads = leads;
  other = λ e. absurd (omega (arith, longer, ap length e, length-append text more));
}

-- ---- a front that may be kept

-- a front that names a step, with a text no longer than that of the tag to which the step leads, may be kept
pub step_within : {R : List EntryParts} {t u : TagForm} {front text : List ℕ} {step : Step} → IsStepLine front step text
    → LeadsBy R t step u → length text ≤ length (text_of u) → KeepsFew R (Some t) (length front)
step_within {u = u} {text = text} {step = step} is leads short = inr (record {
  line = step_line step (text_of u);
  right = inl (u, record { step = step; leads = leads; is_line = record { place = is.place; number = is.number; line_is = refl } });
  long = omega (arith, short, length-append {A = ℕ}, ap length is.line_is);
})

-- lines that lead to a tag, and one line more that leads on from there, lead to the next tag
pub lead_more : (R : List EntryParts) (before : List (List ℕ)) (t here u : TagForm) (line : List ℕ)
    → Lead R t before here → LeadsOn R here line u → Lead R t (before ++ line ∷ []) u
lead_more R [] t here u line lead leads = (u, subst (λ (x : TagForm). LeadsOn R x line u) (sym lead) leads, refl)
lead_more R (first ∷ before) t here u line lead leads = (lead.0, lead.1, lead_more R before lead.0 here u line lead.2 leads)
