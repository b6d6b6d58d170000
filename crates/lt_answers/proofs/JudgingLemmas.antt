-- Judging the lines of an explanation one by one (`Judges`) gives the verdict that is defined on all of them
-- (`IsVerdict`), and lines have only one verdict. The place and the number of a step that leads on have 32 bits.
use Rattle.std.proofs.Common.{drop, ◌≡◌, ◌≢◌, ◌<◌, ◌^◌, ◌++◌, ◌∷◌, ◌∙◌, ◌==◌, ℕ, List, [], Option, Some, Bool, true}
use Rattle.std.proofs.Common.{sym, ap, refl, arith, map, get_or, ◌≤◌, ◌+◌, inl, inr, length, append_assoc}
use Rattle.std.proofs.Common.{length-append, decimal, None, subst, append-nil, false, Ordering, flat_map}
use Rattle.std.proofs.Common.{option_to_list}
use Rattle.std.specs.List.{list_all, join_with_byte}
use Rattle.std.proofs.lemmas.Fmt.{decimal_injective}
use Rattle.std.proofs.lemmas.List.Elements.{All-append, All-cons, All-nil}
use Rattle.lt_rewrite.specs.Names.{name_of}
use Rattle.lt_rewrite.specs.declared.steps.Step.{Step}
use Rattle.lt_rewrite.specs.declared.steps.StepKind.{StepKind}
use Rattle.lt_answers.specs.StepLines.{IsStepLine, end_line}
use Rattle.lt_tag.specs.Parts.{TagForm, CoreParts, ExtensionParts, UForm, TForm, LangTag}
use Rattle.lt_registry.specs.Parts.{EntryParts}
use Rattle.lt_rewrite.specs.Labels.{LeadsBy, core_label, extension_label, extensions_label, list_label, tag_label}
use Rattle.lt_rewrite.specs.Labels.{transform_label, unicode_label}
use Rattle.lt_answers.specs.Judging.{Judges, SettlesLine}
use Rattle.lt_answers.specs.Verdicts.{EndsElsewhere, EndsHere, IsVerdict, Lead, StopsAt}
use Rattle.lt_answers.specs.declared.verdicts.Verdict.{Verdict}
use Rattle.std.proofs.lemmas.Bool.{false≢true, and_parts}
use Rattle.lt_canon.specs.TraceLaws.{TracesHaveOneEnd}
use Rattle.lt_answers.specs.Laws.{HaveOneVerdict, NumbersFit}
use Rattle.lt_tag.specs.Extensions.{spell_field, spell_keyword, spell_t, spell_u}
use Rattle.lt_tag.specs.Spelling.{IsCore, spell_core, spell_extension, spell_extensions}
use Rattle.lt_tag.specs.Values.{IsTagValue}
use Rattle.lt_registry.specs.Entries.{entry, is_whole, number_of, whole}
use Rattle.lt_rewrite.proofs.Entries.{entry_has, find_has}
use Rattle.lt_rewrite.proofs.StepLaws.{core_high, few_subtags, fits}
use Rattle.lt_rewrite.specs.CoreSteps.{CoreStep}
use Rattle.lt_rewrite.specs.Extensions.{ExtensionStep, ExtensionsStep, TransformStep, UnicodeStep, among, in_transform}
use Rattle.lt_rewrite.specs.Extensions.{in_unicode, inside, on_attributes, on_fields, on_keywords, on_source, on_types}
use Rattle.lt_rewrite.specs.Orderings.{ListStep, by_drop, by_swap}
use Rattle.lt_rewrite.specs.TagSteps.{TagChange, on_core, on_extensions, on_whole}
use Rattle.lt_tag.specs.Splitting.{spell_source}
use Rattle.lt_jar.specs.Lines.{IsOneLine}
use Rattle.lt_subtag.specs.Bytes.{folded, is_subtag, is_subtag_byte}
use Rattle.lt_tag.proofs.LetterLemmas.{from_HasList, join_pieces}
use Rattle.lt_tag.proofs.OneTagLemmas.{text_of_tag}
use Rattle.lt_tag.specs.WellFormed.{IsTag}
use Rattle.lt_rewrite.proofs.PartLists.{flat_length}
use Rattle.lt_rewrite.specs.declared.steps.StepKind.TheVariants as kinds
use Rattle.lt_answers.specs.declared.verdicts.Verdict.TheVariants as verdicts
use Rattle.lt_tag.specs.Texts.{text_of}
use Rattle.lt_rewrite.proofs.PartForms.{attributes_count}
use Rattle.lt_answers.proofs.LineLemmas.{each_kind, lead_more, one_words, same_kind, step_words}

-- ---- what is judged is the verdict

-- the lines `before` lead from `t` to `here`, and the next line has the number `n`
module _ (R : List EntryParts) (t here : TagForm) (before : List (List ℕ)) (n : ℕ) (nth : n ≡ length before + 1)
    (lead : Lead R t before here) where
  -- the lines stop at the next line, of which `Holds` is true
  stops : (line : List ℕ) (after : List (List ℕ)) (Holds : TagForm → List ℕ → Type 0) → Holds here line
      → StopsAt R t (before ++ line ∷ after) n Holds
  stops line after Holds holds = record {
    before = before;
    line = line;
    after = after;
    there = refl;
    nth = nth;
    here = here;
    lead = lead;
    holds = holds;
  }

  -- the next line is that of the end: what is judged of the lines after it is the verdict on all
  ended : (line : List ℕ) (after : List (List ℕ)) (v : Verdict) → EndsHere here line → Judges R (n + 1) None after v
      → IsVerdict R t (before ++ line ∷ after) v
  ended line [] v ends is = rw is (record { steps = before; end = here; lead = lead; all = ap (λ (l : List ℕ). before ++ l ∷ []) ends })
  ended line (next ∷ after) v ends is =
      rw is (inr (inr (record {
        steps = before;
        end = here;
        lead = lead;
        line = next;
        after = after;
        there = ap (λ (l : List ℕ). before ++ l ∷ next ∷ after) ends;
        nth = omega arith;
      })))

-- if the lines `before` lead to `here`, what is judged of the lines after them is the verdict on all lines
pub verdict_behind : (R : List EntryParts) (t here : TagForm) (before lines : List (List ℕ)) (v : Verdict) (n : ℕ)
    → n ≡ length before + 1 → Lead R t before here → Judges R n (Some here) lines v
    → IsVerdict R t (before ++ lines) v
verdict_behind R t here before [] v n nth lead is = rw (append-nil before, is) (inr (inl (record { here = here; lead = lead; nth = nth })))
verdict_behind R t here before (line ∷ lines) v n nth lead (inl (u, leads, behind)) =
    rw (← append_assoc before (line ∷ []) lines) (verdict_behind R t u (before ++ line ∷ []) lines v (n + 1)
    (omega (arith, nth, length-append before (line ∷ []))) (lead_more R before t here u line lead leads) behind)
verdict_behind R t here before (line ∷ lines) v n nth lead (inr (inl (ends, behind))) = ended R t here before n nth lead
    line lines v ends behind
verdict_behind R t here before (line ∷ lines) v n nth lead (inr (inr (inl (stuck, is)))) = rw is
    (stops R t here before n nth lead line lines _ stuck)
verdict_behind R t here before (line ∷ lines) v n nth lead (inr (inr (inr (inl (ends, is))))) = rw is
    (n, stops R t here before n nth lead line lines EndsElsewhere ends)
verdict_behind R t here before (line ∷ lines) v n nth lead (inr (inr (inr (inr (bad, is))))) = rw is
    (inl (stops R t here before n nth lead line lines _ bad))

-- ---- the verdict is judged

-- if the lines `before`, from number `n` on, lead to `here`, what is judged of the lines after them, from number `m`
-- on, is judged of all lines
judged_behind : (R : List EntryParts) (n m : ℕ) (t here : TagForm) (before lines : List (List ℕ)) (v : Verdict)
    → m ≡ n + length before → Lead R t before here → Judges R m (Some here) lines v
    → Judges R n (Some t) (before ++ lines) v
judged_behind R n m t here [] lines v nth lead judged =
    let same : n ≡ m = omega arith in
    rw (lead, same) judged
judged_behind R n m t here (line ∷ before) lines v nth lead judged =
    inl (lead.0, lead.1, judged_behind R (n + 1) m lead.0 here before lines v (omega arith) lead.2 judged)

-- if line number `n` settles a verdict after the lines before it, this verdict is judged of all lines
judged_at : (R : List EntryParts) (t : TagForm) (lines : List (List ℕ)) (n : ℕ) (Holds : TagForm → List ℕ → Type 0)
    (v : Verdict) (s : StopsAt R t lines n Holds)
    → SettlesLine R n s.here s.line v → Judges R 1 (Some t) lines v
judged_at R t lines n Holds v s settles = rw s.there (judged_behind R 1 n t s.here s.before (s.line ∷ s.after) v
    (omega (arith, s.nth)) s.lead (inr (inr settles)))

-- the verdict on lines is judged of them, one by one
pub judged_of : (R : List EntryParts) (t : TagForm) (lines : List (List ℕ)) (v : Verdict) → IsVerdict R t lines v
    → Judges R 1 (Some t) lines v
judged_of R t lines verdicts.Right is =
    rw is.all (judged_behind R 1 (1 + length is.steps) t is.end is.steps (end_line (text_of is.end) ∷ []) verdicts.Right
    refl is.lead (inr (inl (refl, refl))))
judged_of R t lines (verdicts.NoSuchStep n) is = judged_at R t lines n _ (verdicts.NoSuchStep n) is (inl (is.holds, refl))
judged_of R t lines verdicts.WrongEnd is = judged_at R t lines is.0 EndsElsewhere verdicts.WrongEnd is.1 (inr (inl (is.1.holds, refl)))
judged_of R t lines (verdicts.BadStep n) (inl is) = judged_at R t lines n _ (verdicts.BadStep n) is (inr (inr (is.holds, refl)))
judged_of R t lines (verdicts.BadStep n) (inr (inl is)) = rw (← append-nil lines)
    (judged_behind R 1 n t is.here lines [] (verdicts.BadStep n) (omega (arith, is.nth)) is.lead refl)
judged_of R t lines (verdicts.BadStep n) (inr (inr is)) =
    let nth : n ≡ 1 + length is.steps + 1 = omega (arith, is.nth) in
    rw is.there (judged_behind R 1 (1 + length is.steps) t is.end is.steps
    (end_line (text_of is.end) ∷ is.line ∷ is.after) (verdicts.BadStep n) refl is.lead
    (inr (inl (refl, ap (λ (m : ℕ). verdicts.BadStep m) nth))))

-- a line names one step, with one text
same_step : (line : List ℕ) (a b : Step) (x y : List ℕ) → IsStepLine line a x → IsStepLine line b y → (a ≡ b) × (x ≡ y)
same_step line a b x y is are =
    let words = one_words (step_words is) (step_words are) in
    let kind = same_kind a.kind b.kind words.0 in
    let place = decimal_injective a.place b.place (omega (arith, is.place)) (omega (arith, are.place)) words.1 in
    let number = decimal_injective a.number b.number (omega (arith, is.number)) (omega (arith, are.number)) words.2 in
    ((λ i. let s : Step = record { kind = kind i; place = place i; number = number i } in s), words.3)

-- a line that names a step is not that of an end: no name begins with `=`
not_both : (line : List ℕ) (step : Step) (x text : List ℕ) → IsStepLine line step x → line ≡ end_line text → ⊥
not_both line step x text is ends =
    false≢true
    (sym (each_kind
    (λ k. get_or (name_of k ++ 32 ∷ (decimal step.place ++ 32 ∷ (decimal step.number ++ 32 ∷ x))) 0 0 == 61)
    (λ _. false) refl step.kind) ∙ ap (λ (l : List ℕ). get_or l 0 0 == 61) (sym is.line_is ∙ ends))

-- ---- one thing is judged

-- a line that names a step settles a verdict only if the step leads to no tag with the line's text; if the step leads
-- nowhere, the verdict is NoSuchStep
step_settles : (R : List EntryParts) → TracesHaveOneEnd R
    → (n : ℕ) (t : TagForm) (line text : List ℕ) (step : Step) (v : Verdict) → IsStepLine line step text
    → SettlesLine R n t line v
    → ((u : TagForm) → LeadsBy R t step u → text ≢ text_of u) × (((u : TagForm) → LeadsBy R t step u → ⊥) → v ≡ verdicts.NoSuchStep n)
step_settles R one n t line text step v a (inl (stuck, is)) =
    let same = same_step line step stuck.step text stuck.text a stuck.is_line in
    (λ u leads e. stuck.stuck u (subst (λ (s : Step). LeadsBy R t s u) same.0 leads), λ none. is)
step_settles R one n t line text step v a (inr (inl (ends, is))) = absurd (not_both line step text ends.text a ends.is_end)
step_settles R one n t line text step v a (inr (inr (inl other, is))) =
    let same = same_step line other.step step other.text text other.is_line a in
    let leads = subst (λ (s : Step). LeadsBy R t s other.u) same.0 other.leads in (
      λ u led e. other.other
          (same.1 ∙ e ∙ ap text_of (one t u other.u (step ∷ []) (u, led, refl) (other.u, leads, refl))),
      λ none. absurd (none other.u leads),
    )
step_settles R one n t line text step v a (inr (inr (inr nothing, is))) = absurd (nothing.no_step step text a)

-- the line of an end settles only the verdict WrongEnd, and only if its text is not that of the tag
end_settles : (R : List EntryParts) (n : ℕ) (t : TagForm) (line text : List ℕ) (v : Verdict) → line ≡ end_line text
    → SettlesLine R n t line v → (text ≢ text_of t) × (v ≡ verdicts.WrongEnd)
end_settles R n t line text v a (inl (stuck, is)) = absurd (not_both line stuck.step stuck.text text stuck.is_line a)
end_settles R n t line text v a (inr (inl (ends, is))) =
    let same : end_line ends.text ≡ end_line text = sym ends.is_end ∙ a in
    (λ e. let texts : ends.text ≡ text = cc same in ends.other (texts ∙ e), is)
end_settles R n t line text v a (inr (inr (inl other, is))) = absurd (not_both line other.step other.text text other.is_line a)
end_settles R n t line text v a (inr (inr (inr nothing, is))) = absurd (nothing.no_end text a)

-- a line settles no two verdicts
settled_once : (R : List EntryParts) → TracesHaveOneEnd R → (n : ℕ) (t : TagForm) (line : List ℕ) (v w : Verdict)
    → SettlesLine R n t line v → SettlesLine R n t line w → v ≡ w
settled_once R one n t line v w (inl (stuck, is)) b = is
    ∙ sym ((step_settles R one n t line stuck.text stuck.step w stuck.is_line b).1 stuck.stuck)
settled_once R one n t line v w (inr (inl (ends, is))) b = is ∙ sym (end_settles R n t line ends.text w ends.is_end b).1
settled_once R one n t line v w (inr (inr a)) (inl (stuck, is)) =
    (step_settles R one n t line stuck.text stuck.step v stuck.is_line (inr (inr a))).1 stuck.stuck ∙ sym is
settled_once R one n t line v w (inr (inr a)) (inr (inl (ends, is))) =
    (end_settles R n t line ends.text v ends.is_end (inr (inr a))).1 ∙ sym is
settled_once R one n t line v w (inr (inr (bad, is))) (inr (inr (worse, are))) = is ∙ sym are

-- no two verdicts are judged of the same lines
judged_once : (R : List EntryParts) → TracesHaveOneEnd R
    → (n : ℕ) (here : Option TagForm) (lines : List (List ℕ)) (v w : Verdict) → Judges R n here lines v
    → Judges R n here lines w → v ≡ w
judged_once R one n here [] v w a b = a ∙ sym b
judged_once R one n None (line ∷ lines) v w a b = a ∙ sym b
judged_once R one n (Some t) (line ∷ lines) v w (inl (u, leads, behind)) (inl (x, leads', behind')) =
    let step = same_step line leads.step leads'.step (text_of u) (text_of x) leads.is_line leads'.is_line in
    let same = one t u x (leads'.step ∷ []) (u, subst (λ (s : Step). LeadsBy R t s u) step.0 leads.leads, refl) (x, leads'.leads, refl) in
    judged_once R one (n + 1) (Some x) lines v w (subst (λ (y : TagForm). Judges R (n + 1) (Some y) lines v) same behind) behind'
judged_once R one n (Some t) (line ∷ lines) v w (inl (u, leads, behind)) (inr (inl (ends, behind'))) = absurd
    (not_both line leads.step (text_of u) (text_of t) leads.is_line ends)
judged_once R one n (Some t) (line ∷ lines) v w (inl (u, leads, behind)) (inr (inr settles)) = absurd
    ((step_settles R one n t line (text_of u) leads.step w leads.is_line settles).0 u leads.leads refl)
judged_once R one n (Some t) (line ∷ lines) v w (inr (inl (ends, behind))) (inl (x, leads, behind')) = absurd
    (not_both line leads.step (text_of x) (text_of t) leads.is_line ends)
judged_once R one n (Some t) (line ∷ lines) v w (inr (inl (ends, behind))) (inr (inl (ends', behind'))) = judged_once R
    one (n + 1) None lines v w behind behind'
judged_once R one n (Some t) (line ∷ lines) v w (inr (inl (ends, behind))) (inr (inr settles)) = absurd
    ((end_settles R n t line (text_of t) w ends settles).0 refl)
judged_once R one n (Some t) (line ∷ lines) v w (inr (inr settles)) (inl (x, leads, behind')) = absurd
    ((step_settles R one n t line (text_of x) leads.step v leads.is_line settles).0 x leads.leads refl)
judged_once R one n (Some t) (line ∷ lines) v w (inr (inr settles)) (inr (inl (ends, behind'))) = absurd
    ((end_settles R n t line (text_of t) v ends settles).0 refl)
judged_once R one n (Some t) (line ∷ lines) v w (inr (inr settles)) (inr (inr settles')) = settled_once R one n t line v w settles settles'

-- the lines of an explanation have no two verdicts
pub one_verdict : (R : List EntryParts) → TracesHaveOneEnd R → HaveOneVerdict R
one_verdict R one t lines v w is are = judged_once R one 1 (Some t) lines v w (judged_of R t lines v is) (judged_of R t lines w are)

-- the number of the entry that was found, or of None if none was found, is less than 2 to the 32
pub few : (o : Option EntryParts) → ((e : EntryParts) → o ≡ Some e → e.number < 2 ^ 32) → number_of o < 2 ^ 32
few None each = omega arith
few (Some e) each = each e refl

-- ---- places

-- the place of the step is at most `most`, and its number has 32 bits
record Fits (step : Step) (most : ℕ) : Type 0 where
  place : step.place ≤ most
  number : step.number < 2 ^ 32

-- a step that swaps or drops parts of a list has a place among their subtags, which begin at `start`; each part has a
-- subtag
list_fits : {A : Type 0} {once : Bool} {cmp : A → A → Ordering} (xs ys : List A) (swap drop : StepKind) (spell : A
    → List (List ℕ)) (start : ℕ) → ((a : A) → 0 < length (spell a))
    → (s : ListStep once cmp xs ys) → Fits (list_label swap drop spell start s) (start + length (flat_map spell xs))
list_fits xs ys swap drop spell start some (by_swap before a b after s) =
    omega (arith, flat_length spell before a (b ∷ after), some a, ap (λ l. length (flat_map spell l)) s.there)
list_fits xs ys swap drop spell start some (by_drop before a between b after o s) =
    omega (
      arith,
      flat_length spell before a (between ++ b ∷ after),
      flat_length spell between b after,
      some b,
      ap (λ l. length (flat_map spell l)) s.there,
    )

-- where the number of each record has 32 bits
module _ (R : List EntryParts) (all : NumbersFit R) where
  -- a step on a core has a place among its subtags, which begin at `start`
  core_fits : (start : ℕ) (c d : CoreParts) (s : CoreStep R c d) → Fits (core_label R start s) (start + length (spell_core c))
  core_fits start c d s = record {
    place = core_high R start c d s;
    number = few (entry R _ s.subtag)
        (λ e is. (entry_has R _ s.subtag (λ (e : EntryParts). e.number < 2 ^ 32) all e is).0);
  }

  -- a step within a `u` extension has a place among its subtags
  unicode_fits : (start : ℕ) (p q : UForm) (s : UnicodeStep p q) → Fits (unicode_label start s) (start + length (spell_u p) + 1)
  unicode_fits start p q (on_attributes s k) =
      omega (
        arith,
        list_fits p.attributes q.attributes kinds.SwapAttributes kinds.DropAttribute (λ a. a ∷ []) start
            (λ a. omega arith) s,
        length-append p.attributes (flat_map spell_keyword p.keywords),
        attributes_count p.attributes,
      )
  unicode_fits start p q (on_keywords a s) =
      omega (
        arith,
        list_fits p.keywords q.keywords kinds.SwapKeywords kinds.DropKeyword spell_keyword
            (start + length p.attributes) (λ a. omega arith) s,
        length-append p.attributes (flat_map spell_keyword p.keywords),
      )
  unicode_fits start p q (on_types a before k after s) =
      omega (
        arith,
        flat_length spell_keyword before k after,
        length-append p.attributes (flat_map spell_keyword p.keywords),
        ap (λ l. length (flat_map spell_keyword l))
            s.there,
      )

  -- a step within a `t` extension has a place among its subtags
  transform_fits : (start : ℕ) (p q : TForm) (s : TransformStep R p q) → Fits (transform_label R start s) (start + length (spell_t p))
  transform_fits start p q (on_source c d from _ s _) =
      omega (
        arith,
        core_fits start c d s,
        length-append (spell_source p.source) (flat_map spell_field p.fields),
        ap (λ o. length (spell_source o)) from,
      )
  transform_fits start p q (on_fields a s) =
      omega (
        arith,
        list_fits p.fields q.fields kinds.SwapFields kinds.SwapFields spell_field
            (start + length (spell_source p.source)) (λ a. omega arith) s,
        length-append (spell_source p.source)
            (flat_map spell_field p.fields),
      )

  -- a step on an extension has a place among its subtags
  extension_fits : (start : ℕ) (e f : ExtensionParts) (s : ExtensionStep R e f)
      → Fits (extension_label R start s) (start + length e.subtags + 1)
  extension_fits start e f (in_unicode p q _ _ from _ s) = omega (arith, unicode_fits start p q s, ap length from.spelled)
  extension_fits start e f (in_transform p q _ _ from _ s) = omega (arith, transform_fits start p q s, ap length from.spelled)

  -- a step on extensions has a place among their subtags
  extensions_fit : (start : ℕ) (es fs : List ExtensionParts) (s : ExtensionsStep R es fs)
      → Fits (extensions_label R start s) (start + length (spell_extensions es) + 1)
  extensions_fit start es fs (inside before e f after there result s) =
      omega (
        arith,
        extension_fits (start + length (spell_extensions before) + 1) e f s,
        flat_length spell_extension before e after,
        ap (λ l. length (spell_extensions l)) there,
      )
  extensions_fit start es fs (among s) = omega (
    arith,
    list_fits es fs kinds.SwapExtensions kinds.SwapExtensions
        spell_extension start (λ a. omega arith) s,
  )

  -- a core of at most 1,024 variants has at most 1,100 subtags
  core_few : (c : CoreParts) → IsCore c → length c.variants ≤ 1024 → length (spell_core c) ≤ 1100
  core_few c is few = simp length-append (omega (arith, is.up_to_three, few, one c.script, one c.region))
    where
      one : (o : Option (List ℕ)) → length (option_to_list o) ≤ 1
      one None = omega arith
      one (Some s) = omega arith

  -- a step on a tag whose parts are within their limits has a place of at most 2,000,000
  change_fits : (t u : TagForm) → IsTagValue t → (s : TagChange R t u) → Fits (tag_label R s) 2000000
  change_fits t u value (on_core c d es ps from _ s) =
      let is = subst IsTagValue from value in
      omega (arith, core_fits 0 c d s, core_few c is.tag.0.shaped_core is.counts.0)
  change_fits t u value (on_extensions c es fs ps from _ s) =
      let is = subst IsTagValue from value in
      let counts = fits (LangTag c es ps) is.counts in
      omega (
        arith,
        extensions_fit (length (spell_core c)) es fs s,
        core_few c is.tag.0.shaped_core is.counts.0,
        few_subtags es counts.1,
        counts.0,
      )
  change_fits t u value (on_whole _ _) = record {
    place = omega arith;
    number = few (whole R t)
        (λ e is. (find_has (λ (e : EntryParts). e.number < 2 ^ 32) (λ (e : EntryParts). is_whole t e.name) R e all is).0);
  }

  -- the place and the number of a step that leads on have 32 bits
  pub step_fits : (t u : TagForm) (step : Step) → LeadsBy R t step u → (step.place < 2 ^ 32) × (step.number < 2 ^ 32)
  step_fits t u step leads =
      subst (λ (s : Step). (s.place < 2 ^ 32) × (s.number < 2 ^ 32)) leads.1
      (omega (arith, change_fits t u leads.0.from.tag leads.0.change))

-- the byte is no line feed (10)
abbrev pub IsNoFeed : ℕ → Type 0
IsNoFeed byte = byte ≢ 10

-- ---- the text of a tag is one line

-- letters and digits are one line
bytes_line : (piece : List ℕ) → list_all is_subtag_byte (folded piece) ≡ true → IsOneLine piece
bytes_line [] h = All-nil IsNoFeed
bytes_line (b ∷ piece) h =
    let k = and_parts _ (list_all is_subtag_byte (folded piece)) h in
    All-cons IsNoFeed b piece (λ e. let bad = rw e at k.0 in cc) (bytes_line piece k.1)

-- subtags joined by hyphens (45) are one line
pieces_line : (ps : List (List ℕ)) → list_all is_subtag (map folded ps) ≡ true → IsOneLine (join_with_byte 45 ps)
unfolding is_subtag
pieces_line [] h = All-nil IsNoFeed
pieces_line (p ∷ []) h = bytes_line p (and_parts (list_all is_subtag_byte (folded p)) _ (and_parts (is_subtag (folded p)) _ h).0).0
pieces_line (p ∷ q ∷ ps) h =
    let k = and_parts (is_subtag (folded p)) (list_all is_subtag (map folded (q ∷ ps))) h in
    All-append IsNoFeed p (45 ∷ join_with_byte 45 (q ∷ ps))
    (bytes_line p (and_parts (list_all is_subtag_byte (folded p)) _ k.0).0)
    (All-cons IsNoFeed 45 (join_with_byte 45 (q ∷ ps)) (λ e. absurd (omega arith)) (pieces_line (q ∷ ps) k.1))

-- the text of a tag is one line
pub tag_line : (t : TagForm) → IsTag t → IsOneLine (text_of t)
tag_line t is = subst IsOneLine (join_pieces (text_of t)) (pieces_line _ (from_HasList (text_of t) (text_of_tag t is).0))
