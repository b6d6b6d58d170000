-- What `UsualSubtags::shown` needs: something is shown of a text exactly if it is a language, alone or with a script, a
-- region or both, each with a flag in the table F. A flag says that canonicalization leaves the subtag as it is. What
-- is shown of it is its text in conventional case: a count of bytes, and these with zeros after them.
use Rattle.std.proofs.Common.{◌≡◌, ◌≤◌, ℕ, ◌+◌, ◌==◌, ◌++◌, ◌&&◌, Bool, true, false, cond, List, [], ◌∷◌, length, map}
use Rattle.std.proofs.Common.{take, Option, Some, None, option_map, is_some, inl, inr, refl, sym, ap, ◌∙◌, arith}
use Rattle.std.specs.Option.{option_map_or}
use Rattle.std.proofs.Math.Seq.{take-append-add}
use Rattle.std.proofs.lemmas.Bool.{and_parts, cases_Bool}
use Rattle.std.proofs.lemmas.Bool.Decides.{nat_tests}
use Rattle.lt_subtag.specs.Bytes.{folded}
use Rattle.lt_subtag.specs.Shapes.{is_alphabetic}
use Rattle.lt_registry.specs.declared.entries.Kind.{Kind}
use Rattle.lt_registry.specs.declared.entries.Kind.TheVariants as kinds
use Rattle.lt_check.specs.Places.{script_4, place}
use Rattle.lt_check.specs.Flags.{flag}
use Rattle.lt_check.specs.Shown.{lower, upper_byte, after_if, after_language, nine_before}
use Rattle.lt_check.specs.declared.texts.AfterLanguage.{AfterLanguage}
use Rattle.lt_check.specs.declared.texts.Shown.{Shown}
use Rattle.lt_check.specs.Shown as taken

-- ---- the parts of a text that is shown

-- a hyphen (45) and a subtag after it, if there is one
abbrev pub hyphened : Option (List ℕ) → List ℕ
hyphened None = []
hyphened (Some s) = 45 ∷ s

-- the subtag of a kind has a place, whose flag in `F` is set
abbrev pub flagged : List ℕ → Kind → List ℕ → Bool
flagged F k s = option_map_or (flag F) (place k s) false

-- a script or a region, if there is one, has a place, whose flag in `F` is set
abbrev pub part_flagged : List ℕ → Kind → Option (List ℕ) → Bool
part_flagged F k o = option_map_or (flagged F k) o true

-- each byte with bit 32 set, which puts letters into lower case
abbrev pub lowered : List ℕ → List ℕ
lowered s = map lower s

-- a script in conventional case: the first letter in upper case, the others in lower case
abbrev pub titled : List ℕ → List ℕ
titled [] = []
titled (a ∷ s) = upper_byte a ∷ lowered s

-- a region in conventional case: letters in upper case, digits as they are
abbrev pub raised : List ℕ → List ℕ
raised (a ∷ b ∷ []) = upper_byte a ∷ upper_byte b ∷ []
raised s = s

-- what is shown of a script and a region, a hyphen before each
abbrev pub shown_parts : Option (List ℕ) → Option (List ℕ) → List ℕ
shown_parts s r = hyphened (option_map titled s) ++ hyphened (option_map raised r)

-- what follows a language, `rest`, is a hyphen and a script, a hyphen and a region, or both, or nothing; each has a
-- flag in `F`, and `p` is what is shown of them
pub record IsShownAfter (F rest : List ℕ) (p : AfterLanguage) : Type 0 where
  pub script : Option (List ℕ)
  pub region : Option (List ℕ)
  pub rest_is : rest ≡ hyphened script ++ hyphened region
  pub few : length rest ≤ 9
  pub script_set : part_flagged F kinds.Script script ≡ true
  pub region_set : part_flagged F kinds.Region region ≡ true
  pub shown_is : (more : List ℕ) → take p.count (nine_before p.bytes more) ≡ shown_parts script region

-- if the test holds for a script `s` and a region `r`, and `p` is what is shown of these, then `rest` is made of these
-- two, and each has a flag. `hyphens`, the test of the hyphens, is true only of a `rest` that is so made; `holds` is
-- the whole test, and `more` are the zeros after what is shown.
after_cut : (F rest : List ℕ) (p : AfterLanguage) (s r : Option (List ℕ)) (more : List ℕ) (hyphens holds : Bool)
    → length rest ≤ 9 → holds ≡ (hyphens && (part_flagged F kinds.Script s && part_flagged F kinds.Region r))
    → after_if holds (length (shown_parts s r)) (shown_parts s r ++ more) ≡ Some p → (hyphens ≡ true → rest ≡ hyphened s ++ hyphened r)
    → ((xs : List ℕ) → take (length (shown_parts s r)) (nine_before (shown_parts s r ++ more) xs) ≡ shown_parts s r) → IsShownAfter F rest p
after_cut F rest p s r more hyphens false few t h cut is = cc
after_cut F rest p s r more hyphens true few t h cut is =
    let same : record { count = length (shown_parts s r); bytes = shown_parts s r ++ more } ≡ p = cc in
    let k = and_parts hyphens (part_flagged F kinds.Script s && part_flagged F kinds.Region r) (sym t) in
    let j = and_parts (part_flagged F kinds.Script s) (part_flagged F kinds.Region r) k.1 in
    record { script = s; region = r; rest_is = cut k.0; few = few; script_set = j.0; region_set = j.1; shown_is = rw (← same) is }

-- If `p` is shown of what follows a language, then `rest` is a hyphen and a script, a hyphen and a region, both or
-- neither. They have flags in `F`, and `p` is `rest` in conventional case. There is a clause for each length of `rest`.
shown_after : (F rest : List ℕ) (p : AfterLanguage) → after_language F rest ≡ Some p → IsShownAfter F rest p
shown_after F [] p h =
    after_cut F [] p None None (0 ∷ 0 ∷ 0 ∷ 0 ∷ 0 ∷ 0 ∷ 0 ∷ 0 ∷ 0 ∷ []) true _ (omega arith) refl h (λ t. refl) (λ xs. refl)
shown_after F (x ∷ a ∷ b ∷ []) p h =
    after_cut F _ p None (Some (a ∷ b ∷ [])) (0 ∷ 0 ∷ 0 ∷ 0 ∷ 0 ∷ 0 ∷ []) (x == 45) _ (omega arith) refl h
    (λ t. grind (arith, nat_tests)) (λ xs. refl)
shown_after F (x ∷ a ∷ b ∷ c ∷ []) p h =
    after_cut F _ p None (Some (a ∷ b ∷ c ∷ [])) (0 ∷ 0 ∷ 0 ∷ 0 ∷ 0 ∷ []) (x == 45) _ (omega arith) refl h
    (λ t. grind (arith, nat_tests)) (λ xs. refl)
shown_after F (x ∷ a ∷ b ∷ c ∷ d ∷ []) p h =
    after_cut F _ p (Some (a ∷ b ∷ c ∷ d ∷ [])) None (0 ∷ 0 ∷ 0 ∷ 0 ∷ []) (x == 45)
    ((x == 45) && flag F (script_4 a b c d)) (omega arith) (grind arith) h (λ t. grind (arith, nat_tests))
    (λ xs. refl)
shown_after F (x ∷ a ∷ b ∷ c ∷ d ∷ y ∷ e ∷ f ∷ []) p h =
    after_cut F _ p (Some (a ∷ b ∷ c ∷ d ∷ [])) (Some (e ∷ f ∷ [])) (0 ∷ []) ((x == 45) && (y == 45)) _ (omega arith)
    refl h (λ t. grind (arith, nat_tests)) (λ xs. refl)
shown_after F (x ∷ a ∷ b ∷ c ∷ d ∷ y ∷ e ∷ f ∷ g ∷ []) p h =
    after_cut F _ p (Some (a ∷ b ∷ c ∷ d ∷ [])) (Some (e ∷ f ∷ g ∷ [])) [] ((x == 45) && (y == 45)) _ (omega arith) refl
    h (λ t. grind (arith, nat_tests)) (λ xs. refl)
shown_after F _ p h = cc

-- nine bytes are the first nine of themselves, and nothing after them
pub nine_reads : (s : List ℕ) → length s ≡ 9 → s ≡ nine_before s []
nine_reads (a ∷ b ∷ c ∷ d ∷ e ∷ f ∷ g ∷ i ∷ j ∷ []) h = refl
nine_reads _ h = absurd (omega arith)

-- the text is a language with a flag in `F`, and what follows it is cut into a script and a region with flags, where
-- there is one; `p` is what is shown of the text
pub record IsShown (F text : List ℕ) (p : Shown) : Type 0 where
  pub language : List ℕ
  pub rest : List ℕ
  pub after : AfterLanguage
  pub parts : IsShownAfter F rest after
  pub text_is : text ≡ language ++ rest
  pub language_set : flagged F kinds.Language language ≡ true
  pub shown_is : take p.count p.bytes ≡ lowered language ++ shown_parts parts.script parts.region

-- a language in lower case before what is shown after it; `more` are the zeros that fill the twelve bytes
abbrev with_language : List ℕ → List ℕ → AfterLanguage → Shown
with_language l more after = record { count = length (lowered l) + after.count; bytes = lowered l ++ nine_before after.bytes more }

-- where `p` is shown of the language `l` and `rest`, each subtag has a flag; `set` is the flag of `l`, and `o` is what
-- is shown of `rest`
language_shown : (F l rest more : List ℕ) (p : Shown) (set : Bool) (o : Option AfterLanguage)
    → flagged F kinds.Language l ≡ set → after_language F rest ≡ o
    → cond set (option_map (with_language l more) o) None ≡ Some p → IsShown F (l ++ rest) p
language_shown F l rest more p true (Some after) e q h =
    let is : with_language l more after ≡ p = cc in
    let t = shown_after F rest after q in
    record {
      language = l;
      rest = rest;
      after = after;
      parts = t;
      text_is = refl;
      language_set = e;
      shown_is = rw (← is) (take-append-add (lowered l) (nine_before after.bytes more) after.count
          ∙ ap (λ (xs : List ℕ). lowered l ++ xs) (t.shown_is more));
    }
language_shown F l rest more p _ _ e q h = cc

-- If `p` is shown of a text, the text is a language, alone or with a script, a region or both, with flags in `F`, and
-- `p` is the text in conventional case. A hyphen (45) as the third byte tells a language of 2 letters from one of 3.
pub shown_cut : (F text : List ℕ) (p : Shown) → taken.shown_text F text ≡ Some p → IsShown F text p
shown_cut F (a ∷ b ∷ []) p h = language_shown F (a ∷ b ∷ []) [] (0 ∷ []) p _ _ refl refl h
shown_cut F (a ∷ b ∷ c ∷ rest) p h = elim (cases_Bool (c == 45)) [
  | inl e ↦ language_shown F (a ∷ b ∷ []) (c ∷ rest) (0 ∷ []) p _ _ refl refl (rw e at h)
  | inr e ↦ language_shown F (a ∷ b ∷ c ∷ []) rest [] p _ _ refl refl (rw e at h)
]
shown_cut F _ p h = cc

-- ---- what is cut so is shown

-- of a script, a region, both or neither, with flags, something is shown
after_some : (F : List ℕ) (s r : Option (List ℕ)) → part_flagged F kinds.Script s ≡ true
    → part_flagged F kinds.Region r ≡ true → is_some (after_language F (hyphened s ++ hyphened r)) ≡ true
after_some F s r f g = grind arith

-- the third letter of three is no hyphen, so a language of three letters is not taken for one of two
no_hyphen : (a b c : ℕ) → is_alphabetic (folded (a ∷ b ∷ c ∷ [])) ≡ true → (c == 45) ≡ false
no_hyphen a b c h = grind (arith, nat_tests)

-- of a language, alone or with a script, a region or both, that have flags, something is shown
pub cut_shown : (F l : List ℕ) (s r : Option (List ℕ)) → is_alphabetic (folded l) ≡ true
    → flagged F kinds.Language l ≡ true → part_flagged F kinds.Script s ≡ true → part_flagged F kinds.Region r ≡ true
    → is_some (taken.shown_text F (l ++ (hyphened s ++ hyphened r))) ≡ true
cut_shown F l s r h e f g = grind (arith, no_hyphen, after_some F)
