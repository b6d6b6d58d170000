-- What `append_text` needs: something is shown of a text exactly if it is read as a langtag of subtags that stay, and
-- what is shown is the text in conventional case. A subtag *stays* if canonicalization leaves it as it is, which its
-- flag says.
use Rattle.std.proofs.Common.{◌≡◌, ◌≤◌, ℕ, ◌==◌, ◌++◌, ◌&&◌, Bool, true, false, List, [], ◌∷◌, length, map, take}
use Rattle.std.proofs.Common.{Option, Some, None, option_map, inl, inr, refl, sym, ap, ◌∙◌, arith, ◌-◌, eqb, ◌||◌, not}
use Rattle.std.proofs.Common.{find, is_none, IfSome, subst, All}
use Rattle.std.specs.Option.{option_map_or}
use Rattle.std.proofs.lemmas.Bool.{agree_below_at, eqb-true}
use Rattle.std.proofs.lemmas.Bool.Decides.{nat_tests}
use Rattle.lt_subtag.specs.Bytes.{folded, is_subtag}
use Rattle.lt_subtag.specs.Shapes.{is_alphabetic, is_numeric, is_language, is_extlang, is_script, is_region, is_variant}
use Rattle.lt_registry.specs.declared.entries.Kind.{Kind}
use Rattle.lt_registry.specs.declared.entries.Kind.TheVariants as kinds
use Rattle.lt_check.specs.Flags.{AreFlags}
use Rattle.lt_check.specs.Shown.{lower, upper_byte}
use Rattle.lt_check.specs.declared.texts.Shown.{Shown}
use Rattle.std.specs.Char.{is_ascii_lowercase, to_ascii_lowercase, to_ascii_uppercase}
use Rattle.std.specs.List.{list_all, join_with_byte}
use Rattle.std.proofs.lemmas.List.{append-nil, length-append, length-map, map-append}
use Rattle.std.proofs.lemmas.Slice.Eq.{bytes_eq-Decides}
use Rattle.lt_tag.specs.Conventional.{conventional, shown}
use Rattle.lt_tag.specs.Grandfathered.{grandfathered_texts, grandfathered_list}
use Rattle.lt_tag.specs.Growth.{grown, grown_by}
use Rattle.lt_tag.specs.Lists.{pieces, list_of}
use Rattle.lt_tag.specs.Parts.{CoreParts}
use Rattle.lt_tag.specs.Spelling.{IsCore, spell_core}
use Rattle.lt_tag.specs.Splitting.{core_of_list}
use Rattle.lt_tag.specs.Values.{core_alone}
use Rattle.lt_tag.specs.WellFormed.{spell, IsTag, IsNotGrandfathered}
use Rattle.lt_tag.proofs.Apart.{script_is, region_is}
use Rattle.lt_tag.proofs.AgainLemmas.{tag_again}
use Rattle.lt_tag.proofs.LetterLemmas.{join_pieces, list_of_is, same_list}
use Rattle.lt_tag.proofs.PartsLemmas.{core_again}
use Rattle.lt_tag.proofs.ShapeLemmas.{language_long}
use Rattle.lt_tag.proofs.TagLemmas.{list_all-at, table_length, not_grandfathered}
use Rattle.lt_registry.specs.Parts.{EntryParts}
use Rattle.lt_registry.specs.Same.{same_kind}
use Rattle.lt_registry.specs.Entries.{IsEntry, has_form, is_named}
use Rattle.lt_rewrite.proofs.Entries.{find_has, same_kind_is}
use Rattle.lt_check.specs.Staying.{stays, StaysAs}
use Rattle.lt_check.specs.Shown as taken
use Rattle.lt_check.proofs.TextLemmas.{IsShown, cut_shown, flagged, hyphened, lowered, part_flagged, raised, shown_parts, titled}

-- ---- subtags that stay

-- the subtag `s` of kind `k` has a record of its own, without a value
pub record HasOwn (R : List EntryParts) (k : Kind) (s : List ℕ) : Type 0 where
  pub entry : EntryParts
  pub found : find (λ (e : EntryParts). same_kind e.kind k && is_named s e.name) R ≡ Some entry
  pub valueless : is_none entry.value ≡ true

-- a subtag that stays has a record of its own, without a value
pub own_record : (R : List EntryParts) (k : Kind) (s : List ℕ) → stays R k s ≡ true → HasOwn R k s
own_record R k s h = grind arith

-- a subtag that stays has the form of its kind, since it has a record
stays_form : (R : List EntryParts) → All IsEntry R → (k : Kind) (s : List ℕ) → stays R k s ≡ true → has_form k s ≡ true
stays_form R forms k s h =
    let own = own_record R k s h in
    let has = find_has IsEntry (λ (e : EntryParts). same_kind e.kind k && is_named s e.name) R own.entry forms own.found in
    grind (arith, bytes_eq-Decides, same_kind_is)

-- ---- letter case

-- a letter with bit 32 set is that letter in lower case
lower_is : (b : ℕ) → is_ascii_lowercase (to_ascii_lowercase b) ≡ true → lower b ≡ to_ascii_lowercase b
lower_is b h =
    eqb-true _ _
    (rw h at (agree_below_at
    (λ x. not (is_ascii_lowercase (to_ascii_lowercase x)) || eqb (lower x) (to_ascii_lowercase x)) (λ _. true) 128 b
    refl (grind (arith, nat_tests))))

-- a letter with bit 32 cleared is that letter in upper case
upper_is : (b : ℕ) → is_ascii_lowercase (to_ascii_lowercase b) ≡ true → to_ascii_uppercase (to_ascii_lowercase b) ≡ upper_byte b
upper_is b h =
    eqb-true _ _
    (rw h at (agree_below_at
    (λ x. not (is_ascii_lowercase (to_ascii_lowercase x))
    || eqb (to_ascii_uppercase (to_ascii_lowercase x)) (upper_byte x)) (λ _. true) 128 b refl
    (grind (arith, nat_tests))))

-- letters with bit 32 set are these letters in lower case
lowered_is : (s : List ℕ) → is_alphabetic (folded s) ≡ true → lowered s ≡ folded s
lowered_is [] h = refl
lowered_is (b ∷ s) h = grind (arith, lower_is, lowered_is s)

-- digits have no letter case
digits_are : (s : List ℕ) → is_numeric (folded s) ≡ true → folded s ≡ s
digits_are [] h = refl
digits_are (b ∷ s) h = grind (arith, nat_tests, digits_are s)

-- a script in conventional case: its first letter in upper case, the others in lower case
script_as : (s : List ℕ) → is_script (folded s) ≡ true → shown (folded s) ≡ titled s
script_as s h = let p = script_is (folded s) h in grind (arith, upper_is, lowered_is)

-- a region in conventional case: letters in upper case, digits as they are
region_as : (s : List ℕ) → is_region (folded s) ≡ true → shown (folded s) ≡ raised s
region_as s h = elim (region_is (folded s) h) [ inl p ↦ grind (arith, upper_is) | inr p ↦ grind (arith, digits_are) ]

-- ---- cores without extlangs and variants

-- the core of a language, alone or with a script, a region or both
abbrev pub plain : List ℕ → Option (List ℕ) → Option (List ℕ) → CoreParts
plain l s r = record { language = l; extlangs = []; script = s; region = r; variants = [] }

-- the text of the core alone of a language, a script and a region: the language, and a hyphen (45) before each of the
-- others
joined : (l : List ℕ) (s r : Option (List ℕ)) → join_with_byte 45 (spell (core_alone (plain l s r))) ≡ l ++ (hyphened s ++ hyphened r)
joined l s r = grind (arith, append-nil {A = ℕ})

-- a text that is, letter case aside, the subtags of a core alone with hyphens (45) between them is read as that core
-- alone
text_read : (text : List ℕ) (c : CoreParts) → IsTag (core_alone c)
    → folded text ≡ join_with_byte 45 (spell (core_alone c)) → spell (core_alone c) ≡ list_of text
text_read text c tag e =
    let again = tag_again (core_alone c) tag in
    let shown = conventional (spell (core_alone c)) in
    sym (same_list text shown (e ∙ ap (join_with_byte 45) (sym again ∙ list_of_is shown) ∙ join_pieces (folded shown)) ∙ again)

-- whether there is a core, without extlangs and variants
abbrev is_plain : Option CoreParts → Bool
is_plain o = option_map_or (λ (c : CoreParts). (length c.extlangs == 0) && (length c.variants == 0)) o false

-- no grandfathered tag that is read as a core is without extlangs and variants
none_plain : list_all (λ (t : List ℕ). not (is_plain (core_of_list (pieces t)))) grandfathered_texts ≡ true
unfolding grandfathered_texts core_of_list grown_by grown is_subtag is_language is_extlang is_script is_region is_variant
none_plain = refl

-- the tag of a core alone without extlangs and variants is well-formed, since it is no grandfathered one
plain_tag : (l : List ℕ) (s r : Option (List ℕ)) → IsCore (plain l s r) → IsTag (core_alone (plain l s r))
unfolding grandfathered_list
plain_tag l s r k =
    let other : IsNotGrandfathered (spell_core (plain l s r)) = λ number g.
    let none = list_all-at (λ (t : List ℕ). not (is_plain (core_of_list (pieces t)))) grandfathered_texts (number - 1)
    none_plain (omega (arith, table_length, g.first, g.last)) in
    let is = ap core_of_list (sym g.same) ∙ core_again (plain l s r) k in
    let bad : not true ≡ true = rw is at none in
    cc in
    (record { shaped_core = k; shaped_extensions = tt; shaped_private = refl }, not_grandfathered (plain l s r) [] [] (inl other))

-- ---- a text that is cut into subtags that have flags

-- a language is of letters
language_letters : (s : List ℕ) → is_language s ≡ true → is_alphabetic s ≡ true
unfolding is_language
language_letters s h = grind arith

-- a script has two bytes or more, so it is no singleton
script_long : (s : List ℕ) → is_script s ≡ true → 2 ≤ length s
script_long s h = omega (arith, (script_is s h).1)

-- a region has two bytes or more, so it is no singleton
region_long : (s : List ℕ) → is_region s ≡ true → 2 ≤ length s
region_long s h = elim (region_is s h) [ inl p ↦ omega (arith, p.1) | inr p ↦ omega (arith, p.1) ]

-- a language put into lower case, and a script and a region in their cases, are their langtag's text in conventional
-- case
cased : (l : List ℕ) (s r : Option (List ℕ)) → is_language (folded l) ≡ true
    → option_map_or is_script (option_map folded s) true ≡ true → option_map_or is_region (option_map folded r) true
    ≡ true
    → lowered l ++ shown_parts s r ≡ conventional (spell (core_alone (plain (folded l) (option_map folded s) (option_map folded r))))
cased l s r h f g =
    let long = language_long (folded l) h in
    let low = lowered_is l (language_letters (folded l) h) in
    grind (arith, nat_tests, append-nil {A = ℕ}, script_as, region_as, script_long, region_long)

-- a language with a flag has at most three letters
language_few : (F l : List ℕ) → flagged F kinds.Language l ≡ true → length (folded l) ≤ 3
language_few F l h = grind arith

-- the text of a language, a script and a region in lower case is that of each in lower case
folded_parts : (l : List ℕ) (s r : Option (List ℕ)) → folded (l ++ (hyphened s ++ hyphened r))
    ≡ folded l ++ (hyphened (option_map folded s) ++ hyphened (option_map folded r))
folded_parts l s r = grind (arith, map-append {A = ℕ} {B = ℕ})

-- pieces that in lower case are a language, a script and a region are such parts as they stand: `p`, `q` and `o`
uncased : (ps : List (List ℕ)) (l : List ℕ) (s r : Option (List ℕ)) → map folded ps ≡ spell (core_alone (plain l s r))
    → (p : List ℕ) × (q : Option (List ℕ)) × (o : Option (List ℕ)) × (ps ≡ spell (core_alone (plain p q o)))
    × (folded p ≡ l) × (option_map folded q ≡ s) × (option_map folded o ≡ r)
uncased (p ∷ []) l None None e = (p, None, None, refl, cc, refl, refl)
uncased (p ∷ o ∷ []) l None (Some r) e = (p, None, Some o, refl, cc, refl, ap Some (cc))
uncased (p ∷ q ∷ []) l (Some s) None e = (p, Some q, None, refl, cc, ap Some (cc), refl)
uncased (p ∷ q ∷ o ∷ []) l (Some s) (Some r) e = (p, Some q, Some o, refl, cc, ap Some (cc), ap Some (cc))
uncased _ _ _ _ e = absurd (grind arith)

module _ (R : List EntryParts) (F : List ℕ) (flags : AreFlags R F) where
  -- a subtag with a flag stays, in whatever letter case it is written
  told : (k : Kind) (s : List ℕ) → flagged F k s ≡ true → stays R k (folded s) ≡ true
  told k s h = let t = flags.tell k s in grind arith

  -- a script or a region with a flag, if there is one, stays
  part_told : (k : Kind) (s : Option (List ℕ)) → part_flagged F k s ≡ true → IfSome (option_map folded s) (λ s. stays R k s ≡ true)
  part_told k s h = grind (arith, told)

  -- a script or a region with a flag, if there is one, has the form of its kind
  part_form : (k : Kind) (s : Option (List ℕ)) → part_flagged F k s ≡ true → option_map_or (has_form k) (option_map folded s) true ≡ true
  part_form k s h = grind (arith, told, stays_form R flags.forms)

  module _ (text : List ℕ) (p : Shown) (t : IsShown F text p) where
    -- the core of a text that is shown, in lower case
    abbrev pub core_shown : CoreParts
    core_shown = plain (folded t.language) (option_map folded t.parts.script) (option_map folded t.parts.region)

    -- the subtags of the core of a text that is shown have their forms
    core_shaped : IsCore core_shown
    core_shaped =
        let language = stays_form R flags.forms kinds.Language (folded t.language) (told kinds.Language t.language t.language_set) in
        let script = part_form kinds.Script t.parts.script t.parts.script_set in
        let region = part_form kinds.Region t.parts.region t.parts.region_set in
        grind arith

    -- a text that is shown is, in lower case, the text of its core
    same_letters : folded text ≡ join_with_byte 45 (spell (core_alone core_shown))
    same_letters =
        ap folded (t.text_is ∙ ap (λ (m : List ℕ). t.language ++ m) t.parts.rest_is) ∙ folded_parts t.language t.parts.script t.parts.region
        ∙ sym (joined (folded t.language) (option_map folded t.parts.script) (option_map folded t.parts.region))

    -- the core alone of a text that is shown is a well-formed tag
    shown_tag : IsTag (core_alone core_shown)
    shown_tag = plain_tag (folded t.language) _ _ core_shaped

    -- a text that is shown is read as its core alone, each subtag of which stays
    pub shown_stays : StaysAs R text core_shown
    shown_stays = record {
      read = record {
        short = omega (
          arith,
          ap length t.text_is,
          length-append t.language t.rest,
          language_few F t.language t.language_set,
          length-map t.language to_ascii_lowercase,
          t.parts.few,
        );
        tag = shown_tag;
        spelled = text_read text core_shown shown_tag same_letters;
      };
      extlangs = refl;
      variants = refl;
      short = language_few F t.language t.language_set;
      language = told kinds.Language t.language t.language_set;
      script = part_told kinds.Script t.parts.script t.parts.script_set;
      region = part_told kinds.Region t.parts.region t.parts.region_set;
    }

    -- what is shown of a text is the text in conventional case
    pub shown_cased : take p.count p.bytes ≡ conventional (list_of text)
    shown_cased = t.shown_is
        ∙ cased t.language t.parts.script t.parts.region core_shaped.language core_shaped.script core_shaped.region
        ∙ ap conventional shown_stays.read.spelled

  -- a language of at most three letters that stays has a flag
  language_flagged : (s : List ℕ) → length (folded s) ≤ 3 → stays R kinds.Language (folded s) ≡ true → flagged F kinds.Language s ≡ true
  language_flagged s n h =
      let p = language_long (folded s) (stays_form R flags.forms kinds.Language (folded s) h) in
      let t = flags.tell kinds.Language s in
      grind arith

  -- a script that stays has a flag
  script_flagged : (s : List ℕ) → stays R kinds.Script (folded s) ≡ true → flagged F kinds.Script s ≡ true
  script_flagged s h =
      let p = script_is (folded s) (stays_form R flags.forms kinds.Script (folded s) h) in
      let t = flags.tell kinds.Script s in
      grind arith

  -- a region that stays has a flag
  region_flagged : (s : List ℕ) → stays R kinds.Region (folded s) ≡ true → flagged F kinds.Region s ≡ true
  region_flagged s h =
      let p = region_is (folded s) (stays_form R flags.forms kinds.Region (folded s) h) in
      let t = flags.tell kinds.Region s in
      grind arith

  -- a script or a region that stays, if there is one, has a flag: `s` as it is written, `c` in lower case; `each` is
  -- the lemma on subtags of its kind
  part_stays : (k : Kind) → ((s : List ℕ) → stays R k (folded s) ≡ true → flagged F k s ≡ true)
      → (s c : Option (List ℕ)) → option_map folded s ≡ c → IfSome c (λ s. stays R k s ≡ true)
      → part_flagged F k s ≡ true
  part_stays k each s c e h = grind (arith, each)

  -- of a text whose subtags all stay something is shown
  pub stays_shown : (text : List ℕ) (c : CoreParts) → StaysAs R text c → taken.shown_text F text ≡ None → ⊥
  stays_shown text c h none =
      let core : c ≡ plain c.language c.script c.region = λ k. record {
        language = c.language;
        extlangs = h.extlangs k;
        script = c.script;
        region = c.region;
        variants = h.variants k;
      } in
      let t = uncased (pieces text) c.language c.script c.region (sym h.read.spelled ∙ ap (λ (d : CoreParts). spell (core_alone d)) core) in
      let text_is : text ≡ t.0 ++ (hyphened t.1 ++ hyphened t.2) = sym (join_pieces text) ∙ ap (join_with_byte 45) t.3
      ∙ joined t.0 t.1 t.2 in
      let stay = subst (λ (m : List ℕ). stays R kinds.Language m ≡ true) (sym t.4) h.language in
      let form = stays_form R flags.forms kinds.Language (folded t.0) stay in
      let few : length (folded t.0) ≤ 3 = omega (arith, ap length t.4, h.short) in
      let some = cut_shown F t.0 t.1 t.2 (language_letters (folded t.0) form) (language_flagged t.0 few stay)
      (part_stays kinds.Script script_flagged t.1 c.script t.5 h.script)
      (part_stays kinds.Region region_flagged t.2 c.region t.6 h.region) in
      let bad = rw (← text_is, none) at some in
      cc
