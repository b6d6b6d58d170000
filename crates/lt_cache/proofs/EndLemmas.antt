-- The proof of `ends_are_shared`: what follows one canonical core with an end, in the canonical text of the two,
-- follows every canonical core with the same end. So the cache may keep it for the end. An end goes from the hyphen
-- before the first one-character subtag on; the list of a text is its subtags in lower case.
use Rattle.std.proofs.Common.{◌≡◌, ◌≢◌, ℕ, ◌≤◌, ◌<◌, ◌+◌, ◌==◌, Bool, true, not, List, [], ◌∷◌, ◌++◌, length, map, refl}
use Rattle.std.proofs.Common.{sym, ap, ◌∙◌, subst, arith, inr}
use Rattle.std.specs.List.{AllByRecursion, join_with_byte, list_all, onto_first}
use Rattle.std.proofs.lemmas.Bool.{and_parts, ne_eqb, not-true}
use Rattle.std.proofs.lemmas.List.{append-nil, append_assoc, append_cancel_left, map-append}
use Rattle.lt_subtag.specs.Bytes.{folded}
use Rattle.lt_tag.specs.Parts.{CoreParts, ExtensionParts, TagForm, LangTag, PrivateUse, Grandfathered}
use Rattle.lt_tag.specs.Values.{core_alone}
use Rattle.lt_tag.specs.Lists.{pieces, list_of, longest_text}
use Rattle.lt_tag.specs.Spelling.{x_subtag, spell_core, spell_extension, spell_extensions, spell_private, IsCore}
use Rattle.lt_tag.specs.Splitting.{before}
use Rattle.lt_tag.specs.WellFormed.{spell, IsNotGrandfathered, IsTag}
use Rattle.lt_tag.specs.Conventional.{conventional, shown_after}
use Rattle.lt_tag.specs.Faults.{HasTag}
use Rattle.lt_tag.proofs.CompleteLemmas.{one_core}
use Rattle.lt_tag.proofs.ListLemmas.{head_is}
use Rattle.lt_tag.proofs.OneTagLemmas.{one_tag_of_text}
use Rattle.lt_tag.proofs.ShapeLemmas.{core_all, language_long}
use Rattle.lt_tag.proofs.SplitLemmas.{before-append}
use Rattle.lt_tag.proofs.TagLemmas.{not_grandfathered}
use Rattle.lt_tag.proofs.TextLemmas.{some_pieces}
use Rattle.lt_registry.specs.Parts.{EntryParts}
use Rattle.lt_registry.specs.Validity.{HasDistinctSource, RepeatsNoVariant}
use Rattle.lt_rewrite.specs.Rewriting.{done, then, Rests}
use Rattle.lt_rewrite.specs.CoreSteps.{CoreStep}
use Rattle.lt_rewrite.specs.TagSteps.{on_core, IsCanonical}
use Rattle.lt_rewrite.specs.Laws.{IsProperValue}
use Rattle.lt_rewrite.proofs.NormalForms.{form_is_normal, star_rests}
use Rattle.lt_rewrite.proofs.ProperTags.{ProperParts, proper_parts, proper_langtag}
use Rattle.lt_check.specs.Conditions.{IsChecked}
use Rattle.lt_canon.specs.Answers.{IsCanonicalFormOf}
use Rattle.lt_canon.specs.Texts.{IsCanonicalTextOf}
use Rattle.lt_canon.proofs.TagForm.{core_end, cores_proper, extensions_end, extensions_end_formed, extensions_step_from, lang_end, tag_end}
use Rattle.lt_canon.proofs.TagRepeats.{form_is_end}
use Rattle.lt_canon.proofs.CanonicalForms.{form_some, langtag_canonical}
use Rattle.lt_cache.specs.Ends.{IsEnd, IsEndText, IsCanonicalCore, EndsAreShared}
use Rattle.std.proofs.lemmas.Bool.Decides.{nat_tests}

-- ---- lists

-- a byte, `b`, is put onto the first piece only: the pieces `qs` that follow stay
onto_more : (b : ℕ) (ps qs : List (List ℕ)) → 0 < length ps → onto_first b (ps ++ qs) ≡ onto_first b ps ++ qs
onto_more b [] qs n = absurd (omega arith)
onto_more b (p ∷ ps) qs n = refl

-- the pieces of two texts with a hyphen (45) between them: those of the one, and then those of the other
pieces_append : (front rest : List ℕ) → pieces (front ++ 45 ∷ rest) ≡ pieces front ++ pieces rest
pieces_append [] rest = refl
pieces_append (b ∷ bs) rest = grind (arith, nat_tests, pieces_append bs rest, some_pieces bs, onto_more)

-- the list of two texts with a hyphen (45) between them: that of the one, and then that of the other
pub list_append : (front rest : List ℕ) → list_of (front ++ 45 ∷ rest) ≡ list_of front ++ list_of rest
list_append front rest = ap (map folded) (pieces_append front rest) ∙ map-append folded (pieces front) (pieces rest)

-- the list of a text that begins with one byte, `b`, and a hyphen (45): this byte in lower case, and the list of the
-- rest
pub list_single : (b : ℕ) (rest : List ℕ) → b ≢ 45 → list_of (b ∷ 45 ∷ rest) ≡ folded (b ∷ []) ∷ list_of rest
list_single b rest n = rw (ne_eqb b 45 n) refl

-- whether no subtag has one character
abbrev pub no_single : List (List ℕ) → Bool
no_single list = list_all (λ (s : List ℕ). not (length s == 1)) list

-- in conventional case the first one-character subtag, `s`, and those after it, `ss`, stay as they are (RFC 5646,
-- 2.1.1)
shown_append : (xs : List (List ℕ)) (s : List ℕ) (ss : List (List ℕ)) → no_single xs ≡ true → (length s == 1) ≡ true
    → shown_after (xs ++ s ∷ ss) ≡ shown_after xs ++ s ∷ ss
shown_append [] s ss h e = rw e refl
shown_append (x ∷ xs) s ss h e = grind (arith, nat_tests, shown_append xs s ss)

-- two lists, each of one subtag or more, joined by hyphens (45): the text of the one, a hyphen, and that of the other
pub join_append : (x : List ℕ) (xs : List (List ℕ)) (s : List ℕ) (ss : List (List ℕ))
    → join_with_byte 45 (x ∷ xs ++ s ∷ ss) ≡ join_with_byte 45 (x ∷ xs) ++ 45 ∷ join_with_byte 45 (s ∷ ss)
join_append x [] s ss = refl
join_append x (y ∷ xs) s ss = rw (join_append y xs s ss) (simp append_assoc)

-- the text in conventional case of subtags, of which `s` is the first of one character: that of those before it, a
-- hyphen (45), and the others as they are
text_append : (x : List ℕ) (xs : List (List ℕ)) (s : List ℕ) (ss : List (List ℕ)) → no_single (x ∷ xs) ≡ true → (length s == 1) ≡ true
    → conventional (x ∷ xs ++ s ∷ ss) ≡ conventional (x ∷ xs) ++ 45 ∷ join_with_byte 45 (s ∷ ss)
text_append x xs s ss h e =
    let q = and_parts (not (length x == 1)) (no_single xs) h in
    rw (not-true (length x == 1) q.0, shown_append xs s ss q.1 e) (join_append x (shown_after xs) s ss)

-- subtags without a mark, `xs`, are those before the first marked one, if `rest`, which follows, begins with one or is
-- empty
cut_first : (mark : List ℕ → Bool) (xs rest : List (List ℕ)) → list_all (λ (s : List ℕ). not (mark s)) xs ≡ true
    → before mark rest ≡ [] → before mark (xs ++ rest) ≡ xs
cut_first mark xs rest h first = before-append mark xs rest h ∙ ap (λ (l : List (List ℕ)). xs ++ l) first ∙ append-nil xs

-- ---- extensions and private use
-- the subtags of extensions, and then of private use
abbrev pub spell_rest : List ExtensionParts → List (List ℕ) → List (List ℕ)
spell_rest es ps = spell_extensions es ++ spell_private ps

-- of one extension and no private use, these are the extension's own subtags
pub extension_alone : (e : ExtensionParts) → spell_rest (e ∷ []) [] ≡ spell_extension e
extension_alone e = append-nil _ ∙ append-nil (spell_extension e)

-- whether a subtag has one character
abbrev is_single : List ℕ → Bool
is_single s = length s == 1

-- extensions and private use begin with a one-character subtag, if there are any
rest_single : (es : List ExtensionParts) (ps : List (List ℕ)) → before is_single (spell_rest es ps) ≡ []
rest_single [] [] = refl
rest_single es ps = refl

-- no subtag of a core has one character
pub core_no_single : (c : CoreParts) → IsCore c → no_single (spell_core c) ≡ true
core_no_single c k = core_all (λ (s : List ℕ). not (length s == 1)) (λ s l. ap not (ne_eqb (length s) 1 (λ e. omega (arith, l.long)))) c k

-- the list of a text that is read as a tag of only a core is the subtags of the core
pub core_list : (front : List ℕ) (c : CoreParts) → HasTag front (core_alone c) → list_of front ≡ spell_core c
core_list front c read = sym read.spelled ∙ append-nil (spell_core c)

-- the list of an end: its singleton in lower case, and the list of what follows
abbrev pub list_after : {end : List ℕ} → IsEnd end → List (List ℕ)
list_after E = folded (E.singleton ∷ []) ∷ list_of E.rest

-- the list of a text that is a core, `front`, and an end: the subtags of the core, and the list of the end
pub whole_list : (front end : List ℕ) (c : CoreParts) (E : IsEnd end) → HasTag front (core_alone c)
    → list_of (front ++ end) ≡ spell_core c ++ list_after E
whole_list front end c E read =
    ap (λ (l : List ℕ). list_of (front ++ l)) E.whole ∙ list_append front (E.singleton ∷ 45 ∷ E.rest)
    ∙ rw (list_single E.singleton E.rest E.single, core_list front c read) refl

-- a tag that spells a core `c` and a rest that a one-character subtag `s` begins is a langtag of this core, with
-- extensions `es` and private use `ps` that spell the rest
pub has_end : (t : TagForm) (c : CoreParts) (s : ℕ) (ss : List (List ℕ)) → IsTag t → IsCore c → spell t ≡ spell_core c ++ (s ∷ []) ∷ ss
    → (es : List ExtensionParts) × (ps : List (List ℕ)) × (t ≡ LangTag c es ps) × (spell_rest es ps ≡ (s ∷ []) ∷ ss)
has_end (LangTag d es ps) c s ss T k e =
    let core : spell_core d ≡ spell_core c =
    sym (cut_first is_single (spell_core d) (spell_rest es ps) (core_no_single d T.0.shaped_core)
    (rest_single es ps)) ∙ ap (before is_single) e
    ∙ cut_first is_single (spell_core c) ((s ∷ []) ∷ ss) (core_no_single c k) refl in (
      es,
      ps,
      ap (λ (x : CoreParts). LangTag x es ps) (one_core d c T.0.shaped_core k core),
      append_cancel_left (spell_core d) _ _ (e ∙ ap (λ (l : List (List ℕ)). l ++ (s ∷ []) ∷ ss) (sym core)),
    )
has_end (PrivateUse ps) c s ss T k e =
    let first : x_subtag ≡ c.language = head_is x_subtag c.language ps _ e in
    absurd (omega (arith, (language_long c.language k.language).long, ap length first))
has_end (Grandfathered n) c s ss T k e =
    let x : ExtensionParts = record { singleton = s; subtags = ss } in
    let same = e ∙ ap (λ (l : List (List ℕ)). spell_core c ++ l) (sym (extension_alone x)) in
    absurd (not_grandfathered c (x ∷ []) [] (inr (omega arith)) n (record { first = T.0; last = T.1; same = sym same }))

-- extensions and private use that spell a subtag are some
has_some : (es : List ExtensionParts) (ps : List (List ℕ)) (s : List ℕ) (ss : List (List ℕ)) → spell_rest es ps ≡ s ∷ ss
    → 0 < length es + length ps
has_some [] [] s ss e = cc
has_some es ps s ss e = omega arith

-- the text in conventional case of a langtag with extensions or private use: that of the core, a hyphen (45), and their
-- subtags as they are
lang_text : (c : CoreParts) (es : List ExtensionParts) (ps : List (List ℕ)) → IsCore c → 0 < length es + length ps
    → conventional (spell (LangTag c es ps)) ≡ conventional (spell_core c) ++ 45 ∷ join_with_byte 45 (spell_rest es ps)
lang_text c [] [] k n = absurd (omega arith)
lang_text c [] (p ∷ ps) k n = text_append c.language _ x_subtag (p ∷ ps) (core_no_single c k) refl
lang_text c (e ∷ es) ps k n = text_append c.language _ (e.singleton ∷ []) _ (core_no_single c k) refl

-- in a registry that passes the check
module _ (R : List EntryParts) (C : IsChecked R) where
  -- no step leads from the core of a canonical tag
  pub core_rests : (c : CoreParts) → IsCanonical R (core_alone c) → Rests (CoreStep R) c
  core_rests c K d s =
      K.at_rest (core_alone d) (record {
        from = K.valid.proper;
        to = cores_proper R C (then s done) [] [] K.valid.proper;
        change = on_core c d [] [] refl refl s;
      })

  -- if the end of a tag's steps repeats no variant, the sources within its extensions repeat none; `d` is the tag's
  -- core
  sources_of : (d : CoreParts) (es : List ExtensionParts) (ps : List (List ℕ)) → RepeatsNoVariant (lang_end R C d es ps)
      → AllByRecursion HasDistinctSource (extensions_end R C es)
  sources_of d [] ps D = subst (AllByRecursion HasDistinctSource)
      (star_rests ((extensions_end_formed R C).reached []) (λ fs s. extensions_step_from R [] fs s refl)) tt
  sources_of d (e ∷ es) ps D = D.1

  -- a text has one canonical text
  pub one_text : (text x y : List ℕ) → IsCanonicalTextOf R text x → IsCanonicalTextOf R text y → x ≡ y
  one_text text x y a b =
      a.written ∙ ap (λ (t : TagForm). conventional (spell t)) (sym (form_is_end R C a.tag a.form a.is_form)
      ∙ ap (tag_end R C) (one_tag_of_text text a.tag b.tag a.read b.read) ∙ form_is_end R C b.tag b.form b.is_form)
      ∙ sym b.written

  -- These extensions and this private use, one or more in all, can follow each canonical core in a valid tag. No source
  -- within the extensions repeats a variant, neither as it is nor at the end of their steps.
  pub record CanFollow (es : List ExtensionParts) (ps : List (List ℕ)) : Type 0 where
    pub parts : (c : CoreParts) → IsProperValue R c → ProperParts R c es ps
    pub distinct : AllByRecursion HasDistinctSource es
    pub sources : AllByRecursion HasDistinctSource (extensions_end R C es)
    pub some : 0 < length es + length ps

  -- the canonical text of a canonical core with an end that spells such extensions and private use: `rest` is the text
  -- of what these are in canonical form
  pub text_with : (front end rest : List ℕ) (F : IsCanonicalCore R front) (es : List ExtensionParts) (ps : List
      (List ℕ)) → CanFollow es ps → list_of (front ++ end) ≡ spell_core F.core ++ spell_rest es ps
      → join_with_byte 45 (spell_rest (extensions_end R C es) ps) ≡ rest → length (front ++ end) ≤ longest_text
      → IsCanonicalTextOf R (front ++ end) (conventional (list_of front) ++ 45 ∷ rest)
  text_with front end rest F es ps V whole after short =
      let c = F.core in
      let fs = extensions_end R C es in
      let normal = form_is_normal (extensions_end_formed R C) es in
      let proper = proper_langtag R c es ps (subst IsNotGrandfathered (append-nil (spell_core c)) F.read.tag.1)
      (V.parts c (proper_parts R c [] [] F.canonical.valid.proper).core) in
      let text = lang_text c fs ps F.read.tag.0.shaped_core (form_some R C es fs ps normal V.some) in
      record {
        tag = LangTag c es ps;
        read = record { short = short; tag = proper.tag.tag; spelled = sym whole };
        form = LangTag c fs ps;
        is_form = langtag_canonical R C c c es fs ps (record { proper = proper; distinct = (F.canonical.valid.distinct.0, V.distinct) })
            (record {
              normal = record { reached = done; at_rest = core_rests c F.canonical };
              distinct = F.canonical.valid.distinct.0;
            }) normal V.sources V.some;
        written = rw (core_list front c F.read, ← after) (sym text);
      }

  -- what follows one canonical core with an end, in its canonical text, follows each with the same end
  pub ends_shared : EndsAreShared R
  ends_shared front end canonical F E a =
      let H = has_end a.tag F.core _ (list_of E.rest) a.read.tag F.read.tag.0.shaped_core (a.read.spelled
      ∙ whole_list front end F.core E F.read) in
      let is = subst (λ (t : TagForm). IsCanonicalFormOf R t a.form) H.2 a.is_form in
      let V : CanFollow H.0 H.1 = record {
        parts = λ c k.
            let P = proper_parts R F.core H.0 H.1 is.valid.proper in
            record {
              core = k;
              values = P.values;
              count = P.count;
              private = P.private;
              private_count = P.private_count;
              extensions = P.extensions;
              singletons = P.singletons;
            };
        distinct = is.valid.distinct.1;
        sources = sources_of (core_end R C F.core) H.0 H.1 (subst RepeatsNoVariant (sym (form_is_end R C _ a.form is))
            is.canonical.valid.distinct);
        some = has_some H.0 H.1 _ (list_of E.rest) H.3;
      } in
      let shared : IsEndText R end (45 ∷ join_with_byte 45 (spell_rest (extensions_end R C H.0) H.1)) =
      λ other G. text_with other end _ G H.0 H.1 V (whole_list other end G.core E G.read
      ∙ ap (λ (l : List (List ℕ)). spell_core G.core ++ l) (sym H.3)) refl in
      record { rest = _; whole = one_text (front ++ end) _ _ a (shared front F a.read.short); shared = shared }
