-- The parts of a core, a `u` or a `t` extension are found again in the subtags that they spell; and parts that are
-- found in subtags have their forms and spell these subtags. `split_u`, `split_t`, `join_u` and `join_t` need this.
use Rattle.std.proofs.Common.{◌≡◌, ℕ, ◌≤◌, ◌<◌, Bool, true, not, List, [], ◌∷◌, ◌++◌, length, refl, sym, ap, ◌∙◌, arith, inl, inr}
use Rattle.std.specs.Prelude.{Option, Some, None, IfSome, option_map, flat_map}
use Rattle.std.specs.List.{list_all, AllByRecursion}
use Rattle.std.proofs.lemmas.Bool.{and_parts, and_from, cases_Bool}
use Rattle.std.proofs.lemmas.Bool.Decides.{nat_tests}
use Rattle.std.proofs.lemmas.List.{append-nil}
use Rattle.lt_subtag.specs.Bytes.{is_subtag}
use Rattle.lt_subtag.specs.Shapes.{is_language, is_singleton, is_key, is_separator}
use Rattle.lt_tag.specs.Parts.{CoreParts, ExtensionParts, KeywordParts, FieldParts, UForm, TForm}
use Rattle.lt_tag.specs.Spelling.{spell_core, IsCore, IsExtension, is_extension_subtag}
use Rattle.lt_tag.specs.Extensions.{is_long, spell_keyword, spell_u, IsKeyword, IsU, IsUnicode, spell_field, spell_t}
use Rattle.lt_tag.specs.Extensions.{IsField, IsT, IsTransform}
use Rattle.lt_tag.specs.Values.{IsExtensionValue}
use Rattle.lt_tag.specs.Transform.{IsTransformFault, IsFieldFault, IsSourceFault}
use Rattle.lt_tag.specs.declared.faults.TransformFault.{TransformFault}
use Rattle.lt_tag.specs.declared.faults.TransformFault.TheVariants as faults
use Rattle.lt_tag.specs.Splitting.{before, onward, keywords_of, fields_of, core_of_list, source_of_list, has_values, spell_source}
use Rattle.lt_tag.proofs.ListLemmas.{list_all-append, chosen}
use Rattle.lt_tag.proofs.CompleteLemmas.{reached, grown_is}
use Rattle.lt_tag.proofs.SplitLemmas.{before-append, keywords-append, fields-append, keywords-onward, fields-onward}
use Rattle.lt_tag.proofs.SplitLemmas.{keywords-spelled, fields-spelled, no_keys, before-keywords, before-fields}
use Rattle.lt_tag.proofs.SplitLemmas.{keywords-again, fields-again}
use Rattle.lt_tag.specs.Lists.{longest_text}
use Rattle.lt_tag.proofs.ShapeLemmas.{all_weaker, core_all, core_parts}

-- ---- the shapes of single subtags

-- what has 3 to 8 letters or digits can be in an extension
pub long_extension : (s : List ℕ) → is_long s ≡ true → is_extension_subtag s ≡ true
unfolding is_long is_extension_subtag
long_extension s h = grind (arith, nat_tests)

-- a separator can be in an extension
pub separator_extension : (s : List ℕ) → is_separator s ≡ true → is_extension_subtag s ≡ true
unfolding is_separator is_extension_subtag is_subtag
separator_extension [] h = cc
separator_extension (a ∷ []) h = cc
separator_extension (a ∷ b ∷ []) h = grind (arith, nat_tests)
separator_extension (a ∷ b ∷ c ∷ s) h = cc

-- each subtag of a shaped core can be in an extension
pub core_extension : (core : CoreParts) → IsCore core → list_all is_extension_subtag (spell_core core) ≡ true
unfolding is_extension_subtag
core_extension = core_all is_extension_subtag (λ s l. grind (arith, nat_tests, l.subtag, l.long))

-- no subtag of a shaped core is a separator
core_no_separator : (core : CoreParts) → IsCore core → list_all (λ (s : List ℕ). not (is_separator s)) (spell_core core) ≡ true
core_no_separator = core_parts (λ (s : List ℕ). not (is_separator s)) (λ s p. p.no_separator)

-- ---- the parts of a `u` extension

-- each subtag of a keyword can be in an extension
keyword_extension : (k : KeywordParts) → IsKeyword k → list_all is_extension_subtag (spell_keyword k) ≡ true
unfolding is_key is_extension_subtag
keyword_extension k h = grind (arith, nat_tests, h.key, all_weaker is_long is_extension_subtag long_extension k.types h.types)

-- a test holds of each subtag that a list spells, if it holds of each that one of its elements spells
flat_all : {X : Type 0} (test : List ℕ → Bool) (spell : X → List (List ℕ)) (P : X → Type 0)
    → ((x : X) → P x → list_all test (spell x) ≡ true) → (xs : List X) → AllByRecursion P xs
    → list_all test (flat_map spell xs) ≡ true
flat_all test spell P w [] h = refl
flat_all test spell P w (x ∷ xs) h = list_all-append test (spell x) (flat_map spell xs) (w x h.0) (flat_all test spell P w xs h.1)

-- each subtag of the parts of a `u` extension has 2 to 8 letters or digits
pub u_extension : (p : UForm) → IsU p → list_all is_extension_subtag (spell_u p) ≡ true
u_extension p h =
    list_all-append is_extension_subtag p.attributes _ (all_weaker is_long is_extension_subtag long_extension p.attributes h.attributes)
    (flat_all is_extension_subtag spell_keyword IsKeyword keyword_extension p.keywords h.keywords)

-- the parts of a `u` extension are found again in what they spell
pub u_again : (p : UForm) → IsU p → (before is_key (spell_u p) ≡ p.attributes) × (keywords_of (spell_u p) ≡ p.keywords)
u_again p h =
    let none = no_keys p.attributes h.attributes in
    let rest = flat_map spell_keyword p.keywords in (
      rw (before-append is_key p.attributes rest none, before-keywords p.keywords h.keywords) (append-nil p.attributes),
      keywords-append p.attributes rest none ∙ keywords-again p.keywords h.keywords,
    )

-- the subtags of an extension before the first key have 3 to 8 letters or digits
before_long : (ss : List (List ℕ)) → list_all is_extension_subtag ss ≡ true → list_all is_long (before is_key ss) ≡ true
unfolding is_extension_subtag is_key is_long
before_long [] h = refl
before_long (s ∷ ss) h = grind (arith, nat_tests, before_long ss)

-- the keywords found in the subtags of an extension have their forms
keywords_shaped : (ss : List (List ℕ)) → list_all is_extension_subtag ss ≡ true → AllByRecursion IsKeyword (keywords_of ss)
keywords_shaped [] h = tt
keywords_shaped (s ∷ ss) h =
    let p = and_parts (is_extension_subtag s) (list_all is_extension_subtag ss) h in
    elim (cases_Bool (is_key s)) [
      | inl e ↦ rw e (record { key = e; types = before_long ss p.1 }, keywords_shaped ss p.1)
      | inr e ↦ rw e (keywords_shaped ss p.1)
    ]

-- the attributes and keywords found in the subtags of an extension have their forms and spell these
pub u_found : (ss : List (List ℕ)) (p : UForm) → list_all is_extension_subtag ss ≡ true → 0 < length ss
    → p.attributes ≡ before is_key ss → p.keywords ≡ keywords_of ss → IsUnicode ss p
u_found ss p h some a k =
    let spelled : spell_u p ≡ ss = rw (a, k) (keywords-spelled ss) in
    record {
      shaped = record {
        attributes = rw a (before_long ss h);
        keywords = rw k (keywords_shaped ss h);
        some = rw spelled some;
      };
      spelled = spelled;
    }

-- The code cuts the subtags of an extension at the first key, into `front` and `rest`. The attributes and keywords that
-- it makes of these have their forms and spell the subtags.
pub u_split : (e : ExtensionParts) (subtags front rest attributes : List (List ℕ)) (keywords : List KeywordParts)
    → IsExtensionValue e → subtags ≡ e.subtags → front ≡ before is_key subtags → rest ≡ onward is_key subtags
    → attributes ≡ front → keywords ≡ keywords_of rest → IsUnicode e.subtags (record { attributes = attributes; keywords = keywords })
u_split e subtags front rest attributes keywords h s f r a k =
    u_found e.subtags (record { attributes = attributes; keywords = keywords }) h.shaped.subtags h.shaped.some
    (a ∙ f ∙ ap (before is_key) s) (k ∙ ap keywords_of r ∙ keywords-onward subtags ∙ ap keywords_of s)

-- ---- the parts of a core

-- the core found in a list is shaped and spells the list
pub core_found : (ss : List (List ℕ)) (core : CoreParts) → core_of_list ss ≡ Some core → IsCore core × (spell_core core ≡ ss)
unfolding core_of_list
core_found [] core h = cc
core_found (s ∷ ss) core h = elim (chosen (is_language s) _ _ _ h)
    [ inl a ↦ grown_is s ss core a.0 a.1 | inr a ↦ let bad : None ≡ Some core = a.1 in cc ]

-- a shaped core is found in the list that it spells
pub core_again : (core : CoreParts) → IsCore core → core_of_list (spell_core core) ≡ Some core
unfolding core_of_list
core_again core k = rw k.language (reached core k)

-- ---- the parts of a `t` extension

-- a test that holds of each subtag of a core holds of each that a source spells, which may be missing
source_all : (test : List ℕ → Bool) → ((core : CoreParts) → IsCore core → list_all test (spell_core core) ≡ true)
    → (source : Option CoreParts) → IfSome source IsCore → list_all test (spell_source source) ≡ true
source_all test w None h = refl
source_all test w (Some core) h = w core h

-- a source with its form is found in the list that it spells
source_again : (source : Option CoreParts) → IfSome source IsCore → source_of_list (spell_source source) ≡ Some source
source_again None h = refl
source_again (Some core) h = ap (option_map Some) (core_again core h)

-- a source has its form and spells these subtags
abbrev IsSource : List (List ℕ) → Option CoreParts → Type 0
IsSource subtags source = IfSome source IsCore × (spell_source source ≡ subtags)

-- if o is the core that the subtags spell, or None, a source that is made of it has its form and spells them
source_at : (ss : List (List ℕ)) (o : Option CoreParts) (source : Option CoreParts) → core_of_list ss ≡ o
    → option_map Some o ≡ Some source → IsSource ss source
source_at ss None source e h = cc
source_at ss (Some core) source e h = let same : Some core ≡ source = cc in rw (← same) (core_found ss core e)

-- the source found in a list has its form and spells the list
source_found : (ss : List (List ℕ)) (source : Option CoreParts) → source_of_list ss ≡ Some source → IsSource ss source
source_found [] source h = let same : None ≡ source = cc in rw (← same) (tt, refl)
source_found (s ∷ ss) source h = source_at (s ∷ ss) (core_of_list (s ∷ ss)) source refl h

-- each subtag of a field can be in an extension
field_extension : (f : FieldParts) → IsField f → list_all is_extension_subtag (spell_field f) ≡ true
field_extension f h = and_from _ _ (separator_extension f.separator h.separator)
    (all_weaker is_long is_extension_subtag long_extension f.values h.values)

-- fields with their forms have values
fields_values : (fs : List FieldParts) → AllByRecursion IsField fs → list_all has_values fs ≡ true
fields_values [] h = refl
fields_values (f ∷ fs) h = grind (arith, nat_tests, h.0.some, h.0.values, fields_values fs h.1)

-- each subtag of the parts of a `t` extension has 2 to 8 letters or digits
pub t_extension : (p : TForm) → IsT p → list_all is_extension_subtag (spell_t p) ≡ true
t_extension p h =
    list_all-append is_extension_subtag (spell_source p.source) _ (source_all is_extension_subtag core_extension p.source h.source)
    (flat_all is_extension_subtag spell_field IsField field_extension p.fields h.fields)

-- In the subtags of a `t` extension these parts are found: their source before the first separator, and their fields,
-- each of which has values.
pub record IsFound (subtags : List (List ℕ)) (parts : TForm) : Type 0 where
  pub source : source_of_list (before is_separator subtags) ≡ Some parts.source
  pub fields : fields_of subtags ≡ parts.fields
  pub values : list_all has_values (fields_of subtags) ≡ true
  pub some : 0 < length subtags

-- the parts of a `t` extension are found again in what they spell
pub t_again : (p : TForm) → IsT p → IsFound (spell_t p) p
t_again p h =
    let front = spell_source p.source in
    let none = source_all (λ (s : List ℕ). not (is_separator s)) core_no_separator p.source h.source in
    let rest = flat_map spell_field p.fields in
    let source : before is_separator (front ++ rest) ≡ front = rw (
      before-append is_separator front rest none,
      before-fields p.fields h.fields,
    ) (append-nil front) in
    let fields : fields_of (front ++ rest) ≡ p.fields = fields-append front rest none ∙ fields-again p.fields h.fields in
    record {
      source = ap source_of_list source ∙ source_again p.source h.source;
      fields = fields;
      values = ap (list_all has_values) fields ∙ fields_values p.fields h.fields;
      some = h.some;
    }

-- the fields found in subtags have their forms if they have values
fields_shaped : (ss : List (List ℕ)) → list_all has_values (fields_of ss) ≡ true → AllByRecursion IsField (fields_of ss)
fields_shaped [] h = tt
fields_shaped (s ∷ ss) h =
    elim (cases_Bool (is_separator s)) [
      | inl e ↦
          rw e (
            record {
              separator = e;
              values = grind (arith, nat_tests, e, h);
              some = grind (arith, nat_tests, e, h);
            },
            fields_shaped ss (grind (arith, nat_tests, e, h)),
          )
      | inr e ↦ rw e (fields_shaped ss (rw e at h))
    ]

-- parts that are found in subtags have their forms and spell these
pub t_found : (ss : List (List ℕ)) (p : TForm) → IsFound ss p → IsTransform ss p
t_found ss p h =
    let source = source_found (before is_separator ss) p.source h.source in
    let spelled : spell_t p ≡ ss = rw (source.1, ← h.fields) (fields-spelled ss) in
    record {
      shaped = record {
        source = source.0;
        fields = rw (← h.fields) (fields_shaped ss h.values);
        some = rw spelled h.some;
      };
      spelled = spelled;
    }

-- The code cuts the subtags of an extension at the first separator, into `front` and `rest`. The source and the fields
-- that it makes of these have their forms and spell the subtags.
pub t_split : (e : ExtensionParts) (subtags front rest : List (List ℕ)) (source : Option CoreParts) (fields : List
    FieldParts) → IsExtensionValue e → subtags ≡ e.subtags → front ≡ before is_separator subtags
    → rest ≡ onward is_separator subtags → source_of_list front ≡ Some source → fields ≡ fields_of rest
    → list_all has_values fields ≡ true → IsTransform e.subtags (record { source = source; fields = fields })
t_split e subtags front rest source fields h s f r o k v =
    let same : fields ≡ fields_of e.subtags = k ∙ ap fields_of r ∙ fields-onward subtags ∙ ap fields_of s in
    t_found e.subtags (record { source = source; fields = fields })
    (record {
      source = ap source_of_list (sym (f ∙ ap (before is_separator) s)) ∙ o;
      fields = sym same;
      values = ap (list_all has_values) (sym same) ∙ v;
      some = h.shaped.some;
    })

-- if `front`, the subtags before the first separator, is no source, no parts spell the subtags ss
pub source_fault : (fault : TransformFault) (ss subtags front : List (List ℕ)) → subtags ≡ ss
    → front ≡ before is_separator subtags → IsSourceFault fault front → IsTransformFault fault ss
source_fault faults.BadTransform ss subtags front s f none = λ p h. let found = (t_again p h.shaped).source in cc
source_fault faults.OutOfMemory ss subtags front s f none = tt

-- if a field of `rest`, the subtags from the first separator on, has no values, or one without the form of a value, no
-- parts spell the subtags ss
pub field_fault : (fault : TransformFault) (ss subtags rest : List (List ℕ)) → subtags ≡ ss
    → rest ≡ onward is_separator subtags → IsFieldFault fault rest → IsTransformFault fault ss
field_fault faults.BadTransform ss subtags rest s r none = λ p h. let found = (t_again p h.shaped).values in cc (fields-onward subtags)
field_fault faults.OutOfMemory ss subtags rest s r none = tt

-- the subtags before the first mark are no more than all
pub length_before : (mark : List ℕ → Bool) (ss : List (List ℕ)) → length (before mark ss) ≤ length ss
length_before mark [] = omega arith
length_before mark (s ∷ ss) = grind (arith, nat_tests, length_before mark ss)

-- what the parts of a `u` extension spell, after the singleton `u` (117), is an extension
pub u_is_extension : (p : UForm) → IsU p → IsExtension (record { singleton = 117; subtags = spell_u p })
unfolding is_singleton is_subtag
u_is_extension p h = record { singleton = refl; subtags = u_extension p h; some = h.some }

-- what the parts of a `t` extension spell, after the singleton `t` (116), is an extension
pub t_is_extension : (p : TForm) → IsT p → IsExtension (record { singleton = 116; subtags = spell_t p })
unfolding is_singleton is_subtag
t_is_extension p h = record { singleton = refl; subtags = t_extension p h; some = h.some }

-- what the parts of a `u` extension spell is a value of the type Extension, if it has at most 1,024 subtags
pub u_value : (p : UForm) (subtags : List (List ℕ)) → IsU p → length (spell_u p) ≤ longest_text → subtags ≡ spell_u p
    → IsExtensionValue (record { singleton = 117; subtags = subtags })
u_value p subtags h few e = rw e (record { shaped = u_is_extension p h; subtags = few })

-- what the parts of a `t` extension spell is a value of the type Extension, if it has at most 1,024 subtags
pub t_value : (p : TForm) (subtags : List (List ℕ)) → IsT p → length (spell_t p) ≤ longest_text → subtags ≡ spell_t p
    → IsExtensionValue (record { singleton = 116; subtags = subtags })
t_value p subtags h few e = rw e (record { shaped = t_is_extension p h; subtags = few })
