-- Lemmas for `explain_u` and `explain_t`. A run is a list of steps, each the first of those that lead on. The runs on
-- the lists of an extension's parts, one after another, are one run on the parts, after which no step leads on.
use Rattle.std.proofs.Common.{◌≡◌, ◌≢◌, ℕ, suc, ◌+◌, ◌<◌, ◌≤◌, inr, List, [], ◌∷◌, ◌++◌, refl, sym, ap, ◌∙◌, subst}
use Rattle.std.proofs.Common.{length, get_or, set, take, drop, below_more, arith, Equal, inl, Option, Some}
use Rattle.std.specs.Prelude.{flat_map, codes}
use Rattle.std.proofs.lemmas.List.{take-set, set_split, get_or-set_same, get_or-set_other, length-set}
use Rattle.lt_tag.specs.Parts.{KeywordParts, UForm, CoreParts, FieldParts, TForm}
use Rattle.lt_tag.specs.Extensions.{spell_keyword, spell_field}
use Rattle.lt_rewrite.specs.Applying.{UnicodeLeads, CoreLeads, TransformLeads}
use Rattle.lt_rewrite.specs.Runs.{NoneLeads, DropsTrueBy, Adds, rank_of, kind_rank, IsFirst, SwapsBy, DropsBy}
use Rattle.lt_rewrite.specs.Runs.{AddsOnUnicode, IsNoLater, AddsOnCore, AddsOnTransform, IsRun}
use Rattle.lt_rewrite.specs.declared.steps.Step.{Step}
use Rattle.lt_rewrite.proofs.PartLists.{spelled_replaced, round, all_middle, all_replaced}
use Rattle.lt_rewrite.proofs.FirstSteps.{no_further, flat_more, adds_lift, adds_more, is_first, adds_all}
use Rattle.lt_rewrite.proofs.ListSteps.{front_few, IsUnlike, IsRising, unlike_drops, rising_swaps, unlike_at_rest}
use Rattle.lt_rewrite.proofs.ListSteps.{rising_at_rest, swaps_keep_unlike}
use Rattle.lt_rewrite.proofs.CoreLeading.{core_rank}
use Rattle.lt_rewrite.proofs.ExtensionLeading.{one_subtag, u_parts, UnicodeKind, drop_attribute, swap_attributes}
use Rattle.lt_rewrite.proofs.ExtensionLeading.{drop_keyword, swap_keywords, drop_true, u_rank, Says, said, led, in_u}
use Rattle.lt_rewrite.proofs.ExtensionLeading.{as_kind, true_step, true_led, to_swap, as_swap}
use Rattle.std.proofs.lemmas.Option.{same_Some}
use Rattle.lt_rewrite.specs.Extensions.{text_cmp, key_cmp, separator_cmp, on_source, on_fields}
use Rattle.lt_rewrite.proofs.PartForms.{text_total, key_total}
use Rattle.lt_registry.specs.Parts.{EntryParts}
use Rattle.lt_tag.specs.Splitting.{spell_source}
use Rattle.lt_rewrite.specs.Rewriting.{Star, then}
use Rattle.lt_rewrite.proofs.Stars.{star_path}
use Rattle.lt_rewrite.specs.declared.steps.StepKind.TheVariants as steps

-- A step that is the first on one list of the parts of a `u` extension is the first on the parts, if no step of a lower
-- rank leads on from these.

-- The keywords lose the type `true` if it is their only one, one after another, as `drop_trues` does it.

-- the only type of the keyword is `true`
abbrev pub IsSoleTrue : KeywordParts → Type 0
IsSoleTrue k = k.types ≡ codes "true" ∷ []

-- the keyword without its types
abbrev pub bare : KeywordParts → KeywordParts
bare k = record k { types = [] }

-- `ks` are the keywords `from` once those before `index` have lost an only type `true`, and the steps of that are added
-- to `old`, which gives `new`; the key of the keyword at `index` has the place `here`
pub record IsBareSoFar (start : ℕ) (from ks : List KeywordParts) (old new : List Step) (index here : ℕ) : Type 0 where
  pub count : length ks ≡ length from
  pub few : length (flat_map spell_keyword ks) ≤ length (flat_map spell_keyword from)
  pub here_is : here ≡ start + length (flat_map spell_keyword (take index ks)) + 1
  pub none : (k : ℕ) → k < index → ((d : KeywordParts) → IsSoleTrue (get_or ks k d)) → ⊥
  pub adds : Adds (DropsTrueBy start) (λ _ _. 0) from ks old new

module _ (start : ℕ) where
  module _ {from ks : List KeywordParts} {old new : List Step} {i here : ℕ}
      (h : IsBareSoFar start from ks old new i here) (k : KeywordParts) (within : i < length ks)
      (is : k ≡ get_or ks i k) where
    -- if the types of the keyword at the index are not exactly `true`, it stays, and one keyword more is done
    pub bare_kept : (IsSoleTrue k → ⊥) → IsBareSoFar start from ks old new (i + 1) (here + length (spell_keyword k))
    bare_kept n = record {
      count = h.count;
      few = h.few;
      here_is = omega (arith, h.here_is, flat_more spell_keyword ks i k within is);
      none = below_more _ _ h.none (λ t. n (subst IsSoleTrue (sym is) (t k)));
      adds = h.adds;
    }

    -- if the keyword at the index loses its only type, `true`, by a DropTrue step that is added, one keyword more is
    -- done
    pub bare_more : (step : Step) {newer : List Step} → IsSoleTrue k → step.kind ≡ steps.DropTrue
        → step.place ≡ here + 1 → step.number ≡ 0 → newer ≡ new ++ step ∷ []
        → IsBareSoFar start from (set ks i (bare k)) old newer (i + 1) (here + length (spell_keyword (bare k)))
    bare_more step {newer = newer} sole kind place number e =
        let less : i < length (set ks i (bare k)) = omega (arith, within, length-set ks i (bare k)) in
        let front = ap (λ l. length (flat_map spell_keyword l)) (take-set ks i (bare k)) in
        let fewer = spelled_replaced spell_keyword (take i ks) k (bare k) (drop (suc i) ks) (omega arith) in
        let whole = ap (λ l. length (flat_map spell_keyword l)) (round ks i k within is) in
        let changed = ap (λ l. length (flat_map spell_keyword l)) (set_split ks i (bare k) within) in
        record {
          count = length-set ks i (bare k) ∙ h.count;
          few = omega (arith, fewer, whole, changed, h.few);
          here_is = omega (
            arith,
            h.here_is,
            flat_more spell_keyword (set ks i (bare k)) i (bare k) less
                (sym (get_or-set_same ks i (bare k) (bare k) within)),
            front,
          );
          none = below_more _ _ (λ j l t. let ne : j ≢ i = omega (arith, l) in
              h.none j l (λ d. subst IsSoleTrue (get_or-set_other ks i j (bare k) d ne) (t d)))
              (λ t. let none : IsSoleTrue (bare k) = subst IsSoleTrue (get_or-set_same ks i (bare k) k within) (t k) in cc);
          adds = adds_more (DropsTrueBy start) (λ _ _. 0) from ks (set ks i (bare k)) old new newer step h.adds
              (record {
                leads = record {
                  of_kind = kind;
                  unnumbered = number;
                  leads = true_led start step.place ks i k within
                      (omega (arith, place, h.here_is)) is sole;
                };
                first = λ other ls s. inr (
                  refl,
                  no_further i step.place h.none (omega (arith, place, h.here_is))
                      (true_step start other.place ks ls s.leads),
                );
              }) e;
        }

  -- past the last keyword no DropTrue step leads on
  pub bare_all : {from ks : List KeywordParts} {old new : List Step} {i here : ℕ}
      → IsBareSoFar start from ks old new i here → length ks ≤ i → NoneLeads (DropsTrueBy start ks)
  bare_all {ks = ks} h all step ls s =
      let t = true_step start step.place ks ls s.leads in
      h.none t.index (omega (arith, t.within, all)) t.holds

  -- the place `here` is at most one past that of the last subtag of the keywords
  pub bare_few : {from ks : List KeywordParts} {old new : List Step} {i here : ℕ}
      → IsBareSoFar start from ks old new i here → here ≤ start + length (flat_map spell_keyword from) + 1
  bare_few {ks = ks} {i = i} h = omega (arith, h.here_is, h.few, front_few spell_keyword ks i)

-- no step of a rank below `n` leads on from the parts `p` of a `u` extension
record IsSettledBelow (start n : ℕ) (p : UForm) : Type 0 where
  attributes_unlike : 9 < n → IsUnlike text_cmp p.attributes
  attributes_rising : 10 < n → IsRising text_cmp p.attributes
  keywords_unlike : 11 < n → IsUnlike key_cmp p.keywords
  keywords_rising : 12 < n → IsRising key_cmp p.keywords
  true_nowhere : 13 < n → NoneLeads (DropsTrueBy (start + length p.attributes) p.keywords)

-- if no step of a rank below `n` leads on (`IsSettledBelow`), no step of a kind `k` with a lower rank than `n` does
refuted : (start n : ℕ) (p : UForm) → IsSettledBelow start n p → (step : Step) (q : UForm) (k : UnicodeKind)
    → u_rank k < n → Says k start p step q → ⊥
refuted start n p h step q drop_attribute l (s, e) = unlike_drops text_cmp (h.attributes_unlike l) s.leads.drops
refuted start n p h step q swap_attributes l (s, e) = rising_swaps text_cmp (h.attributes_rising l) s.leads.swaps
refuted start n p h step q drop_keyword l (s, e) = unlike_drops key_cmp (h.keywords_unlike l) s.leads.drops
refuted start n p h step q swap_keywords l (s, e) = rising_swaps key_cmp (h.keywords_rising l) s.leads.swaps
refuted start n p h step q drop_true l (s, e) = h.true_nowhere l step q.keywords s

-- A run of steps of the kind `k` on one list is a run on the parts that `g` makes of the list, if no step of a lower
-- rank leads on from these parts.
module _ {A : Type 0} (start : ℕ) (k : UnicodeKind) (Leads : A → Step → A → Type 0) (P : A → Type 0) (g : A → UForm) where
  -- a run on a list is one on the parts, if each step on the list is one of the kind on the parts and the other way
  -- round, and `P`, which steps keep, says that no step of a lower rank leads on
  lifted : ((a b : A) (step : Step) → Leads a step b → Says k start (g a) step (g b))
      → ((a : A) (step : Step) (q : UForm) → Says k start (g a) step q → (b : A) × Leads a step b)
      → ((a b : A) (step : Step) → Leads a step b → P a → P b) → ((a : A) → P a → IsSettledBelow start (u_rank k) (g a))
      → {a b : A} {old new : List Step} → P a → Adds Leads (λ _ _. 0) a b old new → P b
      × AddsOnUnicode start (g a) (g b) old new
  lifted on off keeps rest {a = from} {b = to} {old = old} {new = new} first h =
      adds_lift Leads (λ _ _. 0) (UnicodeLeads start) (λ _ step. kind_rank step) P g (λ a c step p f.
      let s = on a c step f.leads in (
        keeps a c step f.leads p,
        is_first (UnicodeLeads start (g a)) kind_rank (u_rank k) step
            (λ m l other q u r. let v = said start (g a) other q u in
            refuted start (u_rank k) (g a) (rest a p) other q v.0
            (omega (arith, l, r, in_u start (g a) other q v.0 v.1)) v.1)
            (record {
              of_rank = (in_u start (g a) step (g c) k s).0;
              to = g c;
              leads = led start (g a) step (g c) k s;
              leftmost = λ other q u r. let t = off a other q (as_kind start (g a) other q k r u) in omega (arith, f.first other t.0 t.1);
            }),
      )) from to old new first h

-- if the keys of keywords differ, they do so after one keyword loses its types
unlike_bare : (before : List KeywordParts) (k : KeywordParts) (after : List KeywordParts)
    → IsUnlike key_cmp (before ++ k ∷ after) → IsUnlike key_cmp (before ++ record k { types = [] } ∷ after)
unlike_bare [] k after h = h
unlike_bare (u ∷ us) k after h = (
  all_replaced (λ y. key_cmp y u ≡ Equal → ⊥) us k (record k { types = [] }) after h.0
      (all_middle (λ y. key_cmp y u ≡ Equal → ⊥) us k after h.0),
  unlike_bare us k after h.1,
)

-- if keywords are in the order of their keys, they are so after one keyword loses its types
rising_bare : (before : List KeywordParts) (k : KeywordParts) (after : List KeywordParts)
    → IsRising key_cmp (before ++ k ∷ after) → IsRising key_cmp (before ++ record k { types = [] } ∷ after)
rising_bare (u ∷ []) k after h = (h.0, rising_bare [] k after h.1)
rising_bare (u ∷ v ∷ vs) k after h = (h.0, rising_bare (v ∷ vs) k after h.1)
rising_bare s k after h = h

-- The runs on the lists of the parts of a `u` extension, one after another, are one run on the parts.

-- a run of steps of one kind from `a` to `b` is added, and no such step leads on from `b`
pub record AddsToRest {A : Type 0} (Leads : A → Step → A → Type 0) (a b : A) (old new : List Step) : Type 0 where
  pub adds : Adds Leads (λ _ _. 0) a b old new
  pub at_rest : NoneLeads (Leads b)

-- `xs0` to `xs2` are the attributes, `ks0` to `ks3` the keywords and `s0` to `s5` the steps so far: at the start and
-- after the steps of each kind.
module _ (start : ℕ) {xs0 xs1 xs2 : List (List ℕ)} {ks0 ks1 ks2 ks3 : List KeywordParts} {s0 s1 s2 s3 s4 s5 : List Step} where
  -- the runs of the five kinds, one after another, are one run on the parts, after which no step leads on; `key` is the
  -- place before the first key
  pub unicode_explained : (key : ℕ) → key ≡ start + length xs2
      → AddsToRest (DropsBy text_cmp one_subtag steps.DropAttribute start) xs0 xs1 s0 s1
      → AddsToRest (SwapsBy text_cmp one_subtag steps.SwapAttributes start) xs1 xs2 s1 s2
      → AddsToRest (DropsBy key_cmp spell_keyword steps.DropKeyword key) ks0 ks1 s2 s3
      → AddsToRest (SwapsBy key_cmp spell_keyword steps.SwapKeywords key) ks1 ks2 s3 s4
      → AddsToRest (DropsTrueBy key) ks2 ks3 s4 s5 → AddsOnUnicode start (u_parts xs0 ks0) (u_parts xs2 ks3) s0 s5
      × NoneLeads (UnicodeLeads start (u_parts xs2 ks3))
  unicode_explained key k a b c' d' e' =
      let c = rw k at c' in
      let d = rw k at d' in
      let e = rw k at e' in
      let first =
      lifted start drop_attribute (DropsBy text_cmp one_subtag steps.DropAttribute start) (λ _. Unit {0})
      (λ xs. u_parts xs ks0) (λ a b step s. (s, refl)) (λ a step q s. (q.attributes, s.0))
      (λ a b step s p. tt) (λ a p. grind arith) tt a.adds in
      let second =
      lifted start swap_attributes (SwapsBy text_cmp one_subtag steps.SwapAttributes start) (IsUnlike text_cmp)
      (λ xs. u_parts xs ks0) (λ a b step s. (s, refl)) (λ a step q s. (q.attributes, s.0))
      (λ a b step s p. swaps_keep_unlike text_total s p) (λ a p. grind arith) (unlike_at_rest a.at_rest) b.adds in
      let unlike = second.0 in
      let rising = rising_at_rest b.at_rest in
      let third =
      lifted start drop_keyword (DropsBy key_cmp spell_keyword steps.DropKeyword (start + length xs2)) (λ _. Unit {0})
      (u_parts xs2) (λ a b step s. (s, refl)) (λ a step q s. (q.keywords, s.0))
      (λ a b step s p. tt) (λ a p. grind arith) tt c.adds in
      let fourth =
      lifted start swap_keywords (SwapsBy key_cmp spell_keyword steps.SwapKeywords (start + length xs2))
      (IsUnlike key_cmp) (u_parts xs2) (λ a b step s. (s, refl)) (λ a step q s. (q.keywords, s.0))
      (λ a b step s p. swaps_keep_unlike key_total s p) (λ a p. grind arith) (unlike_at_rest c.at_rest) d.adds in
      let fifth =
      lifted start drop_true (DropsTrueBy (start + length xs2)) (λ ks. IsUnlike key_cmp ks × IsRising key_cmp ks)
      (u_parts xs2) (λ a b step s. (s, refl)) (λ a step q s. (q.keywords, s.0))
      (λ a b step s p.
      let l = s.leads in
      let p = subst (λ ks. IsUnlike key_cmp ks × IsRising key_cmp ks) l.drops.there p in
      subst (λ ks. IsUnlike key_cmp ks × IsRising key_cmp ks) (sym l.drops.result)
      (unlike_bare l.before l.keyword l.after p.0, rising_bare l.before l.keyword l.after p.1))
      (λ a p. grind arith) (fourth.0, rising_at_rest d.at_rest) e.adds in
      let all = adds_all (UnicodeLeads start) (λ _ step. kind_rank step) in (
        all _ _ _ _ _ _ (all _ _ _ _ _ _ (all _ _ _ _ _ _ (all _ _ _ _ _ _ first.1 second.1) third.1) fourth.1) fifth.1,
        λ step q l.
            let s = said start (u_parts xs2 ks3) step q l in
            refuted start 14 (u_parts xs2 ks3)
            (record {
              attributes_unlike = λ _. unlike;
              attributes_rising = λ _. rising;
              keywords_unlike = λ _.
                  fifth.0.0;
              keywords_rising = λ _. fifth.0.1;
              true_nowhere = λ _. e.at_rest;
            })
            step q s.0 (omega (arith, in_u start (u_parts xs2 ks3) step q s.0 s.1)) s.1,
      )

-- A step that is the first on the source of a `t` extension is the first on its parts. So is a step that is the first
-- on its fields, if the source is at rest: no step leads on from it.

-- the parts of a `t` extension: its source and its fields
abbrev pub t_parts : Option CoreParts → List FieldParts → TForm
t_parts source fields = record { source = source; fields = fields }

-- no step leads on from the source, if there is one
abbrev pub IsSourceAtRest : List EntryParts → ℕ → Option CoreParts → Type 0
IsSourceAtRest R start source = (c : CoreParts) → source ≡ Some c → NoneLeads (CoreLeads R start c)

module _ (R : List EntryParts) (start : ℕ) (source : Option CoreParts) where
  -- the SwapFields step leads from one list of fields, which begin after the source, to another
  abbrev FieldSwaps : List FieldParts → Step → List FieldParts → Type 0
  FieldSwaps = SwapsBy separator_cmp spell_field steps.SwapFields (start + length (spell_source source))

  -- if no step leads on from the source, a step on the parts is a swap of fields
  as_fields : IsSourceAtRest R start source → (fs : List FieldParts) (step : Step) (q : TForm)
      → TransformLeads R start (t_parts source fs) step q → FieldSwaps fs step q.fields
  as_fields rest fs step q (on_source c d from _ s _, h) = absurd (rest c from step d (s, h))
  as_fields rest fs step q (on_fields e s, h) = as_swap separator_cmp steps.SwapFields spell_field
      (start + length (spell_source source)) fs q.fields step s h

  -- if no step leads on from the source or from the fields, none leads on from the parts
  pub transform_rests : (fs : List FieldParts) → IsSourceAtRest R start source
      → NoneLeads (SwapsBy separator_cmp spell_field steps.SwapFields (start + length (spell_source source)) fs)
      → NoneLeads (TransformLeads R start (t_parts source fs))
  transform_rests fs rest none step q l = none step q.fields (as_fields rest fs step q l)

  -- a run on the fields that is added is a run on the parts, if the source is at rest
  pub fields_explained : {fs gs : List FieldParts} {old new : List Step} → IsSourceAtRest R start source
      → Adds (SwapsBy separator_cmp spell_field steps.SwapFields (start + length (spell_source source))) (λ _ _.
      0) fs gs old new → AddsOnTransform R start (t_parts source fs) (t_parts source gs) old new
  fields_explained {fs = fs} {gs = gs} {old = old} {new = new} rest h =
      (adds_lift FieldSwaps (λ _ _. 0) (TransformLeads R start) (λ _ step. kind_rank step) (λ _. Unit {0}) (t_parts source)
      (λ a b step p f.
      let d = to_swap separator_cmp steps.SwapFields spell_field (start + length (spell_source source)) a b step f.leads in (
        tt,
        record {
          leads = (on_fields refl d.0, d.1);
          first = λ other q m.
              let s = as_fields rest a other q m in
              inr (ap rank_of f.leads.of_kind ∙ sym (ap rank_of s.of_kind), omega (arith, f.first other q.fields s));
        },
      )) fs gs old new tt h).1

module _ (R : List EntryParts) (start : ℕ) where
  -- the first step on the source comes no later than any step on the parts
  source_no_later : (c d : CoreParts) (fs : List FieldParts) (step : Step)
      → IsFirst (CoreLeads R start c) kind_rank step d → (other : Step) (q : TForm)
      → TransformLeads R start (t_parts (Some c) fs) other q → IsNoLater kind_rank step other
  source_no_later c d fs step h other q (on_source b a from _ s _, k) =
      h.first other a (subst (λ x. CoreLeads R start x other a) (sym (same_Some c b from)) (s, k))
  source_no_later c d fs step h other q (on_fields f s, k) =
      inl (omega (
        arith,
        core_rank R start c d h.leads.0,
        ap kind_rank h.leads.1,
        ap rank_of (as_swap separator_cmp steps.SwapFields spell_field _ fs q.fields other s k).of_kind,
      ))

  -- a run on the source that is added is a run on the parts
  pub source_explained : (c d : CoreParts) (fs : List FieldParts) (old new : List Step) → AddsOnCore R start c d old new
      → AddsOnTransform R start (t_parts (Some c) fs) (t_parts (Some d) fs) old new
  source_explained c d fs old new h =
      (adds_lift (CoreLeads R start) (λ _ step. kind_rank step) (TransformLeads R start) (λ _ step. kind_rank step)
      (λ _. Unit {0}) (λ x. t_parts (Some x) fs)
      (λ a b step p f. (
        tt,
        record {
          leads = (on_source a b refl refl f.leads.0 refl, f.leads.1);
          first = source_no_later a b fs step
              f;
        },
      )) c d old new tt h).1

-- a run from `a` to `b` is any number of steps by `S`, if each step of a run is one by `S`
pub run_star : {A : Type 0} (Leads : A → Step → A → Type 0) (rank : A → Step → ℕ) (S : A → A → Type 0)
    → ((a b : A) (step : Step) → Leads a step b → S a b) → (steps : List Step) (a b : A) → IsRun Leads rank a steps b
    → Star S a b
run_star Leads rank S f [] a b h = star_path a b h
run_star Leads rank S f (step ∷ steps) a b h = then (f a h.0 step h.1.leads) (run_star Leads rank S f steps h.0 b h.2)
