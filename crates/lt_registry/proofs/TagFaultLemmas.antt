-- What `validate` and `proper` need: the check of a tag, which goes over the core and the extensions from left to
-- right, answers the first of the faults that `HasFault` states. A fault *counts* unless it is DuplicateVariant and
-- variants may repeat.
use Rattle.std.proofs.Common.{◌≡◌, ℕ, ◌+◌, ◌<◌, ◌≤◌, Bool, true, false, inl, inr, List, [], ◌∷◌, ◌++◌, length, take}
use Rattle.std.proofs.Common.{drop, get_or, refl, sym, subst, arith, ◌||◌, eqb, ◌⊎◌, ap, ◌∙◌, length-append}
use Rattle.std.proofs.Common.{append_assoc}
use Rattle.std.specs.Prelude.{Result, Ok, Err, Some}
use Rattle.std.proofs.Math.Bool.{or-true}
use Rattle.std.proofs.lemmas.List.{append-nil, drop_all}
use Rattle.std.proofs.lemmas.Bool.{or_cases, eqb-true, eq-eqb}
use Rattle.lt_tag.specs.Parts.{ExtensionParts, CoreParts, TagForm, LangTag}
use Rattle.lt_tag.specs.Extensions.{transform}
use Rattle.lt_tag.specs.Spelling.{spell_core, spell_extensions}
use Rattle.lt_tag.specs.Values.{core_of, extensions_of}
use Rattle.lt_registry.specs.Parts.{EntryParts}
use Rattle.lt_registry.specs.Faults.{rank_of, IsFirstOf, HasTransform, HasCoreFault, HasExtensionFault, HasFault}
use Rattle.lt_registry.specs.Faults.{IsFaultOfExtension, IsSecondSingleton}
use Rattle.lt_registry.specs.Checking.{Counted, TellsOrLacks, HeadFault, ListFault, has_singleton, Tells, core_check}
use Rattle.lt_registry.specs.declared.faults.ValidFaultKind.{ValidFaultKind}
use Rattle.lt_registry.specs.declared.faults.ValidRefusal.{ValidRefusal}
use Rattle.lt_registry.specs.declared.faults.ValidFault.{ValidFault}
use Rattle.lt_registry.specs.declared.faults.ValidFaultKind.TheVariants as faults
use Rattle.lt_registry.specs.declared.faults.ValidRefusal.TheVariants as refusals
use Rattle.lt_registry.proofs.ListLemmas.{drop_turn, take_turn, whole_turn}
use Rattle.lt_registry.proofs.VariantFaultLemmas.{Faults, Or, SameFaults, precede_by, Past, first_same, first_left}
use Rattle.lt_registry.proofs.VariantFaultLemmas.{same_trans, same_back, same_counted, counted_or, same_second}
use Rattle.lt_registry.proofs.VariantFaultLemmas.{tells_or_lacks_same}
use Rattle.lt_registry.proofs.CoreFaultLemmas.{ExtensionFault, fault_at, CoreFault, core_tells, core_upto, length_core}

-- The faults of extensions, one after another.

-- a fault of the extension whose singleton is at `here` is at the singleton or at one of the subtags after it
head_from : (R : List EntryParts) (here : ℕ) (before : List ExtensionParts) (e : ExtensionParts) (k : ValidFaultKind) (p
    : ℕ) → HeadFault R here before e k p → (here ≤ p) × (p ≤ here + length e.subtags)
head_from R here before e k p (inl d) = (omega (arith, d.1), omega (arith, d.1))
head_from R here before e k p (inr f) =
    elim (fault_at R here e k p f) [
      | inl a ↦ (omega (arith, a.1), omega (arith, a.1))
      | inr a ↦ (omega (arith, a.0), a.1)
    ]

-- a fault of extensions, the first of which has its singleton at `here`, is not before that
pub list_from : (R : List EntryParts) (here : ℕ) (before es : List ExtensionParts) (k : ValidFaultKind) (p : ℕ)
    → ListFault R here before es k p → here ≤ p
unfolding ListFault
list_from R here before [] k p f = absurd f
list_from R here before (e ∷ after) k p (inl f) = (head_from R here before e k p f).0
list_from R here before (e ∷ after) k p (inr f) = let l = list_from R (here + (1 + length e.subtags)) (before ++ e ∷ [])
    after k p f in omega (arith, l)

-- the faults of the extensions from the index `i` on are those of the extension there and those of the extensions after
-- it
pub turn : (R : List EntryParts) (here : ℕ) (es : List ExtensionParts) (i : ℕ) (e : ExtensionParts) → i < length es
    → e ≡ get_or es i e
    → SameFaults (ListFault R here (take i es) (drop i es)) (Or (HeadFault R here (take i es) e)
    (ListFault R (here + (1 + length e.subtags)) (take (i + 1) es) (drop (i + 1) es)))
unfolding ListFault
turn R here es i e l is = rw (drop_turn es i e l is, take_turn es i e l is) (record { there = λ k p f. f; back = λ k p f. f })

-- a singleton that occurs again is reported before the other faults of its extension and before later ones, `G`
dup_first : (R : List EntryParts) (r : Bool) (here : ℕ) (before : List ExtensionParts) (e : ExtensionParts) (G : Faults)
    → Past here G → has_singleton before e.singleton ≡ true
    → IsFirstOf (Counted r (Or (HeadFault R here before e) G)) faults.DuplicateSingleton here
dup_first R r here before e G past again = record {
  there = (inl (inl (refl, refl, again)), λ t z. cc);
  leftmost = λ l q f. elim f.0 [ inl h ↦ (head_from R here before e l q h).0 | inr g ↦ let a = past l q g in omega (arith, a) ];
  earliest = λ l f. elim f.0 [ inl h ↦ ranked l h | inr g ↦ let a = past l here g in absurd (omega (arith, a)) ];
}
  where
    -- a fault at the extension's singleton has at least the rank of DuplicateSingleton, 8
    ranked : (l : ValidFaultKind) → HeadFault R here before e l here → 8 ≤ rank_of l
    ranked l (inl d) = subst (λ z. 8 ≤ rank_of z) (sym d.0) (omega arith)
    ranked l (inr f) =
        elim (fault_at R here e l here f) [
          | inl a ↦ subst (λ z. 8 ≤ rank_of z) (sym a.0) (omega arith)
          | inr a ↦ absurd (omega (arith, a.0))
        ]

-- the faults of further extensions are past the subtags of the extension before them
rest_past : (R : List EntryParts) (here : ℕ) (before after : List ExtensionParts) (e : ExtensionParts)
    → Past (here + length e.subtags) (ListFault R (here + (1 + length e.subtags)) before after)
rest_past R here before after e k p f = let l = list_from R (here + (1 + length e.subtags)) before after k p f in omega (arith, l)

-- if no extension before has the singleton, the faults of an extension are those of its form and its source
same_head : (R : List EntryParts) (r : Bool) (here : ℕ) (before : List ExtensionParts) (e : ExtensionParts)
    → has_singleton before e.singleton ≡ false
    → SameFaults (ExtensionFault R r here e) (Counted r (HeadFault R here before e))
same_head R r here before e new = record {
  there = λ k p f. (inr f.0, f.1);
  back = λ k p f. elim f.0 [ inl d ↦ (let bad : true ≡ false = sym d.2 ∙ new in cc) | inr h ↦ (h, f.1) ];
}

-- if no extension before has the singleton, the first fault of an extension is the first of it and of later faults, `G`
ext_first : (R : List EntryParts) (r : Bool) (here : ℕ) (before : List ExtensionParts) (e : ExtensionParts) (G
    : Faults) (k : ValidFaultKind) (p : ℕ) → Past (here + length e.subtags) G → has_singleton before e.singleton ≡ false
    → IsFirstOf (ExtensionFault R r here e) k p → IsFirstOf (Counted r (Or (HeadFault R here before e) G)) k p
ext_first R r here before e G k p past new first =
    first_same (Or (Counted r (HeadFault R here before e)) (Counted r G)) (Counted r (Or (HeadFault R here before e) G))
    k p (counted_or r (HeadFault R here before e) G)
    (first_left (Counted r (HeadFault R here before e)) (Counted r G) k p
    (precede_by (Counted r (HeadFault R here before e)) (Counted r G) (here + length e.subtags)
    (λ l q f. (head_from R here before e l q f.0).1) (λ l q f. past l q f.0))
    (first_same (ExtensionFault R r here e) (Counted r (HeadFault R here before e)) k p (same_head R r here before e new) first))

-- the loop over the extensions `es`, the first of which has its singleton at `first`; `r` is whether variants may
-- repeat
module _ (R : List EntryParts) (r : Bool) (first : ℕ) (es : List ExtensionParts) where
  -- the faults of all extensions that count
  abbrev pub Whole : ValidFaultKind → ℕ → Type 0
  Whole = Counted r (ListFault R first [] es)

  -- the faults that count of the extensions from the index `i` on, the first of which has its singleton at `here`
  abbrev pub From : ℕ → ℕ → ValidFaultKind → ℕ → Type 0
  From here i = Counted r (ListFault R here (take i es) (drop i es))

  -- if the first `i` extensions have no fault, the faults are those of the next and those of the extensions after it
  turned : (here i : ℕ) (e : ExtensionParts) → i < length es → e ≡ get_or es i e → SameFaults Whole (From here i)
      → SameFaults Whole (Counted r
      (Or (HeadFault R here (take i es) e) (ListFault R (here + (1 + length e.subtags)) (take (i + 1) es)
      (drop (i + 1) es))))
  turned here i e l is so_far =
      same_trans Whole (From here i)
      (Counted r
      (Or (HeadFault R here (take i es) e) (ListFault R (here + (1 + length e.subtags)) (take (i + 1) es)
      (drop (i + 1) es)))) so_far
      (same_counted r (ListFault R here (take i es) (drop i es))
      (Or (HeadFault R here (take i es) e) (ListFault R (here + (1 + length e.subtags)) (take (i + 1) es)
      (drop (i + 1) es))) (turn R here es i e l is))

  -- if the next extension has a singleton that was before, the first fault is that it occurs again
  pub told_duplicate : (here i : ℕ) (e : ExtensionParts) → i < length es → e ≡ get_or es i e
      → SameFaults Whole (From here i) → has_singleton (take i es) e.singleton ≡ true
      → IsFirstOf Whole faults.DuplicateSingleton here
  told_duplicate here i e l is so_far again =
      let G : Faults = ListFault R (here + (1 + length e.subtags)) (take (i + 1) es) (drop (i + 1) es) in
      let past : Past here G = λ k p f. let a = rest_past R here (take (i + 1) es) (drop (i + 1) es) e k p f in omega (arith, a) in
      first_same (Counted r (Or (HeadFault R here (take i es) e) G)) Whole faults.DuplicateSingleton here
      (same_back Whole (Counted r (Or (HeadFault R here (take i es) e) G)) (turned here i e l is so_far))
      (dup_first R r here (take i es) e G past again)

  -- if the next extension's singleton is new and its check refuses it (`a`), the refusal is that of all extensions
  pub told_extension : (here i : ℕ) (e : ExtensionParts) (a : Result (Unit {0}) ValidRefusal) (refusal : ValidRefusal)
      → i < length es → e ≡ get_or es i e → SameFaults Whole (From here i) → has_singleton (take i es) e.singleton
      ≡ false → a ≡ Err refusal → TellsOrLacks (ExtensionFault R r here e) (e.singleton ≡ transform) a
      → TellsOrLacks Whole (HasTransform es) (Err refusal)
  told_extension here i e a refusal l is so_far new was told = by refusal
      (subst (TellsOrLacks (ExtensionFault R r here e) (e.singleton ≡ transform)) was told)
    where
      by : (x : ValidRefusal) → TellsOrLacks (ExtensionFault R r here e) (e.singleton ≡ transform) (Err x)
          → TellsOrLacks Whole (HasTransform es) (Err x)
      by (refusals.Fault fault) told' =
          let G : Faults = ListFault R (here + (1 + length e.subtags)) (take (i + 1) es) (drop (i + 1) es) in
          first_same (Counted r (Or (HeadFault R here (take i es) e) G)) Whole fault.kind fault.place
          (same_back Whole (Counted r (Or (HeadFault R here (take i es) e) G)) (turned here i e l is so_far))
          (ext_first R r here (take i es) e G fault.kind fault.place (rest_past R here (take (i + 1) es) (drop (i + 1) es) e) new told')
      by refusals.OutOfMemory told' = (take i es, e, drop (i + 1) es, whole_turn es i e l is, told')

  -- if the next extension's singleton is new and it passes (`a`), the first `i + 1` extensions have no fault
  pub stepped : (here i : ℕ) (e : ExtensionParts) (a : Result (Unit {0}) ValidRefusal) → i < length es
      → e ≡ get_or es i e → SameFaults Whole (From here i) → has_singleton (take i es) e.singleton ≡ false → a ≡ Ok tt
      → TellsOrLacks (ExtensionFault R r here e) (e.singleton ≡ transform) a
      → SameFaults Whole (From (here + (1 + length e.subtags)) (i + 1))
  stepped here i e a l is so_far new was told =
      let G : Faults = ListFault R (here + (1 + length e.subtags)) (take (i + 1) es) (drop (i + 1) es) in
      let H : Faults = HeadFault R here (take i es) e in
      let none : (k : ValidFaultKind) (p : ℕ) → Counted r H k p
      → ⊥ = λ k p f. (subst (TellsOrLacks (ExtensionFault R r here e) (e.singleton ≡ transform)) was told) k p
      ((same_head R r here (take i es) e new).back k p f) in
      same_trans Whole (Counted r (Or H G)) (Counted r G) (turned here i e l is so_far)
      (same_trans (Counted r (Or H G)) (Or (Counted r H) (Counted r G)) (Counted r G)
      (same_back (Or (Counted r H) (Counted r G)) (Counted r (Or H G)) (counted_or r H G))
      (same_second (Counted r H) (Counted r G) none))

  -- past the last extension there is no fault
  pub all_told : (here i : ℕ) → length es ≤ i → SameFaults Whole (From here i) → (k : ValidFaultKind) (p : ℕ) → Whole k p → ⊥
  unfolding ListFault
  all_told here i l so_far k p f = subst (λ zs. ListFault R here (take i es) zs k p) (drop_all i es l) (so_far.there k p f).0

-- The faults of a tag are those of its core and of its extensions from left to right.

-- if a singleton is found among extensions, they are split by an extension that has it
one_singleton : (front : List ExtensionParts) (s : ℕ) → has_singleton front s ≡ true → (b : List ExtensionParts)
    × (f : ExtensionParts) × (c : List ExtensionParts) × (front ≡ b ++ f ∷ c) × (f.singleton ≡ s)
one_singleton [] s h = cc
one_singleton (f ∷ fs) s h =
    elim (or_cases (eqb f.singleton s) (has_singleton fs s) h) [
      | inl e ↦ ([], f, fs, refl, eqb-true f.singleton s e)
      | inr e ↦ let r = one_singleton fs s e in (f ∷ r.0, r.1, r.2, ap (λ ws. f ∷ ws) r.3, r.4)
    ]

-- the singleton of an extension is found among others with that extension between them
singleton_there : (b c : List ExtensionParts) (f : ExtensionParts) (s : ℕ) → f.singleton ≡ s → has_singleton (b ++ f ∷ c) s ≡ true
singleton_there [] c f s e = ap (λ x. x || has_singleton c s) (eq-eqb f.singleton s e)
singleton_there (u ∷ b) c f s e = ap (λ x. eqb u.singleton s || x) (singleton_there b c f s e) ∙ or-true (eqb u.singleton s)

-- an extension more, in front, is one singleton and its subtags more
length_more : (u : ExtensionParts) (front : List ExtensionParts) → length (spell_extensions (u ∷ front))
    ≡ 1 + length u.subtags + length (spell_extensions front)
length_more u front = let a = length-append u.subtags (spell_extensions front) in omega (arith, a)

-- the fault `k` at `p` is one of an extension of `es`, the first of which has its singleton at `here` and comes after
-- those of `before`
record IsHeadAt (R : List EntryParts) (here : ℕ) (before es : List ExtensionParts) (k : ValidFaultKind) (p : ℕ) : Type 0 where
  front : List ExtensionParts
  extension : ExtensionParts
  after : List ExtensionParts
  there : es ≡ front ++ extension ∷ after
  fault : HeadFault R (here + length (spell_extensions front)) (before ++ front) extension k p

-- a fault of an extension stays one if its place and the list before it are replaced by equal ones
moved : (R : List EntryParts) (e : ExtensionParts) (k : ValidFaultKind) (p : ℕ) {m n : ℕ} {bs cs : List ExtensionParts}
    → m ≡ n → bs ≡ cs → HeadFault R m bs e k p → HeadFault R n cs e k p
moved R e k p {m} {n} {bs} {cs} number front f = subst (λ z. HeadFault R z cs e k p) number (subst (λ z. HeadFault R m z e k p) front f)

-- a fault of a list of extensions is one of an extension in the list
shown : (R : List EntryParts) (here : ℕ) (before es : List ExtensionParts) (k : ValidFaultKind) (p : ℕ)
    → ListFault R here before es k p → IsHeadAt R here before es k p
unfolding ListFault
shown R here before [] k p f = absurd f
shown R here before (e ∷ after) k p (inl f) =
    let same : here ≡ here + 0 = omega arith in
    record { front = []; extension = e; after = after; there = refl; fault = moved R e k p same (sym (append-nil before)) f }
shown R here before (e ∷ after) k p (inr f) =
    let at = shown R (here + (1 + length e.subtags)) (before ++ e ∷ []) after k p f in
    let same : here + (1 + length e.subtags) + length (spell_extensions at.front)
    ≡ here + length (spell_extensions (e ∷ at.front)) = omega (arith, length_more e at.front) in
    record {
      front = e ∷ at.front;
      extension = at.extension;
      after = at.after;
      there = ap (λ ws. e ∷ ws) at.there;
      fault = moved R at.extension k p same (append_assoc before (e ∷ []) at.front) at.fault;
    }

-- a fault of an extension is one of the list that the extension is in
hidden : (R : List EntryParts) (here : ℕ) (before front : List ExtensionParts) (e : ExtensionParts) (after : List
    ExtensionParts) (k : ValidFaultKind) (p : ℕ)
    → HeadFault R (here + length (spell_extensions front)) (before ++ front) e k p
    → ListFault R here before (front ++ e ∷ after) k p
unfolding ListFault
hidden R here before [] e after k p f =
    let same : here + 0 ≡ here = omega arith in
    inl (moved R e k p same (append-nil before) f)
hidden R here before (u ∷ front) e after k p f =
    let same : here + length (spell_extensions (u ∷ front)) ≡ here + (1 + length u.subtags)
    + length (spell_extensions front) = omega (arith, length_more u front) in
    inr (hidden R (here + (1 + length u.subtags)) (before ++ u ∷ []) front e after k p
    (moved R e k p same (sym (append_assoc before (u ∷ []) front)) f))

-- the faults of a langtag with the core `c` and the extensions `es`
module _ (R : List EntryParts) (c : CoreParts) (es : List ExtensionParts) where
  -- the place of the first extension's singleton
  abbrev pub first : ℕ
  first = length (spell_core c) + 1

  -- the faults of the extensions, as `HasFault` states them
  abbrev pub Extensions : ValidFaultKind → ℕ → Type 0
  Extensions k p = IsFaultOfExtension R c es k p ⊎ ((k ≡ faults.DuplicateSingleton) × IsSecondSingleton c es p)

  -- a fault that `ListFault` computes from left to right is one as `HasFault` states it
  list_shown : (k : ValidFaultKind) (p : ℕ) → ListFault R first [] es k p → Extensions k p
  list_shown k p f =
      let at = shown R first [] es k p f in
      elim at.fault [
        | inl d ↦
            let two = one_singleton at.front at.extension.singleton d.2 in
            let split : es ≡ two.0 ++ two.1 ∷ (two.2 ++ at.extension ∷ at.after) = at.there
            ∙ ap (λ ws. ws ++ at.extension ∷ at.after) two.3
            ∙ append_assoc two.0 (two.1 ∷ two.2) (at.extension ∷ at.after) in
            let long : length (spell_extensions at.front) ≡ length (spell_extensions (two.0 ++ two.1 ∷ two.2)) =
            ap (λ ws. length (spell_extensions ws)) two.3 in
            inr (
              d.0,
              record {
                before = two.0;
                first = two.1;
                between = two.2;
                second = at.extension;
                after = at.after;
                there = split;
                alike = two.4;
                here = omega (arith, long, d.1);
              },
            )
        | inr h ↦
            let same : first + length (spell_extensions at.front)
            ≡ length (spell_core c) + length (spell_extensions at.front) + 1 = omega arith in
            inl (record {
              before = at.front;
              extension = at.extension;
              after = at.after;
              there = at.there;
              fault = subst (λ z. HasExtensionFault R z at.extension k p) same h;
            })
      ]

  -- a fault as `HasFault` states it is one that `ListFault` computes from left to right
  list_hidden : (k : ValidFaultKind) (p : ℕ) → Extensions k p → ListFault R first [] es k p
  list_hidden k p (inl a) =
      let same : length (spell_core c) + length (spell_extensions a.before) + 1
      ≡ first + length (spell_extensions a.before) = omega arith in
      subst (λ z. ListFault R first [] z k p) (sym a.there)
      (hidden R first [] a.before a.extension a.after k p (inr (subst (λ z. HasExtensionFault R z a.extension k p) same a.fault)))
  list_hidden k p (inr a) =
      let split : es ≡ (a.1.before ++ a.1.first ∷ a.1.between) ++ a.1.second ∷ a.1.after = a.1.there
      ∙ sym (append_assoc a.1.before (a.1.first ∷ a.1.between) (a.1.second ∷ a.1.after)) in
      subst (λ z. ListFault R first [] z k p) (sym split)
      (hidden R first [] (a.1.before ++ a.1.first ∷ a.1.between) a.1.second a.1.after k p
      (inl (
        a.0,
        omega (arith, a.1.here),
        singleton_there a.1.before a.1.between a.1.first a.1.second.singleton
            a.1.alike,
      )))

  -- the faults of core and extensions are the same, computed from left to right or as `HasFault` states them
  parted : SameFaults (Or (HasCoreFault R 0 c) (ListFault R first [] es)) (Or (HasCoreFault R 0 c) Extensions)
  parted = record {
    there = λ k p f. elim f [ inl h ↦ inl h | inr h ↦ inr (list_shown k p h) ];
    back = λ k p f. elim f [ inl h ↦ inl h | inr h ↦ inr (list_hidden k p h) ];
  }

  -- the faults that count; `r` is whether variants may repeat
  module _ (r : Bool) where
    -- the faults that count of the core, and of the extensions as `ListFault` computes them from left to right
    abbrev CoreList : ValidFaultKind → ℕ → Type 0
    CoreList = Or (CoreFault R r 0 c) (Counted r (ListFault R first [] es))

    -- the faults that count of the core and of the extensions, as `HasFault` states them
    abbrev TagFault : ValidFaultKind → ℕ → Type 0
    TagFault = Counted r (Or (HasCoreFault R 0 c) Extensions)

    -- the faults that count are the same, computed from left to right or as `HasFault` states them
    both_parts : SameFaults CoreList TagFault
    both_parts =
        same_trans CoreList (Counted r (Or (HasCoreFault R 0 c) (ListFault R first [] es))) TagFault
        (counted_or r (HasCoreFault R 0 c) (ListFault R first [] es))
        (same_counted r (Or (HasCoreFault R 0 c) (ListFault R first [] es)) (Or (HasCoreFault R 0 c) Extensions) parted)

    -- a fault that the core's check answers is the tag's first
    core_first : (fault : ValidFault) → core_check R r 0 c ≡ Err fault → IsFirstOf TagFault fault.kind fault.place
    core_first fault told =
        let long = length_core c in
        first_same CoreList TagFault fault.kind fault.place both_parts
        (first_left (CoreFault R r 0 c) (Counted r (ListFault R first [] es)) fault.kind fault.place
        (precede_by (CoreFault R r 0 c) (Counted r (ListFault R first [] es)) (length (spell_core c))
        (λ k p f. let l = core_upto R r 0 c k p f in omega (arith, l, long))
        (λ k p f. let l = list_from R first [] es k p f.0 in omega (arith, l)))
        (subst (Tells (CoreFault R r 0 c)) told (core_tells R r 0 c)))

    -- if the core passes, what the check of the extensions answers (`a`) is right for the tag; `M` says when memory may
    -- run out
    extensions_told : (M : Type 0) (a : Result (Unit {0}) ValidRefusal) → core_check R r 0 c ≡ Ok tt
        → TellsOrLacks (Counted r (ListFault R first [] es)) M a → TellsOrLacks TagFault M a
    extensions_told M a told t =
        let none : (k : ValidFaultKind) (p : ℕ) → CoreFault R r 0 c k p → ⊥ = subst (Tells (CoreFault R r 0 c)) told (core_tells R r 0 c) in
        tells_or_lacks_same (Counted r (ListFault R first [] es)) TagFault M a
        (same_trans (Counted r (ListFault R first [] es)) CoreList TagFault
        (same_back CoreList (Counted r (ListFault R first [] es))
        (same_second (CoreFault R r 0 c) (Counted r (ListFault R first [] es)) none)) both_parts) t

-- a fault that the core's check answers is the first fault of the tag `t` that counts
pub tag_core_first : (R : List EntryParts) (r : Bool) (t : TagForm) (c : CoreParts) (fault : ValidFault)
    → Some c ≡ core_of t → core_check R r 0 c ≡ Err fault → IsFirstOf (Counted r (HasFault R t)) fault.kind fault.place
tag_core_first R r (LangTag d es ps) c fault is told =
    let same : c ≡ d = cc in
    core_first R d es r fault (ap (core_check R r 0) (sym same) ∙ told)
tag_core_first R r _ c fault is told = cc

-- if the core passes, what the check of the extensions answers (`a`) is right for the tag `t`; `M` says when memory may
-- run out
pub tag_extensions_told : (R : List EntryParts) (r : Bool) (t : TagForm) (c : CoreParts) (M : Type 0) (a : Result
    (Unit {0}) ValidRefusal) → Some c ≡ core_of t → core_check R r 0 c ≡ Ok tt
    → TellsOrLacks (Counted r (ListFault R (length (spell_core c) + 1) [] (extensions_of t))) M a
    → TellsOrLacks (Counted r (HasFault R t)) M a
tag_extensions_told R r (LangTag d es ps) c M a is told t =
    let same : c ≡ d = cc in
    extensions_told R d es r M a (ap (core_check R r 0) (sym same) ∙ told)
    (subst (λ z. TellsOrLacks (Counted r (ListFault R (length (spell_core z) + 1) [] es)) M a) same t)
tag_extensions_told R r _ c M a is told t = cc
