-- Each text has a tag or a fault, never both, and one fault at most, running out of memory aside: the laws of
-- `reading_laws`. A *cause* is such a fault with its reason: too many bytes, a piece that is no subtag, or a list that
-- no tag spells.
use Rattle.std.proofs.Common.{◌≡◌, ℕ, ◌≤◌, ◌<◌, ◌+◌, ◌-◌, List, [], length, refl, sym, ap, subst, ◌∙◌, arith, inl, inr}
use Rattle.std.proofs.Common.{◌⊎◌, zero, suc, ◌∷◌, ◌++◌}
use Rattle.std.specs.Prelude.{Result, Ok, Err, Option, Some, None}
use Rattle.std.proofs.lemmas.List.{take_all, append_assoc, append-nil, length_push, length-map}
use Rattle.std.proofs.lemmas.Bool.{cases_lt, cases_eq}
use Rattle.std.specs.List.{list_all}
use Rattle.lt_subtag.specs.Bytes.{is_subtag, folded}
use Rattle.lt_subtag.specs.declared.SubtagFault.{SubtagFault}
use Rattle.lt_tag.specs.declared.faults.TagFaultKind.{TagFaultKind}
use Rattle.lt_tag.specs.Parts.{TagForm, LangTag, PrivateUse, Grandfathered}
use Rattle.lt_tag.specs.Lists.{pieces, list_of, longest_text}
use Rattle.lt_tag.specs.Listing.{kind_of, listed}
use Rattle.lt_tag.specs.WellFormed.{spell, IsTag, IsWellFormed, Begins, IsFirstMisplaced, IsShaped, IsNotGrandfathered}
use Rattle.lt_tag.specs.Faults.{IsFault, IsFirstBadPiece, HasList, HasBadList, HasFault, HasTag}
use Rattle.lt_tag.proofs.DraftLemmas.{draft_of}
use Rattle.lt_tag.proofs.MisplacedLemmas.{Begins-take, draft_is, finished_is, unfinished, refused, bad_language}
use Rattle.lt_tag.proofs.MisplacedLemmas.{of_first, of_more, bad_list, misplaced_behind}
use Rattle.lt_tag.proofs.LetterLemmas.{to_HasList}
use Rattle.lt_tag.proofs.ShapeLemmas.{tag_subtags}
use Rattle.lt_tag.specs.declared.faults.TagFault.{TagFault}
use Rattle.lt_tag.specs.Grandfathered.{grandfathered_list, IsGrandfathered}
use Rattle.lt_tag.specs.Draft.{Draft, begun, drafted, finished}
use Rattle.lt_tag.proofs.ListedLemmas.{listed-Err}
use Rattle.lt_tag.proofs.TextLemmas.{piece_fault, text_list, some_pieces}
use Rattle.lt_subtag.specs.declared.SubtagFault.TheVariants as subtag_faults
use Rattle.lt_tag.specs.declared.faults.TagFaultKind.TheVariants as kinds

-- why no tag spells a list, by kind and place: the first subtag is misplaced, a later one is, or the list begins a tag
-- and ends too early
data ListCause (list : List (List ℕ)) : TagFaultKind → ℕ → Type 0 where
  first : IsFirstMisplaced list 1 → ListCause list kinds.BadLanguage 1
  later : (place : ℕ) → IsFirstMisplaced list place → 1 < place → ListCause list kinds.Misplaced place
  end : Begins list → ListCause list kinds.Unfinished (length list + 1)

-- why a text is no tag, by kind and place: it has too many bytes, a piece is no subtag, or no tag spells its list
data Cause (text : List ℕ) : TagFaultKind → ℕ → Type 0 where
  long : longest_text < length text → Cause text kinds.TooLong 0
  piece : (fault : SubtagFault) (place : ℕ) → length text ≤ longest_text → IsFirstBadPiece text fault place
      → Cause text (kind_of fault) place
  bad : {kind : TagFaultKind} {place : ℕ} → HasBadList text → ListCause (list_of text) kind place → Cause text kind place

-- each fault other than running out of memory has its cause
cause : (text : List ℕ) (kind : TagFaultKind) (place : ℕ) → IsFault text kind place → (kind ≡ kinds.OutOfMemory → ⊥) → Cause text kind place
cause text kinds.TooLong place f m = subst (λ (n : ℕ). Cause text kinds.TooLong n) (sym f.1) (long f.0)
cause text kinds.EmptySubtag place f m = piece subtag_faults.Empty place f.0 f.1
cause text kinds.BadByte place f m = piece subtag_faults.BadByte place f.0 f.1
cause text kinds.LongSubtag place f m = piece subtag_faults.TooLong place f.0 f.1
cause text kinds.BadLanguage place f m = subst (λ (n : ℕ). Cause text kinds.BadLanguage n) (sym f.2) (bad f.0 (first f.1))
cause text kinds.Misplaced place f m = bad f.0 (later place f.1 f.2)
cause text kinds.Unfinished place f m = subst (λ (n : ℕ). Cause text kinds.Unfinished n) (sym f.2) (bad f.0 (end f.1))
cause text kinds.OutOfMemory place f m = absurd (m refl)

-- the list of a tag is well-formed
tag_formed : (tag : TagForm) (list : List (List ℕ)) → IsTag tag → spell tag ≡ list → IsWellFormed list
tag_formed (LangTag core es ps) list k e = inr (LangTag core es ps, k.0, e)
tag_formed (PrivateUse ps) list k e = inr (PrivateUse ps, k, e)
tag_formed (Grandfathered number) list k e = inl (number, record { first = k.0; last = k.1; same = sym e })

-- a text whose pieces are all subtags has no first bad piece
good_or_bad : (text : List ℕ) (fault : SubtagFault) (place : ℕ) → HasList text → IsFirstBadPiece text fault place → ⊥
good_or_bad text fault place l b =
    let here = b.here (place - 1) (omega (arith, b.first)) in
    let ok = l (place - 1) (omega (arith, b.first, b.within)) in
    cc

-- a text that has a cause is not read as a tag
cause_excludes_tag : (text : List ℕ) (kind : TagFaultKind) (place : ℕ) (tag : TagForm) → Cause text kind place → HasTag text tag → ⊥
cause_excludes_tag text kind place tag (long n) t = omega (arith, t.short)
cause_excludes_tag text kind place tag (piece fault at n b) t = good_or_bad text fault at
    (to_HasList text (ap (list_all is_subtag) (sym t.spelled) ∙ tag_subtags tag t.tag)) b
cause_excludes_tag text kind place tag (bad l _) t = l.bad (tag_formed tag (list_of text) t.tag t.spelled)

-- a text that has a fault, running out of memory aside, is not read as a tag
pub fault_excludes_tag : (text : List ℕ) (kind : TagFaultKind) (place : ℕ) (tag : TagForm) → HasFault text kind place → HasTag text tag → ⊥
fault_excludes_tag text kind place tag f t = cause_excludes_tag text kind place tag (cause text kind place f.fault f.memory_aside) t

-- a list has one first misplaced subtag at most
one_place : (list : List (List ℕ)) (a b : ℕ) → IsFirstMisplaced list a → IsFirstMisplaced list b → a ≡ b
one_place list a b m n =
    let not_less : a < b → ⊥ = λ less. m.stops (n.goes a less) in
    let not_more : b < a → ⊥ = λ less. n.stops (m.goes b less) in
    omega arith

-- a list that begins a tag has no misplaced subtag
none_misplaced : (list : List (List ℕ)) (place : ℕ) → IsFirstMisplaced list place → Begins list → ⊥
none_misplaced list place m b = m.stops (Begins-take list place (length list) m.within (rw (take_all (length list) list (omega arith)) b))

-- a list has one cause at most, at one place
one_list_cause : (list : List (List ℕ)) (kind other : TagFaultKind) (place elsewhere : ℕ) → ListCause list kind place
    → ListCause list other elsewhere → (kind ≡ other) × (place ≡ elsewhere)
one_list_cause list kind other place elsewhere (first m) (first n) = (refl, refl)
one_list_cause list kind other place elsewhere (first m) (later at n l) = let same = one_place list 1 at m n in absurd (omega arith)
one_list_cause list kind other place elsewhere (first m) (end b) = absurd (none_misplaced list 1 m b)
one_list_cause list kind other place elsewhere (later at m l) (first n) = let same = one_place list 1 at n m in absurd (omega arith)
one_list_cause list kind other place elsewhere (later at m l) (later there n k) = (refl, one_place list at there m n)
one_list_cause list kind other place elsewhere (later at m l) (end b) = absurd (none_misplaced list at m b)
one_list_cause list kind other place elsewhere (end b) (first n) = absurd (none_misplaced list 1 n b)
one_list_cause list kind other place elsewhere (end b) (later at n l) = absurd (none_misplaced list at n b)
one_list_cause list kind other place elsewhere (end b) (end d) = (refl, refl)

-- the place a of a first bad piece is not before the place b of one
piece_before : (text : List ℕ) (fault other : SubtagFault) (a b : ℕ) → IsFirstBadPiece text fault a
    → IsFirstBadPiece text other b → a < b → ⊥
piece_before text fault other a b p q less =
    let here = p.here (a - 1) (omega (arith, p.first)) in
    let ok = q.before (a - 1) (omega (arith, p.first)) in
    cc

-- a text has one first bad piece at most
one_piece : (text : List ℕ) (fault other : SubtagFault) (a b : ℕ) → IsFirstBadPiece text fault a → IsFirstBadPiece text other b → a ≡ b
one_piece text fault other a b p q =
    let not_less = piece_before text fault other a b p q in
    let not_more = piece_before text other fault b a q p in
    omega arith

-- the first bad piece of a text has one fault
one_piece_fault : (text : List ℕ) (fault other : SubtagFault) (a b : ℕ) → IsFirstBadPiece text fault a
    → IsFirstBadPiece text other b → fault ≡ other
one_piece_fault text fault other a b p q =
    let same = one_piece text fault other a b p q in
    let here = p.here (a - 1) (omega (arith, p.first)) in
    let there = q.here (a - 1) (omega (arith, p.first)) in
    cc

-- a text has one cause at most, at one place
one_cause : (text : List ℕ) (kind other : TagFaultKind) (place elsewhere : ℕ) → Cause text kind place
    → Cause text other elsewhere → (kind ≡ other) × (place ≡ elsewhere)
one_cause text kind other place elsewhere (long n) (long m) = (refl, refl)
one_cause text kind other place elsewhere (long n) (piece fault at m b) = absurd (omega arith)
one_cause text kind other place elsewhere (long n) (bad l c) = absurd (omega (arith, l.short))
one_cause text kind other place elsewhere (piece fault at n b) (long m) = absurd (omega arith)
one_cause text kind other place elsewhere (piece fault at n b) (piece fault' at' m b') =
    (ap kind_of (one_piece_fault text fault fault' at at' b b'), one_piece text fault fault' at at' b b')
one_cause text kind other place elsewhere (piece fault at n b) (bad l c) = absurd (good_or_bad text fault at l.listed b)
one_cause text kind other place elsewhere (bad l c) (long n) = absurd (omega (arith, l.short))
one_cause text kind other place elsewhere (bad l c) (piece fault at n b) = absurd (good_or_bad text fault at l.listed b)
one_cause text kind other place elsewhere (bad l c) (bad m d) = one_list_cause (list_of text) kind other place elsewhere c d

-- a text has one fault at most, at one place, running out of memory aside
pub one_fault : (text : List ℕ) (kind other : TagFaultKind) (place elsewhere : ℕ) → HasFault text kind place
    → HasFault text other elsewhere → (kind ≡ other) × (place ≡ elsewhere)
one_fault text kind other place elsewhere f g =
    one_cause text kind other place elsewhere (cause text kind place f.fault f.memory_aside)
    (cause text other elsewhere g.fault g.memory_aside)

-- the text has a tag or a fault
abbrev pub HasTagOrFault : List ℕ → Type 0
HasTagOrFault text = ((form : TagForm) × HasTag text form) ⊎ ((kind : TagFaultKind) × (place : ℕ) × HasFault text kind place)

-- two lists are equal or not, where `each` says this of two elements
same_or_not : {X : Type 0} → ((x y : X) → (x ≡ y) ⊎ (x ≡ y → ⊥)) → (xs ys : List X) → (xs ≡ ys) ⊎ (xs ≡ ys → ⊥)
same_or_not each [] [] = inl refl
same_or_not each [] (y ∷ ys) = inr (λ e. cc)
same_or_not each (x ∷ xs) [] = inr (λ e. cc)
same_or_not each (x ∷ xs) (y ∷ ys) = grind (arith, each x y, same_or_not each xs ys)

-- two lists of subtags are equal or not
abbrev same_list : (a b : List (List ℕ)) → (a ≡ b) ⊎ (a ≡ b → ⊥)
same_list = same_or_not (same_or_not cases_eq)

-- a list is that of one of the first n grandfathered tags, or of none of these
first_numbers : (list : List (List ℕ)) (n : ℕ) → n ≤ 26 → ((k : ℕ) × IsGrandfathered list k)
    ⊎ ((k : ℕ) → k ≤ n → IsGrandfathered list k → ⊥)
first_numbers list zero l = inr (λ k m g. absurd (omega (arith, g.first)))
first_numbers list (suc n) l =
    elim (first_numbers list n (omega arith)) [
      | inl found ↦ inl found
      | inr none ↦ elim (same_list list (grandfathered_list (suc n))) [
        | inl same ↦ inl (suc n, record { first = omega arith; last = l; same = same })
        | inr differ ↦ inr (λ k m g. elim (cases_lt n k) [
          | inl more ↦ let last : k ≡ suc n = omega arith in
              differ (g.same ∙ ap grandfathered_list last)
          | inr less ↦ none k less g
        ])
      ]
    ]

-- if `done` gives a draft, and `done ++ rest` none, the first misplaced subtag of the list is in `rest`
first_misplaced : (done rest : List (List ℕ)) (draft : Draft) → 0 < length done → draft_of done ≡ Some draft
    → draft_of (done ++ rest) ≡ None → (place : ℕ) × IsFirstMisplaced (done ++ rest) place × (1 < place)
first_misplaced done [] draft some has none = let same : draft_of (done ++ []) ≡ Some draft = ap draft_of (append-nil done) ∙ has in cc
first_misplaced done (t ∷ ts) draft some has none =
    go (λ more next. first_misplaced (done ++ t ∷ []) ts more (omega (arith, length_push done t)) next
    (ap draft_of (append_assoc done (t ∷ []) ts) ∙ none)) (drafted draft t) refl
  where
    go : ((more : Draft) → draft_of (done ++ t ∷ []) ≡ Some more → (place : ℕ)
        × IsFirstMisplaced ((done ++ t ∷ []) ++ ts) place × (1 < place)) → (o : Option Draft) → o ≡ drafted draft t
        → (place : ℕ) × IsFirstMisplaced (done ++ t ∷ ts) place × (1 < place)
    go again None e =
        let stop : draft_of (done ++ t ∷ []) ≡ None = of_more done t draft some has ∙ sym e in
        let first = subst (λ (l : List (List ℕ)). IsFirstMisplaced l (length done + 1)) (append_assoc done (t ∷ []) ts)
        (misplaced_behind done t ts draft has stop) in
        (length done + 1, first, omega arith)
    go again (Some more) e =
        let later = again more (of_more done t draft some has ∙ sym e) in
        (later.0, subst (λ (l : List (List ℕ)). IsFirstMisplaced l later.0) (append_assoc done (t ∷ []) ts) later.1, later.2)

-- a shaped value whose list is not grandfathered is a tag
shaped_tag : (form : TagForm) → IsShaped form → IsNotGrandfathered (spell form) → IsTag form
shaped_tag (LangTag core es ps) k other = (k, other)
shaped_tag (PrivateUse ps) k other = k
shaped_tag (Grandfathered number) k other = absurd k

-- a text that is not too long, and whose pieces are the subtags of `list`, which is not grandfathered
module _ (text : List ℕ) (list : List (List ℕ)) (short : length text ≤ longest_text)
    (all : listed 1 (pieces text) ≡ Ok list) (other : IsNotGrandfathered list) where
  -- the list of the text is not grandfathered
  unlisted : IsNotGrandfathered (list_of text)
  unlisted = rw (← (text_list text list all).1) other

  -- if the list gives a draft, the text has the tag that the draft is, or is unfinished
  drafted_list : (draft : Draft) → draft_of list ≡ Some draft → HasTagOrFault text
  drafted_list draft h = go (finished draft) refl
    where
      go : (o : Option TagForm) → o ≡ finished draft → HasTagOrFault text
      go (Some form) e =
          let d = draft_is list draft h in
          let f = finished_is draft form d.0 (sym e) in
          let same : spell form ≡ list = f.1 ∙ d.1 in
          inl (form, record { short = short; tag = shaped_tag form f.0 (rw same other); spelled = same ∙ (text_list text list all).1 })
      go None e =
          let u = unfinished list draft h (sym e) in
          inr (
            kinds.Unfinished,
            length (list_of text) + 1,
            record {
              fault = (
                bad_list text list short all unlisted u.1,
                rw (← (text_list text list all).1) u.0,
                refl,
              );
              memory_aside = λ e. cc;
            },
          )

  -- if the list gives no draft, its first misplaced subtag is the fault: BadLanguage at place 1, else Misplaced
  misplaced_list : (place : ℕ) → draft_of list ≡ None → 0 < length list → IsFirstMisplaced list place → (1 < place)
      ⊎ (place ≡ 1) → HasTagOrFault text
  misplaced_list place none some m at =
      let bad = bad_list text list short all unlisted (λ form k e. refused list [] none some form k (append-nil list ∙ sym e)) in
      let first : IsFirstMisplaced (list_of text) place = rw (← (text_list text list all).1) m in
      elim at [
        | inl after ↦ inr (kinds.Misplaced, place, record { fault = (bad, first, after); memory_aside = λ e. cc })
        | inr one ↦ inr (kinds.BadLanguage, place, record { fault = (bad, rw one at first, one); memory_aside = λ e. cc })
      ]

-- a short text whose pieces are the subtags of `list`, which is not grandfathered, has a tag or a fault
by_machine : (text : List ℕ) (list : List (List ℕ)) → length text ≤ longest_text → listed 1 (pieces text) ≡ Ok list
    → IsNotGrandfathered list → 0 < length list → HasTagOrFault text
by_machine text [] short all other some = absurd (omega arith)
by_machine text (s ∷ ss) short all other some = go (draft_of (s ∷ ss)) (begun s) refl refl
  where
    go : (o one : Option Draft) → o ≡ draft_of (s ∷ ss) → one ≡ begun s → HasTagOrFault text
    go (Some draft) one e f = drafted_list text (s ∷ ss) short all other draft (sym e)
    go None None e f = misplaced_list text (s ∷ ss) short all other 1 (sym e) some (bad_language s ss (of_first s ∙ sym f)) (inr refl)
    go None (Some draft) e f =
        let m = first_misplaced (s ∷ []) ss draft (omega arith) (of_first s ∙ sym f) (sym e) in
        misplaced_list text (s ∷ ss) short all other m.0 (sym e) some m.1 (inl m.2)

-- a short text whose pieces are the subtags of `list` has a tag or a fault
by_list : (text : List ℕ) (list : List (List ℕ)) → length text ≤ longest_text → listed 1 (pieces text) ≡ Ok list → HasTagOrFault text
by_list text list short all =
    let l = text_list text list all in
    elim (first_numbers list 26 (omega arith)) [
      | inl found ↦
          inl (
            Grandfathered found.0,
            record {
              short = short;
              tag = (found.1.first, found.1.last);
              spelled = sym found.1.same ∙ l.1;
            },
          )
      | inr none ↦ by_machine text list short all (λ k g. none k g.last g)
          (omega (arith, ap length l.1, length-map (pieces text) folded, some_pieces text))
    ]

-- the fault of a piece is never running out of memory
no_memory_fault : (fault : SubtagFault) → kind_of fault ≡ kinds.OutOfMemory → ⊥
no_memory_fault subtag_faults.Empty e = cc
no_memory_fault subtag_faults.BadByte e = cc
no_memory_fault subtag_faults.TooLong e = cc

-- a short text has a tag or a fault; r is what its pieces are read as
by_pieces : (text : List ℕ) → length text ≤ longest_text → (r : Result (List (List ℕ)) TagFault)
    → r ≡ listed 1 (pieces text) → HasTagOrFault text
by_pieces text short (Ok list) e = by_list text list short (sym e)
by_pieces text short (Err found) e =
    let stop = listed-Err 1 (pieces text) found (sym e) in
    inr (
      found.kind,
      found.place,
      record {
        fault = piece_fault text found short (sym e);
        memory_aside = λ k. no_memory_fault stop.fault
            (sym stop.kind ∙ k);
      },
    )

-- each text has a tag or a fault
pub tag_or_fault : (text : List ℕ) → HasTagOrFault text
tag_or_fault text =
    elim (cases_lt longest_text (length text)) [
      | inl over ↦ inr (kinds.TooLong, 0, record { fault = (over, refl); memory_aside = λ e. cc })
      | inr short ↦ by_pieces text short (listed 1 (pieces text)) refl
    ]
