-- A list whose draft misses nothing is spelled by the tag that the draft is; a list whose draft misses a subtag is
-- unfinished; and a list without a draft has a first misplaced subtag. `HasRead` says what is known of a text while
-- `read_unlisted` reads its subtags, and the lemmas after it give the tag or the fault with which that ends.
use Rattle.std.specs.Prelude.{ℕ, List, [], ◌∷◌, Option, Some, None, option_and_then, Result, Ok, Err, IsOk}
use Rattle.lt_tag.specs.Draft.{Draft, begun, drafted, InCore, InExtension, InPrivate, Alone, closed, finished, spell_draft}
use Rattle.std.proofs.Common.{◌≡◌, ℕ, ◌<◌, List, [], ◌∷◌, ◌++◌, length, refl, sym, ap, ◌∙◌, arith, inl, inr, subst, ◌≤◌, ◌+◌, take, drop}
use Rattle.std.proofs.lemmas.List.{append_assoc, append-nil, length-append, take-append-drop, take-take, take_at, length_push}
use Rattle.lt_subtag.specs.Shapes.{is_language, is_x}
use Rattle.lt_tag.specs.Parts.{CoreParts, ExtensionParts, TagForm, LangTag, PrivateUse}
use Rattle.lt_tag.specs.Spelling.{x_subtag, spell_core, spell_extensions}
use Rattle.lt_tag.specs.WellFormed.{spell, IsShaped, Begins, IsFirstMisplaced, IsNotGrandfathered}
use Rattle.lt_tag.proofs.CompleteLemmas.{of_language-IsCore}
use Rattle.lt_tag.proofs.ListLemmas.{some_choice}
use Rattle.lt_tag.specs.DraftShapes.{IsDraft}
use Rattle.lt_tag.specs.DraftViews.{HasRoom}
use Rattle.std.proofs.lemmas.Option.{option_and_then_some}
use Rattle.lt_tag.specs.declared.faults.TagFault.{TagFault}
use Rattle.lt_tag.specs.Lists.{pieces, list_of, longest_text}
use Rattle.lt_tag.specs.Listing.{listed, with_front, read_at}
use Rattle.lt_tag.specs.Faults.{HasList, HasBadList}
use Rattle.lt_tag.proofs.ListedLemmas.{listed_next, listed_stop, front_next, front_end}
use Rattle.lt_tag.proofs.TextLemmas.{text_list}
use Rattle.lt_tag.proofs.DraftLemmas.{closed_shaped, closed_spells, draft_begins, draft_of, drafted_by, drafted_is, shaped_drafts, x_is}

-- ---- the tag that a list spells, its first misplaced subtag, or that it is unfinished

-- taking the subtags of two lists, joined, makes of a draft, if there is one, what taking the first list and then the
-- second makes of it
drafted_after : (o : Option Draft) (xs ys : List (List ℕ)) → option_and_then (λ d. drafted_by d (xs ++ ys)) o
    ≡ option_and_then (λ d. drafted_by d ys) (option_and_then (λ d. drafted_by d xs) o)
unfolding drafted_by
drafted_after None xs ys = refl
drafted_after (Some d) [] ys = refl
drafted_after (Some d) (s ∷ xs) ys = drafted_after (drafted d s) xs ys

-- the draft of a list that is not empty, with ys after it, is what the draft of the list becomes when it takes ys
pub draft_of-append : (s : List ℕ) (xs ys : List (List ℕ))
    → draft_of (s ∷ xs ++ ys) ≡ option_and_then (λ d. drafted_by d ys) (draft_of (s ∷ xs))
unfolding draft_of
draft_of-append s xs ys = drafted_after (begun s) xs ys

-- a draft whose parts have their shapes (`IsDraft`), and that takes the subtags ss, is such a draft again, and spells
-- them at its end
drafted_by_is : (draft : Draft) (ss : List (List ℕ)) (more : Draft) → IsDraft draft → drafted_by draft ss ≡ Some more
    → IsDraft more × (spell_draft more ≡ spell_draft draft ++ ss)
unfolding drafted_by
drafted_by_is draft [] more k h = let same : draft ≡ more = cc in rw (← same) (k, sym (append-nil (spell_draft draft)))
drafted_by_is draft (s ∷ ss) more k h =
    option_and_then_some (λ d. drafted_by d ss) (drafted draft s) more h (λ next step rest.
    let one = drafted_is draft s next k step in
    let all = drafted_by_is next ss more one.shaped rest in
    (all.0, all.1 ∙ ap (λ (z : List (List ℕ)). z ++ ss) one.spelled ∙ append_assoc (spell_draft draft) (s ∷ []) ss))

-- the draft of a first subtag has its shape and spells that subtag
begun_is : (s : List ℕ) (draft : Draft) → begun s ≡ Some draft → IsDraft draft × (spell_draft draft ≡ s ∷ [])
unfolding begun
begun_is s draft h =
    let Q : Draft → Type 0 = λ d. IsDraft d × (spell_draft d ≡ s ∷ []) in
    some_choice Q (is_language s) _ _ (λ a. (of_language-IsCore s a, refl))
    (λ _. some_choice Q (is_x s) _ _ (λ b. (refl, ap (λ (z : List ℕ). z ∷ []) (sym (x_is s b)))) (λ _ d e. cc)) draft h

-- the draft of a list has its shape and spells the list
pub draft_is : (list : List (List ℕ)) (draft : Draft) → draft_of list ≡ Some draft → IsDraft draft × (spell_draft draft ≡ list)
unfolding draft_of
draft_is [] draft h = cc
draft_is (s ∷ ss) draft h =
    option_and_then_some (λ d. drafted_by d ss) (begun s) draft h (λ first step rest.
    let one = begun_is s first step in
    let all = drafted_by_is first ss draft one.0 rest in
    (all.0, all.1 ∙ ap (λ (z : List (List ℕ)). z ++ ss) one.1))

-- no shaped value (a langtag or private use tag) spells a list that begins with a list that gives no draft
pub refused : (list rest : List (List ℕ)) → draft_of list ≡ None → 0 < length list → (form : TagForm) → IsShaped form
    → list ++ rest ≡ spell form → ⊥
refused [] rest none n form k e = omega arith
refused (s ∷ ss) rest none n form k e =
    let d = shaped_drafts form k in
    let cut = draft_of-append s ss rest in
    cc

-- if two lists together begin a tag, so does the first
Begins-front : (xs ys : List (List ℕ)) → Begins (xs ++ ys) → Begins xs
Begins-front xs ys b = record {
  rest = ys ++ b.rest;
  form = b.form;
  shaped = b.shaped;
  spelled = sym (append_assoc xs ys b.rest) ∙ b.spelled;
}

-- if the first i subtags of a list begin a tag, so do the first q, no more than i
pub Begins-take : (list : List (List ℕ)) (q i : ℕ) → q ≤ i → Begins (take i list) → Begins (take q list)
Begins-take list q i n b = rw (← take-take q i list n) (Begins-front (take q (take i list)) (drop q (take i list))
    (rw (take-append-drop q (take i list)) b))

-- a list that gives a draft begins a tag
drafts_begin : (list : List (List ℕ)) (draft : Draft) → draft_of list ≡ Some draft → Begins list
drafts_begin list draft h = let k = draft_is list draft h in rw (← k.1) (draft_begins draft k.0)

-- a list whose first subtag gives no draft has its first misplaced subtag at place 1
pub bad_language : (s : List ℕ) (ss : List (List ℕ)) → draft_of (s ∷ []) ≡ None → IsFirstMisplaced (s ∷ ss) 1
bad_language s ss none =
    let at_zero : (q : ℕ) → q < 1 → Begins (take q (s ∷ ss)) = λ q n. let first : q ≡ 0 = omega arith in
    rw first (Begins-front [] (x_subtag ∷ []) (draft_begins (Alone []) refl)) in
    record { within = omega arith; stops = λ b. refused (s ∷ []) b.rest none (omega arith) b.form b.shaped b.spelled; goes = at_zero }

-- a list whose first i subtags give a draft, and the first i + 1 none, has its first misplaced subtag at place i + 1
pub misplaced : (list : List (List ℕ)) (i : ℕ) (draft : Draft) → i < length list → draft_of (take i list) ≡ Some draft
    → draft_of (take (i + 1) list) ≡ None → 0 < length (take (i + 1) list) → IsFirstMisplaced list (i + 1)
misplaced list i draft within g none some =
    record {
      within = omega arith;
      stops = λ b. refused (take (i + 1) list) b.rest none some b.form b.shaped b.spelled;
      goes = λ q n. Begins-take list q i (omega arith) (drafts_begin (take i list) draft g);
    }

-- the tag that a shaped draft is, if nothing is missing, is shaped and spells what the draft spells
pub finished_is : (draft : Draft) (form : TagForm) → IsDraft draft → finished draft ≡ Some form → IsShaped form
    × (spell form ≡ spell_draft draft)
finished_is (InCore core) form k h =
    let same : LangTag core [] [] ≡ form = cc in
    rw (← same) (record { shaped_core = k; shaped_extensions = tt; shaped_private = refl }, append-nil (spell_core core))
finished_is (InExtension core es b (s ∷ ss)) form k h =
    let same : LangTag core (closed es b (s ∷ ss)) [] ≡ form = cc in
    let shaped = closed_shaped es b (s ∷ ss) k.1 k.2 k.3 refl in
    rw (← same) (
      record { shaped_core = k.0; shaped_extensions = shaped; shaped_private = refl },
      ap (λ (z : List (List ℕ)). spell_core core ++ z) (append-nil _ ∙ closed_spells es b (s ∷ ss)),
    )
finished_is (InPrivate core es (p ∷ ps)) form k h =
    let same : LangTag core es (p ∷ ps) ≡ form = cc in
    rw (← same) (record { shaped_core = k.0; shaped_extensions = k.1; shaped_private = k.2 }, refl)
finished_is (Alone (p ∷ ps)) form k h = let same : PrivateUse (p ∷ ps) ≡ form = cc in
    rw (← same) (record { shaped_private = k; some = omega arith }, refl)
finished_is (InExtension core es b []) form k h = cc
finished_is (InPrivate core es []) form k h = cc
finished_is (Alone []) form k h = cc

-- a list whose draft misses a subtag begins a tag, and no shaped value spells it
pub unfinished : (list : List (List ℕ)) (draft : Draft) → draft_of list ≡ Some draft → finished draft ≡ None
    → Begins list × ((form : TagForm) → IsShaped form → spell form ≡ list → ⊥)
unfinished list draft h none = (
  drafts_begin list draft h,
  λ form k e. let d = shaped_drafts form k in cc,
)

-- a draft that spells at most 1,024 subtags has room for one more
room : (draft : Draft) → length (spell_draft draft) ≤ 1024 → HasRoom draft
room (InCore core) n =
    omega (arith, simp length-append at n)
room (InExtension core es b ss) n = omega (arith, simp length-append at n)
room (InPrivate core es ps) n = omega (arith, simp length-append at n)
room (Alone ps) n = omega arith

-- extensions spell at least one subtag each
length_spelled : (es : List ExtensionParts) → length es ≤ length (spell_extensions es)
length_spelled [] = omega arith
length_spelled (e ∷ es) = omega (arith, length_spelled es, length-append e.subtags (spell_extensions es))

-- if a core, the extensions es and some subtags ss after them are at most 1,025 subtags, es and one extension more are
-- at most 1,024 extensions
pub few_closed : (core : CoreParts) (es : List ExtensionParts) (ss : List (List ℕ))
    → length (spell_core core ++ (spell_extensions es ++ ss)) ≤ 1025 → 0 < length ss → length es + 1 ≤ 1024
few_closed core es ss n some =
    omega (arith, length_spelled es, length-append (spell_core core) (spell_extensions es ++ ss), length-append (spell_extensions es) ss)

-- ---- what is known of a text while its subtags are read from left to right

-- The first pieces of a text, as many as `place` says and one at least, are the subtags `done`. The pieces `left` are
-- still to be read. `draft` is the draft of the subtags so far.
pub record HasRead (text : List ℕ) (place : ℕ) (left : List (List ℕ)) (draft : Draft) : Type 0 where
  pub done : List (List ℕ)
  pub count : length done ≡ place
  pub some : 0 < place
  pub whole : with_front done (listed (place + 1) left) ≡ listed 1 (pieces text)
  pub drafts : draft_of done ≡ Some draft

-- a draft that takes no subtag stays as it is
last_one : (o : Option Draft) → option_and_then (λ draft. drafted_by draft []) o ≡ o
unfolding drafted_by
last_one None = refl
last_one (Some d) = refl

-- the draft of one subtag is the one that it begins
pub of_first : (s : List ℕ) → draft_of (s ∷ []) ≡ begun s
unfolding draft_of
of_first s = last_one (begun s)

-- the draft of a list with the subtag t at its end is the one that the draft of the list becomes by t
pub of_more : (done : List (List ℕ)) (t : List ℕ) (draft : Draft) → 0 < length done → draft_of done ≡ Some draft
    → draft_of (done ++ t ∷ []) ≡ drafted draft t
unfolding drafted_by
of_more [] t draft n h = absurd (omega arith)
of_more (s ∷ ss) t draft n h = draft_of-append s ss (t ∷ []) ∙ ap (option_and_then (λ d. drafted_by d (t ∷ []))) h
    ∙ last_one (drafted draft t)

-- a reading without a fault has a value
ok_is : {X : Type 0} (r : Result X TagFault) → IsOk r → (x : X) × (r ≡ Ok x)
ok_is (Ok x) h = (x, refl)
ok_is (Err fault) h = cc

-- if the pieces of a text that is not too long are the subtags of `list`, and this is neither grandfathered nor spelled
-- by a shaped value, the list of the text is not well-formed
pub bad_list : (text : List ℕ) (list : List (List ℕ)) → length text ≤ longest_text → listed 1 (pieces text) ≡ Ok list
    → IsNotGrandfathered (list_of text)
    → ((form : TagForm) → IsShaped form → spell form ≡ list → ⊥) → HasBadList text
bad_list text list short all other none =
    let l = text_list text list all in
    record { short = short; listed = l.0; bad = λ w. elim w [ inl g ↦ other g.0 g.1 | inr v ↦ none v.0 v.1 (v.2 ∙ sym l.1) ] }

-- if `done` gives a draft, and with s at its end none, then s is the first misplaced subtag, whatever `others` follow
pub misplaced_behind : (done : List (List ℕ)) (s : List ℕ) (others : List (List ℕ)) (draft : Draft)
    → draft_of done ≡ Some draft → draft_of (done ++ s ∷ []) ≡ None
    → IsFirstMisplaced ((done ++ s ∷ []) ++ others) (length done + 1)
misplaced_behind done s others draft some none =
    let list : List (List ℕ) = (done ++ s ∷ []) ++ others in
    let before : take (length done) list ≡ done = ap (take (length done)) (append_assoc done (s ∷ []) others)
    ∙ take_at done (s ∷ others) (length done) refl in
    let here : take (length done + 1) list ≡ done ++ s ∷ [] = take_at (done ++ s ∷ []) others (length done + 1) (length_push done s) in
    misplaced list (length done) draft (omega (arith, length-append (done ++ s ∷ []) others, length_push done s))
    (ap draft_of before ∙ some) (ap draft_of here ∙ none)
    (omega (arith, ap length here, length_push done s))

-- a text whose first piece p is read as the subtag s, with the pieces `left` after it
module _ (text : List ℕ) (p s : List ℕ) (left : List (List ℕ)) (split : pieces text ≡ p ∷ left) (read : read_at 1 p ≡ Ok s) where
  -- if the first subtag begins a draft, one piece is read
  pub read_first : (draft : Draft) → begun s ≡ Some draft → HasRead text 1 left draft
  read_first draft h = record {
    done = s ∷ [];
    count = refl;
    some = omega arith;
    whole = sym (ap (listed 1) split ∙ listed_next 1 p left s read);
    drafts = of_first s ∙ h;
  }

  -- a fault of the pieces after the first is that of the text
  pub fault_behind_first : (found : TagFault) → listed 2 left ≡ Err found → listed 1 (pieces text) ≡ Err found
  fault_behind_first found h = ap (listed 1) split ∙ listed_next 1 p left s read ∙ ap (with_front (s ∷ [])) h

  -- if the first subtag begins no draft, and the other pieces are subtags, the text has the fault BadLanguage
  pub misplaced_first : begun s ≡ None → IsOk (listed 2 left) → length text ≤ longest_text → IsNotGrandfathered (list_of text)
      → HasBadList text × IsFirstMisplaced (list_of text) 1 × (◌≡◌ {A = ℕ} 1 1)
  misplaced_first none ok short other =
      let others = ok_is (listed 2 left) ok in
      let all : listed 1 (pieces text) ≡ Ok (s ∷ others.0) = ap (listed 1) split ∙ listed_next 1 p left s read
      ∙ ap (with_front (s ∷ [])) others.1 in
      let stop = of_first s ∙ none in (
        bad_list text _ short all other (λ form k e. refused (s ∷ []) others.0 stop (omega arith) form k (sym e)),
        rw (← (text_list text _ all).1) (bad_language s others.0 stop),
        refl,
      )

-- a text of which the first pieces are read, as many as `place` says, and p is the next, with `left` after it
module _ (text : List ℕ) (place : ℕ) (draft : Draft) (p : List ℕ) (left : List (List ℕ)) (has : HasRead text place (p ∷ left) draft) where
  -- if the next piece is no subtag, its fault is that of the text
  pub fault_here : (found : TagFault) → read_at (place + 1) p ≡ Err found → listed 1 (pieces text) ≡ Err found
  fault_here found h = sym has.whole ∙ ap (with_front has.done) (listed_stop (place + 1) p left found h)

  -- the next piece is read as the subtag s
  module _ (s : List ℕ) (read : read_at (place + 1) p ≡ Ok s) where
    -- if the draft takes s, one piece more is read
    pub read_next : (more : Draft) → drafted draft s ≡ Some more → HasRead text (place + 1) left more
    read_next more h =
        record {
          done = has.done ++ s ∷ [];
          count = omega (arith, length_push has.done s, has.count);
          some = omega arith;
          whole = sym (front_next has.done (place + 1) p left s read) ∙ has.whole;
          drafts = of_more has.done s draft (omega (arith, has.count, has.some)) has.drafts ∙ h;
        }

    -- the text is read as the subtags up to s, and then as the pieces after it are
    fault_behind_whole : listed 1 (pieces text) ≡ with_front (has.done ++ s ∷ []) (listed (place + 1 + 1) left)
    fault_behind_whole = sym has.whole ∙ front_next has.done (place + 1) p left s read

    -- a fault of the pieces after s is that of the text
    pub fault_behind : (found : TagFault) → listed (place + 1 + 1) left ≡ Err found → listed 1 (pieces text) ≡ Err found
    fault_behind found h = fault_behind_whole ∙ ap (with_front (has.done ++ s ∷ [])) h

    -- if the draft can't take s, and the pieces after it are subtags, the text has the fault Misplaced
    pub misplaced_here : drafted draft s ≡ None → IsOk (listed (place + 1 + 1) left) → length text ≤ longest_text
        → IsNotGrandfathered (list_of text)
        → HasBadList text × IsFirstMisplaced (list_of text) (place + 1) × (1 < place + 1)
    misplaced_here none ok short other =
        let others = ok_is (listed (place + 1 + 1) left) ok in
        let all : listed 1 (pieces text) ≡ Ok ((has.done ++ s ∷ []) ++ others.0) = fault_behind_whole
        ∙ ap (with_front (has.done ++ s ∷ [])) others.1 in
        let stop : draft_of (has.done ++ s ∷ []) ≡ None = of_more has.done s draft (omega (arith, has.count, has.some)) has.drafts ∙ none in
        let first = subst (λ (n : ℕ). IsFirstMisplaced ((has.done ++ s ∷ []) ++ others.0) (n + 1)) has.count
        (misplaced_behind has.done s others.0 draft has.drafts stop) in (
          bad_list text _ short all other
              (λ form k e. refused (has.done ++ s ∷ []) others.0 stop (omega (arith, length_push has.done s)) form k
              (sym e)),
          rw (← (text_list text _ all).1) first,
          omega (arith, has.some),
        )

-- all pieces of a text are read, as many as `place` says
module _ (text : List ℕ) (place : ℕ) (draft : Draft) (has : HasRead text place [] draft) where
  -- the pieces of the text are the subtags that were read
  all_read : listed 1 (pieces text) ≡ Ok has.done
  all_read = sym has.whole ∙ front_end has.done (place + 1)

  -- each piece of the text is a subtag
  pub whole_listed : HasList text
  whole_listed = (text_list text has.done all_read).0

  -- the draft has its shape and spells the list of the text
  pub whole_draft : IsDraft draft × (spell_draft draft ≡ list_of text)
  whole_draft = let k = draft_is has.done draft has.drafts in (k.0, k.1 ∙ (text_list text has.done all_read).1)

  -- the list of the text has as many subtags as `place` says
  pub whole_length : length (list_of text) ≡ place
  whole_length = sym (ap length (text_list text has.done all_read).1) ∙ has.count

  -- if nothing is missing, the tag that the draft is spells the list of the text
  pub whole_value : (form : TagForm) → Some form ≡ finished draft → spell form ≡ list_of text
  whole_value form h = (finished_is draft form whole_draft.0 (sym h)).1 ∙ whole_draft.1

  -- if a subtag is missing, the text has the fault Unfinished
  pub whole_unfinished : None ≡ finished draft → length text ≤ longest_text → IsNotGrandfathered (list_of text)
      → HasBadList text × Begins (list_of text) × (place + 1 ≡ length (list_of text) + 1)
  whole_unfinished h short other =
      let u = unfinished has.done draft has.drafts (sym h) in (
        bad_list text has.done short all_read other u.1,
        subst (λ (l : List (List ℕ)). Begins l)
            (text_list text has.done all_read).1 u.0,
        omega (arith, whole_length),
      )

-- the draft of at most 1,024 subtags has its shape, and room for one more
pub read_room : (text : List ℕ) (place : ℕ) (draft : Draft) (left : List (List ℕ)) → HasRead text place left draft
    → place ≤ 1024 → IsDraft draft × HasRoom draft
read_room text place draft left has n = let k = draft_is has.done draft has.drafts in
    (k.0, room draft (omega (arith, ap length k.1, has.count)))
