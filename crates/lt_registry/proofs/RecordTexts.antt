-- What the texts of a record's fields are read as: subtags, ranges and Prefixes. The loops of `ends_of`, `read_prefix`
-- and `read_all_prefixes`, which read from the left, give what the recursive definitions give: `front` is what was read
-- so far.
use Rattle.std.proofs.Common.{◌≡◌, ℕ, Bool, ◌==◌, ◌+◌, ◌<◌, ◌≤◌, true, false, List, [], ◌∷◌, ◌++◌, length, take, drop}
use Rattle.std.proofs.Common.{get_or, Option, Some, None, refl, sym, ap, ◌∙◌, arith, add-one, append_assoc, suc, ◌⊎◌}
use Rattle.std.proofs.Common.{inl, inr, subst, Result, Ok, Err, append-nil}
use Rattle.std.specs.Prelude.{Ok, Err, option_map, Result}
use Rattle.std.proofs.Math.Seq.{drop-cons}
use Rattle.std.proofs.lemmas.List.{take_more, drop_all, drop-drop, append-nil}
use Rattle.std.specs.Char.{is_ascii_alphanumeric}
use Rattle.std.specs.List.{list_all, AllByRecursion, onto_first}
use Rattle.std.proofs.lemmas.Bool.{and_from, and_parts, cases_Bool}
use Rattle.std.proofs.lemmas.Bool.Decides.{nat_tests}
use Rattle.lt_subtag.specs.Reading.{subtag_of}
use Rattle.lt_subtag.specs.declared.SubtagFault.{SubtagFault}
use Rattle.lt_subtag.specs.Bytes.{is_subtag, folded}
use Rattle.lt_subtag.proofs.BytesLemmas.{piece_folds}
use Rattle.lt_tag.specs.Lists.{pieces}
use Rattle.lt_jar.specs.Records.{Field}
use Rattle.lt_registry.specs.Records.{begins_dots, with_first, ends_of, with_subtag, subtags_of, with_prefix, prefix_of}
use Rattle.lt_registry.specs.Records.{prefixes_of, bodies, is_called, formed, is_range, range_of, single_of, name_by}
use Rattle.lt_registry.specs.Entries.{has_form, IsPrefix}
use Rattle.lt_registry.specs.declared.entries.Kind.{Kind}
use Rattle.lt_registry.specs.declared.entries.EntryName.{EntryName}
use Rattle.lt_registry.specs.declared.faults.RecordFaultKind.{RecordFaultKind}
use Rattle.lt_registry.specs.declared.entries.EntryName.TheVariants as names
use Rattle.lt_registry.specs.declared.faults.RecordFaultKind.TheVariants as faults
use Rattle.lt_registry.proofs.ListLemmas.{drop_turn}

-- two full stops

-- two texts, with `front` put before the first of them; None if there are none
abbrev pub behind : List ℕ → Option (List ℕ × List ℕ) → Option (List ℕ × List ℕ)
behind front None = None
behind front (Some p) = Some (front ++ p.0, p.1)

-- a text that begins with two full stops is cut there: nothing is before them, and the rest after them
dots_found : (s : List ℕ) → begins_dots s ≡ true → ends_of s ≡ Some ([], drop 2 s)
unfolding ends_of
dots_found [] h = cc
dots_found (b ∷ s) h = rw h refl

-- a byte put before the first of two texts, and `front` before that, are one longer front
behind_more : (front : List ℕ) (b : ℕ) (o : Option (List ℕ × List ℕ)) → behind front (with_first b o) ≡ behind (front ++ b ∷ []) o
behind_more front b None = refl
behind_more front b (Some p) = ap (λ z. Some (z, p.1)) (sym (append_assoc front (b ∷ []) p.0))

-- if no two full stops are at the index `i`, the byte there goes to the front, and the search goes on after it
pub ends_stay : (text : List ℕ) (i : ℕ) → i < length text → begins_dots (drop i text) ≡ false
    → behind (take i text) (ends_of (drop i text)) ≡ behind (take (i + 1) text) (ends_of (drop (i + 1) text))
unfolding ends_of
ends_stay text i l h =
    let b = get_or text i 0 in
    let d : drop i text ≡ b ∷ drop (i + 1) text = drop-cons text i 0 l ∙ rw (add-one i) refl in
    let none : begins_dots (b ∷ drop (i + 1) text) ≡ false = ap begins_dots (sym d) ∙ h in
    let step : ends_of (b ∷ drop (i + 1) text) ≡ with_first b (ends_of (drop (i + 1) text)) = rw none refl in
    ap (λ z. behind (take i text) (ends_of z)) d ∙ ap (behind (take i text)) step
    ∙ behind_more (take i text) b (ends_of (drop (i + 1) text))
    ∙ ap (λ z. behind z (ends_of (drop (i + 1) text))) (sym (take_more text i 0 l))

-- if two full stops are at the index `i`, the texts are what is before and after them
pub ends_found : (text : List ℕ) (i : ℕ) → begins_dots (drop i text) ≡ true
    → behind (take i text) (ends_of (drop i text)) ≡ Some (take i text, drop (i + 2) text)
ends_found text i h =
    ap (behind (take i text)) (dots_found (drop i text) h)
    ∙ ap (λ z. Some (z, drop 2 (drop i text))) (append-nil (take i text)) ∙ ap (λ z. Some (take i text, z)) (drop-drop 2 i text)

-- past the end of the text there are no two full stops
pub ends_none : (text : List ℕ) (i : ℕ) → length text ≤ i → behind (take i text) (ends_of (drop i text)) ≡ None
unfolding ends_of
ends_none text i l = ap (λ z. behind (take i text) (ends_of z)) (drop_all i text l)

-- the subtags of pieces

-- a list, with `front` put before it; None if there is none
abbrev pub after : {A : Type 0} → List A → Option (List A) → Option (List A)
after front None = None
after front (Some rest) = Some (front ++ rest)

-- an element put before a list, and `front` before that, are one longer front
after_one : {A : Type 0} (front : List A) (x : A) (o : Option (List A))
    → after front (option_map (λ (rest : List A). x ∷ rest) o) ≡ after (front ++ x ∷ []) o
after_one front x None = refl
after_one front x (Some rest) = ap Some (sym (append_assoc front (x ∷ []) rest))

-- if the next piece is a subtag, it goes to those read, `front`, and the others are left; `all` are the pieces of the
-- whole text, `text` is what is left of that
pub piece_stays : (all front : List (List ℕ)) (text piece s : List ℕ) (rest : List (List ℕ))
    → subtags_of all ≡ after front (subtags_of (pieces text)) → pieces text ≡ piece ∷ rest → subtag_of piece ≡ Ok s
    → subtags_of all ≡ after (front ++ s ∷ []) (subtags_of rest)
unfolding subtags_of
piece_stays all front text piece s rest so_far cut h =
    so_far ∙ ap (λ z. after front (subtags_of z)) cut ∙ ap (λ z. after front (with_subtag z (subtags_of rest))) h
    ∙ after_one front s (subtags_of rest)

-- if the next piece is no subtag, the whole text is no list of subtags
pub piece_fails : (all front : List (List ℕ)) (text piece : List ℕ) (rest : List (List ℕ)) (fault : SubtagFault)
    → subtags_of all ≡ after front (subtags_of (pieces text)) → pieces text ≡ piece ∷ rest → subtag_of piece ≡ Err fault
    → subtags_of all ≡ None
unfolding subtags_of
piece_fails all front text piece rest fault so_far cut h =
    so_far ∙ ap (λ z. after front (subtags_of z)) cut ∙ ap (λ z. after front (with_subtag z (subtags_of rest))) h

-- if the last piece is a subtag, the whole text is the subtags read and that
pub piece_last : (all front : List (List ℕ)) (text piece s : List ℕ)
    → subtags_of all ≡ after front (subtags_of (pieces text)) → pieces text ≡ piece ∷ [] → subtag_of piece ≡ Ok s
    → subtags_of all ≡ Some (front ++ s ∷ [])
unfolding subtags_of
piece_last all front text piece s so_far cut h = piece_stays all front text piece s [] so_far cut h ∙ ap Some (append-nil (front ++ s ∷ []))

-- the Prefixes of fields

-- a turn for the field `f` at the index `i` of `r`: `front` are the Prefixes of the fields before it, and with those of
-- the others they are what `all` gives
module _ (name : List ℕ) (all r : List Field) (i : ℕ) (front : List (List (List ℕ))) (f : Field) (l : i < length r) (is : f ≡ get_or r i f)
    (so_far : prefixes_of (bodies name all) ≡ after front (prefixes_of (bodies name (drop i r)))) where
  -- the bodies from the index on are those of `f` and of the fields after it
  field_here : bodies name (drop i r) ≡ bodies name (f ∷ drop (i + 1) r)
  field_here = ap (bodies name) (drop_turn r i f l is)

  -- a field of another name gives no Prefix
  pub field_skipped : is_called name f ≡ false → prefixes_of (bodies name all) ≡ after front (prefixes_of (bodies name (drop (i + 1) r)))
  field_skipped h =
      let none : bodies name (f ∷ drop (i + 1) r) ≡ bodies name (drop (i + 1) r) = rw h refl in
      so_far ∙ ap (λ z. after front (prefixes_of z)) (field_here ∙ none)

  -- a field of the name gives its Prefix before those of the others
  called_step : is_called name f ≡ true
      → prefixes_of (bodies name all)
      ≡ after front (with_prefix (prefix_of f.1) (prefixes_of (bodies name (drop (i + 1) r))))
  unfolding prefixes_of
  called_step h =
      let one : bodies name (f ∷ drop (i + 1) r) ≡ f.1 ∷ bodies name (drop (i + 1) r) = rw h refl in
      so_far ∙ ap (λ z. after front (prefixes_of z)) (field_here ∙ one)

  -- a body that is a Prefix goes to those read
  pub field_taken : (p : List (List ℕ)) → is_called name f ≡ true → prefix_of f.1 ≡ Some p
      → prefixes_of (bodies name all) ≡ after (front ++ p ∷ []) (prefixes_of (bodies name (drop (i + 1) r)))
  field_taken p h g =
      called_step h ∙ ap (λ z. after front (with_prefix z (prefixes_of (bodies name (drop (i + 1) r))))) g
      ∙ after_one front p (prefixes_of (bodies name (drop (i + 1) r)))

  -- if a body is no list of subtags, the fields give no Prefixes
  pub field_fails : is_called name f ≡ true → prefix_of f.1 ≡ None → prefixes_of (bodies name all) ≡ None
  field_fails h g = called_step h ∙ ap (λ z. after front (with_prefix z (prefixes_of (bodies name (drop (i + 1) r))))) g

-- past the last field, the Prefixes read are all
pub no_field : (name : List ℕ) (r : List Field) (i : ℕ) (front : List (List (List ℕ))) → length r ≤ i
    → after front (prefixes_of (bodies name (drop i r))) ≡ Some front
unfolding prefixes_of
no_field name r i front l = ap (λ z. after front (prefixes_of (bodies name z))) (drop_all i r l) ∙ ap Some (append-nil front)

-- What the texts of a record's fields give.

-- a name of one subtag or of a range, or else the fault BadRange or BadSubtag
abbrev pub IsSubtagsResult : Result EntryName RecordFaultKind → Type 0
IsSubtagsResult (Ok (names.Whole t)) = ⊥
IsSubtagsResult (Err fault) = (fault ≡ faults.BadRange) ⊎ (fault ≡ faults.BadSubtag)
IsSubtagsResult _ = Unit {0}

-- what is read as one subtag is a name or a fault as in `IsSubtagsResult`
single_fits : (o : Option (List ℕ)) → IsSubtagsResult (single_of o)
single_fits None = inr refl
single_fits (Some n) = tt

-- what is read as a range is a name or a fault as in `IsSubtagsResult`
range_fits : (k : Kind) (a b : Result (List ℕ) SubtagFault) → IsSubtagsResult (range_of k a b)
range_fits k (Ok a) (Ok b) = elim (cases_Bool (is_range k a b)) [ inl e ↦ rw e tt | inr e ↦ rw e (inl refl) ]
range_fits k _ _ = inl refl

-- what a text of the field Subtag is read as is a name or a fault as in `IsSubtagsResult`; `o` are the texts around two
-- full stops, if it has such
pub name_fits : (k : Kind) (s : List ℕ) (o : Option (List ℕ × List ℕ)) → IsSubtagsResult (name_by k s o)
name_fits k s None = single_fits (formed (has_form k) (subtag_of s))
name_fits k s (Some ends) = range_fits k (subtag_of ends.0) (subtag_of ends.1)

-- a text that is read as a subtag names this subtag, since it has no full stop

-- letters and digits have no two full stops among them
no_dots : (s : List ℕ) → list_all is_ascii_alphanumeric s ≡ true → ends_of s ≡ None
unfolding ends_of
no_dots [] h = refl
no_dots (b ∷ s) h =
    let parts = and_parts (is_ascii_alphanumeric b) (list_all is_ascii_alphanumeric s) h in
    let letter : is_ascii_alphanumeric b ≡ true = parts.0 in
    let other : (b == 46) ≡ false = grind (arith, nat_tests) in
    rw (other, no_dots s parts.1) refl

-- a piece that is read as a subtag has only letters and digits
letters : (piece n : List ℕ) → subtag_of piece ≡ Ok n → list_all is_ascii_alphanumeric piece ≡ true
letters piece n h = grind (arith, nat_tests)

-- a subtag that passes the test of a form was read as a subtag
is_read : (test : List ℕ → Bool) (r : Result (List ℕ) SubtagFault) (n : List ℕ) → formed test r ≡ Some n → (m : List ℕ) × (r ≡ Ok m)
is_read test (Ok m) n h = (m, refl)
is_read test (Err fault) n h = cc

-- a text that is a subtag of the kind's form names it, and no range
pub subtag_named : (k : Kind) (s n : List ℕ) → formed (has_form k) (subtag_of s) ≡ Some n → name_by k s (ends_of s) ≡ Ok (names.Single n)
subtag_named k s n h =
    let read = is_read (has_form k) (subtag_of s) n h in
    ap (name_by k s) (no_dots s (letters s read.0 read.1)) ∙ ap single_of h

-- what reading a piece gives is a subtag
pub subtag_is : (piece n : List ℕ) → subtag_of piece ≡ Ok n → is_subtag n ≡ true
subtag_is piece n h =
    let same : n ≡ folded piece = grind (arith, nat_tests) in
    rw same (piece_folds piece (grind (arith, nat_tests)) (grind (arith, nat_tests)) (grind (arith, nat_tests)))

-- if a byte is put to the first of some pieces, there is at least one piece
some_more : (b : ℕ) (ps : List (List ℕ)) → 0 < length (onto_first b ps)
some_more b [] = omega arith
some_more b (p ∷ ps) = omega arith

-- a text has at least one piece
pub some_piece : (text : List ℕ) → 0 < length (pieces text)
some_piece [] = omega arith
some_piece (b ∷ bs) = grind (arith, nat_tests, some_more b (pieces bs))

-- the subtags of pieces

-- a subtag before `m` others is a list of one more; `piece` was read as `r`, and the others as `o`
subtags_at : (piece : List ℕ) (r : Result (List ℕ) SubtagFault) (o : Option (List (List ℕ))) (m : ℕ) (ss : List
    (List ℕ)) → ((n : List ℕ) → r ≡ Ok n → is_subtag n ≡ true)
    → ((ts : List (List ℕ)) → o ≡ Some ts → (list_all is_subtag ts ≡ true) × (length ts ≡ m))
    → with_subtag r o ≡ Some ss → (list_all is_subtag ss ≡ true) × (length ss ≡ suc m)
subtags_at piece (Ok n) (Some ts) m ss f g h =
    let same : n ∷ ts ≡ ss = cc in
    let rest = g ts refl in (
      ap (list_all is_subtag) (sym same) ∙ and_from (is_subtag n) (list_all is_subtag ts) (f n refl) rest.0,
      ap length (sym same) ∙ ap suc rest.1,
    )
subtags_at piece _ _ m ss f g h = cc

-- what pieces are read as are subtags, as many as the pieces
pub subtags_are : (ps ss : List (List ℕ)) → subtags_of ps ≡ Some ss → (list_all is_subtag ss ≡ true) × (length ss ≡ length ps)
unfolding subtags_of
subtags_are [] ss h = let same : [] ≡ ss = cc in (ap (list_all is_subtag) (sym same), ap length (sym same))
subtags_are (p ∷ ps) ss h = subtags_at p (subtag_of p) (subtags_of ps) (length ps) ss (subtag_is p) (subtags_are ps) h

-- what a text is read as is a Prefix: a list of one subtag or more
pub prefix_is : (s : List ℕ) (p : List (List ℕ)) → prefix_of s ≡ Some p → IsPrefix p
prefix_is s p h =
    let r = subtags_are (pieces s) p h in
    record { subtags = r.0; some = subst (λ n. 0 < n) (sym r.1) (some_piece s) }

-- a Prefix before others makes a list of Prefixes; they were read as `o` and `rest`
prefixes_at : (o : Option (List (List ℕ))) (rest : Option (List (List (List ℕ)))) (ps : List (List (List ℕ)))
    → ((p : List (List ℕ)) → o ≡ Some p → IsPrefix p)
    → ((qs : List (List (List ℕ))) → rest ≡ Some qs → AllByRecursion IsPrefix qs) → with_prefix o rest ≡ Some ps
    → AllByRecursion IsPrefix ps
prefixes_at (Some p) (Some qs) ps f g h = let same : p ∷ qs ≡ ps = cc in subst (AllByRecursion IsPrefix) same (f p refl, g qs refl)
prefixes_at _ _ ps f g h = cc

-- what texts are read as are Prefixes
pub prefixes_are : (ss : List (List ℕ)) (ps : List (List (List ℕ))) → prefixes_of ss ≡ Some ps → AllByRecursion IsPrefix ps
unfolding prefixes_of
prefixes_are [] ps h = let same : [] ≡ ps = cc in subst (AllByRecursion IsPrefix) same tt
prefixes_are (s ∷ ss) ps h = prefixes_at (prefix_of s) (prefixes_of ss) ps (prefix_is s) (prefixes_are ss) h
