-- A text is read as a range exactly if it is that range by the grammar (RFC 4647, 2.2): the law
-- `ranges_are_read_by_their_grammar`. A piece is a *written form* of a subtag or of `*` if it is that, letter case
-- aside.
use Rattle.std.proofs.Common.{◌≡◌, ℕ, Bool, true, false, List, [], ◌∷◌, ◌++◌, map, cond, refl, sym, ap, ◌∙◌, subst, arith}
use Rattle.std.specs.Prelude.{◌↔◌, Option, Some, None, option_to_list, Result, Ok, Err}
use Rattle.std.specs.List.{list_all}
use Rattle.std.specs.Option.{option_map_or}
use Rattle.std.specs.Char.{is_ascii_alphanumeric, to_ascii_lowercase}
use Rattle.std.proofs.lemmas.Bool.{and_parts, and_from}
use Rattle.std.proofs.lemmas.Bool.Decides.{nat_tests}
use Rattle.std.proofs.lemmas.List.{length-map}
use Rattle.lt_subtag.specs.Bytes.{is_subtag, is_subtag_byte, folded}
use Rattle.lt_subtag.specs.Shapes.{is_alphabetic}
use Rattle.lt_subtag.specs.Reading.{subtag_of}
use Rattle.lt_subtag.specs.declared.SubtagFault.{SubtagFault}
use Rattle.lt_tag.specs.Lists.{pieces}
use Rattle.lt_tag.proofs.ListedLemmas.{subtag_is}
use Rattle.lt_range.specs.Ranges.{RangeForm, RangeParts, IsLanguageRange, is_first, written, named_of, parts_of}
use Rattle.lt_range.specs.Reading.{is_star, of_subtag, of_first, later_piece, first_piece, with_piece, later_pieces}
use Rattle.lt_range.specs.Reading.{begun, range_of_pieces, range_of}
use Rattle.lt_range.specs.Ranges.{IsRangeOf}
use Rattle.lt_range.specs.declared.faults.RangeFault.{RangeFault}
use Rattle.lt_range.specs.declared.faults.RangeFault.TheVariants as faults

-- a piece that is `*` is the one byte 42
star_is : (p : List ℕ) → is_star p ≡ true → p ≡ 42 ∷ []
star_is [] h = cc
star_is (b ∷ []) h = let e : b ≡ 42 = grind (arith, nat_tests) in ap (λ (x : ℕ). x ∷ []) e
star_is (b ∷ c ∷ bs) h = cc

-- a piece whose lower case is `*` is `*`
star_back : (p : List ℕ) → folded p ≡ 42 ∷ [] → is_star p ≡ true
star_back [] h = cc
star_back (b ∷ []) h = let e : to_ascii_lowercase b ≡ 42 = cc in grind (arith, nat_tests)
star_back (b ∷ c ∷ bs) h = cc

-- letters and digits, put in lower case, are bytes that a subtag may have
bytes_to_lower : (p : List ℕ) → list_all is_ascii_alphanumeric p ≡ true → list_all is_subtag_byte (folded p) ≡ true
bytes_to_lower [] h = refl
bytes_to_lower (b ∷ p) h = grind (arith, nat_tests, bytes_to_lower p)

-- bytes whose lower case a subtag may have are letters and digits
bytes_from_lower : (p : List ℕ) → list_all is_subtag_byte (folded p) ≡ true → list_all is_ascii_alphanumeric p ≡ true
bytes_from_lower [] h = refl
bytes_from_lower (b ∷ p) h = grind (arith, nat_tests, bytes_from_lower p)

-- a piece that is read as a subtag is one in lower case
subtag_read : (p s : List ℕ) → subtag_of p ≡ Ok s → is_subtag (folded p) ≡ true
unfolding is_subtag
subtag_read p s h = grind (arith, nat_tests, length-map p to_ascii_lowercase, bytes_to_lower p)

-- a piece that is a subtag in lower case is read as that
subtag_back : (p : List ℕ) → is_subtag (folded p) ≡ true → subtag_of p ≡ Ok (folded p)
unfolding is_subtag
subtag_back p h = grind (arith, nat_tests, length-map p to_ascii_lowercase, bytes_from_lower p)

-- a piece that is a subtag in lower case is not `*`
no_star : (p : List ℕ) → is_subtag (folded p) ≡ true → is_star p ≡ false
unfolding is_subtag
no_star [] h = refl
no_star (b ∷ []) h = grind (arith, nat_tests)
no_star (b ∷ c ∷ bs) h = refl

-- the piece `p` is how `o` is written, letter case aside, and `o` is `*` (None) or a subtag that passes the test
record IsForm (test : List ℕ → Bool) (p : List ℕ) (o : Option (List ℕ)) : Type 0 where
  same : written o ≡ folded p
  fits : option_map_or test o true ≡ true

-- a piece after the first that is read as `o` is a written form of `o`
later_form : (p : List ℕ) (o : Option (List ℕ)) → later_piece p ≡ Ok o → IsForm is_subtag p o
later_form p o h = go (is_star p) refl (subtag_of p) refl h
  where
    go : (star : Bool) → is_star p ≡ star → (r : Result (List ℕ) SubtagFault) → subtag_of p ≡ r
        → cond star (Ok None) (of_subtag r) ≡ Ok o → IsForm is_subtag p o
    go true e r k g = subst (IsForm is_subtag p) (let n : None ≡ o = cc in n) (record { same = sym (ap folded (star_is p e)); fits = refl })
    go false e (Err fault) k g = absurd (cc)
    go false e (Ok s) k g = subst (IsForm is_subtag p) (let n : Some s ≡ o = cc in n)
        (record { same = subtag_is p s k; fits = ap is_subtag (subtag_is p s k) ∙ subtag_read p s k })

-- a piece after the first that is a written form of `o` is read as `o`
later_back : (p : List ℕ) (o : Option (List ℕ)) → IsForm is_subtag p o → later_piece p ≡ Ok o
later_back p None f = rw (star_back p (sym f.same)) refl
later_back p (Some s) f =
    let fits : is_subtag (folded p) ≡ true = ap is_subtag (sym f.same) ∙ f.fits in
    rw (no_star p fits, subtag_back p fits) (ap (λ (x : List ℕ). Ok (Some x)) (sym f.same))

-- a first piece that is read as `o` is a written form of `o`
first_form : (p : List ℕ) (o : Option (List ℕ)) → first_piece p ≡ Ok o → IsForm is_first p o
first_form p o h = go (is_star p) refl (subtag_of p) refl h
  where
    -- a first piece that is read as a subtag of only letters is a written form of the `o` that it is read as
    letters : (s : List ℕ) (a : Bool) → is_alphabetic s ≡ a → subtag_of p ≡ Ok s
        → cond a (Ok (Some s)) (Err faults.BadFirst) ≡ Ok o → IsForm is_first p o
    letters s false e k g = absurd (cc)
    letters s true e k g =
        let is = subtag_is p s k in
        subst (IsForm is_first p) (let n : Some s ≡ o = cc in n)
        (record { same = is; fits = and_from (is_subtag s) (is_alphabetic s) (ap is_subtag is ∙ subtag_read p s k) e })

    go : (star : Bool) → is_star p ≡ star → (r : Result (List ℕ) SubtagFault) → subtag_of p ≡ r
        → cond star (Ok None) (of_first r) ≡ Ok o → IsForm is_first p o
    go true e r k g = subst (IsForm is_first p) (let n : None ≡ o = cc in n) (record { same = sym (ap folded (star_is p e)); fits = refl })
    go false e (Err fault) k g = absurd (cc)
    go false e (Ok s) k g = letters s (is_alphabetic s) refl k g

-- a first piece that is a written form of `o` is read as `o`
first_back : (p : List ℕ) (o : Option (List ℕ)) → IsForm is_first p o → first_piece p ≡ Ok o
first_back p None f = rw (star_back p (sym f.same)) refl
first_back p (Some s) f =
    let parts = and_parts (is_subtag s) (is_alphabetic s) f.fits in
    let fits : is_subtag (folded p) ≡ true = ap is_subtag (sym f.same) ∙ parts.0 in
    let read : subtag_of p ≡ Ok s = subtag_back p fits ∙ ap (λ (x : List ℕ). Ok x) (sym f.same) in
    rw (no_star p fits, read, parts.1) refl

-- the pieces `ps` after the first are how some subtags and `*` are written, and `named` are these subtags without `*`
record AreForms (ps named : List (List ℕ)) : Type 0 where
  others : RangeForm
  same : map written others ≡ map folded ps
  fit : list_all (λ o. option_map_or is_subtag o true) others ≡ true
  is : named ≡ named_of others

-- the subtags of a range with `o` in front are `o`, if it is a subtag, and then those of the range
named_more : (o : Option (List ℕ)) (os : RangeForm) → option_to_list o ++ named_of os ≡ named_of (o ∷ os)
named_more None os = refl
named_more (Some s) os = refl

-- neither of two readings, `a` of one piece and `b` of those after it, has a fault
record AreRead (a : Result (Option (List ℕ)) RangeFault) (b : Result (List (List ℕ)) RangeFault) : Type 0 where
  here : Option (List ℕ)
  others : List (List ℕ)
  here_is : a ≡ Ok here
  others_are : b ≡ Ok others

-- if a piece and those after it are read as the subtags `named`, neither reading has a fault, and `named` are what they
-- read
with_piece_ok : (a : Result (Option (List ℕ)) RangeFault) (b : Result (List (List ℕ)) RangeFault) (named : List
    (List ℕ)) → with_piece a b ≡ Ok named
    → (r : AreRead a b) × (named ≡ option_to_list r.here ++ r.others)
with_piece_ok (Err fault) b named h = absurd (cc)
with_piece_ok (Ok s) (Err fault) named h = absurd (cc)
with_piece_ok (Ok s) (Ok others) named h = (
  record { here = s; others = others; here_is = refl; others_are = refl },
  let e : named ≡ option_to_list s ++ others = cc in e,
)

-- pieces after the first that are read as subtags are written forms of these and of `*`
later_forms : (ps named : List (List ℕ)) → later_pieces ps ≡ Ok named → AreForms ps named
unfolding later_pieces
later_forms [] named h = record { others = []; same = refl; fit = refl; is = cc }
later_forms (p ∷ ps) named h =
    let r = with_piece_ok (later_piece p) (later_pieces ps) named h in
    let f = later_form p r.0.here r.0.here_is in
    let fs = later_forms ps r.0.others r.0.others_are in
    record {
      others = r.0.here ∷ fs.others;
      same = ap (λ (s : List ℕ). s ∷ map written fs.others) f.same ∙ ap (λ (l : List (List ℕ)). folded p ∷ l) fs.same;
      fit = and_from (option_map_or is_subtag r.0.here true) (list_all (λ o. option_map_or is_subtag o true) fs.others) f.fits fs.fit;
      is = r.1 ∙ ap (λ (l : List (List ℕ)). option_to_list r.0.here ++ l) fs.is ∙ named_more r.0.here fs.others;
    }

-- pieces after the first that are written forms of subtags and `*` are read as these subtags
later_forms_back : (ps : List (List ℕ)) (os : RangeForm) → map written os ≡ map folded ps
    → list_all (λ o. option_map_or is_subtag o true) os ≡ true → later_pieces ps ≡ Ok (named_of os)
unfolding later_pieces
later_forms_back [] [] e h = refl
later_forms_back [] (o ∷ os) e h = absurd (cc)
later_forms_back (p ∷ ps) [] e h = absurd (cc)
later_forms_back (p ∷ ps) (o ∷ os) e h =
    let fit = and_parts (option_map_or is_subtag o true) (list_all (λ q. option_map_or is_subtag q true) os) h in
    let here : written o ≡ folded p = cc in
    let others : map written os ≡ map folded ps = cc in
    rw (later_back p o (record { same = here; fits = fit.0 }), later_forms_back ps os others fit.1)
    (ap (λ (l : List (List ℕ)). Ok l) (named_more o os))

-- if a first piece and those after it are read as a range, neither reading has a fault, and the range has what they
-- read
begun_ok : (a : Result (Option (List ℕ)) RangeFault) (b : Result (List (List ℕ)) RangeFault) (range : RangeParts) → begun a b ≡ Ok range
    → (r : AreRead a b) × ((os : RangeForm) → r.others ≡ named_of os → range ≡ parts_of (r.here ∷ os))
begun_ok (Err fault) b range h = absurd (cc)
begun_ok (Ok s) (Err fault) range h = absurd (cc)
begun_ok (Ok None) (Ok named) range h = (
  record { here = None; others = named; here_is = refl; others_are = refl },
  λ os e. let n : range ≡ record { wild = true; named = named } = cc in n ∙ ap (λ (l : List (List ℕ)). record { wild = true; named = l }) e,
)
begun_ok (Ok (Some s)) (Ok named) range h = (
  record { here = Some s; others = named; here_is = refl; others_are = refl },
  λ os e. let n : range ≡ record { wild = false; named = s ∷ named } = cc in
      n ∙ ap (λ (l : List (List ℕ)). record { wild = false; named = s ∷ l }) e,
)

-- a text whose pieces `ps` are read as a range is that range by the grammar
read_range : (text : List ℕ) (ps : List (List ℕ)) (range : RangeParts) → ps ≡ pieces text
    → range_of_pieces ps ≡ Ok range → IsRangeOf text range
read_range text [] range cut h = absurd (cc)
read_range text (p ∷ ps) range cut h =
    let r = begun_ok (first_piece p) (later_pieces ps) range h in
    let f = first_form p r.0.here r.0.here_is in
    let fs = later_forms ps r.0.others r.0.others_are in
    record {
      form = r.0.here ∷ fs.others;
      has = record {
        range = (f.fits, fs.fit);
        spelled = ap (λ (s : List ℕ). s ∷ map written fs.others) f.same
            ∙ ap (λ (l : List (List ℕ)). folded p ∷ l) fs.same ∙ ap (map folded) cut;
      };
      is = r.1 fs.others fs.is;
    }

-- pieces that are written forms of a range's subtags are read as that range
range_read : (ps : List (List ℕ)) (form : RangeForm) → IsLanguageRange form → map written form ≡ map folded ps
    → range_of_pieces ps ≡ Ok (parts_of form)
range_read ps [] fits e = absurd fits
range_read [] (o ∷ os) fits e = absurd (cc)
range_read (p ∷ ps) (o ∷ os) fits e =
    let here : written o ≡ folded p = cc in
    let others : map written os ≡ map folded ps = cc in
    rw (first_back p o (record { same = here; fits = fits.0 }), later_forms_back ps os others fits.1) (parts o)
  where
    -- a first piece that is read as `q`, and the subtags after it, make the range with the parts of their form
    parts : (q : Option (List ℕ)) → begun (Ok q) (Ok (named_of os)) ≡ Ok (parts_of (q ∷ os))
    parts None = refl
    parts (Some s) = refl

-- a text is read as a range exactly if it is that range by the grammar
pub read_by_grammar : (text : List ℕ) (range : RangeParts) → (range_of text ≡ Ok range) ↔ IsRangeOf text range
read_by_grammar text range = (
  λ h. read_range text (pieces text) range refl h,
  λ r. range_read (pieces text) r.form r.has.range r.has.spelled ∙ ap (λ (x : RangeParts). Ok x) (sym r.is),
)
