-- Lemmas for `look_up_in_row`, which reads the names of a heading one after another, lists them and compares each with
-- the name that is looked for: what is true of the names so far is true with one more.
use Rattle.std.proofs.Common.{◌≡◌, ◌≢◌, ◌+◌, ◌++◌, ◌∷◌, ◌∙◌, ℕ, Bool, true, false, List, [], inl, inr, length, nat_lt}
use Rattle.std.proofs.Common.{sym, ap, refl, subst, arith, append_assoc, append-nil, length-append}
use Rattle.std.proofs.lemmas.Bool.{cases_Bool, ltb-false, ltb-true}
use Rattle.std.proofs.lemmas.List.{flat_map_more, nil_from_length, take-append-le, take_all}
use Rattle.lt_rows.specs.Rows.{HasField, IsAfterField, IsClosed, IsEnded, IsRowField, separated, separator}
use Rattle.lt_rows.specs.declared.rows.Separator.{Separator}
use Rattle.lt_rows.proofs.RowLemmas.{each-last}
use Rattle.lt_heading.specs.Names.{AreNames, IsFound, IsNameOf, IsRepeated, LooksSo, found_then, listed_after}
use Rattle.lt_heading.specs.Names.{listed_names, most_listed, rest_said, shown_name, shown_names}
use Rattle.lt_heading.specs.declared.names.Found.{Found}
use Rattle.lt_heading.specs.declared.names.Found.TheVariants as founds

-- ---- where a name stands

-- a name that is more than one of `names` stays so when `other` is appended to them
repeated_more : (name : List ℕ) (names : List (List ℕ)) (other : List ℕ) → IsRepeated name names → IsRepeated name (names ++ other ∷ [])
repeated_more name names other f = record {
  first = f.first;
  between = f.between;
  last = f.last ++ other ∷ [];
  cut = ap (λ l. l ++ other ∷ []) f.cut ∙ append_assoc f.first (name ∷ (f.between ++ name ∷ f.last)) (other ∷ [])
      ∙ ap (λ l. f.first ++ name ∷ l) (append_assoc f.between (name ∷ f.last) (other ∷ []));
}

-- if `found` tells where `name` stands among `names`, `found_then` tells it among these and one more, `other`, which
-- has this number, counted from 1; `is` says whether `other` is `name`
pub found_more : (name : List ℕ) (names : List (List ℕ)) (found : Found) (number : ℕ) (is : Bool) (other : List ℕ)
    → number ≡ length names + 1
    → (is ≡ true → other ≡ name) → (other ≡ name → is ≡ true) → IsFound name names found
    → IsFound name (names ++ other ∷ []) (found_then found number is)
found_more name names founds.Missing number false other n same same_is f = each-last (λ o. o ≢ name) names other f
    (λ e. let bad : false ≡ true = same_is e in cc)
found_more name names (founds.Only m) number false other n same same_is f = record {
  first = f.first;
  others = f.others ++ other ∷ [];
  cut = ap (λ l. l ++ other ∷ []) f.cut ∙ append_assoc f.first (name ∷ f.others) (other ∷ []);
  number_is = f.number_is;
  none_before = f.none_before;
  none_after = each-last (λ o. o ≢ name) f.others other f.none_after (λ e. let bad : false ≡ true = same_is e in cc);
}
found_more name names founds.Repeated number false other n same same_is f = repeated_more name names other f
found_more name names founds.Missing number true other n same same_is f = record {
  first = names;
  others = [];
  cut = ap (λ o. names ++ o ∷ []) (same refl);
  number_is = n;
  none_before = f;
  none_after = tt;
}
found_more name names (founds.Only m) number true other n same same_is f = record {
  first = f.first;
  between = f.others;
  last = [];
  cut = ap (λ l. l ++ other ∷ []) f.cut ∙ append_assoc f.first (name ∷ f.others) (other ∷ [])
      ∙ ap (λ o. f.first ++ name ∷ (f.others ++ o ∷ [])) (same refl);
}
found_more name names founds.Repeated number true other n same same_is f = repeated_more name names other f

-- ---- the list of names

-- the list of `names` and a further one is longer by what is appended for that
listed_more : (names : List (List ℕ)) (name : List ℕ) (count : ℕ) → count ≡ length names
    → listed_names names ++ listed_after count name ≡ listed_names (names ++ name ∷ [])
listed_more names name count is = elim (cases_Bool (nat_lt count most_listed)) [
  | inl few ↦
      let less = ltb-true _ _ few in
      rw (
        few,
        take_all most_listed names (omega (arith, is, less)),
        take_all most_listed (names ++ name ∷ [])
            (omega (arith, is, less, length-append names (name ∷ []))),
      ) (flat_map_more shown_name [] names name)
  | inr many ↦
      let least = ltb-false _ _ many in
      rw (many, take-append-le most_listed names (name ∷ []) (omega (arith, is, least))) (append-nil (listed_names names))
]

-- ---- the fields of a row

-- a row whose first field is `field` is that field and what is after it
pub first_is : (S : Separator) (row front field after : List ℕ) → HasField S 0 row front field after → row ≡ field ++ after
first_is S row front field after h =
    let none : front ≡ [] = h.front_is ∙ ap (separated S) (nil_from_length h.before h.number) in
    rw none at h.row_is

-- if what is after a field begins with a byte, that is the separator, and the field does not end within quotes
pub after_is : (S : Separator) (field after more : List ℕ) (byte : ℕ) → IsAfterField S field after → after ≡ byte ∷ more
    → IsClosed S field × (after ≡ separator S ∷ more)
after_is S field after more byte (inl none) is = let bad : [] ≡ byte ∷ more = sym none ∙ is in cc
after_is S field after more byte (inr e) is =
    let both : separator S ∷ e.0 ≡ byte ∷ more = sym e.2 ∙ is in
    let tails : e.0 ≡ more = cc in
    (e.1, e.2 ∙ ap (λ l. separator S ∷ l) tails)

-- `names` are those of the fields of `row` before `rest`, whose first field is `field`, named `name`, with a
-- separator after it: then `names` and `name` are those of the fields before `more`
names_more : (S : Separator) (row rest field more name : List ℕ) (names : List (List ℕ))
    → ((others : List (List ℕ)) → AreNames S rest others → AreNames S row (names ++ others))
    → IsEnded S field → rest ≡ field ++ separator S ∷ more → IsNameOf S field name
    → (others : List (List ℕ)) → AreNames S more others → AreNames S row ((names ++ name ∷ []) ++ others)
names_more S row rest field more name names so one cut is [] are = absurd are
names_more S row rest field more name names so one cut is (next ∷ others) are =
    subst (AreNames S row) (sym (append_assoc names (name ∷ []) (next ∷ others)))
    (so (name ∷ next ∷ others) (field, more, one, cut, is, are))

-- the next turn of the look-up of `name` in `row`: the first field of `rest`, with a separator after it, gives the
-- name `other`; `is` says whether that is `name`, and `more` is the new rest
pub looks_next : (S : Separator) (row rest field more name other : List ℕ) (found : Found) (listed : List ℕ) (count : ℕ) (is : Bool)
    → LooksSo S row rest name found listed count → IsEnded S field → rest ≡ field ++ separator S ∷ more → IsNameOf S field other
    → (is ≡ true → other ≡ name) → (other ≡ name → is ≡ true)
    → LooksSo S row more name (found_then found (count + 1) is) (listed ++ listed_after count other) (count + 1)
looks_next S row rest field more name other found listed count is l one cut named same same_is = record {
  names = l.names ++ other ∷ [];
  are_names = names_more S row rest field more other l.names l.are_names one cut named;
  number = ap (λ n. n + 1) l.number ∙ sym (length-append l.names (other ∷ []));
  is_found = found_more name l.names found (count + 1) is other (ap (λ n. n + 1) l.number) same same_is l.is_found;
  listed_is = ap (λ t. t ++ listed_after count other) l.listed_is ∙ listed_more l.names other count l.number;
  room = omega (arith, l.room, ap length cut, length-append field (separator S ∷ more));
}

-- the last turn of the look-up of `name` in `row`: all of `rest` is one field, which gives the name `other`; so
-- `names` are those of the whole row
pub looks_last : (S : Separator) (row rest name other : List ℕ) (found : Found) (listed : List ℕ) (count : ℕ) (is : Bool)
    → LooksSo S row rest name found listed count → IsRowField S rest → IsNameOf S rest other
    → (is ≡ true → other ≡ name) → (other ≡ name → is ≡ true)
    → (names : List (List ℕ)) × AreNames S row names × IsFound name names (found_then found (count + 1) is)
    × ((listed ++ listed_after count other) ++ rest_said (count + 1) ≡ shown_names names)
looks_last S row rest name other found listed count is l one named same same_is = (
  l.names ++ other ∷ [],
  l.are_names (other ∷ []) (one, named),
  found_more name l.names found (count + 1) is other (ap (λ n. n + 1) l.number) same same_is l.is_found,
  ap (λ t. (t ++ listed_after count other) ++ rest_said (count + 1)) l.listed_is
      ∙ ap (λ t. t ++ rest_said (count + 1)) (listed_more l.names other count l.number)
      ∙ ap (λ n. listed_names (l.names ++ other ∷ []) ++ rest_said n) (ap (λ n. n + 1) l.number ∙ sym (length-append l.names (other ∷ []))),
)
