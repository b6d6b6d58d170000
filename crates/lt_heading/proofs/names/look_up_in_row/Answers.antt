use Rattle.std.proofs.Common.{◌≡◌, ◌∙◌, ◌+◌, ◌++◌, Bool, ℕ, List, true, bytes_eq, string_bytes, ap, append-nil, subst, sym}
use Rattle.std.proofs.lemmas.List.{nil_from_length}
use Rattle.std.proofs.lemmas.Slice.Eq.{bytes_eq-Decides}
use Rattle.lt_rows.specs.Rows.{IsRowField}
use Rattle.std.proofs.lemmas.Result.{IfOk-weaker}
use Rattle.lt_heading.specs.Names.{AreNames, IsFound, IsNameOf, listed_after, rest_said, shown_names}
use Rattle.lt_heading.specs.declared.names.Looked.{Looked}
use Rattle.lt_heading.proofs.NameLemmas.{after_is, first_is, looks_last, looks_next}
use Rattle.lt_heading.proofs.names.look_up_in_row.Goals as goal

-- The clause of `look_up_in_row` where the last field of the row was looked at, and the invariant after a turn.

-- the answer `r` of a comparison is true exactly if the two lists are equal
same_of : (r : Bool) (xs ys : List ℕ) → r ≡ bytes_eq xs ys → (r ≡ true → xs ≡ ys) × (xs ≡ ys → r ≡ true)
same_of r xs ys is = rw is (bytes_eq-Decides xs ys)

-- the field is the last of the row, so its name is the last that is compared and listed
pub returns-in-None : goal.returns-in-None
returns-in-None c =
    let S = c.args.separator in
    let held = c.loop-field in
    let field = c.in-Some.field.now in
    let whole = first_is S held.rest.now _ field c.in-Some.after.now c.in-Some.ensures
    ∙ ap (λ l. field ++ l) (nil_from_length c.in-Some.after.now c.in-None.ensures.cases) ∙ append-nil field in
    let other = c.in_ok-other.other.items in
    let same = same_of c.eq.result other c.args.name.now (rw c.as_slice.ensures.value at c.eq.ensures) in
    let found = looks_last S c.args.row.now held.rest.now c.args.name.now other held.found (string_bytes held.listed)
    held.count c.eq.result held.invariant
    (subst (IsRowField S) (sym whole) c.in-Some.ensures.one)
    (subst (λ l. IsNameOf S l other) (sym whole) c.in_ok-other.ensures) same.0 same.1 in
    let names = found.0 in
    IfOk-weaker c.looked_among.result
    (λ (looked : Looked). (looked.found ≡ c.with-found.result)
    × (string_bytes looked.listed ≡ string_bytes c.append_listed.new.listed ++ rest_said (held.count + 1)))
    (λ (looked : Looked). (names : List (List ℕ)) × AreNames c.args.separator c.args.row.now names
    × IsFound c.args.name.now names looked.found × (string_bytes looked.listed ≡ shown_names names))
    (λ looked l. (
      names,
      found.1,
      rw (l.0, c.with-found.ensures) found.2,
      l.1 ∙ ap (λ t. t ++ rest_said (held.count + 1)) (c.in_ok-append_listed.ensures
          ∙ ap (λ n. string_bytes held.listed ++ listed_after held.count n) c.deref.ensures.value) ∙ found.3,
    )) c.looked_among.ensures

-- a turn compares and lists one name more; the rest begins after the separator
pub loop-field-preserved : goal.loop-field-preserved
loop-field-preserved c =
    let S = c.args.separator in
    let held = c.loop-field in
    let field = c.in-Some.field.now in
    let more = c.in-Some-split_first.more.now in
    let ends = after_is S field c.in-Some.after.now more _ c.in-Some.ensures.ends c.in-Some-split_first.ensures.cases.0 in
    let cut = first_is S held.rest.now _ field c.in-Some.after.now c.in-Some.ensures ∙ ap (λ l. field ++ l) ends.1 in
    let other = c.in_ok-other.other.items in
    let same = same_of c.eq.result other c.args.name.now (rw c.as_slice.ensures.value at c.eq.ensures) in
    let next = looks_next S c.args.row.now held.rest.now field more c.args.name.now other held.found
    (string_bytes held.listed) held.count c.eq.result held.invariant
    (record { field = c.in-Some.ensures.one; closed = ends.0 }) cut c.in_ok-other.ensures same.0 same.1 in
    rw (c.with-found.ensures, c.in_ok-append_listed.ensures, c.deref.ensures.value) next
