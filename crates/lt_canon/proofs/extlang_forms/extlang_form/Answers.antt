use Rattle.std.proofs.Common.{◌≡◌, inl, [], ◌∷◌, Some, sym}
use Rattle.lt_canon.proofs.CanonicalForms.{extlang_answer, extlang_form_is, no_extlang, front_spells_none, IsFittingPrefix, fitting_prefix}
use Rattle.lt_canon.proofs.extlang_forms.extlang_form.Goals as goal
use Rattle.lt_canon.proofs.extlang_forms.extlang_form.Goals.{In-Some-extlang_prefix, After-set_extlang}

-- as an extlang the language has this one Prefix, which is a registered language
fitting : (g : _) (c : In-Some-extlang_prefix g)
    → IsFittingPrefix (g.L.Lookup.listed c.args.checked.now) c.in-Some.canonical_core.now.language
    c.in-Some-extlang_prefix.prefix.now
fitting g c = fitting_prefix (g.L.Lookup.listed c.args.checked.now) c.table-table.ensures.checked
    c.in-Some.canonical_core.now.language c.in-Some-extlang_prefix.prefix.now
    (rw (← c.table-table.ensures.value, ← c.language.ensures.value) (sym c.in-Some-extlang_prefix.ensures))

-- the core with the Prefix in front
fronted : (g : _) (c : After-set_extlang g)
    → c.set_extlang.new.self ≡ record c.in-Some.canonical_core.now {
      language = c.in-Some-extlang_prefix.prefix.now;
      extlangs = c.in-Some.canonical_core.now.language ∷ [];
    }
fronted g c = rw (
  c.set_extlang.ensures,
  c.set_language.ensures,
  c.in_ok-core.ensures {u = tt},
  c.copy-2.ensures,
  c.copy-3.ensures,
  c.language-2.ensures.value,
)

-- `set_language` may be called, which asks that an extlang can follow: the Prefix is a language of 2 or 3 letters
pub set_language-requires : goal.set_language-requires
set_language-requires g c =
    let f = fitting g (goal.at.set_language-requires g c).In-Some-extlang_prefix in
    record { language = rw c.copy-2.ensures f.prefix; short_before_extlangs = λ _. rw c.copy-2.ensures f.short }

-- `set_extlang` may be called: the language has the form of an extlang, and the canonical core has none, but now a
-- short language in front
pub set_extlang-requires : goal.set_extlang-requires
set_extlang-requires g c =
    let f = fitting g (goal.at.set_extlang-requires g c).In-Some-extlang_prefix in
    record {
      extlang = rw (c.copy-3.ensures, c.language-2.ensures.value) f.extlang;
      none_there = rw (c.set_language.ensures, c.in_ok-core.ensures {u = tt})
          (no_extlang (g.L.Lookup.listed c.args.checked.now) c.table-table.ensures.checked c.in_ok-form.form
          c.in-Some.canonical_core.now (c.in_ok-form.ensures {u = tt}).ok.canonical (sym c.in-Some.ensures.value));
      short_before = rw (c.set_language.ensures, c.copy-2.ensures) f.short;
    }

-- a tag may be made of the core with the Prefix in front, which must spell no grandfathered tag: a canonical core so
-- changed spells none
pub from_parts-requires-clause-not_grandfathered :
    goal.from_parts-requires-clause-not_grandfathered
from_parts-requires-clause-not_grandfathered g c =
    let at = goal.at.from_parts-requires-clause-not_grandfathered g c in
    inl (rw (fronted g at.After-set_extlang) (front_spells_none (g.L.Lookup.listed c.args.checked.now)
    c.table-table.ensures.checked c.in_ok-form.form c.in-Some.canonical_core.now c.in-Some-extlang_prefix.prefix.now
    (c.in_ok-form.ensures {u = tt}).ok.canonical (sym c.in-Some.ensures.value)
    (fitting g at.In-Some-extlang_prefix).found))

-- the answer is the extlang form: the canonical form with the Prefix of its language in front
pub returns-clause-form : goal.returns-clause-form
returns-clause-form g c =
    let at = goal.at.returns-clause-form g c in
    let form = c.in_ok-form.form in
    extlang_answer (g.L.Lookup.listed c.args.checked.now) c.table-table.ensures.checked c.args.tag.now form
    c.from_parts.result (c.in_ok-form.ensures {u = tt}).ok
    (rw (
      c.from_parts.ensures,
      fronted g at.After-set_extlang,
      c.in_ok-extensions.ensures {u = tt},
      c.extensions.ensures.value,
      c.in_ok-private.ensures {u = tt},
      c.private.ensures.value,
    )
    (sym (extlang_form_is (g.L.Lookup.listed c.args.checked.now) form c.in-Some.canonical_core.now
    (Some c.in-Some-extlang_prefix.prefix.now) (sym c.in-Some.ensures.value)
    (fitting g at.In-Some-extlang_prefix).found)))
