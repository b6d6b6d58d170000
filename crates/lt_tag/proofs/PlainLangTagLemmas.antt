-- `is_plain_langtag` keeps no core while it reads a list, but only what may follow (its *room*): that is enough to tell
-- whether the list is that of a langtag without extensions and private use.
use Rattle.std.proofs.Common.{◌≡◌, ◌↔◌, ℕ, ◌≤◌, ◌<◌, ◌+◌, Bool, true, false, not, List, [], ◌∷◌, ◌++◌, length, get_or}
use Rattle.std.proofs.Common.{refl, sym, ap, ◌∙◌, arith, IsTrue, IfSome, IfNone, is_some}
use Rattle.std.specs.Prelude.{Option, Some, None, option_map}
use Rattle.std.proofs.lemmas.List.{length-append}
use Rattle.lt_subtag.specs.Shapes.{is_language}
use Rattle.lt_tag.specs.Parts.{CoreParts}
use Rattle.lt_tag.specs.Grandfathered.{IsGrandfathered}
use Rattle.lt_tag.specs.WellFormed.{IsNotGrandfathered}
use Rattle.lt_tag.specs.Growth.{of_language, grown}
use Rattle.lt_tag.specs.Splitting.{core_of_list, source_of_list}
use Rattle.lt_tag.specs.PlainLangTags.{IsPlainLangTag, extlangs_left, room_of, room_after}
use Rattle.lt_tag.specs.declared.plain_langtags.Room.{Room}
use Rattle.lt_tag.specs.declared.plain_langtags.Room.TheVariants as rooms
use Rattle.lt_tag.proofs.CompleteLemmas.{IsSourceSoFar, source_begin, source_more, source_end, source_stop, core_of}
use Rattle.lt_tag.proofs.PartsLaws.{core_decided}
use Rattle.std.proofs.lemmas.Bool.Decides.{nat_tests}
use Rattle.std.proofs.lemmas.Bool.{not-false}

-- what may follow a core once it has grown by s is computed from what might follow before
grown_room : (core : CoreParts) (s : List ℕ) → option_map room_of (grown core s) ≡ room_after (room_of core) s
unfolding grown
grown_room core s = by core.script core.region core.variants (length-append core.variants (s ∷ [])) (length-append core.extlangs (s ∷ []))
  where
    by : (sc r : Option (List ℕ)) (vs : List (List ℕ)) → length (vs ++ s ∷ []) ≡ length vs + 1
        → length (core.extlangs ++ s ∷ []) ≡ length core.extlangs + 1
        → option_map room_of (grown (core_of core.language core.extlangs sc r vs) s)
        ≡ room_after (room_of (core_of core.language core.extlangs sc r vs)) s
    by None None [] n m = grind (arith, nat_tests)
    by (Some x) None [] n m = grind (arith, nat_tests)
    by sc (Some x) vs n m = grind (arith, nat_tests)
    by sc None (v ∷ vs) n m = grind (arith, nat_tests)

-- `subtags` are a language and `others`; the language and the first i of the others spell a core, and `room` is what
-- may come after it.
pub record HasRoom (subtags others : List (List ℕ)) (i : ℕ) (room : Room) : Type 0 where
  pub core : CoreParts
  pub so_far : IsSourceSoFar subtags others i core
  pub left : room_of core ≡ room

-- at first the core has only the language, none of the others is read, and `left` extlangs may follow
pub room_begin : (subtags others : List (List ℕ)) (language : List ℕ) → subtags ≡ language ∷ others
    → is_language language ≡ true → (left : ℕ) → left ≡ extlangs_left (of_language language)
    → HasRoom subtags others 0 (rooms.Extlangs left)
room_begin subtags others language split first left e =
    record {
      core = of_language language;
      so_far = source_begin subtags others language (of_language language) split
          first refl;
      left = ap rooms.Extlangs (sym e);
    }

-- if `room_of` gives r of a core that may be missing, the core is there, and r is what may come after it
mapped_some : (o : Option CoreParts) (r : Room) → option_map room_of o ≡ Some r → (core : CoreParts) × (o ≡ Some core) × (room_of core ≡ r)
mapped_some None r h = cc
mapped_some (Some core) r h = (core, refl, cc)

-- if `room_of` gives nothing of a core that may be missing, the core is missing
mapped_none : (o : Option CoreParts) → option_map room_of o ≡ None → o ≡ None
mapped_none None h = refl
mapped_none (Some core) h = cc

-- if the subtag s, at index i of the others, may follow, and `next` may follow it, then i + 1 of the others are read
pub room_more : (subtags others : List (List ℕ)) (i : ℕ) (s : List ℕ) (room next : Room) → HasRoom subtags others i room
    → i < length others → s ≡ get_or others i s → room_after room s ≡ Some next → HasRoom subtags others (i + 1) next
room_more subtags others i s room next h within read after =
    let m = mapped_some (grown h.core s) next (grown_room h.core s ∙ ap (λ r. room_after r s) h.left ∙ after) in
    record { core = m.0; so_far = source_more subtags others i s h.core m.0 h.so_far within read m.1; left = m.2 }

-- subtags that are no source spell no core
source_none : (subtags : List (List ℕ)) → source_of_list subtags ≡ None → (core : CoreParts) → core_of_list subtags ≡ Some core → ⊥
unfolding core_of_list
source_none [] h core e = cc
source_none (s ∷ ss) h core e = grind (arith, nat_tests)

-- subtags that are no source are no langtag
no_langtag : (subtags : List (List ℕ)) → source_of_list subtags ≡ None → IsPlainLangTag subtags → ⊥
no_langtag subtags h p = source_none subtags h p.core ((core_decided subtags p.core).1 (p.shaped, p.spelled))

-- if the subtag s, at index i of the others, may not follow, the subtags are no langtag
pub stops : (subtags others : List (List ℕ)) (i : ℕ) (s : List ℕ) (room : Room) → HasRoom subtags others i room
    → i < length others → s ≡ get_or others i s → room_after room s ≡ None → IsPlainLangTag subtags → ⊥
stops subtags others i s room h within read after =
    no_langtag subtags (source_stop subtags others i s h.core h.so_far within read
    (mapped_none (grown h.core s) (grown_room h.core s ∙ ap (λ r. room_after r s) h.left ∙ after)))

-- subtags that are a source spell that core
core_from_source : (subtags : List (List ℕ)) (core : CoreParts) → source_of_list subtags ≡ Some (Some core)
    → core_of_list subtags ≡ Some core
core_from_source [] core h = cc
core_from_source (s ∷ ss) core h = grind (arith, nat_tests)

-- Once all the others are read, the subtags are a langtag exactly if they are not those of a grandfathered tag.
-- `number` is the number of that tag, None if there is no such tag, which b tells.
pub ends_plain : (subtags others : List (List ℕ)) (i : ℕ) (room : Room) → HasRoom subtags others i room
    → length others ≤ i → (number : Option ℕ) → IfSome number (λ n. IsGrandfathered subtags n)
    → IfNone number (IsNotGrandfathered subtags) → (b : Bool) → is_some number ≡ not b → IsTrue b
    ↔ IsPlainLangTag subtags
ends_plain subtags others i room h n None some none b e =
    let k = (core_decided subtags h.core).0 (core_from_source subtags h.core (source_end subtags others i h.core h.so_far n)) in
    ((λ _. record { core = h.core; shaped = k.0; spelled = k.1; other = none }), (λ _. not-false b (sym e)))
ends_plain subtags others i room h n (Some number) some none b e =
    ((λ t. let x : true ≡ false = e ∙ ap not t in cc), (λ p. absurd (p.other number some)))
