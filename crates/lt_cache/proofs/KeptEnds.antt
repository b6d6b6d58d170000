-- For `RecentEnds`, the cache of ends: what is put there is right, what is there stays right, and what is appended from
-- there is right. An end goes from the hyphen before the first one-character subtag on; the fields of a `t` extension
-- follow its source, a langtag.
use Rattle.std.proofs.Common.{◌≡◌, ℕ, ◌≤◌, ◌+◌, ◌==◌, Bool, true, not, List, [], ◌∷◌, ◌++◌, length, refl, sym, ap, ◌∙◌}
use Rattle.std.proofs.Common.{subst, arith, inl, inr, false, Option, ◌-◌, take, drop, IsTrue}
use Rattle.std.specs.List.{list_all, All, swap}
use Rattle.std.proofs.lemmas.List.{append_assoc, length-append, length-map, take_rest}
use Rattle.lt_subtag.specs.Bytes.{folded}
use Rattle.lt_tag.specs.Lists.{list_of}
use Rattle.lt_tag.specs.Splitting.{before}
use Rattle.lt_tag.specs.Conventional.{conventional}
use Rattle.lt_tag.proofs.ListLemmas.{tail_is}
use Rattle.lt_registry.specs.Parts.{EntryParts}
use Rattle.lt_check.specs.Conditions.{IsChecked}
use Rattle.lt_canon.specs.Texts.{AppendsCanonicalText}
use Rattle.lt_cache.specs.Ends.{IsEnd, IsCanonicalCore, IsFields, IsTransformed, IsKeptEnd, AreEnds}
use Rattle.std.specs.Char.{to_ascii_lowercase}
use Rattle.lt_cache.specs.Appending.{AppendsEnd, AppendsFront, AppendsKept, AppendsTransformed, EndStands, EndsText}
use Rattle.std.proofs.lemmas.List.Elements.{All-contains, All-set}
use Rattle.std.proofs.Math.Seq.{drop-append_seam}
use Rattle.lt_check.specs.Staying.{IsStaying}
use Rattle.lt_canon.proofs.StayingTags.{stays_canonical}
use Rattle.lt_cache.specs.Recent.{PutsIn, kept}
use Rattle.lt_cache.specs.declared.recent.Kept.{Kept}
use Rattle.std.proofs.lemmas.List.Sorted.{All-permutation}
use Rattle.lt_cache.proofs.EndLemmas.{ends_shared, list_single}
use Rattle.lt_cache.proofs.SourceLemmas.{fields_shared}

-- if `P` is true of each place of a cache, and of a place with an answer, it is true of each place after that answer
-- was put
pub all_put : (P : Option Kept → Type 0) (old new : List (Option Kept)) (line answer : List ℕ) (refused : Bool)
    → PutsIn old new line answer refused → P (kept line answer refused) → All P old → All P new
all_put P old new line answer refused (inl same) right all = subst (All P) (sym same) all
all_put P old new line answer refused (inr put) right all =
    let i = put.0 in
    subst (All P) (sym put.2) (All-set P (swap old i (i + 1)) i (kept line answer refused) right
    (All-permutation P old (swap old i (i + 1))
    (record { moves = (i, i + 1) ∷ []; below = (omega (arith, put.1), put.1, tt); is = refl }) all))

-- no text is both an end and fields: a one-character subtag begins an end, and fields have none
fields_apart : (line : List ℕ) → IsEnd line → IsFields line → ⊥
fields_apart line E K =
    let rest : K.rest ≡ E.singleton ∷ 45 ∷ E.rest = tail_is 45 45 K.rest (E.singleton ∷ 45 ∷ E.rest) (sym K.whole ∙ E.whole) in
    let bad : false ≡ true =
    sym (ap (list_all (λ (s : List ℕ). not (length s == 1))) (ap list_of rest
    ∙ list_single E.singleton E.rest E.single)) ∙ K.no_singleton in
    cc

-- `told` says whether `-t-`, a canonical source, and what is kept for the fields of an end were appended. If so, that
-- is the canonical form of the end; if not, nothing was appended.
pub transformed_appended : (R : List EntryParts) (table : List (Option Kept)) (source fields end old middle new : List
    ℕ) (told : Bool) → IsCanonicalCore R source → IsTransformed source fields end → middle ≡ old
    → AppendsTransformed table source fields middle new told → AppendsEnd R table end old new told
transformed_appended R table source fields end old middle new false G T same h = h ∙ same
transformed_appended R table source fields end old middle new true G T same h = (
  45 ∷ 116 ∷ 45 ∷ folded source ++ h.0,
  λ ends front F. (All-contains (IsKeptEnd R) table (kept fields h.0 h.1) ends.each h.2).1 T.is_fields front source end F G T,
  h.3 ∙ ap (λ (l : List ℕ). l ++ (45 ∷ 116 ∷ 45 ∷ folded source ++ h.0)) same,
)

-- Nothing was appended by the fields of an end (`before` is false). If then what is kept for the end itself was
-- appended (`told`), that is the canonical form of the end; if not, nothing was appended.
pub kept_appended_after : (R : List EntryParts) (table : List (Option Kept)) (end old middle new : List ℕ) (before told
    : Bool) → IsEnd end → AppendsEnd R table end old middle before → before ≡ false
    → AppendsKept table end middle new told → AppendsEnd R table end old new told
kept_appended_after R table end old middle new true told E same none h = cc
kept_appended_after R table end old middle new false false E same none h = h ∙ same
kept_appended_after R table end old middle new false true E same none h =
    (h.0, λ ends. (All-contains (IsKeptEnd R) table (kept end h.0 h.1) ends.each h.2).0 E, h.3 ∙ ap (λ (l : List ℕ). l ++ h.0) same)

-- the end of a text stands in its canonical text, which was appended from `start` on, after the `count` bytes of its
-- core
pub end_stands : (R : List EntryParts) (text end old new : List ℕ) (start count : ℕ) → length old ≡ start
    → EndsText R text end count → AppendsCanonicalText R text old new → EndStands R end (start + count) new
end_stands R text end old new start count at T a = record {
  front = T.front;
  core = T.core;
  is_end = T.is_end;
  before = old;
  canonical = a.canonical;
  whole = a.grown;
  is_canonical = rw T.whole a.is_canonical;
  counted = omega (arith, at, T.counted);
}

-- what `texts` have from the place `from` on may be kept for `line`, which is an end or fields
pub record CanKeep (R : List EntryParts) (line texts : List ℕ) (from : ℕ) : Type 0 where
  pub within : from ≤ length texts
  pub right : IsKeptEnd R (kept line (drop from texts) false)

-- an end stands in `texts` from `from` on in canonical form: `middle` and then `rest`; if `rest` is right for `line`,
-- it may be kept for it, from the place after `middle` on
follows : (R : List EntryParts) (end line middle rest texts old : List ℕ) (from place : ℕ) (S : EndStands R end from
    old) → texts ≡ old → S.canonical ≡ conventional (list_of S.front) ++ (middle ++ rest) → place ≡ from + length middle
    → IsKeptEnd R (kept line rest false) → CanKeep R line texts place
follows R end line middle rest texts old from place S same whole at right =
    let front = S.before ++ (conventional (list_of S.front) ++ middle) in
    let all : texts ≡ front ++ rest = same ∙ S.whole ∙ ap (λ (l : List ℕ). S.before ++ l) whole ∙ simp append_assoc in
    let long : place ≡ length front = simp length-append (omega (arith, at, S.counted)) in
    record {
      within = omega (arith, long, ap length all, length-append front rest);
      right = rw (all, long, drop-append_seam front rest) right;
    }

-- an end that stands in `texts` in canonical form may be kept for it
pub follows_front : (R : List EntryParts) → IsChecked R → (end texts old : List ℕ) (from : ℕ) → EndStands R end from old
    → texts ≡ old → CanKeep R end texts from
follows_front R C end texts old from S same =
    let tells = ends_shared R C S.front end S.canonical S.core S.is_end S.is_canonical in
    follows R end end [] tells.rest texts old from from S same tells.whole (omega arith)
    (λ _. tells.shared, λ K. absurd (fields_apart end S.is_end K))

-- what follows `-t-`, which has 3 bytes, and the source in the canonical form of a `t` extension may be kept for its
-- fields
pub follows_source : (R : List EntryParts) → IsChecked R → (source fields end texts old : List ℕ) (from : ℕ)
    → EndStands R end from old → texts ≡ old → IsCanonicalCore R source → IsTransformed source fields end
    → CanKeep R fields texts (from + 3 + length source)
follows_source R C source fields end texts old from S same G T =
    let tells = fields_shared R C S.front source fields end S.canonical S.core G T S.is_canonical in
    follows R end fields (45 ∷ 116 ∷ 45 ∷ folded source) tells.rest texts old from _ S same tells.whole
    (omega (arith, length-map source to_ascii_lowercase))
    (λ E. absurd (fields_apart fields E T.is_fields), λ _. tells.shared)

-- the cache of ends stays right after a put of what may be kept
pub kept_put : (R : List EntryParts) (before after : List (Option Kept)) (line texts : List ℕ) (from : ℕ)
    → PutsIn before after line (take (length texts - from) (drop from texts)) false → CanKeep R line texts from
    → AreEnds R before → AreEnds R after
kept_put R before after line texts from puts can ends = record
    { each = all_put (IsKeptEnd R) before after line _ false (rw take_rest at puts) can.right ends.each }

-- a front whose subtags stay as they are was appended as a canonical core, or, if `told` is false, nothing was
pub front_appended : (R : List EntryParts) → IsChecked R → (front old new : List ℕ) (told : Bool)
    → (IsTrue told → IsStaying R front) → (IsTrue told → new ≡ old ++ conventional (list_of front))
    → (told ≡ false → new ≡ old)
    → AppendsFront R front old new told
front_appended R C front old new true stays grown unchanged =
    let stay = stays refl in
    (record { core = stay.0; read = stay.1.read; canonical = (stays_canonical R front stay.0 stay.1 C).canonical }, grown refl)
front_appended R C front old new false stays grown unchanged = unchanged refl
