-- Lemmas on the answer that is owed for a text. The front that is kept of a long line has the same answer as the line.
-- A canonical text never begins with `! `, as an answer that refuses does. The cache of answers that were given lately
-- stays right where an answer is put into it.
use Rattle.std.proofs.Common.{map, ◌≡◌, ◌≤◌, ◌<◌, ◌+◌, ◌-◌, ◌++◌, ◌∷◌, inl, inr, ℕ, List, [], Bool, true, false, length}
use Rattle.std.proofs.Common.{take, sym, ap, ◌∙◌, append_assoc, refl, subst, arith, if◌then◌else◌, ◌==◌, ◌&&◌, take_all}
use Rattle.std.proofs.Common.{length-take-le, Option, Result, OnOk, drop, All}
use Rattle.std.proofs.lemmas.Bool.{cases_Bool, eqb-true}
use Rattle.std.proofs.lemmas.Bool.Decides.{leb_tells}
use Rattle.std.specs.Io.BufRead.{ends_with_byte}
use Rattle.std.proofs.lemmas.List.{take_rest}
use Rattle.std.specs.List.{list_all, onto_first, position_or_len}
use Rattle.std.specs.Prelude.{zero, suc}
use Rattle.lt_subtag.specs.Bytes.{folded, is_subtag}
use Rattle.lt_tag.specs.Faults.{HasList}
use Rattle.lt_tag.specs.Lists.{pieces, longest_text}
use Rattle.lt_tag.proofs.LetterLemmas.{from_HasList}
use Rattle.lt_tag.proofs.FaultLemmas.{one_fault}
use Rattle.lt_tag.proofs.OneTagLemmas.{text_of_tag}
use Rattle.lt_jar.specs.Lines.{content_of}
use Rattle.lt_registry.specs.Parts.{EntryParts}
use Rattle.lt_codes.specs.Codes.{registered_text}
use Rattle.lt_codes.specs.Index.{IsCode}
use Rattle.lt_codes.proofs.TextLemmas.{replaced_long}
use Rattle.lt_canon.specs.Texts.{AppendsCanonicalText, IsTextRefusal}
use Rattle.lt_canon.specs.declared.refusals.TextRefusal.{TextRefusal}
use Rattle.lt_lines.specs.Answering.{AppendsTextReply, kept_of, longest_kept, AreRecent, IsRecent}
use Rattle.lt_lines.specs.Owed.{Ground, IsReplyIn, IsTextReply, Reply, is_refusal}
use Rattle.lt_lines.specs.declared.forms.LineForm.{LineForm}
use Rattle.lt_lines.specs.declared.forms.RowForm.{RowForm}
use Rattle.std.proofs.lemmas.Result.{on_ok_weaker}
use Rattle.std.proofs.Math.Seq.{drop-append_seam}
use Rattle.lt_tag.specs.declared.faults.OutOfMemory.{OutOfMemory}
use Rattle.lt_cache.specs.Recent.{PutsIn, kept}
use Rattle.lt_cache.specs.declared.recent.Kept.{Kept}
use Rattle.lt_cache.proofs.KeptEnds.{all_put}
use Rattle.lt_lines.specs.declared.recent_answers.RecentAnswers.{RecentAnswers}
use Rattle.lt_tag.specs.declared.faults.TagFaultKind.TheVariants as kinds
use Rattle.lt_canon.specs.declared.refusals.TextRefusal.TheVariants as refusals
use Rattle.lt_lines.specs.declared.forms.LineForm.TheVariants as forms

-- ---- long texts

-- two texts longer than `longest_text` are refused alike
long_refusal : (R : List EntryParts) (text other : List ℕ) (refusal : TextRefusal) → longest_text < length text
    → longest_text < length other
    → IsTextRefusal R text refusal → IsTextRefusal R other refusal
long_refusal R text other (refusals.NotATag fault) long longer f =
    let same = one_fault text fault.kind kinds.TooLong fault.place 0 f (record { fault = (long, refl); memory_aside = λ e. cc }) in
    rw (same.0, same.1) (record { fault = (longer, refl); memory_aside = λ e. cc })
long_refusal R text other refusals.OutOfMemory long longer f = tt
long_refusal R text other refusal long longer f = absurd (omega (arith, f.read.short))

-- what is owed for a text longer than `longest_text` is owed for any other such text
reply_for_long : (R : List EntryParts) (text other : List ℕ) (r : Reply) → longest_text < length text
    → longest_text < length other → IsTextReply R text r → IsTextReply R other r
reply_for_long R text other r long longer is = record {
  owed = elim is.owed [
    | inl a ↦ absurd (omega (arith, a.0.is_canonical.read.short))
    | inr a ↦
        let is_refusal = long_refusal R text other a.0.refusal long longer a.0.is_refusal in
        inr (record { refusal = a.0.refusal; is_refusal = is_refusal; line_is = a.0.line_is }, a.1)
  ];
  marked = is.marked;
}

-- a line has at most one byte more than its content: the carriage return (13) that may end it
content-length : (line : List ℕ) → length line ≤ length (content_of line) + 1
content-length line = elim (ends_with_byte 13 line) as (λ t. length line ≤ length (if t then take (length line - 1) line else line) + 1) [
  | true ↦ omega (arith, length-take-le (length line - 1) line (omega arith))
  | false ↦ omega arith
]

-- what is owed for the kept front of a line is owed for the line
pub reply_for_kept : (G : Ground) (form : LineForm) (first : Bool) (line : List ℕ) (r : Reply) → All IsCode G.codes
    → IsReplyIn G form first (kept_of form line) r → IsReplyIn G form first line r
reply_for_kept G forms.Tag first line r each owed = elim (leb_tells (length line) longest_kept) [
  | inl short ↦ subst (λ (l : List ℕ). IsTextReply G.entries (registered_text G.codes (content_of l)) r)
      (take_all longest_kept line short.1) owed
  | inr long ↦
      let front = take longest_kept line in
      reply_for_long G.entries (registered_text G.codes (content_of front)) (registered_text G.codes (content_of line)) r
      (omega (
        arith,
        length-take-le longest_kept line (omega (arith, long.1)),
        content-length front,
        replaced_long G.codes (content_of front) each,
      ))
      (omega (arith, content-length line, long.1, replaced_long G.codes (content_of line) each)) owed
]
reply_for_kept G form first line r each owed = owed

-- ---- refusals

-- a text that begins with an exclamation mark (33) is no list of subtags
marked : (text : List ℕ) → HasList (33 ∷ text) → ⊥
unfolding is_subtag
marked text listed = by_pieces (pieces text) (from_HasList (33 ∷ text) listed)
  where
    -- pieces of which the first begins with an exclamation mark are no list of subtags
    by_pieces : (ps : List (List ℕ)) → list_all is_subtag (map folded (onto_first 33 ps)) ≡ true → ⊥
    by_pieces [] h = cc
    by_pieces (p ∷ ps) h = cc

-- a list of subtags does not begin with an exclamation mark (33)
unmarked_byte : (byte : ℕ) (text : List ℕ) → HasList (byte ∷ text) → (byte == 33) ≡ false
unmarked_byte byte text listed = elim (cases_Bool (byte == 33)) [
  | inl e ↦ absurd (marked text (subst (λ (b : ℕ). HasList (b ∷ text)) (eqb-true byte 33 e) listed))
  | inr e ↦ e
]

-- a list of subtags with a line feed (10) after it is not taken for a refusal
unmarked : (text : List ℕ) → HasList text → is_refusal (text ++ 10 ∷ []) ≡ false
unmarked [] listed = refl
unmarked (a ∷ []) listed = ap (λ t. t && (10 == 32)) (unmarked_byte a [] listed)
unmarked (a ∷ b ∷ text) listed = ap (λ t. t && (b == 32)) (unmarked_byte a (b ∷ text) listed)

-- a canonical text with a line feed (10) after it is the answer to its text, and no refusal
pub canonical_reply : (R : List EntryParts) (text old new ended : List ℕ) → AppendsCanonicalText R text old new
    → ended ≡ new ++ 10 ∷ [] → AppendsTextReply R text old ended false
canonical_reply R text old new ended a last = record {
  bytes = a.canonical ++ 10 ∷ [];
  grown = last ∙ ap (λ (l : List ℕ). l ++ 10 ∷ []) a.grown ∙ append_assoc old a.canonical (10 ∷ []);
  owed = record {
    owed = inl (record { canonical = a.canonical; is_canonical = a.is_canonical; line_is = refl }, refl);
    marked = sym
        (unmarked a.canonical
        (subst HasList (sym a.is_canonical.written)
        (text_of_tag a.is_canonical.form a.is_canonical.is_form.canonical.valid.proper.tag.tag).0));
  };
}

-- without codes a text stays as it is
pub replaced_none : (text : List ℕ) → registered_text [] text ≡ text
replaced_none text = front_rest (position_or_len (λ byte. byte == 45) text) text
  where
    -- the first elements and the rest make up the list
    front_rest : (n : ℕ) (l : List ℕ) → take n l ++ drop (length (take n l)) l ≡ l
    front_rest zero l = refl
    front_rest (suc n) [] = refl
    front_rest (suc n) (byte ∷ l) = ap (λ (m : List ℕ). byte ∷ m) (front_rest n l)

-- a cache stays right where an answer that was appended for `text` is put: `items` from `start` on are its bytes
pub put_appended : (R : List EntryParts) (form : LineForm) (before after : List (Option Kept)) (text bytes old new items
    : List ℕ) (start : ℕ) (refused : Bool)
    → PutsIn before after text (take (length items - start) (drop start items)) refused
    → items ≡ new → start ≡ length old → new ≡ old ++ bytes → IsRecent R form (kept text bytes refused)
    → All (IsRecent R form) before → All (IsRecent R form) after
put_appended R form before after text bytes old new items start refused puts is from grown right =
    let same : take (length items - start) (drop start items) ≡ bytes = take_rest items start
    ∙ rw (is, from, grown) (drop-append_seam old bytes) in
    all_put (IsRecent R form) before after text (take (length items - start) (drop start items)) refused puts
    (subst (λ (l : List ℕ). IsRecent R form (kept text l refused)) (sym same) right)

-- a step that keeps a cache right for rows keeps it right for CSV, as the same is kept of fields
pub csv_recent : (R : List EntryParts) (row : RowForm) (delimiter : ℕ) (form : LineForm) (r : Result Bool
    OutOfMemory) (old new : RecentAnswers) → form ≡ forms.Csv row delimiter
    → OnOk r (AreRecent R (forms.Row row) old → AreRecent R (forms.Row row) new) → OnOk r (AreRecent R form old → AreRecent R form new)
csv_recent R row delimiter form r old new is h =
    subst (λ (f : LineForm). OnOk r (AreRecent R f old → AreRecent R f new)) (sym is)
    (on_ok_weaker r (λ keeps recent. let a = keeps (record { whole = recent.whole; ends = recent.ends }) in
    record { whole = a.whole; ends = a.ends }) h)
