-- Lemmas for `append_object` and its parts: the members that are appended one after another are together the object
-- that is specified.
use Rattle.std.proofs.Common.{◌≡◌, ◌≤◌, ℕ, Bool, true, false, List, [], ◌∷◌, ◌++◌, length, refl, sym, ◌∙◌, ap, append_assoc}
use Rattle.std.specs.Prelude.{codes, Some, None, Ok, Err}
use Rattle.lt_tag.specs.Parts.{TagForm}
use Rattle.lt_tag.specs.Faults.{IsFault}
use Rattle.lt_tag.specs.Lists.{list_of, longest_text}
use Rattle.lt_tag.specs.WellFormed.{IsTag, spell}
use Rattle.lt_tag.specs.declared.faults.TagFault.{TagFault}
use Rattle.lt_tag.specs.declared.faults.TagFaultKind.TheVariants as kinds
use Rattle.lt_tag.proofs.FaultLemmas.{fault_excludes_tag}
use Rattle.lt_registry.specs.Parts.{EntryParts}
use Rattle.lt_canon.specs.Texts.{IsCanonicalTextOf, IsTextRefusal}
use Rattle.lt_canon.specs.declared.refusals.TextRefusal.{TextRefusal}
use Rattle.lt_canon.specs.declared.refusals.TextRefusal.TheVariants as refusals
use Rattle.lt_show.specs.Values.{Member, member, member_text, more_members, null, object}
use Rattle.lt_show.specs.Strings.{string}
use Rattle.hex.specs.Hex.{encode_lower}
use Rattle.lt_show.proofs.ChainLemmas.{more, more_after, object_is, two_members}
use Rattle.lt_answers.specs.Objects.{AppendsAnswer, AppendsObject, AppendsOpening, AppendsTag, IsAnswerTo}
use Rattle.lt_answers.specs.Objects.{answer_members, input_members, opening}
use Rattle.lt_answers.specs.Tags.{members_of_none, members_of_tag, tag_members}

-- The members of a tag are appended to `o`: its class `m`, those of its core `ms`, its extensions `n` and its private
-- use `p`. `r`, `s`, `t` and `u` are the texts after each of these four.
pub tag_is : (o r s t u : List ℕ) (m n p : Member) (ms : List Member) → r ≡ o ++ 44 ∷ member_text m
    → s ≡ r ++ more_members ms → t ≡ s ++ 44 ∷ member_text n → u ≡ t ++ 44 ∷ member_text p
    → u ≡ o ++ more_members (m ∷ (ms ++ (n ∷ p ∷ [])))
tag_is o r s t u m n p ms h k l i = more o r u m (ms ++ (n ∷ p ∷ [])) h (more_after r s u ms (n ∷ p ∷ []) k (two_members s t u n p l i))

-- the text is read as a tag, and the members of that tag are appended to `old`
pub tag_read : (text old new : List ℕ) (tag : TagForm) → length text ≤ longest_text → IsTag tag
    → spell tag ≡ list_of text → new ≡ old ++ more_members (members_of_tag tag) → AppendsTag text old new
tag_read text old new tag short is spelled grown =
    record { tag = Some tag; is_tag = record { short = short; tag = is; spelled = spelled }; grown = grown }

-- the text has a fault, which is not lack of memory, so it is read as no tag, and the members of none are appended to
-- `old`
pub no_tag_read : (text old new : List ℕ) (fault : TagFault) → IsFault text fault.kind fault.place
    → (fault.kind ≡ kinds.OutOfMemory → ⊥) → new ≡ old ++ more_members members_of_none → AppendsTag text old new
no_tag_read text old new fault is aside grown =
    record {
      tag = None;
      is_tag = λ tag read. fault_excludes_tag text fault.kind fault.place tag
          (record { fault = is; memory_aside = aside }) read;
      grown = grown;
    }

-- the text has a canonical text, and the members of that answer are appended to `old`: the text is not refused
pub answer_canonical : (R : List EntryParts) (text old new canonical : List ℕ) → IsCanonicalTextOf R text canonical
    → new ≡ old ++ more_members (answer_members (Ok canonical)) → AppendsAnswer R text old new false
answer_canonical R text old new canonical is grown = record { answer = Ok canonical; is_answer = is; grown = grown; refused_is = refl }

-- a refusal of the text is an answer to it, unless it is OutOfMemory
refused_is_answer : (R : List EntryParts) (text : List ℕ) (refusal : TextRefusal) → (refusal ≡ refusals.OutOfMemory → ⊥)
    → IsTextRefusal R text refusal → IsAnswerTo R text (Err refusal)
refused_is_answer R text (refusals.NotATag fault) other is = is
refused_is_answer R text (refusals.Invalid fault) other is = is
refused_is_answer R text (refusals.ReplacementRepeats variant) other is = is
refused_is_answer R text refusals.OutOfMemory other is = other refl

-- the text is refused, not for lack of memory, and the members of the refusal are appended to `old`
pub answer_refused : (R : List EntryParts) (text old new : List ℕ) (refusal : TextRefusal)
    → (refusal ≡ refusals.OutOfMemory → ⊥) → IsTextRefusal R text refusal
    → new ≡ old ++ more_members (answer_members (Err refusal))
    → AppendsAnswer R text old new true
answer_refused R text old new refusal other is grown =
    record { answer = Err refusal; is_answer = refused_is_answer R text refusal other is; grown = grown; refused_is = refl }

-- An object is appended to `o`: `r` is the text after the brace (123) and the first two members, `s` that after the
-- other members `ms`, and `t` that after the closing brace (125).
opened_by : (o r s t : List ℕ) (m n : Member) (ms : List Member)
    → r ≡ o ++ ((123 ∷ member_text m) ++ (44 ∷ member_text n)) → s ≡ r ++ more_members ms → t ≡ s ++ 125 ∷ []
    → t ≡ o ++ object (m ∷ n ∷ ms)
opened_by o r s t m n ms h k l =
    object_is o (o ++ 123 ∷ member_text m) s t m (n ∷ ms) refl
    (k ∙ ap (λ (x : List ℕ). x ++ more_members ms) (h ∙ sym (append_assoc o (123 ∷ member_text m) (44 ∷ member_text n)))
    ∙ append_assoc (o ++ 123 ∷ member_text m) (44 ∷ member_text n) (more_members ms)) l

-- An object is appended to `o`: `r` is the text after its opening, with the members for `text`, `s` that after the
-- other members `ms`, and `t` that after the closing brace (125). `is_text` is whether `text` is UTF-8.
opened : (is_text : Bool) (text o r s t : List ℕ) (ms : List Member) → r ≡ o ++ opening is_text text
    → s ≡ r ++ more_members ms → t ≡ s ++ 125 ∷ [] → t ≡ o ++ object (input_members is_text text ++ ms)
opened true text o r s t ms h k l = opened_by o r s t (member (codes "input") (string text)) (member (codes "bytes") null) ms h k l
opened false text o r s t ms h k l = opened_by o r s t (member (codes "input") null)
    (member (codes "bytes") (string (encode_lower text))) ms h k l

-- The object of `text` is appended to `o`: `r` is the text after its opening, `s` that after the members for the
-- answer, `t` that after those for the tag, and `u` that after the closing brace (125).
pub object_whole : (R : List EntryParts) (text o r s t u : List ℕ) (refused : Bool) → AppendsOpening text o r
    → AppendsAnswer R text r s refused → AppendsTag text s t → u ≡ t ++ 125 ∷ [] → AppendsObject R text o u refused
object_whole R text o r s t u refused h k l i =
    let ms = answer_members k.answer ++ tag_members l.tag in
    record {
      line = object (input_members h.is_text text ++ ms);
      grown = opened h.is_text text o r t u ms h.grown (more_after r s t (answer_members k.answer) (tag_members l.tag) k.grown l.grown) i;
      is_object = record {
        is_text = h.is_text;
        is_utf8 = h.is_utf8;
        answer = k.answer;
        is_answer = k.is_answer;
        tag = l.tag;
        is_tag = l.is_tag;
        line_is = refl;
        refused_is = k.refused_is;
      };
    }
