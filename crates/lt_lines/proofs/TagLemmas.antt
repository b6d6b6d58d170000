-- Lemmas for `run_lines`: a run of `run_tallied` over lines of the form `Tag`, without codes, is a run over tags, which
-- TagLines defines without rows, records and tallies.
use Rattle.std.proofs.Common.{◌≡◌, ◌+◌, ◌++◌, ◌∷◌, ◌∙◌, ◌<◌, ◌==◌, cond, inl, inr, ℕ, zero, suc, List, [], Bool, true}
use Rattle.std.proofs.Common.{false, Option, Result, Ok, Err, length, map, sym, ap, refl, subst, take, drop}
use Rattle.std.specs.List.{AllByRecursion, before_first, concat, count_by, position_or_len}
use Rattle.std.proofs.lemmas.List.{length-map}
use Rattle.std.proofs.lemmas.List.Sums.{sum_by-cons}
use Rattle.lt_jar.specs.Devices.{failures_of}
use Rattle.lt_jar.specs.Lines.{IsOneLine, content_of, lines_of}
use Rattle.lt_jar.specs.declared.devices.Device.{Device}
use Rattle.lt_registry.specs.Parts.{EntryParts}
use Rattle.lt_codes.specs.Codes.{registered_text}
use Rattle.lt_stream.specs.declared.faults.ToolFault.{ToolFault}
use Rattle.lt_stream.specs.declared.faults.ToolFault.TheVariants as faults
use Rattle.lt_stream.specs.declared.tallies.Tally.{Tally}
use Rattle.lt_lines.specs.Owed.{AfterMark, AreReplies, AreRepliesFrom, IsBegunText, IsTextReply, IsWhole, Reply, Terms}
use Rattle.lt_lines.specs.Owed.{bytes_in, ended, is_refusal, refused_in, terms}
use Rattle.lt_lines.specs.Tallied.{TalliesToLastFeed}
use Rattle.lt_lines.specs.Running.{EndsAs, RunsLines}
use Rattle.lt_lines.specs.TagLines.{AreOwedLines, EndsTags, IsOwedLine, Owes, OwesFront, OwesToLastFeed, RunsTags}
use Rattle.lt_lines.specs.declared.forms.LineForm.TheVariants as forms
use Rattle.lt_lines.specs.declared.runs.Counts.{Counts}

-- a text is its first `n` bytes and the bytes after them
front_rest : (n : ℕ) (text : List ℕ) → take n text ++ drop (length (take n text)) text ≡ text
front_rest zero text = refl
front_rest (suc n) [] = refl
front_rest (suc n) (byte ∷ text) = ap (λ (l : List ℕ). byte ∷ l) (front_rest n text)

-- the bytes of each of the answers
abbrev bytes_of : List Reply → List (List ℕ)
bytes_of replies = map (λ (r : Reply). r.bytes) replies

-- the bytes of all answers are those of each, one after another
joined : (replies : List Reply) → bytes_in replies ≡ concat (bytes_of replies)
joined [] = refl
joined (r ∷ replies) = ap (λ (l : List ℕ). r.bytes ++ l) (joined replies)

-- `R` is the entries of the registry
module _ (R : List EntryParts) where
  -- the lines are answered by these entries, without codes, as tags
  abbrev T : Terms
  T = terms (record { entries = R; codes = [] }) forms.Tag

  -- the answer that is owed for a line is the line that is owed for its text
  owed_line : (line : List ℕ) (r : Reply) → IsTextReply R (registered_text [] (content_of line)) r → IsOwedLine R (content_of line) r.bytes
  owed_line line r is =
      let plain = subst (λ (t : List ℕ). IsTextReply R t r)
      (front_rest (position_or_len (λ (b : ℕ). b == 45) (content_of line)) (content_of line)) is in
      elim plain.owed [
        | inl a ↦ inl a.0
        | inr a ↦ inr a.0
      ]

  -- the answers that are owed for lines are the lines that are owed for their texts
  owed_lines : (first : Bool) (lines : List (List ℕ)) (replies : List Reply) → AreRepliesFrom T first lines replies
      → AreOwedLines R lines (bytes_of replies)
  owed_lines first [] [] each = refl
  owed_lines first [] (r ∷ replies) each = absurd each
  owed_lines first (line ∷ lines) [] each = absurd each
  owed_lines first (line ∷ lines) (r ∷ replies) each = (owed_line line r each.0, owed_lines false lines replies each.1)

  -- as many of the answers are refusals as begin with `! `
  refused_lines : (first : Bool) (lines : List (List ℕ)) (replies : List Reply) → AreRepliesFrom T first lines replies
      → refused_in replies ≡ count_by is_refusal (bytes_of replies)
  refused_lines first [] [] each = refl
  refused_lines first [] (r ∷ replies) each = absurd each
  refused_lines first (line ∷ lines) [] each = absurd each
  refused_lines first (line ∷ lines) (r ∷ replies) each =
      sum_by-cons (λ (r : Reply). cond r.refused 1 0) r replies
      ∙ ap (λ (b : Bool). cond b 1 0 + refused_in replies) each.0.marked
      ∙ ap (λ (n : ℕ). cond (is_refusal r.bytes) 1 0 + n) (refused_lines false lines replies each.1)
      ∙ sym (sum_by-cons (λ (l : List ℕ). cond (is_refusal l) 1 0) r.bytes (bytes_of replies))

  -- the bytes of the answers that are owed for lines are what is owed for the lines
  owes : (lines : List (List ℕ)) (replies : List Reply) (written : List ℕ) → AreReplies T lines replies
      → written ≡ bytes_in replies → Owes R lines written
  owes lines replies written each all = record {
    owed = bytes_of replies;
    each = owed_lines true lines replies each;
    all = all ∙ joined replies;
  }

  -- since no mark is looked for before tags, what is true after the mark is true of all bytes
  unmarked : (P : (text more : List ℕ) → Type 0) (read written : List ℕ) → AfterMark T P read written → P read written
  unmarked P read written a =
      let same : a.more ≡ written = sym (a.written_is ∙ ap (λ (m : List ℕ). m ++ a.more) a.split.0) in
      subst (λ (t : List ℕ). P t written) a.split.1 (subst (λ (m : List ℕ). P a.text m) same a.holds)

  -- whole lines of the form `Tag` have no line feed (10)
  each_line : (lines : List (List ℕ)) → AllByRecursion (IsWhole forms.Tag) lines → AllByRecursion IsOneLine lines
  each_line [] each = tt
  each_line (line ∷ lines) each = (each.0.unit, each_line lines each.1)

  -- what is owed up to the last line feed, of lines of the form `Tag`, is what is owed for tags
  to_last_feed : (tallies : List Tally) (read written : List ℕ) → AfterMark T (TalliesToLastFeed T tallies) read written
      → OwesToLastFeed R read written
  to_last_feed tallies read written a =
      let o = (unmarked (TalliesToLastFeed T tallies) read written a).0 in
      record {
        lines = o.lines;
        last = o.last;
        cut = o.cut;
        each_one = each_line o.lines o.each_one;
        last_one = o.last_one;
        owes = owes o.lines o.owed written o.each o.all;
      }

  -- a front of what is owed for lines of the form `Tag` is a front of what is owed for tags
  begun : (read written : List ℕ) → IsBegunText T read written → OwesFront R read written
  begun read written b = elim b.front [
    | inl f ↦ record {
      lines = [];
      others = lines_of read;
      cut = refl;
      all = [];
      owes = record { owed = []; each = refl; all = refl };
      front = (f.0, sym b.split.0 ∙ f.1);
    }
    | inr f ↦
        let same : f.0 ≡ written = sym (f.1 ∙ ap (λ (m : List ℕ). m ++ f.0) b.split.0) in
        let o = f.2 in
        record {
          lines = o.lines;
          others = o.others;
          cut = ap lines_of (sym b.split.1) ∙ o.cut;
          all = bytes_in o.owed;
          owes = owes o.lines o.owed (bytes_in o.owed) o.each refl;
          front = (o.rest, o.front ∙ ap (λ (m : List ℕ). m ++ o.rest) same);
        }
  ]

  -- `input` and `output` are the devices before the run, `input'` and `output'` those after it
  module _ {I O : Type 0} (remaining : I → Option (List ℕ)) (input input' : Device I) (output output' : Device O)
      (reads : ℕ) (read written : List ℕ) (tallies : List Tally) where
    -- a run over lines of the form `Tag` ends in a way in which a run over tags may end
    ends_tags : (r : Result Counts ToolFault) → IsBegunText T read written
        → EndsAs T remaining input input' output output' reads read written tallies r
        → EndsTags R remaining input input' output output' reads read written r
    ends_tags (Ok counts) front is =
        let all = unmarked _ read written is.owed in
        let o = all.all in (
          is.end,
          record {
            owes = record { owed = bytes_of o.owed; each = owed_lines true (lines_of read) o.owed o.each; all = o.all ∙ joined o.owed };
            lines = o.lines ∙ sym (length-map o.owed (λ (r : Reply). r.bytes));
            refused = o.refused ∙ refused_lines true (lines_of read) o.owed o.each;
          },
        )
    ends_tags (Err faults.Read) front is = (is.failed, to_last_feed tallies read written is.owed)
    ends_tags (Err faults.TooManyTurns) front is = (is.all_made, is.last_gave, to_last_feed tallies read written is.owed)
    ends_tags (Err faults.Write) front is = (is, begun read written front)
    ends_tags (Err faults.OutOfMemory) front is = begun read written front
    ends_tags (Err (faults.BadCsv line)) front is = elim is [
      | inl quotes ↦ let inside = (unmarked _ read written quotes.ends).0.inside in cc
      | inr long ↦ absurd ((unmarked _ read written long.ends).0.long tt)
    ]
    ends_tags (Err (faults.BadTsv line)) front is = absurd ((unmarked _ read written is.ends).0.long tt)
    ends_tags (Err faults.Utf16) front is = absurd is.looked

  -- a run over lines of the form `Tag` is a run over tags
  pub runs_tags : {I O : Type 0} (remaining : I → Option (List ℕ)) (contents : O → Option (List ℕ))
      (input input' : Device I) (output output' : Device O) (tallies : List Tally) (r : Result Counts ToolFault)
      → RunsLines T remaining contents input input' output output' tallies r → RunsTags R remaining contents input input' output output' r
  runs_tags remaining contents input input' output output' tallies r run = record {
    read = run.read;
    written = run.written;
    reads = run.reads;
    consumes = run.consumes;
    appends = run.appends;
    calls = run.calls;
    bounded = run.bounded;
    ends = ends_tags remaining input input' output output' run.reads run.read run.written tallies r run.begun run.ends;
    read_rises = run.read_rises;
    write_rises = run.write_rises;
  }
