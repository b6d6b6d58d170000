-- Lemmas for `find_column`: what a run over pieces reads is the heading of the reader's bytes, or tells why there is
-- none, and the column that is picked in it is the one that is found.
use Rattle.std.proofs.Common.{◌≡◌, ◌≤◌, ◌<◌, ◌++◌, ◌∷◌, ◌∙◌, inl, inr, ℕ, List, [], Option, Some, None, Result, Ok, Err}
use Rattle.std.proofs.Common.{length, ap, refl, subst, arith, append_assoc, length-append}
use Rattle.std.specs.Io.KnownBytes.{IsAtEnd}
use Rattle.std.proofs.Math.Seq.{take-append_seam}
use Rattle.std.proofs.Math.Seq.{take-length}
use Rattle.lt_jar.specs.Devices.{inner_of}
use Rattle.lt_jar.specs.declared.devices.Device.{Device}
use Rattle.lt_rows.specs.Marks.{IsWide, SplitsMark}
use Rattle.lt_rows.specs.declared.rows.Separator.{Separator}
use Rattle.lt_rows.specs.declared.rows.Separator.TheVariants as separators
use Rattle.lt_stream.specs.Pieces as pieces
use Rattle.lt_stream.specs.Pieces.{RunsPieces}
use Rattle.lt_stream.specs.declared.faults.ToolFault.{ToolFault}
use Rattle.lt_stream.specs.declared.faults.ToolFault.TheVariants as faults
use Rattle.lt_heading.specs.Headings.{EndsReading, EndsRow, FinishesText, HasHeading, HasLongHeading, IsGoing, IsTaken}
use Rattle.lt_heading.specs.Headings.{IsWholeRow, ReadsHeading, StopsHeading, StopsPieces, StopsText, TakesPiece}
use Rattle.lt_heading.specs.Headings.{heading_in, long_fault, rows_of, taken_by}
use Rattle.lt_heading.specs.declared.first_rows.Heading.{Heading}
use Rattle.lt_heading.specs.declared.first_rows.FirstRow.{FirstRow}
use Rattle.lt_heading.specs.Finding.{EndsFinding, FindsColumn, PicksColumn}
use Rattle.lt_heading.specs.Names.{AreNamesIn, IsOnly}
use Rattle.lt_heading.specs.declared.finding.ColumnFault.{ColumnFault}
use Rattle.lt_heading.specs.declared.finding.ColumnFault.TheVariants as refusals
use Rattle.lt_heading.specs.declared.finding.FoundColumn.{FoundColumn}
use Rattle.lt_heading.proofs.RowLemmas.{rows_ended, rows_last, rows_none}

-- ---- the heading

-- the heading of a text whose first row a line feed (10) ends is that row
heading_is : (row rest : List ℕ) → heading_in (row ++ 10 ∷ rest) (length row) ≡ Some row
heading_is [] rest = refl
heading_is (byte ∷ row) rest = ap (λ l. Some l) (take-append_seam (byte ∷ row) (10 ∷ rest))

-- bytes with a first row that ends have it as their heading, whatever bytes `more` follow; `text` is what they have
-- after the byte order mark, and `end` the length of the row
heading_ended : (S : Separator) (bytes mark text more : List ℕ) (end : ℕ)
    → SplitsMark (bytes ++ more) mark (text ++ more) → (IsWide (bytes ++ more) → ⊥) → EndsRow S text end
    → HasHeading S (bytes ++ more) (heading_in text end)
heading_ended S bytes mark text more end split narrow e = record {
  mark = mark;
  text = text ++ more;
  split = split;
  narrow = narrow;
  first = rw (e.cut, e.end_is, heading_is e.row e.rest, append_assoc e.row (10 ∷ e.rest) more)
      (rows_of S (e.rest ++ more), rows_ended S e.row (e.rest ++ more) e.whole.one e.whole.closed, e.whole);
}

-- bytes with a first row that ends have it as their heading, where no bytes follow; `text` is what they have after the
-- byte order mark, and `end` the length of the row
heading_at_end : (S : Separator) (bytes mark text : List ℕ) (end : ℕ) → SplitsMark bytes mark text → (IsWide bytes → ⊥)
    → EndsRow S text end → HasHeading S bytes (heading_in text end)
heading_at_end S bytes mark text end split narrow e = record {
  mark = mark;
  text = text;
  split = split;
  narrow = narrow;
  first = rw (e.cut, e.end_is, heading_is e.row e.rest) (rows_of S e.rest, rows_ended S e.row e.rest e.whole.one e.whole.closed, e.whole);
}

-- bytes whose text after the byte order mark is one row have that as their heading, or none if the text is empty
heading_last : (S : Separator) (bytes mark text : List ℕ) → SplitsMark bytes mark text → (IsWide bytes → ⊥)
    → IsWholeRow S text → HasHeading S bytes (heading_in text (length text))
heading_last S bytes mark [] split narrow whole = record { mark = mark; text = []; split = split; narrow = narrow; first = rows_none S }
heading_last S bytes mark (byte ∷ text) split narrow whole = record {
  mark = mark;
  text = byte ∷ text;
  split = split;
  narrow = narrow;
  first = rw (take-length (byte ∷ text)) ([], rows_last S (byte ∷ text) whole.one (omega arith), whole);
}

-- the first row of a text is no longer than the text
within : (S : Separator) (text : List ℕ) (end : ℕ) → EndsRow S text end → end ≤ length text
within S text end e = omega (arith, e.end_is, ap length e.cut, length-append e.row (10 ∷ e.rest))

-- ---- the pieces

-- what taking a piece does for the row, it does as a run over pieces asks; `old` and `new` are the heading before and
-- after it
module _ (piece : List ℕ) (old new : Heading) (same : new.separator ≡ old.separator) where
  pub piece_taken : (r : Result (Option ℕ) ToolFault) → TakesPiece old.separator piece old.first new.first r
      → pieces.TakesPiece {O = Unit {0}} {P = Heading} {A = ℕ} (λ first start now read here. IsTaken first.separator
      read here) (λ first start now read here end. StopsPieces first.separator read here.first end) piece tt tt old
      new r
  piece_taken (Ok None) p = λ first start read t. record {
    separator = same ∙ t.separator;
    taken = p.0 ∙ ap (λ l. l ++ piece) t.taken;
    going = subst (λ S. IsGoing S new.first) t.separator p.1;
  }
  piece_taken (Ok (Some end)) p = λ first start read t. (
    p.0 ∙ ap (λ l. l ++ piece) t.taken,
    p.1,
    subst (λ S. EndsRow S new.first.text.items end) t.separator p.2,
  )
  piece_taken (Err f) p = λ first start read t. subst (λ l. StopsText first.separator (l ++ piece) f) t.taken
      (subst (λ S. StopsText S (taken_by old.first ++ piece) f) t.separator p)

-- ---- the run

-- a fault for which the first row can't be taken is one for which the heading is not read
stops : {I : Type 0} (S : Separator) (remaining : I → Option (List ℕ)) (before after : Device I) (reads : ℕ) (bytes
    : List ℕ) (f : ToolFault) → StopsText S bytes f → StopsHeading S remaining before after reads bytes f
stops S remaining before after reads bytes f (inl memory) = rw memory tt
stops S remaining before after reads bytes f (inr (inl wide)) = rw wide.0 wide.1
stops S remaining before after reads bytes f (inr (inr long)) = rw long.0 (of_long S long.1)
  where
    of_long : (T : Separator) → HasLongHeading T bytes → StopsHeading T remaining before after reads bytes (long_fault T)
    of_long separators.Tab long = (refl, long)
    of_long (separators.Delimiter delimiter) long = inr (refl, long)

-- the column with a name was looked for in a heading, of which `r` says how it was read
module _ {I : Type 0} (S : Separator) (name : List ℕ) (remaining : I → Option (List ℕ)) (before after : Device I) (state : FirstRow) where
  -- if the heading was not read, the search ended by the same fault
  pub finds_no_heading : (f : ToolFault) → ReadsHeading S remaining before after state (Err f)
      → FindsColumn S name remaining before after (Err (refusals.Heading f))
  finds_no_heading f r = record {
    read = r.read;
    reads = r.reads;
    consumes = r.consumes;
    calls = r.calls;
    bounded = r.bounded;
    ends = r.ends;
    read_rises = λ rises. let is = r.read_rises rises in let named : f ≡ faults.Read = cc in
        ap (λ (g : ToolFault). Err (refusals.Heading g)) named;
  }

  -- if a heading with these names was read, whose first row has the length `end`, the search did what the contract says
  -- once it ended so
  finds : (end : ℕ) (names : List (List ℕ)) (result : Result FoundColumn ColumnFault)
      (r : ReadsHeading S remaining before after state (Ok end))
      → EndsFinding S name remaining before after r.reads r.read result → FindsColumn S name remaining before after result
  finds end names result r ends =
      record {
        read = r.read;
        reads = r.reads;
        consumes = r.consumes;
        calls = r.calls;
        bounded = r.bounded;
        ends = ends;
        read_rises = λ rises. let bad = r.read_rises rises in cc;
      }

  -- so it did if it found no column, for the fault `e`
  pub finds_fault : (end : ℕ) (names : List (List ℕ)) (e : ColumnFault)
      → ReadsHeading S remaining before after state (Ok end) → AreNamesIn S (heading_in state.text.items end) names
      → PicksColumn name names (Err e)
      → FindsColumn S name remaining before after (Err e)
  finds_fault end names (refusals.Name said) r are picks = finds end names _ r
      (record {
        heading = heading_in state.text.items end;
        known = r.ends.2;
        names = names;
        are_names = are;
        holds = picks;
      })
  finds_fault end names (refusals.Heading f) r are picks = rw picks (finds end names _ r tt)

  -- so it did if it found the column with this number, and `front` is all that was read
  pub finds_column : (end : ℕ) (names : List (List ℕ)) (found : FoundColumn)
      → (r : ReadsHeading S remaining before after state (Ok end))
      → AreNamesIn S (heading_in state.text.items end) names → IsOnly name names found.number
      → found.front.items ≡ taken_by state → FindsColumn S name remaining before after (Ok found)
  finds_column end names found r are only front = finds end names _ r (
    front ∙ r.ends.0,
    record {
      heading = heading_in state.text.items end;
      known = r.ends.2;
      names = names;
      are_names = are;
      holds = only;
    },
  )

-- a run that read a heading, with its state after it
module _ {I : Type 0} (S : Separator) (remaining : I → Option (List ℕ)) (before after : Device I) (state : Heading) where
  -- what is known of the run, by its result `r`
  abbrev Runs : Result ℕ ToolFault → Type 0
  Runs r = RunsPieces {I = I} {O = Unit {0}} {P = Heading} {A = ℕ} (λ start now read here. IsTaken S read here)
      (λ start now read here end. StopsPieces S read here.first end)
      (λ start now read here end. FinishesText S read here.first end) remaining before after tt tt state r

  -- if the reader had no more bytes, and those that were read ended with the result, the reading of the heading did
  finished : (reads : ℕ) (read : List ℕ) (r : Result ℕ ToolFault) → IsAtEnd (remaining (inner_of after))
      → FinishesText S read state.first r → EndsReading S remaining before after state.first reads read r
  finished reads read (Ok end) at_end f = elim f.3 [
    | inl e ↦ (
      f.0,
      within S state.first.text.items end e,
      inr (at_end, heading_at_end S read state.first.mark.items state.first.text.items end f.1 f.2 e),
    )
    | inr last ↦ (
      f.0,
      omega (arith, last.0),
      inr (at_end, rw last.0 (heading_last S read state.first.mark.items state.first.text.items f.1 f.2 last.1)),
    )
  ]
  finished reads read (Err f) at_end (inl quotes) = rw quotes.0 (inl (refl, at_end, quotes.1))
  finished reads read (Err f) at_end (inr stop) = stops S remaining before after reads read f stop

  -- if a piece ended the run with the result, the reading of the heading ended with it
  stopped : (reads : ℕ) (read : List ℕ) (r : Result ℕ ToolFault) → StopsPieces S read state.first r
      → EndsReading S remaining before after state.first reads read r
  stopped reads read (Ok end) p = (
    p.0,
    within S state.first.text.items end p.2,
    inl (λ more. subst (λ l. HasHeading S (l ++ more) (heading_in state.first.text.items end)) p.0
        (heading_ended S (taken_by state.first) state.first.mark.items state.first.text.items more end (p.1.split more)
        (p.1.narrow more) p.2)),
  )
  stopped reads read (Err f) p = stops S remaining before after reads read f p

  -- the run read the heading, or ended by a fault
  pub reads_heading : (r : Result ℕ ToolFault) → Runs r → ReadsHeading S remaining before after state.first r
  reads_heading r p = record {
    read = p.read;
    reads = p.reads;
    consumes = p.consumes;
    calls = p.calls;
    bounded = p.bounded;
    ends = elim p.ends [
      | inl f ↦ finished p.reads p.read r f.end f.finished
      | inr (inl s) ↦ stopped p.reads p.read r s.stopped
      | inr (inr (inl s)) ↦ rw s.fault s.failed
      | inr (inr (inr (inl s))) ↦ rw s.fault (s.all_made, s.last_gave)
      | inr (inr (inr (inr s))) ↦ rw s.fault tt
    ];
    read_rises = λ rises. elim p.ends [
      | inl f ↦ absurd (omega (arith, rises, f.same))
      | inr (inl s) ↦ absurd (omega (arith, rises, s.same))
      | inr (inr (inl s)) ↦ s.fault
      | inr (inr (inr (inl s))) ↦ absurd (omega (arith, rises, s.same))
      | inr (inr (inr (inr s))) ↦ absurd (omega (arith, rises, s.same))
    ];
  }
