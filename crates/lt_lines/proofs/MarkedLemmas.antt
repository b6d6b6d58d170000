-- Lemmas on a text that may begin with a byte order mark, for `marked` and `runs`: how its bytes are split into the
-- mark and the text after it, that what was written is the mark and then what is owed, also while the first bytes are
-- still kept, and how a piece ends the run.
use Rattle.std.proofs.Common.{◌≡◌, ◌<◌, ◌+◌, ◌++◌, ◌∙◌, ℕ, List, [], length, sym, ap, refl, subst, arith, append-nil}
use Rattle.std.proofs.Common.{length-append, inl, inr}
use Rattle.std.proofs.lemmas.List.{nil_from_length, take_all}
use Rattle.lt_jar.specs.Devices.{failures_of}
use Rattle.lt_jar.specs.declared.devices.Device.{Device}
use Rattle.lt_rows.specs.Marks.{IsWide, MayBeMark, SplitsMark}
use Rattle.lt_rows.proofs.MarkLemmas.{short_mark, short_narrow, short_one_line, short_unmarked, split_more, split_of}
use Rattle.lt_lines.specs.Answering.{IsLongBy, IsPieceStop, IsStop, IsTaken, kept_of, longest_kept, part_kept, place_then}
use Rattle.lt_lines.specs.Marked.{EndsText, HasRoomFor, IsKeptFront, IsTakenAfter, IsTakenText}
use Rattle.lt_lines.specs.Owed.{AfterMark, IsBegunText, MayHaveMark, SplitsText, Terms, ended}
use Rattle.lt_lines.specs.Tallied.{AreTalliesOf, TalliesToLastFeed}
use Rattle.lt_lines.specs.declared.answering.Answering.{Answering}
use Rattle.lt_lines.specs.declared.forms.LineForm.{LineForm}
use Rattle.lt_lines.specs.declared.forms.LineForm.TheVariants as forms
use Rattle.lt_lines.specs.declared.marked.Marked.{Marked}
use Rattle.lt_stream.specs.declared.faults.ToolFault.{ToolFault}
use Rattle.lt_stream.proofs.DeviceLemmas.{failed_from}
use Rattle.lt_lines.proofs.EndLemmas.{owed_to_last_feed, taken_room}
use Rattle.lt_lines.proofs.FormLemmas.{of_none}
use Rattle.lt_lines.proofs.TakenLemmas.{begun_nothing, taken_part}

-- ---- the mark and the text

-- the bytes are their byte order mark, if there is one, and the text after it
pub splits_whole : (form : LineForm) (bytes mark text : List ℕ) → SplitsText form bytes mark text → bytes ≡ mark ++ text
splits_whole forms.Tag bytes mark text s = rw (s.0, s.1) refl
splits_whole (forms.Row row) bytes mark text s = s.whole
splits_whole (forms.Csv row delimiter) bytes mark text s = s.whole

-- where a mark is looked for, the bytes are split into the one that they begin with, if any, and the text after it
pub splits_marked : (form : LineForm) (bytes mark text : List ℕ) → MayHaveMark form → SplitsMark bytes mark text
    → SplitsText form bytes mark text
splits_marked forms.Tag bytes mark text looked s = absurd looked
splits_marked (forms.Row row) bytes mark text looked s = s
splits_marked (forms.Csv row delimiter) bytes mark text looked s = s

-- where no mark is looked for, all bytes are text
pub splits_never : (form : LineForm) (bytes : List ℕ) → (MayHaveMark form → ⊥) → SplitsText form bytes [] bytes
splits_never forms.Tag bytes never = (refl, refl)
splits_never (forms.Row row) bytes never = absurd (never tt)
splits_never (forms.Csv row delimiter) bytes never = absurd (never tt)

-- bytes that tell whether they begin with a mark have the same mark whatever follows them
pub splits_more : (form : LineForm) (bytes mark text more : List ℕ) → (MayBeMark bytes → ⊥)
    → SplitsText form bytes mark text → SplitsText form (bytes ++ more) mark (text ++ more)
splits_more forms.Tag bytes mark text more none s = (s.0, ap (λ (l : List ℕ). l ++ more) s.1)
splits_more (forms.Row row) bytes mark text more none s = split_more bytes mark text more none s
splits_more (forms.Csv row delimiter) bytes mark text more none s = split_more bytes mark text more none s

-- bytes that may be part of a mark are all text as long as nothing follows them
splits_short : (form : LineForm) (bytes : List ℕ) → MayBeMark bytes → SplitsText form bytes [] bytes
splits_short forms.Tag bytes may = (refl, refl)
splits_short (forms.Row row) bytes may = short_unmarked bytes may
splits_short (forms.Csv row delimiter) bytes may = short_unmarked bytes may

-- all bytes are split into a mark, if there is one, and a text
splits_some : (form : LineForm) (bytes : List ℕ) → (mark : List ℕ) × (text : List ℕ) × SplitsText form bytes mark text
splits_some forms.Tag bytes = ([], bytes, (refl, refl))
splits_some (forms.Row row) bytes = split_of bytes
splits_some (forms.Csv row delimiter) bytes = split_of bytes

-- if nothing was written, this is a front of what is owed, whatever the bytes are
pub begun_none : (T : Terms) (bytes : List ℕ) → IsBegunText T bytes []
begun_none T bytes =
    let s = splits_some T.form bytes in
    record { mark = s.0; text = s.1; split = s.2; front = inl (s.0, refl) }

-- ---- what was taken

-- the mark of these bytes, if they have one, was written, and the text after it was taken in
pub record IsAt (T : Terms) (bytes written : List ℕ) (state : Answering) : Type 0 where
  pub mark : List ℕ
  pub text : List ℕ
  pub split : SplitsText T.form bytes mark text
  pub narrow : MayHaveMark T.form → IsWide bytes → ⊥
  pub out : List ℕ
  pub written_is : written ≡ mark ++ out
  pub taken : IsTaken T text out state

-- in a state past the mark, the mark was written, and the text after it was taken in
pub at_after : (T : Terms) (bytes written : List ℕ) (state : Marked) → IsTakenAfter T bytes written state
    → IsAt T bytes written state.answering
at_after T bytes written state a = record {
  mark = a.mark;
  text = a.text;
  split = subst (λ (l : List ℕ). SplitsText T.form l a.mark a.text) (append-nil bytes)
      (subst (λ (l : List ℕ). SplitsText T.form (bytes ++ []) a.mark l) (append-nil a.text) (a.split []));
  narrow = λ looked. subst (λ (l : List ℕ). IsWide l → ⊥) (append-nil bytes) (a.narrow [] looked);
  out = a.out;
  written_is = a.written_is;
  taken = a.taken;
}

-- nothing is kept where nothing was taken
none_kept : (T : Terms) (state : Answering) → IsTaken T [] [] state → state.kept.items ≡ []
none_kept T state t =
    let last : t.last ≡ [] = nil_from_length t.last (omega (arith, ap length t.cut, length-append (ended t.lines) t.last)) in
    t.kept ∙ ap (kept_of T.form) last ∙ (of_none T.form).kept

-- fewer than 3 bytes, which may be part of a mark, are kept whole
part_whole : (form : LineForm) (part : List ℕ) → length part < 3 → part ≡ part_kept form 0 part
part_whole forms.Tag part few = sym (take_all longest_kept part (omega (arith, few)))
part_whole (forms.Row row) part few = refl
part_whole (forms.Csv row delimiter) part few = refl

-- fewer than 3 bytes are not too long
few_short : (form : LineForm) (count : ℕ) → count < 3 → IsLongBy form 0 count → ⊥
few_short forms.Tag count few long = long
few_short (forms.Row row) count few long = omega (arith, few, long)
few_short (forms.Csv row delimiter) count few long = omega (arith, few, long)

-- where the first bytes are kept, there is a state that has taken them in as text without a mark, with the same tallies
at_front : (T : Terms) (bytes written : List ℕ) (state : Marked) → IsKeptFront T bytes written state
    → state.answering.owed.items ≡ [] → (a : Answering) × IsAt T bytes written a × (a.owed.items ≡ [])
    × (a.tallies ≡ state.answering.tallies)
at_front T bytes written state k none =
    let old = state.answering in
    let empty = none_kept T old k.taken in
    let few = short_mark bytes k.may_be in
    let mid : Answering = record {
      kept = state.front;
      place = place_then T.form old.place bytes;
      feeds = old.feeds;
      owed = old.owed;
      counts = old.counts;
      tallies = old.tallies;
      recent = old.recent;
    } in
    let kept : mid.kept.items ≡ old.kept.items ++ part_kept T.form (length old.kept.items) bytes = rw empty
    (k.kept ∙ part_whole T.form bytes few) in (
      mid,
      record {
        mark = [];
        text = bytes;
        split = splits_short T.form bytes k.may_be;
        narrow = λ looked. short_narrow bytes k.may_be;
        out = [];
        written_is = k.nothing;
        taken = taken_part T [] [] bytes old mid k.taken (short_one_line bytes k.may_be)
            (λ long. few_short T.form (length bytes) few (rw empty at long)) kept refl refl refl refl refl refl;
      },
      none,
      refl,
    )

-- past the mark, and where the first bytes are kept, there is a state that has taken in the text after the mark, with
-- the same tallies
pub at_text : (T : Terms) (bytes written : List ℕ) (state : Marked) → IsTakenText T bytes written state
    → state.answering.owed.items ≡ [] → (a : Answering) × IsAt T bytes written a × (a.owed.items ≡ [])
    × (a.tallies ≡ state.answering.tallies)
at_text T bytes written state (inl a) none = (state.answering, at_after T bytes written state a, none, refl)
at_text T bytes written state (inr k) none = at_front T bytes written state k none

-- where no answers wait, what is owed up to the last line feed was written
pub text_to_last_feed : (T : Terms) (bytes written : List ℕ) (state : Marked) → IsTakenText T bytes written state
    → state.answering.owed.items ≡ [] → AfterMark T (TalliesToLastFeed T state.answering.tallies) bytes written
text_to_last_feed T bytes written state t none =
    let a = at_text T bytes written state t none in
    record {
      mark = a.1.mark;
      text = a.1.text;
      split = a.1.split;
      narrow = a.1.narrow;
      more = a.1.out;
      written_is = a.1.written_is;
      holds = (
        owed_to_last_feed T a.1.text a.1.out a.0 a.1.taken a.2,
        subst (AreTalliesOf T.form a.1.taken.lines a.1.taken.owed) a.3 a.1.taken.tallied,
      );
    }

-- where no answers wait, what was written is a front of what is owed
pub text_begun : (T : Terms) (bytes written : List ℕ) (state : Marked) → IsTakenText T bytes written state
    → state.answering.owed.items ≡ [] → IsBegunText T bytes written
text_begun T bytes written state t none =
    let a = at_text T bytes written state t none in
    record {
      mark = a.1.mark;
      text = a.1.text;
      split = a.1.split;
      front = inr (
        a.1.out,
        a.1.written_is,
        begun_nothing T a.1.text a.1.out [] a.1.text a.0 a.1.taken
            (sym (append-nil a.1.text)),
      );
    }

-- the counts have room for the kept bytes, fewer than 3, and for a piece of `count` bytes
pub text_room : (T : Terms) (bytes written : List ℕ) (state : Marked) (count : ℕ) → IsTakenText T bytes written state
    → length bytes + count + 3 < 18446744073709551616 → HasRoomFor state count
text_room T bytes written state count (inl a) most =
    let room = taken_room T a.text a.out state.answering a.taken in
    let whole = ap length (splits_whole T.form (bytes ++ []) a.mark (a.text ++ []) (a.split [])) in
    let parts = length-append a.mark (a.text ++ []) in
    record {
      room = omega (arith, room.0, most, ap length a.emptied, whole, parts, length-append bytes [], length-append a.text []);
      feeds = omega (arith, room.2, most, ap length a.emptied, whole, parts, length-append bytes [], length-append a.text []);
      refused = room.1;
    }
text_room T bytes written state count (inr k) most =
    let room = taken_room T [] [] state.answering k.taken in
    let few = short_mark bytes k.may_be in
    record {
      room = omega (arith, room.0, most, ap length k.kept, few);
      feeds = omega (arith, room.2, most, ap length k.kept, few);
      refused = room.1;
    }

-- ---- the ways in which a run ends

-- if a write failed or memory ran out after `between`, and no write had failed from `before` to `between`, then a write
-- failed or memory ran out after `before`
pub stop_from : {W : Type 0} (before between after : Device W) (f : ToolFault)
    → failures_of between ≡ failures_of before → IsStop between after f → IsStop before after f
stop_from before between after f same (inl wrote) = inl (wrote.0, failed_from before between after same wrote.1)
stop_from before between after f same (inr lacks) = inr (lacks.0, lacks.1 ∙ same)

-- If a piece ends the answering of the lines after the mark by the fault `f`, it ends the run over the text by this
-- fault. `out` was written after the mark before the piece, and `wrote` for it; no write had failed from `before` to
-- `between`.
pub piece_stopped : {W : Type 0} (T : Terms) (bytes text out piece wrote mark : List ℕ) (state new : Answering) (before
    between after : Device W) (f : ToolFault) → SplitsText T.form bytes mark (text ++ piece)
    → (MayHaveMark T.form → IsWide bytes → ⊥) → IsTaken T text out state → failures_of between ≡ failures_of before
    → IsPieceStop T piece state new between after wrote f
    → EndsText T before after bytes (mark ++ (out ++ wrote)) new.tallies f
piece_stopped T bytes text out piece wrote mark state new before between after f split narrow taken same (inl long) = inr (inr (
  long.line,
  long.fault,
  long.same ∙ same,
  record {
    mark = mark;
    text = text ++ piece;
    split = split;
    narrow = narrow;
    more = out ++ wrote;
    written_is = refl;
    holds = long.ends text out taken;
  },
))
piece_stopped T bytes text out piece wrote mark state new before between after f split narrow taken same (inr stop) = inl (
  stop_from before between after f same stop.0,
  record { mark = mark; text = text ++ piece; split = split; front = inr (out ++ wrote, refl, stop.1 text out taken) },
)
