-- Lemmas for `write_objects`: the objects for some lines and for one more are the objects for all. The contract of
-- `run_lines` is on the whole state that answered the lines. From it follows the contract of `write_objects`, which is
-- only on whether a line was refused.
use Rattle.std.proofs.Common.{◌≡◌, ℕ, Bool, true, false, List, [], ◌∷◌, ◌++◌, refl, ◌∙◌, ap, append_assoc}
use Rattle.std.specs.Prelude.{◌||◌, Option, Result, Ok, Err}
use Rattle.lt_jar.specs.Lines.{content_of, lines_of}
use Rattle.lt_jar.specs.declared.devices.Device.{Device}
use Rattle.lt_registry.specs.Parts.{EntryParts}
use Rattle.lt_stream.specs.Lines.{Answered, EndsAs, IsAnsweredToLastFeed, IsBegun, RunsOverLines}
use Rattle.lt_stream.specs.declared.faults.ToolFault.{ToolFault}
use Rattle.lt_stream.specs.declared.faults.ToolFault.TheVariants as faults
use Rattle.lt_answers.specs.Objects.{AppendsObject, IsObjectFor}
use Rattle.lt_answers.specs.Answering.{AppendsLine, AreObjects, text_of}

-- a line is answered once the object for it is appended to `old`, which gives `mid`, and then a line feed (10), which
-- gives `new`; `front` is the first bytes of the line, as many as are looked at
pub line_appended : (R : List EntryParts) (front old mid new : List ℕ) (refused : Bool)
    → AppendsObject R (content_of front) old mid refused → new ≡ mid ++ 10 ∷ [] → AppendsLine R front old new refused
line_appended R front old mid new refused a h = record {
  object = a.line;
  grown = h ∙ ap (λ (l : List ℕ). l ++ 10 ∷ []) a.grown ∙ append_assoc old a.line (10 ∷ []);
  is_object = a.is_object;
}

-- `||` with false on its right changes nothing
or_false : (b : Bool) → b ≡ (b || false)
or_false true = refl
or_false false = refl

-- `||` is associative
or_assoc : (a b c : Bool) → ((a || b) || c) ≡ (a || (b || c))
or_assoc true b c = refl
or_assoc false b c = refl

-- before the first line no byte is written, and no line is refused
pub none_answered : (R : List EntryParts) → AreObjects R [] [] false
none_answered R = (refl, refl)

-- If `bytes` answer `lines`, then they and the object for one line more, with a line feed (10), answer the lines and
-- this one. `before` is whether one of `lines` is refused, and `refused` whether the new one is.
pub objects_more : (R : List EntryParts) (lines : List (List ℕ)) (line bytes object : List ℕ) (before refused : Bool)
    → AreObjects R lines bytes before → IsObjectFor R (text_of line) object refused
    → AreObjects R (lines ++ line ∷ []) (bytes ++ (object ++ 10 ∷ [])) (before || refused)
objects_more R [] line bytes object before refused none is = record {
  object = object;
  is_refused = refused;
  is_object = is;
  more = [];
  others_refused = false;
  others = (refl, refl);
  bytes_are = ap (λ (l : List ℕ). l ++ (object ++ 10 ∷ [])) none.0;
  refused_is = ap (λ (b : Bool). b || refused) none.1 ∙ or_false refused;
}
objects_more R (first ∷ lines) line bytes object before refused owed is = record {
  object = owed.object;
  is_refused = owed.is_refused;
  is_object = owed.is_object;
  more = owed.more ++ (object ++ 10 ∷ []);
  others_refused = owed.others_refused || refused;
  others = objects_more R lines line owed.more object owed.others_refused refused owed.others is;
  bytes_are = ap (λ (l : List ℕ). l ++ (object ++ 10 ∷ [])) owed.bytes_are ∙ append_assoc owed.object (10 ∷ owed.more) (object ++ 10 ∷ []);
  refused_is = ap (λ (b : Bool). b || refused) owed.refused_is ∙ or_assoc owed.is_refused owed.others_refused refused;
}

-- ---- a weaker statement on how lines are answered

-- `Q` says of a value of `A` which lines it has answered by which bytes, and `P` says it of a value of `B`. Where `Q`
-- holds of a value, `P` holds of what `f` gives for it. So what a run does by `Q`, it does by `P`.
module _ {A B : Type 0} (f : A → B) (Q : Answered A) (P : Answered B)
    (weaker : (a : A) (lines : List (List ℕ)) (bytes : List ℕ) → Q a lines bytes → P (f a) lines bytes) where
  -- if what was written is a front of what answers the first lines as `Q` says, it is one as the weaker `P` says
  begun_mapped : (bytes written : List ℕ) → IsBegun Q bytes written → IsBegun P bytes written
  begun_mapped bytes written b = record {
    lines = b.lines;
    others = b.others;
    cut = b.cut;
    answers = f b.answers;
    all = b.all;
    answered = weaker b.answers b.lines b.all b.answered;
    rest = b.rest;
    front = b.front;
  }

  -- if the lines up to the last line feed are answered as `Q` says, they are as the weaker `P` says
  feed_mapped : (bytes written : List ℕ) (a : A) → IsAnsweredToLastFeed Q bytes written a → IsAnsweredToLastFeed P bytes written (f a)
  feed_mapped bytes written a t = record {
    lines = t.lines;
    last = t.last;
    cut = t.cut;
    each_one = t.each_one;
    last_one = t.last_one;
    answered = weaker a t.lines written t.answered;
  }

  -- if a run ended as `Q` says, it did as the weaker `P` says
  ends_mapped : {I O : Type 0} (remaining : I → Option (List ℕ)) (input input' : Device I) (output output' : Device O)
      (reads : ℕ) (read written : List ℕ) (a : A) (result : Result (Unit {0}) ToolFault)
      → EndsAs Q remaining input input' output output' reads read read written a result
      → EndsAs P remaining input input' output output' reads read read written (f a) result
  ends_mapped remaining input input' output output' reads read written a (Ok done) e = record
      { end = e.end; answered = weaker a (lines_of read) written e.answered }
  ends_mapped remaining input input' output output' reads read written a (Err faults.Read) e = record
      { failed = e.failed; owed = feed_mapped read written a e.owed }
  ends_mapped remaining input input' output output' reads read written a (Err faults.TooManyTurns) e =
      record { all_made = e.all_made; gave_bytes = e.gave_bytes; last_gave = e.last_gave; owed = feed_mapped read written a e.owed }
  ends_mapped remaining input input' output output' reads read written a (Err faults.Write) e = e
  ends_mapped remaining input input' output output' reads read written a (Err faults.OutOfMemory) e = e
  ends_mapped remaining input input' output output' reads read written a (Err (faults.BadCsv line)) e = e
  ends_mapped remaining input input' output output' reads read written a (Err (faults.BadTsv line)) e = e
  ends_mapped remaining input input' output output' reads read written a (Err faults.Utf16) e = e

  -- if a run answered its lines as `Q` says, it did as the weaker `P` says; `write_objects` uses it with the `f` that
  -- gives whether a line was refused
  pub run_mapped : {I O : Type 0} (remaining : I → Option (List ℕ)) (contents : O → Option (List ℕ))
      (input input' : Device I) (output output' : Device O) (a : A) (result : Result (Unit {0}) ToolFault)
      → RunsOverLines Q remaining contents input input' output output' a result
      → RunsOverLines P remaining contents input input' output output' (f a) result
  run_mapped remaining contents input input' output output' a result r = record {
    read = r.read;
    written = r.written;
    reads = r.reads;
    consumes = r.consumes;
    appends = r.appends;
    begun = begun_mapped r.read r.written r.begun;
    calls = r.calls;
    bounded = r.bounded;
    ends = ends_mapped remaining input input' output output' r.reads r.read r.written a result r.ends;
    read_rises = r.read_rises;
    write_rises = r.write_rises;
  }
