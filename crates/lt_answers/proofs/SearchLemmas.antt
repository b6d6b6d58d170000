-- Lemmas for `look_up_line` and `serve_line`, which search one line of a reader: a run over its text is such a search,
-- whether it found a line or none, or ended by a fault.
use Rattle.std.proofs.Common.{◌≡◌, ℕ, List, Bool, true, false, inl, inr, Option, Result, Ok, Err, ap, refl, sym}
use Rattle.lt_jar.specs.declared.devices.Device.{Device}
use Rattle.lt_stream.specs.Lines.{Answered}
use Rattle.lt_stream.specs.Texts.{RunsOverText}
use Rattle.lt_stream.specs.declared.faults.ToolFault.{ToolFault}
use Rattle.lt_stream.specs.declared.faults.ToolFault.TheVariants as faults
use Rattle.lt_answers.specs.Closest.{in_memory}
use Rattle.lt_answers.specs.Searching.{EndsAs, Finding, SearchesLines}
use Rattle.lt_answers.proofs.SelectingLemmas.{ended_by, never}

-- whether a fault is a write that failed
abbrev is_write : ToolFault → Bool
is_write faults.Write = true
is_write f = false

-- what is false is not true
no : false ≡ true → ⊥
no bad = let both : false ≡ true = bad in cc

-- a run over lines, among which one is to be found
module _ {I O A : Type 0} (Finds : Finding) (Q : Answered A) (remaining : I → Option (List ℕ))
    (contents : O → Option (List ℕ)) (input input' : Device I) (output output' : Device O) (answers : A) where
  -- a run that read all lines gives what is found among them; `end` is how it ended, where a write is into memory
  pub searched : (end : Result (Unit {0}) ToolFault) (u : Unit {0}) → in_memory end ≡ Ok u
      → RunsOverText Q remaining contents input input' output output' answers end
      → (found : _) → ((each : List (List ℕ)) (bytes : List ℕ) → Q answers each bytes → Finds each found)
      → SearchesLines Finds remaining input input' (Ok found)
  searched (Ok v) u is r found finds = record {
    read = r.read;
    mark = r.mark;
    text = r.text;
    split = r.split;
    narrow = λ wide. elim (r.narrow wide) [
      | inl bad ↦ absurd (never (Ok v) faults.Utf16 refl bad)
      | inr bad ↦ absurd (never (Ok v) faults.OutOfMemory refl bad)
    ];
    reads = r.reads;
    consumes = r.consumes;
    calls = r.calls;
    bounded = r.bounded;
    ends = (r.ends.end, finds _ r.written r.ends.answered);
    read_rises = λ lt. absurd (never (Ok v) faults.Read refl (r.read_rises lt));
  }
  searched (Err faults.Write) u is r found finds = absurd (never (Ok u) faults.OutOfMemory refl (sym is))
  searched (Err faults.Read) u is r found finds = absurd (never (Ok u) faults.Read refl (sym is))
  searched (Err faults.TooManyTurns) u is r found finds = absurd (never (Ok u) faults.TooManyTurns refl (sym is))
  searched (Err faults.OutOfMemory) u is r found finds = absurd (never (Ok u) faults.OutOfMemory refl (sym is))
  searched (Err (faults.BadCsv line)) u is r found finds = absurd (never (Ok u) (faults.BadCsv line) refl (sym is))
  searched (Err (faults.BadTsv line)) u is r found finds = absurd (never (Ok u) (faults.BadTsv line) refl (sym is))
  searched (Err faults.Utf16) u is r found finds = absurd (never (Ok u) faults.Utf16 refl (sym is))

  -- a run that ended by a fault other than a write that failed is a search that ended by this fault
  stopped : (f g : ToolFault) → f ≡ g → (r : RunsOverText Q remaining contents input input' output output' answers (Err f))
      → EndsAs Finds remaining input input' r.reads r.read r.text (Err f) → SearchesLines Finds remaining input input' (Err g)
  stopped f g same r ends = rw (← same) (record {
    read = r.read;
    mark = r.mark;
    text = r.text;
    split = r.split;
    narrow = λ wide. elim (r.narrow wide) [
      | inl is ↦ inl (ap (λ (e : ToolFault). Err e) (ended_by (Err f) f faults.Utf16 refl is))
      | inr is ↦ inr (ap (λ (e : ToolFault). Err e) (ended_by (Err f) f faults.OutOfMemory refl is))
    ];
    reads = r.reads;
    consumes = r.consumes;
    calls = r.calls;
    bounded = r.bounded;
    ends = ends;
    read_rises = λ lt. ap (λ (e : ToolFault). Err e) (ended_by (Err f) f faults.Read refl (r.read_rises lt));
  })

  -- a run that ended by a write that failed is a search that ended by a lack of memory
  lacking : (g : ToolFault) → faults.OutOfMemory ≡ g
      → RunsOverText Q remaining contents input input' output output' answers (Err faults.Write)
      → SearchesLines Finds remaining input input' (Err g)
  lacking g same r = rw (← same) (record {
    read = r.read;
    mark = r.mark;
    text = r.text;
    split = r.split;
    narrow = λ _. inr refl;
    reads = r.reads;
    consumes = r.consumes;
    calls = r.calls;
    bounded = r.bounded;
    ends = tt;
    read_rises = λ lt.
        let other = ended_by (Err faults.Write) faults.Read faults.Write (r.read_rises lt) refl in
        let bad : false ≡ true = ap is_write other in
        absurd (no bad);
  })

  -- a run that ended by a fault is a search that did; `end` is how the run ended, where a write is into memory
  pub search_ended : (end : Result (Unit {0}) ToolFault) (g : ToolFault) → in_memory end ≡ Err g
      → RunsOverText Q remaining contents input input' output output' answers end → SearchesLines Finds remaining input input' (Err g)
  search_ended (Ok v) g is r = absurd (never (Ok v) g refl is)
  search_ended (Err faults.Write) g is r = lacking g (ended_by (Err faults.OutOfMemory) faults.OutOfMemory g refl is) r
  search_ended (Err faults.Read) g is r =
      stopped faults.Read g (ended_by (Err faults.Read) faults.Read g refl is) r r.ends.failed
  search_ended (Err faults.TooManyTurns) g is r =
      stopped faults.TooManyTurns g (ended_by (Err faults.TooManyTurns) faults.TooManyTurns g refl is) r (r.ends.all_made, r.ends.last_gave)
  search_ended (Err faults.OutOfMemory) g is r =
      stopped faults.OutOfMemory g (ended_by (Err faults.OutOfMemory) faults.OutOfMemory g refl is) r tt
  search_ended (Err (faults.BadCsv line)) g is r = absurd r.ends
  search_ended (Err (faults.BadTsv line)) g is r = absurd r.ends
  search_ended (Err faults.Utf16) g is r =
      stopped faults.Utf16 g (ended_by (Err faults.Utf16) faults.Utf16 g refl is) r r.ends.0
