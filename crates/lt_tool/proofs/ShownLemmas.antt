-- For the command `show`: the loop of `show_each`, which writes the blocks of texts one after another, and the plan
-- that `plan_kept` makes of a file. A block is what is written for one text, and `refused` is whether that text is
-- refused.
use Rattle.std.proofs.Common.{◌≡◌, ◌<◌, ◌≤◌, ◌+◌, ◌++◌, ◌∷◌, ◌∙◌, ℕ, Bool, true, false, List, [], ap, append_assoc}
use Rattle.std.proofs.Common.{drop, get_or, inl, inr, length, map, refl, subst, sym, Option, Result, Ok, Err}
use Rattle.std.proofs.lemmas.List.{drop_all, drop_more}
use Rattle.std.specs.Borrow.{Bor}
use Rattle.std.specs.Prelude.{◌||◌}
use Rattle.lt_jar.specs.Records.{Field}
use Rattle.lt_jar.specs.declared.devices.Device.{Device}
use Rattle.lt_tag.specs.Faults.{HasFault, HasTag}
use Rattle.lt_tag.specs.Parts.{TagForm}
use Rattle.lt_tag.specs.declared.faults.TagFault.{TagFault}
use Rattle.lt_registry.specs.Parts.{EntryParts}
use Rattle.lt_check.specs.Conditions.{IsChecked}
use Rattle.lt_canon.specs.Texts.{IsTextRefusal}
use Rattle.lt_canon.specs.declared.refusals.TextRefusal.{TextRefusal}
use Rattle.lt_canon.specs.declared.refusals.TextRefusal.TheVariants as refusals
use Rattle.lt_show.specs.Tables.{shown_byte, table_of}
use Rattle.lt_stream.specs.declared.faults.ToolFault.{ToolFault}
use Rattle.lt_words.specs.declared.commands.Tags.{Tags}
use Rattle.lt_tool.specs.Registries.{HoldsRegistry}
use Rattle.lt_tool.specs.Shown.{EndsBlock, EndsRefused, PlansBy, ShowsAs, WritesBlock, WritesBlocks, with_first}
use Rattle.lt_tool.specs.Streams.{Stream, stream}
use Rattle.lt_tool.specs.declared.plans.Plan.TheVariants as plans

-- ---- one block

-- if a block of which `P` is true was written, and `Q` is true of each such block, a block of which `Q` is true was
-- written
pub block_as : {O : Type 0} (P Q : (block : List ℕ) → (refused : Bool) → Type 0) (output : Stream O)
    (result : Result Bool ToolFault) → ((block : List ℕ) (refused : Bool) → P block refused → Q block refused)
    → WritesBlock P output result → WritesBlock Q output result
block_as P Q output result f (inl none) = inl none
block_as P Q output result f (inr w) = inr (w.0, w.1, f w.0 w.1 w.2, w.3)

-- the block of a text whose tag is refused: the table `head`, the line of the refusal, and an empty line
pub refusal_shown : (R : List EntryParts) (text head : List ℕ) (refusal : TextRefusal) (block : List ℕ)
    (refused : Bool) → IsTextRefusal R text refusal → EndsRefused refusal head block refused
    → EndsBlock R text head block refused
refusal_shown R text head refusal block refused is ends =
    rw ends.3 (ends.0, record { refusal = refusal; is_refusal = is; line_is = ends.1 }, ends.2)

-- a block that is the table of a tag and what ends it is what is shown of the tag's text
pub tag_shown : (R : List EntryParts) (records : List (List Field)) (text : List ℕ) (tag : TagForm) (block : List ℕ)
    (refused : Bool) → HasTag text tag → EndsBlock R text (table_of R records tag) block refused
    → ShowsAs false R records text block refused
tag_shown R records text tag block refused read ends =
    inl (record { tag = tag; read = read; ending = ends.0; ends = ends.1; block_is = ends.2 })

-- a block that is the text itself, the line that says why it is no tag, and an empty line is what is shown of that text
pub fault_shown : (R : List EntryParts) (records : List (List Field)) (text : List ℕ) (fault : TagFault)
    (block : List ℕ) (refused : Bool) → HasFault text fault.kind fault.place
    → EndsRefused (refusals.NotATag fault) (map shown_byte text ++ 10 ∷ []) block refused
    → ShowsAs false R records text block refused
fault_shown R records text fault block refused is ends = inr (record {
  fault = fault;
  is_fault = is;
  line = ends.0;
  line_is = ends.1;
  block_is = ends.2 ∙ append_assoc (map shown_byte text) (10 ∷ []) (ends.0 ++ 10 ∷ []);
  refused_is = ends.3;
})

-- ---- all blocks

-- a flag is not changed by `or` with false
or_none : (b : Bool) → (b || false) ≡ b
or_none true = refl
or_none false = refl

-- three flags give the same, whichever two of them are joined by `or` first
or_assoc : (a b c : Bool) → (a || (b || c)) ≡ ((a || b) || c)
or_assoc true b c = refl
or_assoc false b c = refl

-- if no text before them is refused, what came of several texts stays what it is
first_none : (result : Result Bool ToolFault) → with_first false result ≡ result
first_none (Ok more) = refl
first_none (Err fault) = refl

-- what came of several texts is the same, whether the flags `any` and `refused` of those before them are joined first
-- or one after the other
first_joined : (any refused : Bool) (result : Result Bool ToolFault)
    → with_first any (with_first refused result) ≡ with_first (any || refused) result
first_joined any refused (Ok more) = ap (λ (b : Bool). Ok b) (or_assoc any refused more)
first_joined any refused (Err fault) = refl

-- `Shows` says what is shown of a text, and whether it is refused; `contents` gives the bytes of the output, which was
-- `start` before all writes
module _ {O : Type 0} (contents : O → Option (List ℕ)) (Shows : (text block : List ℕ) → (refused : Bool) → Type 0)
    (start : Device O) where
  -- The blocks of the texts `all` were written, but for those of the texts that are `left`: if these are written from
  -- the output `before` on, all are. `any` is whether one of the texts whose blocks were written is refused.
  abbrev pub HasShown : (all left : List (List ℕ)) → (before : Device O) → (any : Bool) → Type 0
  HasShown all left before any = (after : Device O) (result : Result Bool ToolFault)
      → WritesBlocks Shows left (stream contents before after) result
      → WritesBlocks Shows all (stream contents start after) (with_first any result)

  -- at the start all texts are left
  pub shown_none : (all : List (List ℕ)) → HasShown all all start false
  shown_none all after result w = subst (WritesBlocks Shows all (stream contents start after))
      (sym (first_none result)) w

  -- the block of the next text was written, so that text is no longer left
  shown_next : (all : List (List ℕ)) (text : List ℕ) (texts : List (List ℕ)) (before between : Device O)
      (any refused : Bool) → HasShown all (text ∷ texts) before any
      → WritesBlock (Shows text) (stream contents before between) (Ok refused)
      → HasShown all texts between (any || refused)
  shown_next all text texts before between any refused shown block after result w =
      subst (WritesBlocks Shows all (stream contents start after)) (first_joined any refused result)
      (shown after (with_first refused result) (record {
        between = between;
        first = Ok refused;
        writes = block;
        goes_on = (result, w, refl);
      }))

  -- the block of the next text was not written whole, so the run ended there with its fault
  shown_cut : (all : List (List ℕ)) (text : List ℕ) (texts : List (List ℕ)) (before between : Device O) (any : Bool)
      (fault : ToolFault) → HasShown all (text ∷ texts) before any
      → WritesBlock (Shows text) (stream contents before between) (Err fault)
      → WritesBlocks Shows all (stream contents start between) (Err fault)
  shown_cut all text texts before between any fault shown block =
      shown between (Err fault) (record {
        between = between;
        first = Err fault;
        writes = block;
        goes_on = (refl, refl);
      })

  -- no text is left, so the blocks of all were written, and `any` is whether one of the texts is refused
  shown_whole : (all : List (List ℕ)) (before : Device O) (any : Bool) → HasShown all [] before any
      → WritesBlocks Shows all (stream contents start before) (Ok any)
  shown_whole all before any shown =
      subst (λ (b : Bool). WritesBlocks Shows all (stream contents start before) (Ok b)) (or_none any)
      (shown before (Ok false) (refl, refl))

  -- the texts are those of a list, of which `f` gives the texts; those from its index `i` on are left
  module _ {X : Type 0} (f : X → List ℕ) (texts : List X) (i : ℕ) (text : X) (before between : Device O) (any : Bool)
    where
      -- the texts that are left are the next and those after it
      left_more : i < length texts → text ≡ get_or texts i text
          → map f (drop i texts) ≡ f text ∷ map f (drop (i + 1) texts)
      left_more within is = ap (map f) (drop_more texts i text within ∙ ap (λ (x : X). x ∷ drop (i + 1) texts) (sym is))

      -- the block of the text at `i` was written, so those from the index `i + 1` on are left
      pub shown_more : (refused : Bool) → i < length texts → text ≡ get_or texts i text
          → HasShown (map f texts) (map f (drop i texts)) before any
          → WritesBlock (Shows (f text)) (stream contents before between) (Ok refused)
          → HasShown (map f texts) (map f (drop (i + 1) texts)) between (any || refused)
      shown_more refused within is shown block =
          shown_next (map f texts) (f text) (map f (drop (i + 1) texts)) before between any refused
          (subst (λ (l : List (List ℕ)). HasShown (map f texts) l before any) (left_more within is) shown) block

      -- the block of the text at `i` was not written whole, so the run ended there
      pub shown_stop : (fault : ToolFault) → i < length texts → text ≡ get_or texts i text
          → HasShown (map f texts) (map f (drop i texts)) before any
          → WritesBlock (Shows (f text)) (stream contents before between) (Err fault)
          → WritesBlocks Shows (map f texts) (stream contents start between) (Err fault)
      shown_stop fault within is shown block =
          shown_cut (map f texts) (f text) (map f (drop (i + 1) texts)) before between any fault
          (subst (λ (l : List (List ℕ)). HasShown (map f texts) l before any) (left_more within is) shown) block

  -- the index `i` is past the last text, so all blocks were written
  pub shown_all : {X : Type 0} (f : X → List ℕ) (texts : List X) (i : ℕ) (before : Device O) (any : Bool)
      → length texts ≤ i → HasShown (map f texts) (map f (drop i texts)) before any
      → WritesBlocks Shows (map f texts) (stream contents start before) (Ok any)
  shown_all {X} f texts i before any past shown =
      shown_whole (map f texts) before any (subst (λ (l : List X). HasShown (map f texts) (map f l) before any)
      (drop_all i texts past) shown)

-- ---- the registry and its records

-- tags are to be shown by the entries of a file, which pass the check as the registry `S`, and by its records
pub plans_shown : (tags : Bor Tags) (R S : List EntryParts) (records : List (List Field)) → HoldsRegistry (Ok R) S
    → PlansBy tags.now (Ok (R, records)) (Ok (plans.Show S records tags))
plans_shown tags R S records holds =
    let gave = holds.gave in
    let same : S ≡ R = cc in
    inl (
      subst IsChecked same holds.checked,
      (
        tags,
        refl,
        ap (λ (r : List EntryParts). Ok
            (plans.Show r records tags)) same,
      ),
    )
