-- The names of the statuses 0 to 12 and of all faults of the C library, in the order of their numbers from 0.
use Rattle.std.specs.Prelude.{ℕ, List, [], ◌∷◌, codes}

-- the names of the statuses 0 to 12
unfoldable pub status_names : List (List ℕ)
status_names =
    codes "Done" ∷ codes "NotATag" ∷ codes "Invalid" ∷ codes "ReplacementRepeats" ∷ codes "OutOfMemory" ∷
    codes "BufferTooSmall" ∷ codes "Different" ∷ codes "BadFile" ∷ codes "BadRecord" ∷ codes "Rejected" ∷
    codes "NoUpgrade" ∷ codes "NoSuchStep" ∷ codes "WrongEnd" ∷ []

-- the names of the faults 0 to 55: none, then those of a text, a tag, the bytes of a registry, a record, the check, an
-- upgrade, a language range and a header
unfoldable pub fault_names : List (List ℕ)
fault_names =
    codes "None" ∷ codes "TooLong" ∷ codes "EmptySubtag" ∷ codes "BadByte" ∷ codes "LongSubtag" ∷
    codes "BadLanguage" ∷ codes "Misplaced" ∷ codes "Unfinished" ∷ codes "UnknownLanguage" ∷
    codes "UnknownExtlang" ∷ codes "ExtlangPrefix" ∷ codes "TooManyExtlangs" ∷ codes "UnknownScript" ∷
    codes "UnknownRegion" ∷ codes "UnknownVariant" ∷ codes "DuplicateVariant" ∷ codes "DuplicateSingleton" ∷
    codes "BadTransform" ∷ codes "LineTooLong" ∷ codes "NotUtf8" ∷ codes "LeadingContinuation" ∷
    codes "BadLine" ∷ codes "TooManyRecords" ∷ codes "Read" ∷ codes "TooManyTurns" ∷ codes "Failed" ∷
    codes "RepeatedField" ∷ codes "MissingType" ∷ codes "UnknownType" ∷ codes "MissingName" ∷
    codes "BadRange" ∷ codes "BadSubtag" ∷ codes "BadTag" ∷ codes "BadPreferred" ∷ codes "BadPrefix" ∷
    codes "C1" ∷ codes "C2" ∷ codes "C3" ∷ codes "C4" ∷ codes "C5" ∷ codes "C6" ∷ codes "C7" ∷ codes "C8" ∷
    codes "C9" ∷ codes "C10" ∷ codes "C11" ∷ codes "C12" ∷ codes "U1" ∷ codes "U2" ∷ codes "U3" ∷ codes "U4" ∷
    codes "U5" ∷ codes "U6" ∷ codes "BadFirst" ∷ codes "ExtendedRange" ∷
    codes "BadWeight" ∷ []
