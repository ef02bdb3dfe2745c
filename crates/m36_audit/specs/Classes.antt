-- Equal descriptors of several processes: equal ones have the same number, that of one of them.
-- Descriptors are numbered by their segments; those of a process come after those of the processes
-- before it.
use Rattle.std.specs.Prelude.{◌≡◌, ℕ, ◌+◌, ◌*◌, ◌/◌, ◌%◌, ◌^◌, ◌<◌, List, length}
use Rattle.std.specs.Prelude.{◌==◌, cond, slice_get, slice_index, slice_set, Option, Some, None, Ok}
use Rattle.m36_word.specs.Pairs.{number_of}
use Rattle.m36_desc.specs.Fields.{DbrFields}
use Rattle.m36_model.specs.Place.{wrapped_address, sdw_place}

-- the number of descriptors of a process
abbrev pub descriptors_of_process : ℕ
descriptors_of_process = 2 ^ 15

-- the most descriptors of all processes
abbrev pub most_descriptors : ℕ
most_descriptors = 2 ^ 18

-- the two words of a segment's descriptor are in core, and this is their number
pub record IsDescriptorKey (core : List ℕ) (dbr : DbrFields) (seg key : ℕ) : Type 0 where
  pub at : ℕ
  pub found : sdw_place core dbr seg ≡ Ok at
  pub even : ℕ
  pub odd : ℕ
  pub even_is : slice_get core at ≡ Some even
  pub odd_is : slice_get core (wrapped_address (at + 1)) ≡ Some odd
  pub key_is : key ≡ number_of (record { even = even; odd = odd })

-- the words of descriptor i have this number
pub record KeyAt (core : List ℕ) (dbrs : List DbrFields) (i key : ℕ) : Type 0 where
  pub dbr : DbrFields
  pub process : slice_get dbrs (i / descriptors_of_process) ≡ Some dbr
  pub is : IsDescriptorKey core dbr (i % descriptors_of_process) key

-- Each of the first n descriptors that is in core has in `firsts` the number of one of these n with
-- the same words. Descriptors with the same words have the same number.
pub record AreFirstEquals (core : List ℕ) (dbrs : List DbrFields) (n : ℕ) (firsts : List ℕ)
    : Type 0 where
  pub len : length firsts ≡ descriptors_of_process * length dbrs
  pub below : (i : ℕ) → slice_index firsts i < most_descriptors
  pub each : (i key : ℕ) → i < n → KeyAt core dbrs i key
      → KeyAt core dbrs (slice_index firsts i) key
  pub before : (i key : ℕ) → i < n → KeyAt core dbrs i key → slice_index firsts i < n
  pub small : (i key : ℕ) → i < n → (h : KeyAt core dbrs i key) → h.is.odd < 2 ^ 36
  pub same :
      (i j key : ℕ) → i < n → j < n → KeyAt core dbrs i key → KeyAt core dbrs j key
      → slice_index firsts i ≡ slice_index firsts j

-- One more descriptor is recorded: in the map from words to the number of the first descriptor with
-- these words, and in the list of these numbers.
abbrev pub IsKeyRecorded : (ℕ → Option ℕ) → (ℕ → Option ℕ) → List ℕ → List ℕ → ℕ → ℕ → Option ℕ
    → Type 0
IsKeyRecorded old new firsts after key table_number (Some first) =
    ((q : ℕ) → new q ≡ old q) × (after ≡ slice_set firsts table_number first)
IsKeyRecorded old new firsts after key table_number None =
    ((q : ℕ) → new q ≡ cond (key == q) (Some table_number) (old q))
    × (after ≡ slice_set firsts table_number table_number)

-- as `IsKeyRecorded`, for a descriptor that may not be in core
abbrev pub IsDescriptorRecorded :
    (ℕ → Option ℕ) → (ℕ → Option ℕ) → List ℕ → List ℕ → Option ℕ → ℕ → Type 0
IsDescriptorRecorded old new firsts after None table_number =
    ((q : ℕ) → new q ≡ old q) × (after ≡ firsts)
IsDescriptorRecorded old new firsts after (Some key) table_number =
    IsKeyRecorded old new firsts after key table_number (old key)

-- The first n descriptors are recorded, with numbers as in `AreFirstEquals`. The map has the number
-- of each of them by its words, and nothing else.
pub record AreDescriptorsRecorded (core : List ℕ) (dbrs : List DbrFields) (n : ℕ)
    (places : ℕ → Option ℕ)
    (firsts : List ℕ) : Type 0 where
  pub len : length firsts ≡ descriptors_of_process * length dbrs
  pub below : (i : ℕ) → slice_index firsts i < most_descriptors
  pub listed : (i key : ℕ) → i < n → KeyAt core dbrs i key
      → places key ≡ Some (slice_index firsts i)
  pub known : (key f : ℕ) → places key ≡ Some f → KeyAt core dbrs f key
  pub earlier : (key f : ℕ) → places key ≡ Some f → f < n
  pub small : (i key : ℕ) → i < n → (h : KeyAt core dbrs i key) → h.is.odd < 2 ^ 36
