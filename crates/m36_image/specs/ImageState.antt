-- The state of a machine that a bare image describes.
use Rattle.std.specs.Prelude.{ℕ, ◌+◌, ◌*◌, List, [], ◌∷◌, replicate, slice_set, Result, Ok}
use Rattle.m36_word.specs.declared.pair.Pair.{Pair}
use Rattle.m36_text.specs.Results.{and_then}
use Rattle.m36_desc.specs.Descriptors.{dbr_of}
use Rattle.m36_model.specs.Fields.{PprFields}
use Rattle.m36_model.specs.Modification.{no_ptr}
use Rattle.m36_model.specs.Registers.{RegsFields}
use Rattle.m36_model.specs.Results.{no_indicators}
use Rattle.m36_model.specs.Store.{State}
use Rattle.m36_image.specs.declared.refusal.Refusal.{Refusal}
use Rattle.m36_image.specs.PlacedWords.{PlacedWords}
use Rattle.m36_image.specs.BareImage.{Image, image_of}

-- core with these words written from an address on
abbrev pub written_at : List ℕ → ℕ → List ℕ → List ℕ
written_at core address [] = core
written_at core address (word ∷ words) =
    written_at (slice_set core address word) (address + 1) words

-- core with the words of all lines written, in order
abbrev pub written_all : List ℕ → List PlacedWords → List ℕ
written_all core [] = core
written_all core (p ∷ placed) = written_all (written_at core p.first p.words) placed

-- a core of `size` words: every word that no line writes is zero
abbrev pub core_with : ℕ → List PlacedWords → List ℕ
core_with size placed = written_all (replicate size 0) placed

-- the core that an image describes
abbrev pub core_of : Image → List ℕ
core_of image = core_with (1024 * image.frames) image.placed

-- Registers with the words of the descriptor segment base register and the address of the first
-- instruction; all others are zero.
abbrev pub regs_of : Pair → PprFields → RegsFields
regs_of dbr start =
    record {
      a = 0;
      q = 0;
      x = replicate 8 0;
      pr = replicate 8 no_ptr;
      ind = no_indicators;
      ppr = start;
      dbr = dbr_of dbr.even dbr.odd;
    }

-- the state that an image describes
unfoldable pub state_of : Image → State (List ℕ)
state_of image = record { regs = regs_of image.dbr image.start; store = core_of image }

-- the state that this image describes, or the refusal of the file
abbrev pub state_by : Result Image Refusal → Result (State (List ℕ)) Refusal
state_by read = and_then read (λ image. Ok (state_of image))

-- the state that a file describes, or its refusal
unfoldable pub state_of_text : List ℕ → Result (State (List ℕ)) Refusal
state_of_text text = state_by (image_of text)
