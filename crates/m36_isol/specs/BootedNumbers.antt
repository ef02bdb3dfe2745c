-- The numbers of the layout of a booted core, from its parts.
use Rattle.std.specs.Prelude.{◌≡◌, ℕ, ◌+◌, ◌*◌, true, false}
use Rattle.m36_desc.specs.Fields.{PtwFields}
use Rattle.m36_desc.specs.Descriptors.{ptw_word}
use Rattle.m36_model.specs.Faults.{missing_page_code}
use Rattle.m36_model.specs.BootedCore.{descriptor_words, booted_dbr, booted_segments, table_at}
use Rattle.m36_model.specs.BootedCore.{wired_frames, resident_ptw, absent_ptw}

-- the fields of the PTW of a page in a frame; its address counts blocks of 64 words
abbrev pub resident_fields : ℕ → PtwFields
resident_fields frame =
    record { addr = 16 * frame; used = false; modified = false; f = true; fc = 0 }

-- the fields of the PTW of a page that is in no frame: it names its directed fault
abbrev pub absent_fields : PtwFields
absent_fields =
    record { addr = 0; used = false; modified = false; f = false; fc = missing_page_code }

-- The descriptor segment has the words within its bound, which counts blocks of 16 words. It and
-- the page tables fill the wired frames. The PTWs are the words of these fields.
pub record BootedNumbersLaw : Type 0 where
  pub descriptors : descriptor_words ≡ 16 * (booted_dbr.bnd + 1)
  pub wired : 1024 * wired_frames ≡ table_at booted_segments
  pub resident : (frame : ℕ) → resident_ptw frame ≡ ptw_word (resident_fields frame)
  pub absent : absent_ptw ≡ ptw_word absent_fields
