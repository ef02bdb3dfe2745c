-- The program that reads an image is a reader.
use Rattle.std.proofs.Common.{ℕ, List, Result, Ok, Err}
use Rattle.m36_model.specs.Store.{State}
use Rattle.m36_image.specs.ImageState.{state_of_text}
use Rattle.m36_image.specs.declared.refusal.Refusal as refusal
use Rattle.m36_program.specs.Program.{May}
use Rattle.m36_program.specs.Reader.{IsReader}
use Rattle.m36_program.specs.Readers.{bad_file, file_bytes}
use Rattle.m36_program.proofs.ReaderLaws.{reader_then, reader_wants, reader_bytes, reader_refuses, reader_done}
use Rattle.cmd_image.specs.ImageAudit.{code_of}
use Rattle.cmd_image.specs.ImageProgram.{state_or_refusal, decode, image_state}

decoded_reader :
    (may : May) (name : List ℕ) (given : Result (State (List ℕ)) refusal.Refusal)
    → IsReader {may = may} (state_or_refusal name given)
decoded_reader may name (Ok state) = reader_done may state
decoded_reader may name (Err f) = reader_refuses may (State (List ℕ)) (bad_file name (code_of f.code) f.line)

decode_reader : (may : May) (name bytes : List ℕ) → IsReader {may = may} (decode name bytes)
unfolding decode
decode_reader may name bytes =
    reader_wants (state_or_refusal name (state_of_text bytes)) (decoded_reader may name (state_of_text bytes))

pub image_reader : (may : May) (name : List ℕ) → IsReader {may = may} (image_state name)
unfolding image_state
image_reader may name = reader_then (file_bytes name) (decode name) (reader_bytes may name) (decode_reader may name)
