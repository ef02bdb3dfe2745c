-- The program that reads processes is a reader.
use Rattle.std.proofs.Common.{ℕ, List, Result, Ok, Err}
use Rattle.m36_procs.specs.ProcsFields.{ProcsFields}
use Rattle.m36_procs.specs.ProcsFile.{procs_of_text}
use Rattle.m36_procs.specs.declared.fault.ProcsCode.{ProcsCode}
use Rattle.m36_program.specs.Program.{May}
use Rattle.m36_program.specs.Reader.{IsReader}
use Rattle.m36_program.specs.Readers.{bad_file, file_bytes}
use Rattle.m36_program.proofs.ReaderLaws.{reader_then, reader_wants, reader_bytes, reader_refuses, reader_done}
use Rattle.cmd_procs.specs.Scheduled.{code_of}
use Rattle.cmd_procs.specs.ProcsProgram.{procs_or_refusal, decode, procs_in_file}

decoded_reader :
    (may : May) (name : List ℕ) (given : Result ProcsFields (ℕ × ProcsCode)) → IsReader {may = may} (procs_or_refusal name given)
decoded_reader may name (Ok p) = reader_done may p
decoded_reader may name (Err f) = reader_refuses may ProcsFields (bad_file name (code_of f.1) f.0)

decode_reader : (may : May) (name bytes : List ℕ) → IsReader {may = may} (decode name bytes)
unfolding decode
decode_reader may name bytes =
    reader_wants (procs_or_refusal name (procs_of_text bytes)) (decoded_reader may name (procs_of_text bytes))

pub procs_reader : (may : May) (name : List ℕ) → IsReader {may = may} (procs_in_file name)
unfolding procs_in_file
procs_reader may name = reader_then (file_bytes name) (decode name) (reader_bytes may name) (decode_reader may name)
