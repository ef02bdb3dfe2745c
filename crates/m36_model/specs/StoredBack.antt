-- What an instruction stores is read back by an instruction that loads the same words. Multics
-- Processor Manual AL39, "Machine instructions".
use Rattle.std.specs.Prelude.{ℕ, ◌≡◌, ◌^◌, ◌<◌, [], ◌∷◌, map, All, Result, Ok, Err}
use Rattle.m36_desc.specs.Widths.{IsDbr, IsPtr}
use Rattle.m36_desc.specs.Descriptors.{its_of_ptr}
use Rattle.m36_model.specs.Fields.{FinalFields}
use Rattle.m36_model.specs.Registers.{RegsFields}
use Rattle.m36_model.specs.Act.{Left, Right}
use Rattle.m36_model.specs.Store.{with_part_written}
use Rattle.m36_model.specs.Tally.{tally_address, tally_count, tally_delta, tally_word}
use Rattle.m36_model.specs.Results.{OperandFields, EffectFields, AQ, words_only, upper, lower}
use Rattle.m36_model.specs.Results.{operand, value, with_value, words, completes}
use Rattle.m36_model.specs.Pointers.{pointer_raised, store_pointers, load_pointers}
use Rattle.m36_model.specs.Pointers.{control_pointer, store_control}
use Rattle.m36_model.specs.CallReturn.{return_through, return_to}
use Rattle.m36_model.specs.Privileged.{load_dbr, store_dbr}
use Rattle.m36_model.specs.Isolation.{HasPointers}

-- the left half of a word
abbrev pub left_of : ℕ → ℕ
left_of w = upper (words_only (w ∷ []))

-- the right half of a word
abbrev pub right_of : ℕ → ℕ
right_of w = lower (words_only (w ∷ []))

-- the words of an operand are those that an effect gave to be written
abbrev pub HasWritten : OperandFields → Result EffectFields ℕ → Type 0
HasWritten o (Ok x) = o.got ≡ x.put
HasWritten o (Err number) = ⊥

-- A half that is stored is read back, and the other half of the word is kept. A number of 72 bits
-- is read back from two words, and from A and Q, and the fields of a tally word from the word.
-- LDBR, RTCD and LPRI load what SDBR, STCD and SPRI have stored.
pub record StoredIsLoaded : Type 0 where
  pub left : (old v : ℕ) → v < 2 ^ 18 → left_of (with_part_written Left old v) ≡ v
  pub left_stays : (old v : ℕ) → v < 2 ^ 18 → left_of (with_part_written Right old v) ≡ left_of old
  pub right : (old v : ℕ) → v < 2 ^ 18 → right_of (with_part_written Right old v) ≡ v
  pub right_stays : (old v : ℕ) → right_of (with_part_written Left old v) ≡ right_of old
  pub pair_back : (v : ℕ) → operand AQ (words_only (words AQ v)) ≡ v
  pub number_back : (v : ℕ) (g : RegsFields) → value AQ (with_value AQ v g) ≡ v
  pub address :
      (a t d : ℕ) → a < 2 ^ 18 → t < 2 ^ 12 → d < 2 ^ 6 → tally_address (tally_word a t d) ≡ a
  pub count : (a t d : ℕ) → t < 2 ^ 12 → d < 2 ^ 6 → tally_count (tally_word a t d) ≡ t
  pub delta : (a t d : ℕ) → d < 2 ^ 6 → tally_delta (tally_word a t d) ≡ d
  pub dbr :
      (g h : RegsFields) (o : OperandFields) → IsDbr g.dbr → HasWritten o (store_dbr g)
      → load_dbr o h ≡ completes (record h { dbr = g.dbr })
  pub control :
      (g h : RegsFields) (f : FinalFields) (o : OperandFields) → g.ppr.psr < 2 ^ 15
      → g.ppr.prr < 2 ^ 3 → HasWritten o (store_control g)
      → return_to f o h ≡ return_through (its_of_ptr (control_pointer g)) f o h
  pub pointers :
      (g h : RegsFields) (f : FinalFields) (o : OperandFields) → HasPointers g → All IsPtr g.pr
      → HasWritten o (store_pointers g)
      → load_pointers h f o
      ≡ completes (record h { pr = map (λ p. pointer_raised p f.at.ring o.ring) g.pr })
