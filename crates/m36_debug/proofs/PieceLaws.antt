-- Laws of pieces of input that are answered line by line.
use Rattle.std.proofs.Common.{◌≡◌, ◌<◌, ℕ, List, [], ◌∷◌, ◌++◌, length, sym, subst, arith}
use Rattle.m36_outside.specs.declared.sink.Put.TheVariants.{Done}
use Rattle.m36_debug.specs.Putting.{Pending}
use Rattle.m36_text.specs.Lines.{as_line, open_last_line}
use Rattle.m36_debug.specs.declared.machine_relations.LineResult.{LineResult}
use Rattle.m36_debug.specs.declared.machine_relations.LineResult.TheVariants as ends
use Rattle.m36_debug.specs.LinesTaken.{IsLines, IsUnbroken}
use Rattle.m36_debug.specs.Parts.{SessionPart, LineContract}
use Rattle.m36_debug.specs.PieceContract.{AnsweredAll, AnsweredQuit, AnsweredSome, AnsweredCut}
use Rattle.m36_debug.specs.Session.{MachineRelations, Waiting, Over, Starved, SessionPoint, standing}
use Rattle.m36_debug.specs.SessionState.{SessionStateFields}
use Rattle.m36_debug.proofs.LinesLaws.{lines_none, lines_line}
use Rattle.m36_debug.proofs.PartLaws.{part_none, part_on, part_cut}

-- The first lines of a text were answered, and the bytes `left` of it are left.
pub record SoFar {M : Type 0} (o : MachineRelations M) (s : SessionPoint) (m : M) (text left : List ℕ) (sitting : SessionStateFields) (m' : M) (old new : Pending) : Type 0 where
  pub lines : List (List ℕ)
  pub is : IsLines text lines left
  pub part : SessionPart o s m lines (standing sitting Waiting) m' Done old new

pub so_far_start :
    {M : Type 0} (o : MachineRelations M) (sitting : SessionStateFields) (m : M) (text : List ℕ) (now : Pending)
    → SoFar o (standing sitting Waiting) m text text sitting m now now
so_far_start o sitting m text now =
    record { lines = []; is = lines_none text; part = part_none o (standing sitting Waiting) m now }

-- the lines with one more
more_lines :
    {M : Type 0} (o : MachineRelations M) (s : SessionPoint) (m : M) (text begun end behind rest line : List ℕ) (sitting : SessionStateFields) (m1 : M) (old now : Pending)
    → (f : SoFar o s m text (begun ++ rest) sitting m1 old now)
    → IsUnbroken begun → IsUnbroken end → rest ≡ as_line end ++ behind → line ≡ begun ++ end
    → IsLines text (f.lines ++ line ∷ []) behind
more_lines o s m text begun end behind rest line sitting m1 old now f begun_unbroken end_unbroken cut is =
    subst (λ l. IsLines text (f.lines ++ l ∷ []) behind) (sym is)
    (lines_line text begun end behind rest f.lines f.is begun_unbroken end_unbroken cut)

-- one more line was answered, and the session waits for the next
pub so_far_line :
    {M : Type 0} (o : MachineRelations M) (s : SessionPoint) (m : M) (text begun end behind rest line : List ℕ) (sitting sitting' : SessionStateFields) (m1 m2 : M) (old now new : Pending)
    → SoFar o s m text (begun ++ rest) sitting m1 old now
    → IsUnbroken begun → IsUnbroken end → rest ≡ as_line end ++ behind → line ≡ begun ++ end
    → LineContract o ends.Line (standing sitting Waiting) m1 (line ∷ []) sitting' m2 now new
    → SoFar o s m text behind sitting' m2 old new
so_far_line o s m text begun end behind rest line sitting sitting' m1 m2 old now new f begun_unbroken end_unbroken cut is said = record {
  lines = f.lines ++ line ∷ [];
  is = more_lines o s m text begun end behind rest line sitting m1 old now f begun_unbroken end_unbroken cut is;
  part = part_on o s m f.lines (line ∷ []) (standing sitting Waiting) m1 (standing sitting' Waiting) m2 old now new f.part said;
}

-- the line was `quit`
pub so_far_quit :
    {M : Type 0} (o : MachineRelations M) (s : SessionPoint) (m : M) (text begun end behind rest line : List ℕ) (sitting sitting' : SessionStateFields) (m1 m2 : M) (old now new : Pending)
    → SoFar o s m text (begun ++ rest) sitting m1 old now
    → IsUnbroken begun → IsUnbroken end → rest ≡ as_line end ++ behind → line ≡ begun ++ end
    → LineContract o ends.Quit (standing sitting Waiting) m1 (line ∷ []) sitting' m2 now new
    → AnsweredQuit o s m text sitting' m2 old new
so_far_quit o s m text begun end behind rest line sitting sitting' m1 m2 old now new f begun_unbroken end_unbroken cut is said = record {
  lines = f.lines ++ line ∷ [];
  rest = behind;
  is = more_lines o s m text begun end behind rest line sitting m1 old now f begun_unbroken end_unbroken cut is;
  part = part_on o s m f.lines (line ∷ []) (standing sitting Waiting) m1 (standing sitting' Over) m2 old now new f.part said;
}

-- the line ran out of memory
pub so_far_starved :
    {M : Type 0} (o : MachineRelations M) (s : SessionPoint) (m : M) (text begun end behind rest line : List ℕ) (sitting sitting' : SessionStateFields) (m1 m2 : M) (old now new : Pending)
    → SoFar o s m text (begun ++ rest) sitting m1 old now
    → IsUnbroken begun → IsUnbroken end → rest ≡ as_line end ++ behind → line ≡ begun ++ end
    → LineContract o ends.Starved (standing sitting Waiting) m1 (line ∷ []) sitting' m2 now new
    → AnsweredSome o s m text m2 old new
so_far_starved o s m text begun end behind rest line sitting sitting' m1 m2 old now new f begun_unbroken end_unbroken cut is said = record {
  lines = f.lines ++ line ∷ [];
  rest = behind;
  is = more_lines o s m text begun end behind rest line sitting m1 old now f begun_unbroken end_unbroken cut is;
  stands = standing sitting' Starved;
  part = part_on o s m f.lines (line ∷ []) (standing sitting Waiting) m1 (standing sitting' Starved) m2 old now new f.part said;
}

-- what the line says could not be written
pub so_far_cut :
    {M : Type 0} (o : MachineRelations M) (s : SessionPoint) (m : M) (text begun end behind rest line : List ℕ) (sitting sitting' : SessionStateFields) (m1 m2 : M) (old now new : Pending)
    → SoFar o s m text (begun ++ rest) sitting m1 old now
    → IsUnbroken begun → IsUnbroken end → rest ≡ as_line end ++ behind → line ≡ begun ++ end
    → LineContract o ends.Cut (standing sitting Waiting) m1 (line ∷ []) sitting' m2 now new
    → AnsweredCut o s m text m2 old new
so_far_cut o s m text begun end behind rest line sitting sitting' m1 m2 old now new f begun_unbroken end_unbroken cut is said = record {
  lines = f.lines ++ line ∷ [];
  rest = behind;
  is = more_lines o s m text begun end behind rest line sitting m1 old now f begun_unbroken end_unbroken cut is;
  part = part_cut o s m f.lines (line ∷ []) (standing sitting Waiting) m1 m2 old now new f.part said;
}

-- memory ran out for a line that has begun
pub so_far_unkept :
    {M : Type 0} (o : MachineRelations M) (s : SessionPoint) (m : M) (text left : List ℕ) (sitting : SessionStateFields) (m1 : M) (old now : Pending)
    → SoFar o s m text left sitting m1 old now → AnsweredSome o s m text m1 old now
so_far_unkept o s m text left sitting m1 old now f = record {
  lines = f.lines;
  rest = left;
  is = f.is;
  stands = standing sitting Waiting;
  part = f.part;
}

-- what is left is kept
pub so_far_all :
    {M : Type 0} (o : MachineRelations M) (s : SessionPoint) (m : M) (text left kept : List ℕ) (sitting : SessionStateFields) (m1 : M) (old now : Pending)
    → SoFar o s m text left sitting m1 old now → kept ≡ left → IsUnbroken kept
    → AnsweredAll o s m text kept sitting m1 old now
so_far_all o s m text left kept sitting m1 old now f is unbroken = record {
  lines = f.lines;
  is = subst (IsLines text f.lines) (sym is) f.is;
  unbroken = unbroken;
  part = f.part;
}

-- ---- the end of the input

-- no line has begun
pub last_none :
    {M : Type 0} (o : MachineRelations M) (s : SessionStateFields) (m : M) (text : List ℕ) (now : Pending)
    → length text ≡ 0 → SessionPart o (standing s Waiting) m (open_last_line text) (standing s Waiting) m Done now now
last_none o s m [] now none = part_none o (standing s Waiting) m now
last_none o s m (b ∷ text) now none = absurd (omega (arith, none))

-- a line has begun, and it is a line although it has no line feed
pub last_some :
    {M : Type 0} (o : MachineRelations M) (end : LineResult) (s : SessionStateFields) (m : M) (text : List ℕ) (sitting : SessionStateFields) (m' : M) (old new : Pending)
    → 0 < length text → LineContract o end (standing s Waiting) m (text ∷ []) sitting m' old new
    → LineContract o end (standing s Waiting) m (open_last_line text) sitting m' old new
last_some o end s m [] sitting m' old new some said = absurd (omega arith)
last_some o end s m (b ∷ text) sitting m' old new some said = said

pub ruleset last = (last_none, last_some)
