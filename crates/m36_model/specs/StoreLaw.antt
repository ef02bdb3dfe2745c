-- What a store has to satisfy for the laws of isolation: three facts, which depend only on its
-- tables.
use Rattle.std.specs.Prelude.{◌≡◌, ℕ, Bool, true, false, ◌&&◌, ◌==◌, if◌then◌else◌, List, [], ◌∷◌}
use Rattle.std.specs.Prelude.{Some, Result, Ok}
use Rattle.m36_desc.specs.Fields.{SdwFields, DbrFields}
use Rattle.m36_model.specs.Act.{RequestKind}
use Rattle.m36_model.specs.Store.{Spot, Core_word, Segment_word, Change, Store, with_part_written}
use Rattle.m36_model.specs.Store.{is_placed}
use Rattle.m36_model.specs.Sight.{content_in}
use Rattle.m36_model.specs.declared.outcome.Refusal.{Refusal}

-- P holds of each element of a list
abbrev pub Each : {A : Type 0} → (A → Type 0) → List A → Type 0
Each P [] = Unit {0}
Each P (x ∷ xs) = P x × Each P xs

-- whether two spots are the same
abbrev pub same_spot : Spot → Spot → Bool
same_spot (Core_word a) (Core_word b) = a == b
same_spot (Core_word a) (Segment_word s w) = false
same_spot (Segment_word s w) (Core_word b) = false
same_spot (Segment_word s w) (Segment_word s' w') = (s == s') && (w == w')

-- the value of the word at a spot after these writes
abbrev pub overlay : List Change → Spot → ℕ → ℕ
overlay [] spot v = v
overlay (p ∷ puts) spot v =
    overlay puts spot (if same_spot p.spot spot then with_part_written p.part v p.value else v)

-- a word of a segment, with its spot by the tables
pub record IsPlacedWord (sdws : ℕ → Result SdwFields Refusal)
    (spots : SdwFields → ℕ → ℕ → Result Spot Refusal) (seg w : ℕ) (spot : Spot) : Type 0 where
  pub sdw : SdwFields
  pub live : sdws seg ≡ Ok sdw
  pub inside : is_placed sdw w ≡ true
  pub found : spots sdw seg w ≡ Ok spot

-- the change is of a word of a segment
pub record IsSegmentChange (sdws : ℕ → Result SdwFields Refusal)
    (spots : SdwFields → ℕ → ℕ → Result Spot Refusal) (p : Change) : Type 0 where
  pub seg : ℕ
  pub w : ℕ
  pub word : IsPlacedWord sdws spots seg w p.spot

-- What holds of a store whose tables satisfy Has, for the spots in Lies: those of all words of
-- segments. Near old new says that new differs from old only by marks.
pub record Lawful {S : Type 0} (o : Store S) (dbr : DbrFields) (Has : S → Type 0)
    (Lies : Spot → Type 0) (Near : S → S → Type 0) : Type 0 where
  -- First: the descriptor, the refusal and the spot of a word depend only on the tables.
  pub sdws : ℕ → Result SdwFields Refusal
  pub spots : SdwFields → ℕ → ℕ → Result Spot Refusal
  pub sdw_is : (s : S) → Has s → (seg : ℕ) → o.sdw s dbr seg ≡ sdws seg
  pub spot_is :
      (s : S) → Has s → (seg w : ℕ) (d : SdwFields) → sdws seg ≡ Ok d → is_placed d w ≡ true
      → o.spot s dbr d seg w ≡ spots d seg w
  pub lies : (seg w : ℕ) (p : Spot) → IsPlacedWord sdws spots seg w p → Lies p
  -- Second: the word at the spot of a word of a segment is its content.
  pub word_is :
      (s : S) → Has s → (seg w : ℕ) (p : Spot) → IsPlacedWord sdws spots seg w p
      → content_in o s dbr seg w ≡ Some (o.word s p)
  -- Different words of segments have different spots.
  pub apart :
      (seg w seg' w' : ℕ) (p p' : Spot) → IsPlacedWord sdws spots seg w p
      → IsPlacedWord sdws spots seg' w' p'
      → same_spot p p' ≡ true → (seg ≡ seg') × (w ≡ w')
  -- Third: marks change the tables only by marks, and change no word of a segment.
  pub marks_tables :
      (s : S) → Has s → (kind : RequestKind) (seg w : ℕ) (p : Spot)
      → IsPlacedWord sdws spots seg w p
      → Has (o.marked s dbr kind seg w)
  pub marks_word :
      (s : S) → Has s → (kind : RequestKind) (seg w : ℕ) (p p' : Spot)
      → IsPlacedWord sdws spots seg w p
      → Lies p' → o.word (o.marked s dbr kind seg w) p' ≡ o.word s p'
  pub marks_near :
      (s : S) → Has s → (kind : RequestKind) (seg w : ℕ) (p : Spot)
      → IsPlacedWord sdws spots seg w p
      → Near s (o.marked s dbr kind seg w)
  pub near_self : (s : S) → Near s s
  pub near_then : (s t u : S) → Near s t → Near t u → Near s u
  -- Writes to words of segments change no table, and no other word.
  pub put_tables :
      (s : S) → Has s → (puts : List Change) → Each (IsSegmentChange sdws spots) puts
      → Has (o.put s puts)
  pub put_word :
      (s : S) → Has s → (puts : List Change) → Each (IsSegmentChange sdws spots) puts → (p : Spot)
      → Lies p
      → o.word (o.put s puts) p ≡ overlay puts p (o.word s p)
