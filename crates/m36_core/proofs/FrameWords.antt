-- Words that are written over a frame.
use Rattle.std.proofs.Common.{ℕ, ◌+◌, ◌-◌, ◌*◌, ◌≡◌, ◌<◌, ◌≤◌, List, ◌++◌, length, take, drop, get_or, sym, ap, ◌∙◌, arith, length-append, length-drop}
use Rattle.std.proofs.Math.Seq.{take-length}
use Rattle.std.proofs.lemmas.List.{append-nil, drop-drop, drop_all, length-take-le, get_or-take, get_or-drop, get_or_append_left, get_or-append_right}
use Rattle.m36_core.specs.Frames.{with_frame, IsFrameWritten}
use Rattle.m36_core.specs.Places.{overwritten}

-- the list with 1,024 of its words replaced
abbrev around : List ℕ → ℕ → List ℕ → List ℕ
around core first words = take first core ++ (words ++ drop (first + 1024) core)

length-around : (core words : List ℕ) (first : ℕ) → first + 1024 ≤ length core → length words ≡ 1024 → length (around core first words) ≡ length core
length-around core words first inside count =
    let whole : length (around core first words) ≡ length (take first core) + length (words ++ drop (first + 1024) core) = length-append (take first core) (words ++ drop (first + 1024) core) in
    let rest : length (words ++ drop (first + 1024) core) ≡ length words + length (drop (first + 1024) core) = length-append words (drop (first + 1024) core) in
    let front : length (take first core) ≡ first = length-take-le first core (omega arith) in
    let back : length (drop (first + 1024) core) ≡ length core - (first + 1024) = length-drop (first + 1024) core in
    omega arith

over-around : (core words : List ℕ) (first : ℕ) → first + 1024 ≤ length core → length words ≡ 1024 → overwritten core first words ≡ around core first words
over-around core words first inside count =
    let past : drop (length words) (drop first core) ≡ drop (first + 1024) core = ap (λ (n : ℕ). drop n (drop first core)) count ∙ drop-drop 1024 first core in
    let all = around core first words in
    let size : length all ≡ length core = length-around core words first inside count in
    let none = drop_all (length all) core (omega arith) in
    ap (λ (rest : List ℕ). let xs = take first core ++ (words ++ rest) in take (length core) (xs ++ drop (length xs) core)) past
    ∙ ap (λ (ys : List ℕ). take (length core) (all ++ ys)) none ∙ ap (take (length core)) (append-nil all) ∙ ap (λ (n : ℕ). take n all) (sym size) ∙ take-length all

module _ (core words : List ℕ) (first : ℕ) (inside : first + 1024 ≤ length core) (count : length words ≡ 1024) where
  front : length (take first core) ≡ first
  front = length-take-le first core (omega arith)

  word_inside : (k : ℕ) → k < 1024 → get_or (around core first words) (first + k) 0 ≡ get_or words k 0
  word_inside k h =
      let at : first + k - first ≡ k = omega arith in
      let few : k < length words = omega arith in
      get_or-append_right (take first core) (words ++ drop (first + 1024) core) first (first + k) 0 front (omega arith)
      ∙ ap (λ (i : ℕ). get_or (words ++ drop (first + 1024) core) i 0) at ∙ get_or_append_left words (drop (first + 1024) core) 0 k few

  word_before : (a : ℕ) → a < first → get_or (around core first words) a 0 ≡ get_or core a 0
  word_before a h =
      let lt : a < length (take first core) = rw front h in
      get_or_append_left (take first core) (words ++ drop (first + 1024) core) 0 a lt ∙ get_or-take first core a 0 h

  word_behind : (a : ℕ) → first + 1024 ≤ a → get_or (around core first words) a 0 ≡ get_or core a 0
  word_behind a h =
      let at : (first + 1024) + (a - first - 1024) ≡ a = omega arith in
      get_or-append_right (take first core) (words ++ drop (first + 1024) core) first a 0 front (omega arith)
      ∙ get_or-append_right words (drop (first + 1024) core) 1024 (a - first) 0 count (omega arith)
      ∙ get_or-drop (first + 1024) core (a - first - 1024) 0 ∙ ap (λ (i : ℕ). get_or core i 0) at

pub frame_written : (core words : List ℕ) (f : ℕ) → 1024 * f + 1024 ≤ length core → length words ≡ 1024 → IsFrameWritten core words (with_frame core f words) f
frame_written core words f inside count =
    let e : with_frame core f words ≡ around core (1024 * f) words = over-around core words (1024 * f) inside count in
    record {
      size = ap length e ∙ length-around core words (1024 * f) inside count;
      inside = λ k h. ap (λ (l : List ℕ). get_or l (1024 * f + k) 0) e ∙ word_inside core words (1024 * f) inside count k h;
      before = λ a h. ap (λ (l : List ℕ). get_or l a 0) e ∙ word_before core words (1024 * f) inside count a h;
      behind = λ a h. ap (λ (l : List ℕ). get_or l a 0) e ∙ word_behind core words (1024 * f) inside count a h;
    }
